-- The line of an entry whose numbers are in range is read as that entry.
use Rattle.std.proofs.Common.{◌≡◌, ℕ, ◌+◌, ◌^◌, ◌<◌, true, List, [], ◌∷◌, ◌++◌, length, Result, Ok, refl, sym, ap, ◌∙◌, arith, append_assoc}
use Rattle.std.specs.Prelude.{codes}
use Rattle.std.specs.List.{list_all, join_with_byte, concat}
use Rattle.std.specs.Fmt.{decimal}
use Rattle.std.proofs.lemmas.List.{append_cancel_right, append-nil}
use Rattle.hm_history.specs.declared.Entry.{Entry}
use Rattle.hm_report.specs.Report.{end_line, entry_line, entry_lines}
use Rattle.hm_report.specs.Words.{actor_text, kind_words}
use Rattle.hm_script.specs.Numerals.{number}
use Rattle.hm_script.specs.Spelling.{line}
use Rattle.hm_script.specs.Splitting.{split, word}
use Rattle.hm_script.specs.declared.reason.Reason.{Reason}
use Rattle.hm_script.specs.Automaton.{lines}
use Rattle.hm_script.proofs.LinesAgain.{split-join}
use Rattle.hm_script.proofs.TextTaken.{concat-lines}
use Rattle.hm_script.proofs.Readers.{numbers}
use Rattle.hm_script.proofs.Steps.{is_plain, ok_is}
use Rattle.hm_report_reading.specs.Entries.{FitsUnfinished, unfinished_text}
use Rattle.hm_report_reading.specs.declared.reader.Unfinished.{Unfinished}
use Rattle.hm_report_reading.specs.Fits.{FitsEntry}
use Rattle.hm_report_reading.specs.Kinds.{entry_at}
use Rattle.hm_report_reading.specs.Words.{numbered}
use Rattle.hm_report_reading.proofs.KindsAgain.{kind-again, kind-plain, named-again}
use Rattle.hm_report_reading.proofs.WordsAgain.{actor_again, actor_plain}

abbrev entry_words : ℕ → Entry → List (List ℕ)
entry_words at e = decimal at ∷ actor_text e.actor ∷ kind_words e.kind

words-again : (at : ℕ) (e : Entry) → FitsEntry e → entry_at (entry_words at e) ≡ Ok e
words-again at e h = rw (actor_again e.actor h.actor, named-again e.kind, kind-again (decimal at) (actor_text e.actor) e.kind h.kind) refl

-- a line of such words is split into them
words_cut : (ws : List (List ℕ)) (text : List ℕ) → 0 < length ws → list_all (list_all is_plain) ws ≡ true → text ++ 10 ∷ [] ≡ line ws → split text ≡ ws
words_cut ws text some plain same = ap split (append_cancel_right text (join_with_byte 32 ws) (10 ∷ []) same) ∙ split-join ws (some, plain)

pub line-again : (at : ℕ) (e : Entry) (text : List ℕ) → at < 2 ^ 64 → FitsEntry e → text ++ 10 ∷ [] ≡ entry_line at e → entry_at (split text) ≡ Ok e
line-again at e text small h same =
    let plain : list_all (list_all is_plain) (entry_words at e) ≡ true = rw (numbers.plain at small, actor_plain e.actor h.actor, kind-plain e.kind h.kind) refl in
    ap entry_at (words_cut (entry_words at e) text (omega arith) plain same) ∙ words-again at e h

pub one_entry : (at : ℕ) (e f : Entry) → at < 2 ^ 64 → FitsEntry e → FitsEntry f → entry_line at e ≡ entry_line at f → e ≡ f
one_entry at e f small he hf same =
    let text = join_with_byte 32 (entry_words at e) in
    ok_is e f (sym (line-again at e text small he refl) ∙ line-again at f text small hf same)

-- where the words of the line are no entry's, the line is none's
pub none_found : (at : ℕ) (line text : List ℕ) (r : Result Entry Reason) → at < 2 ^ 64 → line ≡ text ++ 10 ∷ [] → r ≡ entry_at (split text) → ((x : Entry) → r ≡ Ok x → ⊥) → (e : Entry) → FitsEntry e → line ≡ entry_line at e → ⊥
none_found at line text r small cut read not_ok e h same = not_ok e (read ∙ line-again at e text small h (sym cut ∙ same))

-- where they are an entry's, the line is that one's or none's
pub other_found : (at : ℕ) (line text : List ℕ) (f : Entry) → at < 2 ^ 64 → line ≡ text ++ 10 ∷ [] → Ok f ≡ entry_at (split text) → (line ≡ entry_line at f → ⊥) → (e : Entry) → FitsEntry e → line ≡ entry_line at e → ⊥
other_found at line text f small cut read other e h same =
    other (same ∙ ap (entry_line at) (sym (ok_is f e (read ∙ line-again at e text small h (sym cut ∙ same)))))

-- ---- the lines behind the entries

abbrev unfinished_words : ℕ → ℕ → List (List ℕ)
unfinished_words a index = codes "unfinished" ∷ actor_text a ∷ decimal index ∷ []

unfinished_cut : (a index : ℕ) (l text : List ℕ) → a < 16 → index < 2 ^ 64 → l ≡ text ++ 10 ∷ [] → l ≡ unfinished_text a index → split text ≡ unfinished_words a index
unfinished_cut a index l text few small cut same = words_cut (unfinished_words a index) text (omega arith) (rw (actor_plain a few, numbers.plain index small) refl) (sym cut ∙ same)

-- its actor and its number are read back
pub unfinished_actor : (a index : ℕ) (l text : List ℕ) → a < 16 → index < 2 ^ 64 → l ≡ text ++ 10 ∷ [] → l ≡ unfinished_text a index → numbered 16 (word 1 (split text)) ≡ Ok a
unfinished_actor a index l text few small cut same = ap (λ (ws : List (List ℕ)). numbered 16 (word 1 ws)) (unfinished_cut a index l text few small cut same) ∙ actor_again a few

pub unfinished_index : (a index : ℕ) (l text : List ℕ) → a < 16 → index < 2 ^ 64 → l ≡ text ++ 10 ∷ [] → l ≡ unfinished_text a index → number (word 2 (split text)) ≡ Ok index
unfinished_index a index l text few small cut same = ap (λ (ws : List (List ℕ)). number (word 2 ws)) (unfinished_cut a index l text few small cut same) ∙ numbers.again index small

pub one_unfinished : (u v : Unfinished) → FitsUnfinished u → FitsUnfinished v → unfinished_text u.actor u.index ≡ unfinished_text v.actor v.index → u ≡ v
one_unfinished u v h k same =
    let text = join_with_byte 32 (unfinished_words u.actor u.index) in
    let actor : u.actor ≡ v.actor = ok_is u.actor v.actor (sym (unfinished_actor u.actor u.index (unfinished_text u.actor u.index) text h.actor h.index refl refl) ∙ unfinished_actor v.actor v.index (unfinished_text u.actor u.index) text k.actor k.index refl same) in
    let index : u.index ≡ v.index = ok_is u.index v.index (sym (unfinished_index u.actor u.index (unfinished_text u.actor u.index) text h.actor h.index refl refl) ∙ unfinished_index v.actor v.index (unfinished_text u.actor u.index) text k.actor k.index refl same) in
    ap (λ (a : ℕ). made a u.index) actor ∙ ap (made v.actor) index
  where
    made : ℕ → ℕ → Unfinished
    made a index = record { actor = a; index = index }

pub end_count : (n : ℕ) (l text : List ℕ) → n < 2 ^ 64 → l ≡ text ++ 10 ∷ [] → l ≡ end_line n → number (word 1 (split text)) ≡ Ok n
end_count n l text small cut same = ap (λ (ws : List (List ℕ)). number (word 1 ws)) (words_cut (codes "end" ∷ decimal n ∷ []) text (omega arith) (rw (numbers.plain n small) refl) (sym cut ∙ same)) ∙ numbers.again n small

-- ---- entries behind one another

pub entry_lines-push : (at : ℕ) (es : List Entry) (e : Entry) → entry_lines at (es ++ e ∷ []) ≡ entry_lines at es ++ entry_line (at + length es) e
entry_lines-push at [] e = append-nil (entry_line at e) ∙ ap (λ (k : ℕ). entry_line k e) (omega arith)
entry_lines-push at (x ∷ es) e = ap (λ (z : List ℕ). entry_line at x ++ z) (entry_lines-push (at + 1) es e) ∙ sym (append_assoc (entry_line at x) (entry_lines (at + 1) es) (entry_line (at + 1 + length es) e)) ∙ ap (λ (k : ℕ). (entry_line at x ++ entry_lines (at + 1) es) ++ entry_line k e) (omega arith)

-- one more line of an entry was read
pub read_more : (bytes rest line after : List ℕ) (es : List Entry) (e : Entry) → bytes ≡ entry_lines 0 es ++ rest → lines rest ≡ line ∷ lines after → line ≡ entry_line (length es) e → bytes ≡ entry_lines 0 (es ++ e ∷ []) ++ after
read_more bytes rest line after es e read cut is =
    let split_off : rest ≡ line ++ after = sym (concat-lines rest) ∙ ap concat cut ∙ ap (λ (z : List ℕ). line ++ z) (concat-lines after) in
    read ∙ ap (λ (z : List ℕ). entry_lines 0 es ++ z) (split_off ∙ ap (λ (z : List ℕ). z ++ after) is) ∙ sym (append_assoc (entry_lines 0 es) (entry_line (length es) e) after) ∙ ap (λ (z : List ℕ). z ++ after) (sym (entry_lines-push 0 es e ∙ ap (λ (k : ℕ). entry_lines 0 es ++ entry_line k e) (omega arith)))
