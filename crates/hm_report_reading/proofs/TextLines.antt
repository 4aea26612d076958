-- The lines of a text, and how they begin.
use Rattle.std.proofs.Common.{◌≡◌, ℕ, suc, true, List, [], ◌∷◌, ◌++◌, length, get_or, refl, sym, ap, ◌∙◌, arith, append_assoc, append-nil}
use Rattle.std.specs.Prelude.{codes}
use Rattle.std.specs.Fmt.{decimal}
use Rattle.hm_base.specs.Program.{Program}
use Rattle.hm_history.specs.declared.Entry.{Entry}
use Rattle.hm_report_reading.specs.Entries.{unfinished_text}
use Rattle.hm_report_reading.specs.declared.reader.Unfinished.{Unfinished}
use Rattle.hm_report.specs.Report.{end_line, entry_line, entry_lines, history_line}
use Rattle.hm_report.specs.Words.{actor_text}
use Rattle.hm_report_front.specs.Heads.{lines_behind}
use Rattle.hm_report_front.specs.Parts.{entry_list}
use Rattle.hm_report_front.proofs.FirstByte.{entry_first}
use Rattle.hm_report_front.proofs.TextLines.{lines_line, lines_text, lines_entries}
use Rattle.hm_report_front.proofs.Words.{are_whole, digits_whole}
use Rattle.hm_report_reading.specs.Reports.{unfinished_list}
use Rattle.hm_report_reading.specs.Texts.{text_of, unfinished_texts}
use Rattle.hm_script.specs.Automaton.{lines}
use Rattle.hm_script.specs.Spelling.{text}

lines_unfinished : (us : List Unfinished) (rest : List ℕ) → lines (unfinished_texts us ++ rest) ≡ unfinished_list us ++ lines rest
lines_unfinished [] rest = refl
lines_unfinished (u ∷ us) rest =
    let whole : are_whole (codes "unfinished" ∷ actor_text u.actor ∷ decimal u.index ∷ []) ≡ true = rw (digits_whole 10 u.actor, digits_whole 10 u.index) refl in
    ap lines (append_assoc (unfinished_text u.actor u.index) (unfinished_texts us) rest) ∙ lines_line (codes "unfinished" ∷ actor_text u.actor ∷ decimal u.index ∷ []) (unfinished_texts us ++ rest) whole
    ∙ ap (λ (z : List (List ℕ)). unfinished_text u.actor u.index ∷ z) (lines_unfinished us rest)

pub lines_end : (n : ℕ) → lines (end_line n) ≡ end_line n ∷ []
lines_end n =
    let whole : are_whole (codes "end" ∷ decimal n ∷ []) ≡ true = rw (digits_whole 10 n) refl in
    ap lines (sym (append-nil (end_line n))) ∙ lines_line (codes "end" ∷ decimal n ∷ []) [] whole

-- the lines behind `history`
abbrev pub body : List Entry → List Unfinished → List (List ℕ)
body h us = entry_list 0 h ++ (unfinished_list us ++ end_line (length h) ∷ [])

pub text_lines : (c : Program) (h : List Entry) (us : List Unfinished) → lines (text_of c h us) ≡ lines_behind c (body h us)
text_lines c h us =
    let tail : List ℕ = unfinished_texts us ++ end_line (length h) in
    lines_text c (history_line ++ (entry_lines 0 h ++ tail)) ∙ ap (λ (z : List (List ℕ)). lines (text c) ++ z) (lines_line (codes "history" ∷ []) (entry_lines 0 h ++ tail) refl ∙ ap (λ (z : List (List ℕ)). history_line ∷ z) (lines_entries 0 h tail ∙ ap (λ (z : List (List ℕ)). entry_list 0 h ++ z) (lines_unfinished us (end_line (length h)) ∙ ap (λ (z : List (List ℕ)). unfinished_list us ++ z) (lines_end (length h)))))

pub unfinished_more : (us : List Unfinished) (u : Unfinished) (ls : List (List ℕ)) → unfinished_list us ++ unfinished_text u.actor u.index ∷ ls ≡ unfinished_list (us ++ u ∷ []) ++ ls
unfinished_more [] u ls = refl
unfinished_more (v ∷ us) u ls = ap (λ (z : List (List ℕ)). unfinished_text v.actor v.index ∷ z) (unfinished_more us u ls)

pub unfinished_length : (us : List Unfinished) → length (unfinished_list us) ≡ length us
unfinished_length [] = refl
unfinished_length (u ∷ us) = ap suc (unfinished_length us)

-- ---- lines of different kinds differ in their first byte

pub unfinished_no_entry : (at : ℕ) (e : Entry) (u : Unfinished) → unfinished_text u.actor u.index ≡ entry_line at e → ⊥
unfinished_no_entry at e u same = let first : 117 ≡ get_or (entry_line at e) 0 0 = ap (λ (z : List ℕ). get_or z 0 0) same in omega (arith, entry_first at e)

pub end_no_entry : (at n : ℕ) (e : Entry) → end_line n ≡ entry_line at e → ⊥
end_no_entry at n e same = let first : 101 ≡ get_or (entry_line at e) 0 0 = ap (λ (z : List ℕ). get_or z 0 0) same in omega (arith, entry_first at e)

pub end_no_unfinished : (n : ℕ) (u : Unfinished) → end_line n ≡ unfinished_text u.actor u.index → ⊥
end_no_unfinished n u same = let first : 101 ≡ 117 = ap (λ (z : List ℕ). get_or z 0 0) same in omega (arith, first)
