-- A line's text is read back.
use Rattle.std.proofs.Common.{◌≡◌, ℕ, ◌+◌, ◌-◌, Bool, true, false, not, cond, eqb, List, [], ◌∷◌, ◌++◌, Result, Ok, Err, length, get_or, take, reverse, refl, sym, ap, subst, ◌∙◌, arith, append_assoc, append-nil, length-append}
use Rattle.std.specs.Prelude.{codes}
use Rattle.std.specs.Char.{is_ascii_whitespace}
use Rattle.std.specs.List.{list_all, join_with_byte, position_or_len, prefix_len, suffix_len}
use Rattle.std.specs.Fmt.{decimal}
use Rattle.std.specs.Str.{bytes_eq}
use Rattle.std.proofs.Math.Seq.{take-length}
use Rattle.std.proofs.lemmas.Bool.{false≢true, and_parts}
use Rattle.std.proofs.lemmas.Bool.Decides.{nat_tests}
use Rattle.std.proofs.lemmas.List.{get_or_push, reverse-append, take_at}
use Rattle.std.proofs.lemmas.List.Folds.{list_all-append}
use Rattle.std.proofs.lemmas.Slice.Eq.{bytes_eq-Decides}
use Rattle.hm_protocol.specs.declared.events.Traced.{Traced}
use Rattle.hm_report.specs.Words.{actor_text}
use Rattle.hm_script.specs.Spelling.{line}
use Rattle.hm_script.specs.Splitting.{split}
use Rattle.hm_script.proofs.LinesAgain.{split-join}
use Rattle.hm_script.proofs.Readers.{numbers}
use Rattle.hm_script.proofs.Steps.{done, is_plain, ok_is}
use Rattle.hm_script.specs.Gives.{◌>>=◌}
use Rattle.hm_script.specs.declared.reason.Reason.{Reason}
use Rattle.hm_trace.specs.Fits.{Fits64, FitsLine, FitsTraced}
use Rattle.hm_trace.specs.Lines.{before_comment, is_ended, line_at, line_text, lost_at, numbered_at, text_of, told_by, trimmed, words_at}
use Rattle.hm_trace.specs.Spelling.{event_words, recorded_words}
use Rattle.hm_trace.specs.declared.line.TraceLine.{TraceLine}
use Rattle.hm_trace.proofs.EventsAgain.{event-again, event-words, named-again}
use Rattle.hm_trace.proofs.NamesAgain.{names_told, names_words}
use Rattle.hm_trace.proofs.WordsAgain.{actor_words, decimal_words, is_word, is_word_byte, lettered_again, not_numeral}

-- ---- bytes

-- a byte of a line's text: of a word, or a space
abbrev is_text_byte : ℕ → Bool
is_text_byte b = not (eqb b 35)

-- the last byte is one of a word
abbrev ends_in_word : List ℕ → Bool
ends_in_word [] = false
ends_in_word (b ∷ []) = is_word_byte b
ends_in_word (b ∷ c ∷ t) = ends_in_word (c ∷ t)

word_text_byte : (b : ℕ) → is_word_byte b ≡ true → is_text_byte b ≡ true
word_text_byte b h = grind (arith, nat_tests)

word_plain : (b : ℕ) → is_word_byte b ≡ true → is_plain b ≡ true
word_plain b h = (and_parts (is_plain b) (not (eqb b 35)) h).0

bytes_text : (w : List ℕ) → list_all is_word_byte w ≡ true → list_all is_text_byte w ≡ true
bytes_text [] h = refl
bytes_text (b ∷ w) h =
    let parts = and_parts (is_word_byte b) (list_all is_word_byte w) h in
    rw (word_text_byte b parts.0, bytes_text w parts.1) refl

bytes_plain : (w : List ℕ) → list_all is_word_byte w ≡ true → list_all is_plain w ≡ true
bytes_plain [] h = refl
bytes_plain (b ∷ w) h =
    let parts = and_parts (is_word_byte b) (list_all is_word_byte w) h in
    rw (word_plain b parts.0, bytes_plain w parts.1) refl

bytes_of : (w : List ℕ) → is_word w ≡ true → list_all is_word_byte w ≡ true
bytes_of [] h = refl
bytes_of (b ∷ w) h = h

bytes_end : (b : ℕ) (w : List ℕ) → list_all is_word_byte (b ∷ w) ≡ true → ends_in_word (b ∷ w) ≡ true
bytes_end b [] h = (and_parts (is_word_byte b) true h).0
bytes_end b (c ∷ w) h = bytes_end c w (and_parts (is_word_byte b) (list_all is_word_byte (c ∷ w)) h).1

word_ends : (w : List ℕ) → is_word w ≡ true → ends_in_word w ≡ true
word_ends [] h = h
word_ends (b ∷ w) h = bytes_end b w h

-- ---- the words of a line

pub words_plain : (ws : List (List ℕ)) → list_all is_word ws ≡ true → list_all (list_all is_plain) ws ≡ true
words_plain [] h = refl
words_plain (w ∷ ws) h =
    let parts = and_parts (is_word w) (list_all is_word ws) h in
    rw (bytes_plain w (bytes_of w parts.0), words_plain ws parts.1) refl

joined_text : (ws : List (List ℕ)) → list_all is_word ws ≡ true → list_all is_text_byte (join_with_byte 32 ws) ≡ true
joined_text [] h = refl
joined_text (w ∷ []) h = bytes_text w (bytes_of w (and_parts (is_word w) true h).0)
joined_text (w ∷ v ∷ ws) h =
    let parts = and_parts (is_word w) (list_all is_word (v ∷ ws)) h in
    rw (list_all-append is_text_byte w (32 ∷ join_with_byte 32 (v ∷ ws)), bytes_text w (bytes_of w parts.0), joined_text (v ∷ ws) parts.1) refl

-- what ends in a word ends so after more bytes
ends_after : (t u : List ℕ) → ends_in_word u ≡ true → ends_in_word (t ++ u) ≡ true
ends_after [] u h = h
ends_after (b ∷ t) u h = one_more b (t ++ u) (ends_after t u h)
  where
    one_more : (b : ℕ) (u : List ℕ) → ends_in_word u ≡ true → ends_in_word (b ∷ u) ≡ true
    one_more b [] h = absurd cc
    one_more b (c ∷ u) h = h

joined_ends : (w : List ℕ) (ws : List (List ℕ)) → list_all is_word (w ∷ ws) ≡ true → ends_in_word (join_with_byte 32 (w ∷ ws)) ≡ true
joined_ends w [] h = word_ends w (and_parts (is_word w) true h).0
joined_ends w (v ∷ ws) h =
    let rest = joined_ends v ws (and_parts (is_word w) (list_all is_word (v ∷ ws)) h).1 in
    ends_after w (32 ∷ join_with_byte 32 (v ∷ ws)) (ends_after (32 ∷ []) (join_with_byte 32 (v ∷ ws)) rest)

-- ---- a text without a comment, and with its line feed

no_comment : (l : List ℕ) → list_all is_text_byte l ≡ true → position_or_len (λ b. eqb b 35) l ≡ length l
no_comment [] h = refl
no_comment (b ∷ l) h =
    let parts = and_parts (is_text_byte b) (list_all is_text_byte l) h in
    rw (parts.0, no_comment l parts.1) (omega arith)

all_before : (l : List ℕ) → list_all is_text_byte l ≡ true → before_comment l ≡ l
all_before l h = ap (λ (n : ℕ). take n l) (no_comment l h) ∙ take-length l

word_no_space : (b : ℕ) → is_word_byte b ≡ true → is_ascii_whitespace b ≡ false
word_no_space b h = grind (arith, nat_tests)

-- nothing is trimmed of what ends in a word
end_kept : (t : List ℕ) → ends_in_word t ≡ true → (more : List ℕ) → prefix_len is_ascii_whitespace (reverse t ++ more) ≡ 0
end_kept [] h more = absurd cc
end_kept (b ∷ []) h more = rw (word_no_space b h) refl
end_kept (b ∷ c ∷ t) h more =
    ap (λ (z : List ℕ). prefix_len is_ascii_whitespace (z ++ more)) (reverse-append (b ∷ []) (c ∷ t)) ∙ ap (prefix_len is_ascii_whitespace) (append_assoc (reverse (c ∷ t)) (b ∷ []) more) ∙ end_kept (c ∷ t) h (b ∷ more)

feed_trimmed : (t : List ℕ) → ends_in_word t ≡ true → trimmed (t ++ 10 ∷ []) ≡ t
feed_trimmed t h =
    let none : prefix_len is_ascii_whitespace (reverse t) ≡ 0 = subst (λ (z : List ℕ). prefix_len is_ascii_whitespace z ≡ 0) (append-nil (reverse t)) (end_kept t h []) in
    let one : suffix_len is_ascii_whitespace (t ++ 10 ∷ []) ≡ 1 = ap (prefix_len is_ascii_whitespace) (reverse-append t (10 ∷ [])) ∙ ap (λ (n : ℕ). 1 + n) none in
    take_at t (10 ∷ []) _ (omega (arith, one, length-append t (10 ∷ [])))

text-again : (t : List ℕ) → list_all is_text_byte t ≡ true → ends_in_word t ≡ true → text_of (t ++ 10 ∷ []) ≡ t
unfolding text_of
text-again t h ends =
    let plain : list_all is_text_byte (t ++ 10 ∷ []) ≡ true = rw (list_all-append is_text_byte t (10 ∷ []), h) refl in
    ap trimmed (all_before (t ++ 10 ∷ []) plain) ∙ feed_trimmed t ends

ended : (t : List ℕ) → is_ended (t ++ 10 ∷ []) ≡ true
ended t =
    let n : length (t ++ 10 ∷ []) - 1 ≡ length t = omega (arith, length-append t (10 ∷ [])) in
    let feed : get_or (t ++ 10 ∷ []) (length t) 0 ≡ 10 = get_or_push t 10 0 (length t) refl in
    rw (n, feed) refl

-- ---- a line of words

told_words : (t : List ℕ) → ends_in_word t ≡ true → told_by t ≡ words_at (split t)
told_words [] h = absurd (false≢true h)
told_words (b ∷ t) h = refl

of_words : (w : List ℕ) (ws : List (List ℕ)) (x : TraceLine) → list_all is_word (w ∷ ws) ≡ true → line_text x ≡ line (w ∷ ws) → words_at (w ∷ ws) ≡ Ok x → line_at (line (w ∷ ws)) ≡ Ok x
unfolding line_at
of_words w ws x words same tells =
    let t = join_with_byte 32 (w ∷ ws) in
    let ends = joined_ends w ws words in
    let text : text_of (t ++ 10 ∷ []) ≡ t = text-again t (joined_text (w ∷ ws) words) ends in
    let told : told_by t ≡ Ok x = told_words t ends ∙ ap words_at (split-join (w ∷ ws) (omega arith, words_plain (w ∷ ws) words)) ∙ tells in
    let equal : bytes_eq (t ++ 10 ∷ []) (line_text x) ≡ true = (bytes_eq-Decides (t ++ 10 ∷ []) (line_text x)).1 (sym same) in
    rw (ended t, text, told, equal) refl

lost_told : (count missed : ℕ) → Fits64 count → Fits64 missed → words_at (codes "lost" ∷ decimal count ∷ decimal missed ∷ []) ≡ Ok (TraceLine.Lost count missed)
unfolding words_at lost_at
lost_told count missed h k = rw (numbers.again count h, numbers.again missed k) refl

event_told : (n : ℕ) (e : Traced) → Fits64 n → FitsTraced e → words_at (decimal n ∷ actor_text e.thread ∷ event_words e.event) ≡ Ok (TraceLine.Event n e)
unfolding words_at numbered_at
event_told n e h k = rw (not_numeral n 110 (codes "ames") h refl, not_numeral n 108 (codes "ost") h refl, numbers.again n h, lettered_again 97 e.thread k.thread, named-again e.event, event-again e.event k.event) refl

-- the words of an event's line
pub event_are : (n : ℕ) (e : Traced) → Fits64 n → FitsTraced e → list_all is_word (decimal n ∷ actor_text e.thread ∷ event_words e.event) ≡ true
event_are n e h k = rw (decimal_words n h, actor_words e.thread k.thread, event-words e.event k.event) refl

-- the text of what a line tells is read as that
pub line-again : (x : TraceLine) → FitsLine x → line_at (line_text x) ≡ Ok x
unfolding line_at text_of
line-again TraceLine.Blank h = refl
line-again (TraceLine.Names r) h = of_words (codes "names") (recorded_words r) (TraceLine.Names r) (names_words r) refl (names_told r)
line-again (TraceLine.Event n e) h = of_words (decimal n) (actor_text e.thread ∷ event_words e.event) (TraceLine.Event n e) (event_are n e h.0 h.1) refl (event_told n e h.0 h.1)
line-again (TraceLine.Lost count missed) h = of_words (codes "lost") (decimal count ∷ decimal missed ∷ []) (TraceLine.Lost count missed) (rw (decimal_words count h.0, decimal_words missed h.1) refl) refl (lost_told count missed h.0 h.1)

-- what a line tells has the line's text
pub line-takes : (l : List ℕ) (x : TraceLine) → line_at l ≡ Ok x → text_of l ++ 10 ∷ [] ≡ line_text x
unfolding line_at
line-takes l x e = by (is_ended l) (told_by (text_of l)) refl e
  where
    chosen : (y : TraceLine) (b : Bool) → bytes_eq (text_of l ++ 10 ∷ []) (line_text y) ≡ b → cond b (done y) (Err Reason.Shape) ≡ Ok x → text_of l ++ 10 ∷ [] ≡ line_text x
    chosen y true same e = (bytes_eq-Decides (text_of l ++ 10 ∷ []) (line_text y)).0 same ∙ ap line_text (ok_is y x e)
    chosen y false same e = absurd cc

    by : (b : Bool) (r : Result TraceLine Reason) → told_by (text_of l) ≡ r → cond b (r >>= λ y. cond (bytes_eq (text_of l ++ 10 ∷ []) (line_text y)) (done y) (Err Reason.Shape)) (Err Reason.LineEnd) ≡ Ok x → text_of l ++ 10 ∷ [] ≡ line_text x
    by false r tells e = absurd cc
    by true (Err why) tells e = absurd cc
    by true (Ok y) tells e = chosen y (bytes_eq (text_of l ++ 10 ∷ []) (line_text y)) refl e

-- a line that is refused is the text of nothing
pub refused-none : (l : List ℕ) (why : Reason) (x : TraceLine) → FitsLine x → line_at l ≡ Err why → l ≡ line_text x → ⊥
refused-none l why x h refused same = apart (sym refused ∙ ap line_at same ∙ line-again x h)
  where
    bad : Reason → Result TraceLine Reason
    bad r = Err r

    apart : bad why ≡ done x → ⊥
    apart e = cc
