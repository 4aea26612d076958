-- Answers that an operation may end with.
use Rattle.std.proofs.Common.{◌≡◌, ℕ, ◌≤◌, ◌⊎◌, inl, inr, IsTrue, Bool, true, false, ◌||◌, ◌&&◌, nat_lt, Option, Some, None, List, [], ◌∷◌, ◌++◌, length, refl, sym, ap, ◌∙◌, subst, arith, append-nil, append_assoc, codes}
use Rattle.std.specs.Prelude.{⊤}
use Rattle.std.specs.Fmt.{decimal, digits}
use Rattle.std.specs.Str.{bytes_eq}
use Rattle.std.proofs.lemmas.Slice.Eq.{bytes_eq-Decides}
use Rattle.std.proofs.lemmas.Bool.{and_from, or_left, or_right}
use Rattle.std.proofs.lemmas.Bool.Decides.{nat_tests}
use Rattle.hm_base.specs.declared.cause.Cause.{Cause}
use Rattle.hm_base.specs.declared.ops.Op.{Op}
use Rattle.hm_history.specs.declared.Kind.{Kind}
use Rattle.hm_history.specs.declared.Who.{Who}
use Rattle.hm_script.specs.Spelling.{address_text, hex_text}
use Rattle.hm_report.specs.Line.{spaced}
use Rattle.hm_report.specs.Words.{byte_text, cause_number, mirror_text, tail_text}
use Rattle.hm_race_laws.specs.Outcomes.{answer_of}
use Rattle.hm_race_lines.specs.Answers.{answer_text, answer_words}
use Rattle.hm_race_lines.specs.Endings.{access_at, are_numbers, begins_with, fails_by, is_added, is_bytes, is_done, is_evicted, is_failed, is_migrated, is_number, is_refused, is_seen, may_end, says, says_or_refused}
use Rattle.hm_race_lines.proofs.Texts.{begins, byte_digits, bytes, figures, more_numbers, numeral, two_figures}

-- what an entry answers is what the operation may end with
abbrev pub EndsBy : Op → Option Kind → Type 0
EndsBy o None = ⊤
EndsBy o (Some k) = may_end o (answer_text k) ≡ true

pub says_itself : (k : Kind) → tail_text k ≡ [] → says k (answer_text k) ≡ true
says_itself k e = (bytes_eq-Decides (answer_text k) (spaced (answer_words k))).1 (ap (λ t. spaced (answer_words k) ++ t) e ∙ append-nil (spaced (answer_words k)))

-- one word and a number after it
one_number : (w : List ℕ) (n : ℕ) → spaced (w ∷ decimal n ∷ []) ++ [] ≡ (32 ∷ w) ++ (32 ∷ decimal n)
one_number w n = append-nil (spaced (w ∷ decimal n ∷ [])) ∙ ap (λ z. (32 ∷ w) ++ z) (append-nil (32 ∷ decimal n))

counted : (w : List ℕ) (n : ℕ) (head : List ℕ) → (32 ∷ w) ++ (32 ∷ decimal n) ≡ head ++ decimal n → begins_with head is_number (spaced (w ∷ decimal n ∷ []) ++ []) ≡ true
counted w n head e = subst (λ t. begins_with head is_number t ≡ true) (sym (one_number w n ∙ e)) (begins head (decimal n) is_number (numeral 10 n))

pub refused : (why : Cause) → is_refused (answer_text (Kind.Refused why)) ≡ true
refused why = counted (codes "refused") (cause_number why) (codes " refused ") refl

pub migrated : (n : ℕ) → is_migrated (answer_text (Kind.Migrated n)) ≡ true
migrated n = or_left (begins_with (codes " migrated ") is_number (answer_text (Kind.Migrated n))) (is_refused (answer_text (Kind.Migrated n))) (counted (codes "migrated") n (codes " migrated ") refl)

pub evicted : (n : ℕ) → is_evicted (answer_text (Kind.Evicted n)) ≡ true
evicted n = counted (codes "evicted") n (codes " evicted ") refl

seen_text : (m v b : ℕ) → spaced (codes "seen" ∷ mirror_text m ∷ decimal v ∷ byte_text b ∷ []) ≡ (codes " seen m" ++ (decimal m ++ 32 ∷ [])) ++ (decimal v ++ 32 ∷ byte_text b)
seen_text m v b = simp (append_assoc, append-nil)

pub seen : (m v b : ℕ) → is_seen m (answer_text (Kind.Seen m v b)) ≡ true
seen m v b = let t = answer_text (Kind.Seen m v b) in let head = codes " seen m" ++ (decimal m ++ 32 ∷ []) in
    or_left (begins_with head are_numbers t) (is_refused t)
    (subst (λ x. begins_with head are_numbers x ≡ true) (sym (append-nil (spaced (codes "seen" ∷ mirror_text m ∷ decimal v ∷ byte_text b ∷ [])) ∙ seen_text m v b)) (begins head (decimal v ++ 32 ∷ byte_text b) are_numbers (more_numbers (decimal v) (byte_text b) (numeral 10 v) (figures (byte_text b) (byte_digits b)))))

added_text : (m at was now : ℕ) → spaced (codes "added" ∷ mirror_text m ∷ address_text at ∷ byte_text was ∷ byte_text now ∷ []) ≡ (codes " added m" ++ (decimal m ++ codes " 0x")) ++ (digits 16 false at ++ 32 ∷ (byte_text was ++ 32 ∷ byte_text now))
added_text m at was now = simp (append_assoc, append-nil)

pub added : (m at was now : ℕ) → is_added m (answer_text (Kind.Added m at was now)) ≡ true
added m at was now = let head = codes " added m" ++ (decimal m ++ codes " 0x") in
    subst (λ x. begins_with head are_numbers x ≡ true) (sym (append-nil (spaced (codes "added" ∷ mirror_text m ∷ address_text at ∷ byte_text was ∷ byte_text now ∷ [])) ∙ added_text m at was now)) (begins head (digits 16 false at ++ 32 ∷ (byte_text was ++ 32 ∷ byte_text now)) are_numbers
    (more_numbers (digits 16 false at) (byte_text was ++ 32 ∷ byte_text now) (numeral 16 at) (two_figures (byte_text was) (byte_text now) (byte_digits was) (byte_digits now))))

-- an operation with one answer may end with it, and may be refused
pub says_so : (k : Kind) → tail_text k ≡ [] → says_or_refused k (answer_text k) ≡ true
says_so k e = or_left (says k (answer_text k)) (is_refused (answer_text k)) (says_itself k e)

pub refused_so : (k : Kind) (why : Cause) → says_or_refused k (answer_text (Kind.Refused why)) ≡ true
refused_so k why = or_right (says k (answer_text (Kind.Refused why))) (is_refused (answer_text (Kind.Refused why))) (refused why)

pub refused_migration : (why : Cause) → is_migrated (answer_text (Kind.Refused why)) ≡ true
refused_migration why = let t = answer_text (Kind.Refused why) in or_right (begins_with (codes " migrated ") is_number t) (is_refused t) (refused why)

pub refused_snap : (m : ℕ) (why : Cause) → is_seen m (answer_text (Kind.Refused why)) ≡ true
refused_snap m why = let t = answer_text (Kind.Refused why) in or_right (begins_with (codes " seen m" ++ (decimal m ++ 32 ∷ [])) are_numbers t) (is_refused t) (refused why)

abbrev pub of_access : Cause → Bool
of_access Cause.Unmapped = true
of_access Cause.Forbidden = true
of_access Cause.NoFrame = true
of_access Cause.Outside = true
of_access why = false

pub failed : (x : Who) (piece : ℕ × ℕ) (why : Cause) → of_access why ≡ true → is_failed x piece (answer_text (Kind.Failed x piece.0 piece.1 why)) ≡ true
failed x piece why h = by why h
  where
    f : Cause → Cause → Bool
    f why cause = fails_by x piece (answer_text (Kind.Failed x piece.0 piece.1 why)) cause

    itself : (why : Cause) → f why why ≡ true
    itself why = says_itself (Kind.Failed x piece.0 piece.1 why) refl

    by : (why : Cause) → of_access why ≡ true → is_failed x piece (answer_text (Kind.Failed x piece.0 piece.1 why)) ≡ true
    by Cause.Unmapped e = or_left (f Cause.Unmapped Cause.Unmapped) _ (itself Cause.Unmapped)
    by Cause.Forbidden e = or_right (f Cause.Forbidden Cause.Unmapped) _ (or_left (f Cause.Forbidden Cause.Forbidden) _ (itself Cause.Forbidden))
    by Cause.NoFrame e = or_right (f Cause.NoFrame Cause.Unmapped) _ (or_right (f Cause.NoFrame Cause.Forbidden) _ (or_left (f Cause.NoFrame Cause.NoFrame) _ (itself Cause.NoFrame)))
    by Cause.Outside e = or_right (f Cause.Outside Cause.Unmapped) _ (or_right (f Cause.Outside Cause.Forbidden) _ (or_right (f Cause.Outside Cause.NoFrame) _ (itself Cause.Outside)))
    by why e = absurd (cc)

pub loaded : (x : Who) (piece : ℕ × ℕ) (bs : List ℕ) → length bs ≡ piece.1 → is_done false x piece (answer_text (Kind.Loaded x piece.0 bs)) ≡ true
loaded x piece bs e = begins (spaced (answer_words (Kind.Loaded x piece.0 []))) (32 ∷ hex_text bs) (is_bytes piece.1) (bytes piece.1 bs e)

pub stored : (x : Who) (piece : ℕ × ℕ) (bs : List ℕ) → length bs ≡ piece.1 → is_done true x piece (answer_text (Kind.Stored x piece.0 bs)) ≡ true
stored x piece bs e = begins (spaced (answer_words (Kind.Stored x piece.0 []))) (32 ∷ hex_text bs) (is_bytes piece.1) (bytes piece.1 bs e)
