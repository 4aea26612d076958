-- Marks, and what entries touch.
use Rattle.std.proofs.Common.{◌≡◌, ℕ, ◌+◌, ◌-◌, ◌<◌, ◌≤◌, true, false, List, [], ◌∷◌, ◌++◌, length, get_or, set, Option, Some, None, sym, refl, ap, ◌∙◌, subst, inl, inr, ⊎_elim, arith, get_or-set_other, get_or-set_same, is_none, slice_get, take}
use mathlib.Core.Logic.{dite}
use mathlib.Core.List.{IsPrefix}
use native.Mathlib.Decide.{ℕ_discrete}
use Rattle.std.proofs.lemmas.List.{take-append-le}
use Rattle.hm_history.specs.declared.Entry.{Entry}
use Rattle.hm_turns.specs.Touching.{touch_at, touched_after, last_touched}
use Rattle.hm_turns.specs.declared.known.Marked.{Marked}
use Rattle.hm_turns.specs.Sights.{IsQuiet, Follows, AreMarks}
use Rattle.hm_turns.specs.Ruled.{count_word, mark_word, MarkFits, MarksFit}
use Rattle.hm_turns.proofs.Sums.{prefix_length, get_append}

touch_append : (xs ys : List Entry) (i : ℕ) → i < length xs → touch_at (xs ++ ys) i ≡ touch_at xs i
touch_append xs ys i lt = let before = take-append-le i xs ys (omega arith) in let here = get_append xs ys i lt in λ k. touched_after (before k) (here k)

-- a history with no last entry touches nothing
pub none_touches : (h : List Entry) → slice_get h (length h - 1) ≡ None → last_touched h ≡ None
unfolding touched_after
none_touches h at = ap (touched_after (take (length h - 1) h)) at

pub touch_same : (xs ys : List Entry) (i : ℕ) → IsPrefix xs ys → i < length xs → touch_at ys i ≡ touch_at xs i
touch_same xs ys i p lt = ap (λ (l : List Entry). touch_at l i) (sym p.1) ∙ touch_append xs p.0 i lt

quiet_longer : (xs ys : List Entry) (k n : ℕ) (p : ℕ) → IsPrefix xs ys → n ≤ length xs → IsQuiet xs k n p → IsQuiet ys k n p
quiet_longer xs ys k n p more in_it q i ge lt t = q i ge lt (sym (touch_same xs ys i more (omega arith)) ∙ t)

follows_longer : (xs ys : List Entry) (k : ℕ) (p : ℕ) → IsPrefix xs ys → k ≤ length xs → Follows xs k p → Follows ys k p
follows_longer xs ys k p more in_it f = dite (ℕ_discrete k 0) inl (λ no. ⊎_elim inl (λ t. inr (touch_same xs ys (k - 1) more (omega arith) ∙ t)) f)

pub mark_longer : (xs ys : List Entry) (n k : ℕ) (p : ℕ) → IsPrefix xs ys → n ≤ length xs → MarkFits xs n k p → MarkFits ys n k p
mark_longer xs ys n k p more in_it m = let a = m.inside in let l = prefix_length xs ys more in record {
  inside = omega arith;
  follows = follows_longer xs ys k p more a m.follows;
  quiet = quiet_longer xs ys k n p more in_it m.quiet;
}

pub marks_longer : (xs ys : List Entry) (ms : List Marked) → IsPrefix xs ys → AreMarks xs ms → AreMarks ys ms
marks_longer xs ys [] more a = tt
marks_longer xs ys (m ∷ ms) more a = let one = a.0 in let i = one.inside in let c = one.counted in let l = prefix_length xs ys more in
    (record { inside = omega arith; follows = follows_longer xs ys m.at m.proc more i one.follows; counted = omega arith; quiet = quiet_longer xs ys m.at m.upto m.proc more c one.quiet }, marks_longer xs ys ms more a.1)

pub marks_both : (xs : List Entry) (ms ns : List Marked) → AreMarks xs ms → AreMarks xs ns → AreMarks xs (ms ++ ns)
marks_both xs [] ns a b = b
marks_both xs (m ∷ ms) ns a b = (a.0, marks_both xs ms ns a.1 b)

-- words that have the same count and marks
pub record SameWords (ws ws' : List ℕ) : Type 0 where
  pub count : count_word ws' ≡ count_word ws
  pub marks : (p : ℕ) → mark_word ws' p ≡ mark_word ws p

pub same_words : (ws : List ℕ) → SameWords ws ws
same_words ws = record { count = refl; marks = λ p. refl }

pub turned_words : (ws : List ℕ) (n : ℕ) → SameWords ws (set ws 1 n)
turned_words ws n = record { count = get_or-set_other ws 1 0 n 0 (λ e. omega arith); marks = λ p. get_or-set_other ws 1 (p + 2) n 0 (λ e. omega arith) }

pub marks_stay : (ws ws' : List ℕ) (log : List Entry) (n : ℕ) → SameWords ws ws' → MarksFit log n ws → MarksFit log n ws'
marks_stay ws ws' log n same m p small = subst (λ (k : ℕ). MarkFits log n k p) (sym (same.marks p)) (m p small)

-- the entries are one more, and what the last one touches is known
quiet_one_more : (xs : List Entry) (k n : ℕ) (p : ℕ) → length xs ≡ n + 1 → IsQuiet xs k n p → (last_touched xs ≡ Some p → ⊥) → IsQuiet xs k (length xs) p
quiet_one_more xs k n p long q other i ge lt t = dite (ℕ_discrete i n) (λ here. let back : i ≡ length xs - 1 = omega arith in other (ap (touch_at xs) (sym back) ∙ t)) (λ away. q i ge (omega arith) t)

-- the last entry touches no process
pub marks_untouched : (log : List Entry) (n : ℕ) (ws : List ℕ) → length log ≡ n + 1 → is_none (last_touched log) ≡ true → MarksFit log n ws → MarksFit log (length log) ws
marks_untouched log n ws long untouched m p small = let f = m p small in record {
  inside = f.inside;
  follows = f.follows;
  quiet = quiet_one_more log (mark_word ws p) n p long f.quiet (λ t. let e : true ≡ false = sym untouched ∙ ap is_none t in absurd (let g = e in cc));
}

abbrev proc_or : ℕ → Option ℕ → ℕ
proc_or d None = d
proc_or d (Some p) = p

-- the last entry touches p, whose mark is raised
pub marks_raised : (log : List Entry) (n : ℕ) (ws : List ℕ) (p : ℕ) → length log ≡ n + 1 → 33 < length ws → p < 32 → last_touched log ≡ Some p → MarksFit log n ws
    → MarksFit log (length log) (set ws (p + 2) (length log))
marks_raised log n ws p long wide small touched m q little = let ws' : List ℕ = set ws (p + 2) (length log) in dite (ℕ_discrete q p)
    (λ same. let k : mark_word ws' q ≡ length log = ap (λ (i : ℕ). get_or ws' (i + 2) 0) same ∙ get_or-set_same ws (p + 2) (length log) 0 (omega arith) in
    subst (λ (j : ℕ). MarkFits log (length log) j q) (sym k) record {
      inside = omega arith;
      follows = inr (touched ∙ ap (λ (r : ℕ). Some r) (sym same));
      quiet = λ i ge lt t. absurd (omega arith);
    })
    (λ other. let k : mark_word ws' q ≡ mark_word ws q = get_or-set_other ws (p + 2) (q + 2) (length log) 0 (λ e. other (omega arith)) in let f = m q little in
    subst (λ (j : ℕ). MarkFits log (length log) j q) (sym k) record {
      inside = f.inside;
      follows = f.follows;
      quiet = quiet_one_more log (mark_word ws q) n q long f.quiet (λ t. other (ap (proc_or q) (sym t ∙ touched)));
    })
