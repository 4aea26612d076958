-- Counts below a number, and what a guard has still to tell.
use Rattle.std.proofs.Common.{◌≡◌, ℕ, zero, suc, ◌+◌, ◌<◌, ◌≤◌, ◌⊎◌, inl, inr, Bool, true, false, ◌&&◌, if◌then◌else◌, is_some, Option, Some, None, List, [], ◌∷◌, refl, sym, ap, ◌∙◌, arith, find, filter, cond}
use Rattle.std.proofs.lemmas.Bool.Decides.{nat_tests}
use Rattle.std.proofs.lemmas.Bool.{cases_eq, and_parts}
use Rattle.hm_base.specs.Pages.{Pages}
use Rattle.hm_base.specs.Program.{Program}
use Rattle.hm_history.specs.Memory.Words.{numbers}
use Rattle.hm_history.specs.Memory.Sequences.{Sequences, Interval, interval_passes, is_above, overlaps, with_seq, interval_proc}
use Rattle.hm_history.specs.Memory.After.{After}
use Rattle.hm_history.specs.Kernel.Due.{to_tell}
use Rattle.hm_history.specs.declared.Kind.{Kind}
use Rattle.hm_history.proofs.Updates.{with_case}
use Rattle.hm_history.proofs.Tests.{true_false}
use Rattle.hm_laws.specs.Past.{Past}
use Rattle.hm_laws.specs.Sound.{Sound}
use Rattle.hm_laws.specs.Allowed.{next}
use Rattle.hm_laws.proofs.State.Invalidations.{Overlapping, overlaps_says}
use Rattle.hm_quiet_laws.proofs.measure.Left.{count_upto, told_left}

-- a test that follows from another counts no more, and less where it does not
step_more : (m n : ℕ) (b d : Bool) → m ≤ n → (b ≡ true → d ≡ true) → m + (if b then 1 else 0) ≤ n + (if d then 1 else 0)
step_more m n true true h f = omega arith
step_more m n true false h f = absurd (true_false false (f refl) refl)
step_more m n false true h f = omega arith
step_more m n false false h f = omega arith

pub count_more : (t w : ℕ → Bool) (n : ℕ) → ((k : ℕ) → k < n → t k ≡ true → w k ≡ true) → count_upto t n ≤ count_upto w n
count_more t w zero f = omega arith
count_more t w (suc n) f = step_more (count_upto t n) (count_upto w n) (t n) (w n) (count_more t w n (λ k l. f k (omega (arith, l)))) (f n (omega arith))

step_less : (m n : ℕ) (b d : Bool) → m < n → (b ≡ true → d ≡ true) → m + (if b then 1 else 0) < n + (if d then 1 else 0)
step_less m n true true h f = omega arith
step_less m n true false h f = absurd (true_false false (f refl) refl)
step_less m n false true h f = omega arith
step_less m n false false h f = omega arith

here_less : (m n : ℕ) (b d : Bool) → m ≤ n → b ≡ false → d ≡ true → m + (if b then 1 else 0) < n + (if d then 1 else 0)
here_less m n true d h e k = absurd (true_false true refl e)
here_less m n false true h e k = omega arith
here_less m n false false h e k = absurd (true_false false k refl)

pub count_less : (t w : ℕ → Bool) (n i : ℕ) → ((k : ℕ) → k < n → t k ≡ true → w k ≡ true) → i < n → t i ≡ false → w i ≡ true → count_upto t n < count_upto w n
count_less t w zero i f l e d = absurd (omega arith)
count_less t w (suc n) i f l e d = by (cases_eq i n) (λ m. count_less t w n i (λ k j. f k (omega (arith, j))) m e d)
  where
    by : (i ≡ n) ⊎ (i ≡ n → ⊥) → (i < n → count_upto t n < count_upto w n) → count_upto t n + (if t n then 1 else 0) < count_upto w n + (if w n then 1 else 0)
    by (inl j) ih = here_less (count_upto t n) (count_upto w n) (t n) (w n) (count_more t w n (λ k m. f k (omega (arith, m)))) (ap t (sym j) ∙ e) (ap w (sym j) ∙ d)
    by (inr ne) ih = step_less (count_upto t n) (count_upto w n) (t n) (w n) (ih (omega arith)) (f n (omega arith))

-- telling changes no overlap
told_overlaps : (p : ℕ) (r : Pages) (x : Option Interval) (q : ℕ) (t : Interval → Bool) → ((y : Interval) → t (record y { seq = q }) ≡ t y) → interval_passes t (with_seq q x) ≡ interval_passes t x
told_overlaps p r None q t h = refl
told_overlaps p r (Some y) q t h = h y

pub overlaps_told : (s : After) (a m : ℕ) (r t : Pages) (q p k : ℕ) → overlaps (next s a (Kind.Told m r q)).sequences p t k ≡ overlaps s.sequences p t k
overlaps_told s a m r t q p k = with_case (λ j x. overlaps (record s.sequences { interval = λ i. x }) p t j ≡ overlaps s.sequences p t j) s.sequences.interval m (with_seq (s.sequences.seq (interval_proc s.sequences m)) (s.sequences.interval m)) k
    (λ e. told_overlaps p t (s.sequences.interval m) (s.sequences.seq (interval_proc s.sequences m)) _ (λ y. refl)) (λ ne. refl)

-- the next to be told overlaps, and is above those that were
found_passes : (t p : ℕ → Bool) (xs : List ℕ) (m : ℕ) → find t (filter p xs) ≡ Some m → (t m ≡ true) × (p m ≡ true)
found_passes t p [] m h = cc
found_passes t p (x ∷ xs) m h = by (p x) refl h (found_passes t p xs m)
  where
    by : (b : Bool) → p x ≡ b → find t (if b then x ∷ filter p xs else filter p xs) ≡ Some m → (find t (filter p xs) ≡ Some m → (t m ≡ true) × (p m ≡ true)) → (t m ≡ true) × (p m ≡ true)
    by true e k ih = at (t x) refl k
      where
        at : (b : Bool) → t x ≡ b → cond b (Some x) (find t (filter p xs)) ≡ Some m → (t m ≡ true) × (p m ≡ true)
        at true d k = grind arith
        at false d k = ih k
    by false e k ih = ih k

tell_says : (s : After) (p : ℕ) (r : Pages) (met : Bool) (told : Option ℕ) (m : ℕ) → to_tell s p r met told ≡ Some m → (met ≡ true) × (is_above told m ≡ true) × (overlaps s.sequences p r m ≡ true)
tell_says s p r true told m h = let f : (is_above told m ≡ true) × (overlaps s.sequences p r m ≡ true) = found_passes (is_above told) (overlaps s.sequences p r) (numbers 0 32) m h in (refl, f.0, f.1)
tell_says s p r false told m h = cc

still_above : (told : Option ℕ) (m k : ℕ) → is_above told m ≡ true → is_above (Some m) k ≡ true → is_above told k ≡ true
still_above None m k h e = refl
still_above (Some j) m k h e = grind (arith, nat_tests)

not_above : (m : ℕ) → is_above (Some m) m ≡ false
not_above m = grind (arith, nat_tests)

two : (x y : Bool) → x ≡ true → y ≡ true → (x && y) ≡ true
two x y h k = grind arith

no_first : (x y : Bool) → x ≡ false → (x && y) ≡ false
no_first x y h = grind arith

-- each telling leaves fewer to tell
pub told_less : (c : Program) (s : After) (t : Past) (a p : ℕ) (r : Pages) (met : Bool) (told : Option ℕ) (m q : ℕ) → Sound c s t → to_tell s p r met told ≡ Some m → told_left (next s a (Kind.Told m r q)) p r met (Some m) < told_left s p r met told
told_less c s t a p r met told m q so h = by met (tell_says s p r met told m h)
  where
    more : (k : ℕ) → is_above told m ≡ true → (is_above (Some m) k && overlaps (next s a (Kind.Told m r q)).sequences p r k) ≡ true → (is_above told k && overlaps s.sequences p r k) ≡ true
    more k ab e = let b : (is_above (Some m) k ≡ true) × (overlaps (next s a (Kind.Told m r q)).sequences p r k ≡ true) = and_parts (is_above (Some m) k) _ e in
        two _ _ (still_above told m k ab b.0) (sym (overlaps_told s a m r r q p k) ∙ b.1)

    few : overlaps s.sequences p r m ≡ true → m < 32
    few o = let v : Overlapping s.sequences p r m = overlaps_says s.sequences p r m o in so.sequences.few m v.interval v.is

    by : (b : Bool) → (b ≡ true) × (is_above told m ≡ true) × (overlaps s.sequences p r m ≡ true) → told_left (next s a (Kind.Told m r q)) p r b (Some m) < told_left s p r b told
    by false f = absurd (true_false false f.0 refl)
    by true f = count_less (λ k. is_above (Some m) k && overlaps (next s a (Kind.Told m r q)).sequences p r k) (λ k. is_above told k && overlaps s.sequences p r k) 32 m (λ k l e. more k f.1 e) (few f.2) (no_first _ _ (not_above m)) (two _ _ f.1 f.2)

-- at the start of a guard no more than the mirrors that came
some_interval : (s : Sequences) (p : ℕ) (r : Pages) (k : ℕ) → overlaps s p r k ≡ true → is_some (s.interval k) ≡ true
some_interval s p r k h = ap is_some (overlaps_says s p r k h).is

pub told_few : (s : After) (p : ℕ) (r : Pages) (met : Bool) (told : Option ℕ) (n : ℕ) → count_upto (λ k. is_some (s.sequences.interval k)) 32 ≤ n → told_left s p r met told ≤ n
told_few s p r true told n f = omega (arith, count_more (λ k. is_above told k && overlaps s.sequences p r k) (λ k. is_some (s.sequences.interval k)) 32 (λ k l e. some_interval s.sequences p r k (and_parts (is_above told k) _ e).1), f)
told_few s p r false told n f = omega arith
