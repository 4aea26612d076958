-- Guards: their start, the mirrors told, their end.
use Rattle.std.proofs.Common.{◌≡◌, ℕ, zero, suc, ◌+◌, ◌<◌, ◌≤◌, ◌⊎◌, inl, inr, Bool, true, false, ◌==◌, ◌&&◌, ◌||◌, nat_lt, nat_le, if◌then◌else◌, not, is_none, Option, Some, None, List, [], ◌∷◌, ◌++◌, refl, sym, ap, ◌∙◌, subst, arith, find, cond, length, filter}
use Rattle.std.specs.List.{list_any, list_all}
use Rattle.std.proofs.lemmas.Bool.Decides.{nat_tests}
use Rattle.std.proofs.lemmas.Bool.{and_parts, and_from, not-true, eqb-true, or_right}
use Rattle.std.proofs.lemmas.Option.{same_Some}
use Rattle.hm_base.specs.Pages.{Pages, covers}
use Rattle.hm_base.specs.Program.{Program}
use Rattle.hm_base.specs.declared.ops.Op.{Op}
use Rattle.hm_history.specs.Memory.Words.{numbers}
use Rattle.hm_history.specs.Memory.Sequences.{overlaps, overlapping, next_told, some_overlap, seq_started, seq_ended, with_told, same_span, guard_passes, all_told, is_next_told}
use Rattle.hm_history.specs.Memory.Lookups.{is_guarded}
use Rattle.hm_history.specs.Memory.After.{After}
use Rattle.hm_history.specs.declared.Kind.{Kind}
use Rattle.hm_laws.specs.Past.{Past, past_next}
use Rattle.hm_laws.specs.Sound.{Sound}
use Rattle.hm_laws.specs.Allowed.{next, SequencesOk}
use Rattle.hm_laws.specs.Facts.{Guarding, facts, HoldsAll}
use Rattle.std.proofs.Common.{filter, find}
use Rattle.hm_history.specs.Memory.Sequences.{is_above, is_next_told, guard_passes, same_span, all_told, next_told}
use Rattle.hm_history.specs.Kernel.Due.{start_entry, due_guard, due_body, body_or_end, to_tell}
use Rattle.hm_history.specs.Kernel.Going.{recorded_body}
use Rattle.hm_history.specs.declared.phases.Migrating.{Migrating}
use Rattle.hm_history.specs.declared.phases.Body.{Body}
use Rattle.hm_history.specs.declared.phases.Phase.{Phase}
use Rattle.hm_history.specs.declared.phases.Next.TheVariants.{Do}
use Rattle.hm_laws.proofs.Due.Good.{Good}
use Rattle.std.proofs.lemmas.List.Folds.{list_all-append}
use Rattle.hm_history.specs.Memory.Sequences.{with_told, next_told}
use Rattle.hm_history.proofs.Updates.{here_at}
use Rattle.hm_history.proofs.Tests.{true_false}

-- a guard that starts has told nobody
pub started : (s : After) (a p : ℕ) (r : Pages) (q : ℕ) → Guarding (next s a (Kind.Start p r q)).sequences.guard a p r (some_overlap s.sequences p r) None
started s a p r q = record {
  given = record { proc = p; span = r; met = overlapping s.sequences p r; told = [] };
  is = here_at s.sequences.guard a _;
  proc = refl;
  span = refl;
  met_some = refl;
  upto = λ m i n. absurd (true_false true refl n);
  below = refl;
}

pub number_is : (n m : ℕ) → n ≡ m → (n == m) ≡ true
number_is n m h = grind (arith, nat_tests)

pub start_takes : (s : After) (a p : ℕ) (r : Pages) → s.sequences.guard a ≡ None → SequencesOk s a (start_entry s p r)
start_takes s a p r h = and_from (is_none (s.sequences.guard a)) (seq_started s.sequences p r == seq_started s.sequences p r) (ap is_none h) (number_is (seq_started s.sequences p r) (seq_started s.sequences p r) refl)

same_span_of : (r u : Pages) → r ≡ u → same_span r u ≡ true
same_span_of r u e = subst (λ x. same_span r x ≡ true) e (itself r)
  where
    itself : (r : Pages) → same_span r r ≡ true
    itself r = grind (arith, nat_tests)

-- the next to be told
filter_none : (t : ℕ → Bool) (xs : List ℕ) (m : ℕ) → find t xs ≡ None → list_any (λ k. k == m) xs ≡ true → t m ≡ false
filter_none t [] m h k = cc
filter_none t (x ∷ xs) m h k = by (t x) refl h (x == m) refl k (filter_none t xs m)
  where
    by : (b : Bool) → t x ≡ b → cond b (Some x) (find t xs) ≡ None → (d : Bool) → (x == m) ≡ d → (d || list_any (λ k. k == m) xs) ≡ true → (find t xs ≡ None → list_any (λ k. k == m) xs ≡ true → t m ≡ false) → t m ≡ false
    by true e h d i k ih = cc
    by false e h true i k ih = ap t (sym (eqb-true x m i)) ∙ e
    by false e h false i k ih = ih h k

all_in : (l told : List ℕ) → ((m : ℕ) → list_any (λ k. k == m) l ≡ true → list_any (λ k. k == m) told ≡ true) → list_all (λ m. list_any (λ k. k == m) told) l ≡ true
all_in [] told h = refl
all_in (x ∷ l) told h = and_from (list_any (λ k. k == x) told) (list_all (λ m. list_any (λ k. k == m) told) l) (h x (head (number_is x x refl))) (all_in l told (λ m i. h m (or_right (x == m) (list_any (λ k. k == m) l) i)))
  where
    head : (x == x) ≡ true → ((x == x) || list_any (λ k. k == x) l) ≡ true
    head e = grind arith

some_in : (n : ℕ) → nat_lt 0 (suc n) ≡ false → ⊥
some_in n h = grind (arith, nat_tests)

no_met : (l : List ℕ) → nat_lt 0 (length l) ≡ false → l ≡ []
no_met [] h = refl
no_met (x ∷ l) h = absurd (some_in (length l) h)

-- each mirror that the guard met was told, where none is next
pub told_all : (c : Program) (s : After) (t : Past) (a p : ℕ) (r : Pages) (met : Bool) (told : Option ℕ) → Sound c s t → (h : Guarding s.sequences.guard a p r met told) → to_tell s p r met told ≡ None → all_told h.given ≡ true
told_all c s t a p r true told so h e = all_in h.given.met h.given.told (λ m i. h.upto m i (filter_none (is_above told) (overlapping s.sequences p r) m e (subst (λ l. list_any (λ k. k == m) l ≡ true) (sym met) i)))
  where
    met : overlapping s.sequences p r ≡ h.given.met
    met = ap (λ q. overlapping s.sequences q r) (sym h.proc) ∙ ap (overlapping s.sequences h.given.proc) (sym h.span) ∙ so.sequences.met_now a h.given h.is h.met_some
told_all c s t a p r false told so h e = subst (λ l. list_all (λ m. list_any (λ k. k == m) h.given.told) l ≡ true) (sym (no_met h.given.met h.met_some)) refl

pub is_covered : (s : After) (a p v : ℕ) (r : Pages) (met : Bool) (told : Option ℕ) → (h : Guarding s.sequences.guard a p r met told) → all_told h.given ≡ true → covers r v ≡ true → is_guarded s.sequences a p v ≡ true
is_covered s a p v r met told h al cv = subst (λ x. guard_passes (λ g. (g.proc == p) && (covers g.span v && all_told g)) x ≡ true) (sym h.is)
    (and_from (h.given.proc == p) (covers h.given.span v && all_told h.given) (number_is h.given.proc p h.proc) (and_from (covers h.given.span v) (all_told h.given) (ap (λ i. covers i v) h.span ∙ cv) al))

pub end_takes : (s : After) (a p : ℕ) (r : Pages) (met : Bool) (told : Option ℕ) → (h : Guarding s.sequences.guard a p r met told) → all_told h.given ≡ true → SequencesOk s a (Kind.End p r (seq_ended s.sequences p))
end_takes s a p r met told h al = and_from (guard_passes (λ g. (g.proc == p) && (same_span g.span r && all_told g)) (s.sequences.guard a)) (seq_ended s.sequences p == seq_ended s.sequences p)
    (subst (λ x. guard_passes (λ g. (g.proc == p) && (same_span g.span r && all_told g)) x ≡ true) (sym h.is) (and_from (h.given.proc == p) (same_span h.given.span r && all_told h.given) (number_is h.given.proc p h.proc) (and_from (same_span h.given.span r) (all_told h.given) (same_span_of h.given.span r h.span) al)))
    (number_is (seq_ended s.sequences p) (seq_ended s.sequences p) refl)

-- of mirrors in rising number, those before the first that passes do not
filter_above : (p : ℕ → Bool) (from n k : ℕ) → list_any (λ i. i == k) (filter p (numbers from n)) ≡ true → from ≤ k
filter_above p from zero k h = cc
filter_above p from (suc n) k h = by (p from) h (filter_above p (from + 1) n k)
  where
    by : (b : Bool) → list_any (λ i. i == k) (if b then from ∷ filter p (numbers (from + 1) n) else filter p (numbers (from + 1) n)) ≡ true → (list_any (λ i. i == k) (filter p (numbers (from + 1) n)) ≡ true → from + 1 ≤ k) → from ≤ k
    by true h ih = at (from == k) refl h
      where
        at : (d : Bool) → (from == k) ≡ d → (d || list_any (λ i. i == k) (filter p (numbers (from + 1) n))) ≡ true → from ≤ k
        at true e i = omega (arith, eqb-true from k e)
        at false e i = omega (arith, ih i)
    by false h ih = omega (arith, ih h)

first_passes : (t p : ℕ → Bool) (from n m k : ℕ) → find t (filter p (numbers from n)) ≡ Some m → list_any (λ i. i == k) (filter p (numbers from n)) ≡ true → k < m → t k ≡ false
first_passes t p from zero m k h i l = cc
first_passes t p from (suc n) m k h i l = by (p from) h i (first_passes t p (from + 1) n m k) (filter_above p (from + 1) n k)
  where
    by : (b : Bool) → find t (if b then from ∷ filter p (numbers (from + 1) n) else filter p (numbers (from + 1) n)) ≡ Some m → list_any (λ i. i == k) (if b then from ∷ filter p (numbers (from + 1) n) else filter p (numbers (from + 1) n)) ≡ true →
        (find t (filter p (numbers (from + 1) n)) ≡ Some m → list_any (λ i. i == k) (filter p (numbers (from + 1) n)) ≡ true → k < m → t k ≡ false) → (list_any (λ i. i == k) (filter p (numbers (from + 1) n)) ≡ true → from + 1 ≤ k) → t k ≡ false
    by false h i ih ab = ih h i l
    by true h i ih ab = at (t from) refl h (from == k) refl i
      where
        at : (b : Bool) → t from ≡ b → cond b (Some from) (find t (filter p (numbers (from + 1) n))) ≡ Some m → (d : Bool) → (from == k) ≡ d → (d || list_any (λ i. i == k) (filter p (numbers (from + 1) n))) ≡ true → t k ≡ false
        at true e h d ed i = absurd (past (same_Some from m h) d ed i)
          where
            past : from ≡ m → (d : Bool) → (from == k) ≡ d → (d || list_any (λ i. i == k) (filter p (numbers (from + 1) n))) ≡ true → ⊥
            past f true ed i = omega (arith, f, eqb-true from k ed)
            past f false ed i = omega (arith, f, ab i)
        at false e h true ed i = ap t (sym (eqb-true from k ed)) ∙ e
        at false e h false ed i = ih h i l

filter_passes : (p : ℕ → Bool) (xs : List ℕ) (t : ℕ → Bool) (m : ℕ) → find t (filter p xs) ≡ Some m → (p m ≡ true) × (t m ≡ true)
filter_passes p [] t m h = cc
filter_passes p (x ∷ xs) t m h = by (p x) refl h (filter_passes p xs t m)
  where
    by : (b : Bool) → p x ≡ b → find t (if b then x ∷ filter p xs else filter p xs) ≡ Some m → (find t (filter p xs) ≡ Some m → (p m ≡ true) × (t m ≡ true)) → (p m ≡ true) × (t m ≡ true)
    by false e h ih = ih h
    by true e h ih = at (t x) refl h
      where
        at : (d : Bool) → t x ≡ d → cond d (Some x) (find t (filter p xs)) ≡ Some m → (p m ≡ true) × (t m ≡ true)
        at true ed h = (ap p (sym (same_Some x m h)) ∙ e, ap t (sym (same_Some x m h)) ∙ ed)
        at false ed h = ih h

all_weaker : (t u : ℕ → Bool) → ((k : ℕ) → t k ≡ true → u k ≡ true) → (xs : List ℕ) → list_all t xs ≡ true → list_all u xs ≡ true
all_weaker t u h [] k = refl
all_weaker t u h (x ∷ xs) k = and_from (u x) (list_all u xs) (h x (and_parts (t x) (list_all t xs) k).0) (all_weaker t u h xs (and_parts (t x) (list_all t xs) k).1)

all_members : (t : ℕ → Bool) (xs : List ℕ) → ((k : ℕ) → list_any (λ i. i == k) xs ≡ true → t k ≡ true) → list_all t xs ≡ true
all_members t [] h = refl
all_members t (x ∷ xs) h = and_from (t x) (list_all t xs) (h x (head (number_is x x refl))) (all_members t xs (λ k i. h k (or_right (x == k) (list_any (λ j. j == k) xs) i)))
  where
    head : (x == x) ≡ true → ((x == x) || list_any (λ k. k == x) xs) ≡ true
    head e = grind arith

below_first : (told : Option ℕ) (m k : ℕ) → is_above told m ≡ true → is_above told k ≡ false → k < m
below_first None m k h i = cc
below_first (Some n) m k h i = grind (arith, nat_tests)

-- the next mirror is told
pub tell_takes : (c : Program) (s : After) (t : Past) (a p : ℕ) (r : Pages) (told : Option ℕ) (m : ℕ) → Sound c s t → Guarding s.sequences.guard a p r true told → next_told s.sequences p r told ≡ Some m → SequencesOk s a (Kind.Told m r (s.sequences.seq p))
tell_takes c s t a p r told m so h e = subst (λ x. guard_passes (λ g. same_span g.span r && (nat_lt 0 (length g.met) && (is_next_told s.sequences g m && (s.sequences.seq p == s.sequences.seq g.proc)))) x ≡ true) (sym h.is)
    (and_from (same_span h.given.span r) _ (same_span_of h.given.span r h.span) (and_from (nat_lt 0 (length h.given.met)) _ h.met_some (and_from (is_next_told s.sequences h.given m) _ is_next (number_is (s.sequences.seq p) (s.sequences.seq h.given.proc) (ap s.sequences.seq (sym h.proc))))))
  where
    passes : (overlaps s.sequences p r m ≡ true) × (is_above told m ≡ true)
    passes = filter_passes (overlaps s.sequences p r) (numbers 0 32) (is_above told) m e

    is_met : overlapping s.sequences p r ≡ h.given.met
    is_met = ap (λ q. overlapping s.sequences q r) (sym h.proc) ∙ ap (overlapping s.sequences h.given.proc) (sym h.span) ∙ so.sequences.met_now a h.given h.is h.met_some

    before : (k : ℕ) → list_any (λ i. i == k) (overlapping s.sequences p r) ≡ true → (nat_le m k || list_any (λ i. i == k) h.given.told) ≡ true
    before k i = at (nat_le m k) refl
      where
        at : (b : Bool) → nat_le m k ≡ b → (b || list_any (λ i. i == k) h.given.told) ≡ true
        at true l = refl
        at false l = h.upto k (subst (λ x. list_any (λ i. i == k) x ≡ true) is_met i) (first_passes (is_above told) (overlaps s.sequences p r) 0 32 m k e i (grind (arith, nat_tests)))

    is_next : is_next_told s.sequences h.given m ≡ true
    is_next = and_from (list_all (λ k. nat_lt k m) h.given.told) _ (all_weaker (λ k. not (is_above told k)) (λ k. nat_lt k m) (λ k i. less k (below_first told m k passes.1 (not-true (is_above told k) i))) h.given.told h.below)
        (and_from (overlaps s.sequences h.given.proc h.given.span m) _ (ap (λ q. overlaps s.sequences q h.given.span m) h.proc ∙ ap (λ x. overlaps s.sequences p x m) h.span ∙ passes.0)
        (subst (λ x. list_all (λ k. nat_le m k || list_any (λ t. t == k) h.given.told) x ≡ true) (ap (λ q. overlapping s.sequences q r) (sym h.proc) ∙ ap (overlapping s.sequences h.given.proc) (sym h.span)) (all_members _ (overlapping s.sequences p r) before)))
      where
        less : (k : ℕ) → k < m → nat_lt k m ≡ true
        less k l = grind (arith, nat_tests)

any_append : (t : ℕ → Bool) (xs ys : List ℕ) → (list_any t xs ≡ true) ⊎ (list_any t ys ≡ true) → list_any t (xs ++ ys) ≡ true
any_append t [] ys (inl h) = cc
any_append t [] ys (inr h) = h
any_append t (x ∷ xs) ys h = by (t x) h (any_append t xs ys)
  where
    by : (b : Bool) → ((b || list_any t xs) ≡ true) ⊎ (list_any t ys ≡ true) → ((list_any t xs ≡ true) ⊎ (list_any t ys ≡ true) → list_any t (xs ++ ys) ≡ true) → (b || list_any t (xs ++ ys)) ≡ true
    by true i ih = refl
    by false i ih = ih i

pub told_on : (c : Program) (s : After) (t : Past) (a p : ℕ) (r : Pages) (told : Option ℕ) (m q : ℕ) → Sound c s t → Guarding s.sequences.guard a p r true told → next_told s.sequences p r told ≡ Some m → Guarding (next s a (Kind.Told m r q)).sequences.guard a p r true (Some m)
told_on c s t a p r told m q so h e = record {
  given = record h.given { told = h.given.told ++ m ∷ [] };
  is = here_at s.sequences.guard a _ ∙ ap (with_told m) h.is;
  proc = h.proc;
  span = h.span;
  met_some = h.met_some;
  upto = λ k i l. any_append (λ j. j == k) h.given.told (m ∷ []) (at k i l (m == k) refl);
  below = list_all-append (λ k. not (nat_lt m k)) h.given.told (m ∷ []) ∙ and_from (list_all (λ k. not (nat_lt m k)) h.given.told) (not (nat_lt m m) && true) (all_weaker (λ k. not (is_above told k)) (λ k. not (nat_lt m k)) (λ k i. less k (below_first told m k (filter_passes (overlaps s.sequences p r) (numbers 0 32) (is_above told) m e).1 (not-true (is_above told k) i))) h.given.told h.below) (itself m);
}
  where
    less : (k : ℕ) → k < m → not (nat_lt m k) ≡ true
    less k l = grind (arith, nat_tests)

    itself : (m : ℕ) → (not (nat_lt m m) && true) ≡ true
    itself m = grind (arith, nat_tests)

    is_met : overlapping s.sequences p r ≡ h.given.met
    is_met = ap (λ q. overlapping s.sequences q r) (sym h.proc) ∙ ap (overlapping s.sequences h.given.proc) (sym h.span) ∙ so.sequences.met_now a h.given h.is h.met_some

    at : (k : ℕ) → list_any (λ j. j == k) h.given.met ≡ true → nat_lt m k ≡ false → (b : Bool) → (m == k) ≡ b → (list_any (λ j. j == k) h.given.told ≡ true) ⊎ (list_any (λ j. j == k) (m ∷ []) ≡ true)
    at k i l true f = inr (grind arith)
    at k i l false f = inl (h.upto k i (first_passes (is_above told) (overlaps s.sequences p r) 0 32 m k e (subst (λ x. list_any (λ j. j == k) x ≡ true) (sym is_met) i) (grind (arith, nat_tests))))

-- no record is made where a mirror is told
told_records : (body : Body) (xs : List Migrating) (m : ℕ) (r : Pages) (q : ℕ) → recorded_body body xs (Kind.Told m r q) ≡ xs
told_records (Body.Select n) xs m r q = refl
told_records (Body.Fresh g) xs m r q = refl
told_records body xs m r q = refl

-- what is due in a guard: the next mirror is told, and when all are its body goes on
pub guard_ok : (c : Program) (s : After) (t : Past) (a : ℕ) (o : Op) (xs : List Migrating) (p : ℕ) (r : Pages) (met : Bool) (told : Option ℕ) (body : Body) (below : List Phase) → Sound c s t → (g : Guarding s.sequences.guard a p r met told) →
    ((m : ℕ) → SequencesOk s a (Kind.Told m r (s.sequences.seq p)) → Guarding (next s a (Kind.Told m r (s.sequences.seq p))).sequences.guard a p r met (Some m) → HoldsAll (next s a (Kind.Told m r (s.sequences.seq p))) (past_next t s.length a (Kind.Told m r (s.sequences.seq p))) a (facts o xs (Phase.Guard p r met (Some m) body ∷ below))) →
    (all_told g.given ≡ true → Good c s t a o xs (Phase.Guard p r met told body) below (Do (body_or_end s p r (due_body s a o p r (s.places.place p r.first) body)))) →
    Good c s t a o xs (Phase.Guard p r met told body) below (Do (due_guard s a o p r met told body))
guard_ok c s t a o xs p r true told body below so g tell go = by (next_told s.sequences p r told) refl
  where
    by : (x : Option ℕ) → next_told s.sequences p r told ≡ x → Good c s t a o xs (Phase.Guard p r true told body) below (Do (elim x [ Some m ↦ Kind.Told m r (s.sequences.seq p) | None ↦ body_or_end s p r (due_body s a o p r (s.places.place p r.first) body) ]))
    by None e = go (told_all c s t a p r true told so g e)
    by (Some m) e = (tell_takes c s t a p r told m so g e, tt, subst (λ ys. HoldsAll (next s a (Kind.Told m r (s.sequences.seq p))) (past_next t s.length a (Kind.Told m r (s.sequences.seq p))) a (facts o ys (Phase.Guard p r true (Some m) body ∷ below))) (sym (told_records body xs m r (s.sequences.seq p))) (tell m (tell_takes c s t a p r told m so g e) (told_on c s t a p r told m (s.sequences.seq p) so g e)))
guard_ok c s t a o xs p r false told body below so g tell go = go (told_all c s t a p r false told so g refl)
