-- Sequences, intervals and guards: what the definitions say.
use Rattle.std.proofs.Common.{◌≡◌, ℕ, zero, suc, ◌+◌, ◌-◌, ◌<◌, ◌≤◌, ◌⊎◌, inl, inr, Bool, true, false, ◌==◌, ◌&&◌, ◌||◌, nat_lt, nat_le, if◌then◌else◌, is_none, Option, Some, None, List, [], ◌∷◌, refl, sym, ap, ◌∙◌, subst, arith, cond, length, filter}
use Rattle.std.specs.List.{list_any, list_all}
use Rattle.std.proofs.lemmas.Bool.Decides.{nat_tests}
use Rattle.hm_base.specs.Pages.{Pages, overlap}
use Rattle.hm_history.specs.Memory.Words.{with_at, numbers}
use Rattle.hm_history.specs.Memory.Sequences.{Sequences, Interval, Guarded, Stage, is_odd, in_tree_state, interval_passes, overlaps, overlapping, is_last_end, seq_ended, applied_stage, applied, with_seq, with_stage as with_stage, intervals_ended, same_span, guard_passes, all_told, is_next_told, sequences_accept}
use Rattle.hm_history.specs.declared.Kind.{Kind}
use Rattle.hm_laws.specs.Sound.{guards, count_guards, has_met, SequenceRules}
use Rattle.std.proofs.lemmas.Bool.{cases_eq, and_parts, eqb-true}
use Rattle.hm_history.specs.Memory.Sequences.{Out}
use Rattle.hm_history.proofs.Updates.{other_at, here_at}
use Rattle.hm_history.proofs.Tests.{true_false}

-- odd and even
pub odd_next : (n : ℕ) → is_odd n ≡ false → is_odd (n + 1) ≡ true
odd_next n e = grind (arith, nat_tests)

pub even_next : (n : ℕ) → is_odd n ≡ true → is_odd (n + 1) ≡ false
even_next n e = grind (arith, nat_tests)

pub odd_before : (n : ℕ) → is_odd n ≡ false → 2 ≤ n → is_odd (n - 1) ≡ true
odd_before n e l = grind (arith, nat_tests)

-- counting guards
abbrev pub number : Bool → ℕ
number true = 1
number false = 0

count_same : (guard : ℕ → Option Guarded) (p a : ℕ) (x : Option Guarded) (n : ℕ) → n ≤ a → count_guards (with_at guard a x) p n ≡ count_guards guard p n
count_same guard p a x zero l = refl
count_same guard p a x (suc n) l = rw (count_same guard p a x n (omega arith), other_at guard a n x (λ e. absurd (omega arith))) refl

pub count_with : (guard : ℕ → Option Guarded) (p a : ℕ) (x : Option Guarded) (n : ℕ) → a < n → count_guards (with_at guard a x) p n + number (guards (guard a) p) ≡ count_guards guard p n + number (guards x p)
count_with guard p a x zero l = absurd (omega arith)
count_with guard p a x (suc n) l = by (cases_eq a n) (λ m. count_with guard p a x n m)
  where
    at_n : (c d : ℕ) (s t : Bool) → c ≡ d → (c + (if s then 1 else 0)) + number t ≡ (d + (if t then 1 else 0)) + number s
    at_n c d true true e = omega arith
    at_n c d true false e = omega arith
    at_n c d false true e = omega arith
    at_n c d false false e = omega arith

    below : (c d k : ℕ) (s t : Bool) → c + number t ≡ d + number s → (c + k) + number t ≡ (d + k) + number s
    below c d k s t e = omega arith

    by : (a ≡ n) ⊎ (a ≡ n → ⊥) → (a < n → count_guards (with_at guard a x) p n + number (guards (guard a) p) ≡ count_guards guard p n + number (guards x p)) →
        (count_guards (with_at guard a x) p n + (if guards (with_at guard a x n) p then 1 else 0)) + number (guards (guard a) p) ≡ (count_guards guard p n + (if guards (guard n) p then 1 else 0)) + number (guards x p)
    by (inl e) ih = rw e (rw (here_at guard n x) (at_n (count_guards (with_at guard n x) p n) (count_guards guard p n) (guards x p) (guards (guard n) p) (count_same guard p n x n (omega arith))))
    by (inr ne) ih = rw (other_at guard a n x (λ e. ne (sym e))) (below (count_guards (with_at guard a x) p n) (count_guards guard p n) (if guards (guard n) p then 1 else 0) (guards x p) (guards (guard a) p) (ih (omega arith)))

pub count_some : (guard : ℕ → Option Guarded) (p n a : ℕ) → guards (guard a) p ≡ true → a < n → 1 ≤ count_guards guard p n
count_some guard p zero a e l = absurd (omega arith)
count_some guard p (suc n) a e l = by (cases_eq a n) (λ m. count_some guard p n a e m)
  where
    one : (c : ℕ) (b : Bool) → b ≡ true → 1 ≤ c + (if b then 1 else 0)
    one c true h = omega arith
    one c false h = cc

    more : (c : ℕ) (b : Bool) → 1 ≤ c → 1 ≤ c + (if b then 1 else 0)
    more c true h = omega arith
    more c false h = omega arith

    by : (a ≡ n) ⊎ (a ≡ n → ⊥) → (a < n → 1 ≤ count_guards guard p n) → 1 ≤ count_guards guard p n + (if guards (guard n) p then 1 else 0)
    by (inl k) ih = one (count_guards guard p n) (guards (guard n) p) (ap (λ i. guards (guard i) p) (sym k) ∙ e)
    by (inr ne) ih = more (count_guards guard p n) (guards (guard n) p) (ih (omega arith))

pub guards_at : (guard : ℕ → Option Guarded) (a p : ℕ) (g : Guarded) → guard a ≡ Some g → g.proc ≡ p → guards (guard a) p ≡ true
guards_at guard a p g e q = rw (e, q) (grind (arith, nat_tests))

-- a guard under way is counted
pub active_of : (s : Sequences) → SequenceRules s → (a p : ℕ) (g : Guarded) → s.guard a ≡ Some g → g.proc ≡ p → 0 < s.active p
active_of s h a p g e q = rw (h.counted p) (omega (arith, count_some s.guard p 16 a (guards_at s.guard a p g e q) (h.guard_below a g e)))

-- and two are two
pub active_two : (s : Sequences) → SequenceRules s → (a b p : ℕ) (g i : Guarded) → (b ≡ a → ⊥) → s.guard a ≡ Some g → g.proc ≡ p → s.guard b ≡ Some i → i.proc ≡ p → 1 < s.active p
active_two s h a b p g i ne e q d r = rw (h.counted p) (by (count_with s.guard p a None 16 (h.guard_below a g e)) (count_some (with_at s.guard a None) p 16 b (guards_at (with_at s.guard a None) b p i (other_at s.guard a b None ne ∙ d) r) (h.guard_below b i d)) (guards (s.guard a) p) refl (guards_at s.guard a p g e q))
  where
    by : count_guards (with_at s.guard a None) p 16 + number (guards (s.guard a) p) ≡ count_guards s.guard p 16 + number false → 1 ≤ count_guards (with_at s.guard a None) p 16 → (t : Bool) → guards (s.guard a) p ≡ t → t ≡ true → 1 < count_guards s.guard p 16
    by k l true et m = omega (arith, subst (λ t. count_guards (with_at s.guard a None) p 16 + number t ≡ count_guards s.guard p 16 + number false) et k, l)
    by k l false et m = cc

-- the intervals that overlap
pub filter_same : (t u : ℕ → Bool) → ((m : ℕ) → t m ≡ u m) → (xs : List ℕ) → filter t xs ≡ filter u xs
filter_same t u h [] = refl
filter_same t u h (x ∷ xs) = by (t x) (u x) (h x) (filter_same t u h xs)
  where
    by : (b d : Bool) → b ≡ d → filter t xs ≡ filter u xs → cond b (x ∷ filter t xs) (filter t xs) ≡ cond d (x ∷ filter u xs) (filter u xs)
    by true true e i = ap (λ (l : List ℕ). x ∷ l) i
    by false false e i = i
    by true false e i = cc
    by false true e i = cc

pub in_filter : (t : ℕ → Bool) (m : ℕ) (xs : List ℕ) → t m ≡ true → list_any (λ k. k == m) xs ≡ true → list_any (λ k. k == m) (filter t xs) ≡ true
in_filter t m [] h e = cc
in_filter t m (x ∷ xs) h e = by (t x) refl (x == m) refl e (in_filter t m xs h)
  where
    by : (b : Bool) → t x ≡ b → (d : Bool) → (x == m) ≡ d → (d || list_any (λ k. k == m) xs) ≡ true → (list_any (λ k. k == m) xs ≡ true → list_any (λ k. k == m) (filter t xs) ≡ true) → list_any (λ k. k == m) (cond b (x ∷ filter t xs) (filter t xs)) ≡ true
    by true eb true ed k i = rw ed refl
    by true eb false ed k i = rw ed (i k)
    by false eb true ed k i = absurd (true_false (t m) h (ap t (sym (eqb-true x m ed)) ∙ eb))
    by false eb false ed k i = i k

pub in_numbers : (m from n : ℕ) → from ≤ m → m < from + n → list_any (λ k. k == m) (numbers from n) ≡ true
in_numbers m from zero h l = absurd (omega arith)
in_numbers m from (suc n) h l = by (from == m) refl (λ i. in_numbers m (from + 1) n i (omega arith))
  where
    by : (b : Bool) → (from == m) ≡ b → (from + 1 ≤ m → list_any (λ k. k == m) (numbers (from + 1) n) ≡ true) → (b || list_any (λ k. k == m) (numbers (from + 1) n)) ≡ true
    by true e i = refl
    by false e i = i (grind (arith, nat_tests))

-- what updates of intervals leave
abbrev pub proc_in : Option Interval → ℕ
proc_in None = 0
proc_in (Some i) = i.proc

abbrev pub window_in : Option Interval → Pages
window_in None = record { first = 0; count = 0 }
window_in (Some i) = i.window

abbrev pub seq_in : Option Interval → ℕ
seq_in None = 0
seq_in (Some i) = i.seq

abbrev pub stage_in : Option Interval → Stage
stage_in None = Out
stage_in (Some i) = i.stage

pub record Changed (y z : Interval) (q : ℕ) (t : Stage) : Type 0 where
  pub proc : z.proc ≡ y.proc
  pub window : z.window ≡ y.window
  pub seq : z.seq ≡ q
  pub stage : z.stage ≡ t

pub changed : (y z : Interval) (q : ℕ) (t : Stage) → Some (record y { seq = q; stage = t }) ≡ Some z → Changed y z q t
changed y z q t h = record { proc = ap proc_in (sym h); window = ap window_in (sym h); seq = ap seq_in (sym h); stage = ap stage_in (sym h) }

pub seq_changed : (q : ℕ) (x : Option Interval) (z : Interval) → with_seq q x ≡ Some z → (y : Interval) × (x ≡ Some y) × Changed y z q y.stage
seq_changed q None z h = cc
seq_changed q (Some y) z h = (y, refl, changed y z q y.stage h)

pub stage_changed : (t : Stage) (x : Option Interval) (z : Interval) → with_stage t x ≡ Some z → (y : Interval) × (x ≡ Some y) × Changed y z y.seq t
stage_changed t None z h = cc
stage_changed t (Some y) z h = (y, refl, changed y z y.seq t h)

pub settled_changed : (p : ℕ) (x : Option Interval) (z : Interval) → applied p x ≡ Some z → (y : Interval) × (x ≡ Some y) × (((y.proc ≡ p) × Changed y z y.seq (applied_stage y.stage)) ⊎ ((y.proc ≡ p → ⊥) × (y ≡ z)))
settled_changed p None z h = cc
settled_changed p (Some y) z h = (y, refl, by (y.proc == p) refl h)
  where
    same : Some y ≡ Some z → y ≡ z
    same k = cc

    apart : (y.proc == p) ≡ false → y.proc ≡ p → ⊥
    apart e k = grind (arith, nat_tests)

    by : (b : Bool) → (y.proc == p) ≡ b → (if b then Some (record y { stage = applied_stage y.stage }) else Some y) ≡ Some z → ((y.proc ≡ p) × Changed y z y.seq (applied_stage y.stage)) ⊎ ((y.proc ≡ p → ⊥) × (y ≡ z))
    by true e k = inl (eqb-true y.proc p e, changed y z y.seq (applied_stage y.stage) k)
    by false e k = inr (apart e, same k)

-- the intervals after an end
pub ended_changed : (s : Sequences) (p k : ℕ) (z : Interval) → intervals_ended s p k ≡ Some z → (y : Interval) × (s.interval k ≡ Some y) × (((is_last_end s p ≡ true) × (y.proc ≡ p) × Changed y z y.seq (applied_stage y.stage)) ⊎ (((is_last_end s p ≡ false) ⊎ (y.proc ≡ p → ⊥)) × (y ≡ z)))
ended_changed s p k z h = by (is_last_end s p) refl h
  where
    same : (y : Interval) → Some y ≡ Some z → y ≡ z
    same y e = cc

    settle : is_last_end s p ≡ true → (y : Interval) × (s.interval k ≡ Some y) × (((y.proc ≡ p) × Changed y z y.seq (applied_stage y.stage)) ⊎ ((y.proc ≡ p → ⊥) × (y ≡ z))) → (y : Interval) × (s.interval k ≡ Some y) × (((is_last_end s p ≡ true) × (y.proc ≡ p) × Changed y z y.seq (applied_stage y.stage)) ⊎ (((is_last_end s p ≡ false) ⊎ (y.proc ≡ p → ⊥)) × (y ≡ z)))
    settle e (y, i, inl d) = (y, i, inl (e, d.0, d.1))
    settle e (y, i, inr d) = (y, i, inr (inr d.0, d.1))

    by : (b : Bool) → is_last_end s p ≡ b → (if b then applied p (s.interval k) else s.interval k) ≡ Some z → (y : Interval) × (s.interval k ≡ Some y) × (((is_last_end s p ≡ true) × (y.proc ≡ p) × Changed y z y.seq (applied_stage y.stage)) ⊎ (((is_last_end s p ≡ false) ⊎ (y.proc ≡ p → ⊥)) × (y ≡ z)))
    by true e i = settle e (settled_changed p (s.interval k) z i)
    by false e i = (z, i, inr (inl e, refl))

-- what the conditions of guards say
pub start_says : (s : Sequences) (a p : ℕ) (r : Pages) (q : ℕ) → sequences_accept s a (Kind.Start p r q) ≡ true → s.guard a ≡ None
start_says s a p r q h = by (s.guard a) refl (and_parts (is_none (s.guard a)) _ h).0
  where
    by : (x : Option Guarded) → s.guard a ≡ x → is_none x ≡ true → s.guard a ≡ None
    by None e k = e
    by (Some g) e k = cc

pub same_span_says : (r t : Pages) → same_span r t ≡ true → r ≡ t
same_span_says r t h = let b : ((r.first == t.first) ≡ true) × ((r.count == t.count) ≡ true) = and_parts (r.first == t.first) (r.count == t.count) h in
    by r.first t.first r.count t.count (eqb-true r.first t.first b.0) (eqb-true r.count t.count b.1)
  where
    by : (a b c d : ℕ) → a ≡ b → c ≡ d → ◌≡◌ {A = Pages} (record { first = a; count = c }) (record { first = b; count = d })
    by a b c d e i = rw (e, i) refl

pub end_says : (s : Sequences) (a p : ℕ) (r : Pages) (q : ℕ) → sequences_accept s a (Kind.End p r q) ≡ true → (g : Guarded) × (s.guard a ≡ Some g) × (g.proc ≡ p) × (g.span ≡ r) × (all_told g ≡ true)
end_says s a p r q h = by (s.guard a) refl (and_parts (guard_passes (λ g. (g.proc == p) && (same_span g.span r && all_told g)) (s.guard a)) (q == seq_ended s p) h).0
  where
    by : (x : Option Guarded) → s.guard a ≡ x → guard_passes (λ g. (g.proc == p) && (same_span g.span r && all_told g)) x ≡ true → (g : Guarded) × (s.guard a ≡ Some g) × (g.proc ≡ p) × (g.span ≡ r) × (all_told g ≡ true)
    by None e k = cc
    by (Some g) e k = let b : ((g.proc == p) ≡ true) × ((same_span g.span r && all_told g) ≡ true) = and_parts (g.proc == p) (same_span g.span r && all_told g) k in
        let d : (same_span g.span r ≡ true) × (all_told g ≡ true) = and_parts (same_span g.span r) (all_told g) b.1 in (g, e, eqb-true g.proc p b.0, same_span_says g.span r d.0, d.1)

pub record ToldTo (s : Sequences) (m : ℕ) (r : Pages) (g : Guarded) : Type 0 where
  pub span : g.span ≡ r
  pub met : has_met g ≡ true
  pub overlaps_it : overlaps s g.proc g.span m ≡ true

pub told_says : (s : Sequences) (a m : ℕ) (r : Pages) (q : ℕ) → sequences_accept s a (Kind.Told m r q) ≡ true → (g : Guarded) × (s.guard a ≡ Some g) × ToldTo s m r g
told_says s a m r q h = by (s.guard a) refl h
  where
    by : (x : Option Guarded) → s.guard a ≡ x → guard_passes (λ g. same_span g.span r && (nat_lt 0 (length g.met) && (is_next_told s g m && (q == s.seq g.proc)))) x ≡ true → (g : Guarded) × (s.guard a ≡ Some g) × ToldTo s m r g
    by None e k = cc
    by (Some g) e k = let b : (same_span g.span r ≡ true) × ((nat_lt 0 (length g.met) && (is_next_told s g m && (q == s.seq g.proc))) ≡ true) = and_parts (same_span g.span r) _ k in
        let d : (nat_lt 0 (length g.met) ≡ true) × ((is_next_told s g m && (q == s.seq g.proc)) ≡ true) = and_parts (nat_lt 0 (length g.met)) _ b.1 in
        let i : (is_next_told s g m ≡ true) × ((q == s.seq g.proc) ≡ true) = and_parts (is_next_told s g m) _ d.1 in
        let j : (list_all (λ k. nat_lt k m) g.told ≡ true) × ((overlaps s g.proc g.span m && list_all (λ k. nat_le m k || list_any (λ t. t == k) g.told) (overlapping s g.proc g.span)) ≡ true) = and_parts (list_all (λ k. nat_lt k m) g.told) _ i.0 in
        (g, e, record { span = same_span_says g.span r b.0; met = d.0; overlaps_it = (and_parts (overlaps s g.proc g.span m) _ j.1).0 })

-- an interval that overlaps
pub record Overlapping (s : Sequences) (p : ℕ) (r : Pages) (m : ℕ) : Type 0 where
  pub interval : Interval
  pub is : s.interval m ≡ Some interval
  pub tree : in_tree_state interval.stage ≡ true
  pub proc : interval.proc ≡ p
  pub meets : overlap interval.window r ≡ true

pub overlaps_says : (s : Sequences) (p : ℕ) (r : Pages) (m : ℕ) → overlaps s p r m ≡ true → Overlapping s p r m
overlaps_says s p r m h = by (s.interval m) refl h
  where
    by : (x : Option Interval) → s.interval m ≡ x → interval_passes (λ x. in_tree_state x.stage && ((x.proc == p) && overlap x.window r)) x ≡ true → Overlapping s p r m
    by None e k = cc
    by (Some y) e k = let b : (in_tree_state y.stage ≡ true) × (((y.proc == p) && overlap y.window r) ≡ true) = and_parts (in_tree_state y.stage) ((y.proc == p) && overlap y.window r) k in
        let d : ((y.proc == p) ≡ true) × (overlap y.window r ≡ true) = and_parts (y.proc == p) (overlap y.window r) b.1 in
        record { interval = y; is = e; tree = b.0; proc = eqb-true y.proc p d.0; meets = d.1 }

pub overlaps_of : (s : Sequences) (p : ℕ) (r : Pages) (m : ℕ) (y : Interval) → s.interval m ≡ Some y → in_tree_state y.stage ≡ true → y.proc ≡ p → overlap y.window r ≡ true → overlaps s p r m ≡ true
overlaps_of s p r m y e t q o = rw e (by (in_tree_state y.stage) (y.proc == p) (overlap y.window r) t (same q) o)
  where
    same : y.proc ≡ p → (y.proc == p) ≡ true
    same k = grind (arith, nat_tests)

    by : (a b c : Bool) → a ≡ true → b ≡ true → c ≡ true → (a && (b && c)) ≡ true
    by a b c i j k = grind arith
