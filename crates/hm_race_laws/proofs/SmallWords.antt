-- What is asked of sequences is asked of small ones.
use Rattle.std.proofs.Common.{◌≡◌, ℕ, ◌+◌, ◌≤◌, ◌⊎◌, inl, inr, Bool, true, false, ◌==◌, not, ◌&&◌, if◌then◌else◌, nat_lt, Option, Some, None, refl, sym, ap, ◌∙◌, filter, find, length, arith}
use Rattle.std.proofs.lemmas.Bool.Decides.{nat_tests}
use Rattle.std.proofs.lemmas.Bool.{cases_eq}
use mathlib.Core.Path.{fun_ext}
use Rattle.hm_base.specs.Pages.{Pages, overlap}
use Rattle.hm_history.specs.Memory.Words.{with_at, numbers}
use Rattle.hm_history.specs.Memory.Sequences.{Sequences, Interval, is_odd, interval_passes, in_tree_state, in_tree, deferred_state, insert_deferred, interval_proc, overlaps, overlapping, next_told, is_above, some_overlap}
use Rattle.hm_laws.specs.Sound.{SequenceRules}
use Rattle.hm_race_laws.specs.Numbers.{small, small_of, small_interval, small_sequences}
use Rattle.hm_history.proofs.Updates.{other_at, here_at}

-- numbers
pub parity : (n : ℕ) → is_odd (small n) ≡ is_odd n
parity n = by (is_odd n) refl
  where
    by : (b : Bool) → is_odd n ≡ b → is_odd (if b then 3 else 2) ≡ b
    by true e = refl
    by false e = refl

pub small_twice : (n : ℕ) → small (small n) ≡ small n
small_twice n = ap (λ b. if b then 3 else 2) (parity n)

pub tells : (i n : ℕ) → is_odd i ≡ true → (small_of (i == n) == small n) ≡ (i == n)
tells i n o = by (i == n) refl (is_odd n) refl
  where
    by : (b : Bool) → (i == n) ≡ b → (d : Bool) → is_odd n ≡ d → (small_of b == (if d then 3 else 2)) ≡ b
    by true e true k = refl
    by true e false k = absurd (grind (arith, nat_tests))
    by false e true k = refl
    by false e false k = refl

pub passed : (i n : ℕ) → is_odd i ≡ true → i ≤ n → (i == n + 1) ≡ (small_of (i == n) == small n + 1)
passed i n o le = no ∙ sym (by (i == n) refl (is_odd n) refl)
  where
    no : (i == n + 1) ≡ false
    no = grind (arith, nat_tests)

    by : (b : Bool) → (i == n) ≡ b → (d : Bool) → is_odd n ≡ d → (small_of b == (if d then 3 else 2) + 1) ≡ false
    by true e true k = refl
    by true e false k = absurd (grind (arith, nat_tests))
    by false e true k = refl
    by false e false k = refl

pub small_raised : (b : Bool) (n : ℕ) → small (if b then n + 1 else n) ≡ small (if b then small n + 1 else small n)
small_raised false n = sym (small_twice n)
small_raised true n = by (is_odd n) refl
  where
    flips : (d : Bool) → is_odd n ≡ d → is_odd (n + 1) ≡ not d
    flips true e = grind (arith, nat_tests)
    flips false e = grind (arith, nat_tests)

    by : (d : Bool) → is_odd n ≡ d → small (n + 1) ≡ small ((if d then 3 else 2) + 1)
    by true e = ap (λ z. if z then 3 else 2) (flips true e)
    by false e = ap (λ z. if z then 3 else 2) (flips false e)

-- intervals
pub passes_same : (t : Interval → Bool) → ((x : Interval) (q : ℕ) → t (record x { seq = q }) ≡ t x) → (f : ℕ → ℕ) (z : Option Interval) → interval_passes t (small_interval f z) ≡ interval_passes t z
passes_same t h f None = refl
passes_same t h f (Some x) = h x (small_of (x.seq == f x.proc))

pub overlaps_same : (s : Sequences) (p : ℕ) (r : Pages) → overlaps (small_sequences s) p r ≡ overlaps s p r
overlaps_same s p r = fun_ext (λ m. passes_same (λ x. in_tree_state x.stage && ((x.proc == p) && overlap x.window r)) (λ x q. refl) s.seq (s.interval m))

pub overlapping_same : (s : Sequences) (p : ℕ) (r : Pages) → overlapping (small_sequences s) p r ≡ overlapping s p r
overlapping_same s p r = ap (λ t. filter t (numbers 0 32)) (overlaps_same s p r)

pub some_overlap_same : (s : Sequences) (p : ℕ) (r : Pages) → some_overlap (small_sequences s) p r ≡ some_overlap s p r
some_overlap_same s p r = ap (λ l. nat_lt 0 (length l)) (overlapping_same s p r)

pub next_told_same : (s : Sequences) (p : ℕ) (r : Pages) (told : Option ℕ) → next_told (small_sequences s) p r told ≡ next_told s p r told
next_told_same s p r told = ap (λ l. find (is_above told) l) (overlapping_same s p r)

pub in_tree_same : (s : Sequences) (m : ℕ) → in_tree (small_sequences s) m ≡ in_tree s m
in_tree_same s m = passes_same (λ x. in_tree_state x.stage) (λ x q. refl) s.seq (s.interval m)

pub deferred_same : (s : Sequences) (m : ℕ) → insert_deferred (small_sequences s) m ≡ insert_deferred s m
deferred_same s m = passes_same (λ x. deferred_state x.stage) (λ x q. refl) s.seq (s.interval m)

pub proc_same : (s : Sequences) (m : ℕ) → interval_proc (small_sequences s) m ≡ interval_proc s m
proc_same s m = by (s.interval m)
  where
    by : (z : Option Interval) → ◌≡◌ {A = ℕ} (elim (small_interval s.seq z) [ None ↦ 0 | Some x ↦ x.proc ]) (elim z [ None ↦ 0 | Some x ↦ x.proc ])
    by None = refl
    by (Some x) = refl

-- an interval's sequence is odd, and at most its process's
pub record Rightly (f : ℕ → ℕ) (z : Option Interval) : Type 0 where
  pub odd : (x : Interval) → z ≡ Some x → is_odd x.seq ≡ true
  pub below : (x : Interval) → z ≡ Some x → x.seq ≤ f x.proc

pub rightly : (s : Sequences) (m : ℕ) → SequenceRules s → Rightly s.seq (s.interval m)
rightly s m so = record { odd = λ x e. so.odd_seq m x e; below = λ x e. so.not_above m x e }

-- with the sequences as they are
pub now_same : (f : ℕ → ℕ) (z : Option Interval) → Rightly f z → small_interval f z ≡ small_interval (λ p. small (f p)) (small_interval f z)
now_same f None h = refl
now_same f (Some x) h = ap (λ b. Some (record x { seq = small_of b })) (sym (tells x.seq (f x.proc) (h.odd x refl)))

abbrev pub raised : Bool → ℕ → ℕ
raised b n = if b then n + 1 else n

-- with one process's raised by one, or not
pub raised_same : (f : ℕ → ℕ) (p : ℕ) (b : Bool) (z : Option Interval) → Rightly f z → small_interval (with_at f p (raised b (f p))) z ≡ small_interval (with_at (λ q. small (f q)) p (raised b (small (f p)))) (small_interval f z)
raised_same f p b None h = refl
raised_same f p b (Some x) h = ap (λ d. Some (record x { seq = small_of d })) (by (cases_eq x.proc p))
  where
    raises : (d : Bool) → (x.seq == raised d (f x.proc)) ≡ (small_of (x.seq == f x.proc) == raised d (small (f x.proc)))
    raises true = passed x.seq (f x.proc) (h.odd x refl) (h.below x refl)
    raises false = sym (tells x.seq (f x.proc) (h.odd x refl))

    by : (x.proc ≡ p) ⊎ (x.proc ≡ p → ⊥) → (x.seq == with_at f p (raised b (f p)) x.proc) ≡ (small_of (x.seq == f x.proc) == with_at (λ q. small (f q)) p (raised b (small (f p))) x.proc)
    by (inl e) = ap (λ n. x.seq == n) (ap (λ k. with_at f k (raised b (f k)) x.proc) (sym e) ∙ here_at f x.proc (raised b (f x.proc))) ∙ (raises b ∙ ap (λ n. small_of (x.seq == f x.proc) == n) (sym (ap (λ k. with_at (λ q. small (f q)) k (raised b (small (f k))) x.proc) (sym e) ∙ here_at (λ q. small (f q)) x.proc (raised b (small (f x.proc))))))
    by (inr ne) = ap (λ n. x.seq == n) (other_at f p x.proc (raised b (f p)) ne) ∙ (raises false ∙ ap (λ n. small_of (x.seq == f x.proc) == n) (sym (other_at (λ q. small (f q)) p x.proc (raised b (small (f p))) ne)))

-- a process's own
pub seqs_same : (f : ℕ → ℕ) (p : ℕ) (b : Bool) (q : ℕ) → small (with_at f p (raised b (f p)) q) ≡ small (with_at (λ k. small (f k)) p (raised b (small (f p))) q)
seqs_same f p b q = by (q == p)
  where
    by : (d : Bool) → small (if d then raised b (f p) else f q) ≡ small (if d then raised b (small (f p)) else small (f q))
    by true = small_raised b (f p)
    by false = sym (small_twice (f q))
