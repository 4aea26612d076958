-- The right driver's table and sequences are those of the state.
use Rattle.std.proofs.Common.{◌≡◌, ℕ, Bool, true, false, ◌==◌, if◌then◌else◌, Option, Some, None, List, [], ◌∷◌, refl, ap, ◌∙◌, subst, fold, arith}
use Rattle.std.proofs.lemmas.Bool.Decides.{nat_tests}
use Rattle.hm_base.specs.Pages.{Pages, covers}
use Rattle.hm_base.specs.Program.{Program}
use Rattle.hm_history.specs.Memory.Places.{places_next, with_entry, erased_table}
use Rattle.hm_history.specs.Memory.Sequences.{Stage, Interval, with_seq, with_stage, applied, is_last_end, sequences_next, interval_inserted, interval_proc, is_odd}
use Rattle.hm_history.specs.Memory.After.{After}
use Rattle.hm_history.specs.Kernel.Going.{op_at, state_of}
use Rattle.hm_history.specs.declared.Kind.{Kind}
use Rattle.hm_history.specs.declared.Entry.{Entry}
use Rattle.hm_flaws.specs.declared.flaws.Flaw.{Flaw}
use Rattle.hm_flaws.specs.Drivers.{Driver, driver_next, erased_all, tells_own}
use Rattle.hm_flaws.specs.Flawed.{Flawed, flawed_from, flawed_next, with_seqs}
use Rattle.hm_flaws.specs.Laws.{HasItsOwn, RightKeepsItsOwn}

-- the table
table_next : (s : After) (own : Bool) (x : Driver) (a : ℕ) (k : Kind) → x.table ≡ s.places.table → ((b : ℕ) → x.late b ≡ []) → (driver_next Flaw.NoFlaw s own x a k).table ≡ (places_next s.places k).table
table_next s own x a (Kind.Set m v f w from) h l = ap (λ t. with_entry t m v (record { target = f; right = w; from = from })) h
table_next s own x a (Kind.Told m r q) h l = ap (λ t. erased_table t m (covers r)) h
table_next s own x a (Kind.End p r q) h l = ap (erased_all x.table) (l a) ∙ h
table_next s own x a (Kind.Detaching m q) h l = ap (λ t. erased_table t m (λ v. true)) h
table_next s own x a (Kind.Detached m) h l = ap (λ t. erased_table t m (λ v. true)) h
table_next s own x a k h l = h

-- what is left to be erased
none_either : (t : Bool) (xs : List (ℕ × Pages)) → xs ≡ [] → (if t then [] else xs) ≡ []
none_either true xs h = refl
none_either false xs h = h

late_next : (s : After) (own : Bool) (x : Driver) (a : ℕ) (k : Kind) → ((b : ℕ) → x.late b ≡ []) → (b : ℕ) → (driver_next Flaw.NoFlaw s own x a k).late b ≡ []
late_next s own x a (Kind.End p r q) l b = none_either (b == a) (x.late b) (l b)
late_next s own x a k l b = l b

-- the sequences
seq_at_start : (z : Option Interval) → with_seq (elim z [ None ↦ 0 | Some x ↦ x.seq ]) z ≡ z
seq_at_start None = refl
seq_at_start (Some x) = refl

seq_twice : (q : ℕ) (z : Option Interval) → with_seq q (with_seq q z) ≡ with_seq q z
seq_twice q None = refl
seq_twice q (Some x) = refl

seq_told : (t : Bool) (q n : ℕ) (z y : Option Interval) → with_seq n y ≡ y → with_seq (if t then q else n) (if t then with_seq q z else y) ≡ (if t then with_seq q z else y)
seq_told true q n z y h = seq_twice q z
seq_told false q n z y h = h

seq_inserted_at : (t : Bool) (n : ℕ) (x : Interval) (y : Option Interval) → with_seq n y ≡ y → with_seq (if t then x.seq else n) (if t then Some x else y) ≡ (if t then Some x else y)
seq_inserted_at true n x y h = refl
seq_inserted_at false n x y h = h

stage_or_seq : (q : ℕ) (t : Stage) (z : Option Interval) → with_seq q (with_stage t z) ≡ with_stage t (with_seq q z)
stage_or_seq q t None = refl
stage_or_seq q t (Some x) = refl

seq_staged : (f : ℕ → ℕ) (i : ℕ → Option Interval) (t : Stage) (m k : ℕ) → ((n : ℕ) → with_seq (f n) (i n) ≡ i n) → with_seq (f m) (if m == k then with_stage t (i k) else i m) ≡ (if m == k then with_stage t (i k) else i m)
seq_staged f i t m k h = by (m == k) refl
  where
    one : (m == k) ≡ true → m ≡ k
    one e = grind (arith, nat_tests)

    by : (b : Bool) → (m == k) ≡ b → with_seq (f m) (if b then with_stage t (i k) else i m) ≡ (if b then with_stage t (i k) else i m)
    by true e = subst (λ n. with_seq (f m) (with_stage t (i n)) ≡ with_stage t (i n)) (one e) (stage_or_seq (f m) t (i m) ∙ ap (with_stage t) (h m))
    by false e = h m

applied_test : (t : Bool) (q : ℕ) (x y : Interval) → with_seq q (if t then Some x else Some y) ≡ (if t then with_seq q (Some x) else with_seq q (Some y))
applied_test true q x y = refl
applied_test false q x y = refl

applied_or_seq : (q p : ℕ) (z : Option Interval) → with_seq q (applied p z) ≡ applied p (with_seq q z)
applied_or_seq q p None = refl
applied_or_seq q p (Some x) = applied_test (x.proc == p) q _ _

seq_ended_at : (t : Bool) (q p : ℕ) (z : Option Interval) → with_seq q z ≡ z → with_seq q (if t then applied p z else z) ≡ (if t then applied p z else z)
seq_ended_at true q p z h = applied_or_seq q p z ∙ ap (applied p) h
seq_ended_at false q p z h = h

seqs_next : (s : After) (own : Bool) (x : Driver) (a : ℕ) (k : Kind) → ((m : ℕ) → with_seqs x.seq s.sequences.interval m ≡ s.sequences.interval m) → (m : ℕ) → with_seqs (driver_next Flaw.NoFlaw s own x a k).seq (sequences_next s.sequences a k).interval m ≡ (sequences_next s.sequences a k).interval m
seqs_next s own x a (Kind.Told n r q) h m = seq_told (m == n) (s.sequences.seq (interval_proc s.sequences n)) (x.seq m) (s.sequences.interval n) (s.sequences.interval m) (h m)
seqs_next s own x a (Kind.End p r q) h m = seq_ended_at (is_last_end s.sequences p) (x.seq m) p (s.sequences.interval m) (h m)
seqs_next s own x a (Kind.Attached n d p r q) h m = seq_inserted_at (m == n) (x.seq m) (record { proc = p; window = r; seq = interval_inserted s.sequences p; stage = if is_odd (s.sequences.seq p) then Stage.InsertDeferred else Stage.InTree }) (s.sequences.interval m) (h m)
seqs_next s own x a (Kind.Detaching n q) h m = seq_staged x.seq s.sequences.interval Stage.RemoveDeferred m n h
seqs_next s own x a (Kind.Detached n) h m = seq_staged x.seq s.sequences.interval Stage.Out m n h
seqs_next s own x a k h m = h m

-- along entries
own_along : (c : Program) (t : Flawed) (es : List Entry) → HasItsOwn t → HasItsOwn (fold (flawed_next Flaw.NoFlaw c) t es)
own_along c t [] o = o
own_along c t (e ∷ es) o = own_along c (flawed_next Flaw.NoFlaw c t e) es (record {
  table = table_next t.state.after own t.driver e.actor e.kind o.table o.late;
  seqs = seqs_next t.state.after own t.driver e.actor e.kind o.seqs;
  late = late_next t.state.after own t.driver e.actor e.kind o.late;
})
  where
    own : Bool
    own = tells_own t.state.after (op_at c e.actor (t.state.going e.actor).index) (t.state.going e.actor).stack e.kind

pub right_keeps_its_own : RightKeepsItsOwn
right_keeps_its_own c h es = own_along c (flawed_from (state_of c h)) es (record { table = refl; seqs = λ m. seq_at_start ((state_of c h).after.sequences.interval m); late = λ a. refl })
