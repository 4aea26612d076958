-- Where the pages of a migration have come to, the device's own table has them (`dmirror_migrate_finalize_and_map`,
-- lib/test_hmm.c).
use Rattle.std.proofs.Common.{◌≡◌, ℕ, ◌+◌, ◌≤◌, Bool, true, false, not, ◌==◌, ◌&&◌, Option, Some, None, List, [], ◌∷◌, ◌++◌, refl, sym, ap, ◌∙◌, subst}
use Rattle.std.proofs.lemmas.Bool.{and_parts, not-true, or_left}
use Rattle.std.proofs.lemmas.Option.{same_Some}
use Rattle.hm_base.specs.Pages.{covers}
use Rattle.hm_base.specs.Program.{Program}
use Rattle.hm_base.specs.declared.PoolId.{PoolId}
use Rattle.hm_base.specs.declared.Frame.{Frame}
use Rattle.hm_base.specs.declared.Place.{Place}
use Rattle.hm_base.specs.declared.ops.Op.{Op}
use Rattle.hm_history.specs.Memory.Words.{sys_frame, names_directly, moving_frame, writable}
use Rattle.hm_history.specs.Memory.Plain.{MirrorState, is_attached_state, mirror_passes, is_attached, mirror_proc, mirror_dev}
use Rattle.hm_history.specs.Memory.Places.{is_for_device}
use Rattle.hm_history.specs.Memory.Sequences.{Interval, interval_seq}
use Rattle.hm_history.specs.Memory.After.{After}
use Rattle.hm_history.specs.Kernel.Operation.{op_mirror, is_to_device}
use Rattle.hm_history.specs.Kernel.Going.{sets_now}
use Rattle.hm_history.specs.Kernel.Due.{right_of, due_step}
use Rattle.hm_history.specs.declared.Kind.{Kind}
use Rattle.hm_history.specs.declared.phases.Migrating.{Migrating}
use Rattle.hm_history.specs.declared.phases.MoveStep.{MoveStep}
use Rattle.hm_history.specs.declared.phases.MoveStep.TheVariants.{SetOwnTable}
use Rattle.hm_laws.specs.Stood.{Fits, Matches}
use Rattle.hm_laws.specs.Past.{Past, past_next, is_position}
use Rattle.hm_laws.specs.Sound.{Sound}
use Rattle.hm_laws.specs.Allowed.{next, SetOk, Allowed}
use Rattle.hm_laws.specs.Facts.{No_guard, Locks_only, Within, Lands_on, of_system, Holds, facts_past, frames_of, held, migrating, record_facts, records, HoldsAll}
use Rattle.hm_laws.proofs.Due.Guards.{number_is}
use Rattle.hm_laws.proofs.State.MirrorInterval.{Mirrored, mirrored}
use Rattle.hm_laws.proofs.Other.Noted.{matches_right}
use Rattle.hm_laws.proofs.Own.Records.{migrating_on}
use Rattle.hm_laws.proofs.Migration.Good.{Came, Steps}
use Rattle.hm_laws.proofs.Migration.Records.{records_each}
use Rattle.hm_laws.proofs.Migration.PagePast.{stage_says}
use Rattle.hm_history.proofs.Tests.{true_false}
use Rattle.hm_laws.proofs.Due.MirrorPieces.{less_of}

-- the place of a page that has come to its frame, or is under way there, fits an entry for that frame
fits_own : (to : Frame → Option Frame) (x : Place) (g : Frame) → names_directly x ≡ Some g → of_system g ≡ false → Fits to (Some g) (writable x) x
fits_own to Place.Empty g n d = cc
fits_own to Place.Zero g n d = cc
fits_own to (Place.Sys i w) g n d = (sym n, λ k. k)
fits_own to (Place.Own e i w) g n d = (sym n, λ k. k)
fits_own to (Place.Moving f w) g n d = cc
fits_own to (Place.Exclusive i b) g n d = absurd (true_false (of_system g) (ap of_system (sym (same_Some (sys_frame i) g n))) d)

fits_coming : (to : Frame → Option Frame) (x : Place) (f g : Frame) → moving_frame x ≡ Some f → to f ≡ Some g → Fits to (Some g) (writable x) x
fits_coming to Place.Empty f g m e = cc
fits_coming to Place.Zero f g m e = cc
fits_coming to (Place.Sys i w) f g m e = cc
fits_coming to (Place.Own d i w) f g m e = cc
fits_coming to (Place.Moving h w) f g m e = (ap to (same_Some h f m) ∙ e, refl, λ k. k)
fits_coming to (Place.Exclusive i b) f g m e = cc

-- the frame is of the mirror's device
device_frame : (g : Frame) (d : ℕ) → g.pool ≡ PoolId.Device d → is_for_device (Some g) d ≡ true
device_frame g d e = ap (λ (x : PoolId). elim x [ PoolId.System ↦ true | PoolId.Device i ↦ d == i ]) e ∙ number_is d d refl

lands_device : (s : After) (t : Past) (a : ℕ) (o : Op) (g : Frame) → is_to_device o ≡ true → Holds s t a (Lands_on o g) → is_for_device (Some g) (mirror_dev s.plain (op_mirror o)) ≡ true
lands_device s t a o g dev h = device_frame g (mirror_dev s.plain (op_mirror o)) (h.1 ∙ ap (λ b. elim b [ true ↦ PoolId.Device (mirror_dev s.plain (op_mirror o)) | false ↦ PoolId.System ]) dev)

-- the mirror is attached, and is not being told
not_told : (s : After) (m : ℕ) → sets_now s m ≡ true → (is_attached s.plain m ≡ true) × (interval_seq s.sequences m ≡ s.sequences.seq (mirror_proc s.plain m) → ⊥)
not_told s m h = (z.0, λ e. true_false (interval_seq s.sequences m == s.sequences.seq (mirror_proc s.plain m)) (number_is (interval_seq s.sequences m) (s.sequences.seq (mirror_proc s.plain m)) e) (not-true (interval_seq s.sequences m == s.sequences.seq (mirror_proc s.plain m)) z.1))
  where
    z : (is_attached s.plain m ≡ true) × (not (interval_seq s.sequences m == s.sequences.seq (mirror_proc s.plain m)) ≡ true)
    z = and_parts (is_attached s.plain m) (not (interval_seq s.sequences m == s.sequences.seq (mirror_proc s.plain m))) h

set_ok : (c : Program) (s : After) (t : Past) (a m v : ℕ) (g : Frame) → Sound c s t → sets_now s m ≡ true → Within s.plain m v → Fits s.places.committed_to (Some g) (writable (s.places.place (mirror_proc s.plain m) v)) (s.places.place (mirror_proc s.plain m) v) → is_for_device (Some g) (mirror_dev s.plain m) ≡ true →
    SetOk s t a m v (Some g) (right_of (writable (s.places.place (mirror_proc s.plain m) v))) s.length
set_ok c s t a m v g so now w fits dev = at (mirrored c s t m is_attached_state so (not_told s m now).0)
  where
    at : Mirrored s m is_attached_state → SetOk s t a m v (Some g) (right_of (writable (s.places.place (mirror_proc s.plain m) v))) s.length
    at mi = record {
      mirror = mi.mirror;
      is = mi.is;
      attached = mi.passes;
      fits = record {
        in_window = sym (ap (mirror_passes (λ y. covers y.window v)) mi.is) ∙ w;
        matches = subst (λ p. Matches s.places.committed_to (Some g) (right_of (writable (s.places.place (mirror_proc s.plain m) v))) (s.places.place p v)) proc (matches_right s.places.committed_to (Some g) (writable (s.places.place (mirror_proc s.plain m) v)) (s.places.place (mirror_proc s.plain m) v) fits);
        own_device = subst (λ d. is_for_device (Some g) d ≡ true) device dev;
      };
      below = less_of (interval_seq s.sequences m) (s.sequences.seq mi.mirror.proc) (subst (λ p. interval_seq s.sequences m ≤ s.sequences.seq p) mi.paired.proc (subst (λ i. i ≤ s.sequences.seq mi.interval.proc) (sym seq) (so.sequences.not_above m mi.interval mi.is_interval))) (λ e. (not_told s m now).1 (e ∙ ap s.sequences.seq (sym proc)));
      untold = so.past.told_below m v;
      rightly = or_left (s.length == s.length) (is_position (t.begun a m) s.length) (number_is s.length s.length refl);
    }
      where
        proc : mirror_proc s.plain m ≡ mi.mirror.proc
        proc = ap (λ (y : Option MirrorState). elim y [ None ↦ 0 | Some z ↦ z.proc ]) mi.is

        device : mirror_dev s.plain m ≡ mi.mirror.dev
        device = ap (λ (y : Option MirrorState). elim y [ None ↦ 0 | Some z ↦ z.dev ]) mi.is

        seq : interval_seq s.sequences m ≡ mi.interval.seq
        seq = ap (λ (y : Option Interval). elim y [ None ↦ 0 | Some z ↦ z.seq ]) mi.is_interval

-- nothing that is known of a record changes in this step
records_same : (o : Op) (v : ℕ) (xs : List Migrating) → records o SetOwnTable (v + 1) None xs ≡ records o SetOwnTable v None xs
records_same o v [] = refl
records_same o v (x ∷ xs) = ap (λ l. record_facts o SetOwnTable v None x ++ l) (records_same o v xs)

migrating_same : (s : After) (t : Past) (a : ℕ) (o : Op) (xs : List Migrating) (v : ℕ) → HoldsAll s t a (migrating o xs SetOwnTable v None) → HoldsAll s t a (migrating o xs SetOwnTable (v + 1) None)
migrating_same s t a o xs v h = (h.0, (h.1.0, (h.1.1.0, subst (HoldsAll s t a) (sym (records_same o v xs)) h.1.1.1)))

locks_same : (s : After) (t : Past) (a : ℕ) (o : Op) (xs : List Migrating) (v : ℕ) → Holds s t a (Locks_only (held o xs SetOwnTable v None)) → Holds s t a (Locks_only (held o xs SetOwnTable (v + 1) None))
locks_same s t a o xs v h = subst (λ l. Holds s t a (Locks_only (frames_of l))) (sym (records_same o v xs)) h

abbrev sets : After → Op → Migrating → Kind
sets s o x = Kind.Set (op_mirror o) x.page x.dest (right_of (writable (s.places.place (mirror_proc s.plain (op_mirror o)) x.page))) s.length

set_steps : (c : Program) (s : After) (t : Past) (a : ℕ) (o : Op) (xs : List Migrating) (x : Migrating) (step : MoveStep) (v : ℕ) → Sound c s t → Holds s t a No_guard → Came s t a o xs SetOwnTable x → Allowed c s t a (sets s o x) → Steps c s t a o xs step v (Some x) (sets s o x)
set_steps c s t a o xs x step v so n h ok = (
  ok,
  tt,
  (
    n,
    (
      locks_same s t a o xs x.page h.locks,
      migrating_same (next s a (sets s o x)) (past_next t s.length a (sets s o x)) a o xs x.page (migrating_on c s t a (sets s o x) so ok (record { map = refl; there = λ p. refl; areas = λ p. refl }) o xs SetOwnTable x.page None (λ f m. tt) h.knows),
    ),
  ),
)

-- the record is of a page that was moved, to a frame of the device
fit_record : (s : After) (t : Past) (a : ℕ) (o : Op) (u : ℕ) (source : Option Frame) (g : Frame) → HoldsAll s t a (facts_past o true true true false None (record { page = u; source = source; dest = Some g; moved = true })) →
    Fits s.places.committed_to (Some g) (writable (s.places.place (mirror_proc s.plain (op_mirror o)) u)) (s.places.place (mirror_proc s.plain (op_mirror o)) u) × Holds s t a (Lands_on o g)
fit_record s t a o u None g h = (fits_own s.places.committed_to (s.places.place (mirror_proc s.plain (op_mirror o)) u) g h.1.1.1.0.4 h.1.1.1.0.3, h.1.1.1.1.0)
fit_record s t a o u (Some f) g h = (fits_coming s.places.committed_to (s.places.place (mirror_proc s.plain (op_mirror o)) u) f g h.1.1.1.0.3 h.1.1.0.moved, h.1.1.1.1.0)

set_own_table_by : (c : Program) (s : After) (t : Past) (a : ℕ) (o : Op) (xs : List Migrating) (u : ℕ) (source dest : Option Frame) (moved : Bool) (step : MoveStep) (v : ℕ) → Sound c s t → Holds s t a No_guard → Came s t a o xs SetOwnTable (record { page = u; source = source; dest = dest; moved = moved }) → is_to_device o ≡ true → (moved && sets_now s (op_mirror o)) ≡ true →
    Steps c s t a o xs step v (Some (record { page = u; source = source; dest = dest; moved = moved })) (sets s o (record { page = u; source = source; dest = dest; moved = moved }))
set_own_table_by c s t a o xs u source dest false step v so n h dev now = cc
set_own_table_by c s t a o xs u source None true step v so n h dev now = absurd (true_false false (stage_says o true true x (records_each s t a o SetOwnTable u None xs h.knows.1.1.1 x h.among).0).committed refl)
  where
    x : Migrating
    x = record { page = u; source = source; dest = None; moved = true }
set_own_table_by c s t a o xs u source (Some g) true step v so n h dev now = set_steps c s t a o xs x step v so n h (set_ok c s t a (op_mirror o) u g so now k.1.0 (fit_record s t a o u source g k).0 (lands_device s t a o g dev (fit_record s t a o u source g k).1))
  where
    x : Migrating
    x = record { page = u; source = source; dest = Some g; moved = true }

    k : HoldsAll s t a (facts_past o true true true false None (record { page = u; source = source; dest = Some g; moved = true }))
    k = records_each s t a o SetOwnTable u None xs h.knows.1.1.1 (record { page = u; source = source; dest = Some g; moved = true }) h.among

pub set_own_table_ok : (c : Program) (s : After) (t : Past) (a : ℕ) (o : Op) (xs : List Migrating) (x : Migrating) (step : MoveStep) (v : ℕ) → Sound c s t → Holds s t a No_guard → Came s t a o xs SetOwnTable x → Steps c s t a o xs step v (Some x) (due_step c s o SetOwnTable x)
set_own_table_ok c s t a o xs x step v so n h = let z : (is_to_device o ≡ true) × ((x.moved && sets_now s (op_mirror o)) ≡ true) = and_parts (is_to_device o) (x.moved && sets_now s (op_mirror o)) h.concerned in set_own_table_by c s t a o xs x.page x.source x.dest x.moved step v so n h z.0 z.1
