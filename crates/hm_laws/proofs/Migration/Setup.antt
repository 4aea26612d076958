-- The setup of a migration: its lock, and the guard in which it goes through its pages (mm/migrate_device.c).
use Rattle.std.proofs.Common.{◌≡◌, ℕ, ◌<◌, Bool, true, ◌&&◌, ◌==◌, Option, Some, None, List, [], ◌∷◌, refl, sym, subst, arith}
use Rattle.std.proofs.lemmas.Bool.Decides.{nat_tests}
use Rattle.hm_base.specs.Pages.{Pages, covers, lies_in}
use Rattle.hm_base.specs.Program.{Program}
use Rattle.hm_base.specs.declared.cause.Cause.{Cause}
use Rattle.hm_base.specs.declared.ops.Op.{Op}
use Rattle.hm_history.specs.Memory.Plain.{MirrorState, mirror_passes, is_attached_state, in_window, mirror_proc}
use Rattle.hm_history.specs.Memory.Sequences.{seq_started, some_overlap}
use Rattle.hm_history.specs.Memory.After.{After}
use Rattle.hm_history.specs.Kernel.Operation.{op_mirror, is_migration}
use Rattle.hm_history.specs.Kernel.Due.{start_entry, in_window_rlock}
use Rattle.hm_history.specs.declared.Who.{Who}
use Rattle.hm_history.specs.declared.Kind.{Kind}
use Rattle.hm_history.specs.declared.phases.Migrating.{Migrating}
use Rattle.hm_history.specs.declared.phases.MoveStep.TheVariants.{FreezeOthers}
use Rattle.hm_history.specs.declared.phases.Body.{Body}
use Rattle.hm_history.specs.declared.phases.Phase.{Phase}
use Rattle.hm_laws.specs.Past.{Past}
use Rattle.hm_laws.specs.Sound.{Sound}
use Rattle.hm_laws.specs.Allowed.{next, Allowed}
use Rattle.hm_laws.specs.Records.{is_nil, op_range, WellListed}
use Rattle.hm_laws.specs.Facts.{Is, Read_locked, Windowed_all, No_guard, In_guard, Locks_only, nothing_held, facts, HoldsAll}
use Rattle.hm_laws.proofs.Due.Good.{Good, Led, either, rlock_ok, release_none, not_short}
use Rattle.hm_laws.proofs.Due.Guards.{started, start_takes}
use Rattle.hm_history.proofs.Updates.{here_at}
use Rattle.hm_laws.proofs.Due.Mirrors.{window_some}
use Rattle.hm_laws.proofs.Due.Areas.{least_first}

-- the lock, where the pages lie in the window of the mirror
covered_in : (x : Option MirrorState) (r : Pages) (v : ℕ) → mirror_passes (λ y. is_attached_state y && lies_in r y.window) x ≡ true → covers r v ≡ true → mirror_passes (λ y. covers y.window v) x ≡ true
covered_in None r v h k = cc
covered_in (Some x) r v h k = grind (arith, nat_tests)

pub has_lock : (s : After) (t : Past) (a m : ℕ) (r : Pages) (xs : List Migrating) → in_window s.plain m r ≡ true → is_nil xs ≡ true → HoldsAll s t a nothing_held →
    HoldsAll (next s a (Kind.Rlock (mirror_proc s.plain m))) t a (No_guard ∷ Locks_only [] ∷ Is (is_nil xs) ∷ Read_locked (Who.Mirror m) ∷ Windowed_all m r ∷ [])
has_lock s t a m r xs w nil h = (h.1.0, (h.1.1.0, (nil, ((window_some (s.plain.mirrors m) r w, here_at s.locks.map a _), ((λ v cv. covered_in (s.plain.mirrors m) r v w cv), tt)))))

pub migrate_begin_ok : (c : Program) (s : After) (t : Past) (a m : ℕ) (r : Pages) (o : Op) (xs : List Migrating) → a < 16 → Sound c s t → HoldsAll s t a nothing_held →
    (in_window s.plain m r ≡ true → Led s t a o xs Phase.Begin [] (Kind.Rlock (mirror_proc s.plain m))) → Led s t a o xs Phase.Begin [] (Kind.Refused Cause.Outside) → Good c s t a o xs Phase.Begin [] (in_window_rlock s m r)
migrate_begin_ok c s t a m r o xs few so h led refused = either (Good c s t a o xs Phase.Begin []) (in_window s.plain m r) _ _
    (λ w. rlock_ok c s t a o xs Phase.Begin (mirror_proc s.plain m) few so h.0 (led w))
    (λ w. (release_none s a h.0, not_short c s Cause.Outside refl, refused))

pub refused_window : (s : After) (t : Past) (a : ℕ) → HoldsAll s t a nothing_held → HoldsAll (next s a (Kind.Refused Cause.Outside)) t a nothing_held
refused_window s t a h = (here_at s.locks.map a None, h.1)

-- the guard over all its pages
no_records : (xs : List Migrating) → is_nil xs ≡ true → xs ≡ []
no_records [] h = refl
no_records (x ∷ xs) h = cc

none_listed : WellListed []
none_listed = record { rising = refl; apart = λ y z f m n i j. absurd m; own = λ y f m i j. absurd m }

pub at_itself : (n : ℕ) → (n == n) ≡ true
at_itself n = grind (arith, nat_tests)

pub migrate_ready : (s : After) (t : Past) (a : ℕ) (o : Op) (xs : List Migrating) → is_migration o ≡ true → HoldsAll s t a (No_guard ∷ Locks_only [] ∷ Is (is_nil xs) ∷ Read_locked (Who.Mirror (op_mirror o)) ∷ Windowed_all (op_mirror o) (op_range o) ∷ []) →
    (met : Bool) → HoldsAll (next s a (start_entry s (mirror_proc s.plain (op_mirror o)) (op_range o))) t a (In_guard (mirror_proc s.plain (op_mirror o)) (op_range o) met None ∷ []) →
    HoldsAll (next s a (start_entry s (mirror_proc s.plain (op_mirror o)) (op_range o))) t a (facts o xs (Phase.Guard (mirror_proc s.plain (op_mirror o)) (op_range o) met None (Body.Select (op_range o).first) ∷ Phase.Moves FreezeOthers (op_range o).first ∷ []))
migrate_ready s t a o xs m h met g = subst (λ ys. HoldsAll (next s a (start_entry s (mirror_proc s.plain (op_mirror o)) (op_range o))) t a (facts o ys (Phase.Guard (mirror_proc s.plain (op_mirror o)) (op_range o) met None (Body.Select (op_range o).first) ∷ Phase.Moves FreezeOthers (op_range o).first ∷ []))) (sym (no_records xs h.1.1.0))
    (g.0, (h.1.0, ((h.1.1.1.0.0, refl, refl), (refl, (at_itself (op_range o).first, (least_first (op_range o).first, (refl, (h.1.1.1.1.0, (m, (none_listed, (h.1.1.1.0, tt)))))))))))

pub migrate_ready_ok : (c : Program) (s : After) (t : Past) (a : ℕ) (o : Op) (xs : List Migrating) → a < 16 → is_migration o ≡ true → HoldsAll s t a (No_guard ∷ Locks_only [] ∷ Is (is_nil xs) ∷ Read_locked (Who.Mirror (op_mirror o)) ∷ Windowed_all (op_mirror o) (op_range o) ∷ []) →
    Allowed c s t a (start_entry s (mirror_proc s.plain (op_mirror o)) (op_range o)) × HoldsAll (next s a (start_entry s (mirror_proc s.plain (op_mirror o)) (op_range o))) t a (facts o xs (Phase.Guard (mirror_proc s.plain (op_mirror o)) (op_range o) (some_overlap s.sequences (mirror_proc s.plain (op_mirror o)) (op_range o)) None (Body.Select (op_range o).first) ∷ Phase.Moves FreezeOthers (op_range o).first ∷ []))
migrate_ready_ok c s t a o xs few m h = (
  (few, start_takes s a (mirror_proc s.plain (op_mirror o)) (op_range o) h.0),
  migrate_ready s t a o xs m h (some_overlap s.sequences (mirror_proc s.plain (op_mirror o)) (op_range o)) (started s a (mirror_proc s.plain (op_mirror o)) (op_range o) (seq_started s.sequences (mirror_proc s.plain (op_mirror o)) (op_range o)), tt),
)
