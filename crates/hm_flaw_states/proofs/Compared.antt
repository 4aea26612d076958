-- What states that are the same have alike, and the other way round.
use Rattle.std.proofs.Common.{◌≡◌, ℕ, Bool, Option, None, List, ap, ◌∙◌}
use Rattle.std.proofs.Math.Path.{fun_ext}
use Rattle.hm_base.specs.Pages.{Pages}
use Rattle.hm_base.specs.declared.Frame.{Frame}
use Rattle.hm_base.specs.declared.Place.{Place}
use Rattle.hm_history.specs.Kernel.Going.{Going, State}
use Rattle.hm_history.specs.Memory.Places.{TableEntry}
use Rattle.hm_history.specs.Memory.Plain.{Plain, MirrorState}
use Rattle.hm_history.specs.Memory.Sequences.{Sequences, Guarded}
use Rattle.hm_history.specs.declared.locks.MapLock.{MapLock}
use Rattle.hm_flaws.specs.Drivers.{Driver}
use Rattle.hm_folds.proofs.PlainParts.{same_plain}
use Rattle.hm_folds.proofs.SeqSteps.{same_state}
use Rattle.hm_flaw_states.specs.Owns.{driver_in}
use Rattle.hm_flaw_states.specs.declared.owns.Own.{Own}
use Rattle.hm_race_states.specs.Spaces.{bare}
use Rattle.hm_flaw_states.specs.Alike.{SameProcesses, SamePlaces, SameActors, SameOwns}
use Rattle.hm_flaw_states.specs.States.{device_of, state_in}
use Rattle.hm_flaw_states.specs.declared.state.FlawState.{FlawState}
use Rattle.hm_flaw_states.proofs.Wholes.{same_places, same_locks, same_after}
use Rattle.hm_flaw_states.proofs.Nexts.{same_whole}

pub alike_processes : (x y : FlawState) → state_in x ≡ state_in y → SameProcesses x y
alike_processes x y e = record {
  been = λ p. ap {B = Bool} (λ (z : State). z.after.plain.been p) e;
  spaces = ap {B = Plain} (λ (z : State). bare z.after.plain) e;
  bytes = λ p a. ap {B = ℕ} (λ (z : State). z.after.plain.bytes p a) e;
  mirrors = λ m. ap {B = Option MirrorState} (λ (z : State). z.after.plain.mirrors m) e;
}

pub alike_places : (x y : FlawState) → state_in x ≡ state_in y → SamePlaces x y
alike_places x y e = record {
  places = λ p v. ap {B = Place} (λ (z : State). z.after.places.place p v) e;
  placed = ap {B = List (ℕ × ℕ)} (λ (z : State). z.after.places.placed) e;
  held = λ f. ap {B = Bool} (λ (z : State). z.after.places.held f) e;
  commits = λ f. ap {B = Option Frame} (λ (z : State). z.after.places.committed_to f) e;
  withdrawn = λ d. ap {B = Bool} (λ (z : State). z.after.places.withdrawn d) e;
  removed = λ d. ap {B = Bool} (λ (z : State). z.after.places.removed d) e;
  tables = λ m v. ap {B = Option TableEntry} (λ (z : State). z.after.places.table m v) e;
}

pub alike_actors : (x y : FlawState) → state_in x ≡ state_in y → SameActors x y
alike_actors x y e = record {
  entries = ap {B = ℕ} (λ (z : State). z.after.length) e;
  seqs = ap {B = Sequences} (λ (z : State). record z.after.sequences { guard = λ a. None }) e;
  guards = λ a. ap {B = Option Guarded} (λ (z : State). z.after.sequences.guard a) e;
  maps = λ a. ap {B = Option MapLock} (λ (z : State). z.after.locks.map a) e;
  locks = λ f. ap {B = Option ℕ} (λ (z : State). z.after.locks.frame f) e;
  contents = λ f o. ap {B = ℕ} (λ (z : State). z.after.contents f o) e;
  tasks = λ a. ap {B = Going} (λ (z : State). z.going a) e;
}

-- states that are alike in all parts are one
pub one_state : (x y : FlawState) → SameActors x y → SamePlaces x y → SameProcesses x y → state_in x ≡ state_in y
one_state x y a t p = same_whole _ _
    (same_after _ _ a.entries
    (same_plain _ _ (ap (λ (z : Plain). z.there) p.spaces) (ap (λ (z : Plain). z.named) p.spaces) (fun_ext p.been) (ap (λ (z : Plain). z.areas) p.spaces) (fun_ext (λ i. fun_ext (p.bytes i))) (fun_ext p.mirrors))
    (same_places _ _ (fun_ext (λ i. fun_ext (t.places i))) t.placed (fun_ext t.held) (fun_ext t.commits) (fun_ext t.withdrawn) (fun_ext t.removed) (fun_ext (λ i. fun_ext (t.tables i)))
    (ap (λ (f : ℕ → Option MirrorState). λ (m : ℕ). device_of (f m)) (fun_ext p.mirrors)))
    (same_state _ _ (ap (λ (z : Sequences). z.seq) a.seqs) (ap (λ (z : Sequences). z.active) a.seqs) (ap (λ (z : Sequences). z.interval) a.seqs) (fun_ext a.guards))
    (same_locks _ _ (fun_ext a.maps) (fun_ext a.locks))
    (fun_ext (λ f. fun_ext (a.contents f))))
    (fun_ext a.tasks)

-- ---- what a driver has of its own

pub alike_owns : (x y : Own) → driver_in x ≡ driver_in y → SameOwns x y
alike_owns x y e = record {
  seqs = λ m. ap {B = ℕ} (λ (z : Driver). z.seq m) e;
  table = λ m v. ap {B = Option TableEntry} (λ (z : Driver). z.table m v) e;
  late = λ a. ap {B = List (ℕ × Pages)} (λ (z : Driver). z.late a) e;
  bytes = λ f o. ap {B = ℕ} (λ (z : Driver). z.contents f o) e;
}

abbrev driver_made : (ℕ → ℕ → Option TableEntry) → (ℕ → ℕ) → (ℕ → List (ℕ × Pages)) → (Frame → ℕ → ℕ) → Driver
driver_made a b c d = record { table = a; seq = b; late = c; contents = d }

same_driver : (s t : Driver) → s.table ≡ t.table → s.seq ≡ t.seq → s.late ≡ t.late → s.contents ≡ t.contents → s ≡ t
same_driver s t a b c d =
    ap (λ x. driver_made x s.seq s.late s.contents) a ∙ ap (λ x. driver_made t.table x s.late s.contents) b
    ∙ ap (λ x. driver_made t.table t.seq x s.contents) c ∙ ap (λ x. driver_made t.table t.seq t.late x) d

pub one_driver : (x y : Own) → SameOwns x y → driver_in x ≡ driver_in y
one_driver x y p = same_driver _ _ (fun_ext (λ m. fun_ext (p.table m))) (fun_ext p.seqs) (fun_ext p.late) (fun_ext (λ f. fun_ext (p.bytes f)))
