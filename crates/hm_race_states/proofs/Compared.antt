-- What keys of one form have alike.
use Rattle.std.proofs.Common.{◌≡◌, ℕ, Bool, false, List, Option, ap}
use Rattle.hm_base.specs.declared.Place.{Place}
use Rattle.hm_history.specs.Kernel.Going.{Going}
use Rattle.hm_history.specs.Memory.Places.{TableEntry}
use Rattle.hm_history.specs.Memory.Plain.{Plain, MirrorState, plain_start}
use Rattle.hm_history.specs.Memory.Sequences.{Sequences}
use Rattle.hm_history.specs.declared.Kind.{Kind}
use Rattle.hm_history.specs.declared.locks.MapLock.{MapLock}
use Rattle.hm_race_laws.specs.Outcomes.{Point}
use Rattle.hm_race_states.specs.Alike.{SamePlaces, SameProcesses, SameActors, SameAnswers}
use Rattle.hm_race_states.specs.Keyed.{form_in}
use Rattle.hm_race_states.specs.declared.key.StateKey.{StateKey}

pub alike_answers : (x y : StateKey) → form_in x ≡ form_in y → SameAnswers x y
alike_answers x y e = record { answers = λ a. ap {B = List Kind} (λ (z : Point). z.answers a) e }

pub alike_places : (x y : StateKey) → form_in x ≡ form_in y → SamePlaces x.state y.state
alike_places x y e = record {
  places = λ p v. ap {B = Place} (λ (z : Point). z.state.after.places.place p v) e;
  held = λ f. ap {B = Bool} (λ (z : Point). z.state.after.places.held f) e;
  tables = λ m v. ap {B = Option TableEntry} (λ (z : Point). z.state.after.places.table m v) e;
  locks = λ f. ap {B = Option ℕ} (λ (z : Point). z.state.after.locks.frame f) e;
}

pub alike_processes : (x y : StateKey) → form_in x ≡ form_in y → SameProcesses x.state y.state
alike_processes x y e = record {
  spaces = ap {B = Plain} (λ (z : Point). record plain_start { there = z.state.after.plain.there; named = z.state.after.plain.named; been = λ p. false; areas = z.state.after.plain.areas }) e;
  bytes = λ p a. ap {B = ℕ} (λ (z : Point). z.state.after.plain.bytes p a) e;
  mirrors = λ m. ap {B = Option MirrorState} (λ (z : Point). z.state.after.plain.mirrors m) e;
  seqs = ap {B = Sequences} (λ (z : Point). z.state.after.sequences) e;
}

pub alike_actors : (x y : StateKey) → form_in x ≡ form_in y → SameActors x.state y.state
alike_actors x y e = record {
  withdrawn = λ d. ap {B = Bool} (λ (z : Point). z.state.after.places.withdrawn d) e;
  removed = λ d. ap {B = Bool} (λ (z : Point). z.state.after.places.removed d) e;
  maps = λ a. ap {B = Option MapLock} (λ (z : Point). z.state.after.locks.map a) e;
  tasks = λ a. ap {B = Going} (λ (z : Point). z.state.going a) e;
}
