-- A world with one more entry.
use Rattle.std.proofs.Common.{List, ◌≡◌, ℕ, ◌<◌, Option, None, [], ◌∷◌, ◌++◌, length, sym, arith, subst, length-append}
use Rattle.hm_base.specs.Program.{Program}
use Rattle.hm_base.specs.declared.Frame.{Frame}
use Rattle.hm_base.specs.declared.Place.{Place}
use Rattle.hm_history.specs.Memory.Locks.{orphan}
use Rattle.hm_history.specs.Kernel.Due.{due}
use Rattle.hm_history.specs.Kernel.Going.{State, state_next, state_of-snoc}
use Rattle.hm_history.specs.declared.Kind.{Kind}
use Rattle.hm_history.specs.declared.Progress.{Progress}
use Rattle.hm_history.specs.declared.phases.Seen.{Seen}
use Rattle.hm_history.proofs.RunLemmas.{DueFrom-append}
use Rattle.hm_frames.specs.Pools.{frames_next}
use Rattle.hm_frames.specs.Shown.{entry_place}
use Rattle.hm_frames.proofs.Kept.{frames_kept}
use Rattle.hm_tables.specs.Steps.{tables_next, TablesRange}
use Rattle.hm_tables.proofs.TablesKept.{tables_kept}
use Rattle.hm_spaces.specs.Spaces.{spaces_next, HasParent}
use Rattle.hm_spaces.proofs.SpacesKept.{spaces_kept}
use Rattle.hm_notifiers.specs.NotifiersValue.{notifiers_next, InRange}
use Rattle.hm_notifiers.proofs.Kept.{notifiers_kept}
use Rattle.hm_mirrors.specs.Mirrors.{mirrors_next}
use Rattle.hm_mirrors.proofs.Kept.{mirrors_kept}
use Rattle.hm_actors.specs.Actors.{actors_next, IsSeen}
use Rattle.hm_actors.proofs.ActorsKept.{actors_kept}
use Rattle.hm_world.specs.WorldValue.{WorldValue, now, grown, HaltsRightly}
use Rattle.hm_world.specs.Stands.{Parts, Shows, Stands}
use Rattle.hm_world.specs.Fits.{Fits}

-- what a step of each structure did
pub record Steps (c : Program) (a : ℕ) (k : Kind) (seen : Seen) (old : Place) (left : Option Frame) (x y : Parts) : Type 0 where
  pub frames : y.frames ≡ frames_next a k old left x.frames
  pub tables : y.tables ≡ tables_next k x.tables
  pub tables_range : TablesRange k
  pub spaces : y.spaces ≡ spaces_next a k x.spaces
  pub spaces_range : HasParent k
  pub notifiers : y.notifiers ≡ notifiers_next k x.notifiers
  pub notifiers_range : InRange k
  pub room : List ℕ
  pub mirrors : y.mirrors ≡ mirrors_next room k x.mirrors
  pub actors : y.actors ≡ actors_next c a k seen x.actors

-- what the world read before
pub record Reads (c : Program) (s : State) (a : ℕ) (k : Kind) (seen : Seen) (old : Place) (left : Option Frame) : Type 0 where
  pub place : old ≡ entry_place s.after.plain s.after.places k
  pub left_by : left ≡ orphan s.after.locks s.after.places k
  pub noted : IsSeen c s.after a (s.going a) k seen

pub shows_grown : (c : Program) (s : State) (a : ℕ) (k : Kind) (seen : Seen) (old : Place) (left : Option Frame) (x y : Parts) →
    Shows c s x → Fits c s a k → Reads c s a k seen old left → Steps c a k seen old left x y → Shows c (state_next c s (record { actor = a; kind = k })) y
shows_grown c s a k seen old left x y h f r d = record {
  frames = rw d.frames (frames_kept c s.after a k old left x.frames r.place r.left_by h.frames f.frames);
  tables = rw d.tables (tables_kept c s.after.places k x.tables h.tables f.tables d.tables_range);
  spaces = rw d.spaces (spaces_kept s.after a k x.spaces d.spaces_range h.spaces);
  notifiers = rw d.notifiers (notifiers_kept s.after.length s.after.sequences a k x.notifiers h.notifiers f.notifiers d.notifiers_range);
  mirrors = rw d.mirrors (mirrors_kept s.after.plain s.after.places k d.room x.mirrors h.mirrors f.mirrors);
  actors = rw d.actors (actors_kept c s a k seen (length c.actors) x.actors r.noted h.actors);
}

pub now_grown : (t : WorldValue) (a : ℕ) (k : Kind) → now (grown t a k) ≡ state_next t.script (now t) (record { actor = a; kind = k })
unfolding now
now_grown t a k = state_of-snoc t.script t.history (record { actor = a; kind = k })

pub stands_grown : (t : WorldValue) (a : ℕ) (k : Kind) (x y : Parts) → Stands t x → t.halted ≡ None → length t.history < 2000000 → due t.script t.history a ≡ Progress.Did (record { actor = a; kind = k }) →
    Shows t.script (state_next t.script (now t) (record { actor = a; kind = k })) y → Stands (grown t a k) y
stands_grown t a k x y st run l d sh = record {
  script = st.script;
  due = DueFrom-append t.script [] t.history (record { actor = a; kind = k }) st.due d;
  few = omega (arith, length-append t.history (record { actor = a; kind = k } ∷ []), l);
  halted = subst (HaltsRightly t.script (t.history ++ record { actor = a; kind = k } ∷ [])) (sym run) tt;
  shows = subst (λ s. Shows t.script s y) (sym (now_grown t a k)) sh;
}
