-- An entry that is due is added: room is made for it, each structure takes it, and the world stands.
use Rattle.std.proofs.Common.{◌≡◌, ℕ, ◌<◌, Option, None, List, length, sym, subst, ap, ◌∙◌}
use Rattle.hm_base.specs.Program.{Program}
use Rattle.hm_base.specs.declared.Frame.{Frame}
use Rattle.hm_base.specs.declared.Place.{Place}
use Rattle.hm_history.specs.Memory.Locks.{orphan}
use Rattle.hm_history.specs.Kernel.Due.{due}
use Rattle.hm_history.specs.declared.Kind.{Kind}
use Rattle.hm_history.specs.declared.Entry.{Entry}
use Rattle.hm_history.specs.declared.Progress.{Progress}
use Rattle.hm_history.specs.declared.StepError.{StepError}
use Rattle.hm_history.specs.declared.phases.Seen.{Seen}
use Rattle.hm_frames.specs.Shown.{StepFits, entry_place}
use Rattle.hm_frames.proofs.Kept.{step_fits}
use Rattle.hm_tables.specs.Values.{Tables, place_of, size_in}
use Rattle.hm_tables.specs.Steps.{TablesFit, SameTables}
use Rattle.hm_tables.proofs.TablesKept.{fits_shown, shown_same}
use Rattle.hm_spaces.specs.Spaces.{SpacesFit, plain_of}
use Rattle.hm_spaces.proofs.SpacesKept.{spaces_fit}
use Rattle.hm_notifiers.specs.NotifiersValue.{NotifiersValue, CanStep, SameNotifiers}
use Rattle.hm_notifiers.proofs.Fits.{can_step}
use Rattle.hm_notifiers.proofs.Kept.{same_kept}
use Rattle.hm_mirrors.specs.Mirrors as mirrors
use Rattle.hm_mirrors.specs.declared.info.Mirror.{Mirror}
use Rattle.hm_mirrors.proofs.Fits as mirrors_fit
use Rattle.hm_mirrors.proofs.Kept.{reserved_kept}
use Rattle.hm_actors.specs.Actors.{TaskValue, ActorsFit, IsSeen, going_of, goings}
use Rattle.hm_actors.proofs.ActorsKept.{goings_shown, actors_fit}
use Rattle.hm_world.specs.WorldValue.{WorldValue, now, grown}
use Rattle.hm_world.specs.Stands.{Parts, Stands}
use Rattle.hm_world.specs.Fits.{Fits}
use Rattle.hm_world.proofs.Standing.{fits_due}
use Rattle.hm_world.proofs.Growing.{Steps, shows_grown, stands_grown}

-- an entry of an actor is due in a world that goes on
pub record IsNext (t : WorldValue) (a : ℕ) (k : Kind) : Type 0 where
  pub few : length t.history < 2000000
  pub runs : t.halted ≡ None
  pub is_due : due t.script t.history a ≡ Progress.Did (record { actor = a; kind = k })

pub is_next : (t u : WorldValue) → t ≡ u → (a : ℕ) (k : Kind) → length u.history < 2000000 → u.halted ≡ None → due u.script u.history a ≡ Progress.Did (record { actor = a; kind = k }) → IsNext t a k
is_next t u e a k l r d = subst (λ v. IsNext v a k) (sym e) (record { few = l; runs = r; is_due = d })

fits_at : (t : WorldValue) (x : Parts) → Stands t x → (a : ℕ) (k : Kind) → IsNext t a k → Fits t.script (now t) a k
fits_at t x s a k n = fits_due t x s a k n.few n.is_due

pub tables_ready : (t : WorldValue) (x : Parts) → Stands t x → (a : ℕ) (k : Kind) → IsNext t a k → TablesFit (size_in x.tables.pools) k
tables_ready t x s a k n = fits_shown t.script _ _ x.tables s.shows.tables k (fits_at t x s a k n).tables

pub old_place : (t : WorldValue) (x : Parts) → Stands t x → (k : Kind) (old : Place) → old ≡ entry_place (now t).after.plain (now t).after.places k → (p v : ℕ) (y : Place) → k ≡ Kind.Place p v y → old ≡ place_of x.tables p v
old_place t x s k old is p v y e = is ∙ ap (entry_place (now t).after.plain (now t).after.places) e ∙ sym (s.shows.tables.places p v)

pub reserved_stands : (c : Program) (g h : List Entry) (z : Option StepError) (x : Parts) → Stands (record { script = c; history = g; halted = z }) x → h ≡ g → (tables : Tables) → SameTables x.tables tables → (room : List ℕ) (k : Kind) (ms : List (Option Mirror)) → ms ≡ mirrors.reserved room k x.mirrors → (ts : List TaskValue) → goings ts ≡ goings x.actors → (ns : NotifiersValue) → SameNotifiers x.notifiers ns →
    Stands (record { script = c; history = h; halted = z }) (record { frames = x.frames; tables = tables; spaces = x.spaces; notifiers = ns; mirrors = ms; actors = ts })
reserved_stands c g h z x s e tables st room k ms em ts et ns sn = subst (λ l. Stands (record { script = c; history = l; halted = z }) (record { frames = x.frames; tables = tables; spaces = x.spaces; notifiers = ns; mirrors = ms; actors = ts })) (sym e) (record {
  script = s.script;
  due = s.due;
  few = s.few;
  halted = s.halted;
  shows = record {
    frames = s.shows.frames;
    tables = shown_same c _ _ x.tables tables st s.shows.tables;
    spaces = s.shows.spaces;
    notifiers = same_kept _ _ _ _ x.notifiers ns sn s.shows.notifiers;
    mirrors = rw em (reserved_kept (now (record { script = c; history = g; halted = z })).after.plain (now (record { script = c; history = g; halted = z })).after.places k room x.mirrors s.shows.mirrors);
    actors = goings_shown _ _ ts x.actors et s.shows.actors;
  };
})

-- what the steps ask
pub actors_ready : (t : WorldValue) (x : Parts) → Stands t x → (a : ℕ) (k : Kind) → IsNext t a k → (seen : Seen) → IsSeen t.script (now t).after a ((now t).going a) k seen → ActorsFit t.script a (going_of x.actors a) k seen
actors_ready t x s a k n seen is = actors_fit t.script a k seen _ _ x.actors s.shows.actors ((fits_at t x s a k n).actors seen is)

pub spaces_ready : (t : WorldValue) (x : Parts) → Stands t x → (a : ℕ) (k : Kind) → IsNext t a k → SpacesFit (plain_of x.spaces) k
spaces_ready t x s a k n = spaces_fit (now t).after.plain _ k x.spaces s.shows.spaces (fits_at t x s a k n).spaces

pub frames_ready : (t : WorldValue) (x : Parts) → Stands t x → (a : ℕ) (k : Kind) → IsNext t a k → (old : Place) (left : Option Frame) → old ≡ entry_place (now t).after.plain (now t).after.places k → left ≡ orphan (now t).after.locks (now t).after.places k → StepFits k old left x.frames
frames_ready t x s a k n old left e f = step_fits t.script (now t).after k old left x.frames e f s.shows.frames (fits_at t x s a k n).frames

pub notifiers_ready : (t : WorldValue) (x : Parts) → Stands t x → (a : ℕ) (k : Kind) → IsNext t a k → CanStep k x.notifiers
notifiers_ready t x s a k n = can_step (now t).after.length (now t).after.sequences k x.notifiers s.shows.notifiers (fits_at t x s a k n).notifiers

pub mirrors_ready : (t : WorldValue) (x : Parts) → Stands t x → (a : ℕ) (k : Kind) → IsNext t a k → mirrors.CanStep k x.mirrors
mirrors_ready t x s a k n = mirrors_fit.can_step (now t).after.plain (now t).after.places k x.mirrors s.shows.mirrors (fits_at t x s a k n).mirrors

-- and what they leave
pub added : (t : WorldValue) (x y : Parts) → Stands t x → (a : ℕ) (k : Kind) → IsNext t a k → (seen : Seen) (old : Place) (left : Option Frame) → old ≡ entry_place (now t).after.plain (now t).after.places k → left ≡ orphan (now t).after.locks (now t).after.places k →
    IsSeen t.script (now t).after a ((now t).going a) k seen → Steps t.script a k seen old left x y → Stands (grown t a k) y
added t x y s a k n seen old left e f g d = stands_grown t a k x y s n.runs n.few n.is_due
    (shows_grown t.script (now t) a k seen old left x y s.shows (fits_at t x s a k n) (record { place = e; left_by = f; noted = g }) d)
