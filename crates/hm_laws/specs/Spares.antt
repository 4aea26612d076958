-- Which entries leave what an actor knows of a frame that it has locked: those of other actors, and its own about other
-- frames.
use Rattle.std.specs.Prelude.{◌≡◌, ℕ, Some, ⊤}
use Rattle.hm_base.specs.declared.Frame.{Frame}
use Rattle.hm_history.specs.Memory.Words.{names}
use Rattle.hm_history.specs.Memory.After.{After}
use Rattle.hm_history.specs.declared.Kind.{Kind}
use Rattle.hm_laws.specs.Stood.{stood}

-- the entry is not about the frame: a page that named it keeps its place, and no new place names it or stands for it
abbrev pub Apart : After → Kind → Frame → Type 0
Apart s (Kind.Place p v x) f =
    (names (s.places.place p v) ≡ Some f → ⊥) × (names x ≡ Some f → ⊥) × (stood s.places.committed_to x ≡ Some f → ⊥)
Apart s (Kind.Drop g) f = f ≡ g → ⊥
Apart s (Kind.Done g) f = f ≡ g → ⊥
Apart s (Kind.Copied i g part) f = f ≡ g → ⊥
Apart s (Kind.Committed i g) f = (f ≡ i → ⊥) × (f ≡ g → ⊥)
Apart s k f = ⊤

-- actor a's entry, and a frame that b has locked
pub data Spares (s : After) (a b : ℕ) (k : Kind) (f : Frame) : Type 0 where
  Another : (other : b ≡ a → ⊥) → Spares s a b k f
  Own : (apart : Apart s k f) → Spares s a b k f
