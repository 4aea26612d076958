-- Callbacks that no event changes any more, but for what is known of a migration.
use Rattle.std.specs.Prelude.{◌≡◌, ℕ, ◌≤◌, zero, suc, Bool, true, false, not, ◌&&◌, ◌||◌, ◌==◌, is_some, is_none, List, [], ◌∷◌}
use Rattle.hm_protocol.specs.Words.{is_after, is_empty}
use Rattle.hm_protocol.specs.Known.{Call, goes_on}
use Rattle.hm_verdicts.specs.declared.over.Fresh.{Fresh}
use Rattle.hm_verdicts.specs.declared.over.Over.{Over}

-- this is so of the first n of a list, which has so many
abbrev pub First : {X : Type 0} → (X → Type 0) → ℕ → List X → Type 0
First P zero xs = Unit {0}
First P (suc n) [] = ⊥
First P (suc n) (x ∷ xs) = P x × First P n xs

-- the first n items are changed
abbrev pub mapped_to : {X : Type 0} → (X → X) → ℕ → List X → List X
mapped_to f zero xs = xs
mapped_to f (suc n) [] = []
mapped_to f (suc n) (x ∷ xs) = f x ∷ mapped_to f n xs

-- the callback has returned, its invalidation is not under way, and none of the entries of its span is there
abbrev pub is_settled : Call → Bool
is_settled x = is_some x.after && (not (goes_on x) && is_empty x.here)

-- so it is, and its numbers are at most these
pub record IsOver (o : Over) (x : Call) : Type 0 where
  pub settled : is_settled x ≡ true
  pub of : is_after x.of o.of ≡ false
  pub at : x.at ≤ o.at
  pub seq : x.seq ≤ o.seq
  pub ended : is_after x.ended o.ended ≡ false

-- bounds of the first callbacks, whose invalidations began at this position at most
abbrev pub IsMark : ℕ → List Call → Over → Type 0
IsMark top xs o = First (IsOver o) o.count xs × (o.of ≤ top)

-- none of the first callbacks that are of a mirror was given this sequence
abbrev pub IsFresh : ℕ → Fresh → List Call → Type 0
IsFresh m f xs = First (λ x. ((x.mirror == m) && (x.seq == f.seq)) ≡ false) f.count xs

-- no migration changes the callback any more: it has returned, and is of none, or what became of it is known
abbrev pub is_lasting : Call → Bool
is_lasting x = is_some x.after && (is_none x.owner || is_some x.stale)

-- it has returned, and was given at most the sequence that its mirror has there
pub record IsBelow (f : ℕ → ℕ) (x : Call) : Type 0 where
  pub returned : is_some x.after ≡ true
  pub seq : x.seq ≤ f x.mirror
