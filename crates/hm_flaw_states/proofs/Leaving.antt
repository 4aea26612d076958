-- What a flaw makes of a stack, and the state as actors find it.
use Rattle.std.proofs.Common.{◌≡◌, ℕ, if◌then◌else◌, Option, Some, List, [], ◌∷◌, slice_get, refl, ap, ◌∙◌}
use Rattle.std.specs.Prelude.{option_to_list}
use Rattle.hm_base.specs.Program.{Program}
use Rattle.hm_base.specs.declared.ops.Op.{Op}
use Rattle.hm_history.specs.Memory.Locks.{orphan}
use Rattle.hm_history.specs.Kernel.Going.{Going}
use Rattle.hm_history.specs.declared.Kind.{Kind}
use Rattle.hm_history.specs.declared.phases.Migrating.{Migrating}
use Rattle.hm_history.specs.declared.phases.Phase.{Phase}
use Rattle.hm_flaws.specs.declared.flaws.Flaw.{Flaw}
use Rattle.hm_flaws.specs.Flawed.{Flawed, found, found_with, going_by, led_on, recorded_by, stack_by, without_step}
use Rattle.hm_flaw_states.specs.Rooms.{leaves_out, without_top}

-- ---- a step that is left out

pub left_out : (l : Flaw) (st : List Phase) → (l ≡ Flaw.OthersLeft → ⊥) → (l ≡ Flaw.FrozenLate → ⊥) → (if leaves_out l st then without_top st else st) ≡ without_step l st
left_out Flaw.OthersLeft st h i = absurd (h refl)
left_out Flaw.FrozenLate st h i = absurd (i refl)
left_out Flaw.PartCopied [] h i = refl
left_out Flaw.PartCopied (Phase.Copy f g k ∷ below) h i = refl
left_out Flaw.PartCopied (_ ∷ below) h i = refl
left_out Flaw.LostHeld [] h i = refl
left_out Flaw.LostHeld (Phase.Drop g ∷ []) h i = refl
left_out Flaw.LostHeld (Phase.Drop g ∷ Phase.Moves step v ∷ below) h i = refl
left_out Flaw.LostHeld (Phase.Drop g ∷ _ ∷ below) h i = refl
left_out Flaw.LostHeld (_ ∷ below) h i = refl
left_out _ st h i = refl

-- ---- a look-up that reads its sequence after the walk

top_counts : (o : Option Op) (at : ℕ) (top : Phase) (below : List Phase) (k : Kind) (st : List Phase) → led_on o at (top ∷ []) k st ≡ led_on o at (top ∷ below) k st
top_counts o at (Phase.Piece n) below (Kind.Rlock p) st = refl
top_counts o at (Phase.Piece n) below _ st = refl
top_counts o at (Phase.Noted n since q x) below (Kind.Begin m r) st = refl
top_counts o at (Phase.Noted n since q x) below _ st = refl
top_counts o at _ below k st = refl

-- of the stack before the entry the top alone counts
pub led_top : (o : Option Op) (at : ℕ) (top : Phase) (before : List Phase) (k : Kind) (st : List Phase) → Some top ≡ slice_get before 0 → led_on o at (top ∷ []) k st ≡ led_on o at before k st
led_top o at top [] k st e = cc
led_top o at top (x ∷ below) k st e = ap (λ (t : Option Phase). led_on o at (option_to_list t) k st) e ∙ top_counts o at x below k st

-- ---- all of it

-- a stack of which nothing else than a step is left out
pub steps_by : (l : Flaw) (o : Option Op) (at : ℕ) (before : List Phase) (k : Kind) (xs : List Migrating) (st : List Phase) → (l ≡ Flaw.BegunLast → ⊥) → (l ≡ Flaw.OwnAnyway → ⊥) → (l ≡ Flaw.FrozenLate → ⊥) → without_step l st ≡ stack_by l o at before k xs st
steps_by Flaw.BegunLast o at before k xs st h i j = absurd (h refl)
steps_by Flaw.OwnAnyway o at before k xs st h i j = absurd (i refl)
steps_by Flaw.FrozenLate o at before k xs st h i j = absurd (j refl)
steps_by _ o at before k xs st h i j = refl

-- what a driver with a flaw makes of how far an actor is
pub goes_by : (l : Flaw) (o : Option Op) (at : ℕ) (before : List Phase) (k : Kind) (g : Going) → (l ≡ Flaw.NoFlaw → ⊥) → (let x : Going = record { index = g.index; stack = stack_by l o at before k g.pages g.stack; pages = recorded_by l k g.pages } in x) ≡ going_by l o at before k g
goes_by Flaw.NoFlaw o at before k g h = absurd (h refl)
goes_by _ o at before k g h = refl

-- ---- the state as actors find it

-- the state that actors of a driver with a flaw find
pub found_there : (l : Flaw) (c : Program) (t : Flawed) → (l ≡ Flaw.NoFlaw → ⊥) → found_with l c t.state t.driver ≡ found l c t
found_there Flaw.NoFlaw c t h = absurd (h refl)
found_there _ c t h = refl

-- what an entry leaves without a name there
pub orphan_there : (l : Flaw) (c : Program) (t : Flawed) (k : Kind) → orphan t.state.after.locks t.state.after.places k ≡ orphan (found_with l c t.state t.driver).locks (found_with l c t.state t.driver).places k
orphan_there l c t (Kind.Place p v x) = refl
orphan_there l c t _ = refl
