-- Which part of legality an entry breaks. That it is due to a right driver's actor is none of the parts here.
use Rattle.std.specs.Prelude.{ℕ, Bool, true, false, Option, Some, None, List, [], ◌∷◌}
use Rattle.hm_base.specs.Program.{Program}
use Rattle.hm_history.specs.Memory.Plain.{plain_accepts, mirror_owner}
use Rattle.hm_history.specs.Memory.Places.{places_accept}
use Rattle.hm_history.specs.Memory.Sequences.{sequences_accept}
use Rattle.hm_history.specs.Memory.Lookups.{uses_untold, narrows_guarded}
use Rattle.hm_history.specs.Memory.After.{after}
use Rattle.hm_history.specs.Kernel.Going.{Going}
use Rattle.hm_history.specs.Memory.Rules.{fails_rightly}
use Rattle.hm_history.specs.Kernel.Legal.{kept_rightly}
use Rattle.hm_history.specs.declared.Entry.{Entry}
pub use Rattle.hm_flaws.specs.declared.parts.Part.{Part}

-- the entry meets this part after the history, if the actors have come so far
abbrev pub meets_part : Program → List Entry → (ℕ → Going) → Entry → Part → Bool
meets_part c h g e Part.Answers = plain_accepts (after h).plain e.kind
meets_part c h g e Part.Places = places_accept c (mirror_owner (after h).plain) (after h).places e.actor e.kind
meets_part c h g e Part.Frames = fails_rightly c h e
meets_part c h g e Part.Sequences = sequences_accept (after h).sequences e.actor e.kind
meets_part c h g e Part.Untold = uses_untold h e.kind
meets_part c h g e Part.Guarded = narrows_guarded (after h).sequences (after h).places.place e.actor e.kind
meets_part c h g e Part.Kept = kept_rightly c (record { after = after h; going = g }) e

-- all seven
abbrev pub all_parts : List Part
all_parts =
    Part.Answers
    ∷ Part.Places
    ∷ Part.Frames
    ∷ Part.Sequences
    ∷ Part.Untold
    ∷ Part.Guarded
    ∷ Part.Kept
    ∷ []

-- answers alone: a driver that breaks this one does harm, and one that breaks another may do harm later, or none
abbrev pub answers_alone : List Part
answers_alone = Part.Answers ∷ []

-- the first of these parts that the entry breaks
abbrev pub broken_part : List Part → Program → List Entry → (ℕ → Going) → Entry → Option Part
broken_part [] c h g e = None
broken_part (part ∷ parts) c h g e = elim (meets_part c h g e part) [
  | true ↦ broken_part parts c h g e
  | false ↦ Some part
]
