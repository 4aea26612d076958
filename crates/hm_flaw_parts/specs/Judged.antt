-- Which parts an entry is judged by, and which it breaks first.
use Rattle.std.specs.Prelude.{◌≡◌, ℕ, Bool, true, false, Option, Some, None, List}
use Rattle.hm_base.specs.Program.{Program}
use Rattle.hm_history.specs.Kernel.Going.{Going}
use Rattle.hm_history.specs.declared.Entry.{Entry}
use Rattle.hm_flaws.specs.Parts.{all_parts, answers_alone}
use Rattle.hm_flaws.specs.Recalled.{Recalled, meets_part_in}
use Rattle.hm_flaws.specs.declared.parts.Part.{Part}
use Rattle.hm_flaw_parts.specs.declared.judged.Judging.{Judging}
use Rattle.hm_parts.specs.declared.parts.Parts.{Parts}

-- the parts
abbrev pub judged_parts : Judging → List Part
judged_parts Judging.AllParts = all_parts
judged_parts Judging.AnswersAlone = answers_alone

-- the part, if it is not met, and else what comes after it
abbrev pub unless_met : Bool → Part → Option Part → Option Part
unless_met met part rest = elim met [ true ↦ rest | false ↦ Some part ]

-- the first part that is not met
abbrev pub first_of : Parts → Option Part
first_of x =
    unless_met x.answers Part.Answers
    (unless_met x.places Part.Places
    (unless_met x.frames Part.Frames
    (unless_met x.sequences Part.Sequences
    (unless_met x.untold Part.Untold
    (unless_met x.guarded Part.Guarded
    (unless_met x.kept Part.Kept None))))))

-- these are the parts that the entry meets, by what is recalled and how far the actors have come
pub record AreMet (c : Program) (n : Recalled) (g : ℕ → Going) (e : Entry) (x : Parts) : Type 0 where
  pub answers : x.answers ≡ meets_part_in c n g e Part.Answers
  pub places : x.places ≡ meets_part_in c n g e Part.Places
  pub frames : x.frames ≡ meets_part_in c n g e Part.Frames
  pub sequences : x.sequences ≡ meets_part_in c n g e Part.Sequences
  pub untold : x.untold ≡ meets_part_in c n g e Part.Untold
  pub guarded : x.guarded ≡ meets_part_in c n g e Part.Guarded
  pub kept : x.kept ≡ meets_part_in c n g e Part.Kept
