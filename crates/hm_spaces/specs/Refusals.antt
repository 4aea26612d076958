-- The areas of one process of a list, and the changes of them that are not refused.
use Rattle.std.specs.Prelude.{List, [], slice_index_or}
use Rattle.hm_base.specs.declared.area.Area.{Area}
use Rattle.hm_base.specs.declared.cause.Cause.{Cause}
use Rattle.hm_history.specs.Memory.Plain.{Plain, plain_start}
use Rattle.vm_areas.specs.declared.AreaRefusal.{AreaRefusal}
use Rattle.vm_areas.specs.declared.AreaRefusal.TheVariants.{Overlap, TooMany, Unmapped}

-- a plain state with these areas, for definitions that read no more of one
abbrev pub plain_with : List (List Area) → Plain
plain_with xs = record plain_start { areas = λ p. slice_index_or xs p [] }

-- the cause of a refusal
abbrev pub refusal_cause : AreaRefusal → Cause
refusal_cause Overlap = Cause.Overlap
refusal_cause TooMany = Cause.TooManyAreas
refusal_cause Unmapped = Cause.Unmapped
