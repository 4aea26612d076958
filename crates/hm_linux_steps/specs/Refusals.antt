-- The refusal of a change of areas, by the list of areas that it would change.
use Rattle.std.specs.Prelude.{Option, List}
use Rattle.hm_base.specs.declared.area.Area.{Area}
use Rattle.hm_base.specs.declared.cause.Cause.{Cause}
use Rattle.hm_base.specs.declared.ops.Op.{Op}
use Rattle.hm_history.specs.Memory.Plain.{plain_start, area_refusal}

-- the refusal, if its process has these areas
abbrev pub refused_by : List Area → Op → Option Cause
refused_by xs o = area_refusal (record plain_start { areas = λ p. xs }) o
