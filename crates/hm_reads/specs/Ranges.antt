-- What keeps a phase's numbers in range.
use Rattle.std.specs.Prelude.{◌^◌, Bool, true, nat_lt, Option, Some, None}
use Rattle.hm_history.specs.declared.phases.Body.{Body}
use Rattle.hm_history.specs.declared.phases.Phase.{Phase}

-- a fork that has narrowed a page of the parent, and gives it to the child next, is at a page
abbrev pub body_in_range : Body → Bool
body_in_range (Body.Fork v true) = nat_lt v (2 ^ 36)
body_in_range _ = true

-- the numbers of a phase are in range; all but those of a guard always are
abbrev pub phase_in_range : Phase → Bool
phase_in_range (Phase.Guard p r met told body) = body_in_range body
phase_in_range _ = true

-- the same of the top of a stack that may be empty
abbrev pub top_in_range : Option Phase → Bool
top_in_range None = true
top_in_range (Some top) = phase_in_range top
