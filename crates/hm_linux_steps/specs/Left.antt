-- The areas that are left of a process, as they are computed.
use Rattle.std.specs.Prelude.{ℕ, ◌==◌, if◌then◌else◌, Option, Some, None, List, fold}
use Rattle.hm_base.specs.Pages.{Pages}
use Rattle.hm_base.specs.Program.{Program}
use Rattle.hm_base.specs.declared.area.Area.{Area}
use Rattle.hm_history.specs.Memory.Words.{numbers}
use Rattle.hm_history.specs.Kernel.Going.{State}
use Rattle.hm_linux.specs.UnmapLetsIn.{gone_by, without_gone}

-- the span that was taken away, if it is one of the process
abbrev pub span_of : ℕ → Option (ℕ × Pages) → Option Pages
span_of p None = None
span_of p (Some x) = if x.0 == p then Some x.1 else None

-- the areas that are left of a process after what the first n actors have taken away
abbrev pub left_so_far : Program → State → ℕ → ℕ → List Area
left_so_far c u p n = fold (λ xs a. without_gone p xs (gone_by c u a)) (u.after.plain.areas p) (numbers 0 n)
