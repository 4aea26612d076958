-- first-attach: the first mirror that a process ever has comes inside no invalidation.
use Rattle.std.specs.Prelude.{ℕ, Bool, false, ◌==◌, is_some, if◌then◌else◌, Option, Some, None}
use Rattle.hm_history.specs.Memory.Words.{least}
use Rattle.hm_history.specs.Memory.Plain.{mirror_passes}
use Rattle.hm_history.specs.Memory.Sequences.{Guarded}
use Rattle.hm_history.specs.Memory.After.{After}
use Rattle.hm_history.specs.declared.Kind.{Kind}
use Rattle.hm_history.specs.declared.Why.{Why}
use Rattle.hm_history.specs.declared.phases.Next.{Next}
use Rattle.hm_history.specs.declared.phases.Next.TheVariants.{Do, Wait}

-- the invalidation under way is one of the process
abbrev pub is_in_guard : ℕ → Option Guarded → Bool
is_in_guard p None = false
is_in_guard p (Some g) = g.proc == p

-- some mirror is or was one of the process
abbrev pub has_had_mirror : After → ℕ → Bool
has_had_mirror s p = is_some (least (λ m. mirror_passes (λ x. x.proc == p) (s.plain.mirrors m)) 0 32)

-- the first mirror waits for the actor that invalidates its process
abbrev pub attaches : After → Next → Next
attaches s (Do (Kind.Attached m d p r q)) = elim (least (λ b. is_in_guard p (s.sequences.guard b)) 0 16) [
  | None ↦ Do (Kind.Attached m d p r q)
  | Some b ↦ if has_had_mirror s p then Do (Kind.Attached m d p r q) else Wait (Why.MapLock p b)
]
attaches s next = next
