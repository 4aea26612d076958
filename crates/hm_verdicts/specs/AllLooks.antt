-- The look-ups of threads in mirrors.
use Rattle.std.specs.Prelude.{ℕ, ◌==◌, ◌&&◌, if◌then◌else◌, Option, Some, None, unwrap_or}
use Rattle.hm_protocol.specs.Known.{Look, no_look}
use Rattle.hm_verdicts.specs.Numbers.{values_in}
use Rattle.hm_verdicts.specs.declared.all_looks.AllLooks.{AllLooks}
use Rattle.hm_verdicts.specs.declared.all_looks.MirrorLooks.{MirrorLooks}

-- those of threads in one mirror
abbrev pub looks_of : MirrorLooks → ℕ → Look
looks_of x t = unwrap_or (values_in x.looks t) no_look

-- the same, if there are any
abbrev pub looks_among : Option MirrorLooks → ℕ → Look
looks_among None = λ t. no_look
looks_among (Some x) = looks_of x

-- those in a mirror
abbrev pub looks_at : AllLooks → ℕ → ℕ → Look
looks_at x m = looks_among (values_in x.mirrors m)

-- that of a thread in a mirror
abbrev pub look_in : AllLooks → ℕ → ℕ → Look
look_in x t m = looks_at x m t

-- with another one
abbrev pub with_look : (ℕ → ℕ → Look) → ℕ → ℕ → Look → ℕ → ℕ → Look
with_look f t m l = λ u n. if (u == t) && (n == m) then l else f u n

-- none in this mirror has begun
abbrev pub without : (ℕ → ℕ → Look) → ℕ → ℕ → ℕ → Look
without f m = λ u n. if n == m then no_look else f u n
