-- What it is that the bound falls at an entry, and the simplest entries.
use Rattle.std.proofs.Common.{ℕ, ◌<◌, List, ◌∷◌}
use Rattle.std.specs.Prelude.{⊤}
use Rattle.hm_base.specs.Program.{Program}
use Rattle.hm_base.specs.declared.ops.Op.{Op}
use Rattle.hm_history.specs.Memory.After.{After}
use Rattle.hm_history.specs.Kernel.Stacks.{stack_after}
use Rattle.hm_history.specs.Kernel.Going.{seen_at, recorded}
use Rattle.hm_history.specs.declared.phases.Migrating.{Migrating}
use Rattle.hm_history.specs.declared.phases.Phase.{Phase}
use Rattle.hm_history.specs.declared.phases.Next.{Next}
use Rattle.hm_history.specs.declared.phases.Next.TheVariants.{Do, Wait}
use Rattle.hm_laws.specs.Allowed.{next}
use Rattle.hm_quiet_laws.proofs.measure.Left.{left}

-- what is left after an entry is less than before
abbrev pub Falls : Program → After → ℕ → Op → List Migrating → Phase → List Phase → Next → Type 0
Falls c s a o xs top below (Do k) = left c (next s a k) a o (recorded top (seen_at s o xs top k).page xs k) (stack_after o (top ∷ below) k (seen_at s o xs top k)) < left c s a o xs (top ∷ below)
Falls c s a o xs top below (Wait y) = ⊤
