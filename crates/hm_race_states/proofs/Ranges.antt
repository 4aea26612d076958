-- Operations of a script are in range.
use Rattle.std.proofs.Common.{◌≡◌, ℕ, Some, length, sym}
use Rattle.std.specs.Prelude.{IsTrue}
use Rattle.hm_base.specs.Program.{Program, IsScript, op_in_range}
use Rattle.hm_base.specs.declared.ops.Op.{Op}
use Rattle.hm_history.specs.Kernel.Going.{op_at}
use Rattle.hm_laws.proofs.Histories.Sound.{small}
use Rattle.hm_base.proofs.Shared.{in_range}

pub op_ranged : (c : Program) → IsScript c → (a i : ℕ) (o : Op) → Some o ≡ op_at c a i → IsTrue (op_in_range o)
op_ranged c sc a i o e = in_range (length c.devices) o ((small c sc).ops a i o (sym e))
