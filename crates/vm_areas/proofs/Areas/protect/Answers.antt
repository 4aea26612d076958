use Rattle.std.proofs.Common.{arith}
use Rattle.std.proofs.lemmas.Bool.Decides.{nat_tests}
use Rattle.vm_areas.proofs.Areas.protect.Goals as goal

pub cut-requires : goal.cut-requires
cut-requires c = let h = c.protect_refusal.ensures c.args.rights in grind (arith, nat_tests)
