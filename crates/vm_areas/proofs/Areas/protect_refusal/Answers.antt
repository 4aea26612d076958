use Rattle.std.proofs.Common.{arith}
use Rattle.std.proofs.lemmas.Bool.Decides.{nat_tests}
use Rattle.hm_base.specs.declared.ops.Rights.TheVariants.{Read}
use Rattle.vm_areas.proofs.Cutting.{same_count}
use Rattle.vm_areas.proofs.Areas.protect_refusal.Goals as goal

pub returns-then-count_cut-le-MOST : goal.returns-then-count_cut-le-MOST
returns-then-count_cut-le-MOST c = λ rights. grind (arith, nat_tests, same_count c.args.span rights Read c.args.self.now)

pub returns-else-count_cut-le-MOST : goal.returns-else-count_cut-le-MOST
returns-else-count_cut-le-MOST c = λ rights. grind (arith, nat_tests, same_count c.args.span rights Read c.args.self.now)
