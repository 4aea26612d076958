use Rattle.std.proofs.Common.{None}
use Rattle.std.specs.Prelude.{Option}
use Rattle.std.proofs.Math.Path.{fun_ext}
use Rattle.hm_base.specs.Pages.{Pages}
use Rattle.hm_folds.proofs.SeqSteps.{all_alike}
use Rattle.hm_projection.proofs.tables.Driver.new.Goals as goal

pub returns : goal.returns
returns c = let none : Option Pages = None in record {
  tables = fun_ext (λ m. fun_ext (λ v. c.in_ok-new.ensures m v));
  windows = λ m. all_alike none 32 m;
}
