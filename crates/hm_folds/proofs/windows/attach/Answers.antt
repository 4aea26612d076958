use Rattle.std.proofs.Common.{None, refl, arith}
use Rattle.std.specs.Prelude.{Option}
use Rattle.hm_folds.specs.Windows.{mirror_of}
use Rattle.hm_folds.specs.declared.windows.KeptMirror.{KeptMirror}
use Rattle.hm_folds.proofs.Writes.{written_at}
use Rattle.hm_folds.proofs.windows.attach.Goals as goal

pub returns : goal.returns
returns c = λ q.
    let none : Option KeptMirror = None in
    written_at mirror_of c.args.mirrors.now c.number.result c.args.mirror _ none _ c.number.ensures.same (omega arith) refl
