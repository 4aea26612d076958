use Rattle.std.proofs.Common.{None, ap, ◌∙◌, arith}
use Rattle.std.specs.Prelude.{Option}
use Rattle.hm_history.specs.Memory.Plain.{with_attachment}
use Rattle.hm_folds.specs.Windows.{mirror_of, attachment_of}
use Rattle.hm_folds.specs.declared.windows.KeptMirror.{KeptMirror}
use Rattle.hm_folds.proofs.Writes.{read_at, written_at}
use Rattle.hm_folds.proofs.windows.stand.Goals as goal

pub returns : goal.returns
returns c =
    let xs = c.args.mirrors.now in
    let none : Option KeptMirror = None in
    written_at mirror_of xs c.number-at.result c.args.mirror c.with_stage.result none _ c.number-at.ensures.same (omega arith)
    (c.with_stage.ensures ∙ ap (with_attachment (attachment_of c.args.stage)) (read_at mirror_of xs c.number-at.result c.args.mirror _ c.number-at.ensures.same (omega arith)))
