use Rattle.hm_script.specs.Automaton.{lines}
use Rattle.hm_trace_top.specs.Reading.{read_by}
use Rattle.hm_trace_top.proofs.Parts.{left_named, part_heard}
use Rattle.hm_trace_top.proofs.judged.Judged.add_part.Goals as goal

pub returns-in-Ok-add-clause-heard : goal.returns-in-Ok-add-clause-heard
returns-in-Ok-add-clause-heard c =
    part_heard c.args.self.now c.add.new.self (lines c.args.bytes.now) c.cut_line.result.0.now (lines c.cut_line.result.1.now) (lines c.in-Ok.part.1.now) (read_by c.in-Ok.part.0)
    c.cut_line.ensures.lines c.requires.named c.in-Ok.ensures.trace c.in-Ok.ensures.rest c.in-Ok-add.ensures

pub returns-in-Ok-add-clause-named : goal.returns-in-Ok-add-clause-named
returns-in-Ok-add-clause-named c = left_named (lines c.in-Ok.part.1.now) (lines c.cut_line.result.1.now) c.in-Ok.ensures.rest
