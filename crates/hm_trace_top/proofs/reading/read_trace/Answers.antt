use Rattle.hm_script.specs.Automaton.{lines}
use Rattle.hm_trace_top.proofs.Lines.{is_trace, is_unread}
use Rattle.hm_trace_top.proofs.reading.read_trace.Goals as goal

pub returns-in-Ok-lines-clause-trace : goal.returns-in-Ok-lines-clause-trace
returns-in-Ok-lines-clause-trace c =
    is_trace (lines c.args.bytes.now) c.in-Ok.reading c.lines.new.self c.into_trace.result c.in-Ok.ensures c.in-Ok-lines.ensures.ok
    c.into_trace.ensures.progress c.into_trace.ensures.events c.into_trace.ensures.numbers

pub returns-in-Err-clause-none : goal.returns-in-Err-clause-none
returns-in-Err-clause-none c = is_unread (lines c.args.bytes.now) c.in-Ok.reading c.in-Err.why c.in-Ok.ensures c.in-Err.ensures.err
