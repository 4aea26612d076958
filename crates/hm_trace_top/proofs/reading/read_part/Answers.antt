use Rattle.hm_script.specs.Automaton.{lines}
use Rattle.hm_trace_top.specs.Lists.{body}
use Rattle.hm_trace_top.proofs.Lines.{is_trace, is_unread}
use Rattle.hm_trace_top.proofs.reading.read_part.Goals as goal

pub returns-in-Ok-body-clause-trace : goal.returns-in-Ok-body-clause-trace
returns-in-Ok-body-clause-trace c =
    is_trace (body (lines c.args.bytes.now)) c.in-Ok.reading c.body.new.self c.into_trace.result c.in-Ok.ensures c.in-Ok-body.ensures.read
    c.into_trace.ensures.progress c.into_trace.ensures.events c.into_trace.ensures.numbers

pub returns-clause-none : goal.returns-clause-none
returns-clause-none c = is_unread (body (lines c.args.bytes.now)) c.in-Ok.reading c.in-Err.why c.in-Ok.ensures c.in-Err.ensures.err
