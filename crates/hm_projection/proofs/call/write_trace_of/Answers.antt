use Rattle.std.proofs.Common.{◌≤◌, List, inr, length, subst}
use Rattle.hm_base.specs.Program.{Program}
use Rattle.hm_check.specs.Judging.{IsLegalReportOf, IsVerdictOn}
use Rattle.hm_check.specs.declared.verdict.Verdict.TheVariants.{Yes}
use Rattle.hm_edge.proofs.Came.{came_as}
use Rattle.hm_edge.specs.Traffic.{Traffic, traffic}
use Rattle.hm_history.specs.declared.Entry.{Entry}
use Rattle.hm_projection.proofs.Called.{read_of, seen_of}
use Rattle.hm_projection.specs.Writes.{Finds, HasTraced}
use Rattle.hm_projection.proofs.call.write_trace_of.Goals as goal

pub returns-in-Ok-Yes : goal.returns-in-Ok-Yes
returns-in-Ok-Yes g c =
    let io : Traffic = traffic g.S.Source.state g.K.Sink.state c.args.source.now c.check_source.new.source c.args.sink.now c.write_trace.new.sink in
    let status = c.write_trace.result in
    let p = c.in-Ok-Yes.report.script in
    let h = c.in-Ok-Yes.report.history.entries in
    let v : IsVerdictOn (g.S.Source.state c.args.source.now) (g.S.Source.state c.check_source.new.source) (Yes c.in-Ok-Yes.report) =
    subst (IsVerdictOn (g.S.Source.state c.args.source.now) (g.S.Source.state c.check_source.new.source)) c.in-Ok-Yes.field-0-is c.in-Ok-Yes.ensures.verdict in
    let written = c.write_trace.ensures.written in
    record {
      seen = seen_of io status p h v.judged.0 (came_as (IsLegalReportOf p h) io.source.left io.source_after.left v.bytes v.whole (record { legal = v.judged.0; text_is = v.judged.1 })) written;
      read_faults = read_of io.source.faults io.source_after.faults status p h io.sink io.sink_after written c.in-Ok-Yes.ensures.faults;
      write_faults = c.write_trace.ensures.faults;
      flushed = c.write_trace.ensures.flushed;
      finds = λ none. came_as (λ bytes. length bytes ≤ 268435456 → (q : Program) (k : List Entry) → IsLegalReportOf q k bytes → Finds q k io status) io.source.left io.source_after.left v.bytes v.whole
          (λ short q k is. let e = v.only q k is in
          inr (subst (λ (x : Program). HasTraced x k io.sink io.sink_after status) e.0 (subst (λ (x : List Entry). HasTraced p x io.sink io.sink_after status) e.1 written)));
    }
