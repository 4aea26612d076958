use Rattle.std.proofs.Common.{◌+◌, take, drop, suc, arith}
use Rattle.std.proofs.lemmas.Result.{err_from_is_err_and}
use Rattle.hm_report.specs.Report.{entry_line, entry_lines}
use Rattle.hm_report.proofs.Joins.{loop_stops}
use Rattle.hm_report.proofs.Sending.{goes_more, goes_nothing}
use Rattle.hm_report.proofs.Counting.{ends_fit, ends_more}
use Rattle.hm_report.proofs.Lines.{lines_more, lines_at}
use Rattle.hm_report.proofs.report.put_entries.Goals as goal

pub returns-in_err-put_entry-clause-err : goal.returns-in_err-put_entry-clause-err
returns-in_err-put_entry-clause-err g c =
    let p = err_from_is_err_and c.from_residual.result c.from_residual.ensures.1 in
    let es = c.args.entries.now in
    let i = c.loop-at.at in
    let e = c.index-entries-at.result in
    rw (p.1, p.2) (loop_stops _ _ _ c.args.out.now c.loop-at.out (entry_lines 0 (take i es)) (entry_line i e) (entry_lines (i + 1) (drop (suc i) es)) (entry_lines 0 es) _ c.loop-at.invariant.goes (lines_at es i e c.loop-at-test.true c.index-entries-at.is) c.in_err-put_entry.ensures.err)

pub loop-at-init : goal.loop-at-init
loop-at-init g c = record { ended = c.none-ends.ensures _; goes = goes_nothing _ _; room = c.requires }

pub loop-at-preserved : goal.loop-at-preserved
loop-at-preserved g c =
    let es = c.args.entries.now in
    let i = c.loop-at.at in
    let e = c.index-entries-at.result in
    record {
      ended = ends_more _ es i e _ c.loop-at-test.true c.index-entries-at.is (c.add.ensures _ c.loop-at.invariant.ended);
      goes = rw (lines_more es i e c.loop-at-test.true c.index-entries-at.is) (goes_more _ _ _ c.args.out.now c.loop-at.out c.put_entry.new.out (entry_lines 0 (take i es)) (entry_line i e) c.loop-at.invariant.goes c.in_ok-put_entry.ensures.ok);
      room = c.in_ok-put_entry.ensures.room;
    }

pub add-requires : goal.add-requires
add-requires g c = ends_fit _ c.args.entries.now _ c.loop-at.at c.loop-at-test.true (omega arith) c.loop-at.invariant.ended
