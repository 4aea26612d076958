use Rattle.std.proofs.Common.{length, refl, ap, arith}
use Rattle.std.proofs.lemmas.List.{take_rest, length-drop}
use Rattle.hm_report.specs.declared.outlet.Stop.TheVariants.{Fault, NoMemory}
use Rattle.hm_report.proofs.Sending.{piece_sends, stops_now}
use Rattle.hm_report.proofs.outlet.write_all.Goals as goal

pub loop-at-preserved : goal.loop-at-preserved
loop-at-preserved g c =
    let bytes = c.args.bytes.now in
    let at = c.loop-at.at in
    let rest = take_rest bytes at in
    let n = c.in-Took.count in
    record {
      sends = piece_sends _ _ _ bytes at n n refl c.loop-at.invariant.sends (record {
        bytes_are = rw (← rest) c.in-Took.ensures.bytes;
        faults = c.in-Took.ensures.cause;
        wants = c.in-Took.ensures.want;
      });
      within = omega (arith, c.in-Took.ensures.count.1, ap length rest, length-drop at bytes, c.loop-at.invariant.within);
    }

pub returns-in-Failed-clause-err : goal.returns-in-Failed-clause-err
returns-in-Failed-clause-err g c =
    stops_now _ _ _ c.args.bytes.now c.loop-at.at Fault c.loop-at.invariant.sends c.in-Failed.ensures.bytes (c.in-Failed.ensures.cause, c.in-Failed.ensures.want)

pub returns-in-NoMemory-clause-err : goal.returns-in-NoMemory-clause-err
returns-in-NoMemory-clause-err g c =
    stops_now _ _ _ c.args.bytes.now c.loop-at.at NoMemory c.loop-at.invariant.sends c.in-NoMemory.ensures.bytes (c.in-NoMemory.ensures.cause, c.in-NoMemory.ensures.want)
