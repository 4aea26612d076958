use Rattle.std.proofs.Common.{arith, append_assoc, refl}
use Rattle.std.proofs.lemmas.List.{take_more}
use Rattle.hm_report.proofs.digits.put_bytes.Goals as goal

pub loop-byte-preserved : goal.loop-byte-preserved
loop-byte-preserved c =
    let bytes = c.args.bytes.now in
    let i = c.loop-byte.byte-index in
    record {
      text = rw (c.put_at-end.ensures.end, c.put_at-end.ensures.text, c.loop-byte.invariant.text, append_assoc, ← take_more bytes i 0 c.loop-byte-test.true) refl;
      reached = omega (arith, c.put_at-end.ensures.end, c.loop-byte.invariant.reached);
      len = rw (c.put_at-end.ensures.len, c.loop-byte.invariant.len) refl;
    }
