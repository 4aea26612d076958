use Rattle.std.proofs.Common.{◌∷◌, length, slice_index, take, drop, ap, arith}
use Rattle.std.proofs.lemmas.List.{length-append}
use Rattle.std.proofs.lemmas.Result.{err_from_is_err_and}
use Rattle.hm_script.specs.Spelling.{hex_text}
use Rattle.hm_report.specs.Words.{byte_text}
use Rattle.hm_report.proofs.Fronts.{hex_more, hex_split}
use Rattle.hm_report.proofs.Sending.{goes_put, goes_settled, goes_stops, stops_before}
use Rattle.hm_report.proofs.outlet.put_hex.Goals as goal

pub returns-in_err-settle-clause-err : goal.returns-in_err-settle-clause-err
returns-in_err-settle-clause-err g c =
    let p = err_from_is_err_and c.from_residual.result c.from_residual.ensures.1 in
    let bytes = c.args.bytes.now in
    let i = c.loop-byte.byte-index in
    let stops = stops_before _ _ c.loop-byte.out (hex_text (drop i bytes)) _ c.in_err-settle.ensures.err in
    rw (p.1, p.2, ← hex_split bytes i) (goes_stops _ _ _ c.args.out.now c.loop-byte.out (32 ∷ hex_text (take i bytes)) (hex_text (drop i bytes)) _ c.loop-byte.invariant.goes stops)

pub loop-byte-preserved : goal.loop-byte-preserved
loop-byte-preserved g c =
    let bytes = c.args.bytes.now in
    let i = c.loop-byte.byte-index in
    let digits = 32 ∷ hex_text (take i bytes) in
    let settled = goes_settled _ _ _ c.args.out.now c.loop-byte.out c.settle.new.out digits c.loop-byte.invariant.goes c.in_ok-settle.ensures.ok in
    record {
      goes = rw (hex_more bytes i c.loop-byte-test.true, c.put_byte.ensures) (goes_put _ _ c.args.out.now c.settle.new.out digits _ settled);
      room = omega (arith, ap length c.put_byte.ensures, length-append c.settle.new.out (byte_text (slice_index bytes i)), c.in_ok-settle.ensures.room);
    }
