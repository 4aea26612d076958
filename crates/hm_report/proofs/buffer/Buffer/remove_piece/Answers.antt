use Rattle.std.proofs.Common.{◌≤◌, drop, length, ap, ◌∙◌, arith}
use Rattle.std.proofs.lemmas.List.{length-take-le}
use Rattle.hm_report.proofs.Fronts.{shift_front}
use Rattle.hm_report.proofs.buffer.Buffer.remove_piece.Goals as goal

pub returns : goal.returns
returns c =
    let len = c.self.inside.len in
    let within : len ≤ length c.self.inside.bytes.items = omega (arith, c.self.invariant.0, c.self.invariant.1) in
    let many : 4096 ≤ len = omega (arith, c.requires, ap length c.self.view_is, length-take-le len c.self.inside.bytes.items within) in
    rw c.copy_within.ensures.items (shift_front c.self.inside.bytes.items 4096 len many within) ∙ ap (drop 4096) c.self.view_is
