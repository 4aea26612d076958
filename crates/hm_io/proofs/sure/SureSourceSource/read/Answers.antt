use Rattle.std.proofs.Common.{◌+◌, take, drop, refl, sym, ap, ◌∙◌, arith}
use Rattle.hm_io.proofs.Fronts.{rest_of, front_copied}
use Rattle.hm_io.proofs.sure.SureSourceSource.read.Goals as goal

pub returns-clause-bytes : goal.returns-clause-bytes
returns-clause-bytes c =
    let bytes = c.self.inside.bytes in
    let at = c.self.inside.at in
    let n = c.min-count.result in
    let copied = c.copy_from_slice.ensures.after ∙ ap (take n) (rest_of bytes _ at c.as_slice.ensures) in
    (drop (at + n) bytes, sym c.self.view_is ∙ front_copied bytes _ c.args.into.now at n (omega (arith, c.min-count.ensures)) c.copy_from_slice.ensures.len copied, refl)
