use Rattle.std.proofs.Common.{true, ◌∙◌, ap, length, arith}
use Rattle.frame_pool.specs.Frames.{is_held}
use Rattle.frame_pool.proofs.Free.{opposite_set, fits_after_take, free_where, is_taken}
use Rattle.frame_pool.proofs.pool.Pool.take.Goals as goal

pub remove-requires : goal.remove-requires
remove-requires c =
    free_where _ c.self.inside.held c.args.number c.self.invariant.free (omega (arith, c.requires.inside, ap (λ f. length f.held) c.self.view_is))
    (ap (λ f. is_held f c.args.number) c.self.view_is ∙ c.requires.free)

pub zero_frame-requires : goal.zero_frame-requires
zero_frame-requires c = omega (arith, c.requires.inside, ap (λ f. length f.held) c.self.view_is, c.self.invariant.frames.bytes_len)

pub invariant_of-self : goal.invariant_of-self
invariant_of-self c = record {
  frames = fits_after_take _ c.args.number _ _ c.insert.ensures c.zero_frame.ensures c.self.invariant.frames (omega (arith, c.requires.inside, ap (λ f. length f.held) c.self.view_is));
  free = rw (c.insert.ensures, c.remove.ensures) (opposite_set c.self.inside.free c.self.inside.held c.args.number true c.self.invariant.free);
}

pub returns : goal.returns
returns c = is_taken _ _ c.args.number _ _ c.self.view_is c.insert.ensures c.zero_frame.ensures
