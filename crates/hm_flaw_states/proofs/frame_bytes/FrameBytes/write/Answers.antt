use Rattle.std.proofs.Common.{arith, ◌∙◌, refl}
use Rattle.hm_race_states.specs.Bytes.{bytes_in}
use Rattle.hm_flaw_states.proofs.Writing.{written}
use Rattle.hm_flaw_states.proofs.frame_bytes.FrameBytes.write.Goals as goal

pub returns : goal.returns
returns c = written (bytes_in c.args.self.now) (bytes_in c.write.new.self) c.args.frame.now c.args.addr c.args.bytes.now
    (c.in_ok-write.ensures ∙ rw (c.row_of.ensures, c.start_of.ensures.same, c.self.view_is) refl)
    (omega (arith, c.requires))
