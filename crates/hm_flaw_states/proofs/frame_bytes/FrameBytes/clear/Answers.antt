use Rattle.hm_race_states.specs.Bytes.{bytes_in}
use Rattle.hm_flaw_states.proofs.Writing.{cleared}
use Rattle.hm_flaw_states.proofs.frame_bytes.FrameBytes.clear.Goals as goal

pub returns : goal.returns
returns c = cleared (bytes_in c.args.self.now) (bytes_in c.clear.new.self) c.args.frame.now (search (c.clear.ensures, c.row_of.ensures, c.new.ensures, c.new-page.ensures, c.from.ensures, c.self.view_is))
