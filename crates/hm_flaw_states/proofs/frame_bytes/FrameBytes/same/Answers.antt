use Rattle.std.proofs.Common.{ap, sym, ◌∙◌}
use Rattle.hm_race_states.specs.Bytes.{bytes_in}
use Rattle.hm_flaw_states.proofs.Writing.{all_read}
use Rattle.hm_flaw_states.proofs.frame_bytes.FrameBytes.same.Goals as goal

pub returns-clause-no : goal.returns-clause-no
returns-clause-no c e = c.same.ensures.no (λ p a. ap (λ zs. bytes_in zs p a) c.self.view_is ∙ (all_read (bytes_in c.args.self.now) (bytes_in c.args.other.now) e p a ∙ sym (ap (λ zs. bytes_in zs p a) c.other.view_is)))
