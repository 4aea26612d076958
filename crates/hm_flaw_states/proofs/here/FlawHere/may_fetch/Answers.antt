use Rattle.std.proofs.Common.{◌≡◌, ◌==◌, true, false, is_none, length, sym, ◌∙◌, arith}
use Rattle.std.proofs.lemmas.Bool.{and_right}
use Rattle.std.proofs.lemmas.Bool.Decides.{nat_tests}
use Rattle.hm_history.specs.Memory.Words.{page_of}
use Rattle.hm_history.specs.Memory.Plain.{cause_at, mirror_proc}
use Rattle.hm_history.specs.declared.Who.{Who}
use Rattle.hm_folds.proofs.Written.{wrong_length}
use Rattle.hm_flaw_states.specs.States.{plain_in}
use Rattle.hm_flaw_states.proofs.here.FlawHere.may_fetch.Goals as goal

pub returns-else-bytes-eq1 : goal.returns-else-bytes-eq1
returns-else-bytes-eq1 c =
    let s = plain_in c.args.self.now.state.now in
    let bs = c.args.bytes.now in
    let no : (length bs == 1) ≡ false = grind (arith, nat_tests) in
    let wrong = wrong_length (s.bytes (mirror_proc s c.args.mirror)) c.args.addr bs (λ e. grind (arith, nat_tests)) in
    no ∙ sym (and_right (is_none (cause_at s (Who.Mirror c.args.mirror) (page_of c.args.addr) true)) _ wrong)
