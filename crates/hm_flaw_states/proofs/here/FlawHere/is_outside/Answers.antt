use Rattle.std.proofs.Common.{not, sym, ap, ◌∙◌, arith}
use Rattle.hm_history.specs.Memory.Words.{page_of}
use Rattle.hm_history.specs.Memory.Plain.{outside_cause}
use Rattle.hm_history.specs.declared.Who.{Who}
use Rattle.hm_history.proofs.Pages.{address_past}
use Rattle.hm_flaw_states.specs.States.{plain_in}
use Rattle.hm_flaw_states.proofs.Answering.{far_outside}
use Rattle.hm_flaw_states.proofs.here.FlawHere.is_outside.Goals as goal

pub returns-then-addr : goal.returns-then-addr
returns-then-addr c =
    let s = plain_in c.args.self.now.state.now in
    let v = page_of c.args.addr in
    sym (ap (λ (x : Who). outside_cause s x v) c.in-Mirror.is ∙ ap not (far_outside s c.in-Mirror.mirror v c.window_ends.ensures (address_past c.args.addr (omega (arith, c.if-addr.true)))))
