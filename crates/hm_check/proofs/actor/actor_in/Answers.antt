use Rattle.std.proofs.Common.{◌≡◌, ◌++◌, sym, ap, ◌∙◌}
use Rattle.hm_check.proofs.Naming.{lead, entry_ended, entry_cut, entry_led}
use Rattle.hm_check.proofs.actor.actor_in.Goals as goal

pub returns-in-Some : goal.returns-in-Some
returns-in-Some c = λ e few is.
    let front : c.as_slice.result.now ≡ lead c.args.at = cc in
    let w = entry_ended c.args.at e in
    c.actor_at.ensures e.actor w.byte w.rest few w.no_digit (entry_cut c.args.at e c.in-Some.digits.now (ap (λ z. z ++ c.in-Some.digits.now) (sym front) ∙ sym c.in-Some.ensures ∙ is))

pub returns-in-None : goal.returns-in-None
returns-in-None c = λ e few is.
    let front : c.as_slice.result.now ≡ lead c.args.at = cc in
    let led = entry_led c.args.at e in
    absurd (c.in-None.ensures led.0 (is ∙ led.1 ∙ ap (λ z. z ++ led.0) (sym front)))
