use Rattle.std.proofs.Common.{length, sym, ap, subst, ◌∙◌}
use Rattle.hm_turns.specs.Looking.{ReadsAs}
use Rattle.hm_turns.specs.declared.looks.Looked.{Looked}
use Rattle.hm_turns.proofs.AfterLooks.{sees, none_where}
use Rattle.hm_turns.proofs.looks.look_at.Goals as goal

pub returns-in-Filled-clause-look : goal.returns-in-Filled-clause-look
returns-in-Filled-clause-look g c =
    let s = g.S.Stepped in
    let x = c.in-Some.stepped in
    let none = sym c.halted.ensures.halt ∙ none_where c.halted.result (sym c.is_some.ensures ∙ c.if-is_some.false) in
    let seen = sees s.script s.history s.halt s.legal c.args.seat.now c.take.new.seat c.give-2.new.seat x c.in-Some.ensures.0 c.in-Some.ensures.1 none c.give-2.ensures c.length-length.ensures.legal in
    (seen.0, (c.length-length.ensures.length ∙ sym (ap length seen.1), subst (λ h. ReadsAs h c.args.proc c.args.addr Looked.Filled c.look-looked.new.into) (sym seen.1) c.in-Filled.ensures.read))

pub returns-in-Locked-clause-look : goal.returns-in-Locked-clause-look
returns-in-Locked-clause-look g c =
    let s = g.S.Stepped in
    let x = c.in-Some.stepped in
    let none = sym c.halted.ensures.halt ∙ none_where c.halted.result (sym c.is_some.ensures ∙ c.if-is_some.false) in
    let seen = sees s.script s.history s.halt s.legal c.args.seat.now c.take.new.seat c.give-2.new.seat x c.in-Some.ensures.0 c.in-Some.ensures.1 none c.give-2.ensures c.length-length.ensures.legal in
    (seen.0, subst (λ h. ReadsAs h c.args.proc c.args.addr (Looked.Locked c.in-Locked.by) c.look-looked.new.into) (sym seen.1) c.in-Locked.ensures.read)

pub returns-in-Unmapped-clause-look : goal.returns-in-Unmapped-clause-look
returns-in-Unmapped-clause-look g c =
    let s = g.S.Stepped in
    let x = c.in-Some.stepped in
    let none = sym c.halted.ensures.halt ∙ none_where c.halted.result (sym c.is_some.ensures ∙ c.if-is_some.false) in
    let seen = sees s.script s.history s.halt s.legal c.args.seat.now c.take.new.seat c.give-2.new.seat x c.in-Some.ensures.0 c.in-Some.ensures.1 none c.give-2.ensures c.length-length.ensures.legal in
    (seen.0, subst (λ h. ReadsAs h c.args.proc c.args.addr Looked.Unmapped c.look-looked.new.into) (sym seen.1) c.in-Unmapped.ensures.read)
