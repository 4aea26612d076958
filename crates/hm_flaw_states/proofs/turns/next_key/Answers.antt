use Rattle.std.proofs.Common.{refl, sym, ◌∙◌}
use Rattle.hm_flaw_states.proofs.Waits.{due_after, due_kept, due_none}
use Rattle.hm_flaw_states.proofs.turns.next_key.Goals as goal

pub returns-then-is_some : goal.returns-then-is_some
returns-then-is_some g c = record { next = due_after c.args.flaw c.args.script.now c.args.key.now c.args.actor c.part.result c.part.ensures (sym c.is_some.ensures ∙ c.if-is_some.true); kept = tt; count = tt }

pub returns-in-Waiting : goal.returns-in-Waiting
returns-in-Waiting g c =
    let k = c.args.key.now in
    record {
      next = due_none c.args.flaw c.args.script.now k c.args.actor _
          (due_kept c.args.flaw c.args.script.now c.deref.result.now k.state.value c.deref-2.result.now k.own.value c.args.actor _ c.deref.ensures c.deref-2.ensures c.in_ok-entry.ensures ∙ c.in-Waiting.is) refl;
      kept = tt;
      count = tt;
    }

pub returns-in-Idle : goal.returns-in-Idle
returns-in-Idle g c =
    let k = c.args.key.now in
    record {
      next = due_none c.args.flaw c.args.script.now k c.args.actor _
          (due_kept c.args.flaw c.args.script.now c.deref.result.now k.state.value c.deref-2.result.now k.own.value c.args.actor _ c.deref.ensures c.deref-2.ensures c.in_ok-entry.ensures ∙ c.in-Idle.is) refl;
      kept = tt;
      count = tt;
    }
