use Rattle.std.proofs.Common.{[], ◌∷◌, ◌++◌, subst}
use Rattle.hm_history.specs.declared.Entry.{Entry}
use Rattle.hm_flaw_states.specs.Owns.{driver_in}
use Rattle.hm_flaw_states.specs.States.{state_in}
use Rattle.hm_flaw_states.proofs.SetUps.{due_here, follows_next, is_next}
use Rattle.hm_flaw_states.specs.SetUps.{IsAfter}
use Rattle.hm_flaw_states.proofs.set_ups.add_next.Goals as goal

pub due_entry-requires : goal.due_entry-requires
due_entry-requires g c = is_next c.args.script.now c.args.so_far.now c.args.actor c.requires

pub add_entry-requires : goal.add_entry-requires
add_entry-requires g c = follows_next c.history_stands.ensures c.right_is_due.ensures c.args.script.now c.facts.ensures c.args.so_far.now c.args.actor c.requires (driver_in c.args.own.now) c.in_ok-entry.entry c.in_ok-entry.ensures

pub returns : goal.returns
returns g c = λ h e r was.
    subst (λ (x : Entry). IsAfter c.args.script.now (h ++ x ∷ []) c.add_entry.new.so_far)
    (due_here c.args.script.now h (state_in c.args.so_far.now.state) c.args.actor c.in_ok-entry.entry e r.state c.in_ok-entry.ensures was)
    (c.in_ok-add_entry.ensures h r)
