use Rattle.std.proofs.Common.{Option, List, ◌∙◌, ap, sym}
use Rattle.hm_base.specs.Program.{Program}
use Rattle.hm_history.specs.declared.Entry.{Entry}
use Rattle.hm_history.specs.declared.StepError.{StepError}
use Rattle.hm_world.specs.WorldValue.{WorldValue, now}
use Rattle.hm_world.proofs.Adding.{is_next, tables_ready, old_place, reserved_stands, actors_ready, spaces_ready, frames_ready, notifiers_ready, mirrors_ready, added}
use Rattle.hm_world.proofs.Noting.{seen_is}
use Rattle.hm_world.proofs.Shown.{now_length}
use Rattle.hm_world.proofs.World.add.Goals as goal

abbrev told : Program → List Entry → Option StepError → WorldValue
told c h z = record { script = c; history = h; halted = z }

pub reserve-requires : goal.reserve-requires
reserve-requires c = tables_ready (record { script = c.self.inside.script; history = c.self.inside.history.entries; halted = c.self.inside.halted }) _ c.self.invariant c.args.entry.actor c.args.entry.kind (is_next (record { script = c.self.inside.script; history = c.self.inside.history.entries; halted = c.self.inside.halted }) _ c.self.view_is c.args.entry.actor c.args.entry.kind c.requires.limit c.requires.running c.requires.due)

pub invariant_of-self : goal.invariant_of-self
invariant_of-self c = (reserved_stands c.self.inside.script c.self.inside.history.entries c.reserve.new.history.entries c.self.inside.halted _ c.self.invariant c.reserve.ensures.history c.reserve.new.tables c.reserve.ensures.tables _ c.args.entry.kind c.reserve.new.mirrors c.reserve.ensures.mirrors c.reserve.new.actors c.reserve.ensures.actors c.reserve.new.notifiers c.reserve.ensures.notifiers)

pub invariant_of-self-2 : goal.invariant_of-self-2
invariant_of-self-2 c = (reserved_stands c.self.inside.script c.self.inside.history.entries c.reserve.new.history.entries c.self.inside.halted _ c.self.invariant c.reserve.ensures.history c.reserve.new.tables c.reserve.ensures.tables _ c.args.entry.kind c.reserve.new.mirrors c.reserve.ensures.mirrors c.reserve.new.actors c.reserve.ensures.actors c.reserve.new.notifiers c.reserve.ensures.notifiers)

pub invariant_of-self-3 : goal.invariant_of-self-3
invariant_of-self-3 c = (reserved_stands c.self.inside.script c.self.inside.history.entries c.reserve.new.history.entries c.self.inside.halted _ c.self.invariant c.reserve.ensures.history c.reserve.new.tables c.reserve.ensures.tables _ c.args.entry.kind c.reserve.new.mirrors c.reserve.ensures.mirrors c.reserve.new.actors c.reserve.ensures.actors c.reserve.new.notifiers c.reserve.ensures.notifiers)

pub invariant_of-self-4 : goal.invariant_of-self-4
invariant_of-self-4 c = (reserved_stands c.self.inside.script c.self.inside.history.entries c.reserve.new.history.entries c.self.inside.halted _ c.self.invariant c.reserve.ensures.history c.reserve.new.tables c.reserve.ensures.tables _ c.args.entry.kind c.reserve.new.mirrors c.reserve.ensures.mirrors c.reserve.new.actors c.reserve.ensures.actors c.reserve.new.notifiers c.reserve.ensures.notifiers)

pub invariant_of-self-5 : goal.invariant_of-self-5
invariant_of-self-5 c = (reserved_stands c.self.inside.script c.self.inside.history.entries c.reserve.new.history.entries c.self.inside.halted _ c.self.invariant c.reserve.ensures.history c.reserve.new.tables c.reserve.ensures.tables _ c.args.entry.kind c.reserve.new.mirrors c.reserve.ensures.mirrors c.reserve.new.actors c.reserve.ensures.actors c.reserve.new.notifiers c.reserve.ensures.notifiers)

pub invariant_of-self-6 : goal.invariant_of-self-6
invariant_of-self-6 c = (reserved_stands c.self.inside.script c.self.inside.history.entries c.reserve.new.history.entries c.self.inside.halted _ c.self.invariant c.reserve.ensures.history c.reserve.new.tables c.reserve.ensures.tables _ c.args.entry.kind c.reserve.new.mirrors c.reserve.ensures.mirrors c.reserve.new.actors c.reserve.ensures.actors c.reserve.new.notifiers c.reserve.ensures.notifiers)

pub step-requires-clause-fits : goal.step-requires-clause-fits
step-requires-clause-fits c = actors_ready (record { script = c.self.inside.script; history = c.reserve.new.history.entries; halted = c.self.inside.halted }) _ (reserved_stands c.self.inside.script c.self.inside.history.entries c.reserve.new.history.entries c.self.inside.halted _ c.self.invariant c.reserve.ensures.history c.reserve.new.tables c.reserve.ensures.tables _ c.args.entry.kind c.reserve.new.mirrors c.reserve.ensures.mirrors c.reserve.new.actors c.reserve.ensures.actors c.reserve.new.notifiers c.reserve.ensures.notifiers) c.args.entry.actor c.args.entry.kind (is_next (record { script = c.self.inside.script; history = c.reserve.new.history.entries; halted = c.self.inside.halted }) _ (ap (λ (h : List Entry). told c.self.inside.script h c.self.inside.halted) c.reserve.ensures.history ∙ c.self.view_is) c.args.entry.actor c.args.entry.kind c.requires.limit c.requires.running c.requires.due) _ (seen_is c.self.inside.script (now (record { script = c.self.inside.script; history = c.reserve.new.history.entries; halted = c.self.inside.halted })).after c.args.entry.actor ((now (record { script = c.self.inside.script; history = c.reserve.new.history.entries; halted = c.self.inside.halted })).going c.args.entry.actor) c.args.entry.kind _ _ _ _ _ (c.len.ensures ∙ sym (now_length (record { script = c.self.inside.script; history = c.reserve.new.history.entries; halted = c.self.inside.halted }))) c.overlaps.ensures c.place_seen.ensures c.left_behind-orphan.ensures c.page_seen.ensures)

pub step-requires-2 : goal.step-requires-2
step-requires-2 c = record { fits = spaces_ready (record { script = c.self.inside.script; history = c.reserve.new.history.entries; halted = c.self.inside.halted }) _ (reserved_stands c.self.inside.script c.self.inside.history.entries c.reserve.new.history.entries c.self.inside.halted _ c.self.invariant c.reserve.ensures.history c.reserve.new.tables c.reserve.ensures.tables _ c.args.entry.kind c.reserve.new.mirrors c.reserve.ensures.mirrors c.reserve.new.actors c.reserve.ensures.actors c.reserve.new.notifiers c.reserve.ensures.notifiers) c.args.entry.actor c.args.entry.kind (is_next (record { script = c.self.inside.script; history = c.reserve.new.history.entries; halted = c.self.inside.halted }) _ (ap (λ (h : List Entry). told c.self.inside.script h c.self.inside.halted) c.reserve.ensures.history ∙ c.self.view_is) c.args.entry.actor c.args.entry.kind c.requires.limit c.requires.running c.requires.due) }

pub step_frames-requires : goal.step_frames-requires
step_frames-requires c = frames_ready (record { script = c.self.inside.script; history = c.reserve.new.history.entries; halted = c.self.inside.halted }) _ (reserved_stands c.self.inside.script c.self.inside.history.entries c.reserve.new.history.entries c.self.inside.halted _ c.self.invariant c.reserve.ensures.history c.reserve.new.tables c.reserve.ensures.tables _ c.args.entry.kind c.reserve.new.mirrors c.reserve.ensures.mirrors c.reserve.new.actors c.reserve.ensures.actors c.reserve.new.notifiers c.reserve.ensures.notifiers) c.args.entry.actor c.args.entry.kind (is_next (record { script = c.self.inside.script; history = c.reserve.new.history.entries; halted = c.self.inside.halted }) _ (ap (λ (h : List Entry). told c.self.inside.script h c.self.inside.halted) c.reserve.ensures.history ∙ c.self.view_is) c.args.entry.actor c.args.entry.kind c.requires.limit c.requires.running c.requires.due) c.place_before-before.result c.left_behind-orphan.result c.place_before-before.ensures c.left_behind-orphan.ensures

pub step_tables-requires-clause-old : goal.step_tables-requires-clause-old
step_tables-requires-clause-old c = old_place (record { script = c.self.inside.script; history = c.reserve.new.history.entries; halted = c.self.inside.halted }) _ (reserved_stands c.self.inside.script c.self.inside.history.entries c.reserve.new.history.entries c.self.inside.halted _ c.self.invariant c.reserve.ensures.history c.reserve.new.tables c.reserve.ensures.tables _ c.args.entry.kind c.reserve.new.mirrors c.reserve.ensures.mirrors c.reserve.new.actors c.reserve.ensures.actors c.reserve.new.notifiers c.reserve.ensures.notifiers) c.args.entry.kind _ c.place_before-before.ensures

pub step-requires-3-clause-fits : goal.step-requires-3-clause-fits
step-requires-3-clause-fits c = notifiers_ready (record { script = c.self.inside.script; history = c.reserve.new.history.entries; halted = c.self.inside.halted }) _ (reserved_stands c.self.inside.script c.self.inside.history.entries c.reserve.new.history.entries c.self.inside.halted _ c.self.invariant c.reserve.ensures.history c.reserve.new.tables c.reserve.ensures.tables _ c.args.entry.kind c.reserve.new.mirrors c.reserve.ensures.mirrors c.reserve.new.actors c.reserve.ensures.actors c.reserve.new.notifiers c.reserve.ensures.notifiers) c.args.entry.actor c.args.entry.kind (is_next (record { script = c.self.inside.script; history = c.reserve.new.history.entries; halted = c.self.inside.halted }) _ (ap (λ (h : List Entry). told c.self.inside.script h c.self.inside.halted) c.reserve.ensures.history ∙ c.self.view_is) c.args.entry.actor c.args.entry.kind c.requires.limit c.requires.running c.requires.due)

pub step-requires-4-clause-fits : goal.step-requires-4-clause-fits
step-requires-4-clause-fits c = mirrors_ready (record { script = c.self.inside.script; history = c.reserve.new.history.entries; halted = c.self.inside.halted }) _ (reserved_stands c.self.inside.script c.self.inside.history.entries c.reserve.new.history.entries c.self.inside.halted _ c.self.invariant c.reserve.ensures.history c.reserve.new.tables c.reserve.ensures.tables _ c.args.entry.kind c.reserve.new.mirrors c.reserve.ensures.mirrors c.reserve.new.actors c.reserve.ensures.actors c.reserve.new.notifiers c.reserve.ensures.notifiers) c.args.entry.actor c.args.entry.kind (is_next (record { script = c.self.inside.script; history = c.reserve.new.history.entries; halted = c.self.inside.halted }) _ (ap (λ (h : List Entry). told c.self.inside.script h c.self.inside.halted) c.reserve.ensures.history ∙ c.self.view_is) c.args.entry.actor c.args.entry.kind c.requires.limit c.requires.running c.requires.due)

pub invariant_of-self-7 : goal.invariant_of-self-7
invariant_of-self-7 c = rw c.push_reserved.ensures.entries (added (record { script = c.self.inside.script; history = c.reserve.new.history.entries; halted = c.self.inside.halted }) _ _ (reserved_stands c.self.inside.script c.self.inside.history.entries c.reserve.new.history.entries c.self.inside.halted _ c.self.invariant c.reserve.ensures.history c.reserve.new.tables c.reserve.ensures.tables _ c.args.entry.kind c.reserve.new.mirrors c.reserve.ensures.mirrors c.reserve.new.actors c.reserve.ensures.actors c.reserve.new.notifiers c.reserve.ensures.notifiers) c.args.entry.actor c.args.entry.kind (is_next (record { script = c.self.inside.script; history = c.reserve.new.history.entries; halted = c.self.inside.halted }) _ (ap (λ (h : List Entry). told c.self.inside.script h c.self.inside.halted) c.reserve.ensures.history ∙ c.self.view_is) c.args.entry.actor c.args.entry.kind c.requires.limit c.requires.running c.requires.due) _ c.place_before-before.result c.left_behind-orphan.result c.place_before-before.ensures c.left_behind-orphan.ensures (seen_is c.self.inside.script (now (record { script = c.self.inside.script; history = c.reserve.new.history.entries; halted = c.self.inside.halted })).after c.args.entry.actor ((now (record { script = c.self.inside.script; history = c.reserve.new.history.entries; halted = c.self.inside.halted })).going c.args.entry.actor) c.args.entry.kind _ _ _ _ _ (c.len.ensures ∙ sym (now_length (record { script = c.self.inside.script; history = c.reserve.new.history.entries; halted = c.self.inside.halted }))) c.overlaps.ensures c.place_seen.ensures c.left_behind-orphan.ensures c.page_seen.ensures) (record {
  frames = c.step_frames.ensures;
  tables = c.step_tables.ensures.tables;
  tables_range = c.step_tables.ensures.range;
  spaces = c.step-2.ensures.next;
  spaces_range = c.step-2.ensures.parent;
  notifiers = c.step-3.ensures.next;
  notifiers_range = c.step-3.ensures.range;
  room = _;
  mirrors = c.step-4.ensures;
  actors = c.step.ensures;
}))
