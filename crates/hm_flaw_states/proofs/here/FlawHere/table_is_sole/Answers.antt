use Rattle.std.proofs.Common.{◌≡◌, ◌&&◌, Some, sym, ap, ◌∙◌}
use Rattle.hm_base.specs.declared.Place.{Place}
use Rattle.hm_history.specs.Memory.Places.{TableEntry, entry_passes, is_exclusive_of, is_sole}
use Rattle.hm_history.specs.Memory.Words.{page_of}
use Rattle.hm_folds.proofs.PlaceAccepts.{and_then}
use Rattle.hm_flaw_states.specs.OwnTables.{entry_of}
use Rattle.hm_flaw_states.specs.States.{all_places}
use Rattle.hm_flaw_states.proofs.here.FlawHere.table_is_sole.Goals as goal

pub returns-then-is_sole : goal.returns-then-is_sole
returns-then-is_sole c =
    let s = all_places c.args.self.now.state.now in
    let v = page_of c.args.addr in
    let x = c.in-Some.entry in
    let e : TableEntry = record { target = x.mapping.target; right = x.mapping.right; from = x.since } in
    let entry : Some e ≡ s.table c.args.mirror v = ap entry_of (sym c.in-Some.is) ∙ c.entry_at.ensures in
    c.is_exclusive_of.ensures
    ∙ ap (λ (z : Place). is_exclusive_of z c.args.actor e.target) c.place_at.ensures
    ∙ and_then (is_sole e.right) _ (sym c.is_sole.ensures ∙ c.if-is_sole.true)
    ∙ ap (entry_passes (λ y. is_sole y.right && is_exclusive_of (s.place c.args.proc v) c.args.actor y.target)) entry
