use Rattle.std.proofs.Common.{◌≡◌, Some, sym, ap, ◌∙◌}
use Rattle.hm_base.specs.declared.Place.{Place}
use Rattle.hm_history.specs.Memory.Places.{TableEntry}
use Rattle.hm_history.specs.Memory.Words.{page_of}
use Rattle.hm_folds.specs.Standing.{entry_allows}
use Rattle.hm_folds.proofs.PlaceAccepts.{table_form}
use Rattle.hm_flaw_states.specs.OwnTables.{entry_of}
use Rattle.hm_flaw_states.specs.States.{all_places}
use Rattle.hm_flaw_states.proofs.here.FlawHere.table_may.Goals as goal

pub returns-in-Some : goal.returns-in-Some
returns-in-Some c =
    let s = all_places c.args.self.now.state.now in
    let v = page_of c.args.addr in
    let x = c.in-Some.entry in
    let e : TableEntry = record { target = x.mapping.target; right = x.mapping.right; from = x.since } in
    let entry : Some e ≡ s.table c.args.mirror v = ap entry_of (sym c.in-Some.is) ∙ c.entry_at.ensures in
    c.entry_may.ensures
    ∙ ap (λ (z : Place). entry_allows s e z c.args.writes) c.place_at.ensures
    ∙ table_form s c.args.mirror c.args.proc v c.args.writes e entry
