use Rattle.std.proofs.Common.{sym, ◌∙◌}
use Rattle.hm_history.specs.Memory.Places.{TableEntry}
use Rattle.hm_folds.proofs.PlaceAccepts.{and_else, and_then, entry_form}
use Rattle.hm_flaw_states.specs.States.{all_places}
use Rattle.hm_flaw_states.proofs.here.FlawHere.entry_may.Goals as goal

pub returns-then-not-right_allows : goal.returns-then-not-right_allows
returns-then-not-right_allows c =
    let x = c.args.entry.now in
    let e : TableEntry = record { target = x.mapping.target; right = x.mapping.right; from = x.since } in
    and_else _ _ (sym c.right_allows.ensures ∙ c.if-not-right_allows.true) ∙ entry_form (all_places c.args.self.now.state.now) e c.args.place.now c.args.writes

pub returns-then-not-place_allows : goal.returns-then-not-place_allows
returns-then-not-place_allows c =
    let x = c.args.entry.now in
    let e : TableEntry = record { target = x.mapping.target; right = x.mapping.right; from = x.since } in
    and_else _ _ (sym c.place_allows.ensures ∙ c.if-not-place_allows.true) ∙ and_then _ _ (sym c.right_allows.ensures ∙ c.if-not-right_allows.false)
    ∙ entry_form (all_places c.args.self.now.state.now) e c.args.place.now c.args.writes

pub returns : goal.returns
returns c =
    let x = c.args.entry.now in
    let e : TableEntry = record { target = x.mapping.target; right = x.mapping.right; from = x.since } in
    c.is_target.ensures
    ∙ and_then _ _ (sym c.place_allows.ensures ∙ c.if-not-place_allows.false) ∙ and_then _ _ (sym c.right_allows.ensures ∙ c.if-not-right_allows.false)
    ∙ entry_form (all_places c.args.self.now.state.now) e c.args.place.now c.args.writes
