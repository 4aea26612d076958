use Rattle.std.proofs.Common.{◌≤◌, sym, ◌∙◌, subst}
use Rattle.std.proofs.lemmas.Bool.{false≢true}
use Rattle.hm_flaw_states.specs.Keyed.{form_in}
use Rattle.hm_flaw_states.specs.declared.key.FlawKey.{FlawKey}
use Rattle.hm_flaw_search.specs.Alike.{AllTurnAlike}
use Rattle.hm_flaw_search.proofs.Leading.{known_on, listed_at}
use Rattle.hm_flaw_search.proofs.race.FlawRace.known_turn_alike.Goals as goal

pub all_turn_alike-requires-clause-room : goal.all_turn_alike-requires-clause-room
all_turn_alike-requires-clause-room c =
    let n = c.state-item.result in
    subst (λ (k : FlawKey). k.state.value.entries ≤ 2000000) (sym c.key.ensures.same) (c.requires n (listed_at c.args.known.now c.loop-state.state-index n c.loop-state-test.true c.state-item.is))

pub returns-then-not-branch : goal.returns-then-not-branch
returns-then-not-branch c =
    let r = c.args.self.now in
    let n = c.state-item.result in
    let listed = listed_at c.args.known.now c.loop-state.state-index n c.loop-state-test.true c.state-item.is in (
      λ e. absurd (false≢true e),
      λ all. sym c.if-not-branch.true ∙ c.in_ok-all_turn_alike.ensures.1 (subst (λ (k : FlawKey). AllTurnAlike r.flaw r.script (form_in k)) (sym c.key.ensures.same) (all n listed)),
    )

pub loop-state-preserved : goal.loop-state-preserved
loop-state-preserved c =
    let r = c.args.self.now in
    let n = c.state-item.result in
    known_on r.flaw r.script c.args.known.now c.loop-state.state-index n c.loop-state-test.true c.state-item.is c.loop-state.invariant
    (subst (λ (k : FlawKey). AllTurnAlike r.flaw r.script (form_in k)) c.key.ensures.same (c.in_ok-all_turn_alike.ensures.0 c.if-not-branch.false))
