use Rattle.std.proofs.Common.{arith}
use Rattle.hm_search.proofs.Steps.{grown_none, grown_on, grown_upto, grown_length, below_next, searching_on}
use Rattle.hm_search.proofs.search.step.Goals as goal

pub loop-number-init : goal.loop-number-init
loop-number-init g c = record { searching = c.requires.searching; grown = grown_none c.args.states.now.known.items 0; below = λ a l. absurd (omega (arith, l)); bound = omega arith; kept = c.requires.kept }

pub go-requires-clause-state : goal.go-requires-clause-state
go-requires-clause-state g c = omega (arith, c.requires.at, (grown_length c.args.states.now.known.items c.loop-number.states.known.items c.loop-number.number c.loop-number.invariant.grown).0)

pub loop-number-preserved : goal.loop-number-preserved
loop-number-preserved g c =
    let before = c.args.states.now.known.items in
    let now = c.loop-number.states.known.items in
    let kept = c.loop-number.invariant in
    record {
      searching = c.in_ok-go.ensures.searching;
      grown = grown_on before now c.go.new.states.known.items c.loop-number.number kept.grown c.in_ok-go.ensures.grown;
      below = below_next g.S.System.form (g.S.System.value c.args.system.now) before now c.go.new.states.known.items c.args.at c.loop-number.number c.loop-number.number c.new.result c.requires.at kept.grown c.in_ok-go.ensures.grown c.new.ensures kept.below c.in_ok-go.ensures.goes;
      bound = omega (arith, c.loop-number-test.true, c.actors-number-end.ensures);
      kept = c.in_ok-go.ensures.kept;
    }

pub returns-clause-searching : goal.returns-clause-searching
returns-clause-searching g c =
    let key = g.S.Key.SearchKey in
    let kept = c.loop-number.invariant in
    searching_on (g.S.System.value c.args.system.now) c.facts.ensures.system g.S.System.form key.form key.number key.Valid c.args.states.now.known.items c.loop-number.states.known.items c.loop-number.states.buckets c.args.at c.loop-number.number c.loop-number.number
    c.requires.at kept.grown (omega (arith, c.loop-number-test.false, c.actors-number-end.ensures)) kept.searching kept.below

pub returns-clause-grown : goal.returns-clause-grown
returns-clause-grown g c = grown_upto c.args.states.now.known.items c.loop-number.states.known.items c.loop-number.number _ c.loop-number.invariant.bound c.loop-number.invariant.grown
