use Rattle.std.proofs.Common.{Some, refl}
use Rattle.hm_search.proofs.Steps.{led_stands, known_already, searching_new, within_new}
use Rattle.hm_search.proofs.Table.{kept_more}
use Rattle.hm_search.proofs.search.add.Goals as goal

pub ended-ended-requires : goal.ended-ended-requires
ended-ended-requires g c = led_stands (g.S.System.value c.args.system.now) _ _ _ c.requires.leads

pub returns-then-has-clause-within : goal.returns-then-has-clause-within
returns-then-has-clause-within g c =
    let key = g.S.Key.SearchKey in
    known_already (g.S.System.value c.args.system.now) g.S.System.form key.form key.number key.Valid c.args.states.now.known.items c.args.states.now.buckets c.args.turn.state
    c.requires.searching c.requires.state c.facts.ensures.alike c.args.key c.args.depth c.requires.depth (c.has.ensures.some c.if-has.true)

pub returns-in-Ok-clause-searching : goal.returns-in-Ok-clause-searching
returns-in-Ok-clause-searching g c =
    let key = g.S.Key.SearchKey in
    searching_new (g.S.System.value c.args.system.now) g.S.System.form key.form key.number key.Valid c.args.states.now.known.items c.args.states.now.buckets c.args.turn.state
    c.requires.searching c.requires.state (record { key = c.args.key; from = Some c.args.turn; depth = c.args.depth; ended = c.ended-ended.result }) c.args.turn.actor refl c.requires.depth c.ended-ended.ensures c.requires.actor c.requires.leads
    c.push.new.self.known.items c.in-Ok.ensures.pushed c.push.new.self.buckets c.in-Ok.ensures.fits

pub returns-in-Ok-clause-within : goal.returns-in-Ok-clause-within
returns-in-Ok-clause-within g c =
    let key = g.S.Key.SearchKey in
    within_new (g.S.System.value c.args.system.now) g.S.System.form key.form key.number key.Valid c.args.states.now.known.items c.args.states.now.buckets c.args.turn.state
    c.requires.searching c.requires.state (record { key = c.args.key; from = Some c.args.turn; depth = c.args.depth; ended = c.ended-ended.result }) c.args.turn.actor refl c.requires.depth c.ended-ended.ensures c.requires.actor c.requires.leads
    c.push.new.self.known.items c.in-Ok.ensures.pushed c.args.depth c.requires.depth

pub returns-in-Ok-clause-kept : goal.returns-in-Ok-clause-kept
returns-in-Ok-clause-kept g c =
    kept_more (g.S.System.value c.args.system.now) (g.S.System.Kept c.args.system.now) c.args.states.now.known.items c.push.new.self.known.items
    (record { key = c.args.key; from = Some c.args.turn; depth = c.args.depth; ended = c.ended-ended.result }) c.requires.kept c.requires.made c.in-Ok.ensures.pushed
