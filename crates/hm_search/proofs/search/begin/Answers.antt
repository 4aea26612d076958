use Rattle.std.proofs.Common.{None, refl}
use Rattle.hm_search.proofs.Steps.{first_stands, first_searching}
use Rattle.hm_search.proofs.search.begin.Goals as goal

pub ended-has_ended-requires : goal.ended-has_ended-requires
ended-has_ended-requires g c = first_stands (g.S.System.value c.args.system.now) _ c.in_ok-key.ensures.form

pub returns-in-Ok-push-clause-searching : goal.returns-in-Ok-push-clause-searching
returns-in-Ok-push-clause-searching g c =
    let key = g.S.Key.SearchKey in
    first_searching (g.S.System.value c.args.system.now) g.S.System.form key.form key.number key.Valid (record { key = c.in_ok-key.key; from = None; depth = 0; ended = c.ended-has_ended.result }) c.in-Ok.states.known.items _ _
    c.in-Ok.ensures.empty c.in-Ok-push.ensures.pushed refl refl c.in_ok-key.ensures.form c.ended-has_ended.ensures c.facts.ensures.system.room c.in-Ok-push.ensures.fits
