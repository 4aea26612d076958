use Rattle.hm_search.proofs.Table.{fits_more}
use Rattle.hm_search.proofs.known.States.push.Goals as goal

pub returns-clause-fits : goal.returns-clause-fits
returns-clause-fits g c =
    let key = g.K.SearchKey in
    fits_more key.form key.number key.Valid c.args.self.now.known.items c.push-2.new.self.items c.args.state c.args.self.now.buckets c.push.new.self c.args.bucket
    c.requires.fits c.requires.bucket c.facts.ensures c.requires.new c.in_ok-push.ensures c.in_ok-push-2.ensures.items
