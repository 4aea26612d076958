use Rattle.hm_actors.proofs.RisingKept.{passed_over}
use Rattle.hm_actors.proofs.places.from_page.Goals as goal

pub returns : goal.returns
returns c = λ test. passed_over test c.args.page c.place_of.result c.args.records.now c.place_of.ensures.within c.place_of.ensures.before
