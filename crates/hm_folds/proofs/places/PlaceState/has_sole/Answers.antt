use Rattle.std.proofs.Common.{ap, sym, ◌∙◌, arith}
use Rattle.hm_history.specs.Memory.Words.{page_of}
use Rattle.hm_history.specs.Memory.Plain.{owned}
use Rattle.hm_history.specs.Memory.Places.{table_sole}
use Rattle.hm_folds.proofs.Writes.{read_at}
use Rattle.hm_folds.proofs.places.PlaceState.has_sole.Goals as goal

pub returns-in-Some : goal.returns-in-Some
returns-in-Some c = λ p s h.
    let owner = sym c.in-Some.is ∙ read_at (λ o. o) c.args.self.now.owners c.number.result c.args.mirror _ c.number.ensures.same (omega arith) in
    c.table_is_sole.ensures p s h ∙ ap (λ o. owned o (λ q. table_sole s c.args.actor c.args.mirror q (page_of c.args.addr))) owner
