use Rattle.std.proofs.Common.{ap, ◌∙◌, arith}
use Rattle.hm_history.specs.Memory.Words.{page_of}
use Rattle.hm_folds.proofs.PastPages.{past_place}
use Rattle.hm_folds.proofs.places.PlaceState.place_at.Goals as goal
use Rattle.hm_history.proofs.Pages.{address_past}

pub returns-then-addr : goal.returns-then-addr
returns-then-addr c = λ p s h. past_place p s _ c.args.proc (page_of c.args.addr) h.tables (address_past c.args.addr (omega arith))

pub returns : goal.returns
returns c = λ p s h. c.place.ensures p s h ∙ ap (s.place c.args.proc) c.new.ensures
