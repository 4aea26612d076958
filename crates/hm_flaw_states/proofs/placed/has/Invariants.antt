use Rattle.std.proofs.Common.{◌≡◌, drop}
use Rattle.std.specs.List.{list_any}
use Rattle.hm_history.specs.Memory.Places.{is_page}
use Rattle.hm_flaw_states.specs.Placed.{page_in}
use Rattle.hm_flaw_states.proofs.placed.has.Given as goal

abbrev pub invariant-loop-one : goal.invariant-loop-one
invariant-loop-one l =
    list_any (λ x. is_page l.proc l.page (page_in x)) l.pages
    ≡ list_any (λ x. is_page l.proc l.page (page_in x)) (drop l.one-index l.pages)
