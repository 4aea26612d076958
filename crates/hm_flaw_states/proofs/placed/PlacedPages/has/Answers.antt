use Rattle.std.proofs.Common.{List, ap, ◌∙◌}
use Rattle.std.specs.List.{list_any}
use Rattle.hm_history.specs.Memory.Places.{is_page}
use Rattle.hm_flaw_states.specs.Placed.{page_in}
use Rattle.hm_flaw_states.specs.declared.placed.PlacedPage.{PlacedPage}
use Rattle.hm_flaw_states.proofs.Pages.{any_mapped}
use Rattle.hm_flaw_states.proofs.placed.PlacedPages.has.Goals as goal

pub returns : goal.returns
returns c = c.has.ensures
    ∙ ap (λ (xs : List PlacedPage). list_any (λ x. is_page c.args.proc c.args.page (page_in x)) xs) c.deref.ensures.value
    ∙ any_mapped c.args.proc c.args.page c.args.self.now.pages.items
