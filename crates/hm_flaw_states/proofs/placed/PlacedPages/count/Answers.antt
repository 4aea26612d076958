use Rattle.std.proofs.Common.{List, ap, ◌∙◌, count_by}
use Rattle.hm_flaw_states.specs.declared.placed.PlacedPage.{PlacedPage}
use Rattle.hm_flaw_states.proofs.Pages.{count_mapped}
use Rattle.hm_flaw_states.proofs.placed.PlacedPages.count.Goals as goal

pub returns : goal.returns
returns g c = c.count_of.ensures
    ∙ ap (λ (xs : List PlacedPage). count_by (λ (x : PlacedPage). g.T.Asks.test c.args.asks.now x.proc x.page) xs) c.deref.ensures.value
    ∙ count_mapped (g.T.Asks.test c.args.asks.now) c.args.self.now.pages.items
