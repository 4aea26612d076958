use Rattle.std.proofs.Common.{sym, ◌∙◌}
use Rattle.hm_flaw_states.proofs.Pages.{pages_same}
use Rattle.hm_flaw_states.proofs.placed.PlacedPages.same.Goals as goal

pub returns-clause-no : goal.returns-clause-no
returns-clause-no c e = c.same_pages.ensures.no (c.deref.ensures.value ∙ (pages_same c.args.self.now.pages.items c.args.other.now.pages.items e ∙ sym c.deref-2.ensures.value))
