use Rattle.std.proofs.Common.{ap, ◌∙◌}
use Rattle.hm_flaw_states.specs.Placed.{pages_in}
use Rattle.hm_flaw_states.specs.declared.placed.PlacedPages.{PlacedPages}
use Rattle.hm_flaw_states.proofs.groups.first_pages.Goals as goal

pub returns : goal.returns
returns c = record {
  places = c.in_ok-new.ensures.ok ∙ c.new.ensures;
  placed = ap (λ (x : PlacedPages). pages_in x.pages.items) c.in_ok-new-2.ensures.ok ∙ c.new-3.ensures;
  held = c.in_ok-new-3.ensures.ok ∙ c.new-5.ensures;
  commits = c.in_ok-new-4.ensures.ok ∙ c.new-7.ensures;
}
