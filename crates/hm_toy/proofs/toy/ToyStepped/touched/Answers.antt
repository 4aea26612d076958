use Rattle.std.proofs.Common.{◌∙◌}
use Rattle.hm_toy.proofs.Histories.{shown_last, shown_none}
use Rattle.hm_toy.proofs.toy.ToyStepped.touched.Goals as goal

pub returns-in-None : goal.returns-in-None
returns-in-None c = shown_none _ _ _ _ _ c.self.view_is c.as_slice.ensures.value c.in-None.ensures

pub returns-in-Some : goal.returns-in-Some
returns-in-Some c = c.touched_by.ensures ∙ shown_last _ _ _ _ _ _ c.self.view_is c.as_slice.ensures.value c.self.invariant.legal c.in-Some.ensures
