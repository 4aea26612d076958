use Rattle.std.proofs.Common.{refl}
use Rattle.hm_view.specs.Page.{page_end}
use Rattle.hm_view.proofs.page.end.Goals as goal

pub returns : goal.returns
unfolding page_end
returns c = refl
