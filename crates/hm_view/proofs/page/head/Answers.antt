use Rattle.std.proofs.Common.{refl}
use Rattle.hm_view.specs.Page.{page_head}
use Rattle.hm_view.proofs.page.head.Goals as goal

pub returns : goal.returns
unfolding page_head
returns c = refl
