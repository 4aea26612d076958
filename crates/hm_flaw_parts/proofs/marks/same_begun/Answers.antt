use Rattle.std.proofs.Common.{ap}
use Rattle.std.specs.Prelude.{option_map}
use Rattle.hm_race_keys.specs.Sparse.{found}
use Rattle.hm_flaw_parts.proofs.Alike.{same_position}
use Rattle.hm_flaw_parts.specs.Marks.{at_of}
use Rattle.hm_flaw_parts.proofs.marks.same_begun.Goals as goal

pub returns-clause-yes : goal.returns-clause-yes
returns-clause-yes c e = λ a m. ap (λ xs. option_map at_of (found xs a m)) (c.same.ensures.yes e)

pub returns-clause-no : goal.returns-clause-no
returns-clause-no c e = c.same.ensures.no (λ a m. same_position _ _ (e a m))
