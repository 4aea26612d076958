use Rattle.std.proofs.Common.{ap}
use Rattle.std.specs.Prelude.{option_map}
use Rattle.hm_race_keys.specs.Sparse.{found}
use Rattle.hm_flaw_parts.proofs.Alike.{same_set}
use Rattle.hm_flaw_parts.specs.Marks.{set_of}
use Rattle.hm_flaw_parts.proofs.marks.same_sets.Goals as goal

pub returns-clause-yes : goal.returns-clause-yes
returns-clause-yes c e = λ m v. ap (λ xs. option_map set_of (found xs m v)) (c.same.ensures.yes e)

pub returns-clause-no : goal.returns-clause-no
returns-clause-no c e = c.same.ensures.no (λ m v. same_set _ _ (e m v))
