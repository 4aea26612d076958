use Rattle.hm_verdicts.proofs.Looked.{one_set}
use Rattle.hm_verdicts.proofs.all_looks.AllLooks.take.Goals as goal

pub returns-clause-none : goal.returns-clause-none
returns-clause-none c = one_set _ _ _ _ _ _ _ _ _ c.take_mirror-looks.ensures.none c.take_mirror-looks.ensures.had c.take-look.ensures.none
    c.in_ok-put_mirror.ensures
