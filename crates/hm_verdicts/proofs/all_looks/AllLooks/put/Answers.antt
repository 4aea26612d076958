use Rattle.hm_verdicts.proofs.Looked.{one_set}
use Rattle.hm_verdicts.proofs.all_looks.AllLooks.put.Goals as goal

pub returns : goal.returns
returns c = one_set _ _ _ _ _ _ _ _ _ c.take_mirror-looks.ensures.none c.take_mirror-looks.ensures.had c.in_ok-put.ensures
    c.in_ok-put_mirror.ensures
