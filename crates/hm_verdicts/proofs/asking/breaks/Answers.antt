use Rattle.std.proofs.Common.{ap, sym, ◌∙◌}
use Rattle.hm_verdicts.specs.Asking.{breaks_at}
use Rattle.hm_verdicts.specs.Knowledge.{known_of}
use Rattle.hm_verdicts.proofs.asking.breaks.Goals as goal

pub returns-in-MmapLock : goal.returns-in-MmapLock
returns-in-MmapLock c = let k = known_of c.args.knowledge.now in
    c.mmap_lock.ensures k ∙ sym (ap (λ r. breaks_at r k c.args.event.now) c.in-MmapLock.is)
