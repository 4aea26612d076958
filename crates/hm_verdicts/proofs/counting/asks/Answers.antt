use Rattle.std.proofs.Common.{ap, sym, ◌∙◌}
use Rattle.hm_protocol.specs.Verdicts.{asks}
use Rattle.hm_verdicts.specs.Knowledge.{known_of}
use Rattle.hm_verdicts.proofs.counting.asks.Goals as goal

pub returns-in-MmapLock : goal.returns-in-MmapLock
returns-in-MmapLock c = let k = known_of c.args.knowledge.now in
    let e = c.args.event.now in
    c.mmap_lock.ensures k ∙ sym (ap (λ r. asks r k e.thread e.event) c.in-MmapLock.is)

pub returns-in-StopAtDetach : goal.returns-in-StopAtDetach
returns-in-StopAtDetach c = let k = known_of c.args.knowledge.now in
    let e = c.args.event.now in
    c.stop_at_detach.ensures k ∙ sym (ap (λ r. asks r k e.thread e.event) c.in-StopAtDetach.is)

pub returns-in-ExclusiveWaits : goal.returns-in-ExclusiveWaits
returns-in-ExclusiveWaits c = let k = known_of c.args.knowledge.now in
    let e = c.args.event.now in
    c.exclusive_waits.ensures k ∙ sym (ap (λ r. asks r k e.thread e.event) c.in-ExclusiveWaits.is)

pub returns-in-LookAgain : goal.returns-in-LookAgain
returns-in-LookAgain c = let k = known_of c.args.knowledge.now in
    let e = c.args.event.now in
    c.look_again.ensures k ∙ sym (ap (λ r. asks r k e.thread e.event) c.in-LookAgain.is)

pub returns-in-WithdrawFirst : goal.returns-in-WithdrawFirst
returns-in-WithdrawFirst c = let k = known_of c.args.knowledge.now in
    let e = c.args.event.now in
    c.withdraw_first.ensures k ∙ sym (ap (λ r. asks r k e.thread e.event) c.in-WithdrawFirst.is)
