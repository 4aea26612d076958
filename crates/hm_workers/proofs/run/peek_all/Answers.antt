use Rattle.std.proofs.Common.{List, length, sym, ap, ◌∙◌, subst, arith}
use Rattle.hm_history.specs.declared.Entry.{Entry}
use Rattle.hm_turns.proofs.Sums.{prefix_refl}
use Rattle.hm_turns.specs.Sights.{Sight, IsShown}
use Rattle.hm_turns.specs.Stepping.{is_halted}
use Rattle.hm_workers.specs.Dealing.{HaveEnded, IsGathered}
use Rattle.hm_workers.specs.Peeking.{ArePeeks, IsPlain, ReachesEnd}
use Rattle.hm_workers.specs.declared.watching.WatchedBytes.{WatchedBytes}
use Rattle.hm_workers.proofs.Deals.{gathered_on, halts_before, halts_too, true_or, works_ended, works_own, works_shares}
use Rattle.hm_workers.proofs.Recorded.{last_has_areas, peeks_stay, plain_in}
use Rattle.hm_workers.proofs.Watched.{joined_shown}
use Rattle.hm_workers.proofs.run.peek_all.Goals as goal

pub gather-requires : goal.gather-requires
gather-requires g c = record { own = (c.in_ok-passes.ensures.rest ∙ (ap (λ s. s.desk) c.split-watcher.ensures.old ∙ ap (λ s. s.desk) c.in_ok-turns.ensures.1), works_own g.S.Stepped.due c.in_ok-passes.passes c.in_ok-passes-2.passes c.in_ok-passes-2.ensures.work c.in_ok-turns.turns c.in_ok-passes.ensures.own.0) }

pub peek_last-requires-clause-shares : goal.peek_last-requires-clause-shares
peek_last-requires-clause-shares g c =
    let s = c.gather.ensures.shares in
    let d = c.in_ok-passes.ensures.shares in
    let w = works_shares g.S.Stepped.due c.in_ok-passes.passes c.in_ok-passes-2.passes c.in_ok-passes-2.ensures.work in
    let first = ap (λ p. p.shares) c.in_ok-turns.ensures.1 in
    let cut = ap (λ p. p.shares) c.split-watcher.ensures.old in
    let one = ap (λ p. p.shares) c.split-watcher.ensures.new in
    let kept = c.run_peeked.ensures.watcher.goes.shares in
    let both = ap (λ p. p.shares) c.join.ensures.both in
    omega arith

pub peek_last-requires-clause-peeks : goal.peek_last-requires-clause-peeks
peek_last-requires-clause-peeks g c =
    let a : WatchedBytes = record { proc = c.args.proc; addr = c.args.addr; len = c.args.len } in
    peeks_stay a c.run_peeked.new.watcher c.join.new.pass c.in_ok-passes-2.peeks (joined_shown c.gather.new.whole c.run_peeked.new.watcher c.join.new.pass c.join.ensures.both c.join.ensures.lists.1) c.in_ok-passes-2.ensures.peeks

pub close-stepped-requires-clause-whole : goal.close-stepped-requires-clause-whole
close-stepped-requires-clause-whole g c =
    let s = c.gather.ensures.shares in
    let d = c.in_ok-passes.ensures.shares in
    let w = works_shares g.S.Stepped.due c.in_ok-passes.passes c.in_ok-passes-2.passes c.in_ok-passes-2.ensures.work in
    let first = ap (λ p. p.shares) c.in_ok-turns.ensures.1 in
    let cut = ap (λ p. p.shares) c.split-watcher.ensures.old in
    let one = ap (λ p. p.shares) c.split-watcher.ensures.new in
    let kept = c.run_peeked.ensures.watcher.goes.shares in
    let both = ap (λ p. p.shares) c.join.ensures.both in
    let last = c.peek_last.ensures.pass.goes.shares in
    omega arith

pub returns-clause-ended : goal.returns-clause-ended
returns-clause-ended g c =
    let n = c.in_ok-turns.ensures in
    let ps = c.in_ok-passes.ensures.own in
    let qs = c.in_ok-passes-2.passes in
    let old : Sight = c.deal.new.whole in
    let u : Sight = c.gather.new.whole in
    let v : Sight = c.join.new.pass in
    let w : Sight = c.peek_last.new.whole in
    let pass = c.peek_last.ensures.pass in
    let told = ap (λ (z : Sight). is_halted z.told) c.join.ensures.both in
    let joined : IsGathered old qs v = gathered_on old u v qs c.gather.ensures.lists c.join.ensures.lists.0 (λ t. told ∙ true_or u.told c.run_peeked.new.watcher.told t) in
    let all : IsGathered old qs w = gathered_on old v w qs joined pass.goes.later (halts_too v.told w.told pass.told) in
    subst (λ s. HaveEnded g.S.Stepped.due s c.close-stepped.result.1 (is_halted (g.S.Stepped.halt c.close-stepped.result.0))) n.0
    (works_ended g.S.Stepped.due c.in_ok-passes.passes qs c.in_ok-passes-2.ensures.work c.in_ok-turns.turns old w _ ps.0
    (ps.1 ∙ (c.requires.count ∙ ap (λ s. length s.actors) (sym n.0))) all (halts_too _ _ c.close-stepped.ensures.halted) c.close-stepped.result.1 c.close-stepped.ensures.receipt)

pub returns-clause-peeks : goal.returns-clause-peeks
returns-clause-peeks g c =
    let a : WatchedBytes = record { proc = c.args.proc; addr = c.args.addr; len = c.args.len } in
    let w : Sight = c.peek_last.new.whole in
    let shown : IsShown w w.list = record { later = prefix_refl w.list; counted = c.close-stepped.ensures.counted; marked = c.close-stepped.ensures.marked } in
    subst (λ (h : List Entry). ArePeeks a.proc a.addr a.len (IsPlain h) c.peek_last.new.peeks) (sym c.close-stepped.ensures.receipt) (plain_in a w c.peek_last.new.peeks w.list c.peek_last.ensures.peeks shown)

pub returns-clause-last : goal.returns-clause-last
returns-clause-last g c = λ running.
    let w : Sight = c.peek_last.new.whole in
    let shown : IsShown w w.list = record { later = prefix_refl w.list; counted = c.close-stepped.ensures.counted; marked = c.close-stepped.ensures.marked } in
    subst (λ (h : List Entry). ReachesEnd c.args.proc c.args.addr c.args.len h c.peek_last.new.peeks) (sym c.close-stepped.ensures.receipt)
    (c.in_ok-peek_last.ensures.last (halts_before w.told (g.S.Stepped.halt c.close-stepped.result.0) c.close-stepped.ensures.halted running) shown)

pub returns-clause-areas : goal.returns-clause-areas
returns-clause-areas g c =
    let a : WatchedBytes = record { proc = c.args.proc; addr = c.args.addr; len = c.args.len } in
    let w : Sight = c.peek_last.new.whole in
    let shown : IsShown w w.list = record { later = prefix_refl w.list; counted = c.close-stepped.ensures.counted; marked = c.close-stepped.ensures.marked } in
    last_has_areas a.proc a.addr a.len c.close-stepped.result.1 c.peek_last.new.peeks
    (subst (λ (h : List Entry). ArePeeks a.proc a.addr a.len (IsPlain h) c.peek_last.new.peeks) (sym c.close-stepped.ensures.receipt) (plain_in a w c.peek_last.new.peeks w.list c.peek_last.ensures.peeks shown))
