use Rattle.std.proofs.Common.{◌≡◌, ◌≤◌, true, false, length, take, sym, ap, subst, arith}
use Rattle.std.proofs.lemmas.Bool.Decides.{nat_tests}
use Rattle.hm_flaws.specs.Recalled.{Recalled, recalled_of}
use Rattle.hm_parts.specs.Follower.{IsFollowed}
use Rattle.hm_parts.proofs.Going.{SoFar, so_far_all, so_far_last, so_far_more, so_far_none}
use Rattle.hm_parts.proofs.Recalling.{recalled_long, recalled_more}
use Rattle.hm_parts.proofs.all_entries.follow.Goals as goal

pub loop-at-init : goal.loop-at-init
loop-at-init c = record {
  followed = c.in_ok-so_far.ensures;
  so = subst (λ xs. SoFar c.args.script.now c.args.entries.now 0 xs) (sym c.new-all.ensures.items) (so_far_none c.args.script.now c.args.entries.now);
  many = ap length c.new-all.ensures.items;
}

pub returns-then-not-rules-clause-rules : goal.returns-then-not-rules-clause-rules
returns-then-not-rules-clause-rules c =
    let p = c.args.script.now in
    let h = c.args.entries.now in
    let i = c.loop-at.at in
    let ends : c.in_ok-rules.rules.goes_on ≡ false = grind (arith, nat_tests) in
    so_far_last p h i c.index-entries-at.result c.loop-at.all.items c.push.new.self.items c.in_ok-rules.rules c.loop-at-test.true c.index-entries-at.is
    (c.in_ok-rules.ensures.rules p (recalled_of p (take i h)) c.loop-at.invariant.followed) c.loop-at.invariant.so c.in_ok-push.ensures.items ends

pub loop-at-preserved : goal.loop-at-preserved
loop-at-preserved c =
    let p = c.args.script.now in
    let h = c.args.entries.now in
    let i = c.loop-at.at in
    let e = c.index-entries-at.result in
    let on : c.in_ok-rules.rules.goes_on ≡ true = grind (arith, nat_tests) in
    let within : i ≤ length h = omega arith in
    let long : (recalled_of p (take i h)).state.length ≡ i = recalled_long p h i within in
    record {
      followed = subst (λ (r : Recalled). IsFollowed p r c.take.new.self) (sym (recalled_more p h i e c.loop-at-test.true c.index-entries-at.is)) (c.in_ok-rules.ensures.next on p (recalled_of p (take i h)) c.loop-at.invariant.followed long);
      so = so_far_more p h i e c.loop-at.all.items c.push.new.self.items c.in_ok-rules.rules c.loop-at-test.true c.index-entries-at.is
          (c.in_ok-rules.ensures.rules p (recalled_of p (take i h)) c.loop-at.invariant.followed) c.loop-at.invariant.so c.in_ok-push.ensures.items on;
      many = grind (arith, c.in_ok-push.ensures.len, c.loop-at.invariant.many);
    }

pub returns-clause-rules : goal.returns-clause-rules
returns-clause-rules c =
    let le : length c.args.entries.now ≤ c.loop-at.at = omega arith in
    so_far_all c.args.script.now c.args.entries.now c.loop-at.at c.loop-at.all.items c.loop-at.invariant.so le
