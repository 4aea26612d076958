use Rattle.std.proofs.Common.{◌≡◌, ◌≤◌, true, List, length, take, sym, ap, ◌∙◌, subst, arith}
use Rattle.std.proofs.lemmas.List.{take_all}
use Rattle.hm_flaws.specs.Recalled.{Recalled, recalled_of}
use Rattle.hm_history.specs.declared.Entry.{Entry}
use Rattle.hm_parts.specs.Follower.{AreRules, IsFollowed}
use Rattle.hm_parts.specs.declared.rules.Rules.{Rules}
use Rattle.hm_parts.proofs.Legally.{leads, rules_at}
use Rattle.hm_parts.proofs.Recalling.{recalled_long, recalled_more, rules_after}
use Rattle.hm_parts.proofs.follower.Follower.after.Goals as goal

pub loop-at-preserved : goal.loop-at-preserved
loop-at-preserved c =
    let p = c.args.script.now in
    let h = c.args.entries.now in
    let i = c.loop-at.at in
    let e = c.index-entries-at.result in
    let are : AreRules p (recalled_of p (take i h)) e c.in_ok-take.field-0 = c.in_ok-take.ensures.rules p (recalled_of p (take i h)) c.loop-at.invariant in
    let on : c.in_ok-take.field-0.goes_on ≡ true =
    ap (λ (x : Rules). x.goes_on) (rules_after p (take i h) e c.in_ok-take.field-0 are)
    ∙ leads p (take i h) e (rules_at p c.facts.ensures h c.requires i e c.loop-at-test.true c.index-entries-at.is) in
    let within : i ≤ length h = omega arith in
    let long : (recalled_of p (take i h)).state.length ≡ i = recalled_long p h i within in
    subst (λ (r : Recalled). IsFollowed p r c.take.new.self) (sym (recalled_more p h i e c.loop-at-test.true c.index-entries-at.is)) (c.in_ok-take.ensures.next on p (recalled_of p (take i h)) c.loop-at.invariant long)

pub returns : goal.returns
returns c =
    let p = c.args.script.now in
    let h = c.args.entries.now in
    let all : take c.loop-at.at h ≡ h = take_all c.loop-at.at h (omega (arith, c.loop-at-test.false)) in
    subst (λ (es : List Entry). IsFollowed p (recalled_of p es) c.loop-at.so_far) all c.loop-at.invariant
