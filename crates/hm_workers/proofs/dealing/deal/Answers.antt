use Rattle.std.proofs.Common.{◌≡◌, ℕ, ◌+◌, ◌-◌, length, ap, sym, ◌∙◌, subst, arith, ◌++◌, ◌∷◌, [], length-append}
use Rattle.std.proofs.lemmas.List.{replicate-append-replicate}
use Rattle.hm_turns.specs.Sights.{Sight, half_of}
use Rattle.hm_workers.specs.Working.{AreOf}
use Rattle.hm_workers.specs.Dealing.{shares_of, less_shares}
use Rattle.hm_workers.proofs.Deals.{are_more, shares_more}
use Rattle.hm_workers.proofs.dealing.deal.Goals as goal

pub loop-preserved : goal.loop-preserved
loop-preserved g c = let i = c.loop.invariant in let o = c.split-pass.ensures.old in let n = c.split-pass.ensures.new in let is = c.in_ok-push.ensures.ok in
    let left = ap (λ p. p.shares) o in let one = ap (λ p. p.shares) n in let more = shares_more c.loop.passes c.split-pass.result in let long = length-append c.loop.passes (c.split-pass.result ∷ []) in
    let room = c.requires.shares in let at = c.loop-test.true in let is_shares = ap shares_of is in let is_long = ap length is in
    let first : Sight = c.args.whole.now in let k = c.loop.counter in
    let same : c.split-pass.result ≡ half_of first = n ∙ ap half_of i.whole in
    let fewer : first.shares - k - 1 ≡ first.shares - (k + 1) = omega arith in
    record {
      passes = is ∙ ((λ j. i.passes j ++ same j ∷ []) ∙ replicate-append-replicate k 1 (half_of first));
      whole = o ∙ (ap (λ p. less_shares p 1) i.whole ∙ ap (λ (m : ℕ). record first { shares = m }) fewer);
      desk = ap (λ p. p.desk) o ∙ i.desk;
      own = subst (AreOf c.args.turns.now) (sym is) (are_more c.args.turns.now c.loop.passes c.split-pass.result i.own (ap (λ p. p.desk) n ∙ (i.desk ∙ c.requires.own)));
      count = let k = i.count in omega arith;
      shares = let k = i.shares in let l = i.left in omega arith;
      left = let l = i.left in omega arith;
    }
