use Rattle.std.proofs.Common.{ap, sym, ◌∙◌, arith, ◌++◌, ◌∷◌, [], refl, append_assoc, List}
use mathlib.Core.List.{append-nil}
use Rattle.hm_turns.specs.Sights.{Sight, joined}
use Rattle.hm_workers.specs.Dealing.{shares_of}
use Rattle.hm_workers.proofs.Deals.{are_less, gathered_none, gathered_more, shares_more}
use Rattle.hm_workers.proofs.dealing.gather.Goals as goal

pub loop-pass-init : goal.loop-pass-init
loop-pass-init g c = record { gone = []; all = append-nil c.args.passes; sum = refl; seen = gathered_none c.args.whole.now; own = c.requires.own.1; desk = c.requires.own.0; shares = refl }

pub join-requires : goal.join-requires
join-requires g c = let i = c.loop-pass.invariant in let l = are_less c.args.turns.now _ _ c.in-Some.pass c.in-Some.ensures.some i.own in record { own = (i.desk, l.1) }

pub loop-pass-preserved : goal.loop-pass-preserved
loop-pass-preserved g c = let i = c.loop-pass.invariant in let p : Sight = c.in-Some.pass in let is = c.in-Some.ensures.some in let l = are_less c.args.turns.now c.loop-pass.passes c.pop.new.self p is i.own in
    let j = c.join.ensures.both in let more = shares_more c.pop.new.self p in let was = ap shares_of is in let now = ap (λ s. s.shares) j in
    record {
      gone = p ∷ i.gone;
      all = sym (append_assoc c.pop.new.self (p ∷ []) i.gone) ∙ (ap (λ (ps : List Sight). ps ++ i.gone) (sym is) ∙ i.all);
      sum = j ∙ ap (λ (v : Sight). joined v p) i.sum;
      seen = gathered_more c.args.whole.now c.loop-pass.whole p c.join.new.pass i.gone i.seen j c.join.ensures.lists.0 c.join.ensures.lists.1;
      own = l.0;
      desk = ap (λ s. s.desk) j ∙ i.desk;
      shares = let k = i.shares in omega arith;
    }
