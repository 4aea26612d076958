use Rattle.std.proofs.Common.{length, ap, sym, ◌∙◌, subst, arith}
use Rattle.hm_turns.specs.Stepping.{is_halted}
use Rattle.hm_workers.specs.Dealing.{HaveEnded}
use Rattle.hm_workers.proofs.Deals.{works_own, works_shares, works_ended, halts_too}
use Rattle.hm_workers.proofs.run.run_all.Goals as goal

pub gather-requires : goal.gather-requires
gather-requires g c = record { own = (c.in_ok-passes.ensures.rest ∙ ap (λ s. s.desk) c.in_ok-turns.ensures.1, works_own g.S.Stepped.due c.in_ok-passes.passes c.in_ok-passes-2.passes c.in_ok-passes-2.ensures c.in_ok-turns.turns c.in_ok-passes.ensures.own.0) }

pub close-requires-clause-whole : goal.close-requires-clause-whole
close-requires-clause-whole g c = let s = c.gather.ensures.shares in let d = c.in_ok-passes.ensures.shares in let w = works_shares g.S.Stepped.due c.in_ok-passes.passes c.in_ok-passes-2.passes c.in_ok-passes-2.ensures in let n = ap (λ p. p.shares) c.in_ok-turns.ensures.1 in omega arith

pub returns-clause-ended : goal.returns-clause-ended
returns-clause-ended g c = let n = c.in_ok-turns.ensures in let ps = c.in_ok-passes.ensures.own in
    subst (λ s. HaveEnded g.S.Stepped.due s c.close.result.1 (is_halted (g.S.Stepped.halt c.close.result.0))) n.0
    (works_ended g.S.Stepped.due c.in_ok-passes.passes c.in_ok-passes-2.passes c.in_ok-passes-2.ensures c.in_ok-turns.turns c.deal.new.whole c.gather.new.whole _ ps.0
    (ps.1 ∙ (c.requires.count ∙ ap (λ s. length s.actors) (sym n.0))) c.gather.ensures.lists (halts_too _ _ c.close.ensures.halted) c.close.result.1 c.close.ensures.receipt)
