use Rattle.std.proofs.Common.{◌-◌, ◌∙◌, arith, nat_lt, rules, sym}
use Rattle.std.proofs.lemmas.Fn.{always_returns_same}
use Rattle.hm_history.specs.declared.phases.Migrating.{Migrating}
use Rattle.hm_actors.proofs.RisingKept.{before_place, partitioned, all_before, test_below}
use Rattle.hm_actors.proofs.places.place_of.Goals as goal

pub returns-then-is_below-clause-before : goal.returns-then-is_below-clause-before
returns-then-is_below-clause-before c = before_place c.args.page (c.args.page - c.number-2.result) c.args.records.now c.index-records-at.result c.requires (omega arith) (omega arith) c.index-records-at.is (test_below _ _ (sym c.is_below.ensures ∙ c.if-is_below.true))

pub returns-clause-before : goal.returns-clause-before
returns-clause-before c =
    all_before c.args.page c.partition_point.result c.args.records.now
    (c.partition_point.ensures.partitioned (λ (x : Migrating). nat_lt x.page c.args.page) (always_returns_same _ _ _ (λ a r g h. (search rules, search rules))) (partitioned c.args.page c.args.records.now c.requires))
