use Rattle.std.proofs.Common.{◌==◌, ◌∙◌, ap, sym, arith, slice_set}
use Rattle.std.specs.Bool.{if◌then◌else◌}
use Rattle.std.proofs.lemmas.List.Edits.{map_over_more}
use Rattle.hm_history.specs.declared.phases.Migrating.{Migrating}
use Rattle.hm_actors.proofs.places.put_all.Goals as goal

pub loop-at-preserved : goal.loop-at-preserved
loop-at-preserved c = let f : Migrating → Migrating = λ y. if y.page == c.args.migrating.now.page then c.args.migrating.now else y in
    ap (λ (x : Migrating). slice_set c.loop-at.records c.loop-at.at x) (c.renew.ensures ∙ ap f (sym c.index-records-at.is))
    ∙ map_over_more f c.args.records.now c.loop-at.records c.loop-at.at c.index-records-at.result (omega arith) c.loop-at.invariant c.index-records-at.is
