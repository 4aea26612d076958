use Rattle.std.proofs.Common.{sym, subst}
use Rattle.radix_tables.specs.Levels.{AreBits, is_used}
use Rattle.radix_tables.proofs.TableBits.{unused}
use Rattle.radix_tables.proofs.Passed.{none_passed}
use Rattle.radix_tables.proofs.levels.Levels.past_unused.Goals as goal

pub returns-clause-none : goal.returns-clause-none
returns-clause-none c =
    let l = c.args.self.now in
    none_passed is_used (λ w. w) l c.deref.result.now c.deref-2.result.now _ _ c.past_tables.result c.deref.ensures.value
    (subst (AreBits is_used l.words.items) (sym c.deref-2.ensures.value) c.requires.levels.used) c.second_table-table.ensures c.past_tables.ensures.inside c.past_tables.ensures.none unused
