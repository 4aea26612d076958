use Rattle.std.proofs.Common.{sym, subst}
use Rattle.radix_tables.specs.Maps.{is_marked, marked}
use Rattle.radix_tables.specs.Levels.{AreBits}
use Rattle.radix_tables.proofs.TableBits.{unmarked}
use Rattle.radix_tables.proofs.Passed.{none_passed}
use Rattle.radix_tables.proofs.levels.Levels.past_unmarked.Goals as goal

pub returns-clause-none : goal.returns-clause-none
returns-clause-none c =
    let l = c.args.self.now in
    none_passed is_marked marked l c.deref.result.now c.deref-2.result.now _ _ c.past_tables.result c.deref.ensures.value
    (subst (AreBits is_marked l.words.items) (sym c.deref-2.ensures.value) c.requires.levels.marks) c.second_table-table.ensures c.past_tables.ensures.inside c.past_tables.ensures.none unmarked
