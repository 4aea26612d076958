use Rattle.std.proofs.Common.{◌/◌, ℕ, length, ap, sym, subst, ◌∙◌, arith}
use Rattle.std.specs.Prelude.{slice_index}
use Rattle.radix_tables.specs.Levels.{from_second, AreBits, is_used}
use Rattle.radix_tables.proofs.Steps.{table_small, words_few}
use Rattle.radix_tables.proofs.TableBits.{none_word, some_word, found_none, unused, used}
use Rattle.radix_tables.proofs.levels.Levels.next_in_table.Goals as goal

pub returns-in_err-found : goal.returns-in_err-found
returns-in_err-found c =
    found_none _ c.from_residual.ensures (none_word is_used (λ w. w) c.args.self.now c.deref.result.now c.args.table c.args.page
    (subst (AreBits is_used c.args.self.now.words.items) (sym c.deref.ensures.value) c.requires.levels.used) c.requires.table.0 c.in_err-found.ensures unused)

pub returns : goal.returns
returns c =
    some_word is_used (λ w. w) c.args.self.now c.deref.result.now c.args.table c.args.page c.in_ok-found.found _
    (subst (AreBits is_used c.args.self.now.words.items) (sym c.deref.ensures.value) c.requires.levels.used) c.requires.table.0 c.requires.page c.in_ok-found.ensures
    (c.get.ensures ∙ ap (λ (i : ℕ). slice_index c.args.self.now.words.items i) c.place.ensures) unused used

pub place-requires : goal.place-requires
place-requires c =
    let l = c.args.self.now in
    omega (arith, c.requires.table.0, table_small (from_second l) (c.args.page / 64) (length l.words.items) c.requires.levels.tables (words_few l c.requires.levels))
