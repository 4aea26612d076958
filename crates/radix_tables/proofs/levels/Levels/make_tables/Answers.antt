use Rattle.std.proofs.Common.{refl}
use Rattle.radix_tables.specs.Maps.{is_marked}
use Rattle.radix_tables.specs.Levels.{is_used}
use Rattle.radix_tables.proofs.Made.{bits_same, same_over}
use Rattle.radix_tables.proofs.TableBits.{bits_grown}
use Rattle.radix_tables.proofs.levels.Levels.make_tables.Goals as goal

pub make_first-requires-clause-levels : goal.make_first-requires-clause-levels
make_first-requires-clause-levels c =
    (bits_same c.args.self.now _ c.requires.levels refl refl (bits_grown is_used c.requires.levels.used c.grow_bits.ensures.same c.grow_bits.ensures.more) (bits_grown is_marked c.requires.levels.marks c.grow_bits-2.ensures.same c.grow_bits-2.ensures.more)).levels

pub returns-clause-same : goal.returns-clause-same
returns-clause-same c =
    same_over c.args.self.now _ _ (bits_same c.args.self.now _ c.requires.levels refl refl (bits_grown is_used c.requires.levels.used c.grow_bits.ensures.same c.grow_bits.ensures.more) (bits_grown is_marked c.requires.levels.marks c.grow_bits-2.ensures.same c.grow_bits-2.ensures.more))
    c.make_first.ensures.same
