use Rattle.std.proofs.Common.{◌≡◌, ◌+◌, ◌-◌, ap, ◌∙◌, arith}
use Rattle.mirror_tables.specs.Entries.{block_of}
use Rattle.mirror_tables.proofs.Changes.{erased_directory, erased_table, erased_rooms}
use Rattle.mirror_tables.proofs.table.MirrorTable.erase.Goals as goal

pub invariant_of-self : goal.invariant_of-self
invariant_of-self c = erased_directory c.self.inside.window c.args.span _ _ c.self.inside.blocks.items c.erase_blocks.new.blocks.items c.self.invariant c.erase_blocks.ensures

pub returns-clause-table : goal.returns-clause-table
returns-clause-table c =
    let w = c.self.inside.window in
    let first : c.number-first.result ≡ c.args.span.first = c.number-first.ensures.same ∙ c.first.ensures.same in
    let last : c.number-first.result + c.count.result - 1 ≡ c.args.span.first + c.args.span.count - 1 = omega (arith, first, c.count.ensures.same) in
    let e = c.block_of-from.ensures.result ∙ ap (block_of w) first in
    let f = ap (λ k. k + 1) (c.block_of-upto.ensures.result ∙ ap (block_of w) last) in
    erased_table w c.args.span c.block_of-from.result (c.block_of-upto.result + 1) c.self.inside.blocks.items c.erase_blocks.new.blocks.items _ c.self.view_is c.self.invariant c.erase_blocks.ensures e f c.count.ensures.span.some

pub returns-clause-room : goal.returns-clause-room
returns-clause-room c = erased_rooms c.self.inside.window c.args.span _ _ c.self.inside.blocks.items c.erase_blocks.new.blocks.items _ c.self.view_is c.erase_blocks.ensures
