use Rattle.std.proofs.Common.{ap, ◌∙◌, arith}
use Rattle.mirror_tables.specs.Entries.{block_of}
use Rattle.mirror_tables.proofs.Changes.{found, not_found, block_is}
use Rattle.mirror_tables.proofs.table.MirrorTable.get.Goals as goal

pub returns-then-at-len : goal.returns-then-at-len
returns-then-at-len c =
    let w = c.self.inside.window in
    let bs = c.self.inside.blocks.items in
    let e = c.block_of-at.ensures.result ∙ ap (block_of w) c.number.ensures.same in
    let q = block_is bs c.block_of-at.result c.index-block.result.now (omega (arith, c.if-at-len.true, c.len.ensures)) c.index-block.ensures in
    found w bs c.args.self.now c.args.page c.block_of-at.result c.index-block.result.now c.get.result c.self.view_is c.self.invariant e q c.get.ensures

pub returns-else-at-len : goal.returns-else-at-len
returns-else-at-len c =
    let w = c.self.inside.window in
    let bs = c.self.inside.blocks.items in
    let e = c.block_of-at.ensures.result ∙ ap (block_of w) c.number.ensures.same in
    not_found w bs c.args.self.now c.args.page c.block_of-at.result c.self.view_is c.self.invariant e (omega (arith, c.if-at-len.false, c.len.ensures))
