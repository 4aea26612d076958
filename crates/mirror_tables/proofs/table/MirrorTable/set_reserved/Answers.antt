use Rattle.std.proofs.Common.{◌≤◌, ◌+◌, ap, ◌∙◌, arith}
use Rattle.std.specs.Ordering.{nat_cmp}
use Rattle.std.specs.FinMap.Entries as sorted
use Rattle.hm_base.specs.Pages.{covers}
use Rattle.mirror_tables.specs.Blocks.{Block}
use Rattle.mirror_tables.specs.Entries.{block_of}
use Rattle.mirror_tables.specs.Directory.{block_at}
use Rattle.mirror_tables.proofs.Changes.{block_is, roomy_at, set_directory, set_table, set_rooms}
use Rattle.mirror_tables.proofs.table.MirrorTable.set_reserved.Goals as goal

pub invariant_of-self : goal.invariant_of-self
invariant_of-self c =
    let w = c.self.inside.window in
    let bs = c.self.inside.blocks.items in
    let at = c.block_of-at.result in
    let e = c.block_of-at.ensures.result ∙ ap (block_of w) c.number.ensures.same in
    let l = roomy_at w bs _ c.args.page at c.self.view_is e c.requires.room in
    let q = block_is bs at c.index_mut-block.result.now l c.index_mut-block.ensures.value in
    let f = ap (λ (x : Block). x.entries) c.set_reserved.ensures.block ∙ ap (λ (x : Block). sorted.put nat_cmp c.args.page c.args.entry x.entries) q in
    set_directory w bs at c.args.page c.args.entry c.set_reserved.new.self c.self.invariant l (ap (λ t. covers t.window c.args.page) c.self.view_is ∙ c.requires.window) e f c.facts.ensures

pub returns-clause-table : goal.returns-clause-table
returns-clause-table c =
    let w = c.self.inside.window in
    let bs = c.self.inside.blocks.items in
    let at = c.block_of-at.result in
    let e = c.block_of-at.ensures.result ∙ ap (block_of w) c.number.ensures.same in
    let l = roomy_at w bs _ c.args.page at c.self.view_is e c.requires.room in
    let q = block_is bs at c.index_mut-block.result.now l c.index_mut-block.ensures.value in
    let f = ap (λ (x : Block). x.entries) c.set_reserved.ensures.block ∙ ap (λ (x : Block). sorted.put nat_cmp c.args.page c.args.entry x.entries) q in
    set_table w bs _ at c.args.page c.args.entry c.set_reserved.new.self c.self.view_is c.self.invariant l e f

pub returns-clause-room : goal.returns-clause-room
returns-clause-room c =
    let w = c.self.inside.window in
    let bs = c.self.inside.blocks.items in
    let at = c.block_of-at.result in
    let e = c.block_of-at.ensures.result ∙ ap (block_of w) c.number.ensures.same in
    let l = roomy_at w bs _ c.args.page at c.self.view_is e c.requires.room in
    let q = block_is bs at c.index_mut-block.result.now l c.index_mut-block.ensures.value in
    let r : (block_at bs at).room ≤ c.set_reserved.new.self.room + 1 = omega (arith, ap (λ (x : Block). x.room) q, c.set_reserved.ensures.room) in
    set_rooms w bs _ at c.set_reserved.new.self c.self.view_is l r
