use Rattle.std.proofs.Common.{◌≡◌, ◌+◌, ◌<◌, suc, length, get_or, subst, arith}
use Rattle.std.proofs.lemmas.Option.{slice_get-get_or}
use Rattle.hm_why.proofs.Following.{one_more}
use Rattle.hm_why.proofs.Texts.{low_at, one_line}
use Rattle.hm_why.proofs.text.why_text.Invariants.{SoFar}
use Rattle.hm_why.proofs.text.why_text.Goals as goal

pub add_line-requires-clause-low : goal.add_line-requires-clause-low
add_line-requires-clause-low c =
    low_at c.loads_lie_in_a_page.ensures c.args.history.now.entries c.as_slice-entries.result.now c.loop-at.at c.index-entries-at.result c.as_slice-entries.ensures c.requires (omega (arith, c.loop-at-test.true))

pub loop-at-preserved : goal.loop-at-preserved
loop-at-preserved c =
    let h = c.as_slice-entries.result.now in
    let i = c.loop-at.at in
    let d = c.index-entries-at.result in
    let w = c.loop-at.writers in
    let below : i < length h = omega (arith, c.loop-at-test.true) in
    let next : suc i ≡ i + 1 = omega arith in
    let low = low_at c.loads_lie_in_a_page.ensures c.args.history.now.entries h i d c.as_slice-entries.ensures c.requires below in
    subst (SoFar h c.note.new.self c.add_line.new.text) next
    (record {
      follows = one_more h i (get_or h i d) w c.note.new.self (slice_get-get_or h i d below) c.loop-at.invariant.follows c.in_ok-note.ensures;
      lines = one_line h i d w c.loop-at.text c.add_line.new.text below c.loop-at.invariant.follows low c.loop-at.invariant.lines c.in_ok-add_line.ensures;
    })
