use Rattle.std.proofs.Common.{◌≡◌, ◌+◌, ◌<◌, suc, length, get_or, subst, arith}
use Rattle.std.proofs.lemmas.Option.{slice_get-get_or}
use Rattle.hm_why.specs.Follows.{Follows}
use Rattle.hm_why.proofs.Following.{one_more}
use Rattle.hm_why.proofs.one_load.follow.Goals as goal

pub loop-at-preserved : goal.loop-at-preserved
loop-at-preserved c =
    let h = c.args.entries.now in
    let i = c.loop-at.at in
    let d = c.index-entries-at.result in
    let within : i < length h = omega (arith, c.loop-at-test.true, c.requires) in
    let next : suc i ≡ i + 1 = omega arith in
    subst (Follows c.note.new.self h) next
    (one_more h i (get_or h i d) c.loop-at.writers c.note.new.self (slice_get-get_or h i d within) c.loop-at.invariant c.in_ok-note.ensures)
