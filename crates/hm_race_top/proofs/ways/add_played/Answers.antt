use Rattle.std.proofs.Common.{◌≡◌, ◌<◌, ◌∙◌, sym, ap, length, get_or, arith}
use Rattle.std.proofs.lemmas.List.{get_or-map, length-map}
use Rattle.hm_race_top.specs.Run.Known.{KnownValue}
use Rattle.hm_race_top.specs.Run.Played.{all_played, played_of}
use Rattle.hm_race_top.specs.Text.Text.{with_block}
use Rattle.hm_race_top.specs.Ways.{ways_by, with_ways}
use Rattle.hm_race_top.proofs.WaysKnown.{one_ended, one_open, took_all}
use Rattle.hm_race_top.proofs.ways.add_played.Goals.{else-played, then-played+in_ok-block+in_ok-add_block}
use Rattle.hm_race_top.proofs.ways.add_played.Goals as goal

pub loop-at-preserved : goal.loop-at-preserved
loop-at-preserved c =
    let orders = c.args.orders.now in
    let ns = all_played orders in
    let start = c.args.blocks.now in
    let i = c.loop-at.at in
    let p = c.index-orders-at.result in
    let n : KnownValue = played_of p in
    let lt : i < length ns = omega (arith, c.loop-at-test.true, length-map orders played_of) in
    let is : get_or ns i n ≡ n = get_or-map played_of orders i p n c.loop-at-test.true ∙ ap played_of (sym c.index-orders-at.is) in
    elim c.if-played.branch [
      | then-played+in_ok-block+in_ok-add_block w ↦
          w.blocks-is
          ∙ one_ended c.args.actors ns i n lt is start c.loop-at.blocks w.add_block.new.blocks w.if-played.true c.loop-at.invariant
          (w.in_ok-add_block.ensures ∙ ap (with_block c.loop-at.blocks) w.in_ok-block.ensures)
      | else-played w ↦
          w.blocks-is
          ∙ one_open c.args.actors ns i n lt is start c.loop-at.blocks w.if-played.false c.loop-at.invariant
    ]

pub returns : goal.returns
returns c = c.loop-at.invariant ∙ ap (λ ns. with_ways c.args.blocks.now (ways_by c.args.actors ns)) (took_all (all_played c.args.orders.now) c.loop-at.at (omega (arith, c.loop-at-test.false, length-map c.args.orders.now played_of)))
