use Rattle.std.proofs.Common.{[], ◌≡◌, ◌<◌, ◌∙◌, ap, length, get_or, arith}
use Rattle.hm_race_top.specs.Run.Known.{KnownValue}
use Rattle.hm_search.specs.Known.{turns_at}
use Rattle.hm_search.specs.Values.{all_known}
use Rattle.hm_search.proofs.Exploring.{known_length}
use Rattle.hm_search.proofs.Unrolled.{value_at}
use Rattle.hm_race_states.specs.Keyed.{form_in}
use Rattle.hm_race_top.specs.Text.Text.{with_block, blocks_of}
use Rattle.hm_race_top.specs.Ways.{ways_by}
use Rattle.hm_race_top.proofs.WaysKnown.{one_ended, one_open, took_all}
use Rattle.hm_race_top.proofs.ways.known_blocks.Goals.{then-state+in_ok-block+in_ok-add_block, else-state}
use Rattle.hm_race_top.proofs.ways.known_blocks.Goals as goal

pub loop-at-preserved : goal.loop-at-preserved
loop-at-preserved c =
    let known = c.args.known.now in
    let ns = all_known form_in known in
    let i = c.loop-at.at in
    let k = c.index-known-at.result in
    let n : KnownValue = record { form = form_in k.key; turns = turns_at ns i; ended = k.ended } in
    let lt : i < length ns = omega (arith, c.loop-at-test.true, known_length form_in known) in
    let is : get_or ns i n ≡ n = value_at form_in known i k n c.loop-at-test.true c.index-known-at.is in
    elim c.if-state.branch [
      | then-state+in_ok-block+in_ok-add_block w ↦
          w.blocks-is
          ∙ one_ended c.args.actors ns i n lt is [] c.loop-at.blocks w.add_block.new.blocks w.if-state.true c.loop-at.invariant
          (w.in_ok-add_block.ensures ∙ ap (with_block c.loop-at.blocks) w.in_ok-block.ensures)
      | else-state w ↦
          w.blocks-is
          ∙ one_open c.args.actors ns i n lt is [] c.loop-at.blocks w.if-state.false c.loop-at.invariant
    ]

pub returns : goal.returns
returns c = c.loop-at.invariant ∙ ap (λ ns. blocks_of (ways_by c.args.actors ns)) (took_all (all_known form_in c.args.known.now) c.loop-at.at (omega (arith, c.loop-at-test.false, known_length form_in c.args.known.now)))
