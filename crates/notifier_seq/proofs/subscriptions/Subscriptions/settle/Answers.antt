use Rattle.std.proofs.Common.{◌≡◌, ◌<◌, None, map, length, ap, sym, ◌∙◌, arith}
use Rattle.std.specs.Prelude.{slice_index_or}
use Rattle.std.proofs.lemmas.Grind.{common_steps}
use Rattle.std.proofs.lemmas.List.Edits.{map_over_more}
use Rattle.notifier_seq.specs.Sequences.{settled}
use Rattle.notifier_seq.specs.Kept.{Listed}
use Rattle.notifier_seq.proofs.Changed.{any_default, kept_settled, settled_twice}
use Rattle.notifier_seq.proofs.subscriptions.Subscriptions.settle.Goals as goal

pub loop-number-preserved : goal.loop-number-preserved
loop-number-preserved c =
    let xs = c.args.self.now.intervals in
    let ys = c.loop-number.self.intervals in
    let i = c.loop-number.number in
    let x = slice_index_or ys i None in
    let len : length xs ≡ 32 = ap (λ (x : Listed). length x.intervals) (sym c.self.view_is) ∙ c.self.invariant.len in
    let inside : i < length xs = omega (arith, len, c.loop-number-test.true) in
    let same_len : length ys ≡ length xs = grind (arith, common_steps, c.loop-number.invariant.settled) in
    let same = any_default ys i None x (omega (arith, same_len, inside)) in
    let next = ap (λ (x : Listed). x.intervals) c.settle_one.ensures in
    let room = ap (λ (x : Listed). x.room) c.settle_one.ensures in
    record {
      settled = next ∙ rw c.new.ensures (map_over_more settled xs ys i x inside c.loop-number.invariant.settled same);
      room = room ∙ c.loop-number.invariant.room;
    }

pub invariant_of-self : goal.invariant_of-self
invariant_of-self c =
    let xs = c.args.self.now.intervals in
    let len : length xs ≡ 32 = ap (λ (x : Listed). length x.intervals) (sym c.self.view_is) ∙ c.self.invariant.len in
    let all : c.loop-number.self.intervals ≡ map settled xs = grind (arith, common_steps, c.loop-number.invariant.settled, c.loop-number-test.false) in
    let now : c.self-then-self.inside.intervals ≡ map settled xs = ap (λ (x : Listed). x.intervals) c.self-then-self.view_is ∙ all in
    kept_settled c.self-then-self.inside.intervals c.self-then-self.inside.tree.spans c.self-then-self.inside.tree.spare c.self-then-self.inside.deferred c.self-then-self.inside.room c.self-then-self.invariant (rw now (settled_twice xs))
