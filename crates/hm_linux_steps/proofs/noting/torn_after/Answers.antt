use Rattle.std.proofs.Common.{ℕ, Bool, ap, subst, ◌∙◌, arith}
use Rattle.hm_base.specs.Program.{IsScript}
use Rattle.std.proofs.lemmas.List.{length-set}
use Rattle.hm_linux.specs.Noted.{Varied}
use Rattle.hm_linux.specs.WholeSnapshot.{torn_after}
use Rattle.hm_linux_steps.specs.Notes.{noted_in}
use Rattle.hm_linux_steps.proofs.Written.{set_more, all_torn}
use Rattle.hm_linux_steps.proofs.noting.torn_after.Goals as goal

pub loop-at-preserved : goal.loop-at-preserved
loop-at-preserved g c =
    let t : Varied = record { state = g.W.Reads.state c.args.world.now; noted = noted_in c.args.notes.now } in
    let f : ℕ → Bool = torn_after (g.W.Reads.program c.args.world.now) t c.args.actor c.args.kind.now in
    record {
      len = length-set c.loop-at.torn c.loop-at.at c.torn_now.result ∙ c.loop-at.invariant.len;
      so_far = set_more c.loop-at.torn c.loop-at.at c.torn_now.result f (omega (arith, c.loop-at.invariant.len, c.loop-at-test.true)) c.loop-at.invariant.so_far (c.torn_now.ensures ∙ ap f c.new.ensures);
    }

pub returns : goal.returns
returns g c =
    let t : Varied = record { state = g.W.Reads.state c.args.world.now; noted = noted_in c.args.notes.now } in
    let script = subst IsScript c.script.ensures c.facts.ensures in
    all_torn (g.W.Reads.program c.args.world.now) t c.args.actor c.args.kind.now c.loop-at.torn script.few_actors c.loop-at.invariant.len c.none_past.ensures.torn (λ b l. c.loop-at.invariant.so_far b (omega (arith, l, c.loop-at-test.false)))
