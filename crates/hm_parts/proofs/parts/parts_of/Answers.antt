use Rattle.std.proofs.Common.{◌≡◌, ap, ◌∙◌}
use Rattle.hm_flaws.specs.Recalled.{recalled_of}
use Rattle.hm_history.specs.Kernel.Going.{State}
use Rattle.hm_history.specs.Kernel.Legal.{kept_rightly}
use Rattle.hm_parts.specs.Rules as rules
use Rattle.hm_parts.specs.declared.rules.Rules.{Rules}
use Rattle.hm_parts.proofs.Recalling.{rules_after}
use Rattle.hm_parts.proofs.parts.parts_of.Goals as goal

pub returns : goal.returns
returns g c =
    let p = g.W.Reads.program c.args.world.now in
    let h = c.args.entries.now in
    let e = c.args.entry.now in
    let x = c.in_ok-rules.rules in
    let same : x ≡ rules.rules_at p h e = rules_after p h e x (c.in_ok-rules.ensures.rules p (recalled_of p h) c.requires.followed) in
    record {
      answers = ap (λ (y : Rules). y.answers) same;
      places = ap (λ (y : Rules). y.places) same;
      frames = ap (λ (y : Rules). y.frames) same;
      sequences = ap (λ (y : Rules). y.sequences) same;
      untold = ap (λ (y : Rules). y.untold) same;
      guarded = ap (λ (y : Rules). y.guarded) same;
      kept = c.meets_kept.ensures ∙ ap (λ (t : State). kept_rightly p t e) c.requires.state;
    }
