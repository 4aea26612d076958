use Rattle.std.proofs.Common.{ℕ, Option, List, Vec, Global, sym, ap, ◌∙◌}
use Rattle.hm_base.specs.Areas.{without}
use Rattle.hm_base.specs.Pages.{Pages}
use Rattle.hm_base.specs.declared.area.Area.{Area}
use Rattle.hm_linux.specs.UnmapLetsIn.{gone_by, without_gone}
use Rattle.hm_linux_steps.specs.Left.{span_of}
use Rattle.hm_linux_steps.proofs.Left.{left_next, gone_none, gone_some}
use Rattle.hm_linux_steps.proofs.areas.areas_left.Goals as goal
use Rattle.hm_linux_steps.proofs.areas.areas_left.Goals.{in-Some+in_ok-left-in-Some, in-None}

pub loop-at-preserved : goal.loop-at-preserved
loop-at-preserved g c =
    let p = c.args.proc in
    let gone : ℕ → Option (ℕ × Pages) = gone_by (g.W.Reads.program c.args.world.now) (g.W.Reads.state c.args.world.now) in
    let rest = ap (λ (xs : List Area). without_gone p xs (gone c.loop-at.at)) c.loop-at.invariant
    ∙ sym (left_next (g.W.Reads.program c.args.world.now) (g.W.Reads.state c.args.world.now) p c.loop-at.at) in
    let here = c.gone_of.ensures ∙ ap (λ (a : ℕ). span_of p (gone a)) c.new.ensures in
    elim c.match-gone_of.branch [
      | in-Some+in_ok-left-in-Some w ↦ ap (λ (v : Vec Area Global). v.items) w.left-is ∙ (w.in_ok-left-in-Some.ensures ∙ (ap (without w.in-Some.span) w.deref.ensures.value ∙ (gone_some p c.loop-at.left.items (gone c.loop-at.at) w.in-Some.span (sym w.in-Some.is ∙ here) ∙ rest)))
      | in-None w ↦ ap (λ (v : Vec Area Global). v.items) w.left-is ∙ (gone_none p c.loop-at.left.items (gone c.loop-at.at) (sym w.in-None.is ∙ here) ∙ rest)
    ]
