use Rattle.std.proofs.Common.{subst, sym}
use Rattle.std.specs.List.{All}
use Rattle.hm_protocol.specs.Noted.{after_end}
use Rattle.hm_verdicts.specs.Numbers.{positions_in}
use Rattle.hm_verdicts.specs.Settled.{IsMark}
use Rattle.hm_verdicts.proofs.AreOver.{marks_ended}
use Rattle.hm_verdicts.proofs.Lasting.{Lasts, alike_end, lasts_mapped}
use Rattle.hm_verdicts.proofs.kept_calls.Calls.end.Goals as goal

pub end-requires : goal.end-requires
end-requires c =
    let s = c.self.inside in
    let cs = s.items.items in
    c.earlier-over.ensures s.top cs c.self.invariant.0
    (subst (All (IsMark s.top cs)) (sym c.deref.ensures.value) (c.drop_from.ensures.held cs c.self.invariant.1))

pub invariant_of-self-in-Ok : goal.invariant_of-self-in-Ok
invariant_of-self-in-Ok c =
    let s = c.self.inside in
    let cs = s.items.items in
    let os = c.drop_from.new.marks.items in
    let f = positions_in s.highest in
    let g = subst (Lasts f s.lasting s.learned) (sym c.in-Ok.ensures.0)
    (lasts_mapped f (after_end c.args.begun c.args.at) (λ x e. alike_end c.args.begun c.args.at x)
    s.lasting s.learned cs (c.self.invariant.2, c.self.invariant.3)) in (
      c.in-Ok.ensures.1,
      subst (λ xs. All (IsMark s.top xs) os) (sym c.in-Ok.ensures.0)
          (marks_ended s.top c.args.begun c.args.at cs os (c.drop_from.ensures.before cs c.self.invariant.1)
          (c.drop_from.ensures.held cs c.self.invariant.1)),
      g.0,
      g.1,
    )
