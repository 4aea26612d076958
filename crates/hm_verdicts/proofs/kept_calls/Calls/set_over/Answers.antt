use Rattle.std.proofs.Common.{subst, sym}
use Rattle.std.specs.List.{All}
use Rattle.hm_protocol.specs.Noted.{after_set}
use Rattle.hm_verdicts.specs.Numbers.{positions_in}
use Rattle.hm_verdicts.specs.Settled.{IsMark}
use Rattle.hm_verdicts.proofs.AreOver.{set_same, marks_changed}
use Rattle.hm_verdicts.proofs.Lasting.{Lasts, alike_set, lasts_mapped}
use Rattle.hm_verdicts.proofs.kept_calls.Calls.set_over.Goals as goal

pub invariant_of-self-in-Ok : goal.invariant_of-self-in-Ok
invariant_of-self-in-Ok c =
    let s = c.self.inside in
    let m = c.args.mirror in
    let v = c.args.page in
    let f = positions_in s.highest in
    let g = subst (Lasts f s.lasting s.learned) (sym c.in-Ok.ensures.0)
    (lasts_mapped f (after_set m v) (λ x e. alike_set m v x) s.lasting s.learned s.items.items (c.self.invariant.2, c.self.invariant.3)) in (
      c.in-Ok.ensures.1,
      subst (λ xs. All (IsMark s.top xs) s.marks.items) (sym c.in-Ok.ensures.0)
          (marks_changed s.top (after_set m v) (set_same m v) s.items.items s.marks.items c.self.invariant.1),
      g.0,
      g.1,
    )
