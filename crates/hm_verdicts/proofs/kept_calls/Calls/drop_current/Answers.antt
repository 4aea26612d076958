use Rattle.std.proofs.Common.{ap, subst, sym, not}
use Rattle.std.specs.List.{All}
use Rattle.hm_protocol.specs.Known.{is_current}
use Rattle.hm_verdicts.specs.Numbers.{positions_in}
use Rattle.hm_verdicts.specs.Settled.{First, IsMark, IsOver}
use Rattle.hm_verdicts.proofs.Settled.{first_filtered}
use Rattle.hm_verdicts.proofs.AreOver.{current_not, marks_filtered}
use Rattle.hm_verdicts.proofs.Lasting.{Lasts, lasts_filtered}
use Rattle.hm_verdicts.proofs.kept_calls.Calls.drop_current.Goals as goal

pub invariant_of-self : goal.invariant_of-self
invariant_of-self c =
    let s = c.self.inside in
    let o = s.over in
    let t = c.args.thread in
    let m = c.args.mirror in
    let f = positions_in s.highest in
    let g = subst (Lasts f s.lasting s.learned) (sym c.drop_current.ensures)
    (lasts_filtered f t m s.lasting s.learned s.items.items (c.self.invariant.2, c.self.invariant.3)) in (
      subst (First (IsOver o) o.count) (sym c.drop_current.ensures)
          (first_filtered (IsOver o) (λ x. not (is_current t m x))
          (λ x h. ap not (current_not t m o x h)) o.count s.items.items c.self.invariant.0),
      subst (λ xs. All (IsMark s.top xs) s.marks.items) (sym c.drop_current.ensures)
          (marks_filtered s.top (λ x. not (is_current t m x)) (λ o x h. ap not (current_not t m o x h))
          s.items.items s.marks.items c.self.invariant.1),
      g.0,
      g.1,
    )
