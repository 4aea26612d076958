use Rattle.std.proofs.Common.{subst, sym, ◌∷◌, []}
use Rattle.std.specs.List.{All}
use Rattle.hm_verdicts.specs.Numbers.{positions_in}
use Rattle.hm_verdicts.specs.Settled.{First, IsMark, IsOver}
use Rattle.hm_verdicts.proofs.AreOver.{marks_pushed}
use Rattle.hm_verdicts.proofs.Settled.{first_pushed}
use Rattle.hm_verdicts.proofs.Lasting.{Lasts, lasts_pushed}
use Rattle.hm_verdicts.proofs.kept_calls.Calls.push.Goals as goal

pub invariant_of-self-2 : goal.invariant_of-self-2
invariant_of-self-2 c =
    let s = c.self.inside in
    let o = s.over in
    let f = positions_in s.highest in
    let g = subst (Lasts f s.lasting s.learned) (sym c.in_ok-push.ensures.items)
    (lasts_pushed f s.lasting s.learned s.items.items (c.args.call ∷ []) (c.self.invariant.2, c.self.invariant.3)) in (
      subst (First (IsOver o) o.count) (sym c.in_ok-push.ensures.items)
          (first_pushed (IsOver o) o.count s.items.items (c.args.call ∷ []) c.self.invariant.0),
      subst (λ xs. All (IsMark s.top xs) s.marks.items) (sym c.in_ok-push.ensures.items)
          (marks_pushed s.top s.items.items (c.args.call ∷ []) s.marks.items c.self.invariant.1),
      g.0,
      g.1,
    )
