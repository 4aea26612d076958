use Rattle.std.proofs.Common.{subst, sym, reverse, ◌∙◌, ◌≡◌, true}
use Rattle.std.specs.List.{All}
use Rattle.hm_verdicts.specs.Numbers.{positions_in, values_in}
use Rattle.hm_verdicts.specs.Settled.{First, IsMark, IsOver, is_lasting}
use Rattle.hm_verdicts.proofs.AreOver.{paged_held, paged_marks}
use Rattle.hm_verdicts.proofs.Lasting.{Lasts, lasts_paged}
use Rattle.hm_verdicts.proofs.kept_calls.Calls.know_inner.Goals as goal

pub last_on-self-inside-requires : goal.last_on-self-inside-requires
last_on-self-inside-requires c =
    let s = c.self.inside in
    let f = positions_in s.highest in
    let device = values_in c.args.devices.now in
    let ys = reverse c.args.moves.now in
    (subst (Lasts f s.lasting s.learned) (sym (c.deref.ensures.value ∙ c.in-Ok.ensures))
    (lasts_paged f device c.args.thread ys s.lasting s.learned s.items.items (c.self.invariant.2, c.self.invariant.3))).0

pub invariant_of-self-in-Ok : goal.invariant_of-self-in-Ok
invariant_of-self-in-Ok c =
    let s = c.self.inside in
    let o = s.over in
    let device = values_in c.args.devices.now in
    let t = c.args.thread in
    let ys = reverse c.args.moves.now in
    let f = positions_in s.highest in
    let g = subst (Lasts f s.lasting s.learned) (sym c.in-Ok.ensures)
    (lasts_paged f device t ys s.lasting s.learned s.items.items (c.self.invariant.2, c.self.invariant.3)) in (
      subst (First (IsOver o) o.count) (sym c.in-Ok.ensures)
          (paged_held device t ys o o.count s.items.items c.self.invariant.0),
      subst (λ xs. All (IsMark s.top xs) s.marks.items) (sym c.in-Ok.ensures)
          (paged_marks device t ys s.top s.items.items s.marks.items c.self.invariant.1),
      subst (First (λ x. is_lasting x ≡ true) c.last_on-self-inside.result) c.deref.ensures.value c.last_on-self-inside.ensures,
      g.1,
    )
