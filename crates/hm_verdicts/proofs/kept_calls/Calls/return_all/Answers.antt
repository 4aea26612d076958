use Rattle.std.proofs.Common.{subst, sym, reverse, ◌∙◌}
use Rattle.std.specs.List.{All}
use Rattle.hm_verdicts.specs.Changes.{returned_in}
use Rattle.hm_verdicts.specs.Numbers.{positions_in}
use Rattle.hm_verdicts.specs.Settled.{First, IsMark, IsOver}
use Rattle.hm_verdicts.proofs.Settled.{first_mapped}
use Rattle.hm_verdicts.proofs.AreOver.{return_same, marks_changed}
use Rattle.hm_verdicts.proofs.Lasting.{Lasts, alike_return, lasts_mapped}
use Rattle.hm_verdicts.proofs.kept_calls.Calls.return_all.Goals as goal

pub settle-self-inside-requires : goal.settle-self-inside-requires
settle-self-inside-requires c =
    let s = c.self.inside in
    let o = s.over in
    let cs = s.items.items in
    let i = c.args.at in
    let q = c.args.seq in
    let ys = reverse c.args.moves.now in
    let t = c.args.thread in
    let m = c.args.mirror in
    subst (First (IsOver o) o.count) (sym (c.deref.ensures.value ∙ c.in-Ok.ensures))
    (first_mapped (IsOver o) (returned_in i q cs ys t m)
    (λ x h. subst (IsOver o) (sym (return_same i q cs ys t m o x h)) h) o.count cs c.self.invariant.0)

pub invariant_of-self-in-Ok : goal.invariant_of-self-in-Ok
invariant_of-self-in-Ok c =
    let s = c.self.inside in
    let p = c.settle-self-inside.result in
    let cs = s.items.items in
    let i = c.args.at in
    let q = c.args.seq in
    let ys = reverse c.args.moves.now in
    let t = c.args.thread in
    let m = c.args.mirror in
    let f = positions_in s.highest in
    let g = subst (Lasts f s.lasting s.learned) (sym c.in-Ok.ensures)
    (lasts_mapped f (returned_in i q cs ys t m) (alike_return i q cs ys t m) s.lasting s.learned cs (c.self.invariant.2, c.self.invariant.3)) in (
      subst (First (IsOver p) p.count) c.deref.ensures.value c.settle-self-inside.ensures,
      subst (λ xs. All (IsMark s.top xs) s.marks.items) (sym c.in-Ok.ensures)
          (marks_changed s.top (returned_in i q cs ys t m) (return_same i q cs ys t m) cs s.marks.items c.self.invariant.1),
      g.0,
      g.1,
    )
