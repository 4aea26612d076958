use Rattle.std.proofs.Common.{subst, sym, reverse}
use Rattle.std.specs.Prelude.{◌==◌, ◌&&◌, is_none}
use Rattle.std.specs.List.{All, list_any}
use Rattle.hm_protocol.specs.Known.{Call}
use Rattle.hm_verdicts.specs.Changes.{erased_by}
use Rattle.hm_verdicts.specs.Numbers.{positions_in, values_in}
use Rattle.hm_verdicts.specs.Settled.{IsMark}
use Rattle.hm_verdicts.proofs.AreOver.{erase_same, marks_changed}
use Rattle.hm_verdicts.proofs.Lasting.{Lasts, alike_erase, lasts_mapped}
use Rattle.hm_verdicts.proofs.kept_calls.Calls.erase.Goals as goal

pub invariant_of-self-in-Ok : goal.invariant_of-self-in-Ok
invariant_of-self-in-Ok c =
    let s = c.self.inside in
    let t = c.args.thread in
    let m = c.args.mirror in
    let v = c.args.page in
    let device = values_in c.args.devices.now in
    let within = list_any (λ (y : Call). (y.thread == t) && is_none y.after) s.items.items in
    let ys = reverse c.args.moves.now in
    let f = positions_in s.highest in
    let g = subst (Lasts f s.lasting s.learned) (sym c.in-Ok.ensures.0)
    (lasts_mapped f (erased_by device within ys t m v) (λ x e. alike_erase device within ys t m v x)
    s.lasting s.learned s.items.items (c.self.invariant.2, c.self.invariant.3)) in (
      c.in-Ok.ensures.1,
      subst (λ xs. All (IsMark s.top xs) s.marks.items) (sym c.in-Ok.ensures.0)
          (marks_changed s.top (erased_by device within ys t m v) (erase_same device within ys t m v)
          s.items.items s.marks.items c.self.invariant.1),
      g.0,
      g.1,
    )
