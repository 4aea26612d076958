use Rattle.std.proofs.Common.{◌≤◌, [], ◌∷◌, ◌++◌, ◌∙◌, ap, sym, subst, arith}
use Rattle.std.specs.Prelude.{nat_le}
use Rattle.hm_turns.specs.Sights.{Sight}
use Rattle.seq_copies.specs.Copies.{IsCurrent, StillHaveAreas}
use Rattle.seq_copies.specs.declared.answers.Still.{Still}
use Rattle.seq_copies.proofs.Current.{keep_areas, stays_current}
use Rattle.seq_copies.proofs.copies.still.Goals as goal

pub returns-clause-current : goal.returns-clause-current
returns-clause-current g c = λ held.
    let s = c.args.snapshot.now in
    let mark = c.mark-mark.result in
    let t : Still = record { holds = nat_le mark s.at; count = c.count-count.result; mark = mark } in
    let low : mark ≤ s.at = grind (arith, held) in
    let seen = c.mark-mark.ensures ∙ ap (λ (z : Sight). record z { marks = z.marks ++ record { proc = s.proc; at = mark; upto = z.loaded } ∷ [] }) c.count-count.ensures.pass in
    subst (λ (w : Sight). IsCurrent s w t.count) (sym seen) (stays_current s c.args.pass.now t c.requires.copy.inside c.count-count.ensures.more.1 low c.requires.copy.bytes_are)

pub returns-clause-areas : goal.returns-clause-areas
returns-clause-areas g c = λ held had.
    let s = c.args.snapshot.now in
    let mark = c.mark-mark.result in
    let t : Still = record { holds = nat_le mark s.at; count = c.count-count.result; mark = mark } in
    let low : mark ≤ s.at = grind (arith, held) in
    let seen = c.mark-mark.ensures ∙ ap (λ (z : Sight). record z { marks = z.marks ++ record { proc = s.proc; at = mark; upto = z.loaded } ∷ [] }) c.count-count.ensures.pass in
    subst (λ (w : Sight). StillHaveAreas s w t.count) (sym seen) (keep_areas s c.args.pass.now t c.requires.copy.inside c.count-count.ensures.more.1 low had)
