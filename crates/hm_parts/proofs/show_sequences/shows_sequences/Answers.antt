use Rattle.std.proofs.Common.{Option, sym, ap, ◌∙◌}
use Rattle.hm_folds.specs.Kept.{sequences_of, under_way}
use Rattle.hm_history.specs.Memory.Sequences.{Sequences}
use Rattle.hm_parts.specs.Shown.{guard_goes_on, if_right, or_else, shows_sequences, starting}
use Rattle.hm_parts.specs.declared.shown.Shown.{Shown}
use Rattle.hm_parts.proofs.show_sequences.shows_sequences.Goals as goal

pub returns-in-Start : goal.returns-in-Start
returns-in-Start g c =
    let s = sequences_of c.args.sequences.now in
    let t = (g.W.Reads.state c.args.world.now).after.sequences in
    let a = c.args.actor in
    let start = starting t c.in-Start.proc c.in-Start.span in
    c.or_else.ensures
    ∙ ap (λ (x : Option Shown). or_else x c.if_right.result) c.guard_goes_on.ensures
    ∙ ap (or_else (guard_goes_on t a (under_way (t.guard a)))) (c.if_right.ensures ∙ ap (if_right s a) c.starting.ensures ∙ ap (λ (z : Sequences). if_right z a start) c.requires)
    ∙ ap (shows_sequences t a) (sym c.in-Start.is)
