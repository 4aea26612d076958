use Rattle.std.proofs.Common.{◌==◌, ◌&&◌, nat_lt, length, ap, ◌∙◌}
use Rattle.hm_history.specs.Memory.Sequences.{Guarded, guard_passes, is_next_told, same_span}
use Rattle.hm_flaw_states.specs.Exact.{exact_in}
use Rattle.hm_flaw_states.specs.Guards.{guard_of}
use Rattle.hm_flaw_states.specs.States.{state_in}
use Rattle.hm_flaw_states.specs.declared.exact_seqs.ExactSeqs.{ExactSeqs}
use Rattle.hm_flaw_states.proofs.here.FlawHere.may_tell.Goals as goal

pub returns-in-Some : goal.returns-in-Some
returns-in-Some c =
    let s = (state_in c.args.self.now.state.now).after.sequences in
    let m = c.args.mirror in
    let r = c.args.span in
    let q = c.args.seq in
    let g = guard_of c.in-Some.guard.now in
    c.goes_on.ensures
    ∙ (ap (λ (x : ExactSeqs). same_span g.span r && (nat_lt 0 (length g.met) && (is_next_told (exact_in x.kept) g m && (q == (exact_in x.kept).seq g.proc)))) c.deref.ensures
    ∙ ap (guard_passes (λ (h : Guarded). same_span h.span r && (nat_lt 0 (length h.met) && (is_next_told s h m && (q == s.seq h.proc))))) c.in-Some.ensures)
