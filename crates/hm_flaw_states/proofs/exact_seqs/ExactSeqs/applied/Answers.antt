use Rattle.std.proofs.Common.{refl, ap, ◌∙◌}
use Rattle.std.proofs.Math.Path.{fun_ext}
use Rattle.hm_history.specs.Memory.Sequences.{Sequences, applied}
use Rattle.hm_folds.proofs.SeqSteps.{same_state, last_ended, not_ended}
use Rattle.hm_flaw_states.specs.Exact.{exact_in}
use Rattle.hm_flaw_states.proofs.exact_seqs.ExactSeqs.applied.Goals as goal

pub returns-then-is_last_end : goal.returns-then-is_last_end
returns-then-is_last_end c =
    let s = exact_in c.args.self.now.kept in
    let p = c.args.proc in
    let same = ap exact_in c.copied-next.ensures in
    same_state _ _ (ap (λ (z : Sequences). z.seq) same) (ap (λ (z : Sequences). z.active) same)
    (fun_ext (λ m. c.apply_all.ensures m ∙ (ap (λ (z : Sequences). applied p (z.interval m)) same ∙ last_ended s p m c.is_last_end.result c.is_last_end.ensures c.if-is_last_end.true))) refl

pub returns : goal.returns
returns c =
    let s = exact_in c.args.self.now.kept in
    let same = ap exact_in c.copied-next.ensures in
    same_state _ _ (ap (λ (z : Sequences). z.seq) same) (ap (λ (z : Sequences). z.active) same)
    (fun_ext (λ m. ap (λ (z : Sequences). z.interval m) same ∙ not_ended s c.args.proc m c.is_last_end.result c.is_last_end.ensures c.if-is_last_end.false)) refl
