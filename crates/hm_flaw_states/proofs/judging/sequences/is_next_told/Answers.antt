use Rattle.std.proofs.Common.{ℕ, ◌==◌, ◌||◌, nat_le, nat_lt, List, sym, ap, ◌∙◌}
use Rattle.std.specs.List.{list_all, list_any}
use Rattle.hm_folds.specs.Kept.{mirrors_of}
use Rattle.hm_folds.proofs.SeqSteps.{is_next, not_below, not_overlaps}
use Rattle.hm_flaw_states.specs.Exact.{exact_in}
use Rattle.hm_flaw_states.specs.Guards.{guard_of}
use Rattle.hm_flaw_states.proofs.judging.sequences.is_next_told.Goals as goal

pub returns-then-not-all_below : goal.returns-then-not-all_below
returns-then-not-all_below c =
    let m = c.args.mirror in
    let below = c.all_below.ensures ∙ ap (λ (ts : List ℕ). list_all (λ k. nat_lt k m) ts) c.as_slice.ensures.value in
    not_below (exact_in c.args.seqs.now.kept) (guard_of c.args.guard.now) m (sym below ∙ c.if-not-all_below.true)

pub returns-then-not-overlaps : goal.returns-then-not-overlaps
returns-then-not-overlaps c = not_overlaps (exact_in c.args.seqs.now.kept) (guard_of c.args.guard.now) c.args.mirror (sym c.overlaps.ensures ∙ c.if-not-overlaps.true)

pub returns : goal.returns
returns c =
    let m = c.args.mirror in
    let below = c.all_below.ensures ∙ ap (λ (ts : List ℕ). list_all (λ k. nat_lt k m) ts) c.as_slice.ensures.value in
    c.lower_told.ensures
    ∙ (ap (λ (ts : List ℕ). list_all (λ k. nat_le m k || list_any (λ t. t == k) ts) (mirrors_of c.overlapping-all.result)) c.as_slice-2.ensures.value
    ∙ is_next (exact_in c.args.seqs.now.kept) (guard_of c.args.guard.now) m _ (sym below ∙ c.if-not-all_below.false) (sym c.overlaps.ensures ∙ c.if-not-overlaps.false) c.overlapping-all.ensures)
