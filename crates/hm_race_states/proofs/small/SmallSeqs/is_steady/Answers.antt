use Rattle.std.proofs.Common.{◌≡◌, ℕ, Option, List, subst}
use Rattle.hm_folds.specs.Kept.{interval_at}
use Rattle.hm_folds.specs.declared.intervals.KeptInterval.{KeptInterval}
use Rattle.hm_race_laws.specs.Numbers.{small_interval}
use Rattle.hm_race_states.specs.Small.{kept_seqs}
use Rattle.hm_race_states.proofs.Settled.{steady_now}
use Rattle.hm_race_states.proofs.small.SmallSeqs.is_steady.Goals as goal

pub returns : goal.returns
returns c = λ yes.
    let x = c.args.self.now in
    steady_now x (subst (λ (xs : List (Option KeptInterval)). (m : ℕ) → small_interval (kept_seqs x).seq (interval_at xs m) ≡ interval_at xs m) c.deref.ensures.value (c.all_steady.ensures yes))
