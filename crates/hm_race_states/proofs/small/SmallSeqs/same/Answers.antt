use Rattle.std.proofs.Common.{◌≡◌, ℕ, true, Option, List, sym, ap, ◌∙◌}
use Rattle.hm_folds.specs.Kept.{interval_at}
use Rattle.hm_folds.specs.declared.intervals.KeptInterval.{KeptInterval}
use Rattle.hm_race_states.proofs.Alike.{odd_alike, active_alike, intervals_alike}
use Rattle.hm_race_states.proofs.small.SmallSeqs.same.Goals as goal

pub returns-then-not-same_flags-clause-no : goal.returns-then-not-same_flags-clause-no
returns-then-not-same_flags-clause-no c e =
    let h : c.same_flags.result ≡ true = c.same_flags.ensures.no (odd_alike c.args.self.now c.args.other.now e) in
    cc

pub returns-then-not-same_counts-clause-no : goal.returns-then-not-same_counts-clause-no
returns-then-not-same_counts-clause-no c e =
    let h : c.same_counts.result ≡ true = c.same_counts.ensures.no (active_alike c.args.self.now c.args.other.now e) in
    cc

pub returns-clause-no : goal.returns-clause-no
returns-clause-no c e =
    let x = c.args.self.now in
    let y = c.args.other.now in
    let read = λ (m : ℕ) (xs : List (Option KeptInterval)). interval_at xs m in
    c.same_intervals.ensures.no (λ m. ap (read m) c.deref.ensures.value ∙ intervals_alike x y e m ∙ sym (ap (read m) c.deref-2.ensures.value))
