-- Parts of a state after an entry, by parts of the state before it.
use Rattle.std.proofs.Common.{◌≡◌, ℕ, refl, ap, ◌∙◌}
use Rattle.hm_history.specs.Memory.Places.{Places, places_next}
use Rattle.hm_history.specs.Memory.Sequences.{Sequences, sequences_next}
use Rattle.hm_history.specs.declared.Kind.{Kind}
use Rattle.hm_folds.proofs.SeqSteps.{same_state}
use Rattle.hm_race_states.specs.Small.{unguarded}
use Rattle.hm_flaw_states.specs.Commits.{commits_next}
use Rattle.hm_flaw_states.specs.Placed.{placed_next}

pub placed_goes : (t : Places) (k : Kind) → placed_next t.placed k ≡ (places_next t k).placed
placed_goes t (Kind.Place p v x) = refl
placed_goes t _ = refl

pub commits_go : (t : Places) (k : Kind) → commits_next t.committed_to k ≡ (places_next t k).committed_to
commits_go t (Kind.Take f) = refl
commits_go t (Kind.Committed f g) = refl
commits_go t _ = refl

-- sequences, for which guards do not count
alone : (s : Sequences) (a : ℕ) (k : Kind) → unguarded (sequences_next (unguarded s) a k) ≡ unguarded (sequences_next s a k)
alone s a (Kind.Start p r q) = refl
alone s a (Kind.Told m r q) = refl
alone s a (Kind.End p r q) = refl
alone s a (Kind.Attached m d p r q) = refl
alone s a (Kind.Detaching m q) = refl
alone s a (Kind.Detached m) = refl
alone s a _ = refl

-- the whole sequences, by those without guards and the guards
pub seqs_go : (s y : Sequences) (a : ℕ) (k : Kind) → unguarded y ≡ unguarded (sequences_next (unguarded s) a k) → y.guard ≡ (sequences_next s a k).guard → y ≡ sequences_next s a k
seqs_go s y a k e g =
    let all : unguarded y ≡ unguarded (sequences_next s a k) = e ∙ alone s a k in
    same_state _ _ (ap (λ (z : Sequences). z.seq) all) (ap (λ (z : Sequences). z.active) all) (ap (λ (z : Sequences). z.interval) all) g
