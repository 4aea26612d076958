-- Frames that were committed alike have the same items.
use Rattle.std.proofs.Common.{◌≡◌, ℕ, List, Option, Some, None, refl, sym, ap, ◌∙◌, subst}
use Rattle.hm_base.proofs.Shared.{pool_numbered, number_of_pool}
use Rattle.hm_base.specs.declared.Frame.{Frame}
use Rattle.hm_history.specs.Memory.Places.{frame_of}
use Rattle.hm_race_keys.specs.Sparse.{found}
use Rattle.hm_race_keys.specs.declared.sparse.Item.{Item}
use Rattle.hm_flaw_states.specs.Commits.{target_of, commits_in}
use Rattle.hm_flaw_states.specs.declared.commits.CommittedTo.{CommittedTo}

-- what is kept of a frame
abbrev kept_of : Option Frame → Option CommittedTo
kept_of None = None
kept_of (Some f) = Some (record { frame = f })

itself : (a : Option CommittedTo) → kept_of (target_of a) ≡ a
itself None = refl
itself (Some x) = refl

same_target : (a b : Option CommittedTo) → target_of a ≡ target_of b → a ≡ b
same_target a b e = sym (itself a) ∙ (ap kept_of e ∙ itself b)

pub commits_found : (xs ys : List (Item CommittedTo)) → ((f : Frame) → commits_in xs f ≡ commits_in ys f) → (r k : ℕ) → found xs r k ≡ found ys r k
commits_found xs ys e r k = same_target (found xs r k) (found ys r k) (subst (λ n. target_of (found xs n k) ≡ target_of (found ys n k)) (number_of_pool r) (e (frame_of (pool_numbered r) k)))
