-- Frames that are read alike have the same items.
use Rattle.std.proofs.Common.{◌≡◌, ℕ, zero, suc, List, Option, Some, None, refl, subst, arith}
use Rattle.std.specs.Prelude.{⊤, is_some}
use Rattle.hm_base.proofs.Shared.{pool_numbered, number_of_pool}
use Rattle.hm_base.specs.declared.Frame.{Frame}
use Rattle.hm_history.specs.Memory.Places.{frame_of}
use Rattle.hm_race_keys.specs.Sparse.{found}
use Rattle.hm_race_keys.specs.FrameTables.{held_in, lockers_in}
use Rattle.hm_race_keys.specs.declared.sparse.Item.{Item}

pub locks_found : (xs ys : List (Item ℕ)) → ((f : Frame) → lockers_in xs f ≡ lockers_in ys f) → (r k : ℕ) → found xs r k ≡ found ys r k
locks_found xs ys e r k = subst (λ n. found xs n k ≡ found ys n k) (number_of_pool r) (e (frame_of (pool_numbered r) k))

same_mark : (a b : Option ⊤) → is_some a ≡ is_some b → a ≡ b
same_mark None None e = refl
same_mark None (Some x) e = cc
same_mark (Some x) None e = cc
same_mark (Some x) (Some y) e = refl

pub held_found : (xs ys : List (Item ⊤)) → ((f : Frame) → held_in xs f ≡ held_in ys f) → (r k : ℕ) → found xs r k ≡ found ys r k
held_found xs ys e r k = same_mark (found xs r k) (found ys r k) (subst (λ n. is_some (found xs n k) ≡ is_some (found ys n k)) (number_of_pool r) (e (frame_of (pool_numbered r) k)))
