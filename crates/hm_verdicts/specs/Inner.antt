-- The newest of a list that has the newest first, and what is asked of a thread's inner migration.
use Rattle.std.specs.Prelude.{ℕ, Bool, false, not, ◌&&◌, ◌||◌, ◌==◌, if◌then◌else◌, Option}
use Rattle.std.specs.Prelude.{Some, None, List, [], ◌∷◌}
use Rattle.std.specs.List.{list_any}
use Rattle.hm_history.specs.declared.TableRight.{TableRight}
use Rattle.hm_protocol.specs.Words.{is_sole}
use Rattle.hm_protocol.specs.Known.{Move}
use Rattle.hm_protocol.specs.Tests.{is_kept_back}

-- the list without it
abbrev pub outer : {X : Type 0} → List X → List X
outer [] = []
outer (y ∷ ys) = ys

-- it is changed, if there is one
abbrev pub with_inner : {X : Type 0} → (X → X) → List X → List X
with_inner f [] = []
with_inner f (y ∷ ys) = f y ∷ ys

-- the first of a list
abbrev pub first : {X : Type 0} → List X → Option X
first [] = None
first (x ∷ xs) = Some x

-- the migration knows what moved, and the page is one that it has moved, or could not move
abbrev pub has_placed : ℕ → Move → Bool
has_placed v y = y.paged && (list_any (λ u. u == v) y.moved || list_any (λ u. u.0 == v) y.stayed)

-- so does the inner one, if there is one
abbrev pub migrated_in : Option Move → ℕ → Bool
migrated_in None v = false
migrated_in (Some y) v = has_placed v y

-- it sets the page, and passes
abbrev pub migrated_set_in : Option Move → (Move → Bool) → ℕ → TableRight → Bool
migrated_set_in None test v w = false
migrated_set_in (Some y) test v w = not (is_sole w) && (has_placed v y && test y)

-- it is one to a device, and has not freed the frame of a page that stayed
abbrev pub lost_in : Option Move → Bool
lost_in None = false
lost_in (Some y) = y.to_device && list_any (λ x. is_kept_back y.freed x.1) y.stayed

-- counted by this, if it is one to a device
abbrev pub counted_in : (Move → ℕ) → Option Move → ℕ
counted_in count None = 0
counted_in count (Some y) = if y.to_device then count y else 0
