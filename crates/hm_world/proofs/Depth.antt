-- A stack that there is has three phases at most, and has counted no more frames than there are entries.
use Rattle.std.proofs.Common.{◌≡◌, ℕ, ◌+◌, ◌^◌, ◌<◌, ◌≤◌, true, nat_lt, Some, None, List, [], ◌∷◌, length, refl, arith}
use Rattle.std.proofs.lemmas.Bool.Decides.{nat_tests}
use Rattle.std.specs.Prelude.{IsTrue}
use Rattle.hm_base.specs.declared.Frame.{Frame}
use Rattle.hm_base.specs.declared.Place.{Place}
use Rattle.hm_base.specs.declared.ops.Op.{Op}
use Rattle.hm_history.specs.Memory.After.{After}
use Rattle.hm_history.specs.declared.phases.Body.{Body}
use Rattle.hm_history.specs.declared.phases.Migrating.{Migrating}
use Rattle.hm_history.specs.declared.phases.Phase.{Phase}
use Rattle.hm_phases.specs.Items.{below_takes_count}
use Rattle.hm_laws.specs.Past.{Past}
use Rattle.hm_laws.specs.Facts.{under, beneath, facts, HoldsAll}

-- below a frame that is emptied stands one phase
not_two : (s : After) (t : Past) (a : ℕ) (o : Op) (x y : Phase) (below : List Phase) → HoldsAll s t a (under o (x ∷ y ∷ below)) → ⊥
not_two s t a o (Phase.Decide touch) y below h = h.0
not_two s t a o (Phase.GiveUp None) y below h = h.0
not_two s t a o (Phase.GiveUp (Some touch)) y below h = h.0
not_two s t a o (Phase.Frames v n) y below h = h.0
not_two s t a o x y below h = h.0

not_beneath : (s : After) (t : Past) (a : ℕ) (o : Op) (xs : List Migrating) (l : List Frame) (x y : Phase) (below : List Phase) → HoldsAll s t a (beneath o xs l (x ∷ y ∷ below)) → ⊥
not_beneath s t a o xs l (Phase.Moves step v) y below h = h.0
not_beneath s t a o xs l (Phase.Decide touch) y below h = h.0
not_beneath s t a o xs l (Phase.GiveUp None) y below h = h.0
not_beneath s t a o xs l (Phase.GiveUp (Some touch)) y below h = h.0
not_beneath s t a o xs l (Phase.Frames v n) y below h = h.0
not_beneath s t a o xs l x y below h = h.0

not_four : (s : After) (t : Past) (a : ℕ) (o : Op) (xs : List Migrating) (w x y z : Phase) (below : List Phase) → HoldsAll s t a (facts o xs (w ∷ x ∷ y ∷ z ∷ below)) → ⊥
not_four s t a o xs (Phase.Guard q r met told (Body.Zap n)) Phase.Answer y z below h = h.0
not_four s t a o xs (Phase.Guard q r met told (Body.Narrow n)) Phase.Answer y z below h = h.0
not_four s t a o xs (Phase.Guard q r met told (Body.Fork n half)) Phase.Answer y z below h = h.0
not_four s t a o xs (Phase.Guard q r met told Body.Nothing) Phase.Answer y z below h = h.0
not_four s t a o xs (Phase.Guard q r met told (Body.Replace over g)) (Phase.Decide touch) y z below h = h.0
not_four s t a o xs (Phase.Guard q r met told Body.Nothing) (Phase.Decide touch) y z below h = h.0
not_four s t a o xs (Phase.Guard q r met told Body.Restore) (Phase.Decide touch) y z below h = h.0
not_four s t a o xs (Phase.Guard q r met told (Body.Seize f)) (Phase.Decide touch) y z below h = h.0
not_four s t a o xs (Phase.Drop f) (Phase.Guard q r met told (Body.Zap n)) Phase.Answer z below h = h.0
not_four s t a o xs (Phase.Drop f) (Phase.Guard q r met told Body.Nothing) (Phase.Decide touch) z below h = h.0
not_four s t a o xs (Phase.Drop f) (Phase.Decide touch) y z below h = h.0
not_four s t a o xs (Phase.Taken touch g Place.Zero) x y z below h = h.0
not_four s t a o xs (Phase.Taken touch g over) x y z below h = h.0
not_four s t a o xs (Phase.Guard q r met told (Body.Catch f)) x y z below h = not_two s t a o x y (z ∷ below) h.1.1.1.1
not_four s t a o xs (Phase.Guard q r met told (Body.Freeze f)) (Phase.Emptying g at) y z below h = not_two s t a o y z below h.1.1.1.1.1
not_four s t a o xs (Phase.Guard q r met told Body.Nothing) (Phase.Emptying f at) y z below h = not_two s t a o y z below h.1.1.1
not_four s t a o xs (Phase.Emptying f at) x y z below h = not_two s t a o x y (z ∷ below) h.1.1.1
not_four s t a o xs (Phase.Copy f g k) (Phase.Copied i j) y z below h = not_two s t a o y z below h.1.1.1.1.1.1.1
not_four s t a o xs (Phase.Copied f g) x y z below h = not_two s t a o x y (z ∷ below) h.1.1.1.1
not_four s t a o xs (Phase.Finish f None) x y z below h = not_beneath s t a o xs (f ∷ []) x y (z ∷ below) h.1.1.1.1
not_four s t a o xs (Phase.Finish f (Some g)) x y z below h = not_beneath s t a o xs (f ∷ g ∷ []) x y (z ∷ below) h.1.1.1.1
not_four s t a o xs (Phase.Settle g) x y z below h = not_beneath s t a o xs (g ∷ []) x y (z ∷ below) h.1.1.1.1
not_four s t a o xs (Phase.Guard q r met told (Body.Select n)) (Phase.Moves step v) y z below h = h.0
not_four s t a o xs (Phase.Guard q r met told (Body.Freeze f)) (Phase.Moves step v) y z below h = h.0
not_four s t a o xs (Phase.Guard q r met told Body.Nothing) (Phase.Moves step v) y z below h = h.0
not_four s t a o xs (Phase.Guard q r met told (Body.Fresh g)) (Phase.Moves step v) y z below h = h.0
not_four s t a o xs (Phase.Copy f g k) (Phase.Moves step v) y z below h = h.0
not_four s t a o xs (Phase.Lost u g) (Phase.Moves step v) y z below h = h.0
not_four s t a o xs (Phase.Drop g) (Phase.Moves step v) y z below h = h.0
not_four s t a o xs w x y z below h = h.0

pub depth : (s : After) (t : Past) (a : ℕ) (o : Op) (xs : List Migrating) (st : List Phase) → HoldsAll s t a (facts o xs st) → length st ≤ 3
depth s t a o xs [] h = omega arith
depth s t a o xs (w ∷ []) h = omega arith
depth s t a o xs (w ∷ x ∷ []) h = omega arith
depth s t a o xs (w ∷ x ∷ y ∷ []) h = omega arith
depth s t a o xs (w ∷ x ∷ y ∷ z ∷ below) h = absurd (not_four s t a o xs w x y z below h)

-- frames that are counted below the top
under_counts : (s : After) (t : Past) (a : ℕ) (o : Op) (v n : ℕ) (below : List Phase) → HoldsAll s t a (under o (Phase.Frames v n ∷ below)) → n ≤ s.length
under_counts s t a o v n [] h = h.1.1.1.1.0
under_counts s t a o v n (x ∷ below) h = absurd h.0

beneath_counts : (s : After) (t : Past) (a : ℕ) (o : Op) (xs : List Migrating) (l : List Frame) (v n : ℕ) (below : List Phase) → HoldsAll s t a (beneath o xs l (Phase.Frames v n ∷ below)) → n ≤ s.length
beneath_counts s t a o xs l v n [] h = h.1.1.1.1.0
beneath_counts s t a o xs l v n (x ∷ below) h = absurd h.0

counts_below : (s : After) (t : Past) (a : ℕ) (o : Op) (xs : List Migrating) (v n : ℕ) (top : Phase) (below : List Phase) → HoldsAll s t a (facts o xs (top ∷ Phase.Frames v n ∷ below)) → n ≤ s.length
counts_below s t a o xs v n (Phase.Guard q r met told (Body.Zap m)) below h = absurd h.0
counts_below s t a o xs v n (Phase.Guard q r met told (Body.Narrow m)) below h = absurd h.0
counts_below s t a o xs v n (Phase.Guard q r met told (Body.Fork m half)) below h = absurd h.0
counts_below s t a o xs v n (Phase.Guard q r met told Body.Nothing) below h = absurd h.0
counts_below s t a o xs v n (Phase.Guard q r met told (Body.Replace over g)) below h = absurd h.0
counts_below s t a o xs v n (Phase.Guard q r met told (Body.Catch f)) below h = under_counts s t a o v n below h.1.1.1.1
counts_below s t a o xs v n (Phase.Guard q r met told (Body.Freeze f)) below h = absurd h.0
counts_below s t a o xs v n (Phase.Drop f) below h = absurd h.0
counts_below s t a o xs v n (Phase.Decide touch) below h = absurd h.0
counts_below s t a o xs v n (Phase.Taken touch g Place.Zero) below h = absurd h.0
counts_below s t a o xs v n (Phase.Taken touch g over) below h = absurd h.0
counts_below s t a o xs v n (Phase.Armed touch g over) below h = absurd h.0
counts_below s t a o xs v n (Phase.Emptying f at) below h = under_counts s t a o v n below h.1.1.1
counts_below s t a o xs v n (Phase.Copied f g) below h = under_counts s t a o v n below h.1.1.1.1
counts_below s t a o xs v n (Phase.Finish f None) below h = beneath_counts s t a o xs (f ∷ []) v n below h.1.1.1.1
counts_below s t a o xs v n (Phase.Finish f (Some g)) below h = beneath_counts s t a o xs (f ∷ g ∷ []) v n below h.1.1.1.1
counts_below s t a o xs v n (Phase.Settle g) below h = beneath_counts s t a o xs (g ∷ []) v n below h.1.1.1.1
counts_below s t a o xs v n top below h = absurd h.0

takes_one_more : (n m : ℕ) → m ≤ 2000000 → n ≤ m → nat_lt (n + 1) (2 ^ 64) ≡ true
takes_one_more n m few l = below_limit (n + 1) (omega (arith, few, l))
  where
    below_limit : (k : ℕ) → k < 2 ^ 64 → nat_lt k (2 ^ 64) ≡ true
    below_limit k l = grind (arith, nat_tests)

pub counts : (s : After) (t : Past) (a : ℕ) (o : Op) (xs : List Migrating) (st : List Phase) → s.length ≤ 2000000 → HoldsAll s t a (facts o xs st) → IsTrue (below_takes_count st)
counts s t a o xs [] few h = refl
counts s t a o xs (top ∷ []) few h = refl
counts s t a o xs (top ∷ Phase.Frames v n ∷ below) few h = takes_one_more n s.length few (counts_below s t a o xs v n top below h)
counts s t a o xs (top ∷ next ∷ below) few h = refl
