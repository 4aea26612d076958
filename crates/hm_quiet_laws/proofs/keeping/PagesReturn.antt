-- The pages of a frame that a migration moves return one at a time to the frame that they were copied to.
use Rattle.std.proofs.Common.{◌≡◌, ℕ, ◌⊎◌, inl, inr, Bool, true, false, ◌==◌, ◌&&◌, if◌then◌else◌, Option, Some, None, refl, sym, ap, ◌∙◌, arith}
use Rattle.std.proofs.lemmas.Bool.{cases_eq}
use Rattle.std.proofs.lemmas.Bool.Decides.{nat_tests}
use Rattle.hm_base.specs.Program.{Program}
use Rattle.hm_base.specs.declared.Frame.{Frame}
use Rattle.hm_base.specs.declared.Place.{Place}
use Rattle.hm_base.specs.declared.PoolId.{PoolId}
use Rattle.hm_base.specs.declared.ops.Op.{Op}
use Rattle.hm_history.specs.Memory.Words.{names_directly, moving_frame, is_frame, writable, place_in}
use Rattle.hm_history.specs.Memory.Plain.{mirror_proc}
use Rattle.hm_history.specs.Memory.Places.{lowest_moving, with_place}
use Rattle.hm_history.specs.Memory.After.{After}
use Rattle.hm_history.specs.Kernel.Operation.{op_mirror}
use Rattle.hm_history.specs.Kernel.Due.{pool_of}
use Rattle.hm_history.specs.declared.Kind.{Kind}
use Rattle.hm_history.proofs.Tests.{true_false}
use Rattle.hm_history.proofs.Frames.{is_frame_from, is_frame_of}
use Rattle.hm_laws.specs.Past.{Past}
use Rattle.hm_laws.specs.Sound.{Sound}
use Rattle.hm_laws.specs.Allowed.{next}
use Rattle.hm_laws.proofs.State.Search.{lowest_none}
use Rattle.hm_laws.proofs.Kept.PlaceLocks.{lowest_passes}
use Rattle.hm_laws.proofs.Kept.Frames.{names_stays, moving_names}
use Rattle.hm_quiet_laws.specs.Keeping.{IsThere}

-- while the pages of a frame return, one of them may still be under way
abbrev pub Back : After → Op → Frame → Option Frame → ℕ → Type 0
Back s o f None v = ⊥
Back s o f (Some g) v = (g.pool ≡ pool_of s o) × (moving_frame (s.places.place (mirror_proc s.plain (op_mirror o)) v) ≡ Some f)

-- a place that returns
direct_in : (g : Frame) (w : Bool) → names_directly (place_in g w) ≡ Some g
direct_in g w = by g.pool refl
  where
    by : (p : PoolId) → g.pool ≡ p → names_directly (elim p [ PoolId.System ↦ Place.Sys g.number w | PoolId.Device d ↦ Place.Own d g.number w ]) ≡ Some g
    by PoolId.System e = ap (λ (p : PoolId). Some (record { pool = p; number = g.number })) (sym e)
    by (PoolId.Device d) e = ap (λ (p : PoolId). Some (record { pool = p; number = g.number })) (sym e)

no_direct : (x : Place) (f g : Frame) → moving_frame x ≡ Some f → names_directly x ≡ Some g → ⊥
no_direct Place.Empty f g e d = cc
no_direct Place.Zero f g e d = cc
no_direct (Place.Sys n w) f g e d = cc
no_direct (Place.Own i n w) f g e d = cc
no_direct (Place.Moving h w) f g e d = cc
no_direct (Place.Exclusive n b) f g e d = cc

here_is : (place : ℕ → ℕ → Place) (q u : ℕ) (x : Place) (p v : ℕ) → p ≡ q → v ≡ u → with_place place q u x p v ≡ x
here_is place q u x p v e i = grind (arith, nat_tests)

apart_is : (place : ℕ → ℕ → Place) (q u : ℕ) (x : Place) (p v : ℕ) → (p ≡ q → v ≡ u → ⊥) → with_place place q u x p v ≡ place p v
apart_is place q u x p v ne = by ((p == q) && (v == u)) refl
  where
    two : ((p == q) && (v == u)) ≡ true → (p ≡ q) × (v ≡ u)
    two e = (grind (arith, nat_tests), grind (arith, nat_tests))

    by : (b : Bool) → ((p == q) && (v == u)) ≡ b → (if b then x else place p v) ≡ place p v
    by true e = absurd (ne (two e).0 (two e).1)
    by false e = refl

-- of one page, after one of the frame's pages returned
pub page_after : (s : After) (a : ℕ) (o : Op) (f : Frame) (to : Option Frame) (h : Frame) (x : ℕ × ℕ) (v : ℕ) → ((g : Frame) → to ≡ Some g → h ≡ g) → lowest_moving s.places f ≡ Some x → IsThere s o v ⊎ Back s o f to v → let k = Kind.Place x.0 x.1 (place_in h (writable (s.places.place x.0 x.1))) in IsThere (next s a k) o v ⊎ Back (next s a k) o f to v
page_after s a o f to h x v same e st = by (cases_eq p x.0) (cases_eq v x.1) st
  where
    p : ℕ
    p = mirror_proc s.plain (op_mirror o)

    new : Place
    new = place_in h (writable (s.places.place x.0 x.1))

    frozen : moving_frame (s.places.place x.0 x.1) ≡ Some f
    frozen = is_frame_from (moving_frame (s.places.place x.0 x.1)) f (lowest_passes (λ i j. is_frame (moving_frame (s.places.place i j)) f) s.places.placed x e)

    place_is : p ≡ x.0 → v ≡ x.1 → s.places.place p v ≡ s.places.place x.0 x.1
    place_is i j = ap (λ n. s.places.place n v) i ∙ ap (s.places.place x.0) j

    here : (to : Option Frame) → ((g : Frame) → to ≡ Some g → h ≡ g) → p ≡ x.0 → v ≡ x.1 → IsThere s o v ⊎ Back s o f to v → IsThere (next s a (Kind.Place x.0 x.1 new)) o v ⊎ Back (next s a (Kind.Place x.0 x.1 new)) o f to v
    here to same i j (inl th) = absurd (no_direct (s.places.place x.0 x.1) f th.0 frozen (sym (ap names_directly (place_is i j)) ∙ th.1))
    here None same i j (inr b) = absurd b
    here (Some g) same i j (inr b) = inl (h, ap names_directly (here_is s.places.place x.0 x.1 new p v i j) ∙ direct_in h (writable (s.places.place x.0 x.1)), ap (λ (y : Frame). y.pool) (same g refl) ∙ b.0)

    there : (to : Option Frame) → (p ≡ x.0 → v ≡ x.1 → ⊥) → IsThere s o v ⊎ Back s o f to v → IsThere (next s a (Kind.Place x.0 x.1 new)) o v ⊎ Back (next s a (Kind.Place x.0 x.1 new)) o f to v
    there to ne (inl th) = inl (th.0, ap names_directly (apart_is s.places.place x.0 x.1 new p v ne) ∙ th.1, th.2)
    there None ne (inr b) = absurd b
    there (Some g) ne (inr b) = inr (b.0, ap moving_frame (apart_is s.places.place x.0 x.1 new p v ne) ∙ b.1)

    by : (p ≡ x.0) ⊎ (p ≡ x.0 → ⊥) → (v ≡ x.1) ⊎ (v ≡ x.1 → ⊥) → IsThere s o v ⊎ Back s o f to v → IsThere (next s a (Kind.Place x.0 x.1 new)) o v ⊎ Back (next s a (Kind.Place x.0 x.1 new)) o f to v
    by (inl i) (inl j) st = here to same i j st
    by (inl i) (inr nj) st = there to (λ i j. nj j) st
    by (inr ni) j st = there to (λ i j. ni i) st

-- and once none of them is under way
pub all_back : (c : Program) (s : After) (t : Past) (o : Op) (f : Frame) (to : Option Frame) (v : ℕ) → Sound c s t → lowest_moving s.places f ≡ None → IsThere s o v ⊎ Back s o f to v → IsThere s o v
all_back c s t o f to v so e (inl th) = th
all_back c s t o f None v so e (inr b) = absurd b
all_back c s t o f (Some g) v so e (inr b) = absurd (true_false (is_frame (moving_frame place) f) (is_frame_of (moving_frame place) f b.1) (lowest_none (λ i j. is_frame (moving_frame (s.places.place i j)) f) s.places.placed (mirror_proc s.plain (op_mirror o)) v e (so.places.listed (mirror_proc s.plain (op_mirror o)) v (names_stays place f (moving_names place f b.1).0))))
  where
    place : Place
    place = s.places.place (mirror_proc s.plain (op_mirror o)) v
