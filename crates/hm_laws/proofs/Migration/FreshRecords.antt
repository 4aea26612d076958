-- The records of a migration where an untouched page gets a frame of the device.
use Rattle.std.proofs.Common.{◌≡◌, ℕ, ◌⊎◌, inl, inr, Bool, true, false, ◌||◌, nat_lt, Some, None, List, ◌∷◌, refl, sym, ap, ◌∙◌, subst, arith}
use Rattle.std.specs.List.{list_any}
use Rattle.std.proofs.lemmas.Option.{same_Some}
use Rattle.hm_base.specs.Program.{Program}
use Rattle.hm_base.specs.declared.PoolId.{PoolId}
use Rattle.hm_base.specs.declared.Frame.{Frame}
use Rattle.hm_base.specs.declared.Place.{Place}
use Rattle.hm_base.specs.declared.ops.Op.{Op}
use Rattle.hm_history.specs.Memory.Words.{same_pool, same_frame, names, names_directly, moving_frame}
use Rattle.hm_history.specs.Memory.Plain.{mirror_proc, mirror_dev}
use Rattle.hm_history.specs.Memory.After.{After}
use Rattle.hm_history.specs.Kernel.Operation.{op_mirror, is_to_device}
use Rattle.hm_history.specs.Kernel.Going.{with_record}
use Rattle.hm_history.specs.declared.Who.{Who}
use Rattle.hm_history.specs.declared.Kind.{Kind}
use Rattle.hm_history.specs.declared.phases.Migrating.{Migrating}
use Rattle.hm_history.specs.declared.phases.MoveStep.TheVariants.{Commit}
use Rattle.hm_laws.specs.Past.{Past}
use Rattle.hm_laws.specs.Sound.{Sound}
use Rattle.hm_laws.specs.Allowed.{next, ReadsThere, OwnsFrame, Allowed}
use Rattle.hm_laws.specs.Spares.{Apart}
use Rattle.hm_laws.specs.Records.{is_of, staged, Among, WellListed, has_fresh}
use Rattle.hm_laws.specs.Facts.{HasProc, Locks_only, Lands_on, of_system, Holds, facts_past, frames_of, record_facts, records, held, migrating, HoldsAll}
use Rattle.hm_laws.proofs.Kept.Frames.{direct_names}
use Rattle.hm_laws.proofs.Due.Spans.{this_page}
use Rattle.hm_laws.proofs.Migration.Places.{InFrame, stood_direct}
use Rattle.hm_laws.proofs.Own.Places.{locks_after}
use Rattle.hm_laws.proofs.Migration.Records.{records_each, held_of, listed_with, fresh_found}
use Rattle.hm_laws.proofs.Migration.PagePast.{Renewed, renewed, apart_others, records_past, held_past, stage_says, stage_of}
use Rattle.hm_laws.proofs.Migration.FreshPlaces.{Untouched, device_locked, device_back}
use Rattle.hm_history.proofs.Tests.{some_none}
use Rattle.hm_history.proofs.Frames.{frame_tells}

-- the record before and after
abbrev pub old_record : ℕ → Frame → Migrating
old_record u g = record { page = u; source = None; dest = Some g; moved = false }

abbrev pub new_record : ℕ → Frame → Migrating
new_record u g = record { page = u; source = None; dest = Some g; moved = true }

record_is : (y : Migrating) (u : ℕ) (g : Frame) → y.page ≡ u → y.source ≡ None → y.dest ≡ Some g → y.moved ≡ false → y ≡ old_record u g
record_is y u g p f d m = ap (λ z. record { page = z; source = y.source; dest = y.dest; moved = y.moved }) p ∙ (ap (λ z. record { page = u; source = z; dest = y.dest; moved = y.moved }) f ∙ (ap (λ z. record { page = u; source = None; dest = z; moved = y.moved }) d ∙ ap (λ z. record { page = u; source = None; dest = Some g; moved = z }) m))

pub the_record : (u : ℕ) (g : Frame) (xs : List Migrating) → has_fresh u g xs ≡ true → Among xs (old_record u g)
the_record u g xs h = at (fresh_found u g xs h)
  where
    at : (y : Migrating) × Among xs y × (y.page ≡ u) × (y.source ≡ None) × (y.dest ≡ Some g) × (y.moved ≡ false) → Among xs (old_record u g)
    at y = subst (Among xs) (record_is y.0 u g y.2 y.3 y.4 y.5) y.1

old_facts : (s : After) (t : Past) (a : ℕ) (o : Op) (xs : List Migrating) (u v : ℕ) (g : Frame) → nat_lt u v ≡ true → Among xs (old_record u g) → HoldsAll s t a (records o Commit v None xs) → HoldsAll s t a (facts_past o true true true false None (old_record u g))
old_facts s t a o xs u v g e i h = subst (λ b. HoldsAll s t a (facts_past o true true b false None (old_record u g))) e (records_each s t a o Commit v None xs h (old_record u g) i)

-- only a migration to a device has such pages, so that the frame is the device's
of_device : (s : After) (t : Past) (a : ℕ) (o : Op) (g : Frame) → is_to_device o ≡ true → Holds s t a (Lands_on o g) → of_system g ≡ false
of_device s t a o g dev h = ap (λ x. same_pool x PoolId.System) (h.1 ∙ ap (λ b. elim b [ true ↦ PoolId.Device (mirror_dev s.plain (op_mirror o)) | false ↦ PoolId.System ]) dev)

new_staged : (o : Op) (u : ℕ) (g : Frame) → is_to_device o ≡ true → staged o true true (new_record u g) ≡ true
new_staged o u g dev = stage_of o true true (new_record u g) (record { device = dev; taken = refl; committed = refl; passed = refl })

-- what is known where the page is still untouched, and gets the place x
pub record Placing (c : Program) (s : After) (t : Past) (a : ℕ) (o : Op) (xs : List Migrating) (u v : ℕ) (g : Frame) (w : Bool) (x : Place) : Type 0 where
  pub among : Among xs (old_record u g)
  pub before : nat_lt u v ≡ true
  pub listed : WellListed xs
  pub knows : HoldsAll s t a (migrating o xs Commit v None)
  pub ok : Allowed c s t a (Kind.Place (mirror_proc s.plain (op_mirror o)) u x)
  pub new : InFrame g w x
  pub old : Untouched s.places.committed_to (s.places.place (mirror_proc s.plain (op_mirror o)) u)
  pub own : OwnsFrame s a g
  pub reads : HasProc s.plain (Who.Mirror (op_mirror o)) × ReadsThere s a (mirror_proc s.plain (op_mirror o))
  pub lands : Holds s t a (Lands_on o g)
  pub locks : Holds s t a (Locks_only (g ∷ held o xs Commit v None))

same_there : (o : Op) (u v : ℕ) (y : Migrating) → (y.page ≡ u → ⊥) → record_facts o Commit v None y ≡ record_facts o Commit v None y
same_there o u v y ne = refl

is_its : (u : ℕ) (g : Frame) → is_of (old_record u g) g ≡ true
is_its u g = grind (arith, frame_tells g g)

-- the record's facts then
new_facts : (c : Program) (s : After) (t : Past) (a : ℕ) (o : Op) (xs : List Migrating) (u v : ℕ) (g : Frame) (w : Bool) (x : Place) → Sound c s t → Placing c s t a o xs u v g w x → HoldsAll (next s a (Kind.Place (mirror_proc s.plain (op_mirror o)) u x)) t a (record_facts o Commit v None (new_record u g))
new_facts c s t a o xs u v g w x so h = subst (λ b. HoldsAll (next s a (Kind.Place p u x)) t a (facts_past o true true b false None (new_record u g))) (sym h.before)
    (new_staged o u g dev, (k.1.0, (device_back c s t a p u g w x so h.ok h.new sys h.own, ((h.reads.0, h.reads.1, device_locked c s t a p u g w x so h.ok h.new sys h.own.0.mine, sys, ap names_directly (this_page s.places.place p u x) ∙ h.new.direct), (h.lands, tt)))))
  where
    p : ℕ
    p = mirror_proc s.plain (op_mirror o)

    k : HoldsAll s t a (facts_past o true true true false None (old_record u g))
    k = old_facts s t a o xs u v g h.before h.among h.knows.1.1.1

    dev : is_to_device o ≡ true
    dev = (stage_says o true true (old_record u g) k.0).device

    sys : of_system g ≡ false
    sys = of_device s t a o g dev h.lands

-- and those of the others
spares : (s : After) (o : Op) (xs : List Migrating) (p u v : ℕ) (g : Frame) (w : Bool) (x : Place) → WellListed xs → Among xs (old_record u g) → InFrame g w x → Untouched s.places.committed_to (s.places.place p u) → (y : Migrating) → Among xs y → (y.page ≡ u → ⊥) → (f : Frame) → list_any (same_frame f) (frames_of (record_facts o Commit v None y)) ≡ true → Apart s (Kind.Place p u x) f
spares s o xs p u v g w x l i new old y j ne f m = (
  λ n. some_none (names (s.places.place p u)) f n old.unnamed,
  λ n. off (same_Some f g (sym n ∙ (direct_names x g new.direct).0)),
  λ n. off (same_Some f g (sym n ∙ stood_direct s.places.committed_to x g new.direct)),
)
  where
    off : f ≡ g → ⊥
    off = apart_others o Commit v None xs (old_record u g) y f g l i j ne (is_its u g) m

pub new_migrating : (c : Program) (s : After) (t : Past) (a : ℕ) (o : Op) (xs : List Migrating) (u v : ℕ) (g : Frame) (w : Bool) (x : Place) → Sound c s t → Placing c s t a o xs u v g w x → HoldsAll (next s a (Kind.Place (mirror_proc s.plain (op_mirror o)) u x)) t a (migrating o (with_record (new_record u g) xs) Commit v None)
new_migrating c s t a o xs u v g w x so h = (
  h.knows.0,
  (
    listed_with xs (new_record u g) (old_record u g) h.listed h.among refl (λ f m. inl m) (λ f e d. h.listed.own (old_record u g) f h.among e d),
    (
      h.knows.1.1.0,
      records_past c s t a (Kind.Place p u x) so h.ok (record { map = refl; there = λ q. refl; areas = λ q. refl }) o Commit v Commit v xs (with_record (new_record u g) xs) (old_record u g) (new_record u g)
          (renewed xs (old_record u g) (new_record u g) h.listed h.among refl) (same_there o u v) (spares s o xs p u v g w x h.listed h.among h.new h.old) h.knows.1.1.1 (new_facts c s t a o xs u v g w x so h),
    ),
  ),
)
  where
    p : ℕ
    p = mirror_proc s.plain (op_mirror o)

-- the frame is then one of the records'
pub new_locks : (c : Program) (s : After) (t : Past) (a : ℕ) (o : Op) (xs : List Migrating) (u v : ℕ) (g : Frame) (w : Bool) (x : Place) → Sound c s t → Placing c s t a o xs u v g w x → Holds (next s a (Kind.Place (mirror_proc s.plain (op_mirror o)) u x)) t a (Locks_only (held o (with_record (new_record u g) xs) Commit v None))
new_locks c s t a o xs u v g w x so h f l = at (locks_after c s t a p u x so h.ok (λ i n. absurd (some_none (names (s.places.place p u)) i n h.old.unnamed)) f l)
  where
    p : ℕ
    p = mirror_proc s.plain (op_mirror o)

    ys : List Migrating
    ys = with_record (new_record u g) xs

    r : Renewed xs (with_record (new_record u g) xs) (old_record u g) (new_record u g)
    r = renewed xs (old_record u g) (new_record u g) h.listed h.among refl

    its : (same_frame f g || false) ≡ true → list_any (same_frame f) (held o (with_record (new_record u g) xs) Commit v None) ≡ true
    its e = held_of o Commit v None ys f (new_record u g) r.now (subst (λ b. list_any (same_frame f) (frames_of (facts_past o true true b false None (new_record u g))) ≡ true) (sym h.before) e)

    rest : list_any (same_frame f) (held o xs Commit v None) ≡ true → list_any (same_frame f) (held o (with_record (new_record u g) xs) Commit v None) ≡ true
    rest e = by (held_past o Commit v Commit v xs ys (old_record u g) (new_record u g) f r (same_there o u v) e)
      where
        none : list_any (same_frame f) (frames_of (facts_past o true true true false None (old_record u g))) ≡ true → ⊥
        none m = cc

        by : (list_any (same_frame f) (frames_of (record_facts o Commit v None (old_record u g))) ≡ true) ⊎ (list_any (same_frame f) (held o (with_record (new_record u g) xs) Commit v None) ≡ true) → list_any (same_frame f) (held o (with_record (new_record u g) xs) Commit v None) ≡ true
        by (inl m) = absurd (none (subst (λ b. list_any (same_frame f) (frames_of (facts_past o true true b false None (old_record u g))) ≡ true) h.before m))
        by (inr m) = m

    in_hand : (b d : Bool) → (b || d) ≡ true → ((b || false) ≡ true) ⊎ (d ≡ true)
    in_hand true d e = inl refl
    in_hand false d e = inr e

    held_or : ((same_frame f g || false) ≡ true) ⊎ (list_any (same_frame f) (held o xs Commit v None) ≡ true) → list_any (same_frame f) (held o (with_record (new_record u g) xs) Commit v None) ≡ true
    held_or (inl e) = its e
    held_or (inr e) = rest e

    at : (s.locks.frame f ≡ Some a) ⊎ ((moving_frame x ≡ Some f) × (s.locks.frame f ≡ None)) → list_any (same_frame f) (held o (with_record (new_record u g) xs) Commit v None) ≡ true
    at (inl e) = held_or (in_hand (same_frame f g) (list_any (same_frame f) (held o xs Commit v None)) (h.locks f e))
    at (inr e) = absurd (some_none (moving_frame x) f e.0 h.new.unfrozen)
