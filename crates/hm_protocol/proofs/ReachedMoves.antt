-- What comes before an entry of a migration's step: the set-up, once all is frozen, and the end of the commits.
use Rattle.std.proofs.Common.{refl, ap, sym, subst, ◌∙◌}
use Rattle.std.proofs.lemmas.Bool.{true≢false}
use Rattle.std.specs.Prelude.{◌≡◌, ℕ, Bool, true, false, ◌&&◌, if◌then◌else◌}
use Rattle.std.specs.Prelude.{Option, Some, None, List, [], ◌∷◌, ◌++◌, map}
use Rattle.hm_base.specs.declared.ops.Op.{Op}
use Rattle.hm_history.specs.Memory.Words.{writable}
use Rattle.hm_history.specs.Memory.Plain.{is_read_write, rights_of, mirror_dev, mirror_proc}
use Rattle.hm_history.specs.Memory.After.{After}
use Rattle.hm_history.specs.Kernel.Operation.{op_mirror, is_migration, is_to_device}
use Rattle.hm_history.specs.Kernel.Stacks.{after_migration}
use Rattle.hm_history.specs.Kernel.Going.{recorded_at, coming, coming_page}
use Rattle.hm_history.specs.declared.Kind.{Kind}
use Rattle.hm_history.specs.declared.phases.Migrating.{Migrating}
use Rattle.hm_history.specs.declared.phases.MoveStep.{MoveStep}
use Rattle.hm_history.specs.declared.phases.Phase.{Phase}
use Rattle.hm_laws.proofs.Migration.Good.{seen_moves}
use Rattle.hm_protocol.specs.declared.events.Event.{Event}
use Rattle.hm_protocol.specs.Projection.{events_by, comes_to, set_up, is_start, is_up_to_commits, is_past_commits}
use Rattle.hm_protocol.specs.Projection.{collected, pages_of}
use Rattle.hm_protocol.proofs.MigrationViews.{View, set_up_view}
use Rattle.hm_protocol.proofs.StillEvents.{is_still, AllBe, Comes, one_more, no_more, and_on, still_all, be_if}
use Rattle.hm_protocol.proofs.Sitting.{Good, One, Stay, AllOf, Stays, Sits, gone_by, is_later}
use Rattle.hm_protocol.proofs.Homing.{Judges, Leads, still_of}
use Rattle.hm_protocol.proofs.StaysOn.{one_map, good_on}

-- all pages that moved were committed, if the entry is past that
abbrev pub paged_at : After → Op → MoveStep → ℕ → Option (MoveStep × Migrating) → List Event
paged_at s o step v r = if is_up_to_commits (Phase.Moves step v) && is_past_commits r
    then Event.Paged (mirror_proc s.plain (op_mirror o)) ∷ [] else []

-- an entry by what the step has come to
pub by_came : (wrong : List View → Event → Bool) (s u : After) (a : ℕ) (o : Op) (xs : List Migrating) (step : MoveStep)
    (v : ℕ) (below : List Phase) (after : Phase) (k : Kind) (r : Option (MoveStep × Migrating)) (es : List Event)
    (vs us ws : List View) → coming s o xs (Phase.Moves step v) ≡ r → is_migration o ≡ true
    → events_by s u a o xs (Phase.Moves step v ∷ below) after k ≡ es
    → Comes wrong vs (set_up s o xs (Phase.Moves step v) k ++ paged_at s o step v r) us → Comes wrong us es ws
    → Sits o (recorded_at (coming_page r) xs k)
    (after_migration step (coming_page r) k (seen_moves s o step v (coming_page r) k)) ws
    → Leads wrong s u a o xs (Phase.Moves step v) below after k vs
by_came wrong s u a o xs step v below after k r es vs us ws e m ee first then_ sits = (
  ws,
  subst (λ fs. Comes wrong vs (fs ++ events_by s u a o xs (Phase.Moves step v ∷ below) after k) ws) (sym before)
      (and_on wrong vs us ws (set_up s o xs (Phase.Moves step v) k ++ paged_at s o step v r) _ first
      (subst (λ es. Comes wrong us es ws) (sym ee) then_)),
  subst (λ r. Sits o (recorded_at (coming_page r) xs k)
      (after_migration step (coming_page r) k (seen_moves s o step v (coming_page r) k)) ws) (sym e) sits,
)
  where
    before : comes_to s o xs (Phase.Moves step v) k ≡ set_up s o xs (Phase.Moves step v) k ++ paged_at s o step v r
    before = ap (λ b. if b then set_up s o xs (Phase.Moves step v) k ++ paged_at s o step v
        (coming s o xs (Phase.Moves step v)) else []) m
        ∙ ap (λ r. set_up s o xs (Phase.Moves step v) k ++ paged_at s o step v r) e

paged_still : (s : After) (o : Op) (step : MoveStep) (v : ℕ) (r : Option (MoveStep × Migrating))
    → AllBe is_still (paged_at s o step v r)
paged_still s o step v r = be_if is_still (is_up_to_commits (Phase.Moves step v) && is_past_commits r)
    (Event.Paged (mirror_proc s.plain (op_mirror o)) ∷ []) [] (refl, tt) tt

-- ---- the set-up

-- pages that are collected are no pages that stayed
abbrev pub Clear : Op → View → Type 0
Clear o y = (y.to_device ≡ is_to_device o) × (y.stayed ≡ [])

collected_all : (wrong : List View → Event → Bool) → Judges wrong → (s : After) (p : ℕ) (ys : List Migrating) (y : View)
    → (z : View) × Comes wrong (y ∷ []) (map (collected s p) ys) (z ∷ []) × (z.to_device ≡ y.to_device)
    × (z.stayed ≡ y.stayed)
collected_all wrong j s p [] y = (y, no_more wrong (y ∷ []), refl, refl)
collected_all wrong j s p (x ∷ ys) y =
    let w : Bool = elim x.source [
      | None ↦ is_read_write (rights_of s.plain p x.page)
      | Some f ↦ writable
          (s.places.place p x.page)
    ] in
    let one : View = record y { source = (x.page, w) ∷ y.source } in
    let z : (z : View) × Comes wrong (one ∷ []) (map (collected s p) ys) (z ∷ []) × (z.to_device ≡ one.to_device)
    × (z.stayed ≡ one.stayed) =
    collected_all wrong j s p ys one in (
      z.0,
      one_more wrong (y ∷ []) (one ∷ []) (z.0 ∷ []) (collected s p x) (map (collected s p) ys)
          (j.only (y ∷ []) (collected s p x) refl) refl z.1,
      z.2,
      z.3,
    )

reach_first : (wrong : List View → Event → Bool) → Judges wrong → (s : After) (o : Op) (xs : List Migrating) (v : ℕ)
    (k : Kind) (r : Option (MoveStep × Migrating)) → is_start k ≡ false
    → (us : List View) × Comes wrong [] (set_up s o xs (Phase.Moves MoveStep.FreezeOthers v) k ++ paged_at s o
    MoveStep.FreezeOthers v r) us
    × One (Clear o) us
reach_first wrong j s o xs v k r e = by_bool (is_start k) e
  where
    p : ℕ
    p = mirror_proc s.plain (op_mirror o)

    by_bool : (b : Bool) → b ≡ false → (us : List View) × Comes wrong [] ((if b then [] else
        Event.Setup (mirror_proc s.plain (op_mirror o)) (pages_of o) (is_to_device o)
        (Some (mirror_dev s.plain (op_mirror o)))
        ∷ map (collected s (mirror_proc s.plain (op_mirror o))) xs ++ Event.Ready (mirror_proc s.plain (op_mirror o)) ∷
        [])
        ++ paged_at s o MoveStep.FreezeOthers v r) us × One (Clear o) us
    by_bool true g = absurd (true≢false g)
    by_bool false g =
        let z : (z : View) × Comes wrong (set_up_view (is_to_device o) ∷ [])
        (map (collected s (mirror_proc s.plain (op_mirror o))) xs) (z ∷ [])
        × (z.to_device ≡ is_to_device o) × (z.stayed ≡ []) =
        collected_all wrong j s (mirror_proc s.plain (op_mirror o)) xs (set_up_view (is_to_device o)) in (
          z.0 ∷ [],
          and_on wrong [] (z.0 ∷ []) (z.0 ∷ []) _ _
              (one_more wrong [] (set_up_view (is_to_device o) ∷ []) (z.0 ∷ []) _ _ (j.none _) refl
              (and_on wrong (set_up_view (is_to_device o) ∷ []) (z.0 ∷ []) (z.0 ∷ [])
              (map (collected s (mirror_proc s.plain (op_mirror o))) xs)
              (Event.Ready (mirror_proc s.plain (op_mirror o)) ∷ []) z.1
              (still_all wrong (still_of wrong j) (z.0 ∷ []) (Event.Ready (mirror_proc s.plain (op_mirror o)) ∷ [])
              (refl, tt))))
              (still_all wrong (still_of wrong j) (z.0 ∷ []) (paged_at s o MoveStep.FreezeOthers v r)
              (paged_still s o MoveStep.FreezeOthers v r)),
          (z.2, z.3),
        )

reach_later : (wrong : List View → Event → Bool) → Judges wrong → (s : After) (o : Op) (xs : List Migrating)
    (step : MoveStep)
    (v : ℕ) (r : Option (MoveStep × Migrating)) (later : MoveStep) (w : ℕ) (vs : List View)
    → ((u : ℕ) → gone_by step v u ≡ true → gone_by later w u ≡ true) → One (Good o xs step v []) vs
    → (us : List View) × Comes wrong vs (paged_at s o step v r) us × One (Good o xs later w []) us
reach_later wrong j s o xs step v r later w vs f h = (
  vs,
  still_all wrong (still_of wrong j) vs (paged_at s o step v r) (paged_still s o step v r),
  one_map (Good o xs step v []) (Good o xs later w []) (λ y. good_on o xs xs step v later w [] [] y y refl refl
      (λ u e. (f u e, λ m. m)) (λ g e. e)) vs h,
)

-- what is seen of the migration when it comes to a record, or to the end
pub reach : (wrong : List View → Event → Bool) → Judges wrong → (s : After) (o : Op) (xs : List Migrating)
    (step : MoveStep)
    (v : ℕ) (k : Kind) (r : Option (MoveStep × Migrating)) (later : MoveStep) (w : ℕ) (vs : List View)
    → (is_later step ≡ false → is_start k ≡ false)
    → ((u : ℕ) → gone_by step v u ≡ true → gone_by later w u ≡ true) → Stays o xs step v vs
    → (us : List View) × Comes wrong vs (set_up s o xs (Phase.Moves step v) k ++ paged_at s o step v r) us
    × One (Good o xs later w []) us
reach wrong j s o xs MoveStep.FreezeOthers v k r later w vs n f h =
    let z : (us : List View) × Comes wrong [] (set_up s o xs (Phase.Moves MoveStep.FreezeOthers v) k ++ paged_at s o
    MoveStep.FreezeOthers v r) us
    × One (Clear o) us = reach_first wrong j s o xs v k r (n refl) in (
      z.0,
      subst (λ vs. Comes wrong vs (set_up s o xs (Phase.Moves MoveStep.FreezeOthers v) k ++ paged_at s o
          MoveStep.FreezeOthers v r) z.0) (sym h) z.1,
      one_map (Clear o) (Good o xs later w []) (λ y e. (e.0, subst (AllOf (Stay o xs later w y.freed)) (sym e.1) tt))
          z.0 z.2,
    )
reach wrong j s o xs MoveStep.TakeAndCopy v k r later w vs n f h = reach_later wrong j s o xs MoveStep.TakeAndCopy v r
    later w vs f h
reach wrong j s o xs MoveStep.Commit v k r later w vs n f h = reach_later wrong j s o xs MoveStep.Commit v r later w vs
    f h
reach wrong j s o xs MoveStep.SetOwnTable v k r later w vs n f h = reach_later wrong j s o xs MoveStep.SetOwnTable v r
    later w vs f h
reach wrong j s o xs MoveStep.Finish v k r later w vs n f h = reach_later wrong j s o xs MoveStep.Finish v r later w vs
    f h
