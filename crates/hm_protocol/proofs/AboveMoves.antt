-- Every entry of an actor at a phase above a migration's step.
use Rattle.std.proofs.Common.{refl, sym, subst}
use Rattle.std.specs.Prelude.{◌≡◌, ℕ, Bool, true, if◌then◌else◌}
use Rattle.std.specs.Prelude.{Option, Some, None, List, [], ◌∷◌, ◌++◌, map}
use Rattle.hm_base.specs.Program.{Program}
use Rattle.hm_base.specs.declared.Frame.{Frame}
use Rattle.hm_base.specs.declared.Place.{Place}
use Rattle.hm_base.specs.declared.ops.Op.{Op}
use Rattle.hm_history.specs.Memory.Words.{writable, place_in}
use Rattle.hm_history.specs.Memory.Places.{lowest_moving, lowest_named}
use Rattle.hm_history.specs.Memory.After.{After}
use Rattle.hm_history.specs.Kernel.Operation.{is_migration}
use Rattle.hm_history.specs.Kernel.Stacks.{after_top}
use Rattle.hm_history.specs.Kernel.Going.{op_at, recorded, seen_at, touch_proc}
use Rattle.hm_history.specs.Kernel.Due.{due_phase, due_finish, settle, target_of}
use Rattle.hm_history.specs.declared.Kind.{Kind}
use Rattle.hm_history.specs.declared.phases.Body.{Body}
use Rattle.hm_history.specs.declared.phases.Migrating.{Migrating}
use Rattle.hm_history.specs.declared.phases.MoveStep.{MoveStep}
use Rattle.hm_history.specs.declared.phases.Next.TheVariants.{Do}
use Rattle.hm_history.specs.declared.phases.Phase.{Phase}
use Rattle.hm_history.proofs.Tests.{no_test}
use Rattle.hm_laws.specs.Past.{Past}
use Rattle.hm_laws.specs.Facts.{HoldsAll, facts}
use Rattle.hm_protocol.specs.declared.events.Event.{Event}
use Rattle.hm_protocol.specs.Projection.{in_trace, is_home, owner_of, if_device}
use Rattle.hm_protocol.proofs.MigrationViews.{View, freed_view}
use Rattle.hm_protocol.proofs.StillEvents.{Comes, one_more, no_more}
use Rattle.hm_protocol.proofs.Sitting.{Stays, Over}
use Rattle.hm_protocol.proofs.Homing.{Judges, Leads, just_by, due_is}
use Rattle.hm_protocol.proofs.OverMoves.{Then, nothing_on, select_on, freeze_on}
use Rattle.hm_protocol.proofs.LostMoves.{fresh_unmoved, fresh_on, lost_on, drop_on, copy_on}
use Rattle.hm_protocol.proofs.StaysOn.{stays_freed, given_by, none_over}

-- ---- pages return

ends_over : (wrong : List View → Event → Bool) → Judges wrong → (o : Op) (xs : List Migrating) (step : MoveStep)
    (v p : ℕ)
    (f : Frame) (vs : List View) → is_migration o ≡ true → Stays o xs step v vs
    → (ws : List View) × Comes wrong vs (if_device f (Event.Free (in_trace f)) ++
    (if is_home o then Event.Finalize p ∷ [] else [])) ws
    × Stays o xs step v ws
ends_over wrong j o xs step v p f vs m h = subst
    (λ es. (ws : List View) × Comes wrong vs (if_device f (Event.Free (in_trace f)) ++ es) ws × Stays o xs step v ws)
    (sym (none_over o p m)) (by_owner (owner_of f))
  where
    by_owner : (x : Option ℕ) → (ws : List View)
        × Comes wrong vs (elim x as (λ x. List Event) [ None ↦ [] | Some d ↦ Event.Free (in_trace f) ∷ [] ] ++ []) ws
        × Stays o xs step v ws
    by_owner None = (vs, no_more wrong vs, h)
    by_owner (Some d) = (
      map (freed_view (in_trace f)) vs,
      one_more wrong vs _ _ (Event.Free (in_trace f)) [] (j.only vs (Event.Free (in_trace f)) refl) refl
          (no_more wrong _),
      stays_freed o xs step v (in_trace f) vs h,
    )

done_over : (wrong : List View → Event → Bool) (o : Op) (p : ℕ) (vs : List View) → is_migration o ≡ true
    → Comes wrong vs (if is_home o then Event.Finalize p ∷ [] else []) vs
done_over wrong o p vs m = subst (λ es. Comes wrong vs es vs) (sym (none_over o p m)) (no_more wrong vs)

settle_over : (wrong : List View → Event → Bool) → Judges wrong → (s u : After) (a : ℕ) (o : Op) (xs : List Migrating)
    (g : Frame) (step : MoveStep) (v : ℕ) (after : Phase) (k : Kind) (vs : List View) → is_migration o ≡ true
    → settle s g ≡ k → Stays o xs step v vs
    → Leads wrong s u a o xs (Phase.Settle g) (Phase.Moves step v ∷ []) after k vs
settle_over wrong j s u a o xs g step v after k vs m e h =
    subst (λ k. Leads wrong s u a o xs (Phase.Settle g) (Phase.Moves step v ∷ []) after k vs) e
    (by_named (lowest_named s.places g))
  where
    by_named : (x : Option (ℕ × ℕ)) → Leads wrong s u a o xs (Phase.Settle g) (Phase.Moves step v ∷ []) after
        (elim x as (λ x. Kind) [ Some x ↦ Kind.Done g | None ↦ Kind.Drop g ]) vs
    by_named (Some x) = (
      vs,
      just_by wrong s u a o xs (Phase.Settle g) (Phase.Moves step v ∷ []) after (Kind.Done g) vs vs refl
          (done_over wrong o (touch_proc s o) vs m),
      h,
    )
    by_named None =
        let x : (ws : List View) × Comes wrong vs (if_device g (Event.Free (in_trace g)) ++
        (if is_home o then Event.Finalize (touch_proc s o) ∷ [] else [])) ws × Stays o xs step v ws =
        ends_over wrong j o xs step v (touch_proc s o) g vs m h in (
          x.0,
          just_by wrong s u a o xs (Phase.Settle g) (Phase.Moves step v ∷ []) after (Kind.Drop g) vs x.0 refl x.1,
          x.2,
        )

finish_over : (wrong : List View → Event → Bool) → Judges wrong → (s u : After) (a : ℕ) (o : Op) (xs : List Migrating)
    (f : Frame) (to : Option Frame) (step : MoveStep) (v : ℕ) (after : Phase) (k : Kind) (vs : List View)
    → is_migration o ≡ true → due_finish s f to ≡ k → Stays o xs step v vs
    → Leads wrong s u a o xs (Phase.Finish f to) (Phase.Moves step v ∷ []) after k vs
finish_over wrong j s u a o xs f to step v after k vs m e h =
    subst (λ k. Leads wrong s u a o xs (Phase.Finish f to) (Phase.Moves step v ∷ []) after k vs) e
    (by_moving (lowest_moving s.places f) to (lowest_named s.places f))
  where
    back : (to : Option Frame) (p n : ℕ) (x : Place)
        → Leads wrong s u a o xs (Phase.Finish f to) (Phase.Moves step v ∷ []) after (Kind.Place p n x) vs
    back to p n x = (
      vs,
      just_by wrong s u a o xs (Phase.Finish f to) (Phase.Moves step v ∷ []) after (Kind.Place p n x) vs vs refl
          (no_more wrong vs),
      h,
    )

    by_moving : (x : Option (ℕ × ℕ)) (to : Option Frame) (y : Option (ℕ × ℕ))
        → Leads wrong s u a o xs (Phase.Finish f to) (Phase.Moves step v ∷ []) after (elim x as (λ x. Kind) [
          | Some x ↦ Kind.Place x.0 x.1 (place_in (target_of f to) (writable (s.places.place x.0 x.1)))
          | None ↦ elim to as (λ x. Kind) [
            | None ↦ elim y as (λ x. Kind) [ Some x ↦ Kind.Done f | None ↦ Kind.Drop f ]
            | Some g ↦ Kind.Drop f
          ]
        ]) vs
    by_moving (Some x) to y = back to x.0 x.1 (place_in (target_of f to) (writable (s.places.place x.0 x.1)))
    by_moving None None (Some x) = (
      vs,
      just_by wrong s u a o xs (Phase.Finish f None) (Phase.Moves step v ∷ []) after (Kind.Done f) vs vs refl
          (done_over wrong o (touch_proc s o) vs m),
      h,
    )
    by_moving None None None =
        let x : (ws : List View) × Comes wrong vs (if_device f (Event.Free (in_trace f)) ++
        (if is_home o then Event.Finalize (touch_proc s o) ∷ [] else [])) ws × Stays o xs step v ws =
        ends_over wrong j o xs step v (touch_proc s o) f vs m h in (
          x.0,
          just_by wrong s u a o xs (Phase.Finish f None) (Phase.Moves step v ∷ []) after (Kind.Drop f) vs x.0 refl x.1,
          x.2,
        )
    by_moving None (Some g) y =
        let x : (ws : List View) × Comes wrong vs (if_device f (Event.Free (in_trace f)) ++
        (if is_home o then Event.Finalize (touch_proc s o) ∷ [] else [])) ws × Stays o xs step v ws =
        ends_over wrong j o xs step v (touch_proc s o) f vs m h in (
          x.0,
          just_by wrong s u a o xs (Phase.Finish f (Some g)) (Phase.Moves step v ∷ []) after (Kind.Drop f) vs x.0 refl
              (subst (λ es. Comes wrong vs (if_device f (Event.Free (in_trace f)) ++ es) x.0)
              (none_over o (touch_proc s o) m) x.1),
          x.2,
        )

-- ---- an entry at any of these phases

pub over_on : (wrong : List View → Event → Bool) → Judges wrong → (c : Program) (s u l : After) (t w : Past) (a i : ℕ)
    (o : Op)
    (xs : List Migrating) (top : Phase) (step : MoveStep) (v : ℕ) (after : Phase) (k : Kind) (vs : List View)
    → op_at c a i ≡ Some o → HoldsAll s t a (facts o xs (top ∷ Phase.Moves step v ∷ []))
    → due_phase c s a o xs top ≡ Do k
    → Then c l w a i (recorded top (seen_at s o xs top k).page xs k) (after_top o top (Phase.Moves step v ∷ []) k
    (seen_at s o xs top k))
    → Over o xs step top v vs → Leads wrong s u a o xs top (Phase.Moves step v ∷ []) after k vs
over_on wrong j c s u l t w a i o xs (Phase.Guard q r met told (Body.Select n)) MoveStep.FreezeOthers v after k vs e h
    d g m =
    subst (λ vs. Leads wrong s u a o xs (Phase.Guard q r met told (Body.Select n))
    (Phase.Moves MoveStep.FreezeOthers v ∷ []) after k vs) (sym m)
    (select_on wrong j c s u l w a i o xs q r met told n v after k e g)
over_on wrong j c s u l t w a i o xs (Phase.Guard q r met told (Body.Select n)) step v after k vs e h d g m = no_test
    h.1.1.1.0
over_on wrong j c s u l t w a i o xs (Phase.Guard q r met told (Body.Freeze f)) MoveStep.FreezeOthers v after k vs e h
    d g m =
    subst (λ vs. Leads wrong s u a o xs (Phase.Guard q r met told (Body.Freeze f))
    (Phase.Moves MoveStep.FreezeOthers v ∷ []) after k vs) (sym m)
    (freeze_on wrong j c s u l w a i o xs q r met told f v after k e g)
over_on wrong j c s u l t w a i o xs (Phase.Guard q r met told (Body.Freeze f)) step v after k vs e h d g m = no_test
    h.1.1.1.0
over_on wrong j c s u l t w a i o xs (Phase.Guard q r met told Body.Nothing) step v after k vs e h d g m =
    nothing_on wrong j s u a o xs q r met told step v after k vs (due_is _ k d) m
over_on wrong j c s u l t w a i o xs (Phase.Guard q r met told (Body.Fresh f)) MoveStep.Commit v after k vs e h d g m =
    fresh_on wrong j s u a o xs q r met told f v after k vs (due_is _ k d) h.1.1.1.1.0
    (fresh_unmoved xs r.first f h.1.1.1.1.1.1.1.1.1.1.1.0 h.1.1.1.1.1.0) (given_by s t a o f h.1.1.1.1.1.1.1.1.1.0) m
over_on wrong j c s u l t w a i o xs (Phase.Guard q r met told (Body.Fresh f)) step v after k vs e h d g m = no_test
    h.1.1.1.0
over_on wrong j c s u l t w a i o xs (Phase.Guard q r met told (Body.Catch f)) step v after k vs e h d g m = absurd
    h.1.1.1.1.0
over_on wrong j c s u l t w a i o xs (Phase.Copy f f' n) step v after k vs e h d g m =
    subst (λ k. Leads wrong s u a o xs (Phase.Copy f f' n) (Phase.Moves step v ∷ []) after k vs) (due_is _ k d)
    (copy_on wrong j s u a o xs f f' n step v after vs m)
over_on wrong j c s u l t w a i o xs (Phase.Lost n f) step v after k vs e h d g m =
    subst (λ k. Leads wrong s u a o xs (Phase.Lost n f) (Phase.Moves step v ∷ []) after k vs) (due_is _ k d)
    (lost_on wrong j s u a o xs n f step v after vs m)
over_on wrong j c s u l t w a i o xs (Phase.Drop f) step v after k vs e h d g m =
    subst (λ k. Leads wrong s u a o xs (Phase.Drop f) (Phase.Moves step v ∷ []) after k vs) (due_is _ k d)
    (drop_on wrong j s u a o xs f step v after vs m)
over_on wrong j c s u l t w a i o xs (Phase.Finish f None) step v after k vs e h d g m =
    finish_over wrong j s u a o xs f None step v after k vs h.1.1.1.1.1.1.0 (due_is _ k d) m
over_on wrong j c s u l t w a i o xs (Phase.Finish f (Some f')) step v after k vs e h d g m =
    finish_over wrong j s u a o xs f (Some f') step v after k vs h.1.1.1.1.1.1.0 (due_is _ k d) m
over_on wrong j c s u l t w a i o xs (Phase.Settle f) step v after k vs e h d g m =
    settle_over wrong j s u a o xs f step v after k vs h.1.1.1.1.1.1.0 (due_is _ k d) m
over_on wrong j c s u l t w a i o xs (Phase.Emptying f at) step v after k vs e h d g m = absurd h.1.1.1.0
over_on wrong j c s u l t w a i o xs (Phase.Copied f f') step v after k vs e h d g m = absurd h.1.1.1.1.0
over_on wrong j c s u l t w a i o xs (Phase.Taken touch f Place.Zero) step v after k vs e h d g m = absurd h.0
over_on wrong j c s u l t w a i o xs (Phase.Taken touch f over) step v after k vs e h d g m = absurd h.0
over_on wrong j c s u l t w a i o xs top step v after k vs e h d g m = absurd h.0
