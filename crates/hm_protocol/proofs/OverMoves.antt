-- An entry of an actor at a phase above a migration's step: a page that stays is noted, and then its frame is freed.
use Rattle.std.proofs.Common.{refl, subst}
use Rattle.std.proofs.lemmas.Bool.{false≢true}
use Rattle.std.specs.Prelude.{◌≡◌, ℕ, Bool, true, false, if◌then◌else◌}
use Rattle.std.specs.Prelude.{Option, Some, None, List, [], ◌∷◌}
use Rattle.hm_base.specs.Pages.{Pages}
use Rattle.hm_base.specs.Program.{Program}
use Rattle.hm_base.specs.declared.Frame.{Frame}
use Rattle.hm_base.specs.declared.ops.Op.{Op}
use Rattle.hm_history.specs.Memory.Sequences.{seq_ended, interval_seq}
use Rattle.hm_history.specs.Memory.Locks.{orphan}
use Rattle.hm_history.specs.Memory.After.{After}
use Rattle.hm_history.specs.Kernel.Stacks.{after_guard, told_mirror, is_end, dropping}
use Rattle.hm_history.specs.Kernel.Stacks.{body_next}
use Rattle.hm_history.specs.Kernel.Going.{op_at, going_on, recorded, seen_at}
use Rattle.hm_history.specs.Kernel.Due.{due_guard, to_tell}
use Rattle.hm_history.specs.Kernel.Due.{body_or_end, due_body}
use Rattle.hm_history.specs.declared.Kind.{Kind}
use Rattle.hm_history.specs.declared.phases.Body.{Body}
use Rattle.hm_history.specs.declared.phases.Migrating.{Migrating}
use Rattle.hm_history.specs.declared.phases.MoveStep.{MoveStep}
use Rattle.hm_history.specs.declared.phases.Phase.{Phase}
use Rattle.hm_laws.specs.Past.{Past}
use Rattle.hm_laws.specs.Facts.{Never, HoldsAll, Knows, facts, facts_of}
use Rattle.hm_protocol.specs.declared.events.Event.{Event}
use Rattle.hm_protocol.specs.Projection as project
use Rattle.hm_protocol.specs.Projection.{events_by}
use Rattle.hm_protocol.proofs.Entries.{events_at}
use Rattle.hm_protocol.proofs.Stands.{is_moves}
use Rattle.hm_protocol.proofs.MigrationViews.{View}
use Rattle.hm_protocol.proofs.StillEvents.{is_still, AllBe, Comes, still_all, both_be}
use Rattle.hm_protocol.proofs.StillEvents.{none_all, erased_be, all_erased_be}
use Rattle.hm_protocol.proofs.EntryEvents.{by_none}
use Rattle.hm_protocol.proofs.Sitting.{Stays, Sits}
use Rattle.hm_protocol.proofs.Homing.{Judges, Leads, just_by, still_of}

pub still_over : (wrong : List View → Event → Bool) → Judges wrong → (s u : After) (a : ℕ) (o : Op)
    (xs : List Migrating)
    (top : Phase) (below : List Phase) (after : Phase) (k : Kind) (vs : List View) → is_moves top ≡ false
    → AllBe is_still (events_by s u a o xs (top ∷ below) after k)
    → Comes wrong vs (events_at s u a o xs (top ∷ below) after k) vs
still_over wrong j s u a o xs top below after k vs n h =
    just_by wrong s u a o xs top below after k vs vs n (still_all wrong (still_of wrong j) vs _ h)

pub told_still : (s u : After) (a : ℕ) (o : Op) (xs : List Migrating) (stack : List Phase) (after : Phase) (m z : ℕ)
    (r : Pages)
    → AllBe is_still (events_by s u a o xs stack after (Kind.Told m r z))
told_still s u a o xs stack after m z r = (
  refl,
  both_be is_still (project.erased s u m) (Event.Told m (interval_seq u.sequences m) true ∷ [])
      (erased_be is_still (λ m v. refl) s u m) (refl, tt),
)

-- ---- a guard that does nothing more

pub nothing_on : (wrong : List View → Event → Bool) → Judges wrong → (s u : After) (a : ℕ) (o : Op)
    (xs : List Migrating)
    (q : ℕ) (r : Pages) (met : Bool) (told : Option ℕ) (step : MoveStep) (v : ℕ) (after : Phase) (k : Kind)
    (vs : List View)
    → due_guard s a o q r met told Body.Nothing ≡ k → Stays o xs step v vs
    → Leads wrong s u a o xs (Phase.Guard q r met told Body.Nothing) (Phase.Moves step v ∷ []) after k vs
nothing_on wrong j s u a o xs q r met told step v after k vs e h = subst
    (λ k. Leads wrong s u a o xs (Phase.Guard q r met told Body.Nothing) (Phase.Moves step v ∷ []) after k vs) e
    (by_told (to_tell s q r met told))
  where
    by_told : (x : Option ℕ) → Leads wrong s u a o xs (Phase.Guard q r met told Body.Nothing) (Phase.Moves step v ∷ [])
        after
        (elim x as (λ x. Kind) [
          | Some m ↦ Kind.Told m r (s.sequences.seq q)
          | None ↦ body_or_end s q r (due_body s a o q r (s.places.place q r.first) Body.Nothing)
        ]) vs
    by_told (Some m) = (
      vs,
      still_over wrong j s u a o xs (Phase.Guard q r met told Body.Nothing) (Phase.Moves step v ∷ []) after
          (Kind.Told m r (s.sequences.seq q)) vs refl
          (told_still s u a o xs (Phase.Guard q r met told Body.Nothing ∷ Phase.Moves step v ∷ []) after m
          (s.sequences.seq q) r),
      h,
    )
    by_told None = (
      vs,
      still_over wrong j s u a o xs (Phase.Guard q r met told Body.Nothing) (Phase.Moves step v ∷ []) after
          (Kind.End q r (seq_ended s.sequences q)) vs refl (refl, all_erased_be is_still (λ m v. refl) s u),
      h,
    )

-- ---- a guard that freezes, before the pages are collected

-- what an actor knows at a stack of phases that it comes to
abbrev pub Then : Program → After → Past → ℕ → ℕ → List Migrating → List Phase → Type 0
Then c s t a i xs stack = Knows c s t a (going_on c a i stack xs)

-- it comes to none of these
pub never_then : (c : Program) (s : After) (t : Past) (a i : ℕ) (o : Op) (xs : List Migrating) (top : Phase)
    (below : List Phase) → op_at c a i ≡ Some o → facts o xs (top ∷ below) ≡ Never ∷ []
    → Then c s t a i xs (top ∷ below) → ⊥
never_then c s t a i o xs top below e f h =
    (subst (HoldsAll s t a) f (subst (λ x. HoldsAll s t a (facts_of x xs (top ∷ below))) e h)).0

select_then : (c : Program) (s : After) (t : Past) (a i : ℕ) (o : Op) (xs : List Migrating) (q n : ℕ) (r : Pages)
    (met : Bool)
    (told : Option ℕ) (v : ℕ) → op_at c a i ≡ Some o → (x : Option Frame)
    → Then c s t a i xs (dropping x (Phase.Guard q r met told (Body.Select n) ∷ Phase.Moves MoveStep.FreezeOthers v ∷
    []))
    → Sits o xs (dropping x (Phase.Guard q r met told (Body.Select n) ∷ Phase.Moves MoveStep.FreezeOthers v ∷ [])) []
select_then c s t a i o xs q n r met told v e None h = refl
select_then c s t a i o xs q n r met told v e (Some f) h = absurd (never_then c s t a i o xs (Phase.Drop f)
    (Phase.Guard q r met told (Body.Select n) ∷ Phase.Moves MoveStep.FreezeOthers v ∷ []) e refl h)

pub nothing_then : (c : Program) (s : After) (t : Past) (a i : ℕ) (o : Op) (xs : List Migrating) (q : ℕ) (r : Pages)
    (met : Bool) (told : Option ℕ) (step : MoveStep) (v : ℕ) (vs : List View) → op_at c a i ≡ Some o
    → (x : Option Frame)
    → Stays o xs step v vs
    → Then c s t a i xs (dropping x (Phase.Guard q r met told Body.Nothing ∷ Phase.Moves step v ∷ []))
    → Sits o xs (dropping x (Phase.Guard q r met told Body.Nothing ∷ Phase.Moves step v ∷ [])) vs
nothing_then c s t a i o xs q r met told step v vs e None g h = g
nothing_then c s t a i o xs q r met told step v vs e (Some f) g h = absurd (never_then c s t a i o xs (Phase.Drop f)
    (Phase.Guard q r met told Body.Nothing ∷ Phase.Moves step v ∷ []) e refl h)

frozen_on : (wrong : List View → Event → Bool) → Judges wrong → (s u : After) (a : ℕ) (o : Op) (xs : List Migrating)
    (q : ℕ) (r : Pages) (met : Bool) (told : Option ℕ) (body : Body) (v : ℕ) (after : Phase) (k : Kind)
    → Sits o (recorded (Phase.Guard q r met told body) (seen_at s o xs (Phase.Guard q r met told body) k).page xs k)
    (after_guard o q r met told body (Phase.Moves MoveStep.FreezeOthers v ∷ []) k
    (seen_at s o xs (Phase.Guard q r met told body) k)) []
    → Leads wrong s u a o xs (Phase.Guard q r met told body) (Phase.Moves MoveStep.FreezeOthers v ∷ []) after k []
frozen_on wrong j s u a o xs q r met told body v after k h = (
  [],
  just_by wrong s u a o xs (Phase.Guard q r met told body) (Phase.Moves MoveStep.FreezeOthers v ∷ []) after k [] [] refl
      (none_all wrong j.none _ (by_none s u a o xs (Phase.Guard q r met told body ∷ Phase.Moves MoveStep.FreezeOthers v
      ∷ [])
      after k (λ b. absurd (false≢true b)))),
  h,
)

pub select_on : (wrong : List View → Event → Bool) → Judges wrong → (c : Program) (s u : After) (l : After) (t : Past)
    (a i : ℕ)
    (o : Op) (xs : List Migrating) (q : ℕ) (r : Pages) (met : Bool) (told : Option ℕ) (n v : ℕ) (after : Phase)
    (k : Kind)
    → op_at c a i ≡ Some o
    → Then c l t a i (recorded (Phase.Guard q r met told (Body.Select n))
    (seen_at s o xs (Phase.Guard q r met told (Body.Select n)) k).page xs k)
    (after_guard o q r met told (Body.Select n) (Phase.Moves MoveStep.FreezeOthers v ∷ []) k
    (seen_at s o xs (Phase.Guard q r met told (Body.Select n)) k))
    → Leads wrong s u a o xs (Phase.Guard q r met told (Body.Select n)) (Phase.Moves MoveStep.FreezeOthers v ∷ [])
    after k []
select_on wrong j c s u l t a i o xs q r met told n v after k e g = frozen_on wrong j s u a o xs q r met told
    (Body.Select n) v after k
    (by_told (recorded top (seen_at s o xs top k).page xs k) (orphan s.locks s.places k) (told_mirror k) (is_end k) g)
  where
    top : Phase
    top = Phase.Guard q r met told (Body.Select n)

    below : List Phase
    below = Phase.Moves MoveStep.FreezeOthers v ∷ []

    by_told : (zs : List Migrating) (y : Option Frame) (x : Option ℕ) (b : Bool)
        → Then c l t a i zs (elim x as (λ x. List Phase) [
          | Some m ↦ Phase.Guard q r met (Some m) (Body.Select n) ∷ Phase.Moves MoveStep.FreezeOthers v ∷ []
          | None ↦ if b then Phase.Moves MoveStep.FreezeOthers v ∷ [] else dropping y
              (Phase.Guard q r met told (body_next (Body.Select n) q k) ∷ Phase.Moves MoveStep.FreezeOthers v ∷ [])
        ]) → Sits o zs (elim x as (λ x. List Phase) [
          | Some m ↦ Phase.Guard q r met (Some m) (Body.Select n) ∷ Phase.Moves MoveStep.FreezeOthers v ∷ []
          | None ↦ if b then Phase.Moves MoveStep.FreezeOthers v ∷ [] else dropping y
              (Phase.Guard q r met told (body_next (Body.Select n) q k) ∷ Phase.Moves MoveStep.FreezeOthers v ∷ [])
        ]) []
    by_told zs y (Some m) b g = refl
    by_told zs y None true g = refl
    by_told zs y None false g = select_then c l t a i o zs q _ r met told v e y g

pub freeze_on : (wrong : List View → Event → Bool) → Judges wrong → (c : Program) (s u : After) (l : After) (t : Past)
    (a i : ℕ)
    (o : Op) (xs : List Migrating) (q : ℕ) (r : Pages) (met : Bool) (told : Option ℕ) (f : Frame) (v : ℕ)
    (after : Phase)
    (k : Kind) → op_at c a i ≡ Some o
    → Then c l t a i xs (after_guard o q r met told (Body.Freeze f) (Phase.Moves MoveStep.FreezeOthers v ∷ []) k
    (seen_at s o xs (Phase.Guard q r met told (Body.Freeze f)) k))
    → Leads wrong s u a o xs (Phase.Guard q r met told (Body.Freeze f)) (Phase.Moves MoveStep.FreezeOthers v ∷ [])
    after k []
freeze_on wrong j c s u l t a i o xs q r met told f v after k e g = frozen_on wrong j s u a o xs q r met told
    (Body.Freeze f) v after k
    (by_told (orphan s.locks s.places k) (told_mirror k) (is_end k) g)
  where
    by_told : (y : Option Frame) (x : Option ℕ) (b : Bool)
        → Then c l t a i xs (elim x as (λ x. List Phase) [
          | Some m ↦ Phase.Guard q r met (Some m) (Body.Freeze f) ∷ Phase.Moves MoveStep.FreezeOthers v ∷ []
          | None ↦ if b then Phase.Moves MoveStep.FreezeOthers v ∷ [] else dropping y
              (Phase.Guard q r met told Body.Nothing ∷ Phase.Moves MoveStep.FreezeOthers v ∷ [])
        ]) → Sits o xs (elim x as (λ x. List Phase) [
          | Some m ↦ Phase.Guard q r met (Some m) (Body.Freeze f) ∷ Phase.Moves MoveStep.FreezeOthers v ∷ []
          | None ↦ if b then Phase.Moves MoveStep.FreezeOthers v ∷ [] else dropping y
              (Phase.Guard q r met told Body.Nothing ∷ Phase.Moves MoveStep.FreezeOthers v ∷ [])
        ]) []
    by_told y (Some m) b g = refl
    by_told y None true g = refl
    by_told y None false g = nothing_then c l t a i o xs q r met told MoveStep.FreezeOthers v [] e y refl g
