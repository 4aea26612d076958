-- The entries of a migration between its set-up and its end: they leave areas alone, and place only fresh pages.
use Rattle.std.proofs.Common.{refl, ap, sym, subst, ◌∙◌, inl, inr}
use Rattle.std.proofs.lemmas.Bool.{false≢true}
use Rattle.std.specs.Prelude.{◌≡◌, ◌⊎◌, ℕ, ◌+◌, Bool, true, false, nat_lt, if◌then◌else◌, Option, Some}
use Rattle.std.specs.Prelude.{None}
use Rattle.std.specs.Prelude.{List, [], ◌∷◌}
use Rattle.hm_base.specs.Pages.{Pages}
use Rattle.hm_base.specs.Program.{Program}
use Rattle.hm_base.specs.declared.Frame.{Frame}
use Rattle.hm_base.specs.declared.Place.{Place}
use Rattle.hm_base.specs.declared.ops.Op.{Op}
use Rattle.hm_history.specs.Memory.Words.{place_in}
use Rattle.hm_history.specs.Memory.Plain.{rights_of, is_read_write}
use Rattle.hm_history.specs.Memory.After.{After}
use Rattle.hm_history.specs.Kernel.Stacks.{after_top, after_finish}
use Rattle.hm_history.specs.Kernel.Going.{recorded, seen_at, with_record}
use Rattle.hm_history.specs.Kernel.Due.{due_phase, due_guard, to_tell, body_or_end}
use Rattle.hm_history.specs.Kernel.Due.{due_body, has_no_frame}
use Rattle.hm_history.specs.declared.Kind.{Kind}
use Rattle.hm_history.specs.declared.phases.Body.{Body}
use Rattle.hm_history.specs.declared.phases.Migrating.{Migrating}
use Rattle.hm_history.specs.declared.phases.MoveStep.{MoveStep}
use Rattle.hm_history.specs.declared.phases.Next.TheVariants.{Do}
use Rattle.hm_history.specs.declared.phases.Phase.{Phase}
use Rattle.hm_history.proofs.Tests.{no_test}
use Rattle.hm_laws.specs.Past.{Past}
use Rattle.hm_laws.specs.Facts.{HoldsAll, facts}
use Rattle.hm_laws.specs.Records.{Among, WellListed, has_fresh}
use Rattle.hm_laws.proofs.Migration.Records.{with_among, one_of_page, fresh_found}
use Rattle.hm_protocol.proofs.Sitting.{is_later}
use Rattle.hm_protocol.proofs.Homing.{due_is}
use Rattle.hm_protocol.proofs.Rights.{is_mild, Places_fresh, Sourced, is_between, between}

-- ---- records

pub same_records : (xs : List Migrating) → Sourced xs xs
same_records xs z i = (z, i, refl, refl)

pub with_same : (xs : List Migrating) (x y : Migrating) → Among xs x → y.page ≡ x.page → y.source ≡ x.source
    → Sourced xs (with_record y xs)
with_same xs x y i p q z j = by_page (with_among y xs z j)
  where
    by_page : ((z ≡ y) × ((w : Migrating) × Among xs w × (w.page ≡ y.page))) ⊎ (Among xs z × (z.page ≡ y.page → ⊥))
        → (w : Migrating) × Among xs w × (w.page ≡ z.page) × (w.source ≡ z.source)
    by_page (inl e) = (
      x,
      i,
      sym p ∙ ap (λ (w : Migrating). w.page) (sym e.0),
      sym q ∙ ap (λ (w : Migrating). w.source) (sym e.0),
    )
    by_page (inr e) = (z, e.0, refl, refl)

-- ---- above a migration's step

-- what an entry there is
pub record Mildly (s : After) (o : Op) (xs : List Migrating) (top : Phase) (step : MoveStep) (v : ℕ) (k : Kind) : Type
    0 where
  pub mild : is_mild k ≡ true
  pub fresh : Places_fresh xs k
  pub same : Sourced xs (recorded top (seen_at s o xs top k).page xs k)
  pub stays : between (after_top o top (Phase.Moves step v ∷ []) k (seen_at s o xs top k)) ≡ true
      → is_between step ≡ true

pub nothing_mild : (s : After) (a : ℕ) (o : Op) (xs : List Migrating) (q : ℕ) (r : Pages) (met : Bool) (told : Option ℕ)
    (step : MoveStep) (v : ℕ) (k : Kind) → due_guard s a o q r met told Body.Nothing ≡ k
    → Mildly s o xs (Phase.Guard q r met told Body.Nothing) step v k
nothing_mild s a o xs q r met told step v k e = subst (Mildly s o xs (Phase.Guard q r met told Body.Nothing) step v) e
    (by_told (to_tell s q r met told))
  where
    by_told : (x : Option ℕ) → Mildly s o xs (Phase.Guard q r met told Body.Nothing) step v (elim x as (λ x. Kind) [
      | Some m ↦ Kind.Told m r (s.sequences.seq q)
      | None ↦ body_or_end s q r (due_body s a o q r (s.places.place q r.first) Body.Nothing)
    ])
    by_told (Some m) = record { mild = refl; fresh = tt; same = same_records xs; stays = λ e. e }
    by_told None = record { mild = refl; fresh = tt; same = same_records xs; stays = λ e. e }

pub fresh_mild : (s : After) (a : ℕ) (o : Op) (xs : List Migrating) (q : ℕ) (r : Pages) (met : Bool) (told : Option ℕ)
    (g : Frame)
    (v : ℕ) (k : Kind) → WellListed xs → has_fresh r.first g xs ≡ true → due_guard s a o q r met told (Body.Fresh g) ≡ k
    → Mildly s o xs (Phase.Guard q r met told (Body.Fresh g)) MoveStep.Commit v k
fresh_mild s a o xs q r met told g v k w h e = subst (Mildly s o xs (Phase.Guard q r met told (Body.Fresh g))
    MoveStep.Commit v) e
    (by_told (to_tell s q r met told))
  where
    y : (y : Migrating) × Among xs y × (y.page ≡ r.first) × (y.source ≡ None) × (y.dest ≡ Some g) × (y.moved ≡ false)
    y = fresh_found r.first g xs h

    by_room : (b : Bool) → Mildly s o xs (Phase.Guard q r met told (Body.Fresh g)) MoveStep.Commit v
        (body_or_end s q r (elim b as (λ b. Option Kind) [
          | true ↦ Some (Kind.Place q r.first (place_in g (is_read_write (rights_of s.plain q r.first))))
          | false ↦ None
        ]))
    by_room true = record {
      mild = refl;
      fresh = λ x i e. ap (λ (x : Migrating). x.source) (one_of_page xs x (fresh_found r.first g xs h).0 w i
          (fresh_found r.first g xs h).1 (e ∙ sym (fresh_found r.first g xs h).2))
          ∙ (fresh_found r.first g xs h).3;
      same = with_same xs (fresh_found r.first g xs h).0
          (record { page = r.first; source = None; dest = Some g; moved = true })
          (fresh_found r.first g xs h).1 (sym (fresh_found r.first g xs h).2) (sym (fresh_found r.first g xs h).3);
      stays = λ e. refl;
    }
    by_room false = record { mild = refl; fresh = tt; same = same_records xs; stays = λ e. refl }

    by_told : (x : Option ℕ) → Mildly s o xs (Phase.Guard q r met told (Body.Fresh g)) MoveStep.Commit v
        (elim x as (λ x. Kind) [
          | Some m ↦ Kind.Told m r (s.sequences.seq q)
          | None ↦ body_or_end s q r (due_body s a o q r (s.places.place q r.first) (Body.Fresh g))
        ])
    by_told (Some m) = record { mild = refl; fresh = tt; same = same_records xs; stays = λ e. refl }
    by_told None = by_room (has_no_frame (s.places.place q r.first))

copy_mild : (s : After) (o : Op) (xs : List Migrating) (f g : Frame) (n : ℕ) (step : MoveStep) (v : ℕ)
    → Mildly s o xs (Phase.Copy f g n) step v (Kind.Copied f g (Some n))
copy_mild s o xs f g n step v = record
    { mild = refl; fresh = tt; same = same_records xs; stays = by_bool (nat_lt n 7) }
  where
    by_bool : (b : Bool) → between (if b then Phase.Copy f g (n + 1) ∷ Phase.Moves step v ∷ [] else Phase.Moves step v
        ∷ []) ≡ true
        → is_between step ≡ true
    by_bool true e = e
    by_bool false e = e

pub over_mild : (c : Program) (s : After) (t : Past) (a : ℕ) (o : Op) (xs : List Migrating) (top : Phase)
    (step : MoveStep) (v : ℕ)
    (k : Kind) → is_between step ≡ true → HoldsAll s t a (facts o xs (top ∷ Phase.Moves step v ∷ []))
    → due_phase c s a o xs top ≡ Do k → Mildly s o xs top step v k
over_mild c s t a o xs (Phase.Guard q r met told (Body.Select n)) MoveStep.FreezeOthers v k l h d = absurd
    (false≢true l)
over_mild c s t a o xs (Phase.Guard q r met told (Body.Select n)) step v k l h d = no_test h.1.1.1.0
over_mild c s t a o xs (Phase.Guard q r met told (Body.Freeze f)) MoveStep.FreezeOthers v k l h d = absurd
    (false≢true l)
over_mild c s t a o xs (Phase.Guard q r met told (Body.Freeze f)) step v k l h d = no_test h.1.1.1.0
over_mild c s t a o xs (Phase.Guard q r met told Body.Nothing) step v k l h d =
    nothing_mild s a o xs q r met told step v k (due_is _ k d)
over_mild c s t a o xs (Phase.Guard q r met told (Body.Fresh f)) MoveStep.Commit v k l h d =
    fresh_mild s a o xs q r met told f v k h.1.1.1.1.1.1.1.1.1.1.1.0 h.1.1.1.1.1.0 (due_is _ k d)
over_mild c s t a o xs (Phase.Guard q r met told (Body.Fresh f)) step v k l h d = no_test h.1.1.1.0
over_mild c s t a o xs (Phase.Guard q r met told (Body.Catch f)) step v k l h d = absurd h.1.1.1.1.0
over_mild c s t a o xs (Phase.Copy f g n) step v k l h d =
    subst (Mildly s o xs (Phase.Copy f g n) step v) (due_is _ k d) (copy_mild s o xs f g n step v)
over_mild c s t a o xs (Phase.Lost n f) step v k l h d = subst (Mildly s o xs (Phase.Lost n f) step v) (due_is _ k d)
    (record { mild = refl; fresh = tt; same = same_records xs; stays = λ e. e })
over_mild c s t a o xs (Phase.Drop f) step v k l h d = subst (Mildly s o xs (Phase.Drop f) step v) (due_is _ k d)
    (record { mild = refl; fresh = tt; same = same_records xs; stays = λ e. e })
over_mild c s t a o xs (Phase.Finish f None) MoveStep.Finish v k l h d = absurd (false≢true l)
over_mild c s t a o xs (Phase.Finish f None) step v k l h d = no_test h.1.1.1.1.0
over_mild c s t a o xs (Phase.Finish f (Some g)) MoveStep.Finish v k l h d = absurd (false≢true l)
over_mild c s t a o xs (Phase.Finish f (Some g)) step v k l h d = no_test h.1.1.1.1.0
over_mild c s t a o xs (Phase.Settle g) MoveStep.Finish v k l h d = absurd (false≢true l)
over_mild c s t a o xs (Phase.Settle g) step v k l h d = no_test h.1.1.1.1.0
over_mild c s t a o xs (Phase.Emptying f at) step v k l h d = absurd h.1.1.1.0
over_mild c s t a o xs (Phase.Copied f g) step v k l h d = absurd h.1.1.1.1.0
over_mild c s t a o xs (Phase.Taken touch f Place.Zero) step v k l h d = absurd h.0
over_mild c s t a o xs (Phase.Taken touch f over) step v k l h d = absurd h.0
over_mild c s t a o xs top step v k l h d = absurd h.0

pub finish_stays : (f : Frame) (to : Option Frame) (step : MoveStep) (v : ℕ) (k : Kind)
    → between (after_finish f to (Phase.Moves step v ∷ []) k) ≡ true → is_between step ≡ true
finish_stays f to step v (Kind.Place p n x) e = e
finish_stays f (Some g) step v (Kind.Drop h) e = e
finish_stays f None step v (Kind.Drop h) e = e
finish_stays f to step v k e = e

-- above a step an actor comes to no other step
pub over_stays : (c : Program) (s : After) (t : Past) (a : ℕ) (o : Op) (xs : List Migrating) (top : Phase)
    (step : MoveStep) (v : ℕ)
    (k : Kind) → is_later step ≡ true → HoldsAll s t a (facts o xs (top ∷ Phase.Moves step v ∷ []))
    → due_phase c s a o xs top ≡ Do k
    → between (after_top o top (Phase.Moves step v ∷ []) k (seen_at s o xs top k)) ≡ true → is_between step ≡ true
over_stays c s t a o xs (Phase.Guard q r met told (Body.Select n)) MoveStep.FreezeOthers v k l h d e = absurd
    (false≢true l)
over_stays c s t a o xs (Phase.Guard q r met told (Body.Select n)) step v k l h d e = no_test h.1.1.1.0
over_stays c s t a o xs (Phase.Guard q r met told (Body.Freeze f)) MoveStep.FreezeOthers v k l h d e = absurd
    (false≢true l)
over_stays c s t a o xs (Phase.Guard q r met told (Body.Freeze f)) step v k l h d e = no_test h.1.1.1.0
over_stays c s t a o xs (Phase.Guard q r met told Body.Nothing) step v k l h d e =
    (nothing_mild s a o xs q r met told step v k (due_is _ k d)).stays e
over_stays c s t a o xs (Phase.Guard q r met told (Body.Fresh f)) MoveStep.Commit v k l h d e = refl
over_stays c s t a o xs (Phase.Guard q r met told (Body.Fresh f)) step v k l h d e = no_test h.1.1.1.0
over_stays c s t a o xs (Phase.Guard q r met told (Body.Catch f)) step v k l h d e = absurd h.1.1.1.1.0
over_stays c s t a o xs (Phase.Copy f g n) step v k l h d e =
    (subst (Mildly s o xs (Phase.Copy f g n) step v) (due_is _ k d) (copy_mild s o xs f g n step v)).stays e
over_stays c s t a o xs (Phase.Lost n f) step v k l h d e = e
over_stays c s t a o xs (Phase.Drop f) step v k l h d e = e
over_stays c s t a o xs (Phase.Finish f to) step v k l h d e = finish_stays f to step v k e
over_stays c s t a o xs (Phase.Settle g) step v k l h d e = e
over_stays c s t a o xs (Phase.Emptying f at) step v k l h d e = absurd h.1.1.1.0
over_stays c s t a o xs (Phase.Copied f g) step v k l h d e = absurd h.1.1.1.1.0
over_stays c s t a o xs (Phase.Taken touch f Place.Zero) step v k l h d e = absurd h.0
over_stays c s t a o xs (Phase.Taken touch f over) step v k l h d e = absurd h.0
over_stays c s t a o xs top step v k l h d e = absurd h.0
