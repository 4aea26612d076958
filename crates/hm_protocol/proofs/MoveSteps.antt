-- Each entry of a migration's step, at the record that it has come to: pages that stay are past their commits.
use Rattle.std.proofs.Common.{refl, ap, sym, subst, ◌∙◌}
use Rattle.std.proofs.lemmas.Bool.{false≢true}
use Rattle.std.specs.Prelude.{◌≡◌, ℕ, ◌+◌, Bool, true, false}
use Rattle.std.specs.Prelude.{Option, Some, None, is_some, List, [], ◌∷◌, ◌++◌}
use Rattle.hm_base.specs.Pages.{one_page}
use Rattle.hm_base.specs.declared.cause.Cause.{Cause}
use Rattle.hm_base.specs.Program.{Program}
use Rattle.hm_base.specs.declared.Frame.{Frame}
use Rattle.hm_base.specs.declared.ops.Op.{Op}
use Rattle.hm_history.specs.Memory.Places.{lowest_direct, lowest_free}
use Rattle.hm_history.specs.Memory.Sequences.{seq_started}
use Rattle.hm_history.specs.Memory.After.{After}
use Rattle.hm_history.specs.Kernel.Operation.{is_migration}
use Rattle.hm_history.specs.Kernel.Stacks.{copying, after_moves}
use Rattle.hm_history.specs.Kernel.Going.{with_record, coming, is_direct}
use Rattle.hm_history.specs.Kernel.Due.{pool_of, others_of, fetch_page, start_entry, skips}
use Rattle.hm_history.specs.declared.KeptAt.{KeptAt}
use Rattle.hm_history.specs.declared.KeptWhy.{KeptWhy}
use Rattle.hm_history.specs.declared.Kind.{Kind}
use Rattle.hm_history.specs.declared.phases.Migrating.{Migrating}
use Rattle.hm_history.specs.declared.phases.MoveStep.{MoveStep}
use Rattle.hm_history.specs.declared.phases.Phase.{Phase}
use Rattle.hm_history.proofs.Tests.{no_test}
use Rattle.hm_laws.proofs.Migration.Good.{seen_moves}
use Rattle.hm_protocol.specs.declared.events.Event.{Event}
use Rattle.hm_protocol.specs.Projection as project
use Rattle.hm_protocol.specs.Projection.{events_by, comes_to, set_up, is_start, is_up_to_commits, is_past_commits}
use Rattle.hm_protocol.specs.Projection.{collected, pages_of, in_trace, is_home, owner_of, if_device}
use Rattle.hm_protocol.proofs.MigrationViews.{View}
use Rattle.hm_protocol.proofs.StillEvents.{is_still, Comes, no_more, still_all}
use Rattle.hm_protocol.proofs.StillEvents.{be_there}
use Rattle.hm_protocol.proofs.Sitting.{Good, One, Stays, Sits, gone_by}
use Rattle.hm_protocol.proofs.Homing.{Judges, Leads, still_of}
use Rattle.hm_protocol.proofs.ReachedMoves.{paged_at, by_came, reach}
use Rattle.hm_protocol.proofs.StaysOn.{one_map, good_on}

kept_nothing : (s u : After) (a : ℕ) (o : Op) (xs : List Migrating) (step : MoveStep) (v n : ℕ) (after : Phase)
    (why : KeptWhy)
    (x : Migrating) → coming s o xs (Phase.Moves step v) ≡ Some (MoveStep.TakeAndCopy, x)
    → project.kept s o (Some x) (Phase.Moves step v ∷ []) (KeptAt.Page n) why ≡ []
    → events_by s u a o xs (Phase.Moves step v ∷ []) after (Kind.Kept (KeptAt.Page n) why) ≡ []
kept_nothing s u a o xs step v n after why x e h =
    ap (λ r. project.kept s o (project.record_at r) (Phase.Moves step v ∷ []) (KeptAt.Page n) why) e ∙ h

-- ---- other mappings are frozen

pub freeze_step : (wrong : List View → Event → Bool) → Judges wrong → (s u : After) (a : ℕ) (o : Op)
    (xs : List Migrating)
    (v : ℕ) (after : Phase) (vs : List View) (n : ℕ) (source dest : Option Frame) (moved : Bool)
    → coming s o xs (Phase.Moves MoveStep.FreezeOthers v) ≡ Some (
      MoveStep.FreezeOthers,
      record
          { page = n; source = source; dest = dest; moved = moved },
    )
    → is_migration o ≡ true → is_direct s source ≡ true → vs ≡ []
    → Leads wrong s u a o xs (Phase.Moves MoveStep.FreezeOthers v) [] after (others_of s source) vs
freeze_step wrong j s u a o xs v after vs n None dest moved e m d h = no_test d
freeze_step wrong j s u a o xs v after vs n (Some f) dest moved e m d h =
    subst (λ vs. Leads wrong s u a o xs (Phase.Moves MoveStep.FreezeOthers v) [] after (others_of s (Some f)) vs)
    (sym h)
    (by_direct (lowest_direct s.places f) d)
  where
    by_direct : (x : Option (ℕ × ℕ)) → is_some x ≡ true
        → Leads wrong s u a o xs (Phase.Moves MoveStep.FreezeOthers v) [] after (elim x as (λ x. Kind) [
          | Some x ↦ start_entry s x.0 (one_page x.1)
          | None ↦ Kind.Refused Cause.Never
        ]) []
    by_direct None d = no_test d
    by_direct (Some x) d = by_came wrong s u a o xs MoveStep.FreezeOthers v [] after
        (Kind.Start x.0 (one_page x.1) (seq_started s.sequences x.0 (one_page x.1)))
        (Some (MoveStep.FreezeOthers, record { page = n; source = Some f; dest = dest; moved = moved })) _ [] [] [] e m
        refl
        (no_more wrong []) (still_all wrong (still_of wrong j) [] (events_by s u a o xs
        (Phase.Moves MoveStep.FreezeOthers v ∷ []) after
        (Kind.Start x.0 (one_page x.1) (seq_started s.sequences x.0 (one_page x.1)))) (refl, tt)) refl

-- ---- a frame is taken, or none

pub take_step : (wrong : List View → Event → Bool) → Judges wrong → (c : Program) (s u : After) (a : ℕ) (o : Op)
    (xs : List Migrating)
    (step : MoveStep) (v : ℕ) (after : Phase) (vs : List View) (n : ℕ) (source dest : Option Frame) (moved : Bool)
    → coming s o xs (Phase.Moves step v) ≡ Some (
      MoveStep.TakeAndCopy,
      record
          { page = n; source = source; dest = dest; moved = moved },
    )
    → is_migration o ≡ true → ((u : ℕ) → gone_by step v u ≡ true → gone_by MoveStep.TakeAndCopy n u ≡ true)
    → Stays o xs step v vs
    → Leads wrong s u a o xs (Phase.Moves step v) [] after (fetch_page c s o n) vs
take_step wrong j c s u a o xs step v after vs n source dest moved e m f h =
    by_skip (skips c o n) (lowest_free c s.places (pool_of s o))
  where
    kept_so : (why : KeptWhy) → project.kept s o
        (Some (record { page = n; source = source; dest = dest; moved = moved })) (Phase.Moves step v ∷ [])
        (KeptAt.Page n) why ≡ []
        → ((ws : List View) → One (Good o xs MoveStep.TakeAndCopy (n + 1) []) ws
        → Sits o xs (after_moves MoveStep.TakeAndCopy
        (record { page = n; source = source; dest = dest; moved = moved }) (Kind.Kept (KeptAt.Page n) why)
        (seen_moves s o step v (Some (record { page = n; source = source; dest = dest; moved = moved }))
        (Kind.Kept (KeptAt.Page n) why))) ws)
        → Leads wrong s u a o xs (Phase.Moves step v) [] after (Kind.Kept (KeptAt.Page n) why) vs
    kept_so why nothing sits =
        let x : Migrating = record { page = n; source = source; dest = dest; moved = moved } in
        let z : (us : List View) × Comes wrong vs (set_up s o xs (Phase.Moves step v) (Kind.Kept (KeptAt.Page n) why)
        ++ paged_at s o step v (Some (MoveStep.TakeAndCopy, x))) us × One (Good o xs MoveStep.TakeAndCopy (n + 1) [])
        us =
        reach wrong j s o xs step v (Kind.Kept (KeptAt.Page n) why) (Some (MoveStep.TakeAndCopy, x))
        MoveStep.TakeAndCopy (n + 1) vs
        (λ e. refl) f h in
        by_came wrong s u a o xs step v [] after (Kind.Kept (KeptAt.Page n) why) (Some (MoveStep.TakeAndCopy, x)) [] vs
        z.0 z.0 e m
        (kept_nothing s u a o xs step v n after why x e nothing) z.1 (no_more wrong z.0) (sits z.0 z.2)

    by_skip : (b : Bool) (x : Option Frame) → Leads wrong s u a o xs (Phase.Moves step v) [] after
        (elim b as (λ b. Kind) [
          | true ↦ Kind.Kept (KeptAt.Page n) KeptWhy.Skipped
          | false ↦ elim x as (λ x. Kind) [ Some g ↦ Kind.Take g | None ↦ Kind.Kept (KeptAt.Page n) KeptWhy.NoFrame ]
        ]) vs
    by_skip true x = kept_so KeptWhy.Skipped refl (λ ws h. h)
    by_skip false None = kept_so KeptWhy.NoFrame refl (λ ws h. h)
    by_skip false (Some g) =
        let x : Migrating = record { page = n; source = source; dest = dest; moved = moved } in
        let z : (us : List View) × Comes wrong vs (set_up s o xs (Phase.Moves step v) (Kind.Take g) ++ paged_at s o
        step v (Some (MoveStep.TakeAndCopy, x))) us
        × One (Good o xs MoveStep.TakeAndCopy (n + 1) []) us =
        reach wrong j s o xs step v (Kind.Take g) (Some (MoveStep.TakeAndCopy, x)) MoveStep.TakeAndCopy (n + 1) vs
        (λ e. refl) f h in
        by_came wrong s u a o xs step v [] after (Kind.Take g) (Some (MoveStep.TakeAndCopy, x)) _ vs z.0 z.0 e m refl
        z.1
        (still_all wrong (still_of wrong j) z.0 (project.taken s o (Phase.Moves step v ∷ []) g)
        (be_there is_still (owner_of g) (Event.Take (in_trace g)) refl))
        (taken_so source (with_record (record x { dest = Some g }) xs) z.0
        (one_map (Good o xs MoveStep.TakeAndCopy (n + 1) [])
        (Good o (with_record (record x { dest = Some g }) xs) MoveStep.TakeAndCopy (n + 1) []) (λ y.
        good_on o xs (with_record (record x { dest = Some g }) xs) MoveStep.TakeAndCopy (n + 1) MoveStep.TakeAndCopy
        (n + 1) [] [] y y refl refl
        (λ u e. absurd (false≢true e)) (λ g e. e)) z.0 z.2))
      where
        taken_so : (source : Option Frame) (zs : List Migrating) (ws : List View)
            → One (Good o zs MoveStep.TakeAndCopy (n + 1) []) ws
            → Sits o zs (copying source g (Phase.Moves MoveStep.TakeAndCopy (n + 1) ∷ [])) ws
        taken_so None zs ws k = k
        taken_so (Some f) zs ws k = k
