-- The commits of a migration's step, what the driver sets of it, and its end.
use Rattle.std.proofs.Common.{refl, ap, sym, subst, ◌∙◌, arith}
use Rattle.std.proofs.lemmas.Bool.{true≢false, false≢true}
use Rattle.std.proofs.lemmas.Bool.Decides.{nat_tests}
use Rattle.std.specs.Prelude.{◌≡◌, ℕ, ◌+◌, Bool, true, false, nat_lt}
use Rattle.std.specs.Prelude.{Some, None, List, [], ◌∷◌, ◌++◌}
use Rattle.hm_base.specs.Pages.{one_page}
use Rattle.hm_base.specs.declared.Frame.{Frame}
use Rattle.hm_base.specs.declared.ops.Op.{Op}
use Rattle.hm_history.specs.Memory.Words.{writable}
use Rattle.hm_history.specs.Memory.Plain.{mirror_proc}
use Rattle.hm_history.specs.Memory.Sequences.{seq_started}
use Rattle.hm_history.specs.Memory.After.{After}
use Rattle.hm_history.specs.Kernel.Operation.{op_mirror, is_migration}
use Rattle.hm_history.specs.Kernel.Stacks.{next_cursor}
use Rattle.hm_history.specs.Kernel.Going.{with_record, coming}
use Rattle.hm_history.specs.Kernel.Due.{has_no_frame, commit_page, set_own, start_entry, right_of}
use Rattle.hm_history.specs.declared.KeptAt.{KeptAt}
use Rattle.hm_history.specs.declared.KeptWhy.{KeptWhy}
use Rattle.hm_history.specs.declared.Kind.{Kind}
use Rattle.hm_history.specs.declared.phases.Body.{Body}
use Rattle.hm_history.specs.declared.phases.Migrating.{Migrating}
use Rattle.hm_history.specs.declared.phases.MoveStep.{MoveStep}
use Rattle.hm_history.specs.declared.phases.Phase.{Phase}
use Rattle.hm_laws.specs.Records.{Among}
use Rattle.hm_laws.proofs.Migration.Good.{seen_moves}
use Rattle.hm_laws.proofs.Migration.PagePast.{now_before}
use Rattle.hm_protocol.specs.declared.events.Event.{Event}
use Rattle.hm_protocol.specs.declared.events.TraceFrame.{TraceFrame}
use Rattle.hm_protocol.specs.Projection as project
use Rattle.hm_protocol.specs.Projection.{events_by, entry_frame, set_up, is_start}
use Rattle.hm_protocol.specs.Projection.{in_trace}
use Rattle.hm_protocol.proofs.MigrationViews.{View}
use Rattle.hm_protocol.proofs.StillEvents.{Comes, one_more, no_more, still_all}
use Rattle.hm_protocol.proofs.Sitting.{Good, One, Given, Unmoved, Stays, Sits, gone_by, is_later}
use Rattle.hm_protocol.proofs.Homing.{Judges, Leads, still_of}
use Rattle.hm_protocol.proofs.LostMoves.{unmoved_with, stay_more}
use Rattle.hm_protocol.proofs.ReachedMoves.{paged_at, by_came, reach}
use Rattle.hm_protocol.proofs.StaysOn.{one_map, good_on}

-- ---- a commit

before_next : (n u : ℕ) → nat_lt u n ≡ true → nat_lt u (n + 1) ≡ true
before_next n u h = grind (arith, nat_tests)

not_before : (n u : ℕ) → nat_lt u n ≡ true → n ≡ u → ⊥
not_before n u h e = grind (arith, nat_tests)

-- past the page, which stays
past_page : (o : Op) (xs : List Migrating) (n : ℕ) (pending : List TraceFrame) (y : View)
    → Good o xs MoveStep.Commit n pending y
    → Good o xs MoveStep.Commit (n + 1) pending y
past_page o xs n pending y h = good_on o xs xs MoveStep.Commit n MoveStep.Commit (n + 1) pending pending y y refl refl
    (λ u e. (before_next n u e, λ m. m)) (λ g e. e) h

-- past the page, which has moved
moved_page : (o : Op) (xs : List Migrating) (x : Migrating) (y : View) → Good o xs MoveStep.Commit x.page [] y
    → Good o (with_record x xs) MoveStep.Commit (x.page + 1) [] y
moved_page o xs x y h = good_on o xs (with_record x xs) MoveStep.Commit x.page MoveStep.Commit (x.page + 1) [] [] y y
    refl refl
    (λ u e. (before_next x.page u e, unmoved_with x xs u (not_before x.page u e))) (λ g e. e) h

later_step : (step : MoveStep) → is_later step ≡ true → (k : Kind) → is_later step ≡ false → is_start k ≡ false
later_step step l k e = absurd (true≢false (sym l ∙ e))

abbrev pub Reached : (List View → Event → Bool) → After → Op → List Migrating → MoveStep → ℕ → Kind → MoveStep
    → Migrating → ℕ → List View → Type 0
Reached wrong s o xs step v k later x w vs =
    (us : List View) × Comes wrong vs (set_up s o xs (Phase.Moves step v) k ++ paged_at s o step v (Some (later, x))) us
    × One (Good o xs later w []) us

pub commit_copy : (wrong : List View → Event → Bool) → Judges wrong → (s u : After) (a : ℕ) (o : Op)
    (xs : List Migrating)
    (step : MoveStep) (v : ℕ) (after : Phase) (vs : List View) (x : Migrating) (f g : Frame)
    → coming s o xs (Phase.Moves step v) ≡ Some (MoveStep.Commit, x) → is_migration o ≡ true → is_later step ≡ true
    → ((u : ℕ) → gone_by step v u ≡ true → gone_by MoveStep.Commit x.page u ≡ true) → Stays o xs step v vs
    → Leads wrong s u a o xs (Phase.Moves step v) [] after (Kind.Committed f g) vs
commit_copy wrong j s u a o xs step v after vs x f g e m l w h =
    let z : Reached wrong s o xs step v (Kind.Committed f g) MoveStep.Commit x x.page vs =
    reach wrong j s o xs step v (Kind.Committed f g) (Some (MoveStep.Commit, x)) MoveStep.Commit x.page vs (λ e. refl)
    w h in
    by_came wrong s u a o xs step v [] after (Kind.Committed f g) (Some (MoveStep.Commit, x))
    (Event.Moved x.page (in_trace g) ∷ [])
    vs z.0 z.0 e m (ap (λ r. project.moved s o (Phase.Moves step v ∷ []) (project.record_at r) g) e) z.1
    (still_all wrong (still_of wrong j) z.0 (Event.Moved x.page (in_trace g) ∷ []) (refl, tt))
    (one_map (Good o xs MoveStep.Commit x.page []) (Good o (with_record (record x { moved = true }) xs) MoveStep.Commit
    (x.page + 1) [])
    (moved_page o xs (record x { moved = true })) z.0 z.2)

pub commit_fresh : (wrong : List View → Event → Bool) → Judges wrong → (s u : After) (a : ℕ) (o : Op)
    (xs : List Migrating)
    (step : MoveStep) (v : ℕ) (after : Phase) (vs : List View) (n : ℕ) (g : Frame) (moved : Bool)
    → coming s o xs (Phase.Moves step v) ≡ Some (
      MoveStep.Commit,
      record
          { page = n; source = None; dest = Some g; moved = moved },
    )
    → is_migration o ≡ true → is_later step ≡ true
    → ((u : ℕ) → gone_by step v u ≡ true → gone_by MoveStep.Commit n u ≡ true) → Unmoved xs n → Given o g
    → Stays o xs step v vs
    → Leads wrong s u a o xs (Phase.Moves step v) [] after (commit_page s (mirror_proc s.plain (op_mirror o)) n None
    (Some g)) vs
commit_fresh wrong j s u a o xs step v after vs n g moved e m l w un gi h = by_room
    (has_no_frame (s.places.place (mirror_proc s.plain (op_mirror o)) n))
  where
    p : ℕ
    p = mirror_proc s.plain (op_mirror o)

    cursor : (step : MoveStep) → is_later step ≡ true → next_cursor step n ≡ Phase.Moves MoveStep.Commit (n + 1)
    cursor MoveStep.FreezeOthers l = absurd (false≢true l)
    cursor MoveStep.TakeAndCopy l = refl
    cursor MoveStep.Commit l = refl
    cursor MoveStep.SetOwnTable l = refl
    cursor MoveStep.Finish l = refl

    by_room : (b : Bool) → Leads wrong s u a o xs (Phase.Moves step v) [] after (elim b as (λ b. Kind) [
      | true ↦ start_entry s (mirror_proc s.plain (op_mirror o)) (one_page n)
      | false ↦ Kind.Kept (KeptAt.Page n) KeptWhy.Lost
    ]) vs
    by_room true =
        let x : Migrating = record { page = n; source = None; dest = Some g; moved = moved } in
        let k : Kind = Kind.Start (mirror_proc s.plain (op_mirror o)) (one_page n)
        (seq_started s.sequences (mirror_proc s.plain (op_mirror o)) (one_page n)) in
        let z : Reached wrong s o xs step v k MoveStep.Commit x n vs =
        reach wrong j s o xs step v k (Some (MoveStep.Commit, x)) MoveStep.Commit n vs (later_step step l k) w h in
        by_came wrong s u a o xs step v [] after k (Some (MoveStep.Commit, x))
        (events_by s u a o xs (Phase.Moves step v ∷ []) after k)
        vs z.0 z.0 e m refl z.1 (still_all wrong (still_of wrong j) z.0
        (events_by s u a o xs (Phase.Moves step v ∷ []) after k) (refl, tt))
        (subst (λ top. Sits o xs (Phase.Guard (mirror_proc s.plain (op_mirror o)) (one_page n)
        (seen_moves s o step v (Some x) k).overlapped None (Body.Fresh g) ∷ top ∷ []) z.0) (sym (cursor step l)) z.2)
    by_room false =
        let x : Migrating = record { page = n; source = None; dest = Some g; moved = moved } in
        let k : Kind = Kind.Kept (KeptAt.Page n) KeptWhy.Lost in
        let z : Reached wrong s o xs step v k MoveStep.Commit x n vs =
        reach wrong j s o xs step v k (Some (MoveStep.Commit, x)) MoveStep.Commit n vs (later_step step l k) w h in
        stays z.0 z.1 z.2
      where
        stays : (us : List View)
            → Comes wrong vs (set_up s o xs (Phase.Moves step v) (Kind.Kept (KeptAt.Page n) KeptWhy.Lost)
            ++ paged_at s o step v (Some (
              MoveStep.Commit,
              record
                  { page = n; source = None; dest = Some g; moved = moved },
            ))) us
            → One (Good o xs MoveStep.Commit n []) us
            → Leads wrong s u a o xs (Phase.Moves step v) [] after (Kind.Kept (KeptAt.Page n) KeptWhy.Lost) vs
        stays [] first k = absurd k
        stays (y ∷ []) first k =
            let x : Migrating = record { page = n; source = None; dest = Some g; moved = moved } in
            by_came wrong s u a o xs step v [] after (Kind.Kept (KeptAt.Page n) KeptWhy.Lost)
            (Some (MoveStep.Commit, x))
            (Event.Stayed n (in_trace g) ∷ []) vs (y ∷ []) (record y { stayed = (n, in_trace g) ∷ y.stayed } ∷ []) e m
            (ap (λ r. project.kept s o (project.record_at r) (Phase.Moves step v ∷ []) (KeptAt.Page n) KeptWhy.Lost) e)
            first
            (one_more wrong (y ∷ []) _ _ (Event.Stayed n (in_trace g)) []
            (j.only (y ∷ []) (Event.Stayed n (in_trace g)) refl) refl (no_more wrong _))
            (refl, (stay_more o xs MoveStep.Commit (n + 1) n g y (now_before n) un (past_page o xs n [] y k), gi))
        stays (y ∷ z ∷ us) first k = absurd k

-- ---- the driver's table

pub set_step : (wrong : List View → Event → Bool) → Judges wrong → (s u : After) (a : ℕ) (o : Op) (xs : List Migrating)
    (step : MoveStep) (v : ℕ) (after : Phase) (vs : List View) (x : Migrating)
    → coming s o xs (Phase.Moves step v) ≡ Some (MoveStep.SetOwnTable, x) → is_migration o ≡ true → Among xs x
    → x.moved ≡ true
    → Stays o xs step v vs
    → Leads wrong s u a o xs (Phase.Moves step v) [] after (set_own s (op_mirror o) (mirror_proc s.plain (op_mirror o))
    x) vs
set_step wrong j s u a o xs step v after vs x e m i mo h =
    let k : Kind = set_own s (op_mirror o) (mirror_proc s.plain (op_mirror o)) x in
    let z : Reached wrong s o xs step v k MoveStep.SetOwnTable x (x.page + 1) vs =
    reach wrong j s o xs step v k (Some (MoveStep.SetOwnTable, x)) MoveStep.SetOwnTable (x.page + 1) vs (λ e. refl)
    (λ u e. refl) h in
    sets z.0 z.1 z.2
  where
    sets : (us : List View)
        → Comes wrong vs (set_up s o xs (Phase.Moves step v) (set_own s (op_mirror o)
        (mirror_proc s.plain (op_mirror o)) x)
        ++ paged_at s o step v (Some (MoveStep.SetOwnTable, x))) us → One
        (Good o xs MoveStep.SetOwnTable (x.page + 1) []) us
        → Leads wrong s u a o xs (Phase.Moves step v) [] after (set_own s (op_mirror o)
        (mirror_proc s.plain (op_mirror o)) x) vs
    sets [] first k = absurd k
    sets (y ∷ []) first k = by_came wrong s u a o xs step v [] after (set_own s (op_mirror o)
        (mirror_proc s.plain (op_mirror o)) x)
        (Some (MoveStep.SetOwnTable, x)) (Event.Set (op_mirror o) x.page (entry_frame x.dest)
        (right_of (writable (s.places.place (mirror_proc s.plain (op_mirror o)) x.page))) ∷ []) vs (y ∷ []) (y ∷ []) e
        m refl first
        (one_more wrong (y ∷ []) (y ∷ []) (y ∷ []) (Event.Set (op_mirror o) x.page (entry_frame x.dest)
        (right_of (writable (s.places.place (mirror_proc s.plain (op_mirror o)) x.page)))) []
        (j.sets o xs (x.page + 1) x y (op_mirror o) (entry_frame x.dest)
        (right_of (writable (s.places.place (mirror_proc s.plain (op_mirror o)) x.page))) k i mo)
        refl (no_more wrong (y ∷ []))) k
    sets (y ∷ z ∷ us) first k = absurd k

-- ---- the end

pub end_step : (wrong : List View → Event → Bool) → Judges wrong → (s u : After) (a : ℕ) (o : Op) (xs : List Migrating)
    (step : MoveStep) (v n : ℕ) (after : Phase) (vs : List View) → coming s o xs (Phase.Moves step v) ≡ None
    → is_migration o ≡ true
    → Stays o xs step v vs → Leads wrong s u a o xs (Phase.Moves step v) [] after (Kind.Migrated n) vs
end_step wrong j s u a o xs step v n after vs e m h =
    let z : (us : List View) × Comes wrong vs (set_up s o xs (Phase.Moves step v) (Kind.Migrated n) ++ paged_at s o
    step v None) us
    × One (Good o xs MoveStep.Finish 0 []) us =
    reach wrong j s o xs step v (Kind.Migrated n) None MoveStep.Finish 0 vs (λ e. refl) (λ u e. refl) h in
    ends z.0 z.1 z.2
  where
    p : ℕ
    p = mirror_proc s.plain (op_mirror o)

    ends : (us : List View)
        → Comes wrong vs (set_up s o xs (Phase.Moves step v) (Kind.Migrated n) ++ paged_at s o step v None) us
        → One (Good o xs MoveStep.Finish 0 []) us → Leads wrong s u a o xs (Phase.Moves step v) [] after
        (Kind.Migrated n) vs
    ends [] first k = absurd k
    ends (y ∷ []) first k = by_came wrong s u a o xs step v [] after (Kind.Migrated n) None
        (Event.Finalize (mirror_proc s.plain (op_mirror o)) ∷ []) vs (y ∷ []) [] e m refl first
        (one_more wrong (y ∷ []) [] [] (Event.Finalize (mirror_proc s.plain (op_mirror o))) []
        (j.ends o xs y (mirror_proc s.plain (op_mirror o)) k) refl (no_more wrong [])) refl
    ends (y ∷ z ∷ us) first k = absurd k
