-- Every entry of a migration's step, and so of an actor anywhere.
use Rattle.std.proofs.Common.{refl, ap, sym, subst, ◌∙◌}
use Rattle.std.proofs.lemmas.Bool.{true≢false, false≢true, and_parts}
use Rattle.std.specs.Prelude.{◌≡◌, ℕ, ◌+◌, Bool, true, false, not, ◌&&◌, ◌||◌, nat_lt, if◌then◌else◌}
use Rattle.std.specs.Prelude.{Option, Some, None, is_some, List, [], ◌∷◌, ◌++◌, map, count_by}
use Rattle.hm_base.specs.declared.cause.Cause.{Cause}
use Rattle.hm_base.specs.Program.{Program}
use Rattle.hm_base.specs.declared.Frame.{Frame}
use Rattle.hm_base.specs.declared.Place.{Place}
use Rattle.hm_base.specs.declared.ops.Op.{Op}
use Rattle.hm_history.specs.Memory.Words.{writable, place_in}
use Rattle.hm_history.specs.Memory.Plain.{mirror_proc}
use Rattle.hm_history.specs.Memory.Places.{lowest_moving, lowest_named}
use Rattle.hm_history.specs.Memory.After.{After}
use Rattle.hm_history.specs.Kernel.Operation.{op_mirror, is_migration, is_to_device}
use Rattle.hm_history.specs.Kernel.Stacks.{after_top}
use Rattle.hm_history.specs.Kernel.Stacks.{after_finish, finishing, after_moves}
use Rattle.hm_history.specs.Kernel.Going.{op_at, sets_now, recorded, recorded_at, seen_at, coming, is_direct}
use Rattle.hm_history.specs.Kernel.Due.{due_phase, due_finish, target_of}
use Rattle.hm_history.specs.Kernel.Due.{due_moves, due_step, others_of, commit_page, finish_page}
use Rattle.hm_history.specs.declared.Kind.{Kind}
use Rattle.hm_history.specs.declared.phases.Body.{Body}
use Rattle.hm_history.specs.declared.phases.Migrating.{Migrating}
use Rattle.hm_history.specs.declared.phases.MoveStep.{MoveStep}
use Rattle.hm_history.specs.declared.phases.Next.TheVariants.{Do}
use Rattle.hm_history.specs.declared.phases.Phase.{Phase}
use Rattle.hm_history.proofs.Tests.{no_test}
use Rattle.hm_laws.specs.Past.{Past}
use Rattle.hm_laws.specs.Facts.{Is, Windowed, Zeroed, May_read, HoldsAll, Holds, Lands_on, facts}
use Rattle.hm_history.specs.declared.Who.{Who}
use Rattle.hm_laws.specs.Records.{staged}
use Rattle.hm_laws.proofs.Migration.Records.{records_each}
use Rattle.hm_laws.proofs.Migration.Good.{seen_moves, Came}
use Rattle.hm_laws.proofs.Migration.PagePast.{stage_says}
use Rattle.hm_laws.proofs.Migration.Coming.{came_to}
use Rattle.hm_laws.proofs.Migration.EachStep.{from_first}
use Rattle.hm_laws.specs.Sound.{Sound}
use Rattle.hm_laws.proofs.Migration.PagePast.{not_before}
use Rattle.hm_protocol.specs.declared.events.Event.{Event}
use Rattle.hm_protocol.specs.Projection.{events_by, is_start, in_trace, owner_of, if_device}
use Rattle.hm_protocol.proofs.MigrationViews.{View, freed_view}
use Rattle.hm_protocol.proofs.StillEvents.{Comes, one_more, no_more}
use Rattle.hm_protocol.proofs.Sitting.{Single, Unmoved, Stays, Sits, gone_by, is_later}
use Rattle.hm_protocol.proofs.Homing.{Judges, Leads, due_is}
use Rattle.hm_protocol.proofs.FoundMoves.{Found, FoundAt, found_at}
use Rattle.hm_protocol.proofs.ReachedMoves.{by_came, reach}
use Rattle.hm_protocol.proofs.MoveSteps.{freeze_step, take_step}
use Rattle.hm_protocol.proofs.CommitSteps.{Reached, commit_copy, commit_fresh, set_step, end_step}
use Rattle.hm_protocol.proofs.OverMoves.{Then}
use Rattle.hm_protocol.proofs.HomeSteps.{single_on}
use Rattle.hm_protocol.proofs.AboveMoves.{over_on}
use Rattle.hm_protocol.proofs.StaysOn.{stays_freed, given_by}

-- ---- mappings return

-- nothing is seen but a frame that becomes free
finish_with : (wrong : List View → Event → Bool) → Judges wrong → (s u : After) (a : ℕ) (o : Op) (xs : List Migrating)
    (step : MoveStep) (v : ℕ) (after : Phase) (k : Kind) (vs : List View) (x : Migrating) (es : List Event)
    → coming s o xs (Phase.Moves step v) ≡ Some (MoveStep.Finish, x) → is_migration o ≡ true → is_start k ≡ false
    → recorded_at (Some x) xs k ≡ xs
    → events_by s u a o xs (Phase.Moves step v ∷ []) after k ≡ es
    → ((us : List View) → Stays o xs MoveStep.Finish (x.page + 1) us
    → (ws : List View) × Comes wrong us es ws × Stays o xs MoveStep.Finish (x.page + 1) ws)
    → ((ws : List View) → Stays o xs MoveStep.Finish (x.page + 1) ws
    → Sits o xs (after_moves step x k (seen_moves s o step v (Some x) k)) ws)
    → Stays o xs step v vs → Leads wrong s u a o xs (Phase.Moves step v) [] after k vs
finish_with wrong j s u a o xs step v after k vs x es e m n q ee f g h =
    let z : Reached wrong s o xs step v k MoveStep.Finish x (x.page + 1) vs =
    reach wrong j s o xs step v k (Some (MoveStep.Finish, x)) MoveStep.Finish (x.page + 1) vs (λ e. n) (λ u e. refl) h
    in
    let w : (ws : List View) × Comes wrong z.0 es ws × Stays o xs MoveStep.Finish (x.page + 1) ws = f z.0 z.2 in
    by_came wrong s u a o xs step v [] after k (Some (MoveStep.Finish, x)) es vs z.0 w.0 e m ee z.1 w.1
    (subst (λ zs. Sits o zs (after_moves step x k (seen_moves s o step v (Some x) k)) w.0) (sym q) (g w.0 w.2))

-- the frame becomes free
frees : (wrong : List View → Event → Bool) → Judges wrong → (o : Op) (xs : List Migrating) (w : ℕ) (f : Frame)
    (us : List View)
    → Stays o xs MoveStep.Finish w us
    → (ws : List View) × Comes wrong us (if_device f (Event.Free (in_trace f)) ++ []) ws
    × Stays o xs MoveStep.Finish w ws
frees wrong j o xs w f us h = by_owner (owner_of f)
  where
    by_owner : (x : Option ℕ) → (ws : List View)
        × Comes wrong us (elim x as (λ x. List Event) [ None ↦ [] | Some d ↦ Event.Free (in_trace f) ∷ [] ] ++ []) ws
        × Stays o xs MoveStep.Finish w ws
    by_owner None = (us, no_more wrong us, h)
    by_owner (Some d) = (
      map (freed_view (in_trace f)) us,
      one_more wrong us _ _ (Event.Free (in_trace f)) [] (j.only us (Event.Free (in_trace f)) refl) refl
          (no_more wrong _),
      stays_freed o xs MoveStep.Finish w (in_trace f) us h,
    )

-- the pages of a frame return
finish_some : (wrong : List View → Event → Bool) → Judges wrong → (s u : After) (a : ℕ) (o : Op) (xs : List Migrating)
    (step : MoveStep) (v : ℕ) (after : Phase) (vs : List View) (x : Migrating) (f : Frame) (to : Option Frame)
    → coming s o xs (Phase.Moves step v) ≡ Some (MoveStep.Finish, x) → is_migration o ≡ true
    → ((k : Kind) → finishing x k ≡ after_finish f to (Phase.Moves MoveStep.Finish (x.page + 1) ∷ []) k)
    → Stays o xs step v vs
    → Leads wrong s u a o xs (Phase.Moves step v) [] after (due_finish s f to) vs
finish_some wrong j s u a o xs step v after vs x f to e m q h = by_moving (lowest_moving s.places f) to
    (lowest_named s.places f) q
  where
    sits_by : (ws : List View) (st zt : List Phase) → st ≡ zt → Sits o xs zt ws → Sits o xs st ws
    sits_by ws st zt e k = subst (λ st. Sits o xs st ws) (sym e) k

    by_moving : (z : Option (ℕ × ℕ)) (to : Option Frame) (y : Option (ℕ × ℕ))
        → ((k : Kind) → finishing x k ≡ after_finish f to (Phase.Moves MoveStep.Finish (x.page + 1) ∷ []) k)
        → Leads wrong s u a o xs (Phase.Moves step v) [] after (elim z as (λ x. Kind) [
          | Some x ↦ Kind.Place x.0 x.1 (place_in (target_of f to) (writable (s.places.place x.0 x.1)))
          | None ↦ elim to as (λ x. Kind) [
            | None ↦ elim y as (λ x. Kind) [ Some x ↦ Kind.Done f | None ↦ Kind.Drop f ]
            | Some g ↦ Kind.Drop f
          ]
        ]) vs
    by_moving (Some z) to y q =
        let k : Kind = Kind.Place z.0 z.1 (place_in (target_of f to) (writable (s.places.place z.0 z.1))) in
        finish_with wrong j s u a o xs step v after k vs x [] e m refl refl refl (λ us n. (us, no_more wrong us, n))
        (λ ws n. sits_by ws (finishing x k) (Phase.Finish f to ∷ Phase.Moves MoveStep.Finish (x.page + 1) ∷ []) (q k)
        n) h
    by_moving None None (Some z) q =
        finish_with wrong j s u a o xs step v after (Kind.Done f) vs x [] e m refl refl refl
        (λ us n. (us, no_more wrong us, n))
        (λ ws n. sits_by ws (finishing x (Kind.Done f)) (Phase.Moves MoveStep.Finish (x.page + 1) ∷ [])
        (q (Kind.Done f)) n) h
    by_moving None None None q =
        finish_with wrong j s u a o xs step v after (Kind.Drop f) vs x (if_device f (Event.Free (in_trace f)) ++ []) e
        m refl refl refl
        (frees wrong j o xs (x.page + 1) f)
        (λ ws n. sits_by ws (finishing x (Kind.Drop f)) (Phase.Moves MoveStep.Finish (x.page + 1) ∷ [])
        (q (Kind.Drop f)) n) h
    by_moving None (Some g) y q =
        finish_with wrong j s u a o xs step v after (Kind.Drop f) vs x (if_device f (Event.Free (in_trace f)) ++ []) e
        m refl refl refl
        (frees wrong j o xs (x.page + 1) f)
        (λ ws n. sits_by ws (finishing x (Kind.Drop f)) (Phase.Settle g ∷ Phase.Moves MoveStep.Finish (x.page + 1) ∷
        []) (q (Kind.Drop f)) n) h

finish_step : (wrong : List View → Event → Bool) → Judges wrong → (s u : After) (a : ℕ) (o : Op) (xs : List Migrating)
    (step : MoveStep) (v : ℕ) (after : Phase) (vs : List View) (n : ℕ) (source dest : Option Frame) (moved : Bool)
    → coming s o xs (Phase.Moves step v) ≡ Some (
      MoveStep.Finish,
      record
          { page = n; source = source; dest = dest; moved = moved },
    )
    → is_migration o ≡ true → Stays o xs step v vs
    → Leads wrong s u a o xs (Phase.Moves step v) [] after (finish_page s source dest moved) vs
finish_step wrong j s u a o xs step v after vs n (Some f) dest false e m h =
    finish_some wrong j s u a o xs step v after vs (record { page = n; source = Some f; dest = dest; moved = false }) f
    None e m (λ k. refl) h
finish_step wrong j s u a o xs step v after vs n (Some f) dest true e m h =
    finish_some wrong j s u a o xs step v after vs (record { page = n; source = Some f; dest = dest; moved = true }) f
    dest e m (λ k. refl) h
finish_step wrong j s u a o xs step v after vs n None (Some g) moved e m h =
    finish_with wrong j s u a o xs step v after (Kind.Done g) vs (record
    { page = n; source = None; dest = Some g; moved = moved }) [] e m
    refl refl refl (λ us n. (us, no_more wrong us, n)) (λ ws n. n) h
finish_step wrong j s u a o xs step v after vs n None None moved e m h =
    finish_with wrong j s u a o xs step v after (Kind.Refused Cause.Never) vs
    (record { page = n; source = None; dest = None; moved = moved }) [] e m
    refl refl refl (λ us n. (us, no_more wrong us, n)) (λ ws n. n) h

-- ---- a commit

-- no record of a page that is to be committed was moved
unmoved_at : (s : After) (t : Past) (a : ℕ) (o : Op) (xs : List Migrating) (n : ℕ) (x : Migrating)
    → Came s t a o xs MoveStep.Commit x → x.page ≡ n → Unmoved xs n
unmoved_at s t a o xs n x came p y i mo e = by_moved y.moved (nat_lt y.page x.page) mo
    (ap (λ m. nat_lt m x.page) (e ∙ sym p) ∙ not_before x.page)
    (stage_says o true (nat_lt y.page x.page) y
    (records_each s t a o MoveStep.Commit x.page None xs came.knows.1.1.1 y i).0).committed
  where
    by_moved : (b d : Bool) → b ≡ true → d ≡ false → (not b || (d && is_some y.dest)) ≡ true → ⊥
    by_moved true true e f h = true≢false f
    by_moved true false e f h = false≢true h
    by_moved false d e f h = false≢true e

commit_step : (wrong : List View → Event → Bool) → Judges wrong → (s u : After) (t : Past) (a : ℕ) (o : Op)
    (xs : List Migrating)
    (step : MoveStep) (v : ℕ) (after : Phase) (vs : List View) (n : ℕ) (source dest : Option Frame) (moved : Bool)
    → coming s o xs (Phase.Moves step v) ≡ Some (
      MoveStep.Commit,
      record
          { page = n; source = source; dest = dest; moved = moved },
    )
    → is_migration o ≡ true → is_later step ≡ true
    → ((u : ℕ) → gone_by step v u ≡ true → gone_by MoveStep.Commit n u ≡ true) → is_some dest ≡ true
    → Came s t a o xs MoveStep.Commit (record { page = n; source = source; dest = dest; moved = moved })
    → Stays o xs step v vs
    → Leads wrong s u a o xs (Phase.Moves step v) [] after (commit_page s (mirror_proc s.plain (op_mirror o)) n source
    dest) vs
commit_step wrong j s u t a o xs step v after vs n source None moved e m l w d came h = no_test d
commit_step wrong j s u t a o xs step v after vs n (Some f) (Some g) moved e m l w d came h =
    commit_copy wrong j s u a o xs step v after vs (record { page = n; source = Some f; dest = Some g; moved = moved })
    f g e m l w h
commit_step wrong j s u t a o xs step v after vs n None (Some g) true e m l w d came h =
    absurd (unmoved_at s t a o xs n (record { page = n; source = None; dest = Some g; moved = true }) came refl _
    came.among refl refl)
commit_step wrong j s u t a o xs step v after vs n None (Some g) false e m l w d came h =
    commit_fresh wrong j s u a o xs step v after vs n g false e m l w
    (unmoved_at s t a o xs n (record { page = n; source = None; dest = Some g; moved = false }) came refl)
    (given_by s t a o g (lands (nat_lt n n) (not_before n) (records_each s t a o MoveStep.Commit n None xs
    came.knows.1.1.1
    (record { page = n; source = None; dest = Some g; moved = false }) came.among))) h
  where
    lands : (b : Bool) → b ≡ false
        → HoldsAll s t a (Is (staged o true b (record { page = n; source = None; dest = Some g; moved = false })) ∷
        Windowed (op_mirror o) n
        ∷ (if b then [] else Zeroed g ∷ May_read (Who.Mirror (op_mirror o)) n ∷ Lands_on o g ∷ []))
        → Holds s t a (Lands_on o g)
    lands true e h = absurd (true≢false e)
    lands false e h = h.1.1.1.1.0

-- ---- an entry of a step

pub moves_on : (wrong : List View → Event → Bool) → Judges wrong → (c : Program) (s u : After) (t : Past) (a : ℕ)
    (o : Op)
    (xs : List Migrating) (step : MoveStep) (v : ℕ) (after : Phase) (k : Kind) (vs : List View) → Sound c s t
    → HoldsAll s t a (facts o xs (Phase.Moves step v ∷ [])) → due_phase c s a o xs (Phase.Moves step v) ≡ Do k
    → Stays o xs step v vs → Leads wrong s u a o xs (Phase.Moves step v) [] after k vs
moves_on wrong j c s u t a o xs step v after k vs so know d h = subst (λ k. Leads wrong s u a o xs (Phase.Moves step v)
    [] after k vs) (due_is _ k d)
    (came_to c s t a o xs step v (λ r. coming s o xs (Phase.Moves step v) ≡ r
    → Leads wrong s u a o xs (Phase.Moves step v) [] after (due_moves c s o xs r) vs) so know.1.1 know.1.0 (record {
      here = here;
      ended = λ past e. end_step wrong j s u a o xs step v (count_by (λ x. x.moved) xs) after vs e know.1.1.0 h;
    }) refl)
  where
    first_only : (step : MoveStep) (x : Migrating) → coming s o xs (Phase.Moves step v) ≡ Some
        (MoveStep.FreezeOthers, x)
        → is_direct s x.source ≡ true → Stays o xs step v vs
        → Leads wrong s u a o xs (Phase.Moves step v) [] after (others_of s x.source) vs
    first_only MoveStep.FreezeOthers x e dir h = freeze_step wrong j s u a o xs v after vs x.page x.source x.dest
        x.moved e know.1.1.0 dir h
    first_only MoveStep.TakeAndCopy x e dir h = absurd (true≢false (ap is_later
        (from_first s o xs MoveStep.TakeAndCopy v x e)))
    first_only MoveStep.Commit x e dir h = absurd (true≢false (ap is_later (from_first s o xs MoveStep.Commit v x e)))
    first_only MoveStep.SetOwnTable x e dir h = absurd (true≢false (ap is_later
        (from_first s o xs MoveStep.SetOwnTable v x e)))
    first_only MoveStep.Finish x e dir h = absurd (true≢false (ap is_later (from_first s o xs MoveStep.Finish v x e)))

    is_on : (b : Bool) → (b ≡ false → false ≡ true) → b ≡ true
    is_on true f = refl
    is_on false f = absurd (false≢true (f refl))

    here : (i : MoveStep) (x : Migrating) → Came s t a o xs i x → coming s o xs (Phase.Moves step v) ≡ Some (i, x)
        → Leads wrong s u a o xs (Phase.Moves step v) [] after (due_step c s o i x) vs
    here MoveStep.FreezeOthers x came e = first_only step x e came.concerned h
    here MoveStep.TakeAndCopy x came e =
        let f : Found s o xs step v MoveStep.TakeAndCopy x = subst (FoundAt s o xs step v) e (found_at s o xs step v) in
        take_step wrong j c s u a o xs step v after vs x.page x.source x.dest x.moved e know.1.1.0 f.later h
    here MoveStep.Commit x came e =
        let f : Found s o xs step v MoveStep.Commit x = subst (FoundAt s o xs step v) e (found_at s o xs step v) in
        commit_step wrong j s u t a o xs step v after vs x.page x.source x.dest x.moved e know.1.1.0
        (is_on (is_later step) f.began) f.later came.concerned came h
    here MoveStep.SetOwnTable x came e =
        let b : (is_to_device o ≡ true) × ((x.moved && sets_now s (op_mirror o)) ≡ true) =
        and_parts (is_to_device o) (x.moved && sets_now s (op_mirror o)) came.concerned in
        set_step wrong j s u a o xs step v after vs x e know.1.1.0 came.among
        (and_parts x.moved (sets_now s (op_mirror o)) b.1).0 h
    here MoveStep.Finish x came e = finish_step wrong j s u a o xs step v after vs x.page x.source x.dest x.moved e
        know.1.1.0 h

-- ---- an entry of an actor anywhere

-- nothing stands below a migration
pub nothing_below : (s : After) (t : Past) (a : ℕ) (o : Op) (xs : List Migrating) (top : Phase) (step : MoveStep)
    (v : ℕ)
    (x : Phase)
    (below : List Phase) → HoldsAll s t a (facts o xs (top ∷ Phase.Moves step v ∷ x ∷ below)) → ⊥
nothing_below s t a o xs (Phase.Guard q r met told (Body.Catch f)) step v x below h = h.1.1.1.1.0
nothing_below s t a o xs (Phase.Emptying f at) step v x below h = h.1.1.1.0
nothing_below s t a o xs (Phase.Copied f g) step v x below h = h.1.1.1.1.0
nothing_below s t a o xs (Phase.Finish f None) step v x below h = h.1.1.1.1.0
nothing_below s t a o xs (Phase.Finish f (Some g)) step v x below h = h.1.1.1.1.0
nothing_below s t a o xs (Phase.Settle g) step v x below h = h.1.1.1.1.0
nothing_below s t a o xs (Phase.Taken touch g Place.Zero) step v x below h = h.0
nothing_below s t a o xs (Phase.Taken touch g over) step v x below h = h.0
nothing_below s t a o xs top step v x below h = h.0

alone_on : (wrong : List View → Event → Bool) → Judges wrong → (c : Program) (s u : After) (t : Past) (a : ℕ) (o : Op)
    (xs : List Migrating) (top : Phase) (below : List Phase) (after : Phase) (k : Kind) (vs : List View) → Sound c s t
    → HoldsAll s t a (facts o xs (top ∷ below)) → due_phase c s a o xs top ≡ Do k → Single o xs top below vs
    → Leads wrong s u a o xs top below after k vs
alone_on wrong j c s u t a o xs (Phase.Moves step v) [] after k vs so h d m = moves_on wrong j c s u t a o xs step v
    after k vs so h d m
alone_on wrong j c s u t a o xs (Phase.Moves step v) (x ∷ below) after k vs so h d m = absurd h.0
alone_on wrong j c s u t a o xs top below after k vs so h d m = single_on wrong j c s u a o xs top below after k vs
    refl d m

pub sits_on : (wrong : List View → Event → Bool) → Judges wrong → (c : Program) (s u l : After) (t w : Past) (a i : ℕ)
    (o : Op)
    (xs : List Migrating) (top : Phase) (below : List Phase) (after : Phase) (k : Kind) (vs : List View) → Sound c s t
    → op_at c a i ≡ Some o → HoldsAll s t a (facts o xs (top ∷ below)) → due_phase c s a o xs top ≡ Do k
    → Then c l w a i (recorded top (seen_at s o xs top k).page xs k) (after_top o top below k (seen_at s o xs top k))
    → Sits o xs (top ∷ below) vs → Leads wrong s u a o xs top below after k vs
sits_on wrong j c s u l t w a i o xs top [] after k vs so e h d g m = alone_on wrong j c s u t a o xs top [] after k vs
    so h d m
sits_on wrong j c s u l t w a i o xs top (Phase.Moves step v ∷ []) after k vs so e h d g m =
    over_on wrong j c s u l t w a i o xs top step v after k vs e h d g m
sits_on wrong j c s u l t w a i o xs top (Phase.Moves step v ∷ x ∷ below) after k vs so e h d g m =
    absurd (nothing_below s t a o xs top step v x below h)
sits_on wrong j c s u l t w a i o xs top (x ∷ below) after k vs so e h d g m =
    alone_on wrong j c s u t a o xs top (x ∷ below) after k vs so h d m
