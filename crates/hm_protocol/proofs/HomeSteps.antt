-- Every entry of an actor that is in no migration: one begins with a set-up alone, and ends at home.
use Rattle.std.proofs.Common.{refl, sym, subst}
use Rattle.std.proofs.lemmas.Bool.{true≢false, false≢true}
use Rattle.std.specs.Prelude.{◌≡◌, ℕ, ◌+◌, Bool, true, false, nat_lt, if◌then◌else◌, Option, Some, None}
use Rattle.std.specs.Prelude.{List, [], ◌∷◌, ◌++◌}
use Rattle.hm_base.specs.Pages.{Pages, one_page}
use Rattle.hm_base.specs.Program.{Program}
use Rattle.hm_base.specs.declared.Frame.{Frame}
use Rattle.hm_base.specs.declared.PoolId.{PoolId}
use Rattle.hm_base.specs.declared.ops.Op.{Op}
use Rattle.hm_base.specs.declared.Place.{Place}
use Rattle.hm_history.specs.Memory.Words.{writable, place_in}
use Rattle.hm_history.specs.Memory.Places.{lowest_direct, lowest_moving, lowest_named, lowest_free}
use Rattle.hm_history.specs.Memory.Sequences.{seq_started}
use Rattle.hm_history.specs.Memory.After.{After}
use Rattle.hm_history.specs.Kernel.Operation.{is_remove}
use Rattle.hm_history.specs.Kernel.Stacks.{with_guard, after_ready, after_top, gives_up, giving_up, with_one_more}
use Rattle.hm_history.specs.Kernel.Going.{recorded, seen_at, touch_proc}
use Rattle.hm_history.specs.Kernel.Due.{due_phase, due_emptying, start_entry, settle, due_finish, finish_frames}
use Rattle.hm_history.specs.Kernel.Due.{target_of}
use Rattle.hm_history.specs.declared.KeptAt.{KeptAt}
use Rattle.hm_history.specs.declared.KeptWhy.{KeptWhy}
use Rattle.hm_history.specs.declared.Kind.{Kind}
use Rattle.hm_history.specs.declared.phases.Body.{Body}
use Rattle.hm_history.specs.declared.phases.Migrating.{Migrating}
use Rattle.hm_history.specs.declared.phases.MoveStep.{MoveStep}
use Rattle.hm_history.specs.declared.phases.Next.TheVariants.{Do}
use Rattle.hm_history.specs.declared.phases.Phase.{Phase}
use Rattle.hm_history.specs.declared.phases.Seen.{Seen}
use Rattle.hm_protocol.specs.declared.events.Event.{Event}
use Rattle.hm_protocol.specs.Projection as project
use Rattle.hm_protocol.specs.Projection.{events_by, in_trace, is_home, if_device}
use Rattle.hm_protocol.proofs.Stands.{is_moves}
use Rattle.hm_protocol.proofs.MigrationViews.{View}
use Rattle.hm_protocol.proofs.StillEvents.{is_still, Comes, no_more, and_on, still_all}
use Rattle.hm_protocol.proofs.StillEvents.{be_if, none_all, all_erased_be}
use Rattle.hm_protocol.proofs.EntryEvents.{by_none}
use Rattle.hm_protocol.proofs.Sitting.{AllPlain, Homes, homes, CopiedOn, Single, Sits, is_plain, single_sits}
use Rattle.hm_protocol.proofs.Sitting.{plain_sits, plain_after, plain_guard}
use Rattle.hm_protocol.proofs.Homing.{Judges, still_of, Leads, just_by, due_is, home_freed, home_ends}
use Rattle.hm_protocol.proofs.Homing.{home_begins}

-- ---- the entries of emptying a frame

emptying_starts : (wrong : List View → Event → Bool) → Judges wrong → (s u : After) (a : ℕ) (o : Op)
    (xs : List Migrating)
    (f : Frame) (at : KeptAt) (below : List Phase) (after : Phase) (p q : ℕ) (r : Pages)
    → AllPlain (Phase.Emptying f at ∷ below)
    → Leads wrong s u a o xs (Phase.Emptying f at) below after (Kind.Start p r q) []
emptying_starts wrong j s u a o xs f at below after p q r h = (
  [],
  just_by wrong s u a o xs (Phase.Emptying f at) below after (Kind.Start p r q) [] [] refl
      (none_all wrong j.none (events_by s u a o xs (Phase.Emptying f at ∷ below) after (Kind.Start p r q)) (refl, tt)),
  plain_sits o xs (after_top o (Phase.Emptying f at) below (Kind.Start p r q)
      (seen_at s o xs (Phase.Emptying f at) (Kind.Start p r q))) (refl, h),
)

emptying_takes : (wrong : List View → Event → Bool) → Judges wrong → (s u : After) (a : ℕ) (o : Op)
    (xs : List Migrating)
    (f g : Frame) (at : KeptAt) (below : List Phase) (after : Phase) → AllPlain below
    → Leads wrong s u a o xs (Phase.Emptying f at) below after (Kind.Take g) []
emptying_takes wrong j s u a o xs f g at below after h =
    let x : (ws : List View) × Comes wrong [] (project.home_set_up s o (Phase.Emptying f at ∷ below) f (Kind.Take g))
    ws × Homes o ws =
    home_begins wrong j s o (Phase.Emptying f at ∷ below) f (Kind.Take g) refl in (
      x.0,
      just_by wrong s u a o xs (Phase.Emptying f at) below after (Kind.Take g) [] x.0 refl x.1,
      (x.2, h),
    )

kept_comes : (wrong : List View → Event → Bool) → Judges wrong → (s : After) (o : Op) (stack : List Phase) (f : Frame)
    (k : Kind) → project.is_start k ≡ false
    → (ws : List View) × Comes wrong [] (project.home_set_up s o stack f k
    ++ (if is_home o then Event.Paged (touch_proc s o) ∷ [] else [])) ws × Homes o ws
kept_comes wrong j s o stack f k e =
    let x : (ws : List View) × Comes wrong [] (project.home_set_up s o stack f k) ws × Homes o ws =
    home_begins wrong j s o stack f k e in (
      x.0,
      and_on wrong [] x.0 x.0 _ _ x.1 (still_all wrong (still_of wrong j) x.0 _
          (be_if is_still (is_home o) (Event.Paged (touch_proc s o) ∷ []) [] (refl, tt) tt)),
      x.2,
    )

plain_gives : (o : Op) (below : List Phase) → AllPlain below → AllPlain (gives_up o below)
plain_gives o [] h = tt
plain_gives o (x ∷ below) h = by_option (giving_up o x) (plain_way x)
  where
    is_way : Option Phase → Type 0
    is_way None = Unit {0}
    is_way (Some y) = is_plain y ≡ true

    plain_frames : (b : Bool) → is_way (if b then Some (Phase.GiveUp None) else None)
    plain_frames true = refl
    plain_frames false = tt

    plain_way : (x : Phase) → is_way (giving_up o x)
    plain_way (Phase.Decide touch) = refl
    plain_way (Phase.Frames v n) = plain_frames (is_remove o)
    plain_way x = tt

    by_option : (y : Option Phase) → is_way y → AllPlain (elim y [ Some z ↦ z ∷ [] | None ↦ x ∷ below ])
    by_option None w = h
    by_option (Some z) w = (w, tt)

emptying_gives : (wrong : List View → Event → Bool) → Judges wrong → (s u : After) (a : ℕ) (o : Op)
    (xs : List Migrating)
    (f : Frame) (at : KeptAt) (below : List Phase) (after : Phase) → AllPlain below
    → Leads wrong s u a o xs (Phase.Emptying f at) below after (Kind.Kept at KeptWhy.NoFrame) []
emptying_gives wrong j s u a o xs f (KeptAt.Page v) below after h =
    let x : (ws : List View) × Comes wrong [] (project.home_set_up s o (Phase.Emptying f (KeptAt.Page v) ∷ below) f
    (Kind.Kept (KeptAt.Page v) KeptWhy.NoFrame) ++ (if is_home o then Event.Paged (touch_proc s o) ∷ [] else [])) ws
    × Homes o ws =
    kept_comes wrong j s o (Phase.Emptying f (KeptAt.Page v) ∷ below) f (Kind.Kept (KeptAt.Page v) KeptWhy.NoFrame)
    refl in (
      x.0,
      just_by wrong s u a o xs (Phase.Emptying f (KeptAt.Page v)) below after
          (Kind.Kept (KeptAt.Page v) KeptWhy.NoFrame)
          [] x.0 refl x.1,
      single_sits o xs (Phase.Finish f None) (gives_up o below) x.0 (plain_gives o below h)
          (x.2, plain_gives o below h),
    )
emptying_gives wrong j s u a o xs f (KeptAt.Frame i) below after h =
    let x : (ws : List View) × Comes wrong [] (project.home_set_up s o (Phase.Emptying f (KeptAt.Frame i) ∷ below) f
    (Kind.Kept (KeptAt.Frame i) KeptWhy.NoFrame) ++ (if is_home o then Event.Paged (touch_proc s o) ∷ [] else [])) ws
    × Homes o ws =
    kept_comes wrong j s o (Phase.Emptying f (KeptAt.Frame i) ∷ below) f (Kind.Kept (KeptAt.Frame i) KeptWhy.NoFrame)
    refl in (
      x.0,
      just_by wrong s u a o xs (Phase.Emptying f (KeptAt.Frame i)) below after
          (Kind.Kept (KeptAt.Frame i) KeptWhy.NoFrame)
          [] x.0 refl x.1,
      single_sits o xs (Phase.Finish f None) (gives_up o below) x.0 (plain_gives o below h)
          (x.2, plain_gives o below h),
    )

-- what is due while a frame is emptied
emptying_on : (wrong : List View → Event → Bool) → Judges wrong → (c : Program) (s u : After) (a : ℕ) (o : Op)
    (xs : List Migrating) (f : Frame) (at : KeptAt) (below : List Phase) (after : Phase) (k : Kind)
    → AllPlain (Phase.Emptying f at ∷ below) → due_emptying c s f at ≡ k
    → Leads wrong s u a o xs (Phase.Emptying f at) below after k []
emptying_on wrong j c s u a o xs f at below after k h e =
    subst (λ k. Leads wrong s u a o xs (Phase.Emptying f at) below after k []) e
    (by_direct (lowest_direct s.places f) (lowest_free c s.places PoolId.System))
  where
    by_direct : (x : Option (ℕ × ℕ)) (y : Option Frame)
        → Leads wrong s u a o xs (Phase.Emptying f at) below after (elim x as (λ x. Kind) [
          | Some x ↦ start_entry s x.0 (one_page x.1)
          | None ↦ elim y [ Some g ↦ Kind.Take g | None ↦ Kind.Kept at KeptWhy.NoFrame ]
        ]) []
    by_direct (Some x) y = emptying_starts wrong j s u a o xs f at below after x.0
        (seq_started s.sequences x.0 (one_page x.1)) (one_page x.1) h
    by_direct None (Some g) = emptying_takes wrong j s u a o xs f g at below after h.1
    by_direct None None = emptying_gives wrong j s u a o xs f at below after h.1

-- ---- the entries of a frame that is copied, and of its pages' return

copy_on : (wrong : List View → Event → Bool) → Judges wrong → (s u : After) (a : ℕ) (o : Op) (xs : List Migrating)
    (f g : Frame) (n : ℕ) (below : List Phase) (after : Phase) (vs : List View) → Homes o vs → CopiedOn below
    → Leads wrong s u a o xs (Phase.Copy f g n) below after (Kind.Copied f g (Some n)) vs
copy_on wrong j s u a o xs f g n below after vs h d = (
  vs,
  just_by wrong s u a o xs (Phase.Copy f g n) below after (Kind.Copied f g (Some n)) vs vs refl
      (still_all wrong (still_of wrong j) vs (project.all_erased s u) (all_erased_be is_still (λ m v. refl) s u)),
  by_bool (nat_lt n 7) below d,
)
  where
    by_bool : (b : Bool) (below : List Phase) → CopiedOn below
        → Sits o xs (if b then Phase.Copy f g (n + 1) ∷ below else below) vs
    by_bool b [] d = absurd d
    by_bool true (Phase.Copied i k ∷ below) d = (h, d)
    by_bool false (Phase.Copied i k ∷ below) d = single_sits o xs (Phase.Copied i k) below vs d (h, d)
    by_bool b (x ∷ below) d = absurd d

plain_more : (below : List Phase) → AllPlain below → AllPlain (with_one_more below)
plain_more [] h = h
plain_more (Phase.Frames v n ∷ below) h = (refl, h.1)
plain_more (x ∷ below) h = h

copied_on : (wrong : List View → Event → Bool) → Judges wrong → (s u : After) (a : ℕ) (o : Op) (xs : List Migrating)
    (f g : Frame) (below : List Phase) (after : Phase) (vs : List View) → Homes o vs → AllPlain below
    → Leads wrong s u a o xs (Phase.Copied f g) below after (Kind.Committed f g) vs
copied_on wrong j s u a o xs f g below after vs h d = (
  vs,
  just_by wrong s u a o xs (Phase.Copied f g) below after (Kind.Committed f g) vs vs refl
      (still_all wrong (still_of wrong j) vs (project.moved s o (Phase.Copied f g ∷ below) None g)
      (be_if is_still (is_home o) (Event.Moved (project.page_in o (Phase.Copied f g ∷ below)) (in_trace g)
      ∷ Event.Paged (touch_proc s o) ∷ []) [] (refl, (refl, tt)) tt)),
  single_sits o xs (Phase.Finish f (Some g)) (with_one_more below) vs (plain_more below d) (h, plain_more below d),
)

-- the end, with the last entry of its frame
ends_with : (wrong : List View → Event → Bool) → Judges wrong → (s : After) (o : Op) (f : Frame) (vs : List View)
    → Homes o vs
    → Comes wrong vs (if_device f (Event.Free (in_trace f)) ++ (if is_home o then Event.Finalize (touch_proc s o) ∷ []
    else [])) []
ends_with wrong j s o f vs h =
    let x : (ws : List View) × Comes wrong vs (if_device f (Event.Free (in_trace f))) ws
    × (homes (is_home o) ws ≡ true) =
    home_freed wrong j (is_home o) f vs h in
    and_on wrong vs x.0 [] _ _ x.1 (home_ends wrong j (is_home o) (touch_proc s o) x.0 x.2)

settle_on : (wrong : List View → Event → Bool) → Judges wrong → (s u : After) (a : ℕ) (o : Op) (xs : List Migrating)
    (g : Frame) (below : List Phase) (after : Phase) (k : Kind) (vs : List View) → Homes o vs → AllPlain below
    → settle s g ≡ k → Leads wrong s u a o xs (Phase.Settle g) below after k vs
settle_on wrong j s u a o xs g below after k vs h d e =
    subst (λ k. Leads wrong s u a o xs (Phase.Settle g) below after k vs) e (by_named (lowest_named s.places g))
  where
    by_named : (x : Option (ℕ × ℕ)) → Leads wrong s u a o xs (Phase.Settle g) below after
        (elim x as (λ x. Kind) [ Some x ↦ Kind.Done g | None ↦ Kind.Drop g ]) vs
    by_named (Some x) = (
      [],
      just_by wrong s u a o xs (Phase.Settle g) below after (Kind.Done g) vs [] refl
          (home_ends wrong j (is_home o) (touch_proc s o) vs h),
      plain_sits o xs below d,
    )
    by_named None = (
      [],
      just_by wrong s u a o xs (Phase.Settle g) below after (Kind.Drop g) vs [] refl (ends_with wrong j s o g vs h),
      plain_sits o xs below d,
    )

finish_on : (wrong : List View → Event → Bool) → Judges wrong → (s u : After) (a : ℕ) (o : Op) (xs : List Migrating)
    (f : Frame) (to : Option Frame) (below : List Phase) (after : Phase) (k : Kind) (vs : List View) → Homes o vs
    → AllPlain below → due_finish s f to ≡ k → Leads wrong s u a o xs (Phase.Finish f to) below after k vs
finish_on wrong j s u a o xs f to below after k vs h d e =
    subst (λ k. Leads wrong s u a o xs (Phase.Finish f to) below after k vs) e (by_moving (lowest_moving s.places f) to)
  where
    back : (to : Option Frame) (p v : ℕ) (x : Place) → Leads wrong s u a o xs (Phase.Finish f to) below after
        (Kind.Place p v x) vs
    back to p v x = (
      vs,
      just_by wrong s u a o xs (Phase.Finish f to) below after (Kind.Place p v x) vs vs refl (no_more wrong vs),
      single_sits o xs (Phase.Finish f to) below vs d (h, d),
    )

    settles : (x : Option (ℕ × ℕ)) → Leads wrong s u a o xs (Phase.Finish f None) below after
        (elim x as (λ x. Kind) [ Some x ↦ Kind.Done f | None ↦ Kind.Drop f ]) vs
    settles (Some x) = (
      [],
      just_by wrong s u a o xs (Phase.Finish f None) below after (Kind.Done f) vs [] refl
          (home_ends wrong j (is_home o) (touch_proc s o) vs h),
      plain_sits o xs below d,
    )
    settles None = (
      [],
      just_by wrong s u a o xs (Phase.Finish f None) below after (Kind.Drop f) vs [] refl
          (ends_with wrong j s o f vs h),
      plain_sits o xs below d,
    )

    by_moving : (x : Option (ℕ × ℕ)) (to : Option Frame) → Leads wrong s u a o xs (Phase.Finish f to) below after
        (elim x as (λ x. Kind) [
          | Some x ↦ Kind.Place x.0 x.1 (place_in (target_of f to) (writable (s.places.place x.0 x.1)))
          | None ↦ finish_frames s f to
        ]) vs
    by_moving (Some x) to = back to x.0 x.1 (place_in (target_of f to) (writable (s.places.place x.0 x.1)))
    by_moving None None = settles (lowest_named s.places f)
    by_moving None (Some g) =
        let x : (ws : List View) × Comes wrong vs (if_device f (Event.Free (in_trace f))) ws
        × (homes (is_home o) ws ≡ true) =
        home_freed wrong j (is_home o) f vs h in (
          x.0,
          just_by wrong s u a o xs (Phase.Finish f (Some g)) below after (Kind.Drop f) vs x.0 refl
              (and_on wrong vs x.0 x.0 _ _ x.1 (no_more wrong x.0)),
          single_sits o xs (Phase.Settle g) below x.0 d (x.2, d),
        )

-- ---- where a migration begins

ready_on : (o : Op) (xs : List Migrating) (k : Kind) (seen : Seen) → Sits o xs (after_ready o k seen) []
ready_on (Op.Fork p child) xs k seen = plain_sits (Op.Fork p child) xs _
    (plain_guard k seen (Body.Fork 0 false) (Phase.Answer ∷ []) (refl, tt))
ready_on (Op.ToDevice m r) xs k seen = begun (Op.ToDevice m r) k
  where
    begun : (o : Op) (k : Kind)
        → Sits o xs (with_guard k seen (Body.Select r.first) (Phase.Moves MoveStep.FreezeOthers r.first ∷ [])) []
    begun o (Kind.Start p q z) = refl
    begun o k = refl
ready_on (Op.ToSystem m r) xs k seen = begun (Op.ToSystem m r) k
  where
    begun : (o : Op) (k : Kind)
        → Sits o xs (with_guard k seen (Body.Select r.first) (Phase.Moves MoveStep.FreezeOthers r.first ∷ [])) []
    begun o (Kind.Start p q z) = refl
    begun o k = refl
ready_on o xs k seen = refl

-- an entry of an actor that stands on no migration, at any phase but a migration's own
pub single_on : (wrong : List View → Event → Bool) → Judges wrong → (c : Program) (s u : After) (a : ℕ) (o : Op)
    (xs : List Migrating) (top : Phase) (below : List Phase) (after : Phase) (k : Kind) (vs : List View)
    → is_moves top ≡ false → due_phase c s a o xs top ≡ Do k → Single o xs top below vs
    → Leads wrong s u a o xs top below after k vs
single_on wrong j c s u a o xs (Phase.Moves step v) below after k vs n e h = absurd (true≢false n)
single_on wrong j c s u a o xs (Phase.Copy f g i) below after k vs n e h =
    subst (λ k. Leads wrong s u a o xs (Phase.Copy f g i) below after k vs) (due_is _ k e)
    (copy_on wrong j s u a o xs f g i below after vs h.0 h.1)
single_on wrong j c s u a o xs (Phase.Copied f g) below after k vs n e h =
    subst (λ k. Leads wrong s u a o xs (Phase.Copied f g) below after k vs) (due_is _ k e)
    (copied_on wrong j s u a o xs f g below after vs h.0 h.1)
single_on wrong j c s u a o xs (Phase.Finish f to) below after k vs n e h =
    finish_on wrong j s u a o xs f to below after k vs h.0 h.1 (due_is _ k e)
single_on wrong j c s u a o xs (Phase.Settle g) below after k vs n e h =
    settle_on wrong j s u a o xs g below after k vs h.0 h.1 (due_is _ k e)
single_on wrong j c s u a o xs (Phase.Emptying f at) below after k vs n e h =
    subst (λ vs. Leads wrong s u a o xs (Phase.Emptying f at) below after k vs) (sym h.0)
    (emptying_on wrong j c s u a o xs f at below after k h.1 (due_is _ k e))
single_on wrong j c s u a o xs Phase.Ready below after k vs n e h =
    subst (λ vs. Leads wrong s u a o xs Phase.Ready below after k vs) (sym h.0) (
      [],
      just_by wrong s u a o xs Phase.Ready below after k [] [] refl
          (none_all wrong j.none _ (by_none s u a o xs (Phase.Ready ∷ below) after k (λ b. absurd (false≢true b)))),
      ready_on o xs k (seen_at s o xs Phase.Ready k),
    )
single_on wrong j c s u a o xs top below after k vs n e h =
    subst (λ vs. Leads wrong s u a o xs top below after k vs) (sym h.0) (
      [],
      just_by wrong s u a o xs top below after k [] [] n
          (none_all wrong j.none _ (by_none s u a o xs (top ∷ below) after k (λ b. absurd (false≢true b)))),
      plain_sits o (recorded top (seen_at s o xs top k).page xs k) (after_top o top below k (seen_at s o xs top k))
          (plain_after o top below k (seen_at s o xs top k) h.1 refl),
    )
