-- A fresh page gets its frame or stays, and the frame of a page that stayed is freed: a migration goes on.
use Rattle.std.proofs.Common.{refl, ap, sym, subst, ◌∙◌, inl, inr, arith}
use Rattle.std.proofs.lemmas.Bool.{true≢false, false≢true}
use Rattle.std.proofs.lemmas.Bool.Decides.{nat_tests}
use Rattle.std.specs.Prelude.{◌≡◌, ◌⊎◌, ℕ, ◌+◌, Bool, true, false, ◌||◌, nat_lt, if◌then◌else◌}
use Rattle.std.specs.Prelude.{Option, Some, None, is_some, List, [], ◌∷◌}
use Rattle.std.specs.List.{list_any}
use Rattle.hm_base.specs.Pages.{Pages}
use Rattle.hm_base.specs.declared.Frame.{Frame}
use Rattle.hm_base.specs.declared.Place.{Place}
use Rattle.hm_base.specs.declared.ops.Op.{Op}
use Rattle.hm_history.specs.Memory.Words.{place_in}
use Rattle.hm_history.specs.Memory.Plain.{is_read_write, rights_of}
use Rattle.hm_history.specs.Memory.Places.{places_next}
use Rattle.hm_history.specs.Memory.Sequences.{seq_ended}
use Rattle.hm_history.specs.Memory.Locks.{orphan, left_behind}
use Rattle.hm_history.specs.Memory.After.{After}
use Rattle.hm_history.specs.Kernel.Operation.{is_to_device}
use Rattle.hm_history.specs.Kernel.Stacks.{dropping}
use Rattle.hm_history.specs.Kernel.Going.{with_record}
use Rattle.hm_history.specs.Kernel.Due.{due_guard, to_tell}
use Rattle.hm_history.specs.Kernel.Due.{body_or_end, due_body, has_no_frame}
use Rattle.hm_history.specs.declared.KeptAt.{KeptAt}
use Rattle.hm_history.specs.declared.KeptWhy.{KeptWhy}
use Rattle.hm_history.specs.declared.Kind.{Kind}
use Rattle.hm_history.specs.declared.phases.Body.{Body}
use Rattle.hm_history.specs.declared.phases.Migrating.{Migrating}
use Rattle.hm_history.specs.declared.phases.MoveStep.{MoveStep}
use Rattle.hm_history.specs.declared.phases.Phase.{Phase}
use Rattle.hm_laws.specs.Records.{Among, WellListed, has_fresh}
use Rattle.hm_laws.proofs.Migration.Records.{with_among, one_of_page, fresh_found}
use Rattle.hm_laws.proofs.Kept.Frames.{untouched_unnamed}
use Rattle.hm_protocol.specs.declared.events.Event.{Event}
use Rattle.hm_protocol.specs.Words.{is_same}
use Rattle.hm_protocol.specs.Projection.{in_trace, owner_of, if_device}
use Rattle.hm_protocol.proofs.MigrationViews.{View, freed_view}
use Rattle.hm_protocol.proofs.StillEvents.{is_still, Comes, one_more, no_more, and_on}
use Rattle.hm_protocol.proofs.StillEvents.{all_erased_be}
use Rattle.hm_protocol.proofs.Sitting.{Good, One, Stay, Given, Unmoved, Stays, Over, Sits, all_more, gone_by}
use Rattle.hm_protocol.proofs.Homing.{Judges, Leads, just_by}
use Rattle.hm_protocol.proofs.OverMoves.{still_over, told_still}
use Rattle.hm_protocol.proofs.StaysOn.{one_map, good_on, stays_one, one_stays, same_frame_seen}
use Rattle.hm_protocol.proofs.StaysOn.{any_later, gone_later}

-- ---- a guard that gives a fresh page its frame

less_on : (u n v : ℕ) → nat_lt u n ≡ true → nat_lt n v ≡ true → nat_lt u v ≡ true
less_on u n v h g = grind (arith, nat_tests)

not_less : (u n : ℕ) → nat_lt u n ≡ true → n ≡ u → ⊥
not_less u n h e = grind (arith, nat_tests)

pub unmoved_with : (z : Migrating) (xs : List Migrating) (u : ℕ) → (z.page ≡ u → ⊥) → Unmoved xs u
    → Unmoved (with_record z xs) u
unmoved_with z xs u ne h x i m e = by_page (with_among z xs x i)
  where
    by_page : ((x ≡ z) × ((y : Migrating) × Among xs y × (y.page ≡ z.page))) ⊎ (Among xs x × (x.page ≡ z.page → ⊥)) → ⊥
    by_page (inl y) = ne (ap (λ (x : Migrating). x.page) (sym y.0) ∙ e)
    by_page (inr y) = h x y.0 m e

-- the page has its frame
fresh_placed : (o : Op) (xs : List Migrating) (n v : ℕ) (g : Frame) (vs : List View) → nat_lt n v ≡ true
    → One (Good o xs MoveStep.Commit n []) vs
    → One (Good o (with_record (record { page = n; source = None; dest = Some g; moved = true }) xs) MoveStep.Commit v
    []) vs
fresh_placed o xs n v g vs l h = one_map (Good o xs MoveStep.Commit n [])
    (Good o (with_record (record { page = n; source = None; dest = Some g; moved = true }) xs) MoveStep.Commit v [])
    (λ y. good_on o xs (with_record (record { page = n; source = None; dest = Some g; moved = true }) xs)
    MoveStep.Commit n
    MoveStep.Commit v [] [] y y refl refl (λ u e. (
      less_on u n v e l,
      unmoved_with (record { page = n; source = None; dest = Some g; moved = true }) xs u (not_less u n e),
    )) (λ f e. e)) vs h

-- it stays
fresh_stays : (o : Op) (xs : List Migrating) (n v : ℕ) (vs : List View) → nat_lt n v ≡ true
    → One (Good o xs MoveStep.Commit n []) vs → One (Good o xs MoveStep.Commit v []) vs
fresh_stays o xs n v vs l h = one_map (Good o xs MoveStep.Commit n []) (Good o xs MoveStep.Commit v [])
    (λ y. good_on o xs xs MoveStep.Commit n MoveStep.Commit v [] [] y y refl refl (λ u e. (less_on u n v e l, λ m. m))
    (λ f e. e)) vs h

-- it was not moved before
pub fresh_unmoved : (xs : List Migrating) (n : ℕ) (g : Frame) → WellListed xs → has_fresh n g xs ≡ true → Unmoved xs n
fresh_unmoved xs n g w h x i m e = let y : (y : Migrating) × Among xs y × (y.page ≡ n) × (y.source ≡ None)
    × (y.dest ≡ Some g) × (y.moved ≡ false) =
    fresh_found n g xs h in
    true≢false (sym m ∙ (ap (λ (x : Migrating). x.moved) (one_of_page xs x y.0 w i y.1 (e ∙ sym y.2)) ∙ y.5))

-- no frame was there before
pub none_orphan : (s : After) (q v : ℕ) (x : Place) → has_no_frame (s.places.place q v) ≡ true
    → orphan s.locks s.places (Kind.Place q v x) ≡ None
none_orphan s q v x h = ap (left_behind s.locks (places_next s.places (Kind.Place q v x)))
    (untouched_unnamed (s.places.place q v) h)

pub fresh_on : (wrong : List View → Event → Bool) → Judges wrong → (s u : After) (a : ℕ) (o : Op) (xs : List Migrating)
    (q : ℕ) (r : Pages) (met : Bool) (told : Option ℕ) (g : Frame) (v : ℕ) (after : Phase) (k : Kind) (vs : List View)
    → due_guard s a o q r met told (Body.Fresh g) ≡ k → nat_lt r.first v ≡ true → Unmoved xs r.first → Given o g
    → One (Good o xs MoveStep.Commit r.first []) vs
    → Leads wrong s u a o xs (Phase.Guard q r met told (Body.Fresh g)) (Phase.Moves MoveStep.Commit v ∷ []) after k vs
fresh_on wrong j s u a o xs q r met told g v after k vs e l un gi h = subst
    (λ k. Leads wrong s u a o xs (Phase.Guard q r met told (Body.Fresh g)) (Phase.Moves MoveStep.Commit v ∷ []) after k
    vs) e
    (by_told (to_tell s q r met told))
  where
    by_room : (b : Bool) → has_no_frame (s.places.place q r.first) ≡ b
        → Leads wrong s u a o xs (Phase.Guard q r met told (Body.Fresh g)) (Phase.Moves MoveStep.Commit v ∷ []) after
        (body_or_end s q r (elim b as (λ x. Option Kind) [
          | true ↦ Some (Kind.Place q r.first (place_in g (is_read_write (rights_of s.plain q r.first))))
          | false ↦ None
        ])) vs
    by_room true n = (
      vs,
      still_over wrong j s u a o xs (Phase.Guard q r met told (Body.Fresh g)) (Phase.Moves MoveStep.Commit v ∷ []) after
          (Kind.Place q r.first (place_in g (is_read_write (rights_of s.plain q r.first)))) vs refl (refl, tt),
      subst (λ x. Sits o (with_record (record { page = r.first; source = None; dest = Some g; moved = true }) xs)
          (dropping x (Phase.Guard q r met told Body.Nothing ∷ Phase.Moves MoveStep.Commit v ∷ [])) vs)
          (sym (none_orphan s q r.first (place_in g (is_read_write (rights_of s.plain q r.first))) n))
          (fresh_placed o xs r.first v g vs l h),
    )
    by_room false n = (
      vs,
      still_over wrong j s u a o xs (Phase.Guard q r met told (Body.Fresh g)) (Phase.Moves MoveStep.Commit v ∷ []) after
          (Kind.End q r (seq_ended s.sequences q)) vs refl (refl, all_erased_be is_still (λ m v. refl) s u),
      (fresh_stays o xs r.first v vs l h, (l, (un, gi))),
    )

    by_told : (x : Option ℕ) → Leads wrong s u a o xs (Phase.Guard q r met told (Body.Fresh g))
        (Phase.Moves MoveStep.Commit v ∷ []) after
        (elim x as (λ x. Kind) [
          | Some m ↦ Kind.Told m r (s.sequences.seq q)
          | None ↦ body_or_end s q r (due_body s a o q r (s.places.place q r.first) (Body.Fresh g))
        ]) vs
    by_told (Some m) = (
      vs,
      still_over wrong j s u a o xs (Phase.Guard q r met told (Body.Fresh g)) (Phase.Moves MoveStep.Commit v ∷ []) after
          (Kind.Told m r (s.sequences.seq q)) vs refl
          (told_still s u a o xs (Phase.Guard q r met told (Body.Fresh g) ∷ Phase.Moves MoveStep.Commit v ∷ []) after m
          (s.sequences.seq q) r),
      h,
    )
    by_told None = by_room (has_no_frame (s.places.place q r.first)) refl

-- ---- a page that stayed, and its frame

pub stay_more : (o : Op) (xs : List Migrating) (step : MoveStep) (v n : ℕ) (g : Frame) (y : View)
    → gone_by step v n ≡ true
    → Unmoved xs n → Good o xs step v [] y → Good o xs step v (in_trace g ∷ [])
    (record y { stayed = (n, in_trace g) ∷ y.stayed })
stay_more o xs step v n g y past un k = (
  k.0,
  (
    record {
      past = past;
      unmoved = un;
      freed = λ d. ap (λ b. b || list_any (is_same (in_trace g)) y.freed) (same_frame_seen g);
    },
    all_more (Stay o xs step v y.freed) (Stay o xs step v (in_trace g ∷ y.freed)) (λ u x. record {
      past = x.past;
      unmoved = x.unmoved;
      freed = λ d. any_later u.1 (in_trace g) y.freed (x.freed d);
    }) y.stayed k.1,
  ),
)

pub lost_on : (wrong : List View → Event → Bool) → Judges wrong → (s u : After) (a : ℕ) (o : Op) (xs : List Migrating)
    (n : ℕ) (g : Frame) (step : MoveStep) (v : ℕ) (after : Phase) (vs : List View)
    → Over o xs step (Phase.Lost n g) v vs
    → Leads wrong s u a o xs (Phase.Lost n g) (Phase.Moves step v ∷ []) after (Kind.Kept (KeptAt.Page n) KeptWhy.Lost)
    vs
lost_on wrong j s u a o xs n g step v after vs h = by_views vs (stays_one o xs step v vs (gone_later step v n h.1.0)
    h.0)
  where
    by_views : (vs : List View) → One (Good o xs step v []) vs
        → Leads wrong s u a o xs (Phase.Lost n g) (Phase.Moves step v ∷ []) after
        (Kind.Kept (KeptAt.Page n) KeptWhy.Lost) vs
    by_views [] k = absurd k
    by_views (y ∷ []) k = (
      record y { stayed = (n, in_trace g) ∷ y.stayed } ∷ [],
      just_by wrong s u a o xs (Phase.Lost n g) (Phase.Moves step v ∷ []) after (Kind.Kept (KeptAt.Page n) KeptWhy.Lost)
          (y ∷ []) _ refl (one_more wrong (y ∷ []) _ _ (Event.Stayed n (in_trace g)) [] (j.only (y ∷ []) _ refl) refl
          (no_more wrong _)),
      (
        gone_later step v n h.1.0,
        (stay_more o xs step v n g y h.1.0 h.1.1.0 k, h.1.1.1),
      ),
    )
    by_views (y ∷ z ∷ vs) k = absurd k

-- the frame is dropped
pub drop_on : (wrong : List View → Event → Bool) → Judges wrong → (s u : After) (a : ℕ) (o : Op) (xs : List Migrating)
    (g : Frame) (step : MoveStep) (v : ℕ) (after : Phase) (vs : List View) → Over o xs step (Phase.Drop g) v vs
    → Leads wrong s u a o xs (Phase.Drop g) (Phase.Moves step v ∷ []) after (Kind.Drop g) vs
drop_on wrong j s u a o xs g step v after vs h = by_views vs h.1.0
  where
    freed_so : (y : View) → Good o xs step v (in_trace g ∷ []) y → (x : Option ℕ)
        → (is_to_device o ≡ true → is_some x ≡ true)
        → (ws : List View) × Comes wrong (y ∷ []) (elim x [ None ↦ [] | Some d ↦ Event.Free (in_trace g) ∷ [] ]) ws
        × One (Good o xs step v []) ws
    freed_so y k None gi = (
      y ∷ [],
      no_more wrong (y ∷ []),
      (
        k.0,
        all_more (Stay o xs step v (in_trace g ∷ y.freed)) (Stay o xs step v y.freed) (λ u x. record {
          past = x.past;
          unmoved = x.unmoved;
          freed = λ d. absurd (false≢true (gi d));
        }) y.stayed k.1,
      ),
    )
    freed_so y k (Some d) gi = (
      freed_view (in_trace g) y ∷ [],
      one_more wrong (y ∷ []) _ _ (Event.Free (in_trace g)) [] (j.only (y ∷ []) (Event.Free (in_trace g)) refl) refl
          (no_more wrong _),
      k,
    )

    by_views : (vs : List View) → One (Good o xs step v (in_trace g ∷ [])) vs
        → Leads wrong s u a o xs (Phase.Drop g) (Phase.Moves step v ∷ []) after (Kind.Drop g) vs
    by_views [] k = absurd k
    by_views (y ∷ []) k =
        let x : (ws : List View) × Comes wrong (y ∷ []) (if_device g (Event.Free (in_trace g))) ws
        × One (Good o xs step v []) ws =
        freed_so y k (owner_of g) h.1.1 in (
          x.0,
          just_by wrong s u a o xs (Phase.Drop g) (Phase.Moves step v ∷ []) after (Kind.Drop g) (y ∷ []) x.0 refl
              (and_on wrong (y ∷ []) x.0 x.0 _ _ x.1 (no_more wrong x.0)),
          one_stays o xs step v x.0 h.0 x.2,
        )
    by_views (y ∷ z ∷ vs) k = absurd k

-- ---- a copy, and pages that return

pub copy_on : (wrong : List View → Event → Bool) → Judges wrong → (s u : After) (a : ℕ) (o : Op) (xs : List Migrating)
    (f g : Frame) (n : ℕ) (step : MoveStep) (v : ℕ) (after : Phase) (vs : List View) → Stays o xs step v vs
    → Leads wrong s u a o xs (Phase.Copy f g n) (Phase.Moves step v ∷ []) after (Kind.Copied f g (Some n)) vs
copy_on wrong j s u a o xs f g n step v after vs h = (
  vs,
  still_over wrong j s u a o xs (Phase.Copy f g n) (Phase.Moves step v ∷ []) after (Kind.Copied f g (Some n)) vs refl
      (all_erased_be is_still (λ m v. refl) s u),
  by_bool (nat_lt n 7),
)
  where
    by_bool : (b : Bool) → Sits o xs (if b then Phase.Copy f g (n + 1) ∷ Phase.Moves step v ∷ [] else Phase.Moves step
        v ∷ []) vs
    by_bool true = h
    by_bool false = h
