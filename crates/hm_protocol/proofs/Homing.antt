-- What an entry leads to, and the events of a page that is brought home: its set-up and its end.
use Rattle.std.proofs.Common.{refl, ap, sym, subst, ◌∙◌}
use Rattle.std.proofs.lemmas.Bool.{true≢false, false≢true}
use Rattle.std.specs.Prelude.{◌≡◌, ℕ, Bool, true, false, not, ◌||◌, if◌then◌else◌, Option, Some, None}
use Rattle.std.specs.Prelude.{List, [], ◌∷◌, ◌++◌, map}
use Rattle.hm_base.specs.Pages.{one_page}
use Rattle.hm_base.specs.declared.Frame.{Frame}
use Rattle.hm_base.specs.declared.ops.Op.{Op}
use Rattle.hm_history.specs.Memory.Words.{writable}
use Rattle.hm_history.specs.Memory.After.{After}
use Rattle.hm_history.specs.Kernel.Stacks.{after_top}
use Rattle.hm_history.specs.Kernel.Going.{recorded, seen_at, touch_proc}
use Rattle.hm_history.specs.declared.TableRight.{TableRight}
use Rattle.hm_history.specs.declared.Kind.{Kind}
use Rattle.hm_history.specs.declared.phases.Migrating.{Migrating}
use Rattle.hm_history.specs.declared.phases.MoveStep.{MoveStep}
use Rattle.hm_history.specs.declared.phases.Next.{Next}
use Rattle.hm_history.specs.declared.phases.Next.TheVariants.{Do, Wait}
use Rattle.hm_history.specs.declared.phases.Phase.{Phase}
use Rattle.hm_laws.specs.Records.{Among}
use Rattle.hm_protocol.specs.declared.events.Event.{Event}
use Rattle.hm_protocol.specs.declared.events.TraceFrame.{TraceFrame}
use Rattle.hm_protocol.specs.Projection as project
use Rattle.hm_protocol.specs.Projection.{events_by, in_trace, is_home, owner_of, if_device}
use Rattle.hm_protocol.proofs.Entries.{events_at, nothing_comes}
use Rattle.hm_protocol.proofs.Stands.{is_moves}
use Rattle.hm_protocol.proofs.MigrationViews.{View, freed_view, set_up_view}
use Rattle.hm_protocol.proofs.StillEvents.{Comes, Still_calm, one_more, no_more}
use Rattle.hm_protocol.proofs.Sitting.{Good, Homes, homes, Sits}

-- only a `Set` and the end of a migration can be wrong
abbrev pub is_judged : Event → Bool
is_judged (Event.Set m v f w) = true
is_judged (Event.Finalize p) = true
is_judged x = false

-- a rule of what is seen of migrations
pub record Judges (wrong : List View → Event → Bool) : Type 0 where
  pub none : (x : Event) → wrong [] x ≡ false
  pub only : (vs : List View) (x : Event) → is_judged x ≡ false → wrong vs x ≡ false
  pub home : (y : View) (p : ℕ) → y.to_device ≡ false → wrong (y ∷ []) (Event.Finalize p) ≡ false
  pub ends : (o : Op) (xs : List Migrating) (y : View) (p : ℕ) → Good o xs MoveStep.Finish 0 [] y
      → wrong (y ∷ []) (Event.Finalize p) ≡ false
  pub sets : (o : Op) (xs : List Migrating) (v : ℕ) (x : Migrating) (y : View) (m : ℕ) (f : TraceFrame) (w : TableRight)
      → Good o xs MoveStep.SetOwnTable v [] y → Among xs x → x.moved ≡ true
      → wrong (y ∷ []) (Event.Set m x.page f w) ≡ false

pub still_of : (wrong : List View → Event → Bool) → Judges wrong → Still_calm wrong
still_of wrong j vs (Event.Set m v f w) h = absurd (false≢true h)
still_of wrong j vs (Event.Finalize p) h = absurd (false≢true h)
still_of wrong j vs x h = j.only vs x refl

-- what an entry leaves of migrations, and where its actor is then
abbrev pub Leads : (List View → Event → Bool) → After → After → ℕ → Op → List Migrating → Phase → List Phase → Phase
    → Kind
    → List View → Type 0
Leads wrong s u a o xs top below after k vs =
    (ws : List View) × Comes wrong vs (events_at s u a o xs (top ∷ below) after k) ws
    × Sits o (recorded top (seen_at s o xs top k).page xs k) (after_top o top below k (seen_at s o xs top k)) ws

pub just_by : (wrong : List View → Event → Bool) (s u : After) (a : ℕ) (o : Op) (xs : List Migrating) (top : Phase)
    (below : List Phase) (after : Phase) (k : Kind) (vs ws : List View) → is_moves top ≡ false
    → Comes wrong vs (events_by s u a o xs (top ∷ below) after k) ws
    → Comes wrong vs (events_at s u a o xs (top ∷ below) after k) ws
just_by wrong s u a o xs top below after k vs ws h g =
    subst (λ es. Comes wrong vs (es ++ events_by s u a o xs (top ∷ below) after k) ws)
    (sym (nothing_comes s o xs top k h)) g

-- what is due is the entry
pub due_is : (k l : Kind) → Do k ≡ Do l → k ≡ l
due_is k l e = ap (λ (n : Next). elim n [ Do j ↦ j | Wait why ↦ k ]) e

-- ---- frames that become free, and the end of what is brought home

homes_freed : (b : Bool) (f : TraceFrame) (vs : List View) → homes b (map (freed_view f) vs) ≡ homes b vs
homes_freed true f [] = refl
homes_freed true f (y ∷ []) = refl
homes_freed true f (y ∷ z ∷ vs) = refl
homes_freed false f [] = refl
homes_freed false f (y ∷ vs) = refl

pub home_freed : (wrong : List View → Event → Bool) → Judges wrong → (b : Bool) (f : Frame) (vs : List View)
    → homes b vs ≡ true
    → (ws : List View) × Comes wrong vs (if_device f (Event.Free (in_trace f))) ws × (homes b ws ≡ true)
home_freed wrong j b f vs h = by_owner (owner_of f)
  where
    by_owner : (x : Option ℕ) → (ws : List View)
        × Comes wrong vs (elim x [ None ↦ [] | Some d ↦ Event.Free (in_trace f) ∷ [] ]) ws × (homes b ws ≡ true)
    by_owner None = (vs, no_more wrong vs, h)
    by_owner (Some d) = (
      map (freed_view (in_trace f)) vs,
      one_more wrong vs _ _ (Event.Free (in_trace f)) [] (j.only vs (Event.Free (in_trace f)) refl) refl
          (no_more wrong _),
      homes_freed b (in_trace f) vs ∙ h,
    )

pub home_ends : (wrong : List View → Event → Bool) → Judges wrong → (b : Bool) (p : ℕ) (vs : List View)
    → homes b vs ≡ true
    → Comes wrong vs (if b then Event.Finalize p ∷ [] else []) []
home_ends wrong j true p [] h = absurd (false≢true h)
home_ends wrong j true p (y ∷ []) h =
    one_more wrong (y ∷ []) [] [] (Event.Finalize p) [] (j.home y p (off y.to_device h)) refl (no_more wrong [])
  where
    off : (b : Bool) → not b ≡ true → b ≡ false
    off true e = absurd (false≢true e)
    off false e = refl
home_ends wrong j true p (y ∷ z ∷ vs) h = absurd (false≢true h)
home_ends wrong j false p [] h = no_more wrong []
home_ends wrong j false p (y ∷ vs) h = absurd (false≢true h)

-- a page is collected that is to be brought home
pub home_begins : (wrong : List View → Event → Bool) → Judges wrong → (s : After) (o : Op) (stack : List Phase)
    (f : Frame)
    (k : Kind) → project.is_start k ≡ false
    → (ws : List View) × Comes wrong [] (project.home_set_up s o stack f k) ws × Homes o ws
home_begins wrong j s o stack f k e = by_bool (project.is_start k) (is_home o) e
  where
    p : ℕ
    p = touch_proc s o

    v : ℕ
    v = project.page_in o stack

    r : Bool
    r = writable (s.places.place (touch_proc s o) (project.page_in o stack))

    by_bool : (d b : Bool) → d ≡ false → (ws : List View) × Comes wrong [] (if d || not b then []
        else Event.Setup (touch_proc s o) (one_page (project.page_in o stack)) false (owner_of f)
        ∷ Event.From (project.page_in o stack) (in_trace f)
        (writable (s.places.place (touch_proc s o) (project.page_in o stack))) ∷ Event.Ready (touch_proc s o) ∷ []) ws
        × (homes b ws ≡ true)
    by_bool true b g = absurd (true≢false g)
    by_bool false false g = ([], no_more wrong [], refl)
    by_bool false true g = (
      record (set_up_view false) { source = (v, r) ∷ [] } ∷ [],
      one_more wrong _ _ _ (Event.Setup p (one_page v) false (owner_of f)) _ (j.none _) refl
          (one_more wrong _ _ _ (Event.From v (in_trace f) r) _ (j.only _ _ refl) refl
          (one_more wrong _ _ _ (Event.Ready p) [] (j.only _ _ refl) refl (no_more wrong _))),
      refl,
    )
