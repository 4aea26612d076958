-- Guards of one page.
use Rattle.std.proofs.Common.{◌≡◌, ℕ, ◌+◌, ◌<◌, Bool, true, false, ◌&&◌, not, is_none, if◌then◌else◌, Option, Some, None, List, [], ◌∷◌, refl, sym, ap, ◌∙◌, arith}
use Rattle.hm_base.specs.Pages.{Pages}
use Rattle.hm_base.specs.Program.{Program}
use Rattle.hm_base.specs.declared.Frame.{Frame}
use Rattle.hm_base.specs.declared.Place.{Place}
use Rattle.hm_base.specs.declared.ops.Op.{Op}
use Rattle.hm_history.specs.Memory.Words.{is_frame, names, names_directly, writable, place_in, same_place}
use Rattle.hm_history.specs.Memory.Sequences.{seq_ended}
use Rattle.hm_history.specs.Memory.Locks.{orphan}
use Rattle.hm_history.specs.Memory.After.{After}
use Rattle.hm_history.specs.Kernel.Operation.{is_evicting}
use Rattle.hm_history.specs.Kernel.Stacks.{dropping, frames_past}
use Rattle.hm_history.specs.Kernel.Due.{to_tell, if_so, restore_at, due_body, body_or_end, due_guard}
use Rattle.hm_history.specs.declared.KeptAt.{KeptAt}
use Rattle.hm_history.specs.declared.Kind.{Kind}
use Rattle.hm_history.specs.declared.phases.Migrating.{Migrating}
use Rattle.hm_history.specs.declared.phases.Touch.{Touch}
use Rattle.hm_history.specs.declared.phases.Body.{Body}
use Rattle.hm_history.specs.declared.phases.Phase.{Phase}
use Rattle.hm_history.specs.declared.phases.Next.TheVariants.{Do}
use Rattle.hm_laws.specs.Shapes.{of_system}
use Rattle.hm_laws.specs.Past.{Past, past_next}
use Rattle.hm_laws.specs.Sound.{Sound}
use Rattle.hm_laws.specs.Allowed.{next}
use Rattle.hm_laws.specs.Facts.{HoldsAll, facts}
use Rattle.hm_laws.proofs.Kept.Sound.{kept}
use Rattle.hm_laws.proofs.Due.LeftFrames.{none_left}
use Rattle.hm_laws.proofs.Due.Spans.{this_page}
use Rattle.hm_laws.proofs.Due.Good.{Good, either_option, same_place_says}
use Rattle.hm_quiet_laws.proofs.measure.Left.{View, view, placed_view, left, told_left, home_now, under_left, alone_left, frame_page, caught_left, past_frame, body_left}
use Rattle.hm_quiet_laws.proofs.measure.Shapes.{on_access, on_fault}
use Rattle.hm_quiet_laws.proofs.alone.Ends.{StepsTo}
use Rattle.hm_quiet_laws.proofs.spans.TellingsFall.{told_falls}
use Rattle.hm_quiet_laws.proofs.faults.StagesLeft.{decide_home}
use Rattle.hm_quiet_laws.proofs.counts.UsesOfAFrame.{page_is}
use Rattle.hm_quiet_laws.proofs.faults.TakesFall.{if_true, if_false}

abbrev pub OnAccess : List Phase → Type 0
OnAccess st = on_access st ≡ true

-- what a guard's entry leads to, if it is as the laws say
abbrev pub InGuard : Program → After → Past → ℕ → Op → List Migrating → ℕ → Pages → Bool → Option ℕ → Body → List Phase → Kind → Type 0
InGuard c s t a o xs p r met told body below k = Good c s t a o xs (Phase.Guard p r met told body) below (Do k) → StepsTo c s a o xs (Phase.Guard p r met told body) below OnAccess (Do k)

pub told_in : (c : Program) (s : After) (t : Past) (a : ℕ) (o : Op) (xs : List Migrating) (p : ℕ) (r : Pages) (met : Bool) (told : Option ℕ) (body : Body) (below : List Phase) → Sound c s t → on_fault body below ≡ true →
    InGuard c s t a o xs p r met told body below (body_or_end s p r (due_body s a o p r (s.places.place p r.first) body)) → InGuard c s t a o xs p r met told body below (due_guard s a o p r met told body)
told_in c s t a o xs p r met told body below so on h = either_option (InGuard c s t a o xs p r met told body below) (to_tell s p r met told) _ _ (λ e. h) (λ m e g. (told_falls c s t a o xs p r met told body below m so e, on))

-- the taken frame put in place
pub replace_in : (c : Program) (s : After) (t : Past) (a : ℕ) (o : Op) (xs : List Migrating) (p : ℕ) (r : Pages) (met : Bool) (told : Option ℕ) (over : Place) (g : Frame) (touch : Touch) →
    InGuard c s t a o xs p r met told (Body.Replace over g) (Phase.Decide touch ∷ []) (body_or_end s p r (due_body s a o p r (s.places.place p r.first) (Body.Replace over g)))
replace_in c s t a o xs p r met told over g touch = by (same_place (s.places.place p r.first) over) refl
  where
    x : Place
    x = place_in g true

    y : View
    y = placed_view (view s) p r.first x

    by : (b : Bool) → same_place (s.places.place p r.first) over ≡ b → InGuard c s t a o xs p r met told (Body.Replace over g) (Phase.Decide touch ∷ []) (body_or_end s p r (if_so b (Kind.Place p r.first x)))
    by true e gd = at (orphan s.locks s.places (Kind.Place p r.first x))
      where
        before : body_left c (view s) s.locks.frame a o xs p r (s.places.place p r.first) (Body.Replace over g) (Phase.Decide touch ∷ []) ≡ 3 + home_now c y a o touch
        before = if_true (same_place (s.places.place p r.first) over) (3 + home_now c y a o touch) (2 + home_now c (view s) a o touch) e

        at : (z : Option Frame) → (left c (next s a (Kind.Place p r.first x)) a o xs (dropping z (Phase.Guard p r met told Body.Nothing ∷ Phase.Decide touch ∷ [])) < left c s a o xs (Phase.Guard p r met told (Body.Replace over g) ∷ Phase.Decide touch ∷ [])) × OnAccess (dropping z (Phase.Guard p r met told Body.Nothing ∷ Phase.Decide touch ∷ []))
        at None = (omega (arith, before), refl)
        at (Some f) = (omega (arith, before), refl)
    by false e gd = (omega (arith, decide_home c (next s a (Kind.End p r (seq_ended s.sequences p))) a o touch, before), refl)
      where
        before : body_left c (view s) s.locks.frame a o xs p r (s.places.place p r.first) (Body.Replace over g) (Phase.Decide touch ∷ []) ≡ 2 + home_now c (view s) a o touch
        before = if_false (same_place (s.places.place p r.first) over) (3 + home_now c y a o touch) (2 + home_now c (view s) a o touch) e

-- an exclusive page given back
pub restore_in : (c : Program) (s : After) (t : Past) (a : ℕ) (o : Op) (xs : List Migrating) (p : ℕ) (r : Pages) (met : Bool) (told : Option ℕ) (touch : Touch) →
    InGuard c s t a o xs p r met told Body.Restore (Phase.Decide touch ∷ []) (body_or_end s p r (due_body s a o p r (s.places.place p r.first) Body.Restore))
restore_in c s t a o xs p r met told touch gd0 = by (s.places.place p r.first) refl
  where
    ends : (x : Place) → s.places.place p r.first ≡ x → body_left c (view s) s.locks.frame a o xs p r x Body.Restore (Phase.Decide touch ∷ []) ≡ 1 + home_now c (view s) a o touch → StepsTo c s a o xs (Phase.Guard p r met told Body.Restore) (Phase.Decide touch ∷ []) OnAccess (Do (Kind.End p r (seq_ended s.sequences p)))
    ends x e h = (omega (arith, decide_home c (next s a (Kind.End p r (seq_ended s.sequences p))) a o touch, ap (λ z. body_left c (view s) s.locks.frame a o xs p r z Body.Restore (Phase.Decide touch ∷ [])) e, h), refl)

    by : (x : Place) → s.places.place p r.first ≡ x → StepsTo c s a o xs (Phase.Guard p r met told Body.Restore) (Phase.Decide touch ∷ []) OnAccess (Do (body_or_end s p r (restore_at p r.first x)))
    by (Place.Exclusive n b) e = at (orphan s.locks s.places (Kind.Place p r.first (Place.Sys n true)))
      where
        before : body_left c (view s) s.locks.frame a o xs p r (s.places.place p r.first) Body.Restore (Phase.Decide touch ∷ []) ≡ 3 + home_now c (placed_view (view s) p r.first (Place.Sys n true)) a o touch
        before = ap (λ z. body_left c (view s) s.locks.frame a o xs p r z Body.Restore (Phase.Decide touch ∷ [])) e

        at : (z : Option Frame) → (left c (next s a (Kind.Place p r.first (Place.Sys n true))) a o xs (dropping z (Phase.Guard p r met told Body.Nothing ∷ Phase.Decide touch ∷ [])) < left c s a o xs (Phase.Guard p r met told Body.Restore ∷ Phase.Decide touch ∷ [])) × OnAccess (dropping z (Phase.Guard p r met told Body.Nothing ∷ Phase.Decide touch ∷ []))
        at None = (omega (arith, before), refl)
        at (Some f) = (omega (arith, before), refl)
    by Place.Empty e = ends Place.Empty e refl
    by Place.Zero e = ends Place.Zero e refl
    by (Place.Sys n w) e = ends (Place.Sys n w) e refl
    by (Place.Own d n w) e = ends (Place.Own d n w) e refl
    by (Place.Moving f w) e = ends (Place.Moving f w) e refl

-- a page made the actor's alone: its frame keeps its name
pub seize_in : (c : Program) (s : After) (t : Past) (a : ℕ) (o : Op) (xs : List Migrating) (p : ℕ) (r : Pages) (met : Bool) (told : Option ℕ) (f : Frame) (touch : Touch) → Sound c s t →
    InGuard c s t a o xs p r met told (Body.Seize f) (Phase.Decide touch ∷ []) (body_or_end s p r (due_body s a o p r (s.places.place p r.first) (Body.Seize f)))
seize_in c s t a o xs p r met told f touch so = by (same_place (s.places.place p r.first) (Place.Sys f.number true)) refl
  where
    x : Place
    x = Place.Exclusive f.number a

    y : View
    y = placed_view (view s) p r.first x

    by : (b : Bool) → same_place (s.places.place p r.first) (Place.Sys f.number true) ≡ b → InGuard c s t a o xs p r met told (Body.Seize f) (Phase.Decide touch ∷ []) (body_or_end s p r (if_so b (Kind.Place p r.first x)))
    by true e gd = at (orphan s.locks s.places (Kind.Place p r.first x)) refl
      where
        before : body_left c (view s) s.locks.frame a o xs p r (s.places.place p r.first) (Body.Seize f) (Phase.Decide touch ∷ []) ≡ 2 + home_now c y a o touch
        before = if_true (same_place (s.places.place p r.first) (Place.Sys f.number true)) (2 + home_now c y a o touch) (1 + home_now c (view s) a o touch) e

        names_it : names x ≡ names (s.places.place p r.first)
        names_it = sym (ap names (same_place_says (s.places.place p r.first) (Place.Sys f.number true) refl e))

        at : (z : Option Frame) → orphan s.locks s.places (Kind.Place p r.first x) ≡ z → (left c (next s a (Kind.Place p r.first x)) a o xs (dropping z (Phase.Guard p r met told Body.Nothing ∷ Phase.Decide touch ∷ [])) < left c s a o xs (Phase.Guard p r met told (Body.Seize f) ∷ Phase.Decide touch ∷ [])) × OnAccess (dropping z (Phase.Guard p r met told Body.Nothing ∷ Phase.Decide touch ∷ []))
        at None i = (omega (arith, before), refl)
        at (Some k) i = absurd (none_left c s t a p r.first x so gd.0 names_it k i)
    by false e gd = (omega (arith, decide_home c (next s a (Kind.End p r (seq_ended s.sequences p))) a o touch, before), refl)
      where
        before : body_left c (view s) s.locks.frame a o xs p r (s.places.place p r.first) (Body.Seize f) (Phase.Decide touch ∷ []) ≡ 1 + home_now c (view s) a o touch
        before = if_false (same_place (s.places.place p r.first) (Place.Sys f.number true)) (2 + home_now c y a o touch) (1 + home_now c (view s) a o touch) e

-- the first mapping of a frame frozen, for a fault
pub catch_in : (c : Program) (s : After) (t : Past) (a : ℕ) (o : Op) (xs : List Migrating) (p : ℕ) (r : Pages) (met : Bool) (told : Option ℕ) (f : Frame) (touch : Touch) → Sound c s t → is_evicting o ≡ false → of_system f ≡ false →
    InGuard c s t a o xs p r met told (Body.Catch f) (Phase.Decide touch ∷ []) (body_or_end s p r (due_body s a o p r (s.places.place p r.first) (Body.Catch f)))
catch_in c s t a o xs p r met told f touch so ev dev = by (is_frame (names_directly (s.places.place p r.first)) f && is_none (s.locks.frame f)) refl
  where
    w : Bool
    w = writable (s.places.place p r.first)

    k : Kind
    k = Kind.Place p r.first (Place.Moving f w)

    y : View
    y = placed_view (view s) p r.first (Place.Moving f w)

    before : (b : Bool) → is_evicting o ≡ false → (is_frame (names_directly (s.places.place p r.first)) f && is_none (s.locks.frame f)) ≡ b → body_left c (view s) s.locks.frame a o xs p r (s.places.place p r.first) (Body.Catch f) (Phase.Decide touch ∷ []) ≡ (if b then 2 + (alone_left c y f r.first + home_now c y a o touch) else (1 + home_now c (view s) a o touch))
    before b ev e = ap (λ d. if d then 2 + caught_left c y a o xs f r.first (past_frame o f (Phase.Decide touch ∷ [])) else (1 + home_now c (view s) a o touch)) e
        ∙ ap (λ d. if b then 2 + (alone_left c y f r.first + under_left c y a o xs (if d then frames_past f (Phase.Decide touch ∷ []) else (Phase.Decide touch ∷ []))) else (1 + home_now c (view s) a o touch)) ev

    by : (b : Bool) → (is_frame (names_directly (s.places.place p r.first)) f && is_none (s.locks.frame f)) ≡ b → InGuard c s t a o xs p r met told (Body.Catch f) (Phase.Decide touch ∷ []) (body_or_end s p r (if_so b k))
    by true e gd = at (is_evicting o) ev (orphan s.locks s.places k) gd.2
      where
        page : frame_page (view (next s a k)) f ≡ r.first
        page = page_is c (next s a k) (past_next t s.length a k) p r.first f (kept c s t a k so gd.0) (ap names (this_page s.places.place p r.first (Place.Moving f w)))

        less : told_left s p r met told + (1 + (alone_left c y f (frame_page y f) + home_now c y a o touch)) < left c s a o xs (Phase.Guard p r met told (Body.Catch f) ∷ Phase.Decide touch ∷ [])
        less = omega (arith, before true ev e, ap (alone_left c y f) page)

        at : (b : Bool) → b ≡ false → (z : Option Frame) → HoldsAll (next s a k) (past_next t s.length a k) a (facts o xs (dropping z (Phase.Guard p r met told Body.Nothing ∷ (if b then Phase.Emptying f (KeptAt.Frame f) ∷ frames_past f (Phase.Decide touch ∷ []) else (Phase.Emptying f (KeptAt.Page r.first) ∷ Phase.Decide touch ∷ []))))) →
            (left c (next s a k) a o xs (dropping z (Phase.Guard p r met told Body.Nothing ∷ (if b then Phase.Emptying f (KeptAt.Frame f) ∷ frames_past f (Phase.Decide touch ∷ []) else (Phase.Emptying f (KeptAt.Page r.first) ∷ Phase.Decide touch ∷ [])))) < left c s a o xs (Phase.Guard p r met told (Body.Catch f) ∷ Phase.Decide touch ∷ [])) × OnAccess (dropping z (Phase.Guard p r met told Body.Nothing ∷ (if b then Phase.Emptying f (KeptAt.Frame f) ∷ frames_past f (Phase.Decide touch ∷ []) else (Phase.Emptying f (KeptAt.Page r.first) ∷ Phase.Decide touch ∷ []))))
        at true i z h = cc
        at false i None h = (less, ap not dev)
        at false i (Some g) h = absurd h.0
    by false e gd = (omega (arith, decide_home c (next s a (Kind.End p r (seq_ended s.sequences p))) a o touch, before false ev e), refl)

-- another mapping frozen
pub freeze_in : (c : Program) (s : After) (t : Past) (a : ℕ) (o : Op) (xs : List Migrating) (p : ℕ) (r : Pages) (met : Bool) (told : Option ℕ) (f g : Frame) (w : KeptAt) (touch : Touch) → Sound c s t → f ≡ g → of_system g ≡ false →
    InGuard c s t a o xs p r met told (Body.Freeze f) (Phase.Emptying g w ∷ Phase.Decide touch ∷ []) (body_or_end s p r (due_body s a o p r (s.places.place p r.first) (Body.Freeze f)))
freeze_in c s t a o xs p r met told f g w touch so same dev = by (is_frame (names_directly (s.places.place p r.first)) f) refl
  where
    k : Kind
    k = Kind.Place p r.first (Place.Moving f (writable (s.places.place p r.first)))

    y : View
    y = placed_view (view s) p r.first (Place.Moving f (writable (s.places.place p r.first)))

    by : (b : Bool) → is_frame (names_directly (s.places.place p r.first)) f ≡ b → InGuard c s t a o xs p r met told (Body.Freeze f) (Phase.Emptying g w ∷ Phase.Decide touch ∷ []) (body_or_end s p r (if_so b k))
    by true e gd = at (orphan s.locks s.places k) gd.2
      where
        before : body_left c (view s) s.locks.frame a o xs p r (s.places.place p r.first) (Body.Freeze f) (Phase.Emptying g w ∷ Phase.Decide touch ∷ []) ≡ 2 + (alone_left c y g r.first + home_now c y a o touch)
        before = if_true (is_frame (names_directly (s.places.place p r.first)) f) (2 + (alone_left c y g r.first + home_now c y a o touch)) (1 + (alone_left c (view s) g (frame_page (view s) g) + home_now c (view s) a o touch)) e

        page : frame_page (view (next s a k)) g ≡ r.first
        page = page_is c (next s a k) (past_next t s.length a k) p r.first g (kept c s t a k so gd.0) (ap names (this_page s.places.place p r.first (Place.Moving f (writable (s.places.place p r.first)))) ∙ ap Some same)

        at : (z : Option Frame) → HoldsAll (next s a k) (past_next t s.length a k) a (facts o xs (dropping z (Phase.Guard p r met told Body.Nothing ∷ Phase.Emptying g w ∷ Phase.Decide touch ∷ []))) → (left c (next s a k) a o xs (dropping z (Phase.Guard p r met told Body.Nothing ∷ Phase.Emptying g w ∷ Phase.Decide touch ∷ [])) < left c s a o xs (Phase.Guard p r met told (Body.Freeze f) ∷ Phase.Emptying g w ∷ Phase.Decide touch ∷ [])) × OnAccess (dropping z (Phase.Guard p r met told Body.Nothing ∷ Phase.Emptying g w ∷ Phase.Decide touch ∷ []))
        at None h = (omega (arith, before, ap (alone_left c y g) page), ap not dev)
        at (Some i) h = absurd h.0
    by false e gd = (omega (arith, before), ap not dev)
      where
        before : body_left c (view s) s.locks.frame a o xs p r (s.places.place p r.first) (Body.Freeze f) (Phase.Emptying g w ∷ Phase.Decide touch ∷ []) ≡ 1 + (alone_left c (view s) g (frame_page (view s) g) + home_now c (view s) a o touch)
        before = if_false (is_frame (names_directly (s.places.place p r.first)) f) (2 + (alone_left c y g r.first + home_now c y a o touch)) (1 + (alone_left c (view s) g (frame_page (view s) g) + home_now c (view s) a o touch)) e

-- nothing more to do
pub nothing_in : (c : Program) (s : After) (t : Past) (a : ℕ) (o : Op) (xs : List Migrating) (p : ℕ) (r : Pages) (met : Bool) (told : Option ℕ) (touch : Touch) → InGuard c s t a o xs p r met told Body.Nothing (Phase.Decide touch ∷ []) (Kind.End p r (seq_ended s.sequences p))
nothing_in c s t a o xs p r met told touch gd = (omega (arith, decide_home c (next s a (Kind.End p r (seq_ended s.sequences p))) a o touch), refl)

pub nothing_alone_in : (c : Program) (s : After) (t : Past) (a : ℕ) (o : Op) (xs : List Migrating) (p : ℕ) (r : Pages) (met : Bool) (told : Option ℕ) (f : Frame) (w : KeptAt) (touch : Touch) → of_system f ≡ false → InGuard c s t a o xs p r met told Body.Nothing (Phase.Emptying f w ∷ Phase.Decide touch ∷ []) (Kind.End p r (seq_ended s.sequences p))
nothing_alone_in c s t a o xs p r met told f w touch dev gd = (omega arith, ap not dev)
