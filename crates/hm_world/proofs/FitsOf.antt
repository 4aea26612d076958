-- What the structures ask at an entry that is due follows from the rules of its state.
use Rattle.std.proofs.Common.{◌≡◌, ℕ, ◌<◌, Bool, true, false, ◌&&◌, Option, Some, None, is_some, is_none, refl, sym, ap, ◌∙◌, arith, subst}
use Rattle.std.proofs.lemmas.Bool.{and_parts}
use Rattle.hm_base.specs.Program.{Program}
use Rattle.hm_base.specs.declared.Frame.{Frame}
use Rattle.hm_base.specs.declared.Place.{Place}
use Rattle.hm_base.specs.declared.ops.Op.{Op}
use Rattle.hm_history.specs.Memory.Words.{names, page_of}
use Rattle.hm_history.specs.Memory.Plain.{MirrorState, Attachment, owner, mirror_owner, area_refusal, is_attached_state, mirror_passes}
use Rattle.hm_history.specs.Memory.Places.{pool_size}
use Rattle.hm_history.specs.Memory.Sequences.{Interval, Stage}
use Rattle.hm_history.specs.Memory.Contents.{backing, place_for}
use Rattle.hm_history.specs.Memory.After.{After}
use Rattle.hm_history.specs.declared.Kind.{Kind}
use Rattle.hm_history.specs.declared.TableRight.{TableRight}
use Rattle.hm_laws.specs.Past.{Past}
use Rattle.hm_laws.specs.Stood.{FitsSole, Matches}
use Rattle.hm_laws.specs.Allowed.{Allowed}
use Rattle.hm_laws.specs.Stands.{CopiesRightly}
use Rattle.hm_laws.specs.Sound.{Sound, Paired, stands_so}
use Rattle.hm_laws.proofs.Kept.Contents.{backing_is}
use Rattle.hm_laws.proofs.State.Invalidations.{end_says, active_of}
use Rattle.hm_frames.specs.Shown.{FramesFit}
use Rattle.hm_tables.specs.Steps.{TablesFit, FrameFits}
use Rattle.hm_spaces.specs.Spaces.{SpacesFit}
use Rattle.hm_notifiers.specs.Shown.{NotifiersValueFit}
use Rattle.hm_notifiers.proofs.Fits.{told_fits, detaching_fits, detached_fits}
use Rattle.hm_mirrors.specs.Shown.{MirrorsFit}
use Rattle.hm_mirrors.specs.Entries.{is_kept_right}
use Rattle.hm_spaces.proofs.SpacesKept.{none_of}

pub backs_held : (c : Program) (s : After) (t : Past) → Sound c s t → (p v : ℕ) (f : Frame) → backing s.places (s.places.place p v) ≡ Some f → s.places.held f ≡ true
backs_held c s t so p v f e = so.frames.stands_held p v f (sym (backing_is s.places (s.places.place p v)) ∙ e)

-- the frame behind the page of an access is held
access_held : (c : Program) (s : After) (t : Past) → Sound c s t → (x : Option ℕ) (v : ℕ) (f : Frame) → backing s.places (place_for s.places x v) ≡ Some f → s.places.held f ≡ true
access_held c s t so None v f e = cc
access_held c s t so (Some p) v f e = backs_held c s t so p v f e

pub frames_fit : (c : Program) (s : After) (t : Past) (a : ℕ) (k : Kind) → Sound c s t → Allowed c s t a k → CopiesRightly s k → FramesFit c s k
frames_fit c s t a (Kind.Take f) so ok fair = ok
frames_fit c s t a (Kind.Drop f) so ok fair = so.frames.locked_held f a ok.mine
frames_fit c s t a (Kind.Done f) so ok fair = ap is_some ok.0.mine
frames_fit c s t a (Kind.Place p v x) so ok fair = (ok.frames.names_held, so.frames.names_held p v)
frames_fit c s t a (Kind.Stored who at bs) so ok fair = (access_held c s t so (owner s.plain who) (page_of at), ok.3)
frames_fit c s t a (Kind.Added m at was n) so ok fair = access_held c s t so (mirror_owner s.plain m) (page_of at)
frames_fit c s t a (Kind.Copied f g None) so ok fair = record {
  source = so.frames.names_held fair.0 fair.1 f fair.2;
  target = so.frames.locked_held g a ok.mine;
  differ = λ e. ok.unnamed fair.0 fair.1 (fair.2 ∙ ap Some e);
  piece = tt;
}
frames_fit c s t a (Kind.Copied f g (Some part)) so ok fair = record {
  source = fair.0;
  target = so.frames.locked_held g a ok.mine;
  differ = fair.1;
  piece = fair.2;
}
frames_fit c s t a (Kind.Committed f g) so ok fair = so.frames.locked_held f a ok.0.0.mine
frames_fit c s t a k so ok fair = tt

pub tables_fit : (c : Program) (s : After) (t : Past) (a : ℕ) (k : Kind) → Sound c s t → Allowed c s t a k → TablesFit (pool_size c) k
tables_fit c s t a (Kind.Place p v y) so ok = by (names y) (λ f e. so.pools.below f (ok.frames.names_held f e))
  where
    by : (x : Option Frame) → ((f : Frame) → x ≡ Some f → f.number < pool_size c f.pool) → FrameFits (pool_size c) x
    by None h = tt
    by (Some f) h = h f refl
tables_fit c s t a k so ok = tt

pub spaces_fit : (c : Program) (s : After) (t : Past) (a : ℕ) (k : Kind) → Allowed c s t a k → SpacesFit s.plain k
spaces_fit c s t a (Kind.Mapped p r w) ok = λ l. none_of (s.plain.there p) (area_refusal s.plain (Op.Map p r w)) ok.2
spaces_fit c s t a (Kind.Unmapped p r) ok = λ l. none_of (s.plain.there p) (area_refusal s.plain (Op.Unmap p r)) ok.3
spaces_fit c s t a (Kind.Protected p r w) ok = λ l. none_of (s.plain.there p) (area_refusal s.plain (Op.Protect p r w)) ok.3
spaces_fit c s t a k ok = tt

-- a mirror that is attached, or leaves, has an interval that stands so
stands_with : (x : Option MirrorState) (y : Option Interval) (d : Option ℕ) → Paired x y d → (z : Interval) → y ≡ Some z → (m : MirrorState) × (x ≡ Some m) × (stands_so m.stage z.stage ≡ true)
stands_with None None d h z e = cc
stands_with (Some m) (Some y) d h z e = (m, refl, subst (λ w. stands_so m.stage w.stage ≡ true) (some_is y z e) h.stage)
  where
    some_is : (y z : Interval) → Some y ≡ Some z → y ≡ z
    some_is y z e = cc
stands_with None (Some y) d h z e = absurd h
stands_with (Some m) None d h z e = absurd h

no_removal : (x : Attachment) → stands_so x Stage.RemoveDeferred ≡ true → x ≡ Attachment.Attached → ⊥
no_removal Attachment.Attached h e = cc
no_removal Attachment.Detaching h e = cc
no_removal Attachment.Gone h e = cc

attached_says : (o : Option MirrorState) (m : MirrorState) → mirror_passes is_attached_state o ≡ true → o ≡ Some m → m.stage ≡ Attachment.Attached
attached_says None m h e = cc
attached_says (Some x) m h e = by x m.stage refl (subst (λ y. is_attached_state y ≡ true) (some_is x m e) h)
  where
    some_is : (y z : MirrorState) → Some y ≡ Some z → y ≡ z
    some_is y z e = cc

    by : (x : MirrorState) (z : Attachment) → m.stage ≡ z → is_attached_state m ≡ true → m.stage ≡ Attachment.Attached
    by x Attachment.Attached e k = e
    by x Attachment.Detaching e k = grind arith
    by x Attachment.Gone e k = grind arith

pub notifiers_fit : (c : Program) (s : After) (t : Past) (a : ℕ) (k : Kind) → s.length < 2000000 → Sound c s t → Allowed c s t a k → NotifiersValueFit s.length s.sequences k
notifiers_fit c s t a (Kind.Start p r q) l so ok = omega (arith, l)
notifiers_fit c s t a (Kind.Told m r q) l so ok = told_fits s.length s.sequences a m q r ok
notifiers_fit c s t a (Kind.End p r q) l so ok = let e = end_says s.sequences a p r q ok in (omega (arith, l), active_of s.sequences so.sequences a p e.0 e.1 e.2)
notifiers_fit c s t a (Kind.Attached m d p r q) l so ok = by (s.plain.mirrors m) (s.sequences.interval m) (not_there (s.plain.there p) (s.plain.mirrors m) ok.1) (so.mirrors.paired m)
  where
    not_there : (b : Bool) (x : Option MirrorState) → (b && is_none x) ≡ true → x ≡ None
    not_there true None e = refl
    not_there true (Some y) e = cc
    not_there false x e = cc

    by : (x : Option MirrorState) (y : Option Interval) → x ≡ None → Paired x y (s.places.device m) → y ≡ None
    by None None e h = refl
    by None (Some y) e h = absurd h
    by (Some x) y e h = cc
notifiers_fit c s t a (Kind.Detaching m q) l so ok = detaching_fits s.length s.sequences a m q ok.1 (λ y e r.
    let w = stands_with (s.plain.mirrors m) (s.sequences.interval m) (s.places.device m) (so.mirrors.paired m) y e in
    no_removal w.0.stage (subst (λ z. stands_so w.0.stage z ≡ true) r w.2) (attached_says (s.plain.mirrors m) w.0 ok.0 w.1))
notifiers_fit c s t a (Kind.Detached m) l so ok = detached_fits s.length s.sequences a m ok.1 (λ y e r. so.sequences.leaving m y e (rw r refl))
notifiers_fit c s t a k l so ok = tt

-- mirrors
sole_is : (f : Option Frame) (x : Place) → FitsSole f x → is_kept_right f TableRight.Sole ≡ true
sole_is f (Place.Exclusive n b) h = rw h refl
sole_is f Place.Empty h = absurd h
sole_is f Place.Zero h = absurd h
sole_is f (Place.Sys n w) h = absurd h
sole_is f (Place.Own d n w) h = absurd h
sole_is f (Place.Moving g w) h = absurd h

kept_right : (to : Frame → Option Frame) (f : Option Frame) (w : TableRight) (x : Place) → Matches to f w x → is_kept_right f w ≡ true
kept_right to f TableRight.Read x h = refl
kept_right to f TableRight.Write x h = refl
kept_right to f TableRight.Sole x h = sole_is f x h

pub mirrors_fit : (c : Program) (s : After) (t : Past) (a : ℕ) (k : Kind) → Allowed c s t a k → MirrorsFit s.plain.mirrors k
mirrors_fit c s t a (Kind.Attached m d p r q) ok = (and_parts (s.plain.there p) (is_none (s.plain.mirrors m)) ok.1).1
mirrors_fit c s t a (Kind.Set m v f w from) ok = (rw ok.is ok.fits.in_window, kept_right s.places.committed_to f w _ ok.fits.matches)
mirrors_fit c s t a k ok = tt
