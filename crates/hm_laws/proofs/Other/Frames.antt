-- What an entry of another actor, or the actor's own about other frames, leaves of a frame that the actor has locked;
-- and what it leaves of what pages show.
use Rattle.std.proofs.Common.{◌≡◌, ◌≢◌, ℕ, ◌<◌, ◌⊎◌, inl, inr, true, false, Option, Some, None, List, [], ◌∷◌, refl, sym, ap, ◌∙◌, arith}
use Rattle.std.proofs.lemmas.Option.{same_Some}
use Rattle.hm_base.specs.Program.{Program}
use Rattle.hm_base.specs.declared.Frame.{Frame}
use Rattle.hm_base.specs.declared.Place.{Place}
use Rattle.hm_history.specs.Memory.Words.{same_frame, with_frame, names, moving_frame, writable, page_of}
use Rattle.hm_history.specs.Memory.Plain.{proc_of, mirror_proc}
use Rattle.hm_history.specs.Memory.Places.{with_place, lowest_free}
use Rattle.hm_history.specs.Memory.Contents.{zeros, backing, place_for, shown_by, stored_in, with_part_copied}
use Rattle.hm_history.specs.Memory.After.{After}
use Rattle.hm_history.specs.declared.Kind.{Kind}
use Rattle.hm_laws.specs.Stood.{stood, is_moving}
use Rattle.hm_laws.specs.Past.{Past}
use Rattle.hm_laws.specs.Sound.{Sound}
use Rattle.hm_laws.specs.Allowed.{next, shows, IsUnused, OwnsFrame, Allowed}
use Rattle.hm_laws.specs.Spares.{Apart, Spares, Another, Own}
use Rattle.hm_laws.proofs.Kept.Pools.{free_says}
use Rattle.hm_laws.proofs.Kept.Areas.{placed_cases, places_kept}
use Rattle.hm_laws.proofs.Kept.Contents.{backing_is, stood_else, commit_cases, shown_else, written_to, added_to, writer_is, adder_is}
use Rattle.hm_laws.proofs.Kept.PlaceLocks.{LockMove, Stays, Settles, Freezes, Leaves}
use Rattle.hm_laws.proofs.Kept.Frames.{moving_names, stands_itself, lock_move}
use Rattle.hm_history.proofs.Tests.{some_none, true_false}
use Rattle.hm_history.proofs.Frames.{frame_tells}

pub frame_else : {X : Type 0} → (m : Frame → X) (f g : Frame) (y : X) → (g ≡ f → ⊥) → with_frame m f y g ≡ m g
frame_else m f g y ne = grind (arith, frame_tells g f)

pub frame_here : {X : Type 0} → (m : Frame → X) (f : Frame) (y : X) → with_frame m f y f ≡ y
frame_here m f y = grind (arith, frame_tells f f)

-- a frame that the entry spares is locked by another than who adds it, or is not what the entry is about
pub not_mine : (s : After) (a b : ℕ) (k : Kind) (f : Frame) → Spares s a b k f → (Apart s k f → ⊥) → s.locks.frame f ≡ Some b → s.locks.frame f ≡ Some a → ⊥
not_mine s a b k f (Another ne) own h m = ne (same_Some b a (sym h ∙ m))
not_mine s a b k f (Own apart) own h m = own apart

pub not_about : (s : After) (a b : ℕ) (k : Kind) (f g : Frame) → Spares s a b k f → (Apart s k f → f ≡ g → ⊥) → s.locks.frame f ≡ Some b → s.locks.frame g ≡ Some a → f ≡ g → ⊥
not_about s a b k f g sp own h m e = not_mine s a b k f sp (λ i. own i e) h (ap s.locks.frame e ∙ m)

pub not_free : (c : Program) (s : After) (t : Past) (b : ℕ) (f g : Frame) → Sound c s t → s.locks.frame f ≡ Some b → lowest_free c s.places g.pool ≡ Some g → f ≡ g → ⊥
not_free c s t b f g so h k e = true_false (s.places.held g) (ap s.places.held (sym e) ∙ so.frames.locked_held f b h) (free_says c s.places g.pool g k).1

pub move_of : (c : Program) (s : After) (t : Past) (a p v : ℕ) (x : Place) → Sound c s t → Allowed c s t a (Kind.Place p v x) → (f : Frame) → LockMove s.places.place s.locks.frame a p v x f ((next s a (Kind.Place p v x)).locks.frame f)
move_of c s t a p v x so ok f = lock_move s.locks s.places a p v x f (places_kept c s t a so (Kind.Place p v x) ok)

pub lock_keeps : (c : Program) (s : After) (t : Past) (a b : ℕ) → Sound c s t → (k : Kind) → Allowed c s t a k → (f : Frame) → Spares s a b k f → s.locks.frame f ≡ Some b → (next s a k).locks.frame f ≡ Some b
lock_keeps c s t a b so (Kind.Take g) ok f sp h = frame_else s.locks.frame g f (Some a) (not_free c s t b f g so h ok) ∙ h
lock_keeps c s t a b so (Kind.Done g) ok f sp h = frame_else s.locks.frame g f None (not_about s a b (Kind.Done g) f g sp (λ i. i) h ok.0.mine) ∙ h
lock_keeps c s t a b so (Kind.Drop g) ok f sp h = frame_else s.locks.frame g f None (not_about s a b (Kind.Drop g) f g sp (λ i. i) h ok.mine) ∙ h
lock_keeps c s t a b so (Kind.Place p v x) ok f sp h = by ((next s a (Kind.Place p v x)).locks.frame f) (move_of c s t a p v x so ok f)
  where
    by : (l : Option ℕ) → LockMove s.places.place s.locks.frame a p v x f l → l ≡ Some b
    by l (Stays i u z) = i ∙ h
    by l (Settles n w i j o m k) = absurd (not_mine s a b (Kind.Place p v x) f sp (λ e. e.1 (ap names i ∙ ap Some (sym j))) h m)
    by l (Freezes i m k) = absurd (some_none (s.locks.frame f) b h m)
    by l (Leaves i m u k) = absurd (some_none (s.locks.frame f) b h m)
lock_keeps c s t a b so k ok f sp h = h

dropped_gains : (lock : Frame → Option ℕ) (f g : Frame) (b : ℕ) → with_frame lock g None f ≡ Some b → lock f ≡ Some b
dropped_gains lock f g b h = grind (arith, frame_tells f g)

pub lock_gains : (c : Program) (s : After) (t : Past) (a b : ℕ) → Sound c s t → (b ≡ a → ⊥) → (k : Kind) → Allowed c s t a k → (f : Frame) → (next s a k).locks.frame f ≡ Some b → s.locks.frame f ≡ Some b
lock_gains c s t a b so ne (Kind.Take g) ok f h = by (frame_tells f g)
  where
    by : ((same_frame f g ≡ true) × (f ≡ g)) ⊎ ((same_frame f g ≡ false) × (f ≢ g)) → s.locks.frame f ≡ Some b
    by (inl e) = absurd (ne (same_Some b a (sym h ∙ ap (with_frame s.locks.frame g (Some a)) e.1 ∙ frame_here s.locks.frame g (Some a))))
    by (inr e) = sym (frame_else s.locks.frame g f (Some a) e.1) ∙ h
lock_gains c s t a b so ne (Kind.Done g) ok f h = dropped_gains s.locks.frame f g b h
lock_gains c s t a b so ne (Kind.Drop g) ok f h = dropped_gains s.locks.frame f g b h
lock_gains c s t a b so ne (Kind.Place p v x) ok f h = by ((next s a (Kind.Place p v x)).locks.frame f) h (move_of c s t a p v x so ok f)
  where
    by : (l : Option ℕ) → l ≡ Some b → LockMove s.places.place s.locks.frame a p v x f l → s.locks.frame f ≡ Some b
    by l e (Stays i u z) = sym i ∙ e
    by l e (Settles n w i j o m k) = absurd (some_none l b e k)
    by l e (Freezes i m k) = absurd (ne (same_Some b a (sym e ∙ k)))
    by l e (Leaves i m u k) = absurd (ne (same_Some b a (sym e ∙ k)))
lock_gains c s t a b so ne k ok f h = h

-- a frame that nobody uses
unnamed_other : (c : Program) (s : After) (t : Past) (a b : ℕ) → Sound c s t → (k : Kind) → Allowed c s t a k → (f : Frame) → Spares s a b k f → IsUnused s b f → (q u : ℕ) → names ((next s a k).places.place q u) ≡ Some f → ⊥
unnamed_other c s t a b so (Kind.Place p v x) ok f sp h q u n = by (placed_cases s.places.place p v x q u)
  where
    new : names x ≡ Some f → (s.locks.frame f ≡ Some a) ⊎ ((q : ℕ) × (u : ℕ) × (names (s.places.place q u) ≡ Some f) × (is_moving x ≡ false → is_moving (s.places.place q u) ≡ false)) → ⊥
    new m (inl e) = not_mine s a b (Kind.Place p v x) f sp (λ i. i.1 m) h.mine e
    new m (inr e) = h.unnamed e.0 e.1 e.2

    by : ((q ≡ p) × (u ≡ v) × (with_place s.places.place p v x q u ≡ x)) ⊎ (with_place s.places.place p v x q u ≡ s.places.place q u) → ⊥
    by (inl e) = let m : names x ≡ Some f = sym (ap names e.2) ∙ n in new m (ok.hand_over.fresh_names f m)
    by (inr e) = h.unnamed q u (sym (ap names e) ∙ n)
unnamed_other c s t a b so k ok f sp h q u n = h.unnamed q u n

unstood_other : (c : Program) (s : After) (t : Past) (a b : ℕ) → Sound c s t → (k : Kind) → Allowed c s t a k → (f : Frame) → Spares s a b k f → IsUnused s b f → (q u : ℕ) → stood (next s a k).places.committed_to ((next s a k).places.place q u) ≡ Some f → ⊥
unstood_other c s t a b so (Kind.Place p v x) ok f sp h q u n = by (placed_cases s.places.place p v x q u)
  where
    new : stood s.places.committed_to x ≡ Some f → (s.locks.frame f ≡ Some a) ⊎ ((q : ℕ) × (u : ℕ) × (stood s.places.committed_to (s.places.place q u) ≡ Some f) × (names x ≡ names (s.places.place q u))) → ⊥
    new m (inl e) = not_mine s a b (Kind.Place p v x) f sp (λ i. i.2 m) h.mine e
    new m (inr e) = h.unstood e.0 e.1 e.2

    by : ((q ≡ p) × (u ≡ v) × (with_place s.places.place p v x q u ≡ x)) ⊎ (with_place s.places.place p v x q u ≡ s.places.place q u) → ⊥
    by (inl e) = let m : stood s.places.committed_to x ≡ Some f = sym (ap (stood s.places.committed_to) e.2) ∙ n in new m (ok.hand_over.fresh_stands f m)
    by (inr e) = h.unstood q u (sym (ap (stood s.places.committed_to) e) ∙ n)
unstood_other c s t a b so (Kind.Take g) ok f sp h q u n = h.unstood q u (sym (stood_else s.places.committed_to g None (s.places.place q u) (λ e. true_false (s.places.held g) (so.frames.names_held q u g e) (free_says c s.places g.pool g ok).1)) ∙ n)
unstood_other c s t a b so (Kind.Committed i g) ok f sp h q u n = by (commit_cases s.places.committed_to i g (s.places.place q u))
  where
    by : ((moving_frame (s.places.place q u) ≡ Some i) × (stood (with_frame s.places.committed_to i (Some g)) (s.places.place q u) ≡ Some g)) ⊎ ((moving_frame (s.places.place q u) ≡ Some i → ⊥) × (stood (with_frame s.places.committed_to i (Some g)) (s.places.place q u) ≡ stood s.places.committed_to (s.places.place q u))) → ⊥
    by (inl e) = not_about s a b (Kind.Committed i g) f g sp (λ j. j.1) h.mine ok.1.0.mine (same_Some f g (sym n ∙ e.1))
    by (inr e) = h.unstood q u (sym e.1 ∙ n)
unstood_other c s t a b so k ok f sp h q u n = h.unstood q u n

pub unused_other : (c : Program) (s : After) (t : Past) (a b : ℕ) → Sound c s t → (k : Kind) → Allowed c s t a k → (f : Frame) → Spares s a b k f → IsUnused s b f → IsUnused (next s a k) b f
unused_other c s t a b so k ok f sp h = record {
  mine = lock_keeps c s t a b so k ok f sp h.mine;
  unnamed = unnamed_other c s t a b so k ok f sp h;
  unstood = unstood_other c s t a b so k ok f sp h;
}

pub fresh_other : (c : Program) (s : After) (t : Past) (a b : ℕ) → Sound c s t → (k : Kind) → Allowed c s t a k → (f : Frame) → Spares s a b k f → s.locks.frame f ≡ Some b → s.places.committed_to f ≡ None → (next s a k).places.committed_to f ≡ None
fresh_other c s t a b so (Kind.Take g) ok f sp h e = grind (arith, frame_tells f g)
fresh_other c s t a b so (Kind.Committed i g) ok f sp h e = frame_else s.places.committed_to i f (Some g) (not_about s a b (Kind.Committed i g) f i sp (λ j. j.0) h ok.0.0.mine) ∙ e
fresh_other c s t a b so k ok f sp h e = e

pub owns_other : (c : Program) (s : After) (t : Past) (a b : ℕ) → Sound c s t → (k : Kind) → Allowed c s t a k → (f : Frame) → Spares s a b k f → OwnsFrame s b f → OwnsFrame (next s a k) b f
owns_other c s t a b so k ok f sp h = (unused_other c s t a b so k ok f sp h.0, fresh_other c s t a b so k ok f sp h.0.mine h.1)

-- its contents
pub stored_else : (s : After) (p v at : ℕ) (bs : List ℕ) (f : Frame) → (stood s.places.committed_to (s.places.place p v) ≡ Some f → ⊥) → stored_in s.contents (backing s.places (s.places.place p v)) at bs f ≡ s.contents f
stored_else s p v at bs f n = rw (backing_is s.places (s.places.place p v)) (by (stood s.places.committed_to (s.places.place p v)) n)
  where
    by : (y : Option Frame) → (y ≡ Some f → ⊥) → stored_in s.contents y at bs f ≡ s.contents f
    by None k = refl
    by (Some g) k = frame_else s.contents g f _ (λ e. k (ap Some (sym e)))

pub contents_other : (c : Program) (s : After) (t : Past) (a b : ℕ) → Sound c s t → (k : Kind) → Allowed c s t a k → (f : Frame) → Spares s a b k f → IsUnused s b f → (next s a k).contents f ≡ s.contents f
contents_other c s t a b so (Kind.Take g) ok f sp h = frame_else s.contents g f zeros (not_free c s t b f g so h.mine ok)
contents_other c s t a b so (Kind.Copied i g k) ok f sp h = frame_else s.contents g f _ (not_about s a b (Kind.Copied i g k) f g sp (λ j. j) h.mine ok.mine)
contents_other c s t a b so (Kind.Stored y at bs) ok f sp h = ap (λ i. stored_in s.contents (backing s.places (place_for s.places i (page_of at))) at bs f) (writer_is a c s at bs y ok.2) ∙ stored_else s (proc_of s.plain y) (page_of at) at bs f (h.unstood (proc_of s.plain y) (page_of at))
contents_other c s t a b so (Kind.Added m at was now) ok f sp h = let mine = adder_is s a m at ok.1 in ap (λ i. stored_in s.contents (backing s.places (place_for s.places i (page_of at))) at (now ∷ []) f) mine.0 ∙ stored_else s (mirror_proc s.plain m) (page_of at) at (now ∷ []) f (h.unstood (mirror_proc s.plain m) (page_of at))
contents_other c s t a b so k ok f sp h = refl

-- what a page shows that is not writable
stored_shows : (c : Program) (s : After) (t : Past) (p v at : ℕ) (bs : List ℕ) → Sound c s t → writable (s.places.place p v) ≡ true → (q u : ℕ) → writable (s.places.place q u) ≡ false →
    shown_by (stored_in s.contents (backing s.places (s.places.place p v)) at bs) (stood s.places.committed_to (s.places.place q u)) ≡ shown_by s.contents (stood s.places.committed_to (s.places.place q u))
stored_shows c s t p v at bs so w q u n = by (stood s.places.committed_to (s.places.place q u)) refl
  where
    clash : (q ≡ p) × (u ≡ v) → ⊥
    clash e = true_false (writable (s.places.place p v)) w (ap writable (ap (λ i. s.places.place i v) (sym e.0) ∙ ap (s.places.place q) (sym e.1)) ∙ n)

    by : (y : Option Frame) → stood s.places.committed_to (s.places.place q u) ≡ y → shown_by (stored_in s.contents (backing s.places (s.places.place p v)) at bs) y ≡ shown_by s.contents y
    by None e = refl
    by (Some f) e = stored_else s p v at bs f (λ k. clash (so.frames.alone p v q u f w k e))

pub shows_after : (c : Program) (s : After) (t : Past) (a : ℕ) → Sound c s t → (k : Kind) → Allowed c s t a k → (q u : ℕ) → writable (s.places.place q u) ≡ false → (o : ℕ) → o < 4096 → shows (next s a k) (s.places.place q u) o ≡ shows s (s.places.place q u) o
shows_after c s t a so (Kind.Take g) ok q u n o l = ap (λ (i : ℕ → ℕ). i o) (ap (shown_by (with_frame s.contents g zeros)) (stood_else s.places.committed_to g None (s.places.place q u) (λ e. true_false (s.places.held g) (so.frames.names_held q u g e) free)) ∙ shown_else s.contents g zeros (stood s.places.committed_to (s.places.place q u)) (λ e. true_false (s.places.held g) (so.frames.stands_held q u g e) free))
  where
    free : s.places.held g ≡ false
    free = (free_says c s.places g.pool g ok).1
shows_after c s t a so (Kind.Copied i g k) ok q u n o l = ap (λ (i : ℕ → ℕ). i o) (shown_else s.contents g (with_part_copied (s.contents i) (s.contents g) k) (stood s.places.committed_to (s.places.place q u)) (ok.unstood q u))
shows_after c s t a so (Kind.Stored y at bs) ok q u n o l = ap (λ i. shown_by (stored_in s.contents (backing s.places (place_for s.places i (page_of at))) at bs) (stood s.places.committed_to (s.places.place q u)) o) (writer_is a c s at bs y ok.2) ∙ ap (λ (i : ℕ → ℕ). i o) (stored_shows c s t (proc_of s.plain y) (page_of at) at bs so (written_to (Kind.Stored y at bs) a c s (proc_of s.plain y) at bs y refl ok.2) q u n)
shows_after c s t a so (Kind.Added m at was now) ok q u n o l = let mine = adder_is s a m at ok.1 in ap (λ i. shown_by (stored_in s.contents (backing s.places (place_for s.places i (page_of at))) at (now ∷ [])) (stood s.places.committed_to (s.places.place q u)) o) mine.0 ∙ ap (λ (i : ℕ → ℕ). i o) (stored_shows c s t (mirror_proc s.plain m) (page_of at) at (now ∷ []) so (added_to s a m at mine.1) q u n)
shows_after c s t a so (Kind.Committed i g) ok q u n o l = by (commit_cases s.places.committed_to i g (s.places.place q u))
  where
    by : ((moving_frame (s.places.place q u) ≡ Some i) × (stood (with_frame s.places.committed_to i (Some g)) (s.places.place q u) ≡ Some g)) ⊎ ((moving_frame (s.places.place q u) ≡ Some i → ⊥) × (stood (with_frame s.places.committed_to i (Some g)) (s.places.place q u) ≡ stood s.places.committed_to (s.places.place q u))) →
        shown_by s.contents (stood (with_frame s.places.committed_to i (Some g)) (s.places.place q u)) o ≡ shown_by s.contents (stood s.places.committed_to (s.places.place q u)) o
    by (inl e) = ap (λ y. shown_by s.contents y o) e.1 ∙ ok.2 o l ∙ sym (ap (λ y. shown_by s.contents y o) (stands_itself s.places.committed_to (s.places.place q u) i ok.0.0.fresh (moving_names (s.places.place q u) i e.0).0))
    by (inr e) = ap (λ y. shown_by s.contents y o) e.1
shows_after c s t a so k ok q u n o l = refl
