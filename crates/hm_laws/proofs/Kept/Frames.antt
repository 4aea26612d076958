-- Frames after an entry.
use Rattle.std.proofs.Common.{◌≡◌, ◌≢◌, ℕ, ◌⊎◌, inl, inr, Bool, true, false, is_some, Option, Some, None, refl, sym, ap, ◌∙◌, subst, arith, unwrap_or}
use Rattle.std.proofs.lemmas.Bool.Decides.{nat_tests}
use Rattle.hm_base.specs.Program.{Program}
use Rattle.hm_base.specs.declared.Frame.{Frame}
use Rattle.hm_base.specs.declared.Place.{Place}
use Rattle.hm_history.specs.Memory.Words.{same_frame, is_frame, with_frame, names, names_directly, moving_frame, writable, is_empty_place}
use Rattle.hm_history.specs.Memory.Places.{Places, is_page, with_page, with_place, places_next, lowest_named}
use Rattle.hm_history.specs.Memory.Locks.{Locks, frame_placed, frame_next, with_lock, orphan}
use Rattle.hm_history.specs.Memory.After.{After}
use Rattle.hm_history.specs.Kernel.Due.{has_no_frame}
use Rattle.hm_history.specs.declared.Kind.{Kind}
use Rattle.hm_laws.specs.Stood.{stood, is_moving, IsNamed, Unnamed}
use Rattle.hm_laws.specs.Past.{Past}
use Rattle.hm_laws.specs.Sound.{PlaceRules, FrameRules, Sound}
use Rattle.hm_laws.specs.Allowed.{next, PlaceOk, Allowed}
use Rattle.hm_laws.proofs.State.Search.{lowest_none}
use Rattle.hm_laws.proofs.Kept.Pools.{free_says}
use Rattle.hm_laws.proofs.Kept.Areas.{placed_cases, places_kept}
use Rattle.hm_laws.proofs.Kept.Contents.{stood_else, commit_cases}
use Rattle.hm_laws.proofs.Kept.PlaceLocks.{lowest_passes, LockMove, Stays, Settles, Freezes, Leaves, PlacedMove, Same, Unlocks, Locks_it, placed_move, LeftMove, Left, Kept, left_move}
use Rattle.hm_history.proofs.Frames.{frame_tells, is_frame_from, is_frame_of}
use Rattle.hm_history.proofs.Tests.{true_false}

pub names_stays : (x : Place) (f : Frame) → names x ≡ Some f → is_empty_place x ≡ false
names_stays x f n = grind arith

-- an untouched page is one that names no frame
pub untouched_unnamed : (x : Place) → has_no_frame x ≡ true → names x ≡ None
untouched_unnamed x h = grind arith

pub unnamed_untouched : (x : Place) → names x ≡ None → has_no_frame x ≡ true
unnamed_untouched x n = grind arith

pub moving_names : (x : Place) (f : Frame) → moving_frame x ≡ Some f → (names x ≡ Some f) × (is_moving x ≡ true)
moving_names Place.Empty f e = cc
moving_names Place.Zero f e = cc
moving_names (Place.Sys n w) f e = cc
moving_names (Place.Own d n w) f e = cc
moving_names (Place.Moving g w) f e = (e, refl)
moving_names (Place.Exclusive n b) f e = cc

pub names_moving : (x : Place) (f : Frame) → names x ≡ Some f → is_moving x ≡ true → moving_frame x ≡ Some f
names_moving Place.Empty f n e = cc
names_moving Place.Zero f n e = cc
names_moving (Place.Sys n w) f m e = cc
names_moving (Place.Own d n w) f m e = cc
names_moving (Place.Moving g w) f n e = n
names_moving (Place.Exclusive n b) f m e = cc

pub direct_names : (x : Place) (f : Frame) → names_directly x ≡ Some f → (names x ≡ Some f) × (is_moving x ≡ false)
direct_names Place.Empty f e = cc
direct_names Place.Zero f e = cc
direct_names (Place.Sys n w) f e = (e, refl)
direct_names (Place.Own d n w) f e = (e, refl)
direct_names (Place.Moving g w) f e = cc
direct_names (Place.Exclusive n b) f e = (e, refl)

pub stands_itself : (to : Frame → Option Frame) (x : Place) (f : Frame) → to f ≡ None → names x ≡ Some f → stood to x ≡ Some f
stands_itself to Place.Empty f e n = cc
stands_itself to Place.Zero f e n = cc
stands_itself to (Place.Sys i w) f e n = n
stands_itself to (Place.Own d i w) f e n = n
stands_itself to (Place.Moving g w) f e n = by (to g) refl
  where
    same : Some g ≡ Some f → g ≡ f
    same k = cc

    by : (y : Option Frame) → to g ≡ y → Some (unwrap_or y g) ≡ Some f
    by None ey = n
    by (Some h) ey = absurd (clash (sym ey ∙ ap to (same n) ∙ e))
      where
        clash : Some h ≡ None → ⊥
        clash k = cc
stands_itself to (Place.Exclusive i b) f e n = n

-- a place and the locks
pub lock_move : (l : Locks) (t : Places) (a p v : ℕ) (x : Place) (f : Frame) → PlaceRules (with_place t.place p v x) (with_page p v t.placed) →
    LockMove t.place l.frame a p v x f (frame_next l t a (Kind.Place p v x) f)
lock_move l t a p v x f rules = by (orphan l t (Kind.Place p v x)) (left_move l (places_next t (Kind.Place p v x)) (names (t.place p v)) f) (placed_move l (t.place p v) a x f)
  where
    after : Places
    after = places_next t (Kind.Place p v x)

    none : lowest_named after f ≡ None → Unnamed (with_place t.place p v x) f
    none e q u n = true_false (is_frame (names (with_place t.place p v x q u)) f) (is_frame_of (names (with_place t.place p v x q u)) f n) (lowest_none (λ i j. is_frame (names (with_place t.place p v x i j)) f) (with_page p v t.placed) q u e (rules.listed q u (names_stays (with_place t.place p v x q u) f n)))

    some : (lowest_named after f ≡ None → ⊥) → IsNamed (with_place t.place p v x) f
    some ne = at (lowest_named after f) refl
      where
        at : (z : Option (ℕ × ℕ)) → lowest_named after f ≡ z → IsNamed (with_place t.place p v x) f
        at None e = absurd (ne e)
        at (Some z) e = (z.0, z.1, is_frame_from (names (with_place t.place p v x z.0 z.1)) f (lowest_passes (λ i j. is_frame (names (with_place t.place p v x i j)) f) (with_page p v t.placed) z e))

    off : (o : Option Frame) → (o ≡ Some f → ⊥) → with_lock (frame_placed l (t.place p v) a x) o (Some a) f ≡ frame_placed l (t.place p v) a x f
    off None ne = refl
    off (Some k) ne = grind (arith, frame_tells f k)

    on : (o : Option Frame) → o ≡ Some f → with_lock (frame_placed l (t.place p v) a x) o (Some a) f ≡ Some a
    on None e = cc
    on (Some k) e = grind (arith, frame_tells f k)

    by : (o : Option Frame) → LeftMove l.frame after (names (t.place p v)) f o → PlacedMove l.frame (t.place p v) a x f (frame_placed l (t.place p v) a x f) → LockMove t.place l.frame a p v x f (with_lock (frame_placed l (t.place p v) a x) o (Some a) f)
    by o (Left is named was gone) m = Leaves named was (none gone) (on o is)
    by o (Kept is used) (Same e fr) = Stays (off o is ∙ e) (λ n e2. some (used n e2)) fr
    by o (Kept is used) (Unlocks n w ix fe old was now) = Settles n w ix fe old was (off o is ∙ now)
    by o (Kept is used) (Locks_it ix was now) = Freezes ix was (off o is ∙ now)

-- what a place does to the frames
place_frames : (c : Program) (s : After) (t : Past) (a p v : ℕ) (x : Place) → Sound c s t → PlaceOk s t a p v x → FrameRules (with_place s.places.place p v x) s.places.held s.places.committed_to (frame_next s.locks s.places a (Kind.Place p v x))
place_frames c s t a p v x so ok = record {
  names_held = λ q u f n. grind (arith, nat_tests, so.frames.names_held q u f, ok.frames.names_held f);
  stands_held = λ q u f n. grind (arith, nat_tests, so.frames.stands_held q u f, ok.frames.stands_held f);
  one_page = λ q u r w f n m. grind (arith, nat_tests, so.frames.one_page q u r w f, ok.frames.one_page r w f, ok.frames.one_page q u f);
  stood_page = λ q u r w f n m. grind (arith, nat_tests, so.frames.stood_page q u r w f, ok.frames.stood_page r w f, ok.frames.stood_page q u f);
  alone = λ q u r w f b n m. grind (arith, nat_tests, so.frames.alone q u r w f, ok.frames.alone r w f, ok.frames.others q u f);
  locked_held = λ f b k. locked f b k (move f);
  held_used = λ f h k. used f h k (move f);
  moving_locked = λ q u f n. moving q u f n (placed_cases s.places.place p v x q u) (move f);
  stands_locked = λ q u f m n. stands q u f m n (placed_cases s.places.place p v x q u) (move f);
  direct_fresh = λ q u f n. grind (arith, nat_tests, so.frames.direct_fresh q u f, ok.frames.direct_fresh f);
}
  where
    lock : Frame → Option ℕ
    lock = frame_next s.locks s.places a (Kind.Place p v x)

    move : (f : Frame) → LockMove s.places.place s.locks.frame a p v x f (lock f)
    move f = lock_move s.locks s.places a p v x f (places_kept c s t a so (Kind.Place p v x) ok)

    clash : (b : ℕ) → None ≡ Some b → ⊥
    clash b h = cc

    locked : (f : Frame) (b : ℕ) → lock f ≡ Some b → LockMove s.places.place s.locks.frame a p v x f (lock f) → s.places.held f ≡ true
    locked f b k (Stays e u fr) = so.frames.locked_held f b (sym e ∙ k)
    locked f b k (Settles n w ix fe old was now) = absurd (clash b (sym now ∙ k))
    locked f b k (Freezes ix was now) = ok.frames.names_held f (moving_names x f ix).0
    locked f b k (Leaves ix was un now) = so.frames.names_held p v f ix

    still : (f : Frame) → IsNamed s.places.place f → (names (s.places.place p v) ≡ Some f → IsNamed (with_place s.places.place p v x) f) → IsNamed (with_place s.places.place p v x) f
    still f h k = at (same (is_page p v (h.0, h.1)) refl)
      where
        same : (b : Bool) → is_page p v (h.0, h.1) ≡ b → ((h.0 ≡ p) × (h.1 ≡ v)) ⊎ (with_place s.places.place p v x h.0 h.1 ≡ s.places.place h.0 h.1)
        same true e = inl (grind (arith, nat_tests), grind (arith, nat_tests))
        same false e = inr (grind (arith, nat_tests))

        at : ((h.0 ≡ p) × (h.1 ≡ v)) ⊎ (with_place s.places.place p v x h.0 h.1 ≡ s.places.place h.0 h.1) → IsNamed (with_place s.places.place p v x) f
        at (inl e) = k (ap (λ i. names (s.places.place i v)) (sym e.0) ∙ ap (λ i. names (s.places.place h.0 i)) (sym e.1) ∙ h.2)
        at (inr e) = (h.0, h.1, ap names e ∙ h.2)

    here : with_place s.places.place p v x p v ≡ x
    here = grind (arith, nat_tests)

    some_clash : (b : ℕ) → Some b ≡ None → ⊥
    some_clash b h = cc

    used : (f : Frame) → s.places.held f ≡ true → lock f ≡ None → LockMove s.places.place s.locks.frame a p v x f (lock f) → IsNamed (with_place s.places.place p v x) f
    used f h k (Stays e u fr) = still f (so.frames.held_used f h (sym e ∙ k)) (λ n. u n (sym e ∙ k))
    used f h k (Settles n w ix fe old was now) = (p, v, ap names here ∙ ap names ix ∙ ap Some (sym fe))
    used f h k (Freezes ix was now) = absurd (some_clash a (sym now ∙ k))
    used f h k (Leaves ix was un now) = absurd (some_clash a (sym now ∙ k))

    moving : (q u : ℕ) (f : Frame) → moving_frame (with_place s.places.place p v x q u) ≡ Some f → ((q ≡ p) × (u ≡ v) × (with_place s.places.place p v x q u ≡ x)) ⊎ (with_place s.places.place p v x q u ≡ s.places.place q u) →
        LockMove s.places.place s.locks.frame a p v x f (lock f) → is_some (lock f) ≡ true
    moving q u f n (inl e) (Stays k us fr) = ap is_some k ∙ fr (sym (ap moving_frame e.2) ∙ n)
    moving q u f n (inr e) (Stays k us fr) = ap is_some k ∙ so.frames.moving_locked q u f (sym (ap moving_frame e) ∙ n)
    moving q u f n (inl e) (Settles i w ix fe old was now) = absurd (no_frame i w (sym (ap moving_frame (e.2 ∙ ix)) ∙ n))
      where
        no_frame : (i : ℕ) (w : Bool) → moving_frame (Place.Sys i w) ≡ Some f → ⊥
        no_frame i w h = cc
    moving q u f n (inr e) (Settles i w ix fe old was now) = absurd ((ok.hand_over.settles i w ix old (ap s.locks.frame (sym fe) ∙ was)).0 q u ((moving_names (s.places.place q u) f (sym (ap moving_frame e) ∙ n)).0 ∙ ap Some fe))
    moving q u f n e (Freezes ix was now) = ap is_some now
    moving q u f n e (Leaves ix was un now) = ap is_some now

    stands : (q u : ℕ) (f : Frame) → is_moving (with_place s.places.place p v x q u) ≡ true → stood s.places.committed_to (with_place s.places.place p v x q u) ≡ Some f → ((q ≡ p) × (u ≡ v) × (with_place s.places.place p v x q u ≡ x)) ⊎ (with_place s.places.place p v x q u ≡ s.places.place q u) →
        LockMove s.places.place s.locks.frame a p v x f (lock f) → is_some (lock f) ≡ true
    stands q u f m n (inl e) (Stays k us fr) = ap is_some k ∙ by (ok.hand_over.stays_locked f (sym (ap is_moving e.2) ∙ m) (sym (ap (stood s.places.committed_to) e.2) ∙ n))
      where
        by : (moving_frame x ≡ Some f) ⊎ (is_some (s.locks.frame f) ≡ true) → is_some (s.locks.frame f) ≡ true
        by (inl h) = fr h
        by (inr h) = h
    stands q u f m n (inr e) (Stays k us fr) = ap is_some k ∙ so.frames.stands_locked q u f (sym (ap is_moving e) ∙ m) (sym (ap (stood s.places.committed_to) e) ∙ n)
    stands q u f m n (inl e) (Settles i w ix fe old was now) = absurd (not_moving i w (sym (ap is_moving (e.2 ∙ ix)) ∙ m))
      where
        not_moving : (i : ℕ) (w : Bool) → is_moving (Place.Sys i w) ≡ true → ⊥
        not_moving i w h = cc
    stands q u f m n (inr e) (Settles i w ix fe old was now) = absurd ((ok.hand_over.settles i w ix old (ap s.locks.frame (sym fe) ∙ was)).1 q u (sym (ap (stood s.places.committed_to) e) ∙ n ∙ ap Some fe))
    stands q u f m n e (Freezes ix was now) = ap is_some now
    stands q u f m n e (Leaves ix was un now) = ap is_some now

-- a place before and after a commit
abbrev AfterCommit : (Frame → Option Frame) → Frame → Frame → Place → Type 0
AfterCommit to f g x = ((moving_frame x ≡ Some f) × (stood (with_frame to f (Some g)) x ≡ Some g)) ⊎ ((moving_frame x ≡ Some f → ⊥) × (stood (with_frame to f (Some g)) x ≡ stood to x))

pub frames_kept : (c : Program) (s : After) (t : Past) (a : ℕ) → Sound c s t → (k : Kind) → Allowed c s t a k → FrameRules (next s a k).places.place (next s a k).places.held (next s a k).places.committed_to (next s a k).locks.frame
frames_kept c s t a so (Kind.Take f) ok = record {
  names_held = λ p v g n. grind (arith, frame_tells g f, so.frames.names_held p v g);
  stands_held = λ p v g n. grind (arith, frame_tells g f, so.frames.stands_held p v g (sym (same p v) ∙ n));
  one_page = so.frames.one_page;
  stood_page = λ p v q u g n m. so.frames.stood_page p v q u g (sym (same p v) ∙ n) (sym (same q u) ∙ m);
  alone = λ p v q u g b n m. so.frames.alone p v q u g b (sym (same p v) ∙ n) (sym (same q u) ∙ m);
  locked_held = λ g b l. grind (arith, frame_tells g f, so.frames.locked_held g b);
  held_used = λ g h l. used g h l (frame_tells g f);
  moving_locked = λ p v g n. grind (arith, frame_tells g f, so.frames.moving_locked p v g n);
  stands_locked = λ p v g m n. grind (arith, frame_tells g f, so.frames.stands_locked p v g m (sym (same p v) ∙ n));
  direct_fresh = λ p v g n. grind (arith, frame_tells g f, so.frames.direct_fresh p v g n);
}
  where
    free : s.places.held f ≡ false
    free = (free_says c s.places f.pool f ok).1

    same : (p v : ℕ) → stood (with_frame s.places.committed_to f None) (s.places.place p v) ≡ stood s.places.committed_to (s.places.place p v)
    same p v = stood_else s.places.committed_to f None (s.places.place p v) (λ e. grind (arith, so.frames.names_held p v f e, free))

    used : (g : Frame) → with_frame s.places.held f true g ≡ true → with_frame s.locks.frame f (Some a) g ≡ None → ((same_frame g f ≡ true) × (g ≡ f)) ⊎ ((same_frame g f ≡ false) × (g ≢ f)) → IsNamed s.places.place g
    used g h l (inl e) = absurd (grind arith)
    used g h l (inr e) = so.frames.held_used g (grind arith) (grind arith)
frames_kept c s t a so (Kind.Drop f) ok = record {
  names_held = λ p v g n. grind (arith, frame_tells g f, so.frames.names_held p v g, ok.unnamed p v);
  stands_held = λ p v g n. grind (arith, frame_tells g f, so.frames.stands_held p v g, ok.unstood p v);
  one_page = so.frames.one_page;
  stood_page = so.frames.stood_page;
  alone = so.frames.alone;
  locked_held = λ g b l. grind (arith, frame_tells g f, so.frames.locked_held g b);
  held_used = λ g h l. used g h l (frame_tells g f);
  moving_locked = λ p v g n. grind (arith, frame_tells g f, so.frames.moving_locked p v g n, ok.unnamed p v, (moving_names (s.places.place p v) g n).0);
  stands_locked = λ p v g m n. grind (arith, frame_tells g f, so.frames.stands_locked p v g m n, ok.unstood p v);
  direct_fresh = so.frames.direct_fresh;
}
  where
    used : (g : Frame) → with_frame s.places.held f false g ≡ true → with_frame s.locks.frame f None g ≡ None → ((same_frame g f ≡ true) × (g ≡ f)) ⊎ ((same_frame g f ≡ false) × (g ≢ f)) → IsNamed s.places.place g
    used g h l (inl e) = absurd (grind arith)
    used g h l (inr e) = so.frames.held_used g (grind arith) (grind arith)
frames_kept c s t a so (Kind.Done f) ok = record {
  names_held = so.frames.names_held;
  stands_held = so.frames.stands_held;
  one_page = so.frames.one_page;
  stood_page = so.frames.stood_page;
  alone = so.frames.alone;
  locked_held = λ g b l. grind (arith, frame_tells g f, so.frames.locked_held g b);
  held_used = λ g h l. used g h l (frame_tells g f);
  moving_locked = λ p v g n. grind (arith, frame_tells g f, so.frames.moving_locked p v g n, ok.0.lands p v, moving_names (s.places.place p v) g n);
  stands_locked = λ p v g m n. grind (arith, frame_tells g f, so.frames.stands_locked p v g m n, ok.0.stood_by p v);
  direct_fresh = so.frames.direct_fresh;
}
  where
    used : (g : Frame) → s.places.held g ≡ true → with_frame s.locks.frame f None g ≡ None → ((same_frame g f ≡ true) × (g ≡ f)) ⊎ ((same_frame g f ≡ false) × (g ≢ f)) → IsNamed s.places.place g
    used g h l (inl e) = subst (IsNamed s.places.place) (sym e.1) ok.1
    used g h l (inr e) = so.frames.held_used g h (grind arith)
frames_kept c s t a so (Kind.Committed f g) ok = record {
  names_held = so.frames.names_held;
  stands_held = λ p v h n. held p v h n (cases p v);
  one_page = so.frames.one_page;
  stood_page = λ p v q u h n m. page p v q u h n m (cases p v) (cases q u);
  alone = λ p v q u h b n m. alone p v q u h b n m (cases p v) (cases q u);
  locked_held = so.frames.locked_held;
  held_used = so.frames.held_used;
  moving_locked = so.frames.moving_locked;
  stands_locked = λ p v h m n. locked p v h m n (cases p v);
  direct_fresh = λ p v h n. fresh p v h n (frame_tells h f);
}
  where
    cases : (p v : ℕ) → AfterCommit s.places.committed_to f g (s.places.place p v)
    cases p v = commit_cases s.places.committed_to f g (s.places.place p v)

    is_g : (h : Frame) (y : Option Frame) → y ≡ Some g → y ≡ Some h → h ≡ g
    is_g h y e d = cc

    was_f : (p v : ℕ) → moving_frame (s.places.place p v) ≡ Some f → (names (s.places.place p v) ≡ Some f) × (stood s.places.committed_to (s.places.place p v) ≡ Some f)
    was_f p v e = ((moving_names (s.places.place p v) f e).0, stands_itself s.places.committed_to (s.places.place p v) f ok.0.0.fresh (moving_names (s.places.place p v) f e).0)

    held : (p v : ℕ) (h : Frame) → stood (with_frame s.places.committed_to f (Some g)) (s.places.place p v) ≡ Some h → AfterCommit s.places.committed_to f g (s.places.place p v) → s.places.held h ≡ true
    held p v h n (inl e) = ap s.places.held (is_g h _ e.1 n) ∙ so.frames.locked_held g a ok.1.0.mine
    held p v h n (inr e) = so.frames.stands_held p v h (sym e.1 ∙ n)

    page : (p v q u : ℕ) (h : Frame) → stood (with_frame s.places.committed_to f (Some g)) (s.places.place p v) ≡ Some h → stood (with_frame s.places.committed_to f (Some g)) (s.places.place q u) ≡ Some h → AfterCommit s.places.committed_to f g (s.places.place p v) → AfterCommit s.places.committed_to f g (s.places.place q u) → u ≡ v
    page p v q u h n m (inl e) (inl d) = so.frames.one_page p v q u f (was_f p v e.0).0 (was_f q u d.0).0
    page p v q u h n m (inl e) (inr d) = absurd (ok.1.0.unstood q u (sym d.1 ∙ m ∙ ap Some (is_g h _ e.1 n)))
    page p v q u h n m (inr e) (inl d) = absurd (ok.1.0.unstood p v (sym e.1 ∙ n ∙ ap Some (is_g h _ d.1 m)))
    page p v q u h n m (inr e) (inr d) = so.frames.stood_page p v q u h (sym e.1 ∙ n) (sym d.1 ∙ m)

    alone : (p v q u : ℕ) (h : Frame) → writable (s.places.place p v) ≡ true → stood (with_frame s.places.committed_to f (Some g)) (s.places.place p v) ≡ Some h → stood (with_frame s.places.committed_to f (Some g)) (s.places.place q u) ≡ Some h → AfterCommit s.places.committed_to f g (s.places.place p v) → AfterCommit s.places.committed_to f g (s.places.place q u) → (q ≡ p) × (u ≡ v)
    alone p v q u h b n m (inl e) (inl d) = so.frames.alone p v q u f b (was_f p v e.0).1 (was_f q u d.0).1
    alone p v q u h b n m (inl e) (inr d) = absurd (ok.1.0.unstood q u (sym d.1 ∙ m ∙ ap Some (is_g h _ e.1 n)))
    alone p v q u h b n m (inr e) (inl d) = absurd (ok.1.0.unstood p v (sym e.1 ∙ n ∙ ap Some (is_g h _ d.1 m)))
    alone p v q u h b n m (inr e) (inr d) = so.frames.alone p v q u h b (sym e.1 ∙ n) (sym d.1 ∙ m)

    locked : (p v : ℕ) (h : Frame) → is_moving (s.places.place p v) ≡ true → stood (with_frame s.places.committed_to f (Some g)) (s.places.place p v) ≡ Some h → AfterCommit s.places.committed_to f g (s.places.place p v) → is_some (s.locks.frame h) ≡ true
    locked p v h m n (inl e) = ap (λ i. is_some (s.locks.frame i)) (is_g h _ e.1 n) ∙ ap is_some ok.1.0.mine
    locked p v h m n (inr e) = so.frames.stands_locked p v h m (sym e.1 ∙ n)

    fresh : (p v : ℕ) (h : Frame) → names_directly (s.places.place p v) ≡ Some h → ((same_frame h f ≡ true) × (h ≡ f)) ⊎ ((same_frame h f ≡ false) × (h ≢ f)) → with_frame s.places.committed_to f (Some g) h ≡ None
    fresh p v h n (inl e) = absurd (true_false (is_moving (s.places.place p v)) (ok.0.1 p v ((direct_names (s.places.place p v) h n).0 ∙ ap Some e.1)) (direct_names (s.places.place p v) h n).1)
    fresh p v h n (inr e) = rw e.0 (so.frames.direct_fresh p v h n)
frames_kept c s t a so (Kind.Place p v x) ok = place_frames c s t a p v x so ok
frames_kept c s t a so k ok = so.frames
