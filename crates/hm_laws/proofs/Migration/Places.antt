-- Places that a migration puts in: a page is frozen, and returns to the frame that it stands for.
use Rattle.std.proofs.Common.{◌≡◌, ℕ, ◌%◌, ◌⊎◌, inl, inr, Bool, true, false, ◌&&◌, not, Option, Some, None, refl, sym, ap, ◌∙◌, arith, unwrap_or}
use Rattle.std.proofs.lemmas.Option.{same_Some}
use Rattle.hm_base.specs.Program.{Program}
use Rattle.hm_base.specs.declared.PoolId.{PoolId}
use Rattle.hm_base.specs.declared.Frame.{Frame}
use Rattle.hm_base.specs.declared.Place.{Place}
use Rattle.hm_history.specs.Memory.Words.{sys_frame, dev_frame, names, names_directly, moving_frame, writable, is_empty_place, place_in}
use Rattle.hm_history.specs.Memory.Places.{is_exclusive}
use Rattle.hm_history.specs.Memory.Lookups.{loses, is_guarded}
use Rattle.hm_history.specs.Memory.Contents.{shown_by}
use Rattle.hm_history.specs.Memory.After.{After}
use Rattle.hm_laws.specs.Stood.{stood, is_moving}
use Rattle.hm_laws.specs.Past.{Past}
use Rattle.hm_laws.specs.Sound.{Sound}
use Rattle.hm_laws.specs.Allowed.{shows, Mover, PlaceOk}
use Rattle.hm_laws.proofs.Kept.Frames.{names_stays, untouched_unnamed, moving_names, direct_names}
use Rattle.hm_history.proofs.Tests.{some_none, true_false}

-- a place that names its frame directly stands for it
pub stood_direct : (to : Frame → Option Frame) (x : Place) (f : Frame) → names_directly x ≡ Some f → stood to x ≡ Some f
stood_direct to Place.Empty f e = cc
stood_direct to Place.Zero f e = cc
stood_direct to (Place.Sys n w) f e = e
stood_direct to (Place.Own d n w) f e = e
stood_direct to (Place.Moving g w) f e = cc
stood_direct to (Place.Exclusive n b) f e = e

stood_frozen : (to : Frame → Option Frame) (f : Frame) (w : Bool) → to f ≡ None → stood to (Place.Moving f w) ≡ Some f
stood_frozen to f w e = ap (λ y. Some (unwrap_or y f)) e

-- a page that names a frame directly is frozen
pub freeze_ok : (c : Program) (s : After) (t : Past) (a p v : ℕ) (f : Frame) → Sound c s t → names_directly (s.places.place p v) ≡ Some f → (s.locks.frame f ≡ None) ⊎ (s.locks.frame f ≡ Some a) → is_guarded s.sequences a p v ≡ true → PlaceOk s t a p v (Place.Moving f (writable (s.places.place p v)))
freeze_ok c s t a p v f so direct lock guard = record {
  who = Mover was refl (λ o l. ap (λ y. shown y o) st) refl;
  ranged = λ k. so.places.ranged p v was;
  frames = record {
    names_held = λ i n. so.frames.names_held p v i (named ∙ n);
    stands_held = λ i n. so.frames.stands_held p v i (sym st ∙ n);
    one_page = λ q u i n m. so.frames.one_page p v q u i (named ∙ n) m;
    stood_page = λ q u i n m. so.frames.stood_page p v q u i (sym st ∙ n) m;
    alone = λ q u i w n m. so.frames.alone p v q u i w (sym st ∙ n) m;
    others = λ q u i w n m. turned (so.frames.alone q u p v i w m (sym st ∙ n));
    direct_fresh = λ i n. cc;
  };
  hand_over = record {
    fresh_names = λ i n. inr (p, v, named ∙ n, λ m. cc);
    fresh_stands = λ i n. inr (p, v, sym st ∙ n, sym named);
    freezes = λ i n. mine i (same_Some f i n) lock;
    finishes = λ i k. absurd (true_false (is_moving (s.places.place p v)) (moving_names (s.places.place p v) i k).1 lands);
    owned = λ d n w k. inr (device d n w k lock);
    touched = λ k. cc;
    settles = λ n w k m i. cc;
    stays_locked = λ i m n. inl (sym (stood_frozen s.places.committed_to f (writable (s.places.place p v)) fresh) ∙ n);
  };
  process = record {
    in_area = λ th e. so.areas.in_area p v th was;
    may_write = λ w. so.areas.may_write p v w;
    contents = λ y k th e. ap (λ z. shown z (y % 4096)) st ∙ ap (λ j. shows s (s.places.place p j) (y % 4096)) (sym k) ∙ so.reads.reads p y th (ap (λ j. is_empty_place (s.places.place p j)) k ∙ was);
    empties = λ k. cc;
  };
  mirrors = record {
    guarded = λ l. guard;
    lands = λ m l. absurd (true_false (is_moving (s.places.place p v)) m lands);
  };
}
  where
    shown : Option Frame → ℕ → ℕ
    shown = shown_by s.contents

    was : is_empty_place (s.places.place p v) ≡ false
    was = names_stays (s.places.place p v) f (direct_names (s.places.place p v) f direct).0

    lands : is_moving (s.places.place p v) ≡ false
    lands = (direct_names (s.places.place p v) f direct).1

    named : names (s.places.place p v) ≡ Some f
    named = (direct_names (s.places.place p v) f direct).0

    fresh : s.places.committed_to f ≡ None
    fresh = so.frames.direct_fresh p v f direct

    st : stood s.places.committed_to (Place.Moving f (writable (s.places.place p v))) ≡ stood s.places.committed_to (s.places.place p v)
    st = stood_frozen s.places.committed_to f (writable (s.places.place p v)) fresh ∙ sym (stood_direct s.places.committed_to (s.places.place p v) f direct)

    turned : {q u : ℕ} → (p ≡ q) × (v ≡ u) → (q ≡ p) × (u ≡ v)
    turned e = (sym e.0, sym e.1)

    mine : (i : Frame) → f ≡ i → (s.locks.frame f ≡ None) ⊎ (s.locks.frame f ≡ Some a) → (s.locks.frame i ≡ None) ⊎ ((s.locks.frame i ≡ Some a) ⊎ ((q : ℕ) × (u : ℕ) × (moving_frame (s.places.place q u) ≡ Some i)))
    mine i e (inl k) = inl (ap s.locks.frame (sym e) ∙ k)
    mine i e (inr k) = inr (inl (ap s.locks.frame (sym e) ∙ k))

    device : (d n : ℕ) (w : Bool) → s.places.place p v ≡ Place.Own d n w → (s.locks.frame f ≡ None) ⊎ (s.locks.frame f ≡ Some a) → (s.locks.frame (dev_frame d n) ≡ None) ⊎ ((s.locks.frame (dev_frame d n) ≡ Some a) ⊎ (is_empty_place (Place.Moving f (writable (s.places.place p v))) ≡ true))
    device d n w k l = by l
      where
        is : f ≡ dev_frame d n
        is = same_Some f (dev_frame d n) (sym direct ∙ ap names_directly k)

        by : (s.locks.frame f ≡ None) ⊎ (s.locks.frame f ≡ Some a) → (s.locks.frame (dev_frame d n) ≡ None) ⊎ ((s.locks.frame (dev_frame d n) ≡ Some a) ⊎ (is_empty_place (Place.Moving f (writable (s.places.place p v))) ≡ true))
        by (inl i) = inl (ap s.locks.frame (sym is) ∙ i)
        by (inr i) = inr (inl (ap s.locks.frame (sym is) ∙ i))

-- a place of a frame, by its pool
pub record InFrame (h : Frame) (w : Bool) (x : Place) : Type 0 where
  pub direct : names_directly x ≡ Some h
  pub unfrozen : moving_frame x ≡ None
  pub settled : is_moving x ≡ false
  pub shared : is_exclusive x ≡ false
  pub used : is_empty_place x ≡ false
  pub right : writable x ≡ w

pub in_frame : (h : Frame) (w : Bool) → InFrame h w (place_in h w)
in_frame h w = by h.pool refl
  where
    system : h.pool ≡ PoolId.System → sys_frame h.number ≡ h
    system e = grind arith

    device : (d : ℕ) → h.pool ≡ PoolId.Device d → dev_frame d h.number ≡ h
    device d e = grind arith

    by : (x : PoolId) → h.pool ≡ x → InFrame h w (elim x [ PoolId.System ↦ Place.Sys h.number w | PoolId.Device d ↦ Place.Own d h.number w ])
    by PoolId.System e = record { direct = ap Some (system e); unfrozen = refl; settled = refl; shared = refl; used = refl; right = refl }
    by (PoolId.Device d) e = record { direct = ap Some (device d e); unfrozen = refl; settled = refl; shared = refl; used = refl; right = refl }

same : (b d : Bool) → d ≡ b → (b && not d) ≡ false
same b d k = grind arith

-- a frozen page returns to the frame that it stands for, whose lock is the actor's
pub return_ok : (c : Program) (s : After) (t : Past) (a p v : ℕ) (f h : Frame) (w : Bool) (x : Place) → Sound c s t → s.places.place p v ≡ Place.Moving f w → InFrame h w x → stood s.places.committed_to (Place.Moving f w) ≡ Some h → s.locks.frame f ≡ Some a → s.locks.frame h ≡ Some a → s.places.committed_to h ≡ None →
    ((q u : ℕ) → names (s.places.place q u) ≡ Some h → u ≡ v) → PlaceOk s t a p v x
return_ok c s t a p v f h w x so e i stands mine dest fresh pages = record {
  who = Mover was i.used (λ o l. ap (λ y. shown y o) st) right;
  ranged = λ k. so.places.ranged p v was;
  frames = record {
    names_held = λ j n. ap s.places.held (sym (only j n)) ∙ so.frames.locked_held h a dest;
    stands_held = λ j n. so.frames.stands_held p v j (sym st ∙ n);
    one_page = λ q u j n m. pages q u (m ∙ ap Some (sym (only j n)));
    stood_page = λ q u j n m. so.frames.stood_page p v q u j (sym st ∙ n) m;
    alone = λ q u j k n m. so.frames.alone p v q u j (sym right ∙ k) (sym st ∙ n) m;
    others = λ q u j k n m. turned (so.frames.alone q u p v j k m (sym st ∙ n));
    direct_fresh = λ j n. ap s.places.committed_to (sym (same_Some h j (sym i.direct ∙ n))) ∙ fresh;
  };
  hand_over = record {
    fresh_names = λ j n. inl (ap s.locks.frame (sym (only j n)) ∙ dest);
    fresh_stands = λ j n. inl (ap s.locks.frame (sym (same_Some h j (sym stands ∙ ap (stood s.places.committed_to) (sym e) ∙ sym st ∙ n))) ∙ dest);
    freezes = λ j n. absurd (some_none (moving_frame x) j n i.unfrozen);
    finishes = λ j k. inr (inl (ap s.locks.frame (sym (same_Some f j (sym (ap moving_frame e) ∙ k))) ∙ mine));
    owned = λ d n z k. absurd (true_false (is_moving (s.places.place p v)) (ap is_moving e) (ap is_moving k));
    touched = λ k. absurd (some_none (names x) h (direct_names x h i.direct).0 (untouched_unnamed x k));
    settles = λ n z k m j. absurd (true_false (is_moving (s.places.place p v)) (ap is_moving e) m);
    stays_locked = λ j m n. absurd (true_false (is_moving x) m i.settled);
  };
  process = record {
    in_area = λ th k. so.areas.in_area p v th was;
    may_write = λ k. so.areas.may_write p v (sym right ∙ k);
    contents = λ y k th j. ap (λ z. shown z (y % 4096)) st ∙ ap (λ z. shows s (s.places.place p z) (y % 4096)) (sym k) ∙ so.reads.reads p y th (ap (λ z. is_empty_place (s.places.place p z)) k ∙ was);
    empties = λ k. absurd (true_false (is_empty_place x) k i.used);
  };
  mirrors = record {
    guarded = λ l. absurd (true_false (loses (s.places.place p v) x) l (nothing_lost (writable x) i.right));
    lands = λ m l. (st, i.settled, i.shared);
  };
}
  where
    shown : Option Frame → ℕ → ℕ
    shown = shown_by s.contents

    was : is_empty_place (s.places.place p v) ≡ false
    was = ap is_empty_place e

    st : stood s.places.committed_to x ≡ stood s.places.committed_to (s.places.place p v)
    st = stood_direct s.places.committed_to x h i.direct ∙ sym stands ∙ sym (ap (stood s.places.committed_to) e)

    right : writable x ≡ writable (s.places.place p v)
    right = i.right ∙ sym (ap writable e)

    only : (j : Frame) → names x ≡ Some j → h ≡ j
    only j n = same_Some h j (sym (direct_names x h i.direct).0 ∙ n)

    turned : {q u : ℕ} → (p ≡ q) × (v ≡ u) → (q ≡ p) × (u ≡ v)
    turned e = (sym e.0, sym e.1)

    nothing_lost : (z : Bool) → z ≡ w → loses (s.places.place p v) x ≡ false
    nothing_lost z k = ap (λ y. loses y x) e ∙ lost x i.used i.right
      where
        lost : (x : Place) → is_empty_place x ≡ false → writable x ≡ w → loses (Place.Moving f w) x ≡ false
        lost Place.Empty u r = cc
        lost Place.Zero u r = same w (writable Place.Zero) r
        lost (Place.Sys n d) u r = same w d r
        lost (Place.Own j n d) u r = same w d r
        lost (Place.Moving g d) u r = same w d r
        lost (Place.Exclusive n b) u r = same w true r
