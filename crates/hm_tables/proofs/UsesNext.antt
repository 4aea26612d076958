-- The lists of uses after a page's place was changed, by each of the ways.
use Rattle.std.proofs.Common.{◌≡◌, ℕ, ◌<◌, Bool, true, false, not, ◌&&◌, eqb, cond, Option, Some, None, option_map, List, length, refl, sym, ap, ◌∙◌, subst}
use Rattle.std.proofs.lemmas.Bool.{not-true, and_parts}
use Rattle.hm_base.specs.declared.PoolId.{PoolId}
use Rattle.hm_base.specs.declared.Frame.{Frame}
use Rattle.hm_base.specs.declared.Place.{Place}
use Rattle.hm_base.specs.PlaceWords.{same_frame, is_frame, names}
use Rattle.rev_maps.specs.Uses.{Uses, is_rising, with_moving}
use Rattle.rev_maps.proofs.Rising.{rising_moving}
use Rattle.hm_tables.specs.Values.{size_in, uses_in, is_moving, mark_by, mark_of}
use Rattle.hm_tables.specs.Steps.{without_use_of, with_use_of, with_mark_of, keeps_frame, freezes, keeps_use, uses_next, FrameFits, HasUseRoom, GainsUse, SaysOf}
use Rattle.hm_tables.proofs.Marks.{mark_moving}
use Rattle.hm_tables.proofs.PoolUses.{uses_with, count_with, size_with}
use Rattle.hm_tables.proofs.UsesKept.{mark_named, mark_other, unmarked, named_inside, exact_out, rising_out, size_out, count_out, room_out, none_out, gains_use, exact_in, rising_in, size_into, count_in}
use Rattle.hm_history.proofs.Frames.{frame_itself, frame_same}

-- a place that keeps the frame names it
kept_frame : (o : Option Frame) (y : Place) → keeps_frame o y ≡ true → o ≡ names y
kept_frame None y k = cc
kept_frame (Some f) y k = by (names y) k
  where
    by : (n : Option Frame) → is_frame n f ≡ true → Some f ≡ n
    by None k = cc
    by (Some g) k = ap (λ h. Some h) (sym (frame_same g f k))

-- marks of places that name one frame
mark_kept : (old y : Place) (g : Frame) → keeps_use old y ≡ true → mark_of old g ≡ mark_of y g
mark_kept old y g k =
    ap (λ o. cond (is_frame o g) (Some (is_moving old)) None) (kept_frame (names old) y (and_parts (not (is_moving y)) (keeps_frame (names old) y) rest).1)
    ∙ ap (λ m. cond (is_frame (names y) g) (Some m) None) (not-true (is_moving old) (and_parts (not (is_moving old)) (not (is_moving y) && keeps_frame (names old) y) k).0 ∙ sym (not-true (is_moving y) (and_parts (not (is_moving y)) (keeps_frame (names old) y) rest).0))
  where
    rest : (not (is_moving y) && keeps_frame (names old) y) ≡ true
    rest = (and_parts (not (is_moving old)) (not (is_moving y) && keeps_frame (names old) y) k).1

exact_mark : (pools : List (List Uses)) (p v : ℕ) (old y : Place) → SaysOf pools p v old → freezes old y ≡ true → (q u : ℕ) (g : Frame) →
    mark_by q u (uses_in (with_mark_of p v (names old) pools) g).list ≡ cond (eqb q p && eqb u v) (mark_of y g) (mark_by q u (uses_in pools g).list)
exact_mark pools p v old y says k q u g = by (names old) refl (kept_frame (names old) y (and_parts (is_moving y) (keeps_frame (names old) y) k).1)
  where
    moving : is_moving y ≡ true
    moving = (and_parts (is_moving y) (keeps_frame (names old) y) k).0

    set : (f : Frame) → names old ≡ Some f → (t : Bool) → (eqb q p && eqb u v) ≡ t → mark_by q u (uses_in pools f).list ≡ cond t (Some (is_moving old)) (mark_by q u (uses_in pools f).list)
    set f e t i = unmarked p v q u (uses_in pools f).list (Some (is_moving old)) (says f ∙ mark_named old f f e (frame_itself f)) ∙ ap (λ b. cond b (Some (is_moving old)) (mark_by q u (uses_in pools f).list)) i

    marked : (f : Frame) → names old ≡ Some f → (t : Bool) → (eqb q p && eqb u v) ≡ t →
        cond t (option_map (λ b. true) (mark_by q u (uses_in pools f).list)) (mark_by q u (uses_in pools f).list) ≡ cond t (Some true) (mark_by q u (uses_in pools f).list)
    marked f e true i = ap (option_map (λ b. true)) (set f e true i)
    marked f e false i = refl

    come : (f : Frame) → names old ≡ Some f → Some f ≡ names y → (b : Bool) → same_frame g f ≡ b →
        mark_by q u (cond b (record (uses_in pools f) { list = with_moving p v (uses_in pools f).list }) (uses_in pools g)).list ≡ cond (eqb q p && eqb u v) (mark_of y g) (mark_by q u (uses_in pools g).list)
    come f e n true s =
        mark_moving p v q u (uses_in pools f).list
        ∙ marked f e (eqb q p && eqb u v) refl
        ∙ ap (λ m. cond (eqb q p && eqb u v) (Some m) (mark_by q u (uses_in pools f).list)) (sym moving)
        ∙ ap (λ m. cond (eqb q p && eqb u v) m (mark_by q u (uses_in pools f).list)) (sym (mark_named y f g (sym n) s))
        ∙ ap (λ (h : Frame). cond (eqb q p && eqb u v) (mark_of y g) (mark_by q u (uses_in pools h).list)) (sym (frame_same g f s))
    come f e n false s = unmarked p v q u (uses_in pools g).list (mark_of y g) (says g ∙ mark_other old f g e s ∙ sym (mark_other y f g (sym n) s))

    by : (o : Option Frame) → names old ≡ o → o ≡ names y → mark_by q u (uses_in (with_mark_of p v o pools) g).list ≡ cond (eqb q p && eqb u v) (mark_of y g) (mark_by q u (uses_in pools g).list)
    by None e n = unmarked p v q u (uses_in pools g).list (mark_of y g) (says g ∙ ap (λ o. cond (is_frame o g) (Some (is_moving old)) None) e ∙ sym (ap (λ o. cond (is_frame o g) (Some (is_moving y)) None) (sym n)))
    by (Some f) e n =
        ap (λ (us : Uses). mark_by q u us.list) (uses_with pools f (record (uses_in pools f) { list = with_moving p v (uses_in pools f).list }) g (named_inside pools p v old says f e))
        ∙ come f e n (same_frame g f) refl

rising_mark : (pools : List (List Uses)) (p v : ℕ) (old : Place) → SaysOf pools p v old → ((g : Frame) → is_rising (uses_in pools g).list ≡ true) → (g : Frame) →
    is_rising (uses_in (with_mark_of p v (names old) pools) g).list ≡ true
rising_mark pools p v old says rising g = by (names old) refl
  where
    come : (f : Frame) (b : Bool) → is_rising (cond b (record (uses_in pools f) { list = with_moving p v (uses_in pools f).list }) (uses_in pools g)).list ≡ true
    come f true = rising_moving p v (uses_in pools f).list ∙ rising f
    come f false = rising g

    by : (o : Option Frame) → names old ≡ o → is_rising (uses_in (with_mark_of p v o pools) g).list ≡ true
    by None e = rising g
    by (Some f) e = ap (λ (us : Uses). is_rising us.list) (uses_with pools f (record (uses_in pools f) { list = with_moving p v (uses_in pools f).list }) g (named_inside pools p v old says f e)) ∙ come f (same_frame g f)

size_mark : (pools : List (List Uses)) (p v : ℕ) (old : Place) → SaysOf pools p v old → (pool : PoolId) → size_in (with_mark_of p v (names old) pools) pool ≡ size_in pools pool
size_mark pools p v old says pool = by (names old) refl
  where
    by : (o : Option Frame) → names old ≡ o → size_in (with_mark_of p v o pools) pool ≡ size_in pools pool
    by None e = refl
    by (Some f) e = size_with pools f (record (uses_in pools f) { list = with_moving p v (uses_in pools f).list }) pool (named_inside pools p v old says f e)

count_mark : (pools : List (List Uses)) (p v : ℕ) (o : Option Frame) → length (with_mark_of p v o pools) ≡ length pools
count_mark pools p v None = refl
count_mark pools p v (Some f) = count_with pools f (record (uses_in pools f) { list = with_moving p v (uses_in pools f).list })

-- all ways together

fits_out : (pools : List (List Uses)) (p v : ℕ) (old : Place) → SaysOf pools p v old → (o : Option Frame) → FrameFits (size_in pools) o → FrameFits (size_in (without_use_of p v (names old) pools)) o
fits_out pools p v old says None l = tt
fits_out pools p v old says (Some f) l = subst (λ n. f.number < n) (sym (size_out pools p v old says f.pool)) l

room_after : (pools : List (List Uses)) (p v : ℕ) (old : Place) → SaysOf pools p v old → (o : Option Frame) → HasUseRoom pools o → HasUseRoom (without_use_of p v (names old) pools) o
room_after pools p v old says None room = tt
room_after pools p v old says (Some f) room = room_out pools p v old says f room

pub gains_after : (pools : List (List Uses)) (p v : ℕ) (old : Place) → SaysOf pools p v old → (o : Option Frame) → HasUseRoom pools o → GainsUse (without_use_of p v (names old) pools) o p v
gains_after pools p v old says o room = gains_use (without_use_of p v (names old) pools) p v (none_out pools p v old says) o (room_after pools p v old says o room)

pub exact_next : (pools : List (List Uses)) (p v : ℕ) (old y : Place) → SaysOf pools p v old → FrameFits (size_in pools) (names y) → (q u : ℕ) (g : Frame) →
    mark_by q u (uses_in (uses_next p v old y pools) g).list ≡ cond (eqb q p && eqb u v) (mark_of y g) (mark_by q u (uses_in pools g).list)
exact_next pools p v old y says fits q u g = by (freezes old y) refl (keeps_use old y) refl
  where
    once : (t : Bool) → cond t (mark_of y g) (cond t None (mark_by q u (uses_in pools g).list)) ≡ cond t (mark_of y g) (mark_by q u (uses_in pools g).list)
    once true = refl
    once false = refl

    by : (b : Bool) → freezes old y ≡ b → (d : Bool) → keeps_use old y ≡ d →
        mark_by q u (uses_in (cond b (with_mark_of p v (names old) pools) (cond d pools (with_use_of p v (is_moving y) (names y) (without_use_of p v (names old) pools)))) g).list ≡ cond (eqb q p && eqb u v) (mark_of y g) (mark_by q u (uses_in pools g).list)
    by true e d f = exact_mark pools p v old y says e q u g
    by false e true f = unmarked p v q u (uses_in pools g).list (mark_of y g) (says g ∙ mark_kept old y g f)
    by false e false f =
        exact_in (without_use_of p v (names old) pools) p v y (none_out pools p v old says) (fits_out pools p v old says (names y) fits) q u g
        ∙ ap (cond (eqb q p && eqb u v) (mark_of y g)) (exact_out pools p v old says q u g)
        ∙ once (eqb q p && eqb u v)

pub rising_next : (pools : List (List Uses)) (p v : ℕ) (old y : Place) → SaysOf pools p v old → FrameFits (size_in pools) (names y) → ((g : Frame) → is_rising (uses_in pools g).list ≡ true) → (g : Frame) →
    is_rising (uses_in (uses_next p v old y pools) g).list ≡ true
rising_next pools p v old y says fits rising g = by (freezes old y) (keeps_use old y)
  where
    by : (b d : Bool) → is_rising (uses_in (cond b (with_mark_of p v (names old) pools) (cond d pools (with_use_of p v (is_moving y) (names y) (without_use_of p v (names old) pools)))) g).list ≡ true
    by true d = rising_mark pools p v old says rising g
    by false true = rising g
    by false false = rising_in (without_use_of p v (names old) pools) p v (is_moving y) (names y) (none_out pools p v old says) (fits_out pools p v old says (names y) fits) (rising_out pools p v old says rising) g

pub size_next : (pools : List (List Uses)) (p v : ℕ) (old y : Place) → SaysOf pools p v old → FrameFits (size_in pools) (names y) → (pool : PoolId) → size_in (uses_next p v old y pools) pool ≡ size_in pools pool
size_next pools p v old y says fits pool = by (freezes old y) (keeps_use old y)
  where
    by : (b d : Bool) → size_in (cond b (with_mark_of p v (names old) pools) (cond d pools (with_use_of p v (is_moving y) (names y) (without_use_of p v (names old) pools)))) pool ≡ size_in pools pool
    by true d = size_mark pools p v old says pool
    by false true = refl
    by false false = size_into (without_use_of p v (names old) pools) p v (is_moving y) (names y) (fits_out pools p v old says (names y) fits) pool ∙ size_out pools p v old says pool

pub count_next : (pools : List (List Uses)) (p v : ℕ) (old y : Place) → length (uses_next p v old y pools) ≡ length pools
count_next pools p v old y = by (freezes old y) (keeps_use old y)
  where
    by : (b d : Bool) → length (cond b (with_mark_of p v (names old) pools) (cond d pools (with_use_of p v (is_moving y) (names y) (without_use_of p v (names old) pools)))) ≡ length pools
    by true d = count_mark pools p v (names old)
    by false true = refl
    by false false = count_in (without_use_of p v (names old) pools) p v (is_moving y) (names y) ∙ count_out pools p v (names old)
