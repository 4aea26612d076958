-- The lists of uses after a place was changed: exactly the pages whose place names the frame.
use Rattle.std.proofs.Common.{◌≡◌, ℕ, ◌+◌, ◌<◌, ◌≤◌, Bool, true, false, ◌&&◌, eqb, cond, Option, Some, None, is_some, List, [], ◌∷◌, length, refl, sym, ap, ◌∙◌, subst, arith}
use Rattle.std.proofs.lemmas.Bool.{eqb-true, and_parts}
use Rattle.hm_base.specs.declared.PoolId.{PoolId}
use Rattle.hm_base.specs.declared.Frame.{Frame}
use Rattle.hm_base.specs.declared.Place.{Place}
use Rattle.hm_base.specs.PlaceWords.{same_frame, is_frame, names}
use Rattle.rev_maps.specs.declared.uses.Use.{Use}
use Rattle.rev_maps.specs.Uses.{Uses, is_rising, added, removed}
use Rattle.rev_maps.proofs.Rising.{rising_with, rising_without}
use Rattle.hm_tables.specs.Values.{size_in, uses_in, is_moving, mark_by, mark_of}
use Rattle.hm_tables.specs.Steps.{without_use_of, with_use_of, FrameFits, HasUseRoom, SaysOf, LosesUse, GainsUse}
use Rattle.hm_tables.proofs.Marks.{has_is, mark_with, mark_without}
use Rattle.hm_tables.proofs.PoolUses.{uses_with, count_with, size_with, frame_inside}
use Rattle.hm_tables.proofs.Truths.{page_itself}
use Rattle.hm_history.proofs.Frames.{frame_itself, frame_turned, frame_same}
use Rattle.hm_tables.proofs.Counts.{turned}

-- the mark that a place gives a frame
pub mark_named : (x : Place) (f g : Frame) → names x ≡ Some f → same_frame g f ≡ true → mark_of x g ≡ Some (is_moving x)
mark_named x f g e s = ap (λ o. cond (is_frame o g) (Some (is_moving x)) None) e ∙ ap (λ b. cond b (Some (is_moving x)) None) (frame_turned f g ∙ s)

pub mark_other : (x : Place) (f g : Frame) → names x ≡ Some f → same_frame g f ≡ false → mark_of x g ≡ None
mark_other x f g e s = ap (λ o. cond (is_frame o g) (Some (is_moving x)) None) e ∙ ap (λ b. cond b (Some (is_moving x)) None) (frame_turned f g ∙ s)

mark_none : (x : Place) (g : Frame) → names x ≡ None → mark_of x g ≡ None
mark_none x g e = ap (λ o. cond (is_frame o g) (Some (is_moving x)) None) e

-- a page that has no mark
same_at : (p v q u : ℕ) (us : List Use) → (eqb q p && eqb u v) ≡ true → mark_by q u us ≡ mark_by p v us
same_at p v q u us e = at (eqb-true q p (and_parts (eqb q p) (eqb u v) e).0) (eqb-true u v (and_parts (eqb q p) (eqb u v) e).1)
  where
    at : q ≡ p → u ≡ v → mark_by q u us ≡ mark_by p v us
    at a b = rw (a, b) refl

pub unmarked : (p v q u : ℕ) (us : List Use) (m : Option Bool) → mark_by p v us ≡ m → mark_by q u us ≡ cond (eqb q p && eqb u v) m (mark_by q u us)
unmarked p v q u us m h = by (eqb q p && eqb u v) refl
  where
    by : (b : Bool) → (eqb q p && eqb u v) ≡ b → mark_by q u us ≡ cond b m (mark_by q u us)
    by true e = same_at p v q u us e ∙ h
    by false e = refl

some_list : (p v : ℕ) (us : List Use) (b : Bool) → mark_by p v us ≡ Some b → us ≡ [] → ⊥
some_list p v [] b h e = cc
some_list p v (u ∷ us) b h e = cc

-- the page of a place that names a frame is one of its uses
pub named_inside : (pools : List (List Uses)) (p v : ℕ) (old : Place) → SaysOf pools p v old → (f : Frame) → names old ≡ Some f → f.number < size_in pools f.pool
named_inside pools p v old says f e = frame_inside pools f (some_list p v (uses_in pools f).list (is_moving old) (says f ∙ mark_named old f f e (frame_itself f)))

pub loses_use : (pools : List (List Uses)) (p v : ℕ) (old : Place) → SaysOf pools p v old → LosesUse pools (names old) p v
loses_use pools p v old says = by (names old) refl
  where
    by : (o : Option Frame) → names old ≡ o → LosesUse pools o p v
    by None e = tt
    by (Some f) e = has_is p v (uses_in pools f).list ∙ ap is_some (says f ∙ mark_named old f f e (frame_itself f))

-- after the old use was removed
pub exact_out : (pools : List (List Uses)) (p v : ℕ) (old : Place) → SaysOf pools p v old → (q u : ℕ) (g : Frame) →
    mark_by q u (uses_in (without_use_of p v (names old) pools) g).list ≡ cond (eqb q p && eqb u v) None (mark_by q u (uses_in pools g).list)
exact_out pools p v old says q u g = by (names old) refl
  where
    taken : (f : Frame) → names old ≡ Some f → (b : Bool) → same_frame g f ≡ b →
        mark_by q u (cond b (removed p v (uses_in pools f)) (uses_in pools g)).list ≡ cond (eqb q p && eqb u v) None (mark_by q u (uses_in pools g).list)
    taken f e true s = mark_without p v q u (uses_in pools f).list ∙ ap (λ (h : Frame). cond (eqb q p && eqb u v) None (mark_by q u (uses_in pools h).list)) (sym (frame_same g f s))
    taken f e false s = unmarked p v q u (uses_in pools g).list None (says g ∙ mark_other old f g e s)

    by : (o : Option Frame) → names old ≡ o → mark_by q u (uses_in (without_use_of p v o pools) g).list ≡ cond (eqb q p && eqb u v) None (mark_by q u (uses_in pools g).list)
    by None e = unmarked p v q u (uses_in pools g).list None (says g ∙ mark_none old g e)
    by (Some f) e =
        ap (λ (us : Uses). mark_by q u us.list) (uses_with pools f (removed p v (uses_in pools f)) g (named_inside pools p v old says f e))
        ∙ taken f e (same_frame g f) refl

pub rising_out : (pools : List (List Uses)) (p v : ℕ) (old : Place) → SaysOf pools p v old → ((g : Frame) → is_rising (uses_in pools g).list ≡ true) → (g : Frame) →
    is_rising (uses_in (without_use_of p v (names old) pools) g).list ≡ true
rising_out pools p v old says rising g = by (names old) refl
  where
    taken : (f : Frame) (b : Bool) → is_rising (cond b (removed p v (uses_in pools f)) (uses_in pools g)).list ≡ true
    taken f true = rising_without p v (uses_in pools f).list (rising f)
    taken f false = rising g

    by : (o : Option Frame) → names old ≡ o → is_rising (uses_in (without_use_of p v o pools) g).list ≡ true
    by None e = rising g
    by (Some f) e =
        ap (λ (us : Uses). is_rising us.list) (uses_with pools f (removed p v (uses_in pools f)) g (named_inside pools p v old says f e)) ∙ taken f (same_frame g f)

pub size_out : (pools : List (List Uses)) (p v : ℕ) (old : Place) → SaysOf pools p v old → (pool : PoolId) → size_in (without_use_of p v (names old) pools) pool ≡ size_in pools pool
size_out pools p v old says pool = by (names old) refl
  where
    by : (o : Option Frame) → names old ≡ o → size_in (without_use_of p v o pools) pool ≡ size_in pools pool
    by None e = refl
    by (Some f) e = size_with pools f (removed p v (uses_in pools f)) pool (named_inside pools p v old says f e)

pub count_out : (pools : List (List Uses)) (p v : ℕ) (o : Option Frame) → length (without_use_of p v o pools) ≡ length pools
count_out pools p v None = refl
count_out pools p v (Some f) = count_with pools f (removed p v (uses_in pools f))

-- a frame that had room has it still
pub room_out : (pools : List (List Uses)) (p v : ℕ) (old : Place) → SaysOf pools p v old → (f : Frame) → 1 ≤ (uses_in pools f).room → 1 ≤ (uses_in (without_use_of p v (names old) pools) f).room
room_out pools p v old says f room = by (names old) refl
  where
    taken : (e : Frame) (b : Bool) → 1 ≤ (cond b (removed p v (uses_in pools e)) (uses_in pools f)).room
    taken e true = more (uses_in pools e).room
      where
        more : (n : ℕ) → 1 ≤ n + 1
        more n = omega arith
    taken e false = room

    by : (o : Option Frame) → names old ≡ o → 1 ≤ (uses_in (without_use_of p v o pools) f).room
    by None e = room
    by (Some h) e = subst (λ (us : Uses). 1 ≤ us.room) (sym (uses_with pools h (removed p v (uses_in pools h)) f (named_inside pools p v old says h e))) (taken h (same_frame f h))

-- no frame has a use by the page
abbrev pub NoneOf : List (List Uses) → ℕ → ℕ → Type 0
NoneOf pools p v = (g : Frame) → mark_by p v (uses_in pools g).list ≡ None

pub none_out : (pools : List (List Uses)) (p v : ℕ) (old : Place) → SaysOf pools p v old → NoneOf (without_use_of p v (names old) pools) p v
none_out pools p v old says g = exact_out pools p v old says p v g ∙ ap (λ b. cond b None (mark_by p v (uses_in pools g).list)) (page_itself p v)

pub gains_use : (pools : List (List Uses)) (p v : ℕ) → NoneOf pools p v → (o : Option Frame) → HasUseRoom pools o → GainsUse pools o p v
gains_use pools p v none None h = tt
gains_use pools p v none (Some f) h = (h, has_is p v (uses_in pools f).list ∙ ap is_some (none f))

-- after the new use was added
abbrev new_use : ℕ → ℕ → Place → Use
new_use p v y = record { proc = p; page = v; moving = is_moving y }

pub exact_in : (pools : List (List Uses)) (p v : ℕ) (y : Place) → NoneOf pools p v → FrameFits (size_in pools) (names y) → (q u : ℕ) (g : Frame) →
    mark_by q u (uses_in (with_use_of p v (is_moving y) (names y) pools) g).list ≡ cond (eqb q p && eqb u v) (mark_of y g) (mark_by q u (uses_in pools g).list)
exact_in pools p v y none fits q u g = by (names y) refl fits
  where
    come : (f : Frame) → names y ≡ Some f → (b : Bool) → same_frame g f ≡ b →
        mark_by q u (cond b (added (new_use p v y) (uses_in pools f)) (uses_in pools g)).list ≡ cond (eqb q p && eqb u v) (mark_of y g) (mark_by q u (uses_in pools g).list)
    come f e true s =
        mark_with (new_use p v y) (uses_in pools f).list q u (has_is p v (uses_in pools f).list ∙ ap is_some (none f))
        ∙ ap (λ b. cond b (Some (is_moving y)) (mark_by q u (uses_in pools f).list)) (turned p v q u)
        ∙ ap (λ m. cond (eqb q p && eqb u v) m (mark_by q u (uses_in pools f).list)) (sym (mark_named y f g e s))
        ∙ ap (λ (h : Frame). cond (eqb q p && eqb u v) (mark_of y g) (mark_by q u (uses_in pools h).list)) (sym (frame_same g f s))
    come f e false s = unmarked p v q u (uses_in pools g).list (mark_of y g) (none g ∙ sym (mark_other y f g e s))

    by : (o : Option Frame) → names y ≡ o → FrameFits (size_in pools) o →
        mark_by q u (uses_in (with_use_of p v (is_moving y) o pools) g).list ≡ cond (eqb q p && eqb u v) (mark_of y g) (mark_by q u (uses_in pools g).list)
    by None e l = unmarked p v q u (uses_in pools g).list (mark_of y g) (none g ∙ sym (mark_none y g e))
    by (Some f) e l = ap (λ (us : Uses). mark_by q u us.list) (uses_with pools f (added (new_use p v y) (uses_in pools f)) g l) ∙ come f e (same_frame g f) refl

pub rising_in : (pools : List (List Uses)) (p v : ℕ) (moving : Bool) (o : Option Frame) → NoneOf pools p v → FrameFits (size_in pools) o → ((g : Frame) → is_rising (uses_in pools g).list ≡ true) → (g : Frame) →
    is_rising (uses_in (with_use_of p v moving o pools) g).list ≡ true
rising_in pools p v moving None none l rising g = rising g
rising_in pools p v moving (Some f) none l rising g = ap (λ (us : Uses). is_rising us.list) (uses_with pools f (added used (uses_in pools f)) g l) ∙ come (same_frame g f)
  where
    used : Use
    used = record { proc = p; page = v; moving = moving }

    come : (b : Bool) → is_rising (cond b (added used (uses_in pools f)) (uses_in pools g)).list ≡ true
    come true = rising_with used (uses_in pools f).list (rising f) (has_is p v (uses_in pools f).list ∙ ap is_some (none f))
    come false = rising g

pub size_into : (pools : List (List Uses)) (p v : ℕ) (moving : Bool) (o : Option Frame) → FrameFits (size_in pools) o → (pool : PoolId) → size_in (with_use_of p v moving o pools) pool ≡ size_in pools pool
size_into pools p v moving None l pool = refl
size_into pools p v moving (Some f) l pool = size_with pools f (added (record { proc = p; page = v; moving = moving }) (uses_in pools f)) pool l

pub count_in : (pools : List (List Uses)) (p v : ℕ) (moving : Bool) (o : Option Frame) → length (with_use_of p v moving o pools) ≡ length pools
count_in pools p v moving None = refl
count_in pools p v moving (Some f) = count_with pools f (added (record { proc = p; page = v; moving = moving }) (uses_in pools f))
