-- Places that due entries put in.
use Rattle.std.proofs.Common.{None}
use Rattle.std.proofs.Common.{Some}
use Rattle.std.proofs.lemmas.Option.{same_Some}
use Rattle.hm_laws.specs.Facts.{is_core}
use Rattle.std.proofs.Common.{◌≡◌, ℕ, ◌%◌, ◌^◌, ◌<◌, inl, inr, Bool, true, false, is_some, Option, [], refl, sym, ap, ◌∙◌, subst, arith}
use Rattle.std.specs.List.{list_any}
use Rattle.hm_base.specs.Program.{Program}
use Rattle.hm_base.specs.declared.Frame.{Frame}
use Rattle.hm_base.specs.declared.Place.{Place}
use Rattle.hm_history.specs.Memory.Words.{same_frame, sys_frame, names, names_directly, moving_frame, writable, is_empty_place}
use Rattle.hm_history.specs.Memory.Plain.{rights_of, is_read_write}
use Rattle.hm_history.specs.Memory.Lookups.{loses, is_guarded}
use Rattle.hm_history.specs.Memory.Contents.{shown_by}
use Rattle.hm_history.specs.Memory.After.{After}
use Rattle.hm_history.specs.Kernel.Due.{has_no_frame}
use Rattle.hm_laws.specs.Stood.{stood, is_moving, Unnamed, Unstood}
use Rattle.hm_laws.specs.Past.{Past}
use Rattle.hm_laws.specs.Sound.{Sound}
use Rattle.hm_laws.specs.Allowed.{Owned, shows, ReadsThere, WritesThere, HasChild, OwnsFrame, Reader, Writer, Parent, PlaceOk}
use Rattle.hm_laws.proofs.Kept.Areas.{writable_stays}
use Rattle.hm_laws.proofs.Kept.Frames.{untouched_unnamed, unnamed_untouched}
use Rattle.hm_laws.specs.Facts.{Locks_only, ShownIn, Holds}
use Rattle.hm_history.specs.Memory.Words.{narrowed}
use Rattle.hm_laws.proofs.Due.Good.{clean_read, some_write, reads_plain}
use Rattle.hm_history.proofs.Tests.{some_none, true_false}

-- the zero page where nothing is
pub zero_ok : (c : Program) (s : After) (t : Past) (a p v : ℕ) → Sound c s t → ReadsThere s a p → v < 2 ^ 36 → s.places.place p v ≡ Place.Empty → is_some (rights_of s.plain p v) ≡ true → PlaceOk s t a p v Place.Zero
zero_ok c s t a p v so h l e i = record {
  who = Reader h refl (λ o k. ap (λ x. shows s x o) (sym e)) (λ w. absurd (true_false (writable (s.places.place p v)) w (ap writable e)));
  ranged = λ k. l;
  frames = record {
    names_held = λ f n. cc;
    stands_held = λ f n. cc;
    one_page = λ q u f n m. cc;
    stood_page = λ q u f n m. cc;
    alone = λ q u f w n m. cc;
    others = λ q u f w n m. cc;
    direct_fresh = λ f n. cc;
  };
  hand_over = record {
    fresh_names = λ f n. cc;
    fresh_stands = λ f n. cc;
    freezes = λ f n. cc;
    finishes = λ f k. absurd (some_none (moving_frame (s.places.place p v)) f k (ap moving_frame e));
    owned = λ d m w k. absurd (true_false (is_empty_place (s.places.place p v)) (ap is_empty_place e) (ap is_empty_place k));
    touched = λ k. inl (ap has_no_frame e);
    settles = λ n w k m d. cc;
    stays_locked = λ f m n. cc;
  };
  process = record {
    in_area = λ k n. i;
    may_write = λ w. cc;
    contents = λ y k n m. sym (clean_read c s t a p so h y (ap is_empty_place (ap (s.places.place p) k ∙ e)) (ap (λ j. is_some (rights_of s.plain p j)) k ∙ i));
    empties = λ k. cc;
  };
  mirrors = record {
    guarded = λ k. absurd (true_false (loses (s.places.place p v) Place.Zero) k (ap (λ x. loses x Place.Zero) e));
    lands = λ m k. absurd (true_false (is_moving (s.places.place p v)) m (ap is_moving e));
  };
}

pub core_frozen : (x : Place) → is_core x ≡ true → moving_frame x ≡ None
core_frozen x co = grind arith

pub core_lands : (x : Place) → is_core x ≡ true → is_moving x ≡ false
core_lands x co = grind arith

-- a frame that nobody uses, in the place of what reads the same
pub own_ok : (c : Program) (s : After) (t : Past) (a p v n : ℕ) → Sound c s t → ReadsThere s a p → v < 2 ^ 36 → is_read_write (rights_of s.plain p v) ≡ true → OwnsFrame s a (sys_frame n) → ShownIn s (sys_frame n) (s.places.place p v) → is_core (s.places.place p v) ≡ true →
    (loses (s.places.place p v) (Place.Sys n true) ≡ true → is_guarded s.sequences a p v ≡ true) → PlaceOk s t a p v (Place.Sys n true)
own_ok c s t a p v n so h l r own e co gd = record {
  who = Reader h refl e (λ w. refl);
  ranged = λ k. l;
  frames = record {
    names_held = λ f i. ap s.places.held (sym (same_Some (sys_frame n) f i)) ∙ so.frames.locked_held (sys_frame n) a own.0.mine;
    stands_held = λ f i. ap s.places.held (sym (same_Some (sys_frame n) f i)) ∙ so.frames.locked_held (sys_frame n) a own.0.mine;
    one_page = λ q u f i m. absurd (own.0.unnamed q u (m ∙ sym i));
    stood_page = λ q u f i m. absurd (own.0.unstood q u (m ∙ sym i));
    alone = λ q u f w i m. absurd (own.0.unstood q u (m ∙ sym i));
    others = λ q u f w i m. absurd (own.0.unstood q u (m ∙ sym i));
    direct_fresh = λ f i. ap s.places.committed_to (sym (same_Some (sys_frame n) f i)) ∙ own.1;
  };
  hand_over = record {
    fresh_names = λ f i. inl (ap s.locks.frame (sym (same_Some (sys_frame n) f i)) ∙ own.0.mine);
    fresh_stands = λ f i. inl (ap s.locks.frame (sym (same_Some (sys_frame n) f i)) ∙ own.0.mine);
    freezes = λ f i. cc;
    finishes = λ f k. absurd (some_none (moving_frame (s.places.place p v)) f k (core_frozen (s.places.place p v) co));
    owned = λ d m w k. absurd (true_false (is_core (s.places.place p v)) co (ap is_core k));
    touched = λ k. cc;
    settles = λ m w i k d. (subst (Unnamed s.places.place) (same m w i) own.0.unnamed, subst (Unstood s.places.place s.places.committed_to) (same m w i) own.0.unstood);
    stays_locked = λ f m i. cc;
  };
  process = record {
    in_area = λ k i. some_write (rights_of s.plain p v) r;
    may_write = λ w. (h.1, r);
    contents = λ y k th i. e (y % 4096) (below y) ∙ ap (λ j. shows s (s.places.place p j) (y % 4096)) (sym k) ∙ reads_plain c s t p y so h.1 (clean_read c s t a p so h) (ap (λ j. is_some (rights_of s.plain p j)) k ∙ some_write (rights_of s.plain p v) r);
    empties = λ k. cc;
  };
  mirrors = record {
    guarded = gd;
    lands = λ m k. absurd (true_false (is_moving (s.places.place p v)) m (core_lands (s.places.place p v) co));
  };
}
  where
    below : (y : ℕ) → y % 4096 < 4096
    below y = omega arith

    same : (m : ℕ) (w : Bool) → Place.Sys n true ≡ Place.Sys m w → sys_frame n ≡ sys_frame m
    same m w i = same_Some (sys_frame n) (sys_frame m) (ap names i)

-- a place like one that there is, without the write right: of the same page, or of the child's
pub record Like (to : Frame → Option Frame) (old x : Place) : Type 0 where
  pub names_same : names x ≡ names old
  pub stood_same : stood to x ≡ stood to old
  pub moving_same : is_moving x ≡ is_moving old
  pub frozen_same : moving_frame x ≡ moving_frame old
  pub direct_same : names_directly x ≡ names_directly old
  pub owned_same : (d n : ℕ) (w : Bool) → old ≡ Place.Own d n w → Owned d n x
  pub stays : is_empty_place x ≡ false
  pub narrow : writable x ≡ false

abbrev own_dev : Place → ℕ
own_dev (Place.Own d n w) = d
own_dev x = 0

abbrev own_number : Place → ℕ
own_number (Place.Own d n w) = n
own_number x = 0

pub narrowed_like : (to : Frame → Option Frame) (y : Place) → is_empty_place y ≡ false → Like to y (narrowed y)
narrowed_like to Place.Empty e = cc
narrowed_like to Place.Zero e = record { names_same = refl; stood_same = refl; moving_same = refl; frozen_same = refl; direct_same = refl; owned_same = λ i j z k. cc; stays = refl; narrow = refl }
narrowed_like to (Place.Sys n w) e = record { names_same = refl; stood_same = refl; moving_same = refl; frozen_same = refl; direct_same = refl; owned_same = λ i j z k. cc; stays = refl; narrow = refl }
narrowed_like to (Place.Own d n w) e = record { names_same = refl; stood_same = refl; moving_same = refl; frozen_same = refl; direct_same = refl; owned_same = λ i j z k. (ap own_dev (sym k), ap own_number (sym k)); stays = refl; narrow = refl }
narrowed_like to (Place.Moving f w) e = record { names_same = refl; stood_same = refl; moving_same = refl; frozen_same = refl; direct_same = refl; owned_same = λ i j z k. cc; stays = refl; narrow = refl }
narrowed_like to (Place.Exclusive n b) e = record { names_same = refl; stood_same = refl; moving_same = refl; frozen_same = refl; direct_same = refl; owned_same = λ i j z k. cc; stays = refl; narrow = refl }

not_lost : (y : Place) → writable y ≡ true → is_moving y ≡ true → loses y (narrowed y) ≡ false → ⊥
not_lost Place.Empty w m l = cc
not_lost Place.Zero w m l = cc
not_lost (Place.Sys n z) w m l = cc
not_lost (Place.Own d n z) w m l = cc
not_lost (Place.Moving f z) w m l = grind arith
not_lost (Place.Exclusive n b) w m l = cc

pub narrowed_ok : (c : Program) (s : After) (t : Past) (a p v : ℕ) → Sound c s t → WritesThere s a p → Holds s t a (Locks_only []) → writable (s.places.place p v) ≡ true → is_guarded s.sequences a p v ≡ true → PlaceOk s t a p v (narrowed (s.places.place p v))
narrowed_ok c s t a p v so h none w gd = by (narrowed (s.places.place p v)) (narrowed_like s.places.committed_to (s.places.place p v) (writable_stays (s.places.place p v) w)) (not_lost (s.places.place p v) w)
  where
    stays : is_empty_place (s.places.place p v) ≡ false
    stays = writable_stays (s.places.place p v) w

    by : (x : Place) → Like s.places.committed_to (s.places.place p v) x → (is_moving (s.places.place p v) ≡ true → loses (s.places.place p v) x ≡ false → ⊥) → PlaceOk s t a p v x
    by x k nl = record {
      who = Writer h;
      ranged = λ i. so.places.ranged p v stays;
      frames = record {
        names_held = λ f i. so.frames.names_held p v f (sym k.names_same ∙ i);
        stands_held = λ f i. so.frames.stands_held p v f (sym k.stood_same ∙ i);
        one_page = λ q u f i m. so.frames.one_page p v q u f (sym k.names_same ∙ i) m;
        stood_page = λ q u f i m. so.frames.stood_page p v q u f (sym k.stood_same ∙ i) m;
        alone = λ q u f z i m. absurd (true_false (writable x) z k.narrow);
        others = λ q u f z i m. so.frames.alone p v q u f w (sym k.stood_same ∙ i) m;
        direct_fresh = λ f i. so.frames.direct_fresh p v f (sym k.direct_same ∙ i);
      };
      hand_over = record {
        fresh_names = λ f i. inr (p, v, sym k.names_same ∙ i, λ m. sym k.moving_same ∙ m);
        fresh_stands = λ f i. inr (p, v, sym k.stood_same ∙ i, k.names_same);
        freezes = λ f i. inr (inr (p, v, sym k.frozen_same ∙ i));
        finishes = λ f i. inl (k.frozen_same ∙ i);
        owned = λ d n z i. inl (k.owned_same d n z i);
        touched = λ i. inl (unnamed_untouched (s.places.place p v) (sym k.names_same ∙ untouched_unnamed x i));
        settles = λ m z i nm d. absurd (nothing (sys_frame m) (none (sys_frame m) d));
        stays_locked = λ f m i. inr (so.frames.stands_locked p v f (sym k.moving_same ∙ m) (sym k.stood_same ∙ i));
      };
      process = record {
        in_area = λ th i. so.areas.in_area p v th stays;
        may_write = λ z. absurd (true_false (writable x) z k.narrow);
        contents = λ y e th i. ap (λ j. shown_by s.contents j (y % 4096)) (k.stood_same ∙ ap (λ j. stood s.places.committed_to (s.places.place p j)) (sym e)) ∙ so.reads.reads p y th (ap (λ j. is_empty_place (s.places.place p j)) e ∙ stays);
        empties = λ z. h.0;
      };
      mirrors = record {
        guarded = λ l. gd;
        lands = λ m l. absurd (nl m l);
      };
    }
      where
        nothing : (f : Frame) → list_any (same_frame f) [] ≡ true → ⊥
        nothing f e = cc

-- the parent's place for the child
pub child_ok : (c : Program) (s : After) (t : Past) (a p d v : ℕ) → Sound c s t → HasChild s t a d → Holds s t a (Locks_only []) → is_empty_place (s.places.place d v) ≡ true → is_empty_place (s.places.place p v) ≡ false → writable (s.places.place p v) ≡ false →
    PlaceOk s t a d v (s.places.place p v)
child_ok c s t a p d v so h none e n w = record {
  who = Parent h e;
  ranged = λ i. so.places.ranged p v n;
  frames = record {
    names_held = λ f i. so.frames.names_held p v f i;
    stands_held = λ f i. so.frames.stands_held p v f i;
    one_page = λ q u f i m. so.frames.one_page p v q u f i m;
    stood_page = λ q u f i m. so.frames.stood_page p v q u f i m;
    alone = λ q u f z i m. absurd (true_false (writable (s.places.place p v)) z w);
    others = λ q u f z i m. absurd (true_false (writable (s.places.place q u)) z (writable_at q u (so.frames.alone q u p v f z m i)));
    direct_fresh = λ f i. so.frames.direct_fresh p v f i;
  };
  hand_over = record {
    fresh_names = λ f i. inr (p, v, i, λ m. m);
    fresh_stands = λ f i. inr (p, v, i, refl);
    freezes = λ f i. inr (inr (p, v, i));
    finishes = λ f k. absurd (empty_frozen (s.places.place d v) f e k);
    owned = λ i m z k. absurd (true_false (is_empty_place (s.places.place d v)) e (ap is_empty_place k));
    touched = λ k. inl (empty_untouched (s.places.place d v) e);
    settles = λ m z i nm k. absurd (nothing (sys_frame m) (none (sys_frame m) k));
    stays_locked = λ f m i. inr (so.frames.stands_locked p v f m i);
  };
  process = record {
    in_area = λ th i. absurd (true_false (s.plain.been d) (so.processes.there_been d th) h.1);
    may_write = λ z. absurd (true_false (writable (s.places.place p v)) z w);
    contents = λ y k th i. absurd (true_false (s.plain.been d) (so.processes.there_been d th) h.1);
    empties = λ z. absurd (true_false (is_empty_place (s.places.place p v)) z n);
  };
  mirrors = record {
    guarded = λ l. absurd (empty_kept (s.places.place d v) e l);
    lands = λ m l. absurd (empty_still (s.places.place d v) e m);
  };
}
  where
    nothing : (f : Frame) → list_any (same_frame f) [] ≡ true → ⊥
    nothing f e = cc

    writable_at : (q u : ℕ) → (p ≡ q) × (v ≡ u) → writable (s.places.place q u) ≡ false
    writable_at q u k = ap writable (ap (λ i. s.places.place i u) (sym k.0) ∙ ap (s.places.place p) (sym k.1)) ∙ w

    empty_untouched : (y : Place) → is_empty_place y ≡ true → has_no_frame y ≡ true
    empty_untouched y e = grind arith

    empty_frozen : (y : Place) (f : Frame) → is_empty_place y ≡ true → moving_frame y ≡ Some f → ⊥
    empty_frozen y f e m = grind arith

    empty_kept : (y : Place) → is_empty_place y ≡ true → loses y (s.places.place p v) ≡ true → ⊥
    empty_kept Place.Empty e l = absurd (clash (s.places.place p v) l)
      where
        clash : (x : Place) → loses Place.Empty x ≡ true → ⊥
        clash x k = grind arith
    empty_kept y e l = cc

    empty_still : (y : Place) → is_empty_place y ≡ true → is_moving y ≡ true → ⊥
    empty_still y e m = grind arith

-- nothing, of a process that the actor has for itself
pub empty_ok : (c : Program) (s : After) (t : Past) (a p v : ℕ) → Sound c s t → WritesThere s a p → is_guarded s.sequences a p v ≡ true → PlaceOk s t a p v Place.Empty
empty_ok c s t a p v so h gd = record {
  who = Writer h;
  ranged = λ k. cc;
  frames = record {
    names_held = λ f n. cc;
    stands_held = λ f n. cc;
    one_page = λ q u f n m. cc;
    stood_page = λ q u f n m. cc;
    alone = λ q u f w n m. cc;
    others = λ q u f w n m. cc;
    direct_fresh = λ f n. cc;
  };
  hand_over = record {
    fresh_names = λ f n. cc;
    fresh_stands = λ f n. cc;
    freezes = λ f n. cc;
    finishes = λ f k. inr (inr refl);
    owned = λ d m w k. inr (inr (inr refl));
    touched = λ k. inr refl;
    settles = λ n w k m d. cc;
    stays_locked = λ f m n. cc;
  };
  process = record {
    in_area = λ k n. cc;
    may_write = λ w. cc;
    contents = λ y k n m. cc;
    empties = λ k. h.0;
  };
  mirrors = record {
    guarded = λ k. gd;
    lands = λ m k. absurd (gone (s.places.place p v) m k);
  };
}
  where
    gone : (y : Place) → is_moving y ≡ true → loses y Place.Empty ≡ false → ⊥
    gone y m l = grind arith
