-- The tables of mirrors after an entry.
use Rattle.std.proofs.Common.{◌≡◌, ◌≢◌, ℕ, ◌⊎◌, inl, inr, Bool, true, false, ◌==◌, ◌&&◌, ◌||◌, not, is_some, is_none, Option, Some, None, List, [], ◌∷◌, refl, sym, ap, ◌∙◌, subst, arith, unwrap_or}
use Rattle.std.specs.List.{list_any, list_all}
use Rattle.std.proofs.lemmas.Bool.Decides.{nat_tests}
use Rattle.std.proofs.lemmas.Bool.{and_parts, eqb-true}
use Rattle.hm_base.specs.Pages.{Pages, covers, overlap}
use Rattle.hm_base.specs.Program.{Program}
use Rattle.hm_base.specs.declared.Frame.{Frame}
use Rattle.hm_base.specs.declared.Place.{Place}
use Rattle.hm_history.specs.Memory.Words.{with_at, same_frame, sys_frame, dev_frame, with_frame, names, moving_frame}
use Rattle.hm_history.specs.Memory.Plain.{MirrorState, mirror_passes, is_attached_state, with_attachment}
use Rattle.hm_history.specs.Memory.Places.{TableEntry, with_place, with_entry, erased_table, is_exclusive}
use Rattle.hm_history.specs.Memory.Sequences.{Sequences, Interval, Guarded, guard_passes, all_told}
use Rattle.hm_history.specs.Memory.Lookups.{loses, is_guarded}
use Rattle.hm_history.specs.Memory.After.{After}
use Rattle.hm_history.specs.declared.TableRight.{TableRight}
use Rattle.hm_history.specs.declared.Kind.{Kind}
use Rattle.hm_laws.specs.Stood.{stood, is_moving, Fits, Matches}
use Rattle.hm_laws.specs.Past.{Past}
use Rattle.hm_laws.specs.Sound.{Pairing, Pending, Blocked, listens, Entered, TableRules, Sound}
use Rattle.hm_laws.specs.Allowed.{next, Allowed}
use Rattle.hm_history.specs.Memory.Plain.{Attached, Detaching, Gone}
use Rattle.hm_laws.proofs.Kept.Pools.{free_says}
use Rattle.hm_laws.proofs.Kept.Areas.{placed_cases}
use Rattle.hm_laws.proofs.Kept.Mirrors.{interval_of, listening}
use Rattle.hm_history.proofs.Updates.{at_cases}
use Rattle.hm_history.proofs.Tests.{some_none, same_some, true_false}
use Rattle.hm_history.proofs.Frames.{frame_tells}

-- a guard that has the page, and in which all were told
pub guard_says : (s : Sequences) (a p v : ℕ) → is_guarded s a p v ≡ true → (g : Guarded) × (s.guard a ≡ Some g) × (g.proc ≡ p) × (covers g.span v ≡ true) × (all_told g ≡ true)
guard_says s a p v h = by (s.guard a) refl h
  where
    by : (x : Option Guarded) → s.guard a ≡ x → guard_passes (λ g. (g.proc == p) && (covers g.span v && all_told g)) x ≡ true → (g : Guarded) × (s.guard a ≡ Some g) × (g.proc ≡ p) × (covers g.span v ≡ true) × (all_told g ≡ true)
    by None e k = cc
    by (Some g) e k = let b : ((g.proc == p) ≡ true) × ((covers g.span v && all_told g) ≡ true) = and_parts (g.proc == p) (covers g.span v && all_told g) k in
        let d : (covers g.span v ≡ true) × (all_told g ≡ true) = and_parts (covers g.span v) (all_told g) b.1 in (g, e, eqb-true g.proc p b.0, d.0, d.1)

-- in which nobody is left to be told
told_of : (k : ℕ) (met told : List ℕ) → list_all (λ m. list_any (λ j. j == m) told) met ≡ true → list_any (λ j. j == k) met ≡ true → list_any (λ j. j == k) told ≡ true
told_of k [] told h e = cc
told_of k (m ∷ ms) told h e = by (λ x y. told_of k ms told x y) (and_parts (list_any (λ j. j == m) told) (list_all (λ i. list_any (λ j. j == i) told) ms) h) (m == k) refl e
  where
    by : (list_all (λ i. list_any (λ j. j == i) told) ms ≡ true → list_any (λ j. j == k) ms ≡ true → list_any (λ j. j == k) told ≡ true) → (list_any (λ j. j == m) told ≡ true) × (list_all (λ i. list_any (λ j. j == i) told) ms ≡ true) →
        (b : Bool) → (m == k) ≡ b → (b || list_any (λ j. j == k) ms) ≡ true → list_any (λ j. j == k) told ≡ true
    by ih h true eb e = rw (sym (eqb-true m k eb)) h.0
    by ih h false eb e = ih h.1 e

pub none_pending : (g : Guarded) (m : ℕ) → all_told g ≡ true → Pending g m → ⊥
none_pending g m h p = true_false (list_any (λ k. k == m) g.told) (told_of m g.met g.told h p.0) p.1

-- the interval and the guard have a page in common
pub covered_overlap : (r w : Pages) (v : ℕ) → covers r v ≡ true → covers w v ≡ true → overlap r w ≡ true
covered_overlap r w v h k = grind (arith, nat_tests)

-- a place that takes nothing away still stands for what the entry names
lost_write : (z w : Bool) → (z && not w) ≡ false → z ≡ true → w ≡ true
lost_write z w h e = grind arith

fits_kept : (to : Frame → Option Frame) (t : Option Frame) (b : Bool) (old x : Place) → loses old x ≡ false → (is_moving old ≡ true → (stood to x ≡ stood to old) × (is_moving x ≡ false) × (is_exclusive x ≡ false)) → Fits to t b old → Fits to t b x
fits_kept to t b Place.Empty x l m h = absurd h
fits_kept to t b Place.Zero Place.Empty l m h = cc
fits_kept to t b Place.Zero Place.Zero l m h = h
fits_kept to t b Place.Zero (Place.Sys n w) l m h = cc
fits_kept to t b Place.Zero (Place.Own d n w) l m h = cc
fits_kept to t b Place.Zero (Place.Moving f w) l m h = cc
fits_kept to t b Place.Zero (Place.Exclusive n a) l m h = cc
fits_kept to t b (Place.Sys n w) Place.Empty l m h = cc
fits_kept to t b (Place.Sys n w) Place.Zero l m h = cc
fits_kept to t b (Place.Sys n w) (Place.Sys k z) l m h = (h.0 ∙ ap (λ i. Some (sys_frame i)) (same (n == k) (w && not z) refl l), λ e. lost_write w z (lost (not (n == k)) (w && not z) l) (h.1 e))
  where
    same : (x y : Bool) → (n == k) ≡ x → (not x || y) ≡ false → n ≡ k
    same true y e j = eqb-true n k e
    same false y e j = cc

    lost : (x y : Bool) → (x || y) ≡ false → y ≡ false
    lost x y j = grind arith
fits_kept to t b (Place.Sys n w) (Place.Own d k z) l m h = cc
fits_kept to t b (Place.Sys n w) (Place.Moving f z) l m h = cc
fits_kept to t b (Place.Sys n w) (Place.Exclusive k a) l m h = cc
fits_kept to t b (Place.Own d n w) Place.Empty l m h = cc
fits_kept to t b (Place.Own d n w) Place.Zero l m h = cc
fits_kept to t b (Place.Own d n w) (Place.Sys k z) l m h = cc
fits_kept to t b (Place.Own d n w) (Place.Own e k z) l m h = (h.0 ∙ same (d == e) refl (n == k) refl (w && not z) l, λ i. lost_write w z (lost (not ((d == e) && (n == k))) (w && not z) l) (h.1 i))
  where
    same : (x : Bool) → (d == e) ≡ x → (y : Bool) → (n == k) ≡ y → (i : Bool) → (not (x && y) || i) ≡ false → Some (dev_frame d n) ≡ Some (dev_frame e k)
    same true ex true ey i j = rw (eqb-true d e ex, eqb-true n k ey) refl
    same true ex false ey i j = cc
    same false ex y ey i j = cc

    lost : (x y : Bool) → (x || y) ≡ false → y ≡ false
    lost x y j = grind arith
fits_kept to t b (Place.Own d n w) (Place.Moving f z) l m h = cc
fits_kept to t b (Place.Own d n w) (Place.Exclusive k a) l m h = cc
fits_kept to t b (Place.Moving f w) x l m h = by (to f) refl x (m refl) l
  where
    by : (y : Option Frame) → to f ≡ y → (x : Place) → (stood to x ≡ Some (unwrap_or y f)) × (is_moving x ≡ false) × (is_exclusive x ≡ false) → loses (Place.Moving f w) x ≡ false → Fits to t b x
    by None e x s k = absurd (none t (sym e ∙ h.0) h.1)
      where
        none : (t : Option Frame) → None ≡ t → is_some t ≡ true → ⊥
        none None i j = cc
        none (Some g) i j = cc
    by (Some g) e Place.Empty s k = cc
    by (Some g) e Place.Zero s k = cc
    by (Some g) e (Place.Sys n z) s k = (sym h.0 ∙ e ∙ sym s.0, λ i. lost_write w z k (h.2 i))
    by (Some g) e (Place.Own d n z) s k = (sym h.0 ∙ e ∙ sym s.0, λ i. lost_write w z k (h.2 i))
    by (Some g) e (Place.Moving i z) s k = cc
    by (Some g) e (Place.Exclusive n a) s k = cc
fits_kept to t b (Place.Exclusive n a) x l m h = absurd h

pub matches_kept : (to : Frame → Option Frame) (t : Option Frame) (r : TableRight) (old x : Place) → loses old x ≡ false → (is_moving old ≡ true → (stood to x ≡ stood to old) × (is_moving x ≡ false) × (is_exclusive x ≡ false)) → Matches to t r old → Matches to t r x
matches_kept to t TableRight.Read old x l m h = fits_kept to t false old x l m h
matches_kept to t TableRight.Write old x l m h = fits_kept to t true old x l m h
matches_kept to t TableRight.Sole Place.Empty x l m h = absurd h
matches_kept to t TableRight.Sole Place.Zero x l m h = absurd h
matches_kept to t TableRight.Sole (Place.Sys n w) x l m h = absurd h
matches_kept to t TableRight.Sole (Place.Own d n w) x l m h = absurd h
matches_kept to t TableRight.Sole (Place.Moving f w) x l m h = absurd h
matches_kept to t TableRight.Sole (Place.Exclusive n a) x l m h = cc

-- where frames were committed to matters to a migration entry alone
fits_to : (to by : Frame → Option Frame) (t : Option Frame) (b : Bool) (x : Place) → ((f : Frame) → moving_frame x ≡ Some f → to f ≡ by f) → Fits to t b x → Fits by t b x
fits_to to by t b Place.Empty e h = h
fits_to to by t b Place.Zero e h = h
fits_to to by t b (Place.Sys n w) e h = h
fits_to to by t b (Place.Own d n w) e h = h
fits_to to by t b (Place.Moving f w) e h = (sym (e f refl) ∙ h.0, h.1, h.2)
fits_to to by t b (Place.Exclusive n a) e h = h

pub matches_to : (to by : Frame → Option Frame) (t : Option Frame) (r : TableRight) (x : Place) → ((f : Frame) → moving_frame x ≡ Some f → to f ≡ by f) → Matches to t r x → Matches by t r x
matches_to to by t TableRight.Read x e h = fits_to to by t false x e h
matches_to to by t TableRight.Write x e h = fits_to to by t true x e h
matches_to to by t TableRight.Sole x e h = h

-- an entry on a migration entry comes after its commit
fits_committed : (to : Frame → Option Frame) (t : Option Frame) (b : Bool) (x : Place) (f : Frame) → moving_frame x ≡ Some f → to f ≡ None → Fits to t b x → ⊥
fits_committed to t b Place.Empty f e n h = cc
fits_committed to t b Place.Zero f e n h = cc
fits_committed to t b (Place.Sys i w) f e n h = cc
fits_committed to t b (Place.Own d i w) f e n h = cc
fits_committed to t b (Place.Moving g w) f e n h = none t (sym n ∙ ap to (sym (same e)) ∙ h.0) h.1
  where
    same : Some g ≡ Some f → g ≡ f
    same k = cc

    none : (t : Option Frame) → None ≡ t → is_some t ≡ true → ⊥
    none None i j = cc
    none (Some h) i j = cc
fits_committed to t b (Place.Exclusive i a) f e n h = cc

pub matches_committed : (to : Frame → Option Frame) (t : Option Frame) (r : TableRight) (x : Place) (f : Frame) → moving_frame x ≡ Some f → to f ≡ None → Matches to t r x → ⊥
matches_committed to t TableRight.Read x f e n h = fits_committed to t false x f e n h
matches_committed to t TableRight.Write x f e n h = fits_committed to t true x f e n h
matches_committed to t TableRight.Sole Place.Empty f e n h = cc
matches_committed to t TableRight.Sole Place.Zero f e n h = cc
matches_committed to t TableRight.Sole (Place.Sys i w) f e n h = cc
matches_committed to t TableRight.Sole (Place.Own d i w) f e n h = cc
matches_committed to t TableRight.Sole (Place.Moving g w) f e n h = absurd h
matches_committed to t TableRight.Sole (Place.Exclusive i a) f e n h = cc

-- an entry is an attached mirror's
pub attached_entry : (mirrors : ℕ → Option MirrorState) (table : ℕ → ℕ → Option TableEntry) (place : ℕ → ℕ → Place) (to : Frame → Option Frame) → TableRules mirrors table place to → (m v : ℕ) (e : TableEntry) (x : MirrorState) → table m v ≡ Some e → mirrors m ≡ Some x → is_attached_state x ≡ true
attached_entry mirrors table place to h m v e x t i = by (is_attached_state x) refl
  where
    by : (b : Bool) → is_attached_state x ≡ b → is_attached_state x ≡ true
    by true k = k
    by false k = absurd (some_none (table m v) e t (h.unattached m v (ap (mirror_passes is_attached_state) i ∙ k)))

-- a page whose narrowing is guarded has no entry
pub no_entry : (c : Program) (s : After) (t : Past) (a p v m : ℕ) (e : TableEntry) (x : MirrorState) → Sound c s t → is_guarded s.sequences a p v ≡ true → s.places.table m v ≡ Some e → s.plain.mirrors m ≡ Some x → x.proc ≡ p → ⊥
no_entry c s t a p v m e x so h k i q = let g : (g : Guarded) × (s.sequences.guard a ≡ Some g) × (g.proc ≡ p) × (covers g.span v ≡ true) × (all_told g ≡ true) = guard_says s.sequences a p v h in
    let y : (y : Interval) × (s.sequences.interval m ≡ Some y) × Pairing x y (s.places.device m) = interval_of s.plain.mirrors s.sequences.interval s.places.device so.mirrors m x i in
    let l : listens y.0.stage ≡ true = listening x y.0 (s.places.device m) y.2 (attached_entry s.plain.mirrors s.places.table s.places.place s.places.committed_to so.tables m v e x k i) in
    by g.0 g.4 g.3 y.0 (so.guards.guarded a m g.0 y.0 g.1 y.1 l (y.2.proc ∙ q ∙ sym g.2) (covered_overlap y.0.window g.0.span v (ap (λ w. covers w v) y.2.window ∙ (so.tables.entered m v e x k i).in_window) g.3))
  where
    by : (g : Guarded) → all_told g ≡ true → covers g.span v ≡ true → (y : Interval) → Pending g m ⊎ Blocked s.sequences.seq s.places.table m y g.span → ⊥
    by g h cv y (inl j) = none_pending g m h j
    by g h cv y (inr j) = some_none (s.places.table m v) e k (j.2 v cv)

pub tables_kept : (c : Program) (s : After) (t : Past) (a : ℕ) → Sound c s t → (k : Kind) → Allowed c s t a k → TableRules (next s a k).plain.mirrors (next s a k).places.table (next s a k).places.place (next s a k).places.committed_to
tables_kept c s t a so (Kind.Attached m d p r q) ok = record {
  unattached = λ k v h. unattached k v h (k == m) refl;
  entered = λ k v e x h i. entered k v e x h (at_cases s.plain.mirrors m k (Some new) x i);
}
  where
    new : MirrorState
    new = record { dev = d; proc = p; window = r; stage = Attached }

    was : s.plain.mirrors m ≡ None
    was = by (s.plain.mirrors m) refl (and_parts (s.plain.there p) (is_none (s.plain.mirrors m)) ok.1).1
      where
        by : (x : Option MirrorState) → s.plain.mirrors m ≡ x → is_none x ≡ true → s.plain.mirrors m ≡ None
        by None e h = e
        by (Some x) e h = cc

    unattached : (k v : ℕ) → mirror_passes is_attached_state (with_at s.plain.mirrors m (Some new) k) ≡ false → (b : Bool) → (k == m) ≡ b → s.places.table k v ≡ None
    unattached k v h true e = absurd (true_false (mirror_passes is_attached_state (with_at s.plain.mirrors m (Some new) k)) (rw e refl) h)
    unattached k v h false e = so.tables.unattached k v (sym (rw e refl) ∙ h)

    entered : (k v : ℕ) (e : TableEntry) (x : MirrorState) → s.places.table k v ≡ Some e → ((k ≡ m) × (Some new ≡ Some x)) ⊎ ((k ≡ m → ⊥) × (s.plain.mirrors k ≡ Some x)) → Entered s.places.committed_to x e v (s.places.place x.proc v)
    entered k v e x h (inl i) = absurd (some_none (s.places.table k v) e h (so.tables.unattached k v (ap (λ j. mirror_passes is_attached_state (s.plain.mirrors j)) i.0 ∙ ap (mirror_passes is_attached_state) was)))
    entered k v e x h (inr i) = so.tables.entered k v e x h i.1
tables_kept c s t a so (Kind.Detaching m q) ok = record {
  unattached = λ k v h. gone k v h (k == m) refl;
  entered = λ k v e x h i. left k v e x h i (k == m) refl;
}
  where
    gone : (k v : ℕ) → mirror_passes is_attached_state (with_at s.plain.mirrors m (with_attachment Detaching (s.plain.mirrors m)) k) ≡ false → (b : Bool) → (k == m) ≡ b → erased_table s.places.table m (λ u. true) k v ≡ None
    gone k v h true e = rw e refl
    gone k v h false e = rw e (so.tables.unattached k v (sym (rw e refl) ∙ h))

    left : (k v : ℕ) (e : TableEntry) (x : MirrorState) → erased_table s.places.table m (λ u. true) k v ≡ Some e → with_at s.plain.mirrors m (with_attachment Detaching (s.plain.mirrors m)) k ≡ Some x → (b : Bool) → (k == m) ≡ b → Entered s.places.committed_to x e v (s.places.place x.proc v)
    left k v e x h i true y = absurd (some_none (erased_table s.places.table m (λ u. true) k v) e h (rw y refl))
    left k v e x h i false y = so.tables.entered k v e x (sym (rw y refl) ∙ h) (sym (rw y refl) ∙ i)
tables_kept c s t a so (Kind.Detached m) ok = record {
  unattached = λ k v h. gone k v h (k == m) refl;
  entered = λ k v e x h i. left k v e x h i (k == m) refl;
}
  where
    gone : (k v : ℕ) → mirror_passes is_attached_state (with_at s.plain.mirrors m (with_attachment Gone (s.plain.mirrors m)) k) ≡ false → (b : Bool) → (k == m) ≡ b → erased_table s.places.table m (λ u. true) k v ≡ None
    gone k v h true e = rw e refl
    gone k v h false e = rw e (so.tables.unattached k v (sym (rw e refl) ∙ h))

    left : (k v : ℕ) (e : TableEntry) (x : MirrorState) → erased_table s.places.table m (λ u. true) k v ≡ Some e → with_at s.plain.mirrors m (with_attachment Gone (s.plain.mirrors m)) k ≡ Some x → (b : Bool) → (k == m) ≡ b → Entered s.places.committed_to x e v (s.places.place x.proc v)
    left k v e x h i true y = absurd (some_none (erased_table s.places.table m (λ u. true) k v) e h (rw y refl))
    left k v e x h i false y = so.tables.entered k v e x (sym (rw y refl) ∙ h) (sym (rw y refl) ∙ i)
tables_kept c s t a so (Kind.Told m r q) ok = record {
  unattached = λ k v h. gone k v (so.tables.unattached k v h);
  entered = λ k v e x h i. so.tables.entered k v e x (was k v e h) i;
}
  where
    gone : (k v : ℕ) → s.places.table k v ≡ None → erased_table s.places.table m (covers r) k v ≡ None
    gone k v h = grind (arith, nat_tests)

    was : (k v : ℕ) (e : TableEntry) → erased_table s.places.table m (covers r) k v ≡ Some e → s.places.table k v ≡ Some e
    was k v e h = grind (arith, nat_tests)
tables_kept c s t a so (Kind.Set m v f w from) ok = record {
  unattached = λ k u h. unattached k u h (k == m) refl;
  entered = λ k u e x h i. entered k u e x h i (k == m) refl (u == v) refl;
}
  where
    unattached : (k u : ℕ) → mirror_passes is_attached_state (s.plain.mirrors k) ≡ false → (b : Bool) → (k == m) ≡ b → with_entry s.places.table m v (record { target = f; right = w; from = from }) k u ≡ None
    unattached k u h true e = absurd (true_false (mirror_passes is_attached_state (s.plain.mirrors k)) (ap (λ i. mirror_passes is_attached_state (s.plain.mirrors i)) (eqb-true k m e) ∙ ap (mirror_passes is_attached_state) ok.is ∙ ok.attached) h)
    unattached k u h false e = rw e (so.tables.unattached k u h)

    new : (e : TableEntry) (x : MirrorState) → Some (record { target = f; right = w; from = from }) ≡ Some e → s.plain.mirrors m ≡ Some x → Entered s.places.committed_to x e v (s.places.place x.proc v)
    new e x h i = subst (λ y. Entered s.places.committed_to y e v (s.places.place y.proc v)) (same_some (s.plain.mirrors m) ok.mirror x ok.is i) (subst (λ y. Entered s.places.committed_to ok.mirror y v (s.places.place ok.mirror.proc v)) (same_some (Some (record { target = f; right = w; from = from })) _ e refl h) ok.fits)

    entered : (k u : ℕ) (e : TableEntry) (x : MirrorState) → with_entry s.places.table m v (record { target = f; right = w; from = from }) k u ≡ Some e → s.plain.mirrors k ≡ Some x → (b : Bool) → (k == m) ≡ b → (d : Bool) → (u == v) ≡ d → Entered s.places.committed_to x e u (s.places.place x.proc u)
    entered k u e x h i true eb true ed = subst (λ j. Entered s.places.committed_to x e j (s.places.place x.proc j)) (sym (eqb-true u v ed)) (new e x (sym (rw (eb, ed) refl) ∙ h) (ap s.plain.mirrors (sym (eqb-true k m eb)) ∙ i))
    entered k u e x h i true eb false ed = so.tables.entered k u e x (sym (rw (eb, ed) refl) ∙ h) i
    entered k u e x h i false eb d ed = so.tables.entered k u e x (sym (rw eb refl) ∙ h) i
tables_kept c s t a so (Kind.Take f) ok = record {
  unattached = so.tables.unattached;
  entered = λ k v e x h i. record {
    in_window = (so.tables.entered k v e x h i).in_window;
    matches = matches_to s.places.committed_to (with_frame s.places.committed_to f None) e.target e.right (s.places.place x.proc v) (λ g n. same x.proc v g n) (so.tables.entered k v e x h i).matches;
    own_device = (so.tables.entered k v e x h i).own_device;
  };
}
  where
    named : (y : Place) (g : Frame) → moving_frame y ≡ Some g → names y ≡ Some g
    named y g e = grind arith

    same : (q v : ℕ) (g : Frame) → moving_frame (s.places.place q v) ≡ Some g → s.places.committed_to g ≡ with_frame s.places.committed_to f None g
    same q v g n = grind (arith, frame_tells g f, so.frames.names_held q v g (named (s.places.place q v) g n), (free_says c s.places f.pool f ok).1)
tables_kept c s t a so (Kind.Committed f g) ok = record {
  unattached = so.tables.unattached;
  entered = λ k v e x h i. record {
    in_window = (so.tables.entered k v e x h i).in_window;
    matches = matches_to s.places.committed_to (with_frame s.places.committed_to f (Some g)) e.target e.right (s.places.place x.proc v) (λ y n. same k v e x h i y n (frame_tells y f)) (so.tables.entered k v e x h i).matches;
    own_device = (so.tables.entered k v e x h i).own_device;
  };
}
  where
    same : (k v : ℕ) (e : TableEntry) (x : MirrorState) → s.places.table k v ≡ Some e → s.plain.mirrors k ≡ Some x → (y : Frame) → moving_frame (s.places.place x.proc v) ≡ Some y → ((same_frame y f ≡ true) × (y ≡ f)) ⊎ ((same_frame y f ≡ false) × (y ≢ f)) → s.places.committed_to y ≡ with_frame s.places.committed_to f (Some g) y
    same k v e x h i y n (inl d) = absurd (matches_committed s.places.committed_to e.target e.right (s.places.place x.proc v) f (n ∙ ap Some d.1) ok.0.0.fresh (so.tables.entered k v e x h i).matches)
    same k v e x h i y n (inr d) = rw d.0 refl
tables_kept c s t a so (Kind.Place p v x) ok = record {
  unattached = so.tables.unattached;
  entered = λ k u e y h i. by k u e y h i (placed_cases s.places.place p v x y.proc u);
}
  where
    still : (k u : ℕ) (e : TableEntry) (y : MirrorState) → s.places.table k u ≡ Some e → s.plain.mirrors k ≡ Some y → y.proc ≡ p → u ≡ v → (b : Bool) → loses (s.places.place p v) x ≡ b → Matches s.places.committed_to e.target e.right (s.places.place y.proc u) → Matches s.places.committed_to e.target e.right x
    still k u e y h i d w true l m = absurd (no_entry c s t a p v k e y so (ok.mirrors.guarded l) (ap (s.places.table k) (sym w) ∙ h) i d)
    still k u e y h i d w false l m = matches_kept s.places.committed_to e.target e.right (s.places.place p v) x l (λ o. ok.mirrors.lands o l) (subst (λ j. Matches s.places.committed_to e.target e.right (s.places.place p j)) w (subst (λ j. Matches s.places.committed_to e.target e.right (s.places.place j u)) d m))

    by : (k u : ℕ) (e : TableEntry) (y : MirrorState) → s.places.table k u ≡ Some e → s.plain.mirrors k ≡ Some y → ((y.proc ≡ p) × (u ≡ v) × (with_place s.places.place p v x y.proc u ≡ x)) ⊎ (with_place s.places.place p v x y.proc u ≡ s.places.place y.proc u) →
        Entered s.places.committed_to y e u (with_place s.places.place p v x y.proc u)
    by k u e y h i (inl d) = record {
      in_window = (so.tables.entered k u e y h i).in_window;
      matches = subst (Matches s.places.committed_to e.target e.right) (sym d.2) (still k u e y h i d.0 d.1 (loses (s.places.place p v) x) refl (so.tables.entered k u e y h i).matches);
      own_device = (so.tables.entered k u e y h i).own_device;
    }
    by k u e y h i (inr d) = subst (Entered s.places.committed_to y e u) (sym d) (so.tables.entered k u e y h i)
tables_kept c s t a so k ok = so.tables
