-- What pages show: by their places, and through a mirror's table.
use Rattle.std.proofs.Common.{◌≡◌, ℕ, zero, suc, ◌+◌, ◌%◌, ◌^◌, ◌<◌, ◌≤◌, Bool, true, false, Option, Some, None, is_some, unwrap_or, List, slice_index_or, refl, sym, ap, ◌∙◌, arith, subst}
use Rattle.std.proofs.lemmas.Bool.{and_parts}
use Rattle.hm_base.specs.Program.{Program}
use Rattle.hm_base.specs.declared.Frame.{Frame}
use Rattle.hm_base.specs.declared.Place.{Place}
use Rattle.hm_history.specs.Memory.Words.{page_of, bytes_from, is_empty_place}
use Rattle.hm_history.specs.Memory.Plain.{MirrorState, mirror_proc, mirror_passes, is_attached_state}
use Rattle.hm_history.specs.Memory.Places.{Places, TableEntry, is_exclusive_by, is_sole, may_read, entry_passes}
use Rattle.hm_history.specs.Memory.Contents.{backing, contents_of, shown_by}
use Rattle.hm_history.specs.Memory.After.{After}
use Rattle.hm_history.specs.Kernel.Due.{is_usable, has_exclusive}
use Rattle.hm_history.specs.declared.TableRight.{TableRight}
use Rattle.hm_laws.specs.Past.{Past}
use Rattle.hm_laws.specs.Stood.{stood, Fits, FitsSole, Matches}
use Rattle.hm_laws.specs.Sound.{Sound}
use Rattle.hm_laws.proofs.Kept.Contents.{backing_is}
use Rattle.hm_world.specs.WorldValue.{WorldValue, now}
use Rattle.hm_world.specs.Stands.{Parts, Stands}
use Rattle.hm_world.specs.Mirrored.{MirroredBy}
use Rattle.hm_world.proofs.FitsOf.{backs_held}
use Rattle.hm_world.proofs.Standing.{Lawful, lawful}
use Rattle.hm_history.proofs.Tests.{some_none, true_false}
use Rattle.hm_history.proofs.Pages.{address_past, empty_is}

past_page : (c : Program) (s : After) (t : Past) → Sound c s t → (p v : ℕ) → 2 ^ 36 ≤ v → Place.Empty ≡ s.places.place p v
past_page c s t so p v l = by (is_empty_place (s.places.place p v)) refl
  where
    by : (b : Bool) → is_empty_place (s.places.place p v) ≡ b → Place.Empty ≡ s.places.place p v
    by true e = empty_is (s.places.place p v) e
    by false e = absurd (omega (arith, so.places.ranged p v e, l))

pub no_page : (t u : WorldValue) → t ≡ u → (x : Parts) → Stands t x → (p a : ℕ) → 2 ^ 48 ≤ a → Place.Empty ≡ (now u).after.places.place p (page_of a)
no_page t u e x s p a l = subst (λ v. Place.Empty ≡ (now v).after.places.place p (page_of a)) e
    (let w : Lawful t.script t.history (now t).after (now t).going = lawful t x s in past_page t.script (now t).after w.past w.sound p (page_of a) (address_past a l))

address_below : (a : ℕ) → page_of a < 2 ^ 36 → a < 2 ^ 48
address_below a l = omega (arith, l)

-- a page that has a place, of a process that is there
pub record Reads (s : After) (p v : ℕ) : Type 0 where
  pub there : s.plain.there p ≡ true
  pub used : is_empty_place (s.places.place p v) ≡ false

pub reads_below : (c : Program) (s : After) (t : Past) → Sound c s t → (p a : ℕ) → Reads s p (page_of a) → a < 2 ^ 48
reads_below c s t so p a h = address_below a (so.places.ranged p (page_of a) h.used)

bytes_as : (f g : ℕ → ℕ) (o a n : ℕ) → ((i : ℕ) → i < n → f (o + i) ≡ g (a + i)) → bytes_from f o n ≡ bytes_from g a n
bytes_as f g o a zero h = refl
bytes_as f g o a (suc n) h = rw (bytes_from, first, bytes_as f g (o + 1) (a + 1) n next) refl
  where
    first : f o ≡ g a
    first = let e : f (o + 0) ≡ g (a + 0) = h 0 (omega arith) in subst (λ j. f j ≡ g a) (zeroed o) (subst (λ j. f (o + 0) ≡ g j) (zeroed a) e)
      where
        zeroed : (j : ℕ) → j + 0 ≡ j
        zeroed j = omega arith

    moved : (j i : ℕ) → j + 1 + i ≡ j + (i + 1)
    moved j i = omega arith

    next : (i : ℕ) → i < n → f (o + 1 + i) ≡ g (a + 1 + i)
    next i l = ap f (moved o i) ∙ h (i + 1) (omega arith) ∙ sym (ap g (moved a i))

same_page : (a i n : ℕ) → i < n → a % 4096 + n ≤ 4096 → (page_of (a + i) ≡ page_of a) × ((a + i) % 4096 ≡ a % 4096 + i)
same_page a i n l k = (omega (arith, l, k), omega (arith, l, k))

-- what a frame shows is what the process wrote
pub page_shows : (c : Program) (s : After) (t : Past) → Sound c s t → (p a n : ℕ) → Reads s p (page_of a) → a % 4096 + n ≤ 4096 → bytes_from (shown_by s.contents (stood s.places.committed_to (s.places.place p (page_of a)))) (a % 4096) n ≡ bytes_from (s.plain.bytes p) a n
page_shows c s t so p a n h l = bytes_as _ (s.plain.bytes p) (a % 4096) a n each
  where
    each : (i : ℕ) → i < n → shown_by s.contents (stood s.places.committed_to (s.places.place p (page_of a))) (a % 4096 + i) ≡ s.plain.bytes p (a + i)
    each i k = let e : (page_of (a + i) ≡ page_of a) × ((a + i) % 4096 ≡ a % 4096 + i) = same_page a i n k l in
        sym (ap (shown_by s.contents (stood s.places.committed_to (s.places.place p (page_of a)))) e.1)
        ∙ sym (ap (λ v. shown_by s.contents (stood s.places.committed_to (s.places.place p v)) ((a + i) % 4096)) e.0)
        ∙ so.reads.reads p (a + i) h.there (ap (λ v. is_empty_place (s.places.place p v)) e.0 ∙ h.used)

-- through a mirror's entry
fits_stood : (to : Frame → Option Frame) (t : Option Frame) (w : Bool) (x : Place) → Fits to t w x → (stood to x ≡ t) × (is_empty_place x ≡ false)
fits_stood to t w Place.Empty h = absurd h
fits_stood to t w Place.Zero h = (sym h.0, refl)
fits_stood to t w (Place.Sys n z) h = (sym h.0, refl)
fits_stood to t w (Place.Own d n z) h = (sym h.0, refl)
fits_stood to t w (Place.Moving f z) h = (by (to f) t h.0 h.1, refl)
  where
    by : (y t : Option Frame) → y ≡ t → is_some t ≡ true → Some (unwrap_or y f) ≡ t
    by y None e k = cc
    by y (Some g) e k = rw e refl
fits_stood to t w (Place.Exclusive n b) h = absurd h

sole_stood : (to : Frame → Option Frame) (t : Option Frame) (x : Place) → FitsSole t x → (stood to x ≡ t) × (is_empty_place x ≡ false)
sole_stood to t (Place.Exclusive n b) h = (sym h, refl)
sole_stood to t Place.Empty h = absurd h
sole_stood to t Place.Zero h = absurd h
sole_stood to t (Place.Sys n w) h = absurd h
sole_stood to t (Place.Own d n w) h = absurd h
sole_stood to t (Place.Moving f w) h = absurd h

matches_stood : (to : Frame → Option Frame) (t : Option Frame) (r : TableRight) (x : Place) → Matches to t r x → (stood to x ≡ t) × (is_empty_place x ≡ false)
matches_stood to t TableRight.Read x h = fits_stood to t false x h
matches_stood to t TableRight.Write x h = fits_stood to t true x h
matches_stood to t TableRight.Sole x h = sole_stood to t x h

pub record Through (s : After) (m v : ℕ) (target : Option Frame) : Type 0 where
  pub reads : Reads s (mirror_proc s.plain m) v
  pub stands : stood s.places.committed_to (s.places.place (mirror_proc s.plain m) v) ≡ target

pub through : (c : Program) (s : After) (t : Past) → Sound c s t → (m v : ℕ) (e : TableEntry) → s.places.table m v ≡ Some e → Through s m v e.target
through c s t so m v e i = by (s.plain.mirrors m) refl
  where
    by : (x : Option MirrorState) → s.plain.mirrors m ≡ x → Through s m v e.target
    by None ex = absurd (some_none (s.places.table m v) e i (so.tables.unattached m v (ap (mirror_passes is_attached_state) ex)))
    by (Some x) ex = record { reads = record { there = there; used = fit.1 }; stands = fit.0 }
      where
        proc : x.proc ≡ mirror_proc s.plain m
        proc = sym (ap (λ (y : Option MirrorState). elim y [ None ↦ 0 | Some z ↦ z.proc ]) ex)

        fit : (stood s.places.committed_to (s.places.place (mirror_proc s.plain m) v) ≡ e.target) × (is_empty_place (s.places.place (mirror_proc s.plain m) v) ≡ false)
        fit = subst (λ p. (stood s.places.committed_to (s.places.place p v) ≡ e.target) × (is_empty_place (s.places.place p v) ≡ false)) proc
            (matches_stood s.places.committed_to e.target e.right (s.places.place x.proc v) (so.tables.entered m v e x i ex).matches)

        there : s.plain.there (mirror_proc s.plain m) ≡ true
        there = at (s.plain.there (mirror_proc s.plain m)) refl
          where
            at : (b : Bool) → s.plain.there (mirror_proc s.plain m) ≡ b → b ≡ true
            at true k = refl
            at false k = absurd (true_false (is_empty_place (s.places.place (mirror_proc s.plain m) v)) (so.areas.absent (mirror_proc s.plain m) v k (subst (λ p. s.plain.been p ≡ true) proc (so.arrivals.of_been m x ex))) fit.1)

pub some_entry : (test : TableEntry → Bool) (x : Option TableEntry) → entry_passes test x ≡ true → (e : TableEntry) × (x ≡ Some e)
some_entry test None h = cc
some_entry test (Some e) h = (e, refl)

pub usable_entry : (x : Option TableEntry) → is_usable false x ≡ true → (e : TableEntry) × (x ≡ Some e)
usable_entry x h = some_entry (λ y. may_read y.right) x h

pub alone_entry : (s : After) (a m v : ℕ) → has_exclusive s a m v ≡ true → (e : TableEntry) × (s.places.table m v ≡ Some e)
alone_entry s a m v h = some_entry (λ x. is_sole x.right) (s.places.table m v) (and_parts (entry_passes (λ x. is_sole x.right) (s.places.table m v)) (is_exclusive_by (s.places.place (mirror_proc s.plain m) v) a) h).0

pub mirrored_is : (t : Places) (x : Option TableEntry) (e : TableEntry) (y : Place) → x ≡ Some e → MirroredBy x y → backing t y ≡ e.target
mirrored_is t x e y i h = by (subst (λ z. MirroredBy z y) i h)
  where
    by : MirroredBy (Some e) y → backing t y ≡ e.target
    by k = k t

-- the same of a world's state
law_of : (t u : WorldValue) → t ≡ u → (x : Parts) → Stands t x → (p : Past) × Sound u.script (now u).after p
law_of t u e x s = let w : Lawful t.script t.history (now t).after (now t).going = lawful t x s in
    subst (λ v. (p : Past) × Sound v.script (now v).after p) e (w.past, w.sound)

pub at_below : (t u : WorldValue) → t ≡ u → (x : Parts) → Stands t x → (p a : ℕ) → Reads (now u).after p (page_of a) → a < 2 ^ 48
at_below t u e x s p a h = let w = law_of t u e x s in reads_below u.script (now u).after w.0 w.1 p a h

pub held_at : (t u : WorldValue) → t ≡ u → (x : Parts) → Stands t x → (p v : ℕ) (f : Frame) → backing (now u).after.places ((now u).after.places.place p v) ≡ Some f → (now u).after.places.held f ≡ true
held_at t u e x s p v f h = let w = law_of t u e x s in backs_held u.script (now u).after w.0 w.1 p v f h

pub shows_at : (t u : WorldValue) → t ≡ u → (x : Parts) → Stands t x → (p a n : ℕ) → Reads (now u).after p (page_of a) → a % 4096 + n ≤ 4096 →
    bytes_from (contents_of (now u).after.places (now u).after.contents ((now u).after.places.place p (page_of a))) (a % 4096) n ≡ bytes_from ((now u).after.plain.bytes p) a n
shows_at t u e x s p a n h l = let w = law_of t u e x s in
    ap (λ f. bytes_from (shown_by (now u).after.contents f) (a % 4096) n) (backing_is (now u).after.places ((now u).after.places.place p (page_of a))) ∙ page_shows u.script (now u).after w.0 w.1 p a n h l

pub through_now : (t u : WorldValue) → t ≡ u → (x : Parts) → Stands t x → (m v : ℕ) (y : TableEntry) → (now u).after.places.table m v ≡ Some y → Through (now u).after m v y.target
through_now t u e x s m v y i = let w = law_of t u e x s in through u.script (now u).after w.0 w.1 m v y i

pub held_through : (t u : WorldValue) → t ≡ u → (x : Parts) → Stands t x → (m v : ℕ) (y : TableEntry) (z : Place) → (now u).after.places.table m v ≡ Some y → backing (now u).after.places z ≡ y.target → (f : Frame) →
    backing (now u).after.places z ≡ Some f → (now u).after.places.held f ≡ true
held_through t u e x s m v y z i b f k = let w = law_of t u e x s in let h = through_now t u e x s m v y i in
    w.1.frames.stands_held (mirror_proc (now u).after.plain m) v f (h.stands ∙ sym b ∙ k)

pub shows_through : (t u : WorldValue) → t ≡ u → (x : Parts) → Stands t x → (m a n : ℕ) (y : TableEntry) (z : Place) → (now u).after.places.table m (page_of a) ≡ Some y → backing (now u).after.places z ≡ y.target → a % 4096 + n ≤ 4096 →
    bytes_from (contents_of (now u).after.places (now u).after.contents z) (a % 4096) n ≡ bytes_from ((now u).after.plain.bytes (mirror_proc (now u).after.plain m)) a n
shows_through t u e x s m a n y z i b l = let w = law_of t u e x s in let h = through_now t u e x s m (page_of a) y i in
    ap (λ f. bytes_from (shown_by (now u).after.contents f) (a % 4096) n) (b ∙ sym h.stands) ∙ page_shows u.script (now u).after w.0 w.1 (mirror_proc (now u).after.plain m) a n h.reads l

pub byte_through : (t u : WorldValue) → t ≡ u → (x : Parts) → Stands t x → (m a : ℕ) (y : TableEntry) (z : Place) → (now u).after.places.table m (page_of a) ≡ Some y → backing (now u).after.places z ≡ y.target →
    contents_of (now u).after.places (now u).after.contents z (a % 4096) ≡ (now u).after.plain.bytes (mirror_proc (now u).after.plain m) a
byte_through t u e x s m a y z i b = ap (λ (l : List ℕ). slice_index_or l 0 0) (shows_through t u e x s m a 1 y z i b (omega arith))
