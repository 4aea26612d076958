-- What an entry of another actor, or the actor's own about other frames, leaves of a frame that the actor empties.
use Rattle.std.proofs.Common.{◌≡◌, ℕ, ◌⊎◌, inl, inr, Bool, true, false, Option, Some, None, List, [], ◌∷◌, refl, sym, ap, ◌∙◌, arith}
use Rattle.std.proofs.lemmas.Bool.{and_parts}
use Rattle.std.proofs.lemmas.Option.{same_Some}
use Rattle.hm_base.specs.Program.{Program}
use Rattle.hm_base.specs.declared.Frame.{Frame}
use Rattle.hm_base.specs.declared.Place.{Place}
use Rattle.hm_history.specs.Memory.Words.{with_frame, names, names_directly, moving_frame, page_of}
use Rattle.hm_history.specs.Memory.Plain.{MirrorState, is_attached_state, mirror_passes, mirror_proc, proc_of}
use Rattle.hm_history.specs.Memory.Places.{TableEntry, with_place, cpu_writes, table_reads, table_writes}
use Rattle.hm_history.proofs.Owners.{owned_proc}
use Rattle.hm_history.specs.Memory.Contents.{zeros, backing, place_for, stored_in}
use Rattle.hm_history.specs.Memory.After.{After}
use Rattle.hm_history.specs.declared.Who.{Who}
use Rattle.hm_history.specs.declared.Kind.{Kind}
use Rattle.hm_laws.specs.Stood.{stood, is_moving}
use Rattle.hm_laws.specs.Past.{Past}
use Rattle.hm_laws.specs.Sound.{Sound}
use Rattle.hm_laws.specs.Allowed.{next, AllMoving, IsUnused, IsSource, IsFrozen, PlacesOk, Allowed}
use Rattle.hm_laws.specs.Moves.{Parts, IsReturning, IsReturned}
use Rattle.hm_laws.specs.Spares.{Spares}
use Rattle.hm_laws.proofs.Kept.Pools.{free_says}
use Rattle.hm_laws.proofs.Kept.Areas.{placed_cases}
use Rattle.hm_laws.proofs.Kept.Contents.{stood_else, commit_cases, writer_is, adder_is}
use Rattle.hm_laws.proofs.Kept.Frames.{moving_names, names_moving, direct_names}
use Rattle.hm_laws.proofs.Kept.Tables.{matches_committed}
use Rattle.hm_laws.proofs.Other.Frames.{frame_else, not_mine, not_about, not_free, lock_keeps, fresh_other, stored_else, contents_other}
use Rattle.hm_laws.proofs.State.TableEntries.{entry_of}
use Rattle.hm_history.proofs.Tests.{some_none, true_false}

-- who names the frame afterwards does as somebody did before; so with who stands for it, and with who is to return to it
pub names_back : (c : Program) (s : After) (t : Past) (a b : ℕ) → (k : Kind) → Allowed c s t a k → (f : Frame) → Spares s a b k f → s.locks.frame f ≡ Some b → (q u : ℕ) → names ((next s a k).places.place q u) ≡ Some f →
    (i : ℕ) × (j : ℕ) × (names (s.places.place i j) ≡ Some f) × (is_moving ((next s a k).places.place q u) ≡ false → is_moving (s.places.place i j) ≡ false)
names_back c s t a b (Kind.Place p v x) ok f sp h q u n = by (placed_cases s.places.place p v x q u)
  where
    fresh : names x ≡ Some f → (s.locks.frame f ≡ Some a) ⊎ ((i : ℕ) × (j : ℕ) × (names (s.places.place i j) ≡ Some f) × (is_moving x ≡ false → is_moving (s.places.place i j) ≡ false)) → with_place s.places.place p v x q u ≡ x →
        (i : ℕ) × (j : ℕ) × (names (s.places.place i j) ≡ Some f) × (is_moving (with_place s.places.place p v x q u) ≡ false → is_moving (s.places.place i j) ≡ false)
    fresh m (inl e) d = absurd (not_mine s a b (Kind.Place p v x) f sp (λ i. i.1 m) h e)
    fresh m (inr z) d = (z.0, z.1, z.2, λ m. z.3 (sym (ap is_moving d) ∙ m))

    by : ((q ≡ p) × (u ≡ v) × (with_place s.places.place p v x q u ≡ x)) ⊎ (with_place s.places.place p v x q u ≡ s.places.place q u) →
        (i : ℕ) × (j : ℕ) × (names (s.places.place i j) ≡ Some f) × (is_moving (with_place s.places.place p v x q u) ≡ false → is_moving (s.places.place i j) ≡ false)
    by (inl d) = let m : names x ≡ Some f = sym (ap names d.2) ∙ n in fresh m (ok.hand_over.fresh_names f m) d.2
    by (inr d) = (q, u, sym (ap names d) ∙ n, λ m. sym (ap is_moving d) ∙ m)
names_back c s t a b k ok f sp h q u n = (q, u, n, λ m. m)

pub stood_back : (c : Program) (s : After) (t : Past) (a b : ℕ) → Sound c s t → (k : Kind) → Allowed c s t a k → (f : Frame) → Spares s a b k f → s.locks.frame f ≡ Some b → (q u : ℕ) → stood (next s a k).places.committed_to ((next s a k).places.place q u) ≡ Some f →
    (i : ℕ) × (j : ℕ) × (stood s.places.committed_to (s.places.place i j) ≡ Some f) × (names ((next s a k).places.place q u) ≡ names (s.places.place i j))
stood_back c s t a b so (Kind.Place p v x) ok f sp h q u n = by (placed_cases s.places.place p v x q u)
  where
    fresh : stood s.places.committed_to x ≡ Some f → (s.locks.frame f ≡ Some a) ⊎ ((i : ℕ) × (j : ℕ) × (stood s.places.committed_to (s.places.place i j) ≡ Some f) × (names x ≡ names (s.places.place i j))) → with_place s.places.place p v x q u ≡ x →
        (i : ℕ) × (j : ℕ) × (stood s.places.committed_to (s.places.place i j) ≡ Some f) × (names (with_place s.places.place p v x q u) ≡ names (s.places.place i j))
    fresh m (inl e) d = absurd (not_mine s a b (Kind.Place p v x) f sp (λ i. i.2 m) h e)
    fresh m (inr z) d = (z.0, z.1, z.2, ap names d ∙ z.3)

    by : ((q ≡ p) × (u ≡ v) × (with_place s.places.place p v x q u ≡ x)) ⊎ (with_place s.places.place p v x q u ≡ s.places.place q u) →
        (i : ℕ) × (j : ℕ) × (stood s.places.committed_to (s.places.place i j) ≡ Some f) × (names (with_place s.places.place p v x q u) ≡ names (s.places.place i j))
    by (inl d) = let m : stood s.places.committed_to x ≡ Some f = sym (ap (stood s.places.committed_to) d.2) ∙ n in fresh m (ok.hand_over.fresh_stands f m) d.2
    by (inr d) = (q, u, sym (ap (stood s.places.committed_to) d) ∙ n, ap names d)
stood_back c s t a b so (Kind.Take g) ok f sp h q u n = (q, u, sym (stood_else s.places.committed_to g None (s.places.place q u) (λ e. true_false (s.places.held g) (so.frames.names_held q u g e) (free_says c s.places g.pool g ok).1)) ∙ n, refl)
stood_back c s t a b so (Kind.Committed i g) ok f sp h q u n = by (commit_cases s.places.committed_to i g (s.places.place q u))
  where
    by : ((moving_frame (s.places.place q u) ≡ Some i) × (stood (with_frame s.places.committed_to i (Some g)) (s.places.place q u) ≡ Some g)) ⊎ ((moving_frame (s.places.place q u) ≡ Some i → ⊥) × (stood (with_frame s.places.committed_to i (Some g)) (s.places.place q u) ≡ stood s.places.committed_to (s.places.place q u))) →
        (i : ℕ) × (j : ℕ) × (stood s.places.committed_to (s.places.place i j) ≡ Some f) × (names (s.places.place q u) ≡ names (s.places.place i j))
    by (inl e) = absurd (not_about s a b (Kind.Committed i g) f g sp (λ j. j.1) h ok.1.0.mine (same_Some f g (sym n ∙ e.1)))
    by (inr e) = (q, u, sym e.1 ∙ n, refl)
stood_back c s t a b so k ok f sp h q u n = (q, u, n, refl)

pub frozen_back : (c : Program) (s : After) (t : Past) (a b : ℕ) → (k : Kind) → Allowed c s t a k → (f : Frame) → Spares s a b k f → s.locks.frame f ≡ Some b → (q u : ℕ) → moving_frame ((next s a k).places.place q u) ≡ Some f → (i : ℕ) × (j : ℕ) × (moving_frame (s.places.place i j) ≡ Some f)
frozen_back c s t a b (Kind.Place p v x) ok f sp h q u n = by (placed_cases s.places.place p v x q u)
  where
    fresh : moving_frame x ≡ Some f → (s.locks.frame f ≡ None) ⊎ ((s.locks.frame f ≡ Some a) ⊎ ((i : ℕ) × (j : ℕ) × (moving_frame (s.places.place i j) ≡ Some f))) → (i : ℕ) × (j : ℕ) × (moving_frame (s.places.place i j) ≡ Some f)
    fresh m (inl e) = absurd (some_none (s.locks.frame f) b h e)
    fresh m (inr (inl e)) = absurd (not_mine s a b (Kind.Place p v x) f sp (λ i. i.1 (moving_names x f m).0) h e)
    fresh m (inr (inr z)) = z

    by : ((q ≡ p) × (u ≡ v) × (with_place s.places.place p v x q u ≡ x)) ⊎ (with_place s.places.place p v x q u ≡ s.places.place q u) → (i : ℕ) × (j : ℕ) × (moving_frame (s.places.place i j) ≡ Some f)
    by (inl d) = let m : moving_frame x ≡ Some f = sym (ap moving_frame d.2) ∙ n in fresh m (ok.hand_over.freezes f m)
    by (inr d) = (q, u, sym (ap moving_frame d) ∙ n)
frozen_back c s t a b k ok f sp h q u n = (q, u, n)

-- a frame whose contents are to go elsewhere
pub source_other : (c : Program) (s : After) (t : Past) (a b : ℕ) → Sound c s t → (k : Kind) → Allowed c s t a k → (f : Frame) → Spares s a b k f → IsSource s b f → IsSource (next s a k) b f
source_other c s t a b so k ok f sp h = record {
  mine = lock_keeps c s t a b so k ok f sp h.mine;
  fresh = fresh_other c s t a b so k ok f sp h.mine h.fresh;
  stood_by = λ q u n. at q u (stood_back c s t a b so k ok f sp h.mine q u n);
}
  where
    at : (q u : ℕ) → (i : ℕ) × (j : ℕ) × (stood s.places.committed_to (s.places.place i j) ≡ Some f) × (names ((next s a k).places.place q u) ≡ names (s.places.place i j)) → names ((next s a k).places.place q u) ≡ Some f
    at q u z = z.3 ∙ h.stood_by z.0 z.1 z.2

still_moving : (c : Program) (s : After) (t : Past) (a b : ℕ) → (k : Kind) → Allowed c s t a k → (f : Frame) → Spares s a b k f → s.locks.frame f ≡ Some b → AllMoving s.places.place f → AllMoving (next s a k).places.place f
still_moving c s t a b k ok f sp h m q u n = by (is_moving ((next s a k).places.place q u)) refl (names_back c s t a b k ok f sp h q u n)
  where
    by : (x : Bool) → is_moving ((next s a k).places.place q u) ≡ x → (i : ℕ) × (j : ℕ) × (names (s.places.place i j) ≡ Some f) × (is_moving ((next s a k).places.place q u) ≡ false → is_moving (s.places.place i j) ≡ false) → x ≡ true
    by true e z = refl
    by false e z = absurd (true_false (is_moving (s.places.place z.0 z.1)) (m z.0 z.1 z.2) (z.3 e))

pub frozen_other : (c : Program) (s : After) (t : Past) (a b : ℕ) → Sound c s t → (k : Kind) → Allowed c s t a k → (f : Frame) → Spares s a b k f → IsFrozen s b f → IsFrozen (next s a k) b f
frozen_other c s t a b so k ok f sp h = (source_other c s t a b so k ok f sp h.0, still_moving c s t a b k ok f sp h.0.mine h.1)

-- a frame whose pages return
pub direct_of : (x : Place) (g : Frame) → names x ≡ Some g → (moving_frame x ≡ Some g → ⊥) → names_directly x ≡ Some g
direct_of Place.Empty g n m = cc
direct_of Place.Zero g n m = cc
direct_of (Place.Sys i w) g n m = n
direct_of (Place.Own d i w) g n m = n
direct_of (Place.Moving f w) g n m = absurd (m n)
direct_of (Place.Exclusive i e) g n m = n

moved_other : (c : Program) (s : After) (t : Past) (a b : ℕ) → Sound c s t → (k : Kind) → Allowed c s t a k → (f : Frame) (y : Option Frame) → Spares s a b k f → s.locks.frame f ≡ Some b → s.places.committed_to f ≡ y → (next s a k).places.committed_to f ≡ y
moved_other c s t a b so (Kind.Take g) ok f y sp h e = frame_else s.places.committed_to g f None (not_free c s t b f g so h ok) ∙ e
moved_other c s t a b so (Kind.Committed i g) ok f y sp h e = frame_else s.places.committed_to i f (Some g) (not_about s a b (Kind.Committed i g) f i sp (λ j. j.0) h ok.0.0.mine) ∙ e
moved_other c s t a b so k ok f y sp h e = e

no_return : (c : Program) (s : After) (t : Past) (a b : ℕ) → (k : Kind) → Allowed c s t a k → (g : Frame) → Spares s a b k g → s.locks.frame g ≡ Some b → ((q u : ℕ) → moving_frame (s.places.place q u) ≡ Some g → ⊥) → (q u : ℕ) → moving_frame ((next s a k).places.place q u) ≡ Some g → ⊥
no_return c s t a b k ok g sp h none q u m = at (frozen_back c s t a b k ok g sp h q u m)
  where
    at : (i : ℕ) × (j : ℕ) × (moving_frame (s.places.place i j) ≡ Some g) → ⊥
    at z = none z.0 z.1 z.2

pub returning_other : (c : Program) (s : After) (t : Past) (a b : ℕ) → Sound c s t → (k : Kind) → Allowed c s t a k → (f g : Frame) → Spares s a b k f → Spares s a b k g → IsReturning s b f g → IsReturning (next s a k) b f g
returning_other c s t a b so k ok f g sf sg h = record {
  mine = lock_keeps c s t a b so k ok f sf h.mine;
  moved = moved_other c s t a b so k ok f (Some g) sf h.mine h.moved;
  frozen = still_moving c s t a b k ok f sf h.mine h.frozen;
  unstood = λ q u n. none (stood_back c s t a b so k ok f sf h.mine q u n);
  dest = lock_keeps c s t a b so k ok g sg h.dest;
  fresh = moved_other c s t a b so k ok g None sg h.dest h.fresh;
  lands = no_return c s t a b k ok g sg h.dest h.lands;
  stood_by = λ q u n. at q u (stood_back c s t a b so k ok g sg h.dest q u n);
}
  where
    none : {x : Option Frame} → (i : ℕ) × (j : ℕ) × (stood s.places.committed_to (s.places.place i j) ≡ Some f) × (x ≡ names (s.places.place i j)) → ⊥
    none z = h.unstood z.0 z.1 z.2

    at : (q u : ℕ) → (i : ℕ) × (j : ℕ) × (stood s.places.committed_to (s.places.place i j) ≡ Some g) × (names ((next s a k).places.place q u) ≡ names (s.places.place i j)) → (moving_frame ((next s a k).places.place q u) ≡ Some f) ⊎ (names_directly ((next s a k).places.place q u) ≡ Some g)
    at q u z = by (h.stood_by z.0 z.1 z.2)
      where
        named : (y : Frame) → names (s.places.place z.0 z.1) ≡ Some y → names ((next s a k).places.place q u) ≡ Some y
        named y n = z.3 ∙ n

        by : (moving_frame (s.places.place z.0 z.1) ≡ Some f) ⊎ (names_directly (s.places.place z.0 z.1) ≡ Some g) → (moving_frame ((next s a k).places.place q u) ≡ Some f) ⊎ (names_directly ((next s a k).places.place q u) ≡ Some g)
        by (inl m) = inl (names_moving ((next s a k).places.place q u) f (named f (moving_names (s.places.place z.0 z.1) f m).0) (still_moving c s t a b k ok f sf h.mine h.frozen q u (named f (moving_names (s.places.place z.0 z.1) f m).0)))
        by (inr d) = inr (direct_of ((next s a k).places.place q u) g (named g (direct_names (s.places.place z.0 z.1) g d).0) (no_return c s t a b k ok g sg h.dest h.lands q u))

pub returned_other : (c : Program) (s : After) (t : Past) (a b : ℕ) → Sound c s t → (k : Kind) → Allowed c s t a k → (g : Frame) → Spares s a b k g → IsReturned s b g → IsReturned (next s a k) b g
returned_other c s t a b so k ok g sp h = record {
  dest = lock_keeps c s t a b so k ok g sp h.dest;
  lands = no_return c s t a b k ok g sp h.dest h.lands;
  stood_by = λ q u n. at q u (stood_back c s t a b so k ok g sp h.dest q u n);
}
  where
    at : (q u : ℕ) → (i : ℕ) × (j : ℕ) × (stood s.places.committed_to (s.places.place i j) ≡ Some g) × (names ((next s a k).places.place q u) ≡ names (s.places.place i j)) → names_directly ((next s a k).places.place q u) ≡ Some g
    at q u z = direct_of ((next s a k).places.place q u) g (z.3 ∙ (direct_names (s.places.place z.0 z.1) g (h.stood_by z.0 z.1 z.2)).0) (no_return c s t a b k ok g sp h.dest h.lands q u)

-- its contents stay while all its pages are frozen: no access goes through a migration entry before the commit
table_entry : (c : Program) (s : After) (t : Past) (m v : ℕ) (e : TableEntry) (f : Frame) → Sound c s t → s.places.table m v ≡ Some e → moving_frame (s.places.place (mirror_proc s.plain m) v) ≡ Some f → s.places.committed_to f ≡ None → ⊥
table_entry c s t m v e f so i mv n = by (s.plain.mirrors m) refl
  where
    by : (x : Option MirrorState) → s.plain.mirrors m ≡ x → ⊥
    by None ex = some_none (s.places.table m v) e i (so.tables.unattached m v (ap (mirror_passes is_attached_state) ex))
    by (Some x) ex = matches_committed s.places.committed_to e.target e.right (s.places.place x.proc v) f (ap (λ p. moving_frame (s.places.place p v)) proc ∙ mv) n (so.tables.entered m v e x i ex).matches
      where
        proc : x.proc ≡ mirror_proc s.plain m
        proc = sym (ap (λ (y : Option MirrorState). elim y [ None ↦ 0 | Some z ↦ z.proc ]) ex)

not_frozen_cpu : (x : Place) (f : Frame) → cpu_writes x ≡ true → moving_frame x ≡ Some f → ⊥
not_frozen_cpu x f w m = grind arith

unwritten : (c : Program) (s : After) (t : Past) (a : ℕ) (x : Who) (at : ℕ) (bs : List ℕ) (f : Frame) → Sound c s t → PlacesOk c s a (Kind.Stored x at bs) → moving_frame (s.places.place (proc_of s.plain x) (page_of at)) ≡ Some f → s.places.committed_to f ≡ None → ⊥
unwritten c s t a (Who.Cpu p) at bs f so ok m n = not_frozen_cpu (s.places.place p (page_of at)) f ok m
unwritten c s t a (Who.Mirror i) at bs f so ok m n = let e = entry_of _ (s.places.table i (page_of at)) (and_parts (table_reads s.places i (mirror_proc s.plain i) (page_of at)) _ (owned_proc s.plain i (λ p. table_writes s.places i p (page_of at)) ok)).0 in table_entry c s t i (page_of at) e.0 f so e.1 m n

pub frozen_contents : (c : Program) (s : After) (t : Past) (a b : ℕ) → Sound c s t → (k : Kind) → Allowed c s t a k → (f : Frame) → Spares s a b k f → IsFrozen s b f → (next s a k).contents f ≡ s.contents f
frozen_contents c s t a b so (Kind.Take g) ok f sp h = frame_else s.contents g f zeros (not_free c s t b f g so h.0.mine ok)
frozen_contents c s t a b so (Kind.Copied i g k) ok f sp h = frame_else s.contents g f _ (not_about s a b (Kind.Copied i g k) f g sp (λ j. j) h.0.mine ok.mine)
frozen_contents c s t a b so (Kind.Stored y at bs) ok f sp h = ap (λ i. stored_in s.contents (backing s.places (place_for s.places i (page_of at))) at bs f) (writer_is a c s at bs y ok.2) ∙ stored_else s (proc_of s.plain y) (page_of at) at bs f (λ n. unwritten c s t a y at bs f so ok.2 (names_moving (s.places.place (proc_of s.plain y) (page_of at)) f (h.0.stood_by _ _ n) (h.1 _ _ (h.0.stood_by _ _ n))) h.0.fresh)
frozen_contents c s t a b so (Kind.Added m at was now) ok f sp h = ap (λ i. stored_in s.contents (backing s.places (place_for s.places i (page_of at))) at (now ∷ []) f) (adder_is s a m at ok.1).0 ∙ stored_else s (mirror_proc s.plain m) (page_of at) at (now ∷ []) f (λ n. sole (names_moving (s.places.place (mirror_proc s.plain m) (page_of at)) f (h.0.stood_by _ _ n) (h.1 _ _ (h.0.stood_by _ _ n))))
  where
    sole : moving_frame (s.places.place (mirror_proc s.plain m) (page_of at)) ≡ Some f → ⊥
    sole mv = let e = entry_of _ (s.places.table m (page_of at)) (adder_is s a m at ok.1).1 in table_entry c s t m (page_of at) e.0 f so e.1 mv h.0.fresh
frozen_contents c s t a b so k ok f sp h = refl

-- what was copied of it to a frame that nobody uses is there
pub parts_other : (c : Program) (s : After) (t : Past) (a b : ℕ) → Sound c s t → (k : Kind) → Allowed c s t a k → (f g : Frame) (n : ℕ) → Spares s a b k f → Spares s a b k g → IsFrozen s b f → IsUnused s b g → Parts s f g n → Parts (next s a k) f g n
parts_other c s t a b so k ok f g n sf sg h u p o l m = ap (λ (y : ℕ → ℕ). y o) (contents_other c s t a b so k ok g sg u) ∙ p o l m ∙ sym (ap (λ (y : ℕ → ℕ). y o) (frozen_contents c s t a b so k ok f sf h))
