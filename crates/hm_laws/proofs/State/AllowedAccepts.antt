-- What an allowed entry says of the state before it.
use Rattle.std.proofs.Common.{◌≡◌, ℕ, Bool, true, false, ◌||◌, not, is_none, Option, Some, None, List, [], ◌∷◌, refl, sym, ap, ◌∙◌, arith, unwrap_or}
use Rattle.std.specs.List.{list_all}
use Rattle.std.proofs.lemmas.Bool.Decides.{nat_tests}
use Rattle.std.proofs.lemmas.Bool.{and_from}
use Rattle.hm_base.specs.Program.{Program}
use Rattle.hm_base.specs.declared.PoolId.{PoolId}
use Rattle.hm_base.specs.declared.Frame.{Frame}
use Rattle.hm_base.specs.declared.Place.{Place}
use Rattle.hm_history.specs.Memory.Words.{same_frame, is_frame, names, writable}
use Rattle.hm_history.specs.Memory.Plain.{plain_accepts, mirror_owner, owned}
use Rattle.hm_history.specs.Memory.Places.{Places, is_page, lowest, lowest_named, lowest_free, is_withdrawn, places_accept, one_writer, stands_for, is_frame_target, holds_target, is_for_device, is_removed}
use Rattle.hm_history.specs.Memory.Sequences.{Interval, sequences_accept}
use Rattle.hm_history.specs.Memory.Lookups.{loses, is_guarded, narrows_guarded}
use Rattle.hm_history.specs.Memory.After.{After}
use Rattle.hm_history.specs.declared.Who.{Who}
use Rattle.hm_history.specs.declared.Kind.{Kind}
use Rattle.hm_laws.specs.Stood.{stood, Unnamed}
use Rattle.hm_laws.specs.Past.{Past}
use Rattle.hm_laws.specs.Sound.{FrameRules, Pairing, Sound}
use Rattle.hm_laws.specs.Allowed.{next, Allowed}
use Rattle.hm_laws.proofs.State.Search.{all_pass}
use Rattle.hm_laws.proofs.Kept.Pools.{free_says}
use Rattle.hm_laws.proofs.Kept.Contents.{backing_is}
use Rattle.hm_laws.proofs.Kept.Mirrors.{interval_of}
use Rattle.hm_laws.proofs.Kept.Sound.{kept}
use Rattle.hm_history.proofs.Tests.{true_false}
use Rattle.hm_history.proofs.Frames.{frame_tells, is_frame_from, is_frame_of}

-- answers
pub answers_of : (c : Program) (s : After) (t : Past) (a : ℕ) (k : Kind) → Allowed c s t a k → plain_accepts s.plain k ≡ true
answers_of c s t a (Kind.Loaded x at bs) ok = ok.1
answers_of c s t a (Kind.Stored x at bs) ok = ok.1
answers_of c s t a (Kind.Failed x at n k) ok = ok.1
answers_of c s t a (Kind.Mapped p r w) ok = ok.2
answers_of c s t a (Kind.Unmapped p r) ok = ok.3
answers_of c s t a (Kind.Protected p r w) ok = ok.3
answers_of c s t a (Kind.Forked p d) ok = ok.4
answers_of c s t a (Kind.Exited p) ok = ok.2
answers_of c s t a (Kind.Attached m d p r q) ok = ok.1
answers_of c s t a (Kind.Detaching m q) ok = ok.0
answers_of c s t a (Kind.Detached m) ok = ok.0
answers_of c s t a (Kind.Named p d) ok = ok
answers_of c s t a (Kind.Fetched m at bs) ok = ok.0
answers_of c s t a (Kind.Added m at was now) ok = ok.0
answers_of c s t a k ok = refl

-- sequences
pub sequences_of : (c : Program) (s : After) (t : Past) (a : ℕ) (k : Kind) → Allowed c s t a k → sequences_accept s.sequences a k ≡ true
sequences_of c s t a (Kind.Start p r q) ok = ok.1
sequences_of c s t a (Kind.Told m r q) ok = ok
sequences_of c s t a (Kind.End p r q) ok = ok
sequences_of c s t a (Kind.Attached m d p r q) ok = ok.2
sequences_of c s t a (Kind.Detaching m q) ok = ok.1
sequences_of c s t a (Kind.Detached m) ok = ok.1
sequences_of c s t a (Kind.Begin m q) ok = ok
sequences_of c s t a k ok = refl

-- narrowing
pub guarded_of : (c : Program) (s : After) (t : Past) (a : ℕ) (k : Kind) → Allowed c s t a k → narrows_guarded s.sequences s.places.place a k ≡ true
guarded_of c s t a (Kind.Place p v x) ok = by (loses (s.places.place p v) x) ok.mirrors.guarded
  where
    by : (b : Bool) → (b ≡ true → is_guarded s.sequences a p v ≡ true) → (not b || is_guarded s.sequences a p v) ≡ true
    by true h = h refl
    by false h = refl
guarded_of c s t a k ok = refl

-- no place shares what a writable one stands for
targets_say : (t : Places) (x y : Place) → is_frame_target (stands_for t x) (stands_for t y) ≡ true → (f : Frame) × (stood t.committed_to x ≡ Some f) × (stood t.committed_to y ≡ Some f)
targets_say t x y h = by (stands_for t x) refl (stands_for t y) refl h
  where
    what : (z : Place) (f : Frame) → stands_for t z ≡ Some (Some f) → stood t.committed_to z ≡ Some f
    what z f e = sym (backing_is t z) ∙ ap (λ i. unwrap_or i None) e

    same : (f g : Frame) → same_frame f g ≡ true → f ≡ g
    same f g k = grind (arith, frame_tells f g)

    by : (i : Option (Option Frame)) → stands_for t x ≡ i → (j : Option (Option Frame)) → stands_for t y ≡ j → is_frame_target i j ≡ true → (f : Frame) × (stood t.committed_to x ≡ Some f) × (stood t.committed_to y ≡ Some f)
    by (Some (Some f)) ei (Some (Some g)) ej k = (f, what x f ei, what y g ej ∙ ap Some (sym (same f g k)))
    by None ei j ej k = cc
    by (Some None) ei j ej k = cc
    by (Some (Some f)) ei None ej k = cc
    by (Some (Some f)) ei (Some None) ej k = cc

pub one_writer_is : (t : Places) (held : Frame → Bool) (lock : Frame → Option ℕ) → FrameRules t.place held t.committed_to lock → one_writer t ≡ true
one_writer_is t held lock h = all_pass _ (λ x. each x (writable (t.place x.0 x.1)) refl) t.placed
  where
    pair : (x y : ℕ × ℕ) → writable (t.place x.0 x.1) ≡ true → (b : Bool) → is_frame_target (stands_for t (t.place x.0 x.1)) (stands_for t (t.place y.0 y.1)) ≡ b → (is_page x.0 x.1 y || not b) ≡ true
    pair x y w true e = let f : (f : Frame) × (stood t.committed_to (t.place x.0 x.1) ≡ Some f) × (stood t.committed_to (t.place y.0 y.1) ≡ Some f) = targets_say t (t.place x.0 x.1) (t.place y.0 y.1) e in same_as (h.alone x.0 x.1 y.0 y.1 f.0 w f.1 f.2)
      where
        same_as : (y.0 ≡ x.0) × (y.1 ≡ x.1) → (is_page x.0 x.1 y || false) ≡ true
        same_as k = grind (arith, nat_tests)
    pair x y w false e = grind arith

    each : (x : ℕ × ℕ) (b : Bool) → writable (t.place x.0 x.1) ≡ b → (not b || list_all (λ y. is_page x.0 x.1 y || not (is_frame_target (stands_for t (t.place x.0 x.1)) (stands_for t (t.place y.0 y.1)))) t.placed) ≡ true
    each x false e = refl
    each x true e = all_pass _ (λ y. pair x y e _ refl) t.placed

lowest_fails : (t : ℕ → ℕ → Bool) → ((p v : ℕ) → t p v ≡ false) → (xs : List (ℕ × ℕ)) → lowest t xs ≡ None
lowest_fails t h [] = refl
lowest_fails t h (x ∷ xs) = rw (h x.0 x.1, lowest) (lowest_fails t h xs)

pub unnamed_test : (place : ℕ → ℕ → Place) (f : Frame) → Unnamed place f → (p v : ℕ) → is_frame (names (place p v)) f ≡ false
unnamed_test place f n p v = by (is_frame (names (place p v)) f) (is_frame_from (names (place p v)) f) (n p v)
  where
    by : (b : Bool) → (b ≡ true → names (place p v) ≡ Some f) → (names (place p v) ≡ Some f → ⊥) → b ≡ false
    by true h k = absurd (k (h refl))
    by false h k = refl

holds_it : (t : Places) (x : Option Frame) → ((f : Frame) → x ≡ Some f → t.held f ≡ true) → holds_target t x ≡ true
holds_it t None h = refl
holds_it t (Some f) h = h f refl

pub is_none_of : {X : Type 0} (x : Option X) → x ≡ None → is_none x ≡ true
is_none_of x e = rw e refl

-- places, frames and tables
pub places_of : (c : Program) (s : After) (t : Past) (a : ℕ) (k : Kind) → Sound c s t → Allowed c s t a k → places_accept c (mirror_owner s.plain) s.places a k ≡ true
places_of c s t a (Kind.Loaded (Who.Cpu p) at bs) so ok = ok.2
places_of c s t a (Kind.Loaded (Who.Mirror m) at bs) so ok = ok.2
places_of c s t a (Kind.Stored (Who.Cpu p) at bs) so ok = ok.2
places_of c s t a (Kind.Stored (Who.Mirror m) at bs) so ok = ok.2
places_of c s t a (Kind.Fetched m at bs) so ok = ok.1
places_of c s t a (Kind.Added m at was now) so ok = ok.1
places_of c s t a (Kind.Place p v x) so ok = and_from _ _ (holds_it s.places (names x) ok.frames.names_held) (one_writer_is (next s a (Kind.Place p v x)).places (next s a (Kind.Place p v x)).places.held (next s a (Kind.Place p v x)).locks.frame (kept c s t a (Kind.Place p v x) so ok).frames)
places_of c s t a (Kind.Committed f g) so ok = one_writer_is (next s a (Kind.Committed f g)).places (next s a (Kind.Committed f g)).places.held (next s a (Kind.Committed f g)).locks.frame (kept c s t a (Kind.Committed f g) so ok).frames
places_of c s t a (Kind.Take f) so ok = and_from _ _ (and_from _ _ (is_frame_of (lowest_free c s.places f.pool) f ok) (stays f.pool (free_says c s.places f.pool f ok).3)) (one_writer_is (next s a (Kind.Take f)).places (next s a (Kind.Take f)).places.held (next s a (Kind.Take f)).locks.frame (kept c s t a (Kind.Take f) so ok).frames)
  where
    open_device : (d : ℕ) → s.places.withdrawn d ≡ false → (b : Bool) → s.places.removed d ≡ b → not b ≡ true
    open_device d h true e = absurd (true_false (s.places.withdrawn d) (so.pools.closed d e) h)
    open_device d h false e = refl

    stays : (x : PoolId) → is_withdrawn s.places x ≡ false → not (is_removed s.places x) ≡ true
    stays PoolId.System h = refl
    stays (PoolId.Device d) h = open_device d h (s.places.removed d) refl
places_of c s t a (Kind.Drop f) so ok = and_from _ _ (so.frames.locked_held f a ok.mine) (is_none_of (lowest_named s.places f) (lowest_fails (λ p v. is_frame (names (s.places.place p v)) f) (unnamed_test s.places.place f ok.unnamed) s.places.placed))
places_of c s t a (Kind.Set m v f w from) so ok = let y : (y : Interval) × (s.sequences.interval m ≡ Some y) × Pairing ok.mirror y (s.places.device m) = interval_of s.plain.mirrors s.sequences.interval s.places.device so.mirrors m ok.mirror ok.is in
    ap (λ d. owned d (is_for_device f)) y.2.device ∙ ok.fits.own_device
places_of c s t a (Kind.Removed d) so ok = ok.1
places_of c s t a k so ok = refl
