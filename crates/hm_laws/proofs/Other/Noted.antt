-- What a look-up noted stays so, until the mirror is told.
use Rattle.std.proofs.Common.{◌≡◌, ℕ, ◌<◌, ◌⊎◌, inl, inr, Bool, true, false, is_some, Option, Some, None, refl, sym, ap, ◌∙◌, subst, arith}
use Rattle.hm_base.specs.Pages.{covers}
use Rattle.hm_base.specs.Program.{Program}
use Rattle.hm_base.specs.declared.Frame.{Frame}
use Rattle.hm_base.specs.declared.Place.{Place}
use Rattle.hm_history.specs.Memory.Words.{with_frame, names, moving_frame, writable}
use Rattle.hm_history.specs.Memory.Plain.{MirrorState, is_attached_state, mirror_passes, is_attached, mirror_proc, mirror_dev}
use Rattle.hm_history.specs.Memory.Places.{with_place, is_for_device}
use Rattle.hm_history.specs.Memory.Sequences.{Interval, Guarded, interval_seq, all_told}
use Rattle.hm_history.specs.Memory.Lookups.{loses, is_guarded}
use Rattle.hm_history.specs.Memory.After.{After}
use Rattle.hm_history.specs.Kernel.Due.{process_seq, right_of}
use Rattle.hm_history.specs.declared.Kind.{Kind}
use Rattle.hm_laws.specs.Stood.{is_moving, Fits, Matches}
use Rattle.hm_laws.specs.Past.{Past, past_next}
use Rattle.hm_laws.specs.Sound.{Pending, Blocked, Sound}
use Rattle.hm_laws.specs.Allowed.{next, Allowed}
use Rattle.hm_laws.specs.Facts.{Within, StandsStill, Noted, Holds}
use Rattle.hm_laws.proofs.Kept.Mirrors.{listening}
use Rattle.hm_laws.proofs.Kept.Areas.{placed_cases}
use Rattle.hm_laws.proofs.Kept.Tables.{guard_says, none_pending, covered_overlap, matches_kept, matches_to}
use Rattle.hm_laws.proofs.Other.Mirrors.{keeps_device, keeps_proc, proc_is, device_is}
use Rattle.hm_laws.proofs.Other.Lookups.{within_keeps, within_some, attached_back, below_keeps, seq_back}
use Rattle.hm_laws.proofs.State.MirrorInterval.{Mirrored, mirrored}

-- nothing is lost of a page while its mirror's look-up is good
not_lost : (c : Program) (s : After) (t : Past) (a m v q : ℕ) → Sound c s t → Within s.plain m v → q < process_seq s m → is_attached s.plain m ≡ true → interval_seq s.sequences m ≡ q → is_guarded s.sequences a (mirror_proc s.plain m) v ≡ true → ⊥
not_lost c s t a m v q so w l at e g = by (guard_says s.sequences a (mirror_proc s.plain m) v g) (mirrored c s t m is_attached_state so at)
  where
    none : (n : ℕ) → q < n → q ≡ n → ⊥
    none n l h = omega (arith, l, h)

    window : (x : MirrorState) → s.plain.mirrors m ≡ Some x → covers x.window v ≡ true
    window x i = sym (ap (mirror_passes (λ y. covers y.window v)) i) ∙ w

    by : (g : Guarded) × (s.sequences.guard a ≡ Some g) × (g.proc ≡ mirror_proc s.plain m) × (covers g.span v ≡ true) × (all_told g ≡ true) → Mirrored s m is_attached_state → ⊥
    by g mi = at_guard (so.guards.guarded a m g.0 mi.interval g.1 mi.is_interval (listening mi.mirror mi.interval (s.places.device m) mi.paired mi.passes) (mi.paired.proc ∙ proc ∙ sym g.2) (covered_overlap mi.interval.window g.0.span v (ap (λ i. covers i v) mi.paired.window ∙ window mi.mirror mi.is) g.3))
      where
        proc : mi.mirror.proc ≡ mirror_proc s.plain m
        proc = sym (ap (λ (x : Option MirrorState). elim x [ None ↦ 0 | Some y ↦ y.proc ]) mi.is)

        seq : interval_seq s.sequences m ≡ mi.interval.seq
        seq = ap (λ (x : Option Interval). elim x [ None ↦ 0 | Some y ↦ y.seq ]) mi.is_interval

        at_guard : Pending g.0 m ⊎ Blocked s.sequences.seq s.places.table m mi.interval g.0.span → ⊥
        at_guard (inl k) = none_pending g.0 m g.4 k
        at_guard (inr k) = none (process_seq s m) l (sym e ∙ seq ∙ k.0 ∙ ap s.sequences.seq (mi.paired.proc ∙ proc))

-- a place that takes nothing away is no migration entry where the old one was none
stays_put : (to : Frame → Option Frame) (t : Option Frame) (w : Bool) (old x : Place) → Fits to t w old → is_moving old ≡ false → loses old x ≡ false → is_moving x ≡ false
stays_put to t w Place.Empty x h m l = absurd h
stays_put to t w Place.Zero (Place.Moving f z) h m l = cc
stays_put to t w (Place.Sys n y) (Place.Moving f z) h m l = cc
stays_put to t w (Place.Own d n y) (Place.Moving f z) h m l = cc
stays_put to t w (Place.Moving g y) x h m l = cc
stays_put to t w (Place.Exclusive n b) x h m l = absurd h
stays_put to t w old x h m l = refl

fits_right : (to : Frame → Option Frame) (t : Option Frame) (w : Bool) (x : Place) → Matches to t (right_of w) x → Fits to t w x
fits_right to t true x h = h
fits_right to t false x h = h

pub matches_right : (to : Frame → Option Frame) (t : Option Frame) (w : Bool) (x : Place) → Fits to t w x → Matches to t (right_of w) x
matches_right to t true x h = h
matches_right to t false x h = h

not_frozen : (x : Place) (f : Frame) → is_moving x ≡ false → moving_frame x ≡ Some f → ⊥
not_frozen x f m h = grind arith

abbrev Standing_still : (Frame → Option Frame) → Place → Place → Type 0
Standing_still to x y = Matches to (names x) (right_of (writable x)) y × (is_moving y ≡ false)

placed_still : (to : Frame → Option Frame) (x old new : Place) → loses old new ≡ false → Standing_still to x old → Standing_still to x new
placed_still to x old new l h = (matches_kept to (names x) (right_of (writable x)) old new l (λ m. absurd (clash old m h.1)) h.0, stays_put to (names x) (writable x) old new (fits_right to (names x) (writable x) old h.0) h.1 l)
  where
    clash : (y : Place) → is_moving y ≡ true → is_moving y ≡ false → ⊥
    clash y m n = cc

still_to : (to by : Frame → Option Frame) (x y : Place) → Standing_still to x y → Standing_still by x y
still_to to by x y h = (matches_to to by (names x) (right_of (writable x)) y (λ f m. absurd (not_frozen y f h.1 m)) h.0, h.1)

-- the page's place, after an entry
place_still : (c : Program) (s : After) (t : Past) (a : ℕ) (k : Kind) → Sound c s t → Allowed c s t a k → (m v q : ℕ) (x : Place) → Within s.plain m v → q < process_seq s m → is_attached s.plain m ≡ true → interval_seq s.sequences m ≡ q → StandsStill s m v x →
    Standing_still (next s a k).places.committed_to x ((next s a k).places.place (mirror_proc s.plain m) v)
place_still c s t a (Kind.Place p u y) so ok m v q x w l at e h = by (placed_cases s.places.place p u y (mirror_proc s.plain m) v)
  where
    here : (mirror_proc s.plain m ≡ p) → (v ≡ u) → (b : Bool) → loses (s.places.place p u) y ≡ b → Standing_still s.places.committed_to x y
    here i j true n = absurd (not_lost c s t a m v q so w l at e (ap (λ d. is_guarded s.sequences a d v) i ∙ ap (is_guarded s.sequences a p) j ∙ ok.mirrors.guarded n))
    here i j false n = placed_still s.places.committed_to x (s.places.place p u) y n (subst (λ d. Standing_still s.places.committed_to x (s.places.place p d)) j (subst (λ d. Standing_still s.places.committed_to x (s.places.place d v)) i h))

    by : ((mirror_proc s.plain m ≡ p) × (v ≡ u) × (with_place s.places.place p u y (mirror_proc s.plain m) v ≡ y)) ⊎ (with_place s.places.place p u y (mirror_proc s.plain m) v ≡ s.places.place (mirror_proc s.plain m) v) → Standing_still s.places.committed_to x (with_place s.places.place p u y (mirror_proc s.plain m) v)
    by (inl d) = subst (Standing_still s.places.committed_to x) (sym d.2) (here d.0 d.1 (loses (s.places.place p u) y) refl)
    by (inr d) = subst (Standing_still s.places.committed_to x) (sym d) h
place_still c s t a (Kind.Take f) so ok m v q x w l at e h = still_to s.places.committed_to (with_frame s.places.committed_to f None) x _ h
place_still c s t a (Kind.Committed f g) so ok m v q x w l at e h = still_to s.places.committed_to (with_frame s.places.committed_to f (Some g)) x _ h
place_still c s t a k so ok m v q x w l at e h = h

pub noted_on : (c : Program) (s : After) (t : Past) (a b : ℕ) (k : Kind) → Sound c s t → Allowed c s t a k → (m v q : ℕ) (x : Place) → Holds s t b (Noted m v q x) → Holds (next s a k) (past_next t s.length a k) b (Noted m v q x)
noted_on c s t a b k so ok m v q x h = (
  within_keeps c s t a k ok m v h.0,
  below_keeps c s t a k ok m v q h.0 h.1,
  ap (is_for_device (names x)) device ∙ h.2,
  λ at e. let was : is_attached s.plain m ≡ true = attached_back c s t a k ok m v h.0 at in
      let is : interval_seq s.sequences m ≡ q = seq_back c s t a k so ok m v q h.0 h.1 e in
      subst (λ i. Standing_still (next s a k).places.committed_to x ((next s a k).places.place i v)) (sym proc) (place_still c s t a k so ok m v q x h.0 h.1 was is (h.3 was is)),
)
  where
    some : is_some (s.plain.mirrors m) ≡ true
    some = within_some (s.plain.mirrors m) _ h.0

    proc : mirror_proc (next s a k).plain m ≡ mirror_proc s.plain m
    proc = proc_is (next s a k) m ∙ (keeps_proc c s t a k ok m some).1 ∙ sym (proc_is s m)

    device : mirror_dev (next s a k).plain m ≡ mirror_dev s.plain m
    device = device_is (next s a k) m ∙ keeps_device c s t a k ok m some ∙ sym (device_is s m)
