-- What stays of a look-up under way, whatever entry is allowed.
use Rattle.std.proofs.Common.{◌≡◌, ℕ, ◌+◌, ◌<◌, ◌≤◌, Bool, true, false, ◌==◌, ◌&&◌, if◌then◌else◌, is_some, is_none, Option, Some, None, refl, sym, ap, ◌∙◌, subst, arith}
use Rattle.std.proofs.lemmas.Bool.{and_parts, eqb-true}
use Rattle.hm_base.specs.Pages.{covers}
use Rattle.hm_base.specs.Program.{Program}
use Rattle.hm_base.specs.declared.ops.Op.{Op}
use Rattle.hm_history.specs.Memory.Words.{with_at}
use Rattle.hm_history.specs.Memory.Plain.{MirrorState, Attachment, Attached, Detaching, Gone, is_attached_state, mirror_passes, is_attached, mirror_proc, with_attachment}
use Rattle.hm_history.specs.Memory.Sequences.{Sequences, Interval, interval_seq, interval_proc, is_last_end, applied, with_seq, with_stage as with_stage, RemoveDeferred, Out}
use Rattle.hm_history.specs.Memory.After.{After}
use Rattle.hm_history.specs.Kernel.Due.{process_seq}
use Rattle.hm_history.specs.declared.Kind.{Kind}
use Rattle.hm_history.specs.declared.phases.Touch.{Touch}
use Rattle.hm_laws.specs.Past.{Past, past_next}
use Rattle.hm_laws.specs.Sound.{Pairing, Sound}
use Rattle.hm_laws.specs.Allowed.{next, Allowed}
use Rattle.hm_laws.specs.Facts.{Within, Looks, Touches}
use Rattle.hm_laws.proofs.Kept.Mirrors.{interval_of}
use Rattle.hm_laws.proofs.Kept.Sequences.{started_rises, inserted_rises, ended_rises}
use Rattle.hm_laws.proofs.Other.Mirrors.{keeps_proc, proc_is}
use Rattle.hm_history.proofs.Updates.{other_at, here_at, with_case}
use Rattle.hm_history.proofs.Tests.{true_false}
use Rattle.hm_history.proofs.Intervals.{seq_in, settled_seq}

-- the window stays
within_standing : (t : Attachment) (test : MirrorState → Bool) (x : Option MirrorState) → ((y : MirrorState) → test (record y { stage = t }) ≡ test y) → mirror_passes test x ≡ true → mirror_passes test (with_attachment t x) ≡ true
within_standing t test None e h = cc
within_standing t test (Some y) e h = e y ∙ h

within_at : (t : Attachment) (v : ℕ) (m : ℕ → Option MirrorState) (i k : ℕ) → mirror_passes (λ x. covers x.window v) (m k) ≡ true → mirror_passes (λ x. covers x.window v) (with_at m i (with_attachment t (m i)) k) ≡ true
within_at t v m i k h = with_case (λ j y. mirror_passes (λ x. covers x.window v) (m j) ≡ true → mirror_passes (λ x. covers x.window v) y ≡ true) m i (with_attachment t (m i)) k (λ here. within_standing t (λ x. covers x.window v) (m i) (λ y. refl)) (λ ne j. j) h

never_passes : (test : MirrorState → Bool) (x : Option MirrorState) → is_none x ≡ true → mirror_passes test x ≡ true → ⊥
never_passes test None h k = cc
never_passes test (Some x) h k = cc

pub within_keeps : (c : Program) (s : After) (t : Past) (a : ℕ) (k : Kind) → Allowed c s t a k → (m v : ℕ) → Within s.plain m v → Within (next s a k).plain m v
within_keeps c s t a (Kind.Attached i d p r q) ok m v h = with_case (λ j y. mirror_passes (λ x. covers x.window v) (s.plain.mirrors j) ≡ true → mirror_passes (λ x. covers x.window v) y ≡ true) s.plain.mirrors i (Some (record { dev = d; proc = p; window = r; stage = Attached })) m
    (λ here j. absurd (never_passes (λ x. covers x.window v) (s.plain.mirrors i) (and_parts (s.plain.there p) (is_none (s.plain.mirrors i)) ok.1).1 j)) (λ ne j. j) h
within_keeps c s t a (Kind.Detaching i q) ok m v h = within_at Detaching v s.plain.mirrors i m h
within_keeps c s t a (Kind.Detached i) ok m v h = within_at Gone v s.plain.mirrors i m h
within_keeps c s t a k ok m v h = h

pub within_some : (x : Option MirrorState) (test : MirrorState → Bool) → mirror_passes test x ≡ true → is_some x ≡ true
within_some None test h = cc
within_some (Some x) test h = refl

-- a mirror that is attached was
standing_back : (t : Attachment) (x : Option MirrorState) → mirror_passes is_attached_state (with_attachment t x) ≡ true → elim t [ Attached ↦ true | Detaching ↦ false | Gone ↦ false ] ≡ true
standing_back t None h = cc
standing_back t (Some x) h = h

pub attached_back : (c : Program) (s : After) (t : Past) (a : ℕ) (k : Kind) → Allowed c s t a k → (m v : ℕ) → Within s.plain m v → is_attached (next s a k).plain m ≡ true → is_attached s.plain m ≡ true
attached_back c s t a (Kind.Attached i d p r q) ok m v w h = with_case (λ j y. mirror_passes (λ x. covers x.window v) (s.plain.mirrors j) ≡ true → mirror_passes is_attached_state y ≡ true → mirror_passes is_attached_state (s.plain.mirrors j) ≡ true) s.plain.mirrors i (Some (record { dev = d; proc = p; window = r; stage = Attached })) m
    (λ here j n. absurd (never_passes (λ x. covers x.window v) (s.plain.mirrors i) (and_parts (s.plain.there p) (is_none (s.plain.mirrors i)) ok.1).1 j)) (λ ne j n. n) w h
attached_back c s t a (Kind.Detaching i q) ok m v w h = with_case (λ j y. mirror_passes is_attached_state y ≡ true → mirror_passes is_attached_state (s.plain.mirrors j) ≡ true) s.plain.mirrors i (with_attachment Detaching (s.plain.mirrors i)) m (λ here n. absurd (true_false false (standing_back Detaching (s.plain.mirrors i) n) refl)) (λ ne n. n) h
attached_back c s t a (Kind.Detached i) ok m v w h = with_case (λ j y. mirror_passes is_attached_state y ≡ true → mirror_passes is_attached_state (s.plain.mirrors j) ≡ true) s.plain.mirrors i (with_attachment Gone (s.plain.mirrors i)) m (λ here n. absurd (true_false false (standing_back Gone (s.plain.mirrors i) n) refl)) (λ ne n. n) h
attached_back c s t a k ok m v w h = h

-- sequences of processes rise
rises : (c : Program) (s : After) (t : Past) (a : ℕ) (k : Kind) → Allowed c s t a k → (p : ℕ) → s.sequences.seq p ≤ (next s a k).sequences.seq p
rises c s t a (Kind.Start q r n) ok p = (started_rises s.sequences q r p).0
rises c s t a (Kind.End q r n) ok p = ended_rises s.sequences q p
rises c s t a (Kind.Attached m d q r n) ok p = (inserted_rises s.sequences q p).0
rises c s t a k ok p = omega arith

pub below_keeps : (c : Program) (s : After) (t : Past) (a : ℕ) (k : Kind) → Allowed c s t a k → (m v q : ℕ) → Within s.plain m v → q < process_seq s m → q < process_seq (next s a k) m
below_keeps c s t a k ok m v q w h = subst (λ i. q < (next s a k).sequences.seq i) (sym same) (more (rises c s t a k ok (mirror_proc s.plain m)))
  where
    same : mirror_proc (next s a k).plain m ≡ mirror_proc s.plain m
    same = proc_is (next s a k) m ∙ (keeps_proc c s t a k ok m (within_some (s.plain.mirrors m) _ w)).1 ∙ sym (proc_is s m)

    more : s.sequences.seq (mirror_proc s.plain m) ≤ (next s a k).sequences.seq (mirror_proc s.plain m) → q < (next s a k).sequences.seq (mirror_proc s.plain m)
    more l = omega (arith, h, l)

-- a mirror's interval that has the sequence of a look-up had it before, and was not told
seq_is : (s : Sequences) (m : ℕ) → interval_seq s m ≡ seq_in (s.interval m)
seq_is s m = by (s.interval m)
  where
    by : (x : Option Interval) → elim x as (λ y. ℕ) [ None ↦ 0 | Some y ↦ y.seq ] ≡ seq_in x
    by None = refl
    by (Some y) = refl

stage_seq : (m : ℕ → Option Interval) (i k : ℕ) (x : Option Interval) → seq_in x ≡ seq_in (m i) → seq_in (with_at m i x k) ≡ seq_in (m k)
stage_seq m i k x h = with_case (λ j y. seq_in y ≡ seq_in (m j)) m i x k (λ here. h) (λ ne. refl)

ended_seq : (s : Sequences) (p m : ℕ) (b : Bool) → seq_in (if b then applied p (s.interval m) else s.interval m) ≡ seq_in (s.interval m)
ended_seq s p m true = settled_seq p (s.interval m)
ended_seq s p m false = refl

stage_same : (g : Option Interval) → seq_in (with_stage RemoveDeferred g) ≡ seq_in g
stage_same None = refl
stage_same (Some y) = refl

out_same : (g : Option Interval) → seq_in (with_stage Out g) ≡ seq_in g
out_same None = refl
out_same (Some y) = refl

-- it is another mirror that is told
told_apart : (c : Program) (s : After) (t : Past) (m v i q : ℕ) → Sound c s t → Within s.plain m v → q < process_seq s m → seq_in (with_at s.sequences.interval i (with_seq (s.sequences.seq (interval_proc s.sequences i)) (s.sequences.interval i)) m) ≡ q → m ≡ i → ⊥
told_apart c s t m v i q so w l h e = by (s.plain.mirrors i) refl (subst (λ j. mirror_passes (λ x. covers x.window v) (s.plain.mirrors j) ≡ true) e w)
  where
    none : (n : ℕ) → q < n → n ≡ q → ⊥
    none n l h = omega (arith, l, h)

    at : (x : MirrorState) → s.plain.mirrors i ≡ Some x → (y : Interval) → s.sequences.interval i ≡ Some y → Pairing x y (s.places.device i) → ⊥
    at x ex y ey p = none (process_seq s m) l (seq ∙ h)
      where
        seq : process_seq s m ≡ seq_in (with_at s.sequences.interval i (with_seq (s.sequences.seq (interval_proc s.sequences i)) (s.sequences.interval i)) m)
        seq = ap (process_seq s) e ∙ ap s.sequences.seq (ap (λ (z : Option MirrorState). elim z [ None ↦ 0 | Some j ↦ j.proc ]) ex ∙ sym p.proc) ∙ sym (ap (λ j. seq_in (with_at s.sequences.interval i (with_seq (s.sequences.seq (interval_proc s.sequences i)) (s.sequences.interval i)) j)) e ∙ ap seq_in (here_at s.sequences.interval i _) ∙ told (s.sequences.interval i) ey)
          where
            told : (z : Option Interval) → z ≡ Some y → seq_in (with_seq (s.sequences.seq (elim z as (λ (j : Option Interval). ℕ) [ None ↦ 0 | Some j ↦ j.proc ])) z) ≡ s.sequences.seq y.proc
            told z ez = rw ez refl

    by : (x : Option MirrorState) → s.plain.mirrors i ≡ x → mirror_passes (λ x. covers x.window v) x ≡ true → ⊥
    by None ex k = cc
    by (Some x) ex k = let y : (y : Interval) × (s.sequences.interval i ≡ Some y) × Pairing x y (s.places.device i) = interval_of s.plain.mirrors s.sequences.interval s.places.device so.mirrors i x ex in at x ex y.0 y.1 y.2

pub seq_back : (c : Program) (s : After) (t : Past) (a : ℕ) (k : Kind) → Sound c s t → Allowed c s t a k → (m v q : ℕ) → Within s.plain m v → q < process_seq s m → interval_seq (next s a k).sequences m ≡ q → interval_seq s.sequences m ≡ q
seq_back c s t a (Kind.Told i r n) so ok m v q w l h = seq_is s.sequences m ∙ sym (ap seq_in (other_at s.sequences.interval i m _ (told_apart c s t m v i q so w l (sym (seq_is (next s a (Kind.Told i r n)).sequences m) ∙ h)))) ∙ sym (seq_is (next s a (Kind.Told i r n)).sequences m) ∙ h
seq_back c s t a (Kind.End p r n) so ok m v q w l h = seq_is s.sequences m ∙ sym (ended_seq s.sequences p m (is_last_end s.sequences p)) ∙ sym (seq_is (next s a (Kind.End p r n)).sequences m) ∙ h
seq_back c s t a (Kind.Detaching i n) so ok m v q w l h = seq_is s.sequences m ∙ sym (stage_seq s.sequences.interval i m _ (stage_same (s.sequences.interval i))) ∙ sym (seq_is (next s a (Kind.Detaching i n)).sequences m) ∙ h
seq_back c s t a (Kind.Detached i) so ok m v q w l h = seq_is s.sequences m ∙ sym (stage_seq s.sequences.interval i m _ (out_same (s.sequences.interval i))) ∙ sym (seq_is (next s a (Kind.Detached i)).sequences m) ∙ h
seq_back c s t a (Kind.Attached i d p r n) so ok m v q w l h = seq_is s.sequences m ∙ sym (ap seq_in (other_at s.sequences.interval i m _ apart)) ∙ sym (seq_is (next s a (Kind.Attached i d p r n)).sequences m) ∙ h
  where
    apart : m ≡ i → ⊥
    apart e = never_passes (λ x. covers x.window v) (s.plain.mirrors i) (and_parts (s.plain.there p) (is_none (s.plain.mirrors i)) ok.1).1 (subst (λ j. mirror_passes (λ x. covers x.window v) (s.plain.mirrors j) ≡ true) e w)
seq_back c s t a k so ok m v q w l h = h

told_back : (c : Program) (s : After) (t : Past) (a : ℕ) (k : Kind) → Sound c s t → Allowed c s t a k → (m v q : ℕ) → Within s.plain m v → q < process_seq s m → interval_seq (next s a k).sequences m ≡ q → (u : ℕ) → (past_next t s.length a k).told m u ≡ t.told m u
told_back c s t a (Kind.Told i r n) so ok m v q w l h u = by (m == i) refl
  where
    apart : m ≡ i → ⊥
    apart = told_apart c s t m v i q so w l (sym (seq_is (next s a (Kind.Told i r n)).sequences m) ∙ h)

    by : (b : Bool) → (m == i) ≡ b → (if b && covers r u then s.length + 1 else t.told m u) ≡ t.told m u
    by true e = absurd (apart (eqb-true m i e))
    by false e = refl
told_back c s t a k so ok m v q w l h u = refl

pub looks_on : (c : Program) (s : After) (t : Past) (a b : ℕ) (k : Kind) → Sound c s t → Allowed c s t a k → (m v at q : ℕ) → Within s.plain m v → (past_next t s.length a k).begun b m ≡ t.begun b m → Looks s t b m at q → Looks (next s a k) (past_next t s.length a k) b m at q
looks_on c s t a b k so ok m v at q w same h = (
  same ∙ h.0,
  below_keeps c s t a k ok m v q w h.1,
  λ e u. subst (λ i. i ≤ at) (sym (told_back c s t a k so ok m v q w h.1 e u)) (h.2 (seq_back c s t a k so ok m v q w h.1 e) u),
)

-- who begins another look-up is somebody else
abbrev pub is_begin : Kind → Bool
is_begin (Kind.Begin m q) = true
is_begin k = false

not_begun : (t : Past) (n a b m : ℕ) (k : Kind) → is_begin k ≡ false → (past_next t n a k).begun b m ≡ t.begun b m
not_begun t n a b m (Kind.Begin i q) h = absurd (true_false true refl h)
not_begun t n a b m k h = refl

begun_other : (t : Past) (n a b m : ℕ) (k : Kind) → (b ≡ a → ⊥) → (past_next t n a k).begun b m ≡ t.begun b m
begun_other t n a b m (Kind.Begin i q) ne = by (b == a) refl (m == i)
  where
    by : (x : Bool) → (b == a) ≡ x → (y : Bool) → (if x && y then Some n else t.begun b m) ≡ t.begun b m
    by true e y = absurd (ne (eqb-true b a e))
    by false e y = refl
begun_other t n a b m k ne = refl

touches_on : (c : Program) (s : After) (t : Past) (a b : ℕ) (k : Kind) → Sound c s t → Allowed c s t a k → ((m : ℕ) → (past_next t s.length a k).begun b m ≡ t.begun b m) → (o : Op) (touch : Touch) → Touches s t b o touch → Touches (next s a k) (past_next t s.length a k) b o touch
touches_on c s t a b k so ok same o (Touch.Cpu n) h = h
touches_on c s t a b k so ok same o (Touch.Walk n at q) h = (h.0, within_keeps c s t a k ok _ _ h.1, looks_on c s t a b k so ok _ _ at q h.1 (same _) h.2)
touches_on c s t a b k so ok same o Touch.Sole h = (h.0, within_keeps c s t a k ok _ _ h.1)

pub touches_other : (c : Program) (s : After) (t : Past) (a b : ℕ) (k : Kind) → Sound c s t → (b ≡ a → ⊥) → Allowed c s t a k → (o : Op) (touch : Touch) → Touches s t b o touch → Touches (next s a k) (past_next t s.length a k) b o touch
touches_other c s t a b k so ne ok o touch h = touches_on c s t a b k so ok (λ m. begun_other t s.length a b m k ne) o touch h

-- and an actor's own entries but a `begin` keep what it has under way
pub touches_own : (c : Program) (s : After) (t : Past) (a : ℕ) (k : Kind) → Sound c s t → Allowed c s t a k → is_begin k ≡ false → (o : Op) (touch : Touch) → Touches s t a o touch → Touches (next s a k) (past_next t s.length a k) a o touch
touches_own c s t a k so ok n o touch h = touches_on c s t a a k so ok (λ m. not_begun t s.length a a m k n) o touch h
