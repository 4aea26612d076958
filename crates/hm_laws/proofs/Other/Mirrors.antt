-- What an entry of another actor leaves of the mirrors.
use Rattle.std.proofs.Common.{◌≡◌, ℕ, ◌⊎◌, inl, inr, true, false, is_some, is_none, Option, Some, None, refl, sym, ap, ◌∙◌}
use Rattle.std.proofs.lemmas.Bool.{cases_eq, and_parts}
use Rattle.hm_base.specs.Program.{Program}
use Rattle.hm_history.specs.Memory.Words.{with_at}
use Rattle.hm_history.specs.Memory.Plain.{MirrorState, Attachment, Attached, Detaching, Gone, is_attached_state, is_detaching_state, mirror_passes, mirror_proc, mirror_dev, proc_of, with_attachment}
use Rattle.hm_history.specs.Memory.After.{After}
use Rattle.hm_history.specs.declared.Who.{Who}
use Rattle.hm_history.specs.declared.Kind.{Kind}
use Rattle.hm_laws.specs.Stood.{lock_on}
use Rattle.hm_laws.specs.Past.{Past, past_next}
use Rattle.hm_laws.specs.Allowed.{next, Allowed}
use Rattle.hm_laws.specs.Facts.{HasProc, Read_locked, Leaving, Holds}
use Rattle.hm_laws.proofs.Other.Processes.{map_other}
use Rattle.hm_history.proofs.Updates.{other_at, with_case}

abbrev proc_in : Option MirrorState → ℕ
proc_in None = 0
proc_in (Some x) = x.proc

abbrev device_in : Option MirrorState → ℕ
device_in None = 0
device_in (Some x) = x.dev

-- a mirror that was attached keeps its process and device
abbrev Keeps : Option MirrorState → Option MirrorState → Type 0
Keeps x y = (is_some y ≡ true) × (proc_in y ≡ proc_in x) × (device_in y ≡ device_in x)

stands_keeps : (t : Attachment) (x : Option MirrorState) → is_some x ≡ true → Keeps x (with_attachment t x)
stands_keeps t None h = cc
stands_keeps t (Some x) h = (refl, refl, refl)

standing_keeps : (m : ℕ → Option MirrorState) (i : ℕ) (t : Attachment) (k : ℕ) → is_some (m k) ≡ true → Keeps (m k) (with_at m i (with_attachment t (m i)) k)
standing_keeps m i t k h = with_case (λ j y. is_some (m j) ≡ true → Keeps (m j) y) m i (with_attachment t (m i)) k (λ here. stands_keeps t (m i)) (λ ne j. (j, refl, refl)) h

none_is : {X : Type 0} (x : Option X) → is_none x ≡ true → is_some x ≡ true → ⊥
none_is x h k = cc

pub keeps_proc : (c : Program) (s : After) (t : Past) (a : ℕ) (k : Kind) → Allowed c s t a k → (m : ℕ) → is_some (s.plain.mirrors m) ≡ true → Keeps (s.plain.mirrors m) ((next s a k).plain.mirrors m)
keeps_proc c s t a (Kind.Attached i d p r q) ok m h = with_case (λ j y. is_some (s.plain.mirrors j) ≡ true → Keeps (s.plain.mirrors j) y) s.plain.mirrors i (Some (record { dev = d; proc = p; window = r; stage = Attached })) m
    (λ here j. absurd (none_is (s.plain.mirrors i) (and_parts (s.plain.there p) (is_none (s.plain.mirrors i)) ok.1).1 j)) (λ ne j. (j, refl, refl)) h
keeps_proc c s t a (Kind.Detaching i q) ok m h = standing_keeps s.plain.mirrors i Detaching m h
keeps_proc c s t a (Kind.Detached i) ok m h = standing_keeps s.plain.mirrors i Gone m h
keeps_proc c s t a k ok m h = (h, refl, refl)

pub keeps_device : (c : Program) (s : After) (t : Past) (a : ℕ) (k : Kind) → Allowed c s t a k → (m : ℕ) → is_some (s.plain.mirrors m) ≡ true → device_in ((next s a k).plain.mirrors m) ≡ device_in (s.plain.mirrors m)
keeps_device c s t a k ok m h = (keeps_proc c s t a k ok m h).2

pub device_is : (s : After) (m : ℕ) → mirror_dev s.plain m ≡ device_in (s.plain.mirrors m)
device_is s m = by (s.plain.mirrors m)
  where
    by : (x : Option MirrorState) → elim x as (λ y. ℕ) [ None ↦ 0 | Some y ↦ y.dev ] ≡ device_in x
    by None = refl
    by (Some y) = refl

pub proc_is : (s : After) (m : ℕ) → mirror_proc s.plain m ≡ proc_in (s.plain.mirrors m)
proc_is s m = by (s.plain.mirrors m)
  where
    by : (x : Option MirrorState) → elim x as (λ y. ℕ) [ None ↦ 0 | Some y ↦ y.proc ] ≡ proc_in x
    by None = refl
    by (Some y) = refl

pub who_keeps : (c : Program) (s : After) (t : Past) (a : ℕ) (k : Kind) → Allowed c s t a k → (x : Who) → HasProc s.plain x → HasProc (next s a k).plain x × (proc_of (next s a k).plain x ≡ proc_of s.plain x)
who_keeps c s t a k ok (Who.Cpu p) h = (tt, refl)
who_keeps c s t a k ok (Who.Mirror m) h = let e = keeps_proc c s t a k ok m h in (e.0, proc_is (next s a k) m ∙ e.1 ∙ sym (proc_is s m))

pub read_locked_other : (c : Program) (s : After) (t : Past) (a b : ℕ) (x : Who) → (b ≡ a → ⊥) → (k : Kind) → Allowed c s t a k → Holds s t b (Read_locked x) → Holds (next s a k) (past_next t s.length a k) b (Read_locked x)
read_locked_other c s t a b x ne k ok h = (who.0, map_other s a b ne k ∙ h.1 ∙ ap (λ p. lock_on p false) (sym who.1))
  where
    who : HasProc (next s a k).plain x × (proc_of (next s a k).plain x ≡ proc_of s.plain x)
    who = who_keeps c s t a k ok x h.0

-- who detaches a mirror is alone to end that
clash : (x : Option MirrorState) → mirror_passes is_attached_state x ≡ true → mirror_passes is_detaching_state x ≡ true → ⊥
clash None h k = cc
clash (Some y) h k = by y.stage h k
  where
    by : (t : Attachment) → elim t [ Attached ↦ true | Detaching ↦ false | Gone ↦ false ] ≡ true → elim t [ Attached ↦ false | Detaching ↦ true | Gone ↦ false ] ≡ true → ⊥
    by Attached h k = cc
    by Detaching h k = cc
    by Gone h k = cc

leaves_still : (m : ℕ → Option MirrorState) (i k : ℕ) (x : Option MirrorState) → (mirror_passes is_detaching_state (m i) ≡ true → ⊥) → mirror_passes is_detaching_state (m k) ≡ true → mirror_passes is_detaching_state (with_at m i x k) ≡ true
leaves_still m i k x stays h = with_case (λ j y. mirror_passes is_detaching_state (m j) ≡ true → mirror_passes is_detaching_state y ≡ true) m i x k (λ here j. absurd (stays j)) (λ ne j. j) h

some_is : (x y : ℕ) → Some x ≡ Some y → x ≡ y
some_is x y h = cc

leaver_other : (f : ℕ → Option ℕ) (m i a b : ℕ) → (m ≡ i → ⊥) → f m ≡ Some b → with_at f i (Some a) m ≡ Some b
leaver_other f m i a b ne h = other_at f i m (Some a) ne ∙ h

pub leaving_other : (c : Program) (s : After) (t : Past) (a b m : ℕ) → (b ≡ a → ⊥) → (k : Kind) → Allowed c s t a k → Holds s t b (Leaving m) → Holds (next s a k) (past_next t s.length a k) b (Leaving m)
leaving_other c s t a b m ne (Kind.Attached i d p r q) ok h = (h.0, leaves_still s.plain.mirrors i m _ (λ j. absurd (none_passes (s.plain.mirrors i) (and_parts (s.plain.there p) (is_none (s.plain.mirrors i)) ok.1).1 j)) h.1)
  where
    none_passes : (x : Option MirrorState) → is_none x ≡ true → mirror_passes is_detaching_state x ≡ true → ⊥
    none_passes None h k = cc
    none_passes (Some x) h k = cc
leaving_other c s t a b m ne (Kind.Detaching i q) ok h = (leaver_other t.leaver m i a b (λ e. clash (s.plain.mirrors m) (ap (λ j. mirror_passes is_attached_state (s.plain.mirrors j)) e ∙ ok.0) h.1) h.0, leaves_still s.plain.mirrors i m _ (clash (s.plain.mirrors i) ok.0) h.1)
leaving_other c s t a b m ne (Kind.Detached i) ok h = (h.0, by (cases_eq m i))
  where
    not_mine : m ≡ i → (mirror_passes is_attached_state (s.plain.mirrors i) ≡ true) ⊎ (t.leaver i ≡ Some a) → ⊥
    not_mine e (inl k) = clash (s.plain.mirrors m) (ap (λ j. mirror_passes is_attached_state (s.plain.mirrors j)) e ∙ k) h.1
    not_mine e (inr k) = ne (some_is b a (sym h.0 ∙ ap t.leaver e ∙ k))

    by : (m ≡ i) ⊎ (m ≡ i → ⊥) → mirror_passes is_detaching_state (with_at s.plain.mirrors i (with_attachment Gone (s.plain.mirrors i)) m) ≡ true
    by (inl e) = absurd (not_mine e ok.2)
    by (inr n) = ap (mirror_passes is_detaching_state) (other_at s.plain.mirrors i m _ n) ∙ h.1
leaving_other c s t a b m ne k ok h = h
