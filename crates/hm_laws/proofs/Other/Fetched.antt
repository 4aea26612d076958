-- A byte that was fetched stays as it was while its page is its actor's alone, whatever entry of another is allowed.
use Rattle.std.proofs.Common.{◌≡◌, ℕ, ◌+◌, ◌-◌, ◌⊎◌, inl, inr, Bool, true, false, ◌==◌, ◌&&◌, nat_lt, nat_le, if◌then◌else◌, not, is_some, Option, Some, None, List, [], ◌∷◌, refl, sym, ap, ◌∙◌, subst, arith, length, slice_index}
use Rattle.std.specs.Prelude.{⊤}
use Rattle.std.proofs.lemmas.Bool.{cases_eq, and_parts, eqb-true}
use Rattle.std.proofs.lemmas.Bool.Decides.{nat_tests}
use Rattle.hm_base.specs.Pages.{covers}
use Rattle.hm_base.specs.Program.{Program}
use Rattle.hm_base.specs.declared.Place.{Place}
use Rattle.hm_history.specs.Memory.Words.{with_at, is_empty_place, page_of}
use Rattle.hm_history.specs.Memory.Plain.{MirrorState, mirror_proc, proc_of, rights_of, with_bytes, with_zeros, written_for}
use Rattle.hm_history.specs.Memory.Places.{TableEntry, with_place, cpu_writes, entry_passes, table_reads, table_writes, may_read, is_target, stands_for, is_sole, is_exclusive, is_exclusive_by, is_exclusive_of}
use Rattle.hm_history.specs.Memory.After.{After}
use Rattle.hm_history.specs.declared.Who.{Who}
use Rattle.hm_history.specs.declared.Kind.{Kind}
use Rattle.hm_laws.specs.Past.{Past, past_next}
use Rattle.hm_laws.specs.Sound.{Sound}
use Rattle.hm_laws.specs.Allowed.{next, InPage, PlacesOk, Allowed}
use Rattle.hm_laws.specs.Facts.{HasProc, Fetched_at, Holds}
use Rattle.hm_laws.proofs.Kept.AreaCuts.{rights_none, no_meet}
use Rattle.hm_laws.proofs.Kept.Areas.{placed_cases}
use Rattle.hm_laws.proofs.Kept.Contents.{same_page, writer_is, adder_is}
use Rattle.hm_history.proofs.Owners.{owned_proc}
use Rattle.hm_laws.proofs.Other.Mirrors.{who_keeps}
use Rattle.hm_history.proofs.Updates.{other_at, here_at}
use Rattle.hm_history.proofs.Tests.{true_false}

-- the entry takes no page for another actor
abbrev pub ForItself : ℕ → Kind → Type 0
ForItself a (Kind.Place p v x) = (n b : ℕ) → x ≡ Place.Exclusive n b → a ≡ b
ForItself a k = ⊤

-- who has a page alone
alone_by : (x : Place) (b : ℕ) → is_exclusive_by x b ≡ true → (n : ℕ) × (x ≡ Place.Exclusive n b)
alone_by (Place.Exclusive n d) b h = (n, ap (Place.Exclusive n) (sym (eqb-true b d h)))
alone_by x b h = cc

-- no other actor takes it for him
alone_before : (s : After) (a b p v : ℕ) → (b ≡ a → ⊥) → (k : Kind) → ForItself a k → is_exclusive_by ((next s a k).places.place p v) b ≡ true → is_exclusive_by (s.places.place p v) b ≡ true
alone_before s a b p v ne (Kind.Place q u x) own h = by (placed_cases s.places.place q u x p v)
  where
    by : ((p ≡ q) × (v ≡ u) × (with_place s.places.place q u x p v ≡ x)) ⊎ (with_place s.places.place q u x p v ≡ s.places.place p v) → is_exclusive_by (s.places.place p v) b ≡ true
    by (inl e) = let y : (n : ℕ) × (x ≡ Place.Exclusive n b) = alone_by x b (sym (ap (λ i. is_exclusive_by i b) e.2) ∙ h) in absurd (ne (sym (own y.0 b y.1)))
    by (inr e) = sym (ap (λ i. is_exclusive_by i b) e) ∙ h
alone_before s a b p v ne k own h = h

-- a byte on another page is not written
written_elsewhere : (f : ℕ → ℕ → ℕ) (q at : ℕ) (bs : List ℕ) → InPage at (length bs) → (p x : ℕ) → (p ≡ q → page_of x ≡ page_of at → ⊥) → with_at f q (with_bytes (f q) at bs) p x ≡ f p x
written_elsewhere f q at bs i p x apart = by (cases_eq p q)
  where
    outside : (b : Bool) → (nat_le at x && nat_lt x (at + length bs)) ≡ b → p ≡ q → (if b then slice_index bs (x - at) else f q x) ≡ f q x
    outside false e k = refl
    outside true e k = absurd (apart k (inside e))
      where
        inside : (nat_le at x && nat_lt x (at + length bs)) ≡ true → page_of x ≡ page_of at
        inside e = grind (arith, nat_tests, same_page at (length bs) x i)

    by : (p ≡ q) ⊎ (p ≡ q → ⊥) → with_at f q (with_bytes (f q) at bs) p x ≡ f p x
    by (inl e) = ap (λ j. with_at f q (with_bytes (f q) at bs) j x) e ∙ ap (λ (g : ℕ → ℕ). g x) (here_at f q (with_bytes (f q) at bs)) ∙ outside (nat_le at x && nat_lt x (at + length bs)) refl e ∙ sym (ap (λ j. f j x) e)
    by (inr n) = ap (λ (g : ℕ → ℕ). g x) (other_at f q p (with_bytes (f q) at bs) n)

-- a page that somebody has alone is written through no place and no shared table entry
stored_shared : (c : Program) (s : After) (a at : ℕ) (bs : List ℕ) (x : Who) → PlacesOk c s a (Kind.Stored x at bs) → is_exclusive (s.places.place (proc_of s.plain x) (page_of at)) ≡ false
stored_shared c s a at bs (Who.Cpu q) h = can (s.places.place q (page_of at)) h
  where
    can : (x : Place) → cpu_writes x ≡ true → is_exclusive x ≡ false
    can x h = grind arith
stored_shared c s a at bs (Who.Mirror m) h = reads_shared (λ y. may_read y.right) (λ y. is_target (stands_for s.places (s.places.place (mirror_proc s.plain m) (page_of at))) y.target) (s.places.place (mirror_proc s.plain m) (page_of at)) (s.places.table m (page_of at)) (and_parts (table_reads s.places m (mirror_proc s.plain m) (page_of at)) _ (owned_proc s.plain m (λ p. table_writes s.places m p (page_of at)) h)).0
  where
    last : (x y z : Bool) → (x && (y && not z)) ≡ true → z ≡ false
    last x y z k = grind arith

    reads_shared : (u w : TableEntry → Bool) (x : Place) (e : Option TableEntry) → entry_passes (λ y. u y && (w y && not (is_exclusive x))) e ≡ true → is_exclusive x ≡ false
    reads_shared u w x None k = cc
    reads_shared u w x (Some y) k = last (u y) (w y) (is_exclusive x) k

exclusive_by : (x : Place) (b : ℕ) → is_exclusive_by x b ≡ true → is_exclusive x ≡ true
exclusive_by x b h = ap is_exclusive (alone_by x b h).1

-- who adds to a byte has the page alone
added_alone : (e : Option TableEntry) (x : Place) (a b : ℕ) → entry_passes (λ y. is_sole y.right && is_exclusive_of x a y.target) e ≡ true → is_exclusive_by x b ≡ true → b ≡ a
added_alone None x a b h k = cc
added_alone (Some y) Place.Empty a b h k = cc
added_alone (Some y) Place.Zero a b h k = cc
added_alone (Some y) (Place.Sys n w) a b h k = cc
added_alone (Some y) (Place.Own d n w) a b h k = cc
added_alone (Some y) (Place.Moving f w) a b h k = cc
added_alone (Some y) (Place.Exclusive n d) a b h k = eqb-true b d k ∙ sym (eqb-true a d (and_parts (a == d) _ (and_parts (is_sole y.right) _ h).1).0)

bytes_alone : (c : Program) (s : After) (t : Past) (a b p x : ℕ) → Sound c s t → (b ≡ a → ⊥) → s.plain.been p ≡ true → is_exclusive_by (s.places.place p (page_of x)) b ≡ true → (k : Kind) → Allowed c s t a k → (next s a k).plain.bytes p x ≡ s.plain.bytes p x
bytes_alone c s t a b p x so ne been h (Kind.Mapped q r w) ok = by (cases_eq p q)
  where
    stays : is_empty_place (s.places.place p (page_of x)) ≡ false
    stays = ap is_empty_place (alone_by (s.places.place p (page_of x)) b h).1

    outside : (d : Bool) → covers r (page_of x) ≡ d → p ≡ q → (if d then 0 else s.plain.bytes q x) ≡ s.plain.bytes q x
    outside false e k = refl
    outside true e k = absurd (true_false (is_some (rights_of s.plain q (page_of x))) (so.areas.in_area q (page_of x) ok.0.1 (ap (λ i. is_empty_place (s.places.place i (page_of x))) (sym k) ∙ stays)) (ap is_some (rights_none (s.plain.areas q) r (page_of x) (no_meet s.plain q r w ok.2) e)))

    by : (p ≡ q) ⊎ (p ≡ q → ⊥) → with_at s.plain.bytes q (with_zeros (s.plain.bytes q) r) p x ≡ s.plain.bytes p x
    by (inl e) = ap (λ j. with_at s.plain.bytes q (with_zeros (s.plain.bytes q) r) j x) e ∙ ap (λ (g : ℕ → ℕ). g x) (here_at s.plain.bytes q (with_zeros (s.plain.bytes q) r)) ∙ outside (covers r (page_of x)) refl e ∙ sym (ap (λ j. s.plain.bytes j x) e)
    by (inr n) = ap (λ (g : ℕ → ℕ). g x) (other_at s.plain.bytes q p _ n)
bytes_alone c s t a b p x so ne been h (Kind.Forked q d) ok = ap (λ (g : ℕ → ℕ). g x) (other_at s.plain.bytes d p _ (λ e. true_false (s.plain.been d) (ap s.plain.been (sym e) ∙ been) ok.2.1))
bytes_alone c s t a b p x so ne been h (Kind.Stored y at bs) ok = ap (λ i. written_for s.plain.bytes i at bs p x) (writer_is a c s at bs y ok.2) ∙ written_elsewhere s.plain.bytes (proc_of s.plain y) at bs ok.3 p x (λ e i. true_false (is_exclusive (s.places.place p (page_of x))) (exclusive_by (s.places.place p (page_of x)) b h)
    (ap (λ j. is_exclusive (s.places.place j (page_of x))) e ∙ ap (λ j. is_exclusive (s.places.place (proc_of s.plain y) j)) i ∙ stored_shared c s a at bs y ok.2))
bytes_alone c s t a b p x so ne been h (Kind.Added m at was now) ok = let mine = adder_is s a m at ok.1 in ap (λ i. written_for s.plain.bytes i at (now ∷ []) p x) mine.0 ∙ written_elsewhere s.plain.bytes (mirror_proc s.plain m) at (now ∷ []) (omega arith) p x (λ e i. ne (added_alone (s.places.table m (page_of at)) (s.places.place (mirror_proc s.plain m) (page_of at)) a b mine.1
    (ap (λ j. is_exclusive_by j b) (ap (s.places.place (mirror_proc s.plain m)) (sym i) ∙ ap (λ j. s.places.place j (page_of x)) (sym e)) ∙ h)))
bytes_alone c s t a b p x so ne been h k ok = refl

been_of : (c : Program) (s : After) (t : Past) (m : ℕ) → Sound c s t → is_some (s.plain.mirrors m) ≡ true → s.plain.been (mirror_proc s.plain m) ≡ true
been_of c s t m so h = by (s.plain.mirrors m) refl h
  where
    by : (x : Option MirrorState) → s.plain.mirrors m ≡ x → is_some x ≡ true → s.plain.been (elim x as (λ y. ℕ) [ None ↦ 0 | Some y ↦ y.proc ]) ≡ true
    by None e k = cc
    by (Some y) e k = so.arrivals.of_been m y e

pub fetched_other : (c : Program) (s : After) (t : Past) (a b m at was : ℕ) → Sound c s t → (b ≡ a → ⊥) → (k : Kind) → Allowed c s t a k → ForItself a k → Holds s t b (Fetched_at m at was) → Holds (next s a k) (past_next t s.length a k) b (Fetched_at m at was)
fetched_other c s t a b m at was so ne k ok own h = (
  who.0,
  subst (λ p. is_exclusive_by ((next s a k).places.place p (page_of at)) b ≡ true → (next s a k).plain.bytes p at ≡ was) (sym who.1) (λ e. let old = alone_before s a b (mirror_proc s.plain m) (page_of at) ne k own e in bytes_alone c s t a b (mirror_proc s.plain m) at so ne (been_of c s t m so h.0) old k ok ∙ h.1 old),
)
  where
    who : HasProc (next s a k).plain (Who.Mirror m) × (proc_of (next s a k).plain (Who.Mirror m) ≡ proc_of s.plain (Who.Mirror m))
    who = who_keeps c s t a k ok (Who.Mirror m) h.0
