-- Pages with an area and no place after an entry.
use Rattle.std.proofs.Common.{◌≡◌, ℕ, ◌⊎◌, inl, inr, true, false, is_some, Option, Some, None, List, [], ◌∷◌, refl, sym, ap, ◌∙◌, subst, arith, length}
use Rattle.std.proofs.lemmas.Bool.Decides.{nat_tests}
use Rattle.hm_base.specs.Areas.{without, with_rights, with_area, rights_at}
use Rattle.hm_base.specs.Program.{Program}
use Rattle.hm_history.specs.Memory.Words.{with_at, writable, is_empty_place, page_of}
use Rattle.hm_history.specs.Memory.Plain.{with_bytes, with_zeros, written_for, proc_of, mirror_proc}
use Rattle.hm_history.specs.Memory.Places.{with_place}
use Rattle.hm_history.specs.Memory.After.{After}
use Rattle.hm_history.specs.declared.locks.MapLock.{MapLock}
use Rattle.hm_history.specs.declared.Kind.{Kind}
use Rattle.hm_laws.specs.Stood.{lock_on}
use Rattle.hm_laws.specs.Past.{Past}
use Rattle.hm_laws.specs.Sound.{UntouchedRules, Sound}
use Rattle.hm_laws.specs.Allowed.{next, MayRelease, InPage, Allowed}
use Rattle.std.proofs.lemmas.Bool.{cases_eq}
use Rattle.hm_laws.proofs.Kept.AreaCuts.{rights_without, rights_with, rights_added, no_meet}
use Rattle.hm_laws.proofs.Kept.Pools.{areas_at}
use Rattle.hm_laws.proofs.Kept.Areas.{placed_cases, writable_stays}
use Rattle.hm_laws.proofs.Kept.Contents.{same_page, written_to, added_to, writer_is, adder_is}
use Rattle.hm_history.proofs.Updates.{other_at}

-- a byte is 0, or somebody has the process for himself
abbrev IsClean : (ℕ → Option MapLock) → ℕ → ℕ → Type 0
IsClean map p n = (n ≡ 0) ⊎ ((b : ℕ) × (map b ≡ lock_on p true))

-- the lock of an actor changed, that was no writer of the process, or whose byte is 0
locked_else : (map : ℕ → Option MapLock) (a q n : ℕ) (l : Option MapLock) → IsClean map q n → (map a ≡ lock_on q true → n ≡ 0) → IsClean (with_at map a l) q n
locked_else map a q n l (inl e) k = inl e
locked_else map a q n l (inr w) k = by (cases_eq w.0 a)
  where
    by : (w.0 ≡ a) ⊎ (w.0 ≡ a → ⊥) → IsClean (with_at map a l) q n
    by (inl e) = inl (k (ap map (sym e) ∙ w.1))
    by (inr ne) = inr (w.0, other_at map a w.0 l ne ∙ w.1)

released : (s : After) (a : ℕ) → UntouchedRules s.plain.there s.plain.areas s.plain.bytes s.places.place s.locks.map → MayRelease s a → UntouchedRules s.plain.there s.plain.areas s.plain.bytes s.places.place (with_at s.locks.map a None)
released s a h ok = record { untouched = λ q x t n r. locked_else s.locks.map a q (s.plain.bytes q x) None (h.untouched q x t n r) (λ e. ok q e t x n r) }

-- a writer's lock is of one process
abbrev lock_proc : Option MapLock → ℕ
lock_proc None = 0
lock_proc (Some l) = l.proc

one_lock : (x : Option MapLock) (p q : ℕ) → x ≡ lock_on p true → x ≡ lock_on q true → q ≡ p
one_lock x p q e d = ap lock_proc (sym d ∙ e)

unwritten : (s : After) (p at : ℕ) (bs : List ℕ) → InPage at (length bs) → writable (s.places.place p (page_of at)) ≡ true → (q x : ℕ) → is_empty_place (s.places.place q (page_of x)) ≡ true → with_at s.plain.bytes p (with_bytes (s.plain.bytes p) at bs) q x ≡ s.plain.bytes q x
unwritten s p at bs i w q x n = grind (arith, nat_tests, same_page at (length bs) x i, writable_stays (s.places.place p (page_of at)) w)

pub untouched_kept : (c : Program) (s : After) (t : Past) (a : ℕ) → Sound c s t → (k : Kind) → Allowed c s t a k →
    UntouchedRules (next s a k).plain.there (next s a k).plain.areas (next s a k).plain.bytes (next s a k).places.place (next s a k).locks.map
untouched_kept c s t a so (Kind.Loaded x at bs) ok = released s a so.untouched ok.0
untouched_kept c s t a so (Kind.Failed x at n k) ok = released s a so.untouched ok.0
untouched_kept c s t a so (Kind.Refused n) ok = released s a so.untouched ok
untouched_kept c s t a so (Kind.Migrated n) ok = released s a so.untouched ok
untouched_kept c s t a so (Kind.Retry m) ok = released s a so.untouched ok
untouched_kept c s t a so (Kind.Excluded m v) ok = released s a so.untouched ok
untouched_kept c s t a so (Kind.Runlock p) ok = released s a so.untouched ok
untouched_kept c s t a so (Kind.Rlock p) ok = record {
  untouched = λ q x h n r. locked_else s.locks.map a q (s.plain.bytes q x) (lock_on p false) (so.untouched.untouched q x h n r) (λ e. grind (arith, ok.1));
}
untouched_kept c s t a so (Kind.Wlock p) ok = record {
  untouched = λ q x h n r. locked_else s.locks.map a q (s.plain.bytes q x) (lock_on p true) (so.untouched.untouched q x h n r) (λ e. grind (arith, ok.1));
}
untouched_kept c s t a so (Kind.Stored y at bs) ok = record {
  untouched = λ q x h n r. subst (λ p. IsClean (with_at s.locks.map a None) q (written_for s.plain.bytes p at bs q x)) (sym (writer_is a c s at bs y ok.2)) (subst (IsClean (with_at s.locks.map a None) q) (sym (unwritten s (proc_of s.plain y) at bs ok.3 (written_to (Kind.Stored y at bs) a c s (proc_of s.plain y) at bs y refl ok.2) q x n))
      (locked_else s.locks.map a q (s.plain.bytes q x) None (so.untouched.untouched q x h n r) (λ e. ok.0 q e h x n r)));
}
untouched_kept c s t a so (Kind.Added m at was now) ok = record {
  untouched = λ q x h n r. let mine = adder_is s a m at ok.1 in subst (λ p. IsClean s.locks.map q (written_for s.plain.bytes p at (now ∷ []) q x)) (sym mine.0) (subst (IsClean s.locks.map q) (sym (unwritten s (mirror_proc s.plain m) at (now ∷ []) (omega arith) (added_to s a m at mine.1) q x n)) (so.untouched.untouched q x h n r));
}
untouched_kept c s t a so (Kind.Mapped p r w) ok = record { untouched = λ q x h n i. by q x h n i (cases_eq q p) }
  where
    here : (x : ℕ) → is_empty_place (s.places.place p (page_of x)) ≡ true → is_some (rights_at (with_at s.plain.areas p (with_area (record { span = r; rights = w }) (s.plain.areas p)) p) (page_of x)) ≡ true → with_at s.plain.bytes p (with_zeros (s.plain.bytes p) r) p x ≡ 0
    here x n i = grind (arith, nat_tests, ok.1 x n, rights_added (s.plain.areas p) r w (page_of x) (no_meet s.plain p r w ok.2), areas_at s.plain.areas p p (page_of x) (with_area (record { span = r; rights = w }) (s.plain.areas p)))

    by : (q x : ℕ) → s.plain.there q ≡ true → is_empty_place (s.places.place q (page_of x)) ≡ true → is_some (rights_at (with_at s.plain.areas p (with_area (record { span = r; rights = w }) (s.plain.areas p)) q) (page_of x)) ≡ true → (q ≡ p) ⊎ (q ≡ p → ⊥) →
        IsClean (with_at s.locks.map a None) q (with_at s.plain.bytes p (with_zeros (s.plain.bytes p) r) q x)
    by q x h n i (inl e) = inl (ap (λ j. with_at s.plain.bytes p (with_zeros (s.plain.bytes p) r) j x) e ∙ here x (rw e at n) (rw e at i))
    by q x h n i (inr ne) = subst (IsClean (with_at s.locks.map a None) q) (ap (λ (f : ℕ → ℕ). f x) (sym (other_at s.plain.bytes p q (with_zeros (s.plain.bytes p) r) ne)))
        (locked_else s.locks.map a q (s.plain.bytes q x) None (so.untouched.untouched q x h n (ap (λ y. is_some (rights_at y (page_of x))) (sym (other_at s.plain.areas p q _ ne)) ∙ i)) (λ e. absurd (ne (one_lock (s.locks.map a) p q ok.0.0 e))))
untouched_kept c s t a so (Kind.Unmapped p r) ok = record { untouched = λ q x h n i. by q x h n i (cases_eq q p) }
  where
    here : (x : ℕ) → is_empty_place (s.places.place p (page_of x)) ≡ true → is_some (rights_at (with_at s.plain.areas p (without r (s.plain.areas p)) p) (page_of x)) ≡ true → s.plain.bytes p x ≡ 0
    here x n i = grind (arith, nat_tests, ok.1 x, n, rights_without r (s.plain.areas p) (page_of x), areas_at s.plain.areas p p (page_of x) (without r (s.plain.areas p)))

    by : (q x : ℕ) → s.plain.there q ≡ true → is_empty_place (s.places.place q (page_of x)) ≡ true → is_some (rights_at (with_at s.plain.areas p (without r (s.plain.areas p)) q) (page_of x)) ≡ true → (q ≡ p) ⊎ (q ≡ p → ⊥) → IsClean (with_at s.locks.map a None) q (s.plain.bytes q x)
    by q x h n i (inl e) = inl (ap (λ j. s.plain.bytes j x) e ∙ here x (rw e at n) (rw e at i))
    by q x h n i (inr ne) = locked_else s.locks.map a q (s.plain.bytes q x) None (so.untouched.untouched q x h n (ap (λ y. is_some (rights_at y (page_of x))) (sym (other_at s.plain.areas p q _ ne)) ∙ i)) (λ e. absurd (ne (one_lock (s.locks.map a) p q ok.0.0 e)))
untouched_kept c s t a so (Kind.Protected p r w) ok = record { untouched = λ q x h n i. by q x h n i (cases_eq q p) }
  where
    here : (x : ℕ) → is_empty_place (s.places.place p (page_of x)) ≡ true → is_some (rights_at (with_at s.plain.areas p (with_rights r w (s.plain.areas p)) p) (page_of x)) ≡ true → s.plain.bytes p x ≡ 0
    here x n i = grind (arith, nat_tests, ok.1 x n, rights_with r w (s.plain.areas p) (page_of x), areas_at s.plain.areas p p (page_of x) (with_rights r w (s.plain.areas p)))

    by : (q x : ℕ) → s.plain.there q ≡ true → is_empty_place (s.places.place q (page_of x)) ≡ true → is_some (rights_at (with_at s.plain.areas p (with_rights r w (s.plain.areas p)) q) (page_of x)) ≡ true → (q ≡ p) ⊎ (q ≡ p → ⊥) → IsClean (with_at s.locks.map a None) q (s.plain.bytes q x)
    by q x h n i (inl e) = inl (ap (λ j. s.plain.bytes j x) e ∙ here x (rw e at n) (rw e at i))
    by q x h n i (inr ne) = locked_else s.locks.map a q (s.plain.bytes q x) None (so.untouched.untouched q x h n (ap (λ y. is_some (rights_at y (page_of x))) (sym (other_at s.plain.areas p q _ ne)) ∙ i)) (λ e. absurd (ne (one_lock (s.locks.map a) p q ok.0.0 e)))
untouched_kept c s t a so (Kind.Forked p d) ok = record { untouched = λ q x h n i. by q x h n i (cases_eq q d) (cases_eq q p) }
  where
    here : (x : ℕ) → is_empty_place (s.places.place d (page_of x)) ≡ true → is_some (rights_at (with_at s.plain.areas d (s.plain.areas p) d) (page_of x)) ≡ true → with_at s.plain.bytes d (s.plain.bytes p) d x ≡ 0
    here x n i = grind (arith, nat_tests, ok.1 x, (ok.3 (page_of x)).emptiness, areas_at s.plain.areas d d (page_of x) (s.plain.areas p))

    by : (q x : ℕ) → with_at s.plain.there d true q ≡ true → is_empty_place (s.places.place q (page_of x)) ≡ true → is_some (rights_at (with_at s.plain.areas d (s.plain.areas p) q) (page_of x)) ≡ true → (q ≡ d) ⊎ (q ≡ d → ⊥) → (q ≡ p) ⊎ (q ≡ p → ⊥) →
        IsClean (with_at s.locks.map a None) q (with_at s.plain.bytes d (s.plain.bytes p) q x)
    by q x h n i (inl e) k = inl (ap (λ j. with_at s.plain.bytes d (s.plain.bytes p) j x) e ∙ here x (rw e at n) (rw e at i))
    by q x h n i (inr ne) (inl e) = inl (ap (λ (f : ℕ → ℕ). f x) (other_at s.plain.bytes d q (s.plain.bytes p) ne) ∙ ap (λ j. s.plain.bytes j x) e ∙ ok.1 x (rw e at n) (sym (ap (λ j. is_some (rights_at (s.plain.areas j) (page_of x))) e) ∙ ap (λ y. is_some (rights_at y (page_of x))) (sym (other_at s.plain.areas d q _ ne)) ∙ i))
    by q x h n i (inr ne) (inr np) = subst (IsClean (with_at s.locks.map a None) q) (ap (λ (f : ℕ → ℕ). f x) (sym (other_at s.plain.bytes d q (s.plain.bytes p) ne)))
        (locked_else s.locks.map a q (s.plain.bytes q x) None (so.untouched.untouched q x (sym (other_at s.plain.there d q true ne) ∙ h) n (ap (λ y. is_some (rights_at y (page_of x))) (sym (other_at s.plain.areas d q _ ne)) ∙ i)) (λ e. absurd (np (one_lock (s.locks.map a) p q ok.0.0 e))))
untouched_kept c s t a so (Kind.Exited p) ok = record { untouched = λ q x h n i. by q x h n i (cases_eq q p) }
  where
    gone : (q : ℕ) → q ≡ p → with_at s.plain.there p false q ≡ true → ⊥
    gone q e h = grind (arith, nat_tests)

    by : (q x : ℕ) → with_at s.plain.there p false q ≡ true → is_empty_place (s.places.place q (page_of x)) ≡ true → is_some (rights_at (with_at s.plain.areas p [] q) (page_of x)) ≡ true → (q ≡ p) ⊎ (q ≡ p → ⊥) → IsClean (with_at s.locks.map a None) q (s.plain.bytes q x)
    by q x h n i (inl e) = absurd (gone q e h)
    by q x h n i (inr ne) = locked_else s.locks.map a q (s.plain.bytes q x) None (so.untouched.untouched q x (sym (other_at s.plain.there p q false ne) ∙ h) n (ap (λ y. is_some (rights_at y (page_of x))) (sym (other_at s.plain.areas p q _ ne)) ∙ i)) (λ e. absurd (ne (one_lock (s.locks.map a) p q ok.0.0 e)))
untouched_kept c s t a so (Kind.Place p v x) ok = record { untouched = λ q y h n i. by q y h n i (placed_cases s.places.place p v x q (page_of y)) }
  where
    by : (q y : ℕ) → s.plain.there q ≡ true → is_empty_place (with_place s.places.place p v x q (page_of y)) ≡ true → is_some (rights_at (s.plain.areas q) (page_of y)) ≡ true →
        ((q ≡ p) × (page_of y ≡ v) × (with_place s.places.place p v x q (page_of y) ≡ x)) ⊎ (with_place s.places.place p v x q (page_of y) ≡ s.places.place q (page_of y)) → IsClean s.locks.map q (s.plain.bytes q y)
    by q y h n i (inl e) = inr (a, ok.process.empties (sym (ap is_empty_place e.2) ∙ n) ∙ ap (λ j. lock_on j true) (sym e.0))
    by q y h n i (inr e) = so.untouched.untouched q y h (sym (ap is_empty_place e) ∙ n) i
untouched_kept c s t a so k ok = so.untouched
