-- What is shown is so after the entries.
use Rattle.std.proofs.Common.{◌≡◌, ℕ, zero, suc, ◌+◌, Bool, true, false, if◌then◌else◌, Option, Some, None, List, [], ◌∷◌, ◌++◌, refl, sym, ap, ◌∙◌, subst, arith}
use Rattle.std.specs.Prelude.{nat_lt}
use Rattle.hm_base.specs.Pages.{Pages}
use Rattle.hm_base.specs.declared.Frame.{Frame}
use Rattle.hm_folds.specs.Standing.{entry_read}
use Rattle.hm_history.specs.Memory.After.{After}
use Rattle.hm_history.specs.Memory.Sequences.{Sequences, interval_inserted, interval_proc, interval_seq, sequences_accept}
use Rattle.hm_history.specs.Kernel.Going.{state_of}
use Rattle.hm_laws.proofs.Histories.Sound.{after_is}
use Rattle.hm_laws.proofs.State.Search.{least_some}
use Rattle.hm_folds.specs.Kept.{under_way}
use Rattle.hm_history.specs.Memory.Places.{Places}
use Rattle.hm_history.specs.Memory.Plain.{Plain, plain_bytes, proc_of}
use Rattle.hm_history.specs.Memory.Words.{bytes_from, page_of}
use Rattle.hm_history.specs.declared.Kind.{Kind}
use Rattle.hm_history.specs.declared.TableRight.{TableRight}
use Rattle.hm_history.specs.declared.Who.{Who}
use Rattle.hm_parts.specs.Shown.{IsAllowed, ShownAreRight, ending, goes_on, guard_goes_on, held_bytes, if_right, next_of, or_else, shows_sequences, starting, table_at, telling}
use Rattle.hm_parts.specs.declared.shown.Shown.{Shown}

-- ---- bytes

-- one byte more
pub bytes_grow : (f : ℕ → ℕ) (at n x : ℕ) → x ≡ f (at + n) → bytes_from f at n ++ x ∷ [] ≡ bytes_from f at (n + 1)
bytes_grow f at zero x is = let here : at + 0 ≡ at = omega arith in ap (λ (y : ℕ). y ∷ []) (is ∙ ap f here)
bytes_grow f at (suc n) x is =
    let on : at + suc n ≡ (at + 1) + n = omega arith in
    let more : suc (n + 1) ≡ suc n + 1 = omega arith in
    ap (λ (xs : List ℕ). f at ∷ xs) (bytes_grow f (at + 1) n x (is ∙ ap f on)) ∙ ap (bytes_from f at) more

-- the bytes of the process of an access
pub held_here : (t s : Plain) (x : Who) (p at n : ℕ) (bs : List ℕ) → s ≡ t → p ≡ proc_of t x → bs ≡ bytes_from (s.bytes p) at n → nat_lt at 281474976710656 ≡ true
    → Some (Shown.Words (Kind.Loaded x at bs)) ≡ held_bytes t x at n
held_here t s x p at n bs same proc so lt =
    let bytes : bs ≡ plain_bytes t x at n = so ∙ ap (λ (q : ℕ). bytes_from (s.bytes q) at n) proc ∙ ap (λ (z : Plain). bytes_from (z.bytes (proc_of t x)) at n) same in
    let here : held_bytes t x at n ≡ Some (Shown.Words (Kind.Loaded x at (plain_bytes t x at n))) = rw lt refl in
    ap (λ (z : List ℕ). Some (Shown.Words (Kind.Loaded x at z))) bytes ∙ sym here

-- ---- mirror tables

-- what a mirror's table has for the page of an address
pub table_here : (s : Places) (m at v : ℕ) (r : Option (Option Frame × TableRight × ℕ)) → nat_lt at 281474976710656 ≡ true → v ≡ page_of at → r ≡ entry_read (s.table m v) → r ≡ entry_read (table_at s (Some (m, at)))
table_here s m at v r lt is so =
    let here : table_at s (Some (m, at)) ≡ s.table m (page_of at) = rw lt refl in
    so ∙ ap (λ (k : ℕ). entry_read (s.table m k)) is ∙ ap entry_read (sym here)

-- ---- sequences

-- the next mirror is told, by sequences that are those of the state
pub goes_told : (s t : Sequences) (a p : ℕ) (r : Pages) (m : ℕ) (o : Option ℕ) (k : Kind) → s ≡ t → o ≡ next_of s p r a → o ≡ Some m → k ≡ telling s p r m → Some (Shown.Words k) ≡ goes_on t a p r
goes_told s t a p r m o k same next some is =
    let here : next_of s p r a ≡ Some m = sym next ∙ some in
    let there : goes_on s a p r ≡ Some (Shown.Words (telling s p r m)) = rw (goes_on, here) refl in
    ap (λ (z : Kind). Some (Shown.Words z)) is ∙ sym there ∙ ap (λ (z : Sequences). goes_on z a p r) same

-- none is left to be told
pub goes_ended : (s t : Sequences) (a p : ℕ) (r : Pages) (o : Option ℕ) (k : Kind) (x : Option Shown) → s ≡ t → o ≡ next_of s p r a → o ≡ None → k ≡ ending t p r → x ≡ if_right s a k → x ≡ goes_on t a p r
goes_ended s t a p r o k x same next none is right =
    let here : next_of s p r a ≡ None = sym next ∙ none in
    let there : goes_on s a p r ≡ if_right s a (ending s p r) = rw (goes_on, here) refl in
    right ∙ ap (if_right s a) is ∙ ap (λ (z : Sequences). if_right s a (ending z p r)) (sym same) ∙ sym there ∙ ap (λ (z : Sequences). goes_on z a p r) same

some_is : {X : Type 0} (x y : X) → Some x ≡ Some y → x ≡ y
some_is x y e = cc

-- words that are shown if sequences allow them
right_allows : (s : Sequences) (a : ℕ) (k : Kind) (y : Shown) → if_right s a k ≡ Some y → IsAllowed s a y
right_allows s a k y = by (sequences_accept s a k) refl
  where
    by : (b : Bool) → sequences_accept s a k ≡ b → ◌≡◌ {A = Option Shown} (if b then Some (Shown.Words k) else None) (Some y) → IsAllowed s a y
    by true is e = subst (IsAllowed s a) (some_is (Shown.Words k) y e) is
    by false is e = absurd cc

-- an invalidation that goes on
goes_allows : (s : Sequences) (a p : ℕ) (r : Pages) (y : Shown) → goes_on s a p r ≡ Some y → IsAllowed s a y
goes_allows s a p r y = by (next_of s p r a) refl
  where
    by : (o : Option ℕ) → next_of s p r a ≡ o
        → ◌≡◌ {A = Option Shown} (elim o [ Some m ↦ Some (Shown.Words (telling s p r m)) | None ↦ if_right s a (ending s p r) ]) (Some y) → IsAllowed s a y
    by (Some m) is e = subst (IsAllowed s a) (some_is (Shown.Words (telling s p r m)) y e) (least_some (λ i. sequences_accept s a (telling s p r i)) 0 32 m is)
    by None is e = right_allows s a (ending s p r) y e

guard_allows : (s : Sequences) (a : ℕ) (o : Option (ℕ × Pages)) (y : Shown) → guard_goes_on s a o ≡ Some y → IsAllowed s a y
guard_allows s a None y e = absurd cc
guard_allows s a (Some x) y e = goes_allows s a x.0 x.1 y e

-- the first of two that are shown
first_allows : (s : Sequences) (a : ℕ) (one other : Option Shown) (y : Shown) → ((z : Shown) → one ≡ Some z → IsAllowed s a z) → ((z : Shown) → other ≡ Some z → IsAllowed s a z)
    → or_else one other ≡ Some y → IsAllowed s a y
first_allows s a None other y these those e = those y e
first_allows s a (Some x) other y these those e = these y e

pub sequences_allow : (s : Sequences) (a : ℕ) (k : Kind) (y : Shown) → shows_sequences s a k ≡ Some y → IsAllowed s a y
sequences_allow s a (Kind.Start p r q) y e =
    first_allows s a _ _ y (guard_allows s a (under_way (s.guard a))) (right_allows s a (starting s p r)) e
sequences_allow s a (Kind.Told m r q) y e = guard_allows s a (under_way (s.guard a)) y e
sequences_allow s a (Kind.End p r q) y e = guard_allows s a (under_way (s.guard a)) y e
sequences_allow s a (Kind.Attached m d p r q) y e = right_allows s a (Kind.Attached m d p r (interval_inserted s p)) y e
sequences_allow s a (Kind.Detaching m q) y e = right_allows s a (Kind.Detaching m (s.seq (interval_proc s m))) y e
sequences_allow s a (Kind.Begin m q) y e = right_allows s a (Kind.Begin m (interval_seq s m)) y e
sequences_allow s a k y e = absurd cc

pub shown_are_right : ShownAreRight
shown_are_right c h e x y are is =
    subst (λ (t : After). IsAllowed t.sequences e.actor y) (after_is c h)
    (sequences_allow (state_of c h).after.sequences e.actor e.kind y (sym are.sequences ∙ is))
