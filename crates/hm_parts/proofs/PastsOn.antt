-- What is kept of look-ups goes on with the history.
use Rattle.std.proofs.Common.{◌≡◌, ℕ, ◌<◌, Bool, true, false, ◌==◌, ◌&&◌, ◌||◌, if◌then◌else◌, Option, Some, List, length, slice_set, get_or, refl, sym, ap, ◌∙◌, arith}
use Rattle.std.proofs.lemmas.Grind.{elements}
use Rattle.std.proofs.lemmas.Bool.Decides.{nat_tests}
use Rattle.hm_base.specs.Pages.{Pages, covers}
use Rattle.hm_base.specs.Program.{Program}
use Rattle.hm_base.specs.declared.Frame.{Frame}
use Rattle.hm_history.specs.Memory.Lookups.{is_begin_of, is_set_of, is_told_of, set_from}
use Rattle.hm_history.specs.declared.Entry.{Entry}
use Rattle.hm_history.specs.declared.Kind.{Kind}
use Rattle.hm_history.specs.declared.TableRight.{TableRight}
use Rattle.hm_laws.specs.Past.{is_position}
use Rattle.hm_flaws.specs.Recalled.{Recalled, goes_back, recalled_next}
use Rattle.hm_why.specs.Changes.{entry_for}
use Rattle.hm_why.specs.declared.changes.Changes.{Changes}
use Rattle.hm_parts.specs.Lookups.{begun_in, set_in, told_in}
use Rattle.hm_parts.specs.Pasts.{AreRecalled}
use Rattle.hm_parts.specs.Sets.{set_at}
use Rattle.hm_parts.specs.declared.pasts.Begun.{Begun}
use Rattle.hm_parts.specs.declared.pasts.Pasts.{Pasts}
use Rattle.hm_parts.specs.declared.sets.Sets.{Sets}

-- ---- the pages of one mirror

pub told_read : (xs : List Changes) (i m : ℕ) (x d : Changes) (v : ℕ) → x ≡ get_or xs i d → i ≡ m → i < length xs → entry_for x v ≡ told_in xs m v
told_read xs i m x d v e k l = grind (arith, elements)

pub told_put : (xs : List Changes) (i m at : ℕ) (w : Pages) (y : Changes) → i ≡ m → m < length xs → ((v : ℕ) → entry_for y v ≡ (if covers w v then Some at else told_in xs m v)) → (q v : ℕ) → told_in (slice_set xs i y) q v ≡ (if (m == q) && covers w v then Some at else told_in xs q v)
told_put xs i m at w y k l h q v = by (h v)
  where
    by : entry_for y v ≡ (if covers w v then Some at else told_in xs m v) → told_in (slice_set xs i y) q v ≡ (if (m == q) && covers w v then Some at else told_in xs q v)
    by j = grind (arith, nat_tests, elements)

pub set_read : (xs : List Sets) (i m : ℕ) (x d : Sets) (v : ℕ) → x ≡ get_or xs i d → i ≡ m → i < length xs → set_at x v ≡ set_in xs m v
set_read xs i m x d v e k l = grind (arith, elements)

pub set_put : (xs : List Sets) (i m u : ℕ) (z : Bool × ℕ) (y : Sets) → i ≡ m → m < length xs → ((v : ℕ) → set_at y v ≡ (if v == u then Some z else set_in xs m v)) → (q v : ℕ) → set_in (slice_set xs i y) q v ≡ (if (m == q) && (u == v) then Some z else set_in xs q v)
set_put xs i m u z y k l h q v = by (h v)
  where
    by : set_at y v ≡ (if v == u then Some z else set_in xs m v) → set_in (slice_set xs i y) q v ≡ (if (m == q) && (u == v) then Some z else set_in xs q v)
    by j = grind (arith, nat_tests, elements)

-- ---- one entry more

module _ (c : Program) (r : Recalled) (x y : Pasts) (e : Entry) (at : ℕ) where
  -- the last look-ups, if there is no new one
  begun_stays : (k : Kind) → AreRecalled r x → e.kind ≡ k → ((n : ℕ) → is_begin_of n k ≡ false) → y.begun.items ≡ x.begun.items → (a n : ℕ) → begun_in y.begun.items a n ≡ (recalled_next c r e).begun a n
  begun_stays k are is none same a n =
      ap (λ (xs : List Begun). begun_in xs a n) same ∙ are.begun a n
      ∙ by (e.actor == a) (is_begin_of n e.kind) (ap (is_begin_of n) is ∙ none n)
    where
      by : (s t : Bool) → t ≡ false → r.begun a n ≡ (if s && t then Some r.state.length else r.begun a n)
      by true true f = absurd cc
      by true false f = refl
      by false t f = refl

  -- the pages that were told, if none is told
  told_stays : (k : Kind) → AreRecalled r x → e.kind ≡ k → ((n v : ℕ) → is_told_of n v k ≡ false) → y.told.items ≡ x.told.items → (n v : ℕ) → told_in y.told.items n v ≡ (recalled_next c r e).told n v
  told_stays k are is none same n v =
      ap (λ (xs : List Changes). told_in xs n v) same ∙ are.told n v
      ∙ ap (λ (t : Bool). if t then Some r.state.length else r.told n v) (sym (ap (is_told_of n v) is ∙ none n v))

  -- the pages that were set, if none is set
  set_stays : (k : Kind) → AreRecalled r x → e.kind ≡ k → ((n v : ℕ) → is_set_of n v k ≡ false) → y.sets.items ≡ x.sets.items → (n v : ℕ) → set_in y.sets.items n v ≡ (recalled_next c r e).set n v
  set_stays k are is none same n v =
      ap (λ (xs : List Sets). set_in xs n v) same ∙ are.set n v
      ∙ ap (λ (t : Bool). if t then Some (goes_back r n e, set_from e.kind) else r.set n v) (sym (ap (is_set_of n v) is ∙ none n v))

  pub begun_on : (m q : ℕ) → r.state.length ≡ at → AreRecalled r x → e.kind ≡ Kind.Begin m q → ((a n : ℕ) → begun_in y.begun.items a n ≡ (if (e.actor == a) && (m == n) then Some at else begun_in x.begun.items a n))
      → y.told.items ≡ x.told.items → y.sets.items ≡ x.sets.items → AreRecalled (recalled_next c r e) y
  begun_on m q long are is begun told sets = record {
    begun = λ a n. begun a n ∙ ap (λ (i : ℕ). if (e.actor == a) && (m == n) then Some i else begun_in x.begun.items a n) (sym long) ∙ ap (λ (o : Option ℕ). if (e.actor == a) && (m == n) then Some r.state.length else o) (are.begun a n) ∙ ap (λ (k : Kind). if (e.actor == a) && is_begin_of n k then Some r.state.length else r.begun a n) (sym is);
    told = told_stays (Kind.Begin m q) are is (λ n v. refl) told;
    set = set_stays (Kind.Begin m q) are is (λ n v. refl) sets;
  }

  pub told_on : (m q : ℕ) (w : Pages) → r.state.length ≡ at → AreRecalled r x → e.kind ≡ Kind.Told m w q → ((n v : ℕ) → told_in y.told.items n v ≡ (if (m == n) && covers w v then Some at else told_in x.told.items n v))
      → y.begun.items ≡ x.begun.items → y.sets.items ≡ x.sets.items → AreRecalled (recalled_next c r e) y
  told_on m q w long are is told begun sets = record {
    begun = begun_stays (Kind.Told m w q) are is (λ n. refl) begun;
    told = λ n v. told n v ∙ ap (λ (i : ℕ). if (m == n) && covers w v then Some i else told_in x.told.items n v) (sym long) ∙ ap (λ (o : Option ℕ). if (m == n) && covers w v then Some r.state.length else o) (are.told n v) ∙ ap (λ (k : Kind). if is_told_of n v k then Some r.state.length else r.told n v) (sym is);
    set = set_stays (Kind.Told m w q) are is (λ n v. refl) sets;
  }

  pub set_on : (m u from : ℕ) (f : Option Frame) (w : TableRight) (back : Bool) → r.state.length ≡ at → AreRecalled r x → e.kind ≡ Kind.Set m u f w from → back ≡ ((from == at) || is_position (begun_in x.begun.items e.actor m) from)
      → ((n v : ℕ) → set_in y.sets.items n v ≡ (if (m == n) && (u == v) then Some (back, from) else set_in x.sets.items n v))
      → y.begun.items ≡ x.begun.items → y.told.items ≡ x.told.items → AreRecalled (recalled_next c r e) y
  set_on m u from f w back long are is goes set begun told = record {
    begun = begun_stays (Kind.Set m u f w from) are is (λ n. refl) begun;
    told = told_stays (Kind.Set m u f w from) are is (λ n v. refl) told;
    set = λ n v. set n v ∙ ap (λ (o : Option (Bool × ℕ)). if (m == n) && (u == v) then Some (back, from) else o) (are.set n v) ∙ by n v (m == n) refl ∙ ap (λ (k : Kind). if is_set_of n v k then Some (goes_back r n e, set_from e.kind) else r.set n v) (sym is);
  }
    where
      same : (n : ℕ) → (m == n) ≡ true → m ≡ n
      same n t = grind (arith, nat_tests)

      from_is : set_from e.kind ≡ from
      from_is = ap set_from is

      here : (n : ℕ) → m ≡ n → ◌≡◌ {A = Bool × ℕ} (back, from) (goes_back r n e, set_from e.kind)
      here n t =
          ap (λ (b : Bool). (b, from)) (goes ∙ ap (λ (i : ℕ). (from == i) || is_position (begun_in x.begun.items e.actor m) from) (sym long) ∙ ap (λ (o : Option ℕ). (from == r.state.length) || is_position o from) (are.begun e.actor m) ∙ ap (λ (k : ℕ). (from == r.state.length) || is_position (r.begun e.actor k) from) t)
          ∙ ap (λ (i : ℕ). ((i == r.state.length) || is_position (r.begun e.actor n) i, i)) (sym from_is)

      by : (n v : ℕ) (t : Bool) → (m == n) ≡ t → (if (m == n) && (u == v) then Some (back, from) else r.set n v) ≡ (if (m == n) && (u == v) then Some (goes_back r n e, set_from e.kind) else r.set n v)
      by n v true t = ap (λ (z : Bool × ℕ). if (m == n) && (u == v) then Some z else r.set n v) (here n (same n t))
      by n v false t = ap (λ (b : Bool). if b && (u == v) then Some (back, from) else r.set n v) t ∙ ap (λ (b : Bool). if b && (u == v) then Some (goes_back r n e, set_from e.kind) else r.set n v) (sym t)

  pub none_on : AreRecalled r x → ((m q : ℕ) → e.kind ≡ Kind.Begin m q → ⊥) → ((m : ℕ) (w : Pages) (q : ℕ) → e.kind ≡ Kind.Told m w q → ⊥) → ((m u : ℕ) (f : Option Frame) (w : TableRight) (from : ℕ) → e.kind ≡ Kind.Set m u f w from → ⊥) → y ≡ x → AreRecalled (recalled_next c r e) y
  none_on are no_begin no_told no_set same = record {
    begun = begun_stays e.kind are refl (λ n. begins n e.kind no_begin) (ap (λ (z : Pasts). z.begun.items) same);
    told = told_stays e.kind are refl (λ n v. tells n v e.kind no_told) (ap (λ (z : Pasts). z.told.items) same);
    set = set_stays e.kind are refl (λ n v. sets n v e.kind no_set) (ap (λ (z : Pasts). z.sets.items) same);
  }
    where
      begins : (n : ℕ) (k : Kind) → ((m q : ℕ) → k ≡ Kind.Begin m q → ⊥) → is_begin_of n k ≡ false
      begins n (Kind.Begin m q) other = absurd (other m q refl)
      begins n k other = refl

      tells : (n v : ℕ) (k : Kind) → ((m : ℕ) (w : Pages) (q : ℕ) → k ≡ Kind.Told m w q → ⊥) → is_told_of n v k ≡ false
      tells n v (Kind.Told m w q) other = absurd (other m w q refl)
      tells n v k other = refl

      sets : (n v : ℕ) (k : Kind) → ((m u : ℕ) (f : Option Frame) (w : TableRight) (from : ℕ) → k ≡ Kind.Set m u f w from → ⊥) → is_set_of n v k ≡ false
      sets n v (Kind.Set m u f w from) other = absurd (other m u f w from refl)
      sets n v k other = refl
