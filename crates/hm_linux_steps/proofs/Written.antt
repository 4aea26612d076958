-- Lists in which one item was written.
use Rattle.std.proofs.Common.{◌≡◌, ℕ, ◌+◌, ◌<◌, ◌≤◌, Bool, false, ◌||◌, Option, None, List, [], ◌⊎◌, inl, inr, length, slice_set, slice_index_or, refl, sym, ap, ◌∙◌, arith}
use Rattle.std.proofs.lemmas.Bool.{cases_eq, cases_lt}
use Rattle.std.proofs.lemmas.Bool.Decides.{nat_tests}
use Rattle.std.proofs.lemmas.Grind.{elements, get_or-set_at}
use Rattle.std.proofs.lemmas.List.{get_or-set_other}
use Rattle.std.proofs.Math.ListN.{get_or-eq_default}
use Rattle.std.proofs.Math.Path.{fun_ext}
use Rattle.hm_base.specs.Program.{Program}
use Rattle.hm_base.specs.declared.Frame.{Frame}
use Rattle.hm_base.specs.declared.ops.Op.{Op}
use Rattle.hm_history.specs.Memory.After.{After}
use Rattle.hm_history.specs.Memory.Words.{with_at}
use Rattle.hm_history.specs.Kernel.Going.{op_at}
use Rattle.hm_history.specs.declared.Kind.{Kind}
use Rattle.hm_history.specs.declared.phases.Phase.{Phase}
use Rattle.hm_history.proofs.Going.{no_op}
use Rattle.hm_linux.specs.Noted.{Varied}
use Rattle.hm_linux.specs.WholeSnapshot.{tears, torn_after}

pub written : (xs : List (List Frame)) (p : ℕ) (fs : List Frame) → p < length xs → (λ a. slice_index_or (slice_set xs p fs) a []) ≡ with_at (λ a. slice_index_or xs a []) p fs
written xs p fs l = fun_ext (λ a. grind (arith, nat_tests, elements, l))

pub set_more : (xs : List Bool) (n : ℕ) (v : Bool) (g : ℕ → Bool) → n < length xs → ((k : ℕ) → k < n → slice_index_or xs k false ≡ g k) → v ≡ g n → (k : ℕ) → k < n + 1 → slice_index_or (slice_set xs n v) k false ≡ g k
set_more xs n v g l h e k m = by (cases_eq k n)
  where
    by : (k ≡ n) ⊎ (k ≡ n → ⊥) → slice_index_or (slice_set xs n v) k false ≡ g k
    by (inl p) = get_or-set_at xs n k v false p l ∙ (e ∙ ap g (sym p))
    by (inr p) = get_or-set_other xs n k v false p ∙ h k (omega (arith, m, p))

-- no snapshot is torn of an actor that a script has not
tears_none : (s : After) (k : Kind) (st : List Phase) → tears s k None st ≡ false
tears_none s (Kind.Start p r q) st = refl
tears_none s k st = refl

pub torn_past : (c : Program) (t : Varied) (a : ℕ) (k : Kind) (b : ℕ) → length c.actors ≤ b → t.noted.torn b ≡ false → torn_after c t a k b ≡ false
torn_past c t a (Kind.Rlock p) b l e = grind (arith, nat_tests, e)
torn_past c t a k b l e =
    ap (λ (x : Bool). x || tears t.state.after k (op_at c b (t.state.going b).index) (t.state.going b).stack) e
    ∙ (ap (λ (o : Option Op). tears t.state.after k o (t.state.going b).stack) (no_op c b (t.state.going b).index l) ∙ tears_none t.state.after k (t.state.going b).stack)

pub all_torn : (c : Program) (t : Varied) (a : ℕ) (k : Kind) (xs : List Bool) → length c.actors ≤ 16 → length xs ≡ 16 → ((b : ℕ) → 16 ≤ b → t.noted.torn b ≡ false)
    → ((b : ℕ) → b < 16 → slice_index_or xs b false ≡ torn_after c t a k b) → (b : ℕ) → slice_index_or xs b false ≡ torn_after c t a k b
all_torn c t a k xs few len none h b = by (cases_lt b 16)
  where
    by : (b < 16) ⊎ (16 ≤ b) → slice_index_or xs b false ≡ torn_after c t a k b
    by (inl p) = h b p
    by (inr p) = get_or-eq_default xs false (omega (arith, len, p)) ∙ sym (torn_past c t a k b (omega (arith, few, p)) (none b p))
