-- How far actors are, one entry more.
use Rattle.std.proofs.Common.{◌≡◌, ◌≢◌, ℕ, ◌+◌, ◌^◌, ◌≤◌, ◌<◌, ◌⊎◌, List, [], ◌∷◌, ◌++◌, length, get_or, take, slice_set, zero, suc, inl, inr, refl, sym, subst, ap, ◌∙◌, arith, get_or-set_other, get_or-set_same}
use Rattle.std.specs.Prelude.{slice_index}
use Rattle.std.proofs.lemmas.List.{length-take-le, take_more}
use Rattle.std.proofs.lemmas.List.Sums.{fold-append}
use Rattle.hm_base.specs.Program.{Program}
use Rattle.hm_history.specs.Memory.Words.{with_at}
use Rattle.hm_history.specs.Kernel.Going.{ops_of}
use Rattle.hm_history.specs.declared.Entry.{Entry}
use Rattle.hm_report.specs.Ended.{ended_next, ended_start, all_next, ended_after}
use Rattle.hm_report.specs.Ends.{AreEnds, Fits}
use Rattle.hm_report.specs.declared.ended.EndedOps.{EndedOps}
use Rattle.hm_report.specs.declared.ended.Ends.{Ends}
use Rattle.hm_history.proofs.Updates.{here_at, other_at}

pub ended_with : (c : Program) (es : List Entry) (e : Entry) → ended_after c (es ++ e ∷ []) ≡ all_next c (ended_after c es) e
ended_with c es e = fold-append (all_next c) (λ a. ended_start) es (e ∷ [])

-- in a list the entries so far and the next one are one more of its front
pub ends_more : (c : Program) (es : List Entry) (i : ℕ) (e : Entry) (x : Ends) → i < length es → e ≡ get_or es i e → AreEnds c (take i es ++ e ∷ []) x → AreEnds c (take (i + 1) es) x
ends_more c es i e x lt is h = subst (λ xs. AreEnds c xs x) (sym (take_more es i e lt ∙ ap (λ (y : Entry). take i es ++ y ∷ []) (sym is))) h

-- among fewer entries than numbers reach, one more can be counted
pub ends_fit : (c : Program) (es : List Entry) (x : Ends) (i : ℕ) → i < length es → i + 1 < 2 ^ 64 → AreEnds c (take i es) x → Fits x
ends_fit c es x i lt few h =
    let count = length-take-le i es (omega arith) in
    record {
      operations_len = h.operations_len;
      pieces_len = h.pieces_len;
      operations = λ a small. omega (arith, few, h.few_operations a small, count);
      pieces = λ a small. omega (arith, few, h.few_pieces a small, count);
    }

pub same_or_not : (a k : ℕ) → (a ≡ k) ⊎ (a ≢ k)
same_or_not zero zero = inl refl
same_or_not zero (suc k) = inr (λ e. omega arith)
same_or_not (suc a) zero = inr (λ e. omega arith)
same_or_not (suc a) (suc k) = elim (same_or_not a k) [ inl e ↦ inl (ap suc e) | inr n ↦ inr (λ e. n (omega arith)) ]

with_at_field : (field : EndedOps → ℕ) (f : ℕ → EndedOps) (k : ℕ) (x : EndedOps) (a : ℕ) → field (with_at f k x a) ≡ with_at (λ q. field (f q)) k (field x) a
with_at_field field f k x a = elim (same_or_not a k) [
  | inl e ↦ rw e (ap field (here_at f k x) ∙ sym (here_at (λ q. field (f q)) k (field x)))
  | inr n ↦ ap field (other_at f k a x n) ∙ sym (other_at (λ q. field (f q)) k a (field x) n)
]

-- an array with the numbers of a function, changed at one place
set_at : (xs : List ℕ) (f : ℕ → ℕ) (k v : ℕ) → k < length xs → (a : ℕ) → slice_index xs a ≡ f a → slice_index (slice_set xs k v) a ≡ with_at f k v a
set_at xs f k v lt a same = elim (same_or_not a k) [
  | inl e ↦ rw e (get_or-set_same xs k v 0 lt ∙ sym (here_at f k v))
  | inr n ↦ get_or-set_other xs k a v 0 n ∙ same ∙ sym (other_at f k a v n)
]

pub set_bound : (xs : List ℕ) (k v most : ℕ) → k < length xs → v ≤ most + 1 → (a : ℕ) → slice_index xs a ≤ most → slice_index (slice_set xs k v) a ≤ most + 1
set_bound xs k v most lt le a same = elim (same_or_not a k) [
  | inl e ↦ rw (e, get_or-set_same xs k v 0 lt) le
  | inr n ↦ rw (get_or-set_other xs k a v 0 n) (omega arith)
]

-- an entry changes how far its actor is
pub entry_step : (field : EndedOps → ℕ) (c : Program) (f : ℕ → EndedOps) (e : Entry) (k : ℕ) (ops ps xs : List ℕ) (x : EndedOps) → k ≡ e.actor → k < length xs → slice_index ops k ≡ (f k).operations → slice_index ps k ≡ (f k).pieces
    → x ≡ ended_next (ops_of c e.actor) (record { operations = slice_index ops k; pieces = slice_index ps k }) e.kind
    → (a : ℕ) → slice_index xs a ≡ field (f a) → slice_index (slice_set xs k (field x)) a ≡ field (all_next c f e a)
entry_step field c f e k ops ps xs x at lt o p next a same =
    let was : record { operations = slice_index ops k; pieces = slice_index ps k } ≡ f k = rw (o, p) refl in
    let now : x ≡ ended_next (ops_of c e.actor) (f e.actor) e.kind = next ∙ ap (λ y. ended_next (ops_of c e.actor) y e.kind) (was ∙ ap f at) in
    set_at xs (λ q. field (f q)) k (field x) lt a same ∙ sym (with_at_field field f k x a) ∙ ap (λ y. field (with_at f k y a)) now ∙ ap (λ q. field (with_at f q (ended_next (ops_of c e.actor) (f e.actor) e.kind) a)) at
