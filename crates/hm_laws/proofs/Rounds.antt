-- A round adds an entry where some actor's operation has not ended and there is room. So a `drain` ends with all actors
-- idle, or with a full history.
use Rattle.std.proofs.Common.{◌≡◌, ℕ, zero, suc, ◌+◌, ◌-◌, ◌<◌, ◌≤◌, ◌⊎◌, inl, inr, Bool, true, false, ltb, Option, None, Some, List, [], ◌∷◌, ◌++◌, length, refl, sym, ap, ◌∙◌, subst, arith, length-append}
use Rattle.std.specs.Prelude.{not, ◌&&◌, fold, slice_get, is_some}
use Rattle.std.specs.List.{list_all}
use Rattle.std.proofs.lemmas.Bool.{cases_eq}
use Rattle.std.proofs.lemmas.Bool.Decides.{nat_tests}
use Rattle.std.proofs.lemmas.Option.{slice_get_within}
use Rattle.hm_base.specs.Program.{Program, IsScript}
use Rattle.hm_base.specs.declared.ops.Op.{Op}
use Rattle.hm_history.specs.Memory.After.{After}
use Rattle.hm_history.specs.Kernel.Due.{due, due_top}
use Rattle.hm_history.specs.Kernel.Going.{op_at, state_of}
use Rattle.hm_history.specs.Laws.{DueFrom}
use Rattle.hm_history.specs.Kernel.Run.{enough, has_room, added, is_entry, is_idle, turn, turns_on, actors_of, round, all_idle, drained}
use Rattle.hm_history.specs.Memory.Words.{numbers}
use Rattle.hm_history.specs.declared.Entry.{Entry}
use Rattle.hm_history.specs.declared.Progress.{Progress}
use Rattle.hm_history.specs.declared.phases.Migrating.{Migrating}
use Rattle.hm_history.specs.declared.phases.Phase.{Phase}
use Rattle.hm_history.proofs.Growing.{Grows, grows_more, grows_or_same, grows_on, grows_all}
use Rattle.hm_history.proofs.RunLemmas.{round_from_due}
use Rattle.hm_laws.specs.NeverStuck.{IsUnderWay, NeverStuck}

one_more : (h : List Entry) (e : Entry) → length h < length (h ++ e ∷ [])
one_more h e = let one : length (h ++ e ∷ []) ≡ length h + 1 = length-append h (e ∷ []) in omega arith

longer : (h g k : List Entry) → length h < length g → Grows g k → length h < length k
longer h g k more goes = omega (arith, grows_more g k goes)

-- an actor that has an entry due adds it in its turns
enough_one : enough ≡ suc (enough - 1)
unfolding enough
enough_one = omega arith

turn_adds : (c : Program) (h : List Entry) (a : ℕ) (e : Entry) → due c h a ≡ Progress.Did e → has_room h ≡ true → turn c h a ≡ h ++ e ∷ []
turn_adds c h a e d room = ap (added h) d ∙ ap (λ b. elim b [ true ↦ h ++ e ∷ [] | false ↦ h ]) room

on_adds : (c : Program) (h : List Entry) (a n : ℕ) (e : Entry) → due c h a ≡ Progress.Did e → has_room h ≡ true → length h < length (turns_on c h a (suc n))
on_adds c h a n e d room =
    let rest = turns_on c (turn c h a) a n in
    let same : turns_on c h a (suc n) ≡ rest = ap (λ p. elim (is_entry p && has_room h) [ true ↦ rest | false ↦ h ]) d ∙ ap (λ b. elim b [ true ↦ rest | false ↦ h ]) room in
    let first : length h < length (turn c h a) = subst (λ x. length h < length x) (sym (turn_adds c h a e d room)) (one_more h e) in
    subst (λ x. length h < length x) (sym same) (longer h (turn c h a) rest first (grows_on c (turn c h a) a n))

turns_add : (c : Program) (h : List Entry) (a : ℕ) (e : Entry) → due c h a ≡ Progress.Did e → has_room h ≡ true → length h < length (turns_on c h a enough)
turns_add c h a e d room = subst (λ n. length h < length (turns_on c h a n)) (sym enough_one) (on_adds c h a (enough - 1) e d room)

-- so the actors' turns add an entry where one of them has one due: an actor before it adds one, or it finds the history as
-- it was
all_add : (c : Program) (h : List Entry) (first n b : ℕ) (e : Entry) → first ≤ b → b < first + n → due c h b ≡ Progress.Did e → has_room h ≡ true → length h < length (fold (λ g a. turns_on c g a enough) h (numbers first n))
all_add c h first zero b e low high d room = absurd (omega arith)
all_add c h first (suc n) b e low high d room = by (λ above. all_add c h (first + 1) n b e above (omega arith) d room) (grows_or_same h (turns_on c h first enough) (grows_on c h first enough))
  where
    later : (first + 1 ≤ b → length h < length (fold (λ x a. turns_on c x a enough) h (numbers (first + 1) n))) → turns_on c h first enough ≡ h → (first ≡ b) ⊎ (first ≡ b → ⊥) → length h < length (fold (λ x a. turns_on c x a enough) (turns_on c h first enough) (numbers (first + 1) n))
    later rest same (inl here) =
        let more : length h < length (turns_on c h first enough) = subst (λ a. length h < length (turns_on c h a enough)) (sym here) (turns_add c h b e d room) in
        longer h (turns_on c h first enough) _ more (grows_all c (numbers (first + 1) n) (turns_on c h first enough))
    later rest same (inr other) = subst (λ g. length h < length (fold (λ x a. turns_on c x a enough) g (numbers (first + 1) n))) (sym same) (rest (omega (arith, other)))

    by : (first + 1 ≤ b → length h < length (fold (λ x a. turns_on c x a enough) h (numbers (first + 1) n))) → (turns_on c h first enough ≡ h) ⊎ (length h < length (turns_on c h first enough)) → length h < length (fold (λ x a. turns_on c x a enough) (turns_on c h first enough) (numbers (first + 1) n))
    by rest (inr more) = longer h (turns_on c h first enough) _ more (grows_all c (numbers (first + 1) n) (turns_on c h first enough))
    by rest (inl same) = later rest same (cases_eq first b)

-- an actor with an operation is one of the script's
is_below : (c : Program) (a i : ℕ) → is_some (op_at c a i) ≡ true → a < length c.actors
is_below c a i some = by (slice_get c.actors a) refl some
  where
    by : (x : Option (List Op)) → slice_get c.actors a ≡ x → is_some (slice_get (elim x as (λ y. List Op) [ None ↦ [] | Some os ↦ os ]) i) ≡ true → a < length c.actors
    by None e some = cc
    by (Some os) e some = slice_get_within c.actors a os e

pub below : (c : Program) (h : List Entry) (a : ℕ) → IsUnderWay c h a → a < length c.actors
below c h a some = is_below c a ((state_of c h).going a).index some

-- an actor that is not idle has an operation
has_operation : (c : Program) (s : After) (a : ℕ) (o : Option Op) (xs : List Migrating) (st : List Phase) → is_idle (due_top c s a o xs st) ≡ false → is_some o ≡ true
has_operation c s a None xs st busy = cc
has_operation c s a (Some o) xs st busy = refl

some_busy : (c : Program) (h : List Entry) (as_ : List ℕ) → list_all (λ a. is_idle (due c h a)) as_ ≡ false → (a : ℕ) × (is_idle (due c h a) ≡ false)
some_busy c h [] busy = cc
some_busy c h (a ∷ as_) busy = by (some_busy c h as_) (is_idle (due c h a)) refl busy
  where
    by : (list_all (λ b. is_idle (due c h b)) as_ ≡ false → (b : ℕ) × (is_idle (due c h b) ≡ false)) → (x : Bool) → is_idle (due c h a) ≡ x → (x && list_all (λ b. is_idle (due c h b)) as_) ≡ false → (b : ℕ) × (is_idle (due c h b) ≡ false)
    by more true e busy = more busy
    by more false e busy = (a, e)

round_adds : NeverStuck → (c : Program) → IsScript c → (h : List Entry) → DueFrom c [] h → all_idle c h ≡ false → has_room h ≡ true → length h < length (round c h)
round_adds never_stuck c script h d busy room =
    let x = some_busy c h (actors_of c) busy in
    let under_way : IsUnderWay c h x.0 = has_operation c (state_of c h).after x.0 _ _ _ x.1 in
    let goes = never_stuck c script h d x.0 under_way in
    let high : goes.entry.actor < 0 + length c.actors = let few = below c h goes.entry.actor goes.under_way in omega arith in
    all_add c h 0 (length c.actors) goes.entry.actor goes.entry (omega arith) high goes.is_due room

-- how a `drain` ends
abbrev pub Ends : Program → List Entry → Type 0
Ends c h = (all_idle c h ≡ true) ⊎ (has_room h ≡ false)

-- so many rounds come to the end, or add as many entries
rounds_end : NeverStuck → (c : Program) → IsScript c → (h : List Entry) (n : ℕ) → DueFrom c [] h → Ends c (drained c h n) ⊎ (n + length h ≤ length (drained c h n))
rounds_end never_stuck c script h zero d = inr (omega arith)
rounds_end never_stuck c script h (suc n) d = by (rounds_end never_stuck c script (round c h) n (round_from_due c (actors_of c) h d)) (all_idle c h) (has_room h) refl refl
  where
    next : all_idle c h ≡ false → has_room h ≡ true → Ends c (drained c (round c h) n) ⊎ (n + length (round c h) ≤ length (drained c (round c h) n)) → Ends c (drained c (round c h) n) ⊎ (suc n + length h ≤ length (drained c (round c h) n))
    next busy room (inl ends) = inl ends
    next busy room (inr many) = let more = round_adds never_stuck c script h d busy room in inr (omega arith)

    by : Ends c (drained c (round c h) n) ⊎ (n + length (round c h) ≤ length (drained c (round c h) n)) → (x y : Bool) → all_idle c h ≡ x → has_room h ≡ y → let g = elim (not x && y) as (λ z. List Entry) [ true ↦ drained c (round c h) n | false ↦ h ] in Ends c g ⊎ (suc n + length h ≤ length g)
    by rest true y idle room = inl (inl idle)
    by rest false false busy full = inl (inr full)
    by rest false true busy room = next busy room rest

no_room : (h : List Entry) (n : ℕ) → enough + n ≤ length h → has_room h ≡ false
unfolding enough
no_room h n many = let high : ltb (length h) 2000000 ≡ false = grind (arith, nat_tests) in high

pub drains_end : NeverStuck → (c : Program) → IsScript c → (h : List Entry) → DueFrom c [] h → Ends c (drained c h enough)
drains_end never_stuck c script h d = by (rounds_end never_stuck c script h enough d)
  where
    by : Ends c (drained c h enough) ⊎ (enough + length h ≤ length (drained c h enough)) → Ends c (drained c h enough)
    by (inl ends) = ends
    by (inr many) = inr (no_room (drained c h enough) (length h) many)
