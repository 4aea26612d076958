-- Nothing is found after any turns of the right driver.
use Rattle.std.proofs.Common.{◌≡◌, ℕ, zero, suc, ◌+◌, ◌<◌, ◌≤◌, ◌⊎◌, inl, inr, Bool, true, false, not, ◌&&◌, ◌||◌, Option, Some, None, List, [], ◌∷◌, ◌++◌, length, refl, sym, ap, ◌∙◌, subst, fold, append_assoc, append-nil, arith}
use Rattle.std.specs.Prelude.{is_none, is_some}
use Rattle.std.specs.List.{list_all}
use Rattle.std.proofs.lemmas.Bool.{and_parts, cases_eq, false≢true}
use Rattle.std.proofs.lemmas.Option.{none-some}
use Rattle.hm_base.specs.Program.{Program, IsScript}
use Rattle.hm_base.specs.declared.ops.Op.{Op}
use Rattle.hm_history.specs.Memory.Words.{numbers}
use Rattle.hm_history.specs.Kernel.Going.{State, op_at, state_next, state_of, state_of-snoc}
use Rattle.hm_history.specs.Kernel.Due.{due_in}
use Rattle.hm_history.specs.Kernel.Run.{actors_of, is_entry}
use Rattle.hm_history.specs.Laws.{DueFrom}
use Rattle.hm_history.specs.declared.Entry.{Entry}
use Rattle.hm_history.specs.declared.Progress.{Progress}
use Rattle.hm_history.proofs.RunLemmas.{DueFrom-join}
use Rattle.hm_laws.specs.NeverStuck.{IsUnderWay, NeverStuck}
use Rattle.hm_laws.proofs.Rounds.{below}
use Rattle.hm_race_laws.specs.Outcomes.{ended_in}
use Rattle.hm_flaws.specs.declared.flaws.Flaw.{Flaw}
use Rattle.hm_flaws.specs.declared.parts.Part.{Part}
use Rattle.hm_flaws.specs.Flawed.{Flawed, flawed_from, flawed_next, flawed_after, due_by}
use Rattle.hm_flaws.specs.Judged.{UnbrokenBy, judged}
use Rattle.hm_flaws.specs.Laws.{RightBreaksNone}
use Rattle.hm_flaws.specs.Races.{is_stuck}
use Rattle.hm_flaw_parts.specs.Races.Races.{is_found}
use Rattle.hm_flaw_parts.specs.Races.Judging.{point_after}
use Rattle.hm_flaw_parts.specs.Races.Laws.{BrokenTurnsBreak, RightTurnsBreakNone, RightTurnsFindNone, StuckTurnsStick}

pub right_turns_break_none : BrokenTurnsBreak → RightBreaksNone → RightTurnsBreakNone
right_turns_break_none turned right parts c sc h d turns = by (point_after parts Flaw.NoFlaw c h turns).broken refl
  where
    by : (o : Option Part) → (point_after parts Flaw.NoFlaw c h turns).broken ≡ o → (point_after parts Flaw.NoFlaw c h turns).broken ≡ None
    by None b = b
    by (Some part) b =
        let t = turned parts Flaw.NoFlaw c h turns part b in
        absurd (none-some part (sym (right parts c sc h d (judged parts Flaw.NoFlaw c h turns).entries t.breaks.unbroken t.entry t.breaks.is_due) ∙ t.breaks.broken))

-- ---- somebody goes on

-- what the right driver did after a set-up was due
due_on : (parts : List Part) (c : Program) (h es : List Entry) (t : Flawed) → t.state ≡ state_of c h → UnbrokenBy parts Flaw.NoFlaw c h t es → DueFrom c h es
due_on parts c h [] t s u = tt
due_on parts c h (e ∷ es) t s u = (subst (λ (x : State). due_in c x e.actor ≡ Progress.Did e) s u.0, due_on parts c (h ++ e ∷ []) es (flawed_next Flaw.NoFlaw c t e) (ap (λ (x : State). state_next c x e) s ∙ sym (state_of-snoc c h e)) u.2)

-- its state is that of all entries
state_on : (c : Program) (h es : List Entry) (t : Flawed) → t.state ≡ state_of c h → (fold (flawed_next Flaw.NoFlaw c) t es).state ≡ state_of c (h ++ es)
state_on c h [] t s = s ∙ ap (state_of c) (sym (append-nil h))
state_on c h (e ∷ es) t s = state_on c (h ++ e ∷ []) es (flawed_next Flaw.NoFlaw c t e) (ap (λ (x : State). state_next c x e) s ∙ sym (state_of-snoc c h e)) ∙ ap (state_of c) (append_assoc h (e ∷ []) es)

-- a number of those that all pass
passes_at : (p : ℕ → Bool) (first n a : ℕ) → list_all p (numbers first n) ≡ true → first ≤ a → a < first + n → p a ≡ true
passes_at p first zero a all low high = absurd (omega (arith, low, high))
passes_at p first (suc n) a all low high = by (λ other. passes_at p (first + 1) n a (and_parts (p first) (list_all p (numbers (first + 1) n)) all).1 (omega (arith, low, other)) (omega (arith, high))) (cases_eq first a)
  where
    by : ((first ≡ a → ⊥) → p a ≡ true) → (first ≡ a) ⊎ (first ≡ a → ⊥) → p a ≡ true
    by rest (inl here) = subst (λ b. p b ≡ true) here (and_parts (p first) (list_all p (numbers (first + 1) n)) all).0
    by rest (inr other) = rest other

-- one of those that do not all pass
some_fails : (p : ℕ → Bool) (xs : List ℕ) → not (list_all p xs) ≡ true → (a : ℕ) × (p a ≡ false)
some_fails p [] f = absurd (false≢true f)
some_fails p (x ∷ xs) f = by (some_fails p xs) (p x) refl f
  where
    by : (not (list_all p xs) ≡ true → (a : ℕ) × (p a ≡ false)) → (b : Bool) → p x ≡ b → not (b && list_all p xs) ≡ true → (a : ℕ) × (p a ≡ false)
    by more true e k = more k
    by more false e k = (x, e)

some_of : (o : Option Op) → is_none o ≡ false → is_some o ≡ true
some_of None k = absurd (false≢true (sym k))
some_of (Some o) k = refl

right_moves : NeverStuck → (c : Program) → IsScript c → (g : List Entry) → DueFrom c [] g → (t : Flawed) → t.state ≡ state_of c g → is_stuck Flaw.NoFlaw c t ≡ true → ⊥
right_moves law c sc g d t s stuck =
    let both = and_parts (list_all (λ a. not (is_entry (due_by Flaw.NoFlaw c t a))) (actors_of c)) (not (ended_in c t.state)) stuck in
    let x = some_fails (λ a. is_none (op_at c a (t.state.going a).index)) (actors_of c) both.1 in
    let way : IsUnderWay c g x.0 = subst (λ (u : State). is_some (op_at c x.0 (u.going x.0).index) ≡ true) s (some_of (op_at c x.0 (t.state.going x.0).index) x.1) in
    let goes = law c sc g d x.0 way in
    let quiet : not (is_entry (due_by Flaw.NoFlaw c t goes.entry.actor)) ≡ true =
    passes_at (λ a. not (is_entry (due_by Flaw.NoFlaw c t a))) 0 (length c.actors) goes.entry.actor both.0 (omega arith) (omega (arith, below c g goes.entry.actor goes.under_way)) in
    let due : due_by Flaw.NoFlaw c t goes.entry.actor ≡ Progress.Did goes.entry =
    subst (λ (u : State). due_in c u goes.entry.actor ≡ Progress.Did goes.entry) (sym s) goes.is_due in
    false≢true (sym (ap (λ (p : Progress). not (is_entry p)) due) ∙ quiet)

pub right_turns_find_none : RightTurnsBreakNone → StuckTurnsStick → NeverStuck → RightTurnsFindNone
right_turns_find_none unbroken sticks law parts c sc h d turns = by (is_stuck Flaw.NoFlaw c (point_after parts Flaw.NoFlaw c h turns).flawed) refl
  where
    none : (point_after parts Flaw.NoFlaw c h turns).broken ≡ None
    none = unbroken parts c sc h d turns

    never : is_stuck Flaw.NoFlaw c (point_after parts Flaw.NoFlaw c h turns).flawed ≡ true → ⊥
    never stuck =
        let z = sticks parts Flaw.NoFlaw c h turns none stuck in
        let from : Flawed = flawed_from (state_of c h) in
        let es : List Entry = (judged parts Flaw.NoFlaw c h turns).entries in
        right_moves law c sc (h ++ es) (DueFrom-join c [] h es d (due_on parts c h es from refl z.sticks.unbroken)) (flawed_after Flaw.NoFlaw c h es) (state_on c h es from refl) z.sticks.stuck

    by : (b : Bool) → is_stuck Flaw.NoFlaw c (point_after parts Flaw.NoFlaw c h turns).flawed ≡ b → is_found Flaw.NoFlaw c (point_after parts Flaw.NoFlaw c h turns) ≡ false
    by true stuck = absurd (never stuck)
    by false moves = ap (λ (o : Option Part). is_some o || is_stuck Flaw.NoFlaw c (point_after parts Flaw.NoFlaw c h turns).flawed) none ∙ moves
