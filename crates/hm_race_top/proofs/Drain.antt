-- After a `drain` no turn adds an entry.
use Rattle.std.proofs.Common.{◌≡◌, ℕ, zero, suc, ◌+◌, ◌<◌, ◌≤◌, ◌⊎◌, inl, inr, Bool, true, false, Option, None, Some, List, [], ◌∷◌, ◌++◌, length, refl, ap, ◌∙◌, subst, fold, arith}
use Rattle.std.specs.Prelude.{is_some}
use Rattle.std.specs.List.{list_all}
use Rattle.std.proofs.lemmas.Bool.{and_parts, cases_eq}
use Rattle.hm_base.specs.Program.{Program, IsScript, schedule_fits}
use Rattle.hm_base.specs.declared.ops.Op.{Op}
use Rattle.hm_base.specs.declared.ops.ScheduleLine.{ScheduleLine}
use Rattle.hm_history.specs.Memory.After.{After}
use Rattle.hm_history.specs.Kernel.Due.{due, due_top}
use Rattle.hm_history.specs.Kernel.Going.{state_of}
use Rattle.hm_history.specs.Laws.{DueFrom}
use Rattle.hm_history.specs.Kernel.Run.{added, turn, is_idle, line_run, run}
use Rattle.hm_history.specs.Memory.Words.{numbers}
use Rattle.hm_history.specs.declared.Entry.{Entry}
use Rattle.hm_history.specs.declared.Progress.{Progress}
use Rattle.hm_history.specs.declared.phases.Migrating.{Migrating}
use Rattle.hm_history.specs.declared.phases.Phase.{Phase}
use Rattle.hm_history.proofs.RunLemmas.{line_due}
use Rattle.hm_laws.specs.NeverStuck.{NeverStuck}
use Rattle.hm_race_laws.specs.Outcomes.{raced}
use Rattle.hm_script.specs.Built.{has_drain}
use Rattle.hm_laws.proofs.Rounds.{Ends, below, drains_end}
use Rattle.hm_race_top.specs.Laws.{DrainIsLast}

-- where no actor has anything to do, none of these has
idle_at : (c : Program) (h : List Entry) (first n a : ℕ) → list_all (λ b. is_idle (due c h b)) (numbers first n) ≡ true → first ≤ a → a < first + n → is_idle (due c h a) ≡ true
idle_at c h first zero a idle low high = absurd (omega arith)
idle_at c h first (suc n) a idle low high = by (λ above. idle_at c h (first + 1) n a (and_parts _ _ idle).1 above (omega arith)) (cases_eq first a)
  where
    by : (first + 1 ≤ a → is_idle (due c h a) ≡ true) → (first ≡ a) ⊎ (first ≡ a → ⊥) → is_idle (due c h a) ≡ true
    by rest (inl here) = subst (λ b. is_idle (due c h b) ≡ true) here (and_parts _ _ idle).0
    by rest (inr other) = rest (omega (arith, other))

-- an actor to which an entry is due has an operation
some_op : (c : Program) (s : After) (a : ℕ) (o : Option Op) (xs : List Migrating) (st : List Phase) (e : Entry) → due_top c s a o xs st ≡ Progress.Did e → is_some o ≡ true
some_op c s a None xs st e d = cc
some_op c s a (Some o) xs st e d = refl

turn_stays : (c : Program) (h : List Entry) (a : ℕ) → Ends c h → turn c h a ≡ h
turn_stays c h a (inl idle) = by (due c h a) refl
  where
    never : (e : Entry) → due c h a ≡ Progress.Did e → ⊥
    never e d =
        let few = below c h a (some_op c (state_of c h).after a _ _ _ e d) in
        let none : is_idle (due c h a) ≡ true = idle_at c h 0 (length c.actors) a idle (omega arith) (omega (arith, few)) in
        let some : is_idle (due c h a) ≡ false = ap is_idle d in
        cc

    by : (p : Progress) → due c h a ≡ p → added h p ≡ h
    by (Progress.Did e) d = absurd (never e d)
    by (Progress.Waiting why) d = refl
    by Progress.Idle d = refl
turn_stays c h a (inr full) = by (due c h a)
  where
    by : (p : Progress) → added h p ≡ h
    by (Progress.Did e) = ap (λ (b : Bool). elim b as (λ _. List Entry) [ true ↦ h ++ e ∷ [] | false ↦ h ]) full
    by (Progress.Waiting why) = refl
    by Progress.Idle = refl

all_stay : (c : Program) (h : List Entry) (turns : List ℕ) → Ends c h → raced c h turns ≡ h
all_stay c h [] ends = refl
all_stay c h (a ∷ turns) ends = ap (λ (g : List Entry). raced c g turns) (turn_stays c h a ends) ∙ all_stay c h turns ends

lines_end : NeverStuck → (c : Program) → IsScript c → (ls : List ScheduleLine) (h : List Entry) → DueFrom c [] h → schedule_fits (length c.actors) ls ≡ true → has_drain ls ≡ true → Ends c (fold (line_run c) h ls)
lines_end never_stuck c script [] h d fits has = cc
lines_end never_stuck c script (ScheduleLine.Drain ∷ []) h d fits has = drains_end never_stuck c script h d
lines_end never_stuck c script (ScheduleLine.Drain ∷ (l ∷ ls)) h d fits has = cc
lines_end never_stuck c script (ScheduleLine.Run b n ∷ ls) h d fits has =
    let l = ScheduleLine.Run b n in
    lines_end never_stuck c script ls (line_run c h l) (line_due c h l d) (and_parts _ _ (and_parts _ _ fits).1).1 has

pub drain_is_last : NeverStuck → DrainIsLast
drain_is_last never_stuck c script has turns = all_stay c (run c) turns (lines_end never_stuck c script c.schedule [] tt script.schedule has)
