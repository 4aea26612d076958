-- Where a schedule has a `drain` and goes nowhere beyond a full history, every actor is done after its run.
use Rattle.std.proofs.Common.{◌≡◌, ℕ, zero, suc, ◌+◌, ◌<◌, ◌≤◌, ◌⊎◌, inl, inr, Bool, true, false, Option, None, Some, List, [], ◌∷◌, length, refl, sym, ap, ◌∙◌, subst, arith}
use Rattle.std.specs.Prelude.{not, ◌&&◌, ◌||◌, fold, is_some}
use Rattle.std.specs.List.{list_all}
use Rattle.std.proofs.lemmas.Bool.{and_parts, cases_eq, or_parts}
use Rattle.hm_base.specs.Program.{Program, IsScript, schedule_fits}
use Rattle.hm_base.specs.declared.ops.Op.{Op}
use Rattle.hm_base.specs.declared.ops.ScheduleLine.{ScheduleLine}
use Rattle.hm_history.specs.Kernel.Due.{due, due_top}
use Rattle.hm_history.specs.Kernel.Going.{op_at, state_of}
use Rattle.hm_history.specs.Laws.{DueFrom}
use Rattle.hm_history.specs.Kernel.Run.{enough, has_room, is_entry, is_idle, actors_of, drained, line_run, run}
use Rattle.hm_history.specs.Memory.Words.{numbers}
use Rattle.hm_history.specs.declared.Entry.{Entry}
use Rattle.hm_history.proofs.RunLemmas.{line_due, idle_quiet}
use Rattle.hm_laws.specs.NeverStuck.{NeverStuck}
use Rattle.hm_history.specs.Kernel.Overrun.{overruns_turn, some_overruns, overruns_line, overruns_lines, overruns}
use Rattle.hm_script.specs.Built.{has_drain}
use Rattle.hm_top.specs.Drained.{IsDone, IsDrained}
use Rattle.hm_laws.proofs.Rounds.{Ends, below, drains_end}

-- no actor has an entry due
abbrev pub NoneDue : Program → List Entry → Type 0
NoneDue c h = (a : ℕ) → a < length c.actors → is_entry (due c h a) ≡ false

none_by_idle : (c : Program) (h : List Entry) (first n a : ℕ) → list_all (λ b. is_idle (due c h b)) (numbers first n) ≡ true → first ≤ a → a < first + n → is_entry (due c h a) ≡ false
none_by_idle c h first zero a idle low high = absurd (omega arith)
none_by_idle c h first (suc n) a idle low high = by (λ above. none_by_idle c h (first + 1) n a (and_parts _ _ idle).1 above (omega arith)) (cases_eq first a)
  where
    by : (first + 1 ≤ a → is_entry (due c h a) ≡ false) → (first ≡ a) ⊎ (first ≡ a → ⊥) → is_entry (due c h a) ≡ false
    by rest (inl here) = subst (λ b. is_entry (due c h b) ≡ false) here (idle_quiet (due c h first) (and_parts _ _ idle).0)
    by rest (inr other) = rest (omega (arith, other))

quiet_full : (x y : Bool) → y ≡ false → (x && not y) ≡ false → x ≡ false
quiet_full false y full e = refl
quiet_full true true full e = cc
quiet_full true false full e = cc

none_by_full : (c : Program) (h : List Entry) (first n a : ℕ) → has_room h ≡ false → some_overruns c h (numbers first n) ≡ false → first ≤ a → a < first + n → is_entry (due c h a) ≡ false
none_by_full c h first zero a full within low high = absurd (omega arith)
none_by_full c h first (suc n) a full within low high =
    let parts = or_parts (overruns_turn c h first) (some_overruns c h (numbers (first + 1) n)) within in
    by parts.0 (λ above. none_by_full c h (first + 1) n a full parts.1 above (omega arith)) (cases_eq first a)
  where
    by : overruns_turn c h first ≡ false → (first + 1 ≤ a → is_entry (due c h a) ≡ false) → (first ≡ a) ⊎ (first ≡ a → ⊥) → is_entry (due c h a) ≡ false
    by now rest (inl here) = subst (λ b. is_entry (due c h b) ≡ false) here (quiet_full (is_entry (due c h first)) (has_room h) full now)
    by now rest (inr other) = rest (omega (arith, other))

none_due : (c : Program) (h : List Entry) → Ends c h → some_overruns c h (actors_of c) ≡ false → NoneDue c h
none_due c h (inl idle) within = λ a few. none_by_idle c h 0 (length c.actors) a idle (omega arith) (omega arith)
none_due c h (inr full) within = λ a few. none_by_full c h 0 (length c.actors) a full within (omega arith) (omega arith)

-- then none has an operation left, since some actor would go on
pub all_done : NeverStuck → (c : Program) → IsScript c → (h : List Entry) → DueFrom c [] h → NoneDue c h → (a : ℕ) → IsDone c h a
all_done never_stuck c script h d none a = by (op_at c a ((state_of c h).going a).index) refl
  where
    by : (x : Option Op) → op_at c a ((state_of c h).going a).index ≡ x → IsDone c h a
    by None e = (e, ap (λ y. due_top c (state_of c h).after a y ((state_of c h).going a).pages ((state_of c h).going a).stack) e)
    by (Some o) e =
        let goes = never_stuck c script h d a (ap is_some e) in
        let quiet : is_entry (due c h goes.entry.actor) ≡ false = none goes.entry.actor (below c h goes.entry.actor goes.under_way) in
        let never : true ≡ false = sym (ap is_entry goes.is_due) ∙ quiet in cc

lines_end : NeverStuck → (c : Program) → IsScript c → (ls : List ScheduleLine) (h : List Entry) → DueFrom c [] h → schedule_fits (length c.actors) ls ≡ true → has_drain ls ≡ true → overruns_lines c h ls ≡ false → (a : ℕ) → IsDone c (fold (line_run c) h ls) a
lines_end never_stuck c script [] h d fits has within = cc
lines_end never_stuck c script (ScheduleLine.Drain ∷ []) h d fits has within =
    let k = drained c h enough in
    let parts = or_parts (some_overruns c k (actors_of c)) false within in
    all_done never_stuck c script k (line_due c h ScheduleLine.Drain d) (none_due c k (drains_end never_stuck c script h d) parts.0)
lines_end never_stuck c script (ScheduleLine.Drain ∷ (l ∷ ls)) h d fits has within = cc
lines_end never_stuck c script (ScheduleLine.Run b n ∷ ls) h d fits has within =
    let l = ScheduleLine.Run b n in
    let later = (and_parts _ _ (and_parts _ _ fits).1).1 in
    lines_end never_stuck c script ls (line_run c h l) (line_due c h l d) later has (or_parts (overruns_line c h l) (overruns_lines c (line_run c h l) ls) within).1

pub run_drained : NeverStuck → (c : Program) → IsScript c → overruns c ≡ false → (h : List Entry) → h ≡ run c → IsDrained c h
run_drained never_stuck c script within h e = λ has. subst (λ g. (a : ℕ) → IsDone c g a) (sym e) (lines_end never_stuck c script c.schedule [] tt script.schedule has within)
