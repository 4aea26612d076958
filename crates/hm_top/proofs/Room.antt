-- A schedule without a `drain` that has few turns finds no full history: each turn adds one entry at most.
use Rattle.std.proofs.Common.{◌≡◌, ℕ, zero, suc, ◌+◌, ◌<◌, ◌≤◌, inl, inr, Bool, true, false, ltb, List, [], ◌∷◌, ◌++◌, length, refl, arith, length-append}
use Rattle.std.specs.Prelude.{not, ◌&&◌, ◌||◌}
use Rattle.std.proofs.lemmas.Bool.Decides.{nat_tests}
use Rattle.hm_base.specs.Program.{Program, IsScript}
use Rattle.hm_base.specs.declared.ops.ScheduleLine.{ScheduleLine}
use Rattle.hm_history.specs.Kernel.Due.{due}
use Rattle.hm_history.specs.Kernel.Overrun.{overruns, overruns_lines, overruns_turn, overruns_turns}
use Rattle.hm_history.specs.Kernel.Run.{added, has_room, is_entry, turn, turns}
use Rattle.hm_history.specs.declared.Entry.{Entry}
use Rattle.hm_history.specs.declared.Progress.{Progress}
use Rattle.hm_quiet_laws.specs.Quiet.{DrainAloneHasRoom}
use Rattle.hm_script.specs.Built.{has_drain}
use Rattle.hm_top.specs.Complete.{HasFewTurns, HasRoom, turn_count}

either_short : (b : Bool) (h : List Entry) (e : Entry) → length {A = Entry} (elim b as (λ z. List Entry) [ true ↦ h ++ e ∷ [] | false ↦ h ]) ≤ length h + 1
either_short true h e = let one : length (h ++ e ∷ []) ≡ length h + 1 = length-append h (e ∷ []) in omega arith
either_short false h e = omega arith

added_short : (h : List Entry) (p : Progress) → length (added h p) ≤ length h + 1
added_short h (Progress.Did e) = either_short (has_room h) h e
added_short h (Progress.Waiting why) = omega arith
added_short h Progress.Idle = omega arith

turns_short : (c : Program) (h : List Entry) (a n : ℕ) → length (turns c h a n) ≤ length h + n
turns_short c h a zero = omega arith
turns_short c h a (suc n) = let one = added_short h (due c h a) in let more = turns_short c (turn c h a) a n in omega arith

none_over : (x y : Bool) → y ≡ true → (x && not y) ≡ false
none_over true true e = refl
none_over false true e = refl
none_over true false e = cc
none_over false false e = refl

turn_fits : (c : Program) (h : List Entry) (a : ℕ) → length h < 2000000 → overruns_turn c h a ≡ false
turn_fits c h a few = let low : ltb (length h) 2000000 ≡ true = grind (arith, nat_tests) in none_over (is_entry (due c h a)) (has_room h) low

neither : (x y : Bool) → x ≡ false → y ≡ false → (x || y) ≡ false
neither true y e f = cc
neither false y e f = f

turns_fit : (c : Program) (h : List Entry) (a n : ℕ) → length h + n ≤ 2000000 → overruns_turns c h a n ≡ false
turns_fit c h a zero few = refl
turns_fit c h a (suc n) few =
    let one = added_short h (due c h a) in
    neither (overruns_turn c h a) (overruns_turns c (turn c h a) a n) (turn_fits c h a (omega arith)) (turns_fit c (turn c h a) a n (omega arith))

lines_fit : (c : Program) (ls : List ScheduleLine) (h : List Entry) → has_drain ls ≡ false → length h + turn_count ls ≤ 2000000 → overruns_lines c h ls ≡ false
lines_fit c [] h none few = refl
lines_fit c (ScheduleLine.Drain ∷ ls) h none few = cc
lines_fit c (ScheduleLine.Run a n ∷ ls) h none few =
    let some = turns_short c h a n in
    neither (overruns_turns c h a n) (overruns_lines c (turns c h a n) ls) (turns_fit c h a n (omega arith)) (lines_fit c ls (turns c h a n) none (omega arith))

pub few_turns_fit : (s : Program) → HasFewTurns s → overruns s ≡ false
few_turns_fit s few = let n = few.few in lines_fit s s.schedule [] few.no_drain (omega arith)

pub room_fits : DrainAloneHasRoom → (s : Program) → IsScript s → HasRoom s → overruns s ≡ false
room_fits alone s script (inl e) = e
room_fits alone s script (inr (inl drains)) = alone s script drains
room_fits alone s script (inr (inr few)) = few_turns_fit s few
