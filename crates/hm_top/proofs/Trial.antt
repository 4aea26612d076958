-- The schedule of a trial has few turns, so its history is never full.
use Rattle.std.proofs.Common.{◌≡◌, ℕ, zero, suc, ◌*◌, ◌≤◌, false, refl, arith}
use Rattle.hm_history.specs.Kernel.Overrun.{overruns}
use Rattle.hm_script.specs.Built.{has_drain}
use Rattle.hm_script.specs.Generator.{drawn_on, drawn_list, drawn_line, drawn_op, drawn_actor, generated}
use Rattle.hm_script.proofs.Drawing.{draw_below}
use Rattle.hm_top.specs.Complete.{HasFewTurns, turn_count}
use Rattle.hm_top.proofs.Room.{few_turns_fit}

no_drain : (x n : ℕ) → has_drain (drawn_list drawn_line x n).value ≡ false
unfolding drawn_list
no_drain x zero = refl
no_drain x (suc n) = no_drain (drawn_on (drawn_on x)) n

few : (x n : ℕ) → turn_count (drawn_list drawn_line x n).value ≤ 16 * n
unfolding drawn_list
few x zero = omega arith
few x (suc n) = let one = draw_below (drawn_on x) 16 (omega arith) in let more = few (drawn_on (drawn_on x)) n in omega arith

few_turns : (x : ℕ) → HasFewTurns (generated x)
unfolding generated
few_turns x =
    let others = drawn_list drawn_actor (drawn_list drawn_op x 491).rest 7 in
    let n = few others.rest 20000 in
    record { no_drain = no_drain others.rest 20000; few = omega arith }

pub trial_fits : (x : ℕ) → overruns (generated x) ≡ false
trial_fits x = few_turns_fit (generated x) (few_turns x)
