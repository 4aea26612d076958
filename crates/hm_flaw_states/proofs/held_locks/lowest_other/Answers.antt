use Rattle.std.proofs.Common.{◌≡◌, ℕ, Bool, true, Option, Some, ◌==◌, not, sym, ap, ◌∙◌, arith}
use Rattle.std.proofs.lemmas.Grind.{elements}
use Rattle.std.proofs.lemmas.Bool.Decides.{nat_tests}
use Rattle.hm_history.specs.Memory.Locks.{lock_passes}
use Rattle.hm_history.specs.declared.locks.MapLock.{MapLock}
use Rattle.hm_flaws.specs.Flawed.{locks_held}
use Rattle.hm_spaces.proofs.Least.{least_found, least_none}
use Rattle.hm_flaw_states.specs.Found.{is_other}
use Rattle.hm_flaw_states.proofs.held_locks.lowest_other.Goals as goal

pub returns-then-is_on : goal.returns-then-is_on
returns-then-is_on g c =
    let held : ℕ → Option MapLock = locks_held c.args.flaw (g.W.Reads.program c.args.world.now) (g.W.Reads.state c.args.world.now) in
    let test : MapLock → Bool = λ x. x.proc == c.args.proc in
    let on : lock_passes test (held c.loop-at.at) ≡ true = ap (λ (a : ℕ). lock_passes test (held a)) (sym c.new-actor.ensures) ∙ (ap (lock_passes test) (sym c.held_by.ensures) ∙ (sym c.is_on.ensures ∙ c.if-is_on.true)) in
    let other : not (c.loop-at.at == c.args.other) ≡ true = grind (arith, nat_tests, elements) in
    ap (λ (a : ℕ). Some a) c.new-actor.ensures
    ∙ least_found (is_other held c.args.proc c.args.other) 16 c.loop-at.at (omega arith) c.loop-at.invariant (rw other on)

pub returns : goal.returns
returns g c = least_none (is_other (locks_held c.args.flaw (g.W.Reads.program c.args.world.now) (g.W.Reads.state c.args.world.now)) c.args.proc c.args.other) 16 (λ k l. c.loop-at.invariant k (omega arith))
