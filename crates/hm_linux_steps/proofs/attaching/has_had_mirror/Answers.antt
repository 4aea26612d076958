use Rattle.std.proofs.Common.{◌≡◌, ℕ, Bool, true, Option, ◌==◌, sym, ap, ◌∙◌, arith}
use Rattle.std.specs.Prelude.{is_some}
use Rattle.hm_history.specs.Memory.Plain.{mirror_passes}
use Rattle.hm_spaces.proofs.Least.{least_found, least_none}
use Rattle.hm_linux_steps.proofs.Mirrors.{was_of_read}
use Rattle.hm_linux_steps.proofs.attaching.has_had_mirror.Goals as goal

pub returns-then-was_of : goal.returns-then-was_of
returns-then-was_of g c =
    let t : ℕ → Bool = λ m. mirror_passes (λ x. x.proc == c.args.proc) ((g.W.Reads.state c.args.found.now).after.plain.mirrors m) in
    let here : t c.loop-number.number ≡ true = ap t (sym c.new.ensures) ∙ (was_of_read (g.W.Reads.state c.args.found.now).after.plain c.args.proc c.new.result ∙ (sym c.was_of.ensures ∙ c.if-was_of.true)) in
    ap (λ (x : Option ℕ). is_some x) (least_found t 32 c.loop-number.number (omega arith) c.loop-number.invariant here)

pub returns : goal.returns
returns g c = ap (λ (x : Option ℕ). is_some x) (least_none (λ m. mirror_passes (λ x. x.proc == c.args.proc) ((g.W.Reads.state c.args.found.now).after.plain.mirrors m)) 32 (λ k l. c.loop-number.invariant k (omega arith)))
