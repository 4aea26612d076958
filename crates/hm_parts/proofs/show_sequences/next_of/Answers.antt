use Rattle.std.proofs.Common.{◌≡◌, ℕ, ◌-◌, ◌+◌, suc, Bool, true, false, Option, Some, sym, ap, ◌∙◌, arith}
use Rattle.hm_folds.specs.Kept.{sequences_of}
use Rattle.hm_history.specs.Memory.Sequences.{sequences_accept}
use Rattle.hm_history.specs.Memory.Words.{least}
use Rattle.hm_history.proofs.Least.{searched_on}
use Rattle.hm_parts.specs.Shown.{telling}
use Rattle.hm_parts.proofs.show_sequences.next_of.Goals as goal

pub loop-number-preserved : goal.loop-number-preserved
loop-number-preserved c =
    let s = sequences_of c.args.sequences.now in
    let test : ℕ → Bool = λ m. sequences_accept s c.args.actor (telling s c.args.proc c.args.span m) in
    let n = c.loop-number.number in
    let no : test n ≡ false = ap test (sym c.new-mirror.ensures) ∙ ap (sequences_accept s c.args.actor) (sym c.telling.ensures) ∙ sym c.accepts.ensures ∙ c.if-accepts.false in
    c.loop-number.invariant ∙ searched_on test n 32 (omega arith) no

pub returns-then-accepts : goal.returns-then-accepts
returns-then-accepts c =
    let s = sequences_of c.args.sequences.now in
    let test : ℕ → Bool = λ m. sequences_accept s c.args.actor (telling s c.args.proc c.args.span m) in
    let n = c.loop-number.number in
    let yes : test n ≡ true = ap test (sym c.new-mirror.ensures) ∙ ap (sequences_accept s c.args.actor) (sym c.telling.ensures) ∙ sym c.accepts.ensures ∙ c.if-accepts.true in
    let more : 32 - n ≡ suc (32 - (n + 1)) = omega arith in
    ap Some c.new-mirror.ensures
    ∙ sym (c.loop-number.invariant ∙ ap (least test n) more ∙ ap (λ (b : Bool). elim b as (λ x. Option ℕ) [ true ↦ Some n | false ↦ least test (n + 1) (32 - (n + 1)) ]) yes)

pub returns : goal.returns
returns c =
    let none : 32 - c.loop-number.number ≡ 0 = omega arith in
    let s = sequences_of c.args.sequences.now in
    let test : ℕ → Bool = λ m. sequences_accept s c.args.actor (telling s c.args.proc c.args.span m) in
    sym (c.loop-number.invariant ∙ ap (least test c.loop-number.number) none)
