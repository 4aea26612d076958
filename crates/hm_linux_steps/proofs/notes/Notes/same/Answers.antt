use Rattle.std.proofs.Common.{arith, sym, ◌∙◌}
use Rattle.hm_linux_steps.specs.Notes.{noted_in}
use Rattle.hm_linux_steps.proofs.Sames.{same_here, all_same}
use Rattle.hm_linux_steps.proofs.notes.Notes.same.Goals as goal

pub returns-then-not-same_at-clause-no : goal.returns-then-not-same_at-clause-no
returns-then-not-same_at-clause-no c = λ e. sym c.if-not-same_at.true ∙ c.same_at.ensures.no (same_here (noted_in c.args.self.now) (noted_in c.args.other.now) c.new.result e)

pub returns-clause-yes : goal.returns-clause-yes
returns-clause-yes c =
    let one = c.none_past.ensures in
    let other = c.none_past-2.ensures in
    λ e. all_same (noted_in c.args.self.now) (noted_in c.args.other.now)
    (λ a l. record { references = one.references a l; locks = one.locks a l; busy = one.busy a l; torn = one.torn a l })
    (λ a l. record { references = other.references a l; locks = other.locks a l; busy = other.busy a l; torn = other.torn a l })
    (λ a l. c.loop-at.invariant a (omega (arith, l, c.loop-at-test.false)))
