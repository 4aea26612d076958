use Rattle.std.proofs.Common.{◌≡◌, ◌∙◌, ap, sym, subst, false}
use Rattle.std.proofs.lemmas.Bool.{lt-ltb}
use Rattle.std.specs.Prelude.{nat_lt}
use Rattle.hm_verdicts.specs.Numbers.{positions_in}
use Rattle.hm_verdicts.specs.Settled.{First, IsBelow, IsOver}
use Rattle.hm_verdicts.proofs.Returned.{is_given}
use Rattle.hm_verdicts.proofs.AreOver.{given_not, first_passed}
use Rattle.hm_verdicts.proofs.Lasting.{below_not}
use Rattle.hm_verdicts.proofs.Settled.{first_weaker}
use Rattle.hm_verdicts.proofs.kept_calls.Calls.fresh.Goals as goal

pub returns : goal.returns
returns c =
    let o = c.bounds.result in
    let m = c.args.mirror in
    let q = c.unwrap_or-seq.result in
    first_passed (IsOver o) (is_given m q) (nat_lt o.seq q) o.count c.args.self.now c.bounds.ensures.passes
    (λ e x s. given_not m q o x e s) c.bounds.ensures.held

pub returns-then-at-seq : goal.returns-then-at-seq
returns-then-at-seq c =
    let s = c.self.inside in
    let f = positions_in s.highest in
    let m = c.args.mirror in
    let q = c.unwrap_or-seq.result in
    let less = ap (λ k. nat_lt k q) (sym c.at.ensures) ∙ lt-ltb c.at.result q c.if-at-seq.true in
    subst (First (λ x. is_given m q x ≡ false) s.learned) c.self.view_is
    (first_weaker (IsBelow f) (λ x. is_given m q x ≡ false) (λ x h. below_not f m q x less h)
    s.learned s.items.items c.self.invariant.3)
