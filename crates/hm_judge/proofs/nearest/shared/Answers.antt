use Rattle.std.proofs.Common.{◌≡◌, ℕ, suc, ◌+◌, ◌<◌, ◌≤◌, ◌⊎◌, length, drop, sym, ap, ◌∙◌, arith, inl, inr}
use Rattle.std.proofs.lemmas.Bool.{cases_lt}
use Rattle.hm_judge.specs.Nearest.{shared}
use Rattle.hm_judge.proofs.Near.{shared_end, shared_more, shared_not}
use Rattle.hm_judge.proofs.nearest.shared.Goals as goal

pub returns-then-one-at : goal.returns-then-one-at
returns-then-one-at c =
    let i = c.loop-at.at in
    let none : shared (drop i c.args.one.now) (drop i c.args.other.now) ≡ 0 = shared_not i c.args.one.now c.args.other.now 0 0 (omega arith) (omega arith) c.if-one-at.true in
    omega (arith, c.loop-at.invariant, none)

pub loop-at-preserved : goal.loop-at-preserved
loop-at-preserved c =
    let i = c.loop-at.at in
    let more : shared (drop i c.args.one.now) (drop i c.args.other.now) ≡ suc (shared (drop (suc i) c.args.one.now) (drop (suc i) c.args.other.now)) = shared_more i c.args.one.now c.args.other.now 0 0 (omega arith) (omega arith) c.if-one-at.false in
    let on : suc i ≡ i + 1 = omega arith in
    c.loop-at.invariant ∙ ap (λ (n : ℕ). i + n) more ∙ next i _ ∙ ap (λ (k : ℕ). i + 1 + shared (drop k c.args.one.now) (drop k c.args.other.now)) on
  where
    next : (i n : ℕ) → i + suc n ≡ i + 1 + n
    next i n = omega arith

pub returns : goal.returns
returns c =
    let i = c.loop-at.at in
    let past : (i < length c.args.one.now) ⊎ (length c.args.one.now ≤ i) → (length c.args.one.now ≤ i) ⊎ (length c.args.other.now ≤ i) = λ o. elim o [ inl lt ↦ inr (omega (arith, lt)) | inr le ↦ inl le ] in
    let none : shared (drop i c.args.one.now) (drop i c.args.other.now) ≡ 0 = shared_end i c.args.one.now c.args.other.now (past (cases_lt i (length c.args.one.now))) in
    omega (arith, c.loop-at.invariant, none)
