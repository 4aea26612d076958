use Rattle.std.proofs.Common.{◌≡◌, inl, inr, Some, ap, arith}
use Rattle.hm_check.proofs.Naming.{names}
use Rattle.hm_check.proofs.actor.actor_at.Goals as goal
use Rattle.hm_check.proofs.actor.actor_at.Goals.{else-first-eq49-via-then-first-eq49+then-second-ge48+else-second-le53, else-first-eq49-via-then-first-eq49+else-second-ge48, else-first-eq49-via-else-first-eq49, else-first-ge48-via-then-first-ge48+else-first-le57, else-first-ge48-via-else-first-ge48}

pub returns-then-digits-lt2 : goal.returns-then-digits-lt2
returns-then-digits-lt2 c = λ a b more few late e. absurd (let n = names a b more c.args.digits.now few late e in omega (arith, n.long))

pub returns-then-second-le53 : goal.returns-then-second-le53
returns-then-second-le53 c = λ a b more few late e.
    let n = names a b more c.args.digits.now few late e in
    let is : c.new.result ≡ a = elim n.digits_are [ inl x ↦ absurd (omega (arith, x.2)) | inr x ↦ omega (arith, x.2) ] in
    ap Some is

pub returns-then-first-le57 : goal.returns-then-first-le57
returns-then-first-le57 c = λ a b more few late e.
    let n = names a b more c.args.digits.now few late e in
    let is : c.new-then-first-le57.result ≡ a = elim n.digits_are [
      | inl x ↦ omega (arith, x.1)
      | inr x ↦ absurd (elim c.else-first-eq49.branch [
        | else-first-eq49-via-then-first-eq49+then-second-ge48+else-second-le53 w ↦ omega (arith, x.2)
        | else-first-eq49-via-then-first-eq49+else-second-ge48 w ↦ omega (arith, x.0, x.2)
        | else-first-eq49-via-else-first-eq49 w ↦ w.if-first-eq49.false x.1
      ])
    ] in
    ap Some is

pub returns : goal.returns
returns c = λ a b more few late e.
    let n = names a b more c.args.digits.now few late e in
    absurd (elim n.digits_are [
      | inl x ↦ elim c.else-first-ge48.branch [
        | else-first-ge48-via-then-first-ge48+else-first-le57 w ↦ omega (arith, x.0, x.1)
        | else-first-ge48-via-else-first-ge48 w ↦ omega (arith, x.1)
      ]
      | inr x ↦ elim c.else-first-ge48.branch [
        | else-first-ge48-via-then-first-ge48+else-first-le57 w ↦ omega (arith, x.1)
        | else-first-ge48-via-else-first-ge48 w ↦ omega (arith, x.1)
      ]
    ])
