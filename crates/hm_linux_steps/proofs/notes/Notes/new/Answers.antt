use Rattle.std.proofs.Common.{ℕ, List, [], ◌≡◌, map, replicate, ap, ◌∙◌, arith}
use Rattle.hm_base.specs.declared.Frame.{Frame}
use Rattle.hm_linux_steps.proofs.NoneNoted.{none_noted}
use Rattle.hm_linux_steps.proofs.notes.Notes.new.Goals as goal

pub returns : goal.returns
returns c =
    let all : c.loop-at._at ≡ 16 = omega (arith, c.loop-at.auto._at-end, c.loop-at-test.false) in
    let none : List Frame = [] in
    none_noted (map (λ v. v.items) c.loop-at.references.items) (c.loop-at.invariant ∙ ap (λ (n : ℕ). replicate n none) all)
