use Rattle.std.proofs.Common.{◌≡◌, ℕ, ◌+◌, List, [], ◌∷◌, ◌++◌, Vec, Global, map, sym, ap, ◌∙◌, arith}
use Rattle.std.proofs.lemmas.List.{map-append}
use Rattle.std.specs.Prelude.{slice_index_or}
use Rattle.hm_base.specs.declared.area.Area.{Area}
use Rattle.hm_history.specs.Memory.Words.{numbers}
use Rattle.hm_linux.specs.UnmapLetsIn.{areas_left}
use Rattle.hm_linux_steps.proofs.Left.{number_read, numbered_next}
use Rattle.hm_linux_steps.proofs.areas.lists_left.Goals as goal

add_zero : (p : ℕ) → 0 + p ≡ p
add_zero p = omega arith

pub loop-at-preserved : goal.loop-at-preserved
loop-at-preserved g c =
    let f : ℕ → List Area = areas_left (g.W.Reads.program c.args.world.now) (g.W.Reads.state c.args.world.now) in
    let items : Vec Area Global → List Area = λ v. v.items in
    let old = c.loop-at.lists.items in
    let x = c.in_ok-areas_left.field-0 in
    let new : x.items ≡ f c.loop-at.at = c.in_ok-areas_left.ensures ∙ ap f c.new.ensures in
    ap (map items) c.in_ok-push.ensures.items
    ∙ (map-append items old (x ∷ [])
    ∙ (ap (λ (ys : List (List Area)). ys ++ x.items ∷ []) c.loop-at.invariant
    ∙ (ap (λ (y : List Area). map f (numbers 0 c.loop-at.at) ++ y ∷ []) new ∙ sym (numbered_next f c.loop-at.at))))

pub returns : goal.returns
returns g c =
    let f : ℕ → List Area = areas_left (g.W.Reads.program c.args.world.now) (g.W.Reads.state c.args.world.now) in
    let all : c.loop-at.at ≡ 32 = omega (arith, c.loop-at.auto.at-end, c.loop-at-test.false) in
    let none : List Area = [] in
    λ p m. ap (λ (ys : List (List Area)). slice_index_or ys p none) (c.loop-at.invariant ∙ ap (λ (n : ℕ). map f (numbers 0 n)) all)
    ∙ (number_read f none 0 32 p m ∙ ap f (add_zero p))
