use Rattle.std.proofs.Common.{ℕ, List, [], Vec, Global, map, slice_set, refl, ap, ◌∙◌, arith}
use Rattle.std.proofs.lemmas.List.{map-set, length-map}
use Rattle.std.specs.Prelude.{slice_index_or}
use Rattle.hm_base.specs.declared.Frame.{Frame}
use Rattle.hm_history.specs.Memory.Words.{with_at}
use Rattle.hm_linux_steps.specs.Notes.{noted_in}
use Rattle.hm_linux_steps.proofs.NoneNoted.{same_noted}
use Rattle.hm_linux_steps.proofs.Written.{written}
use Rattle.hm_linux_steps.proofs.notes.Notes.set_references.Goals as goal

pub returns : goal.returns
returns c =
    let items : Vec Frame Global → List Frame = λ v. v.items in
    let none : List Frame = [] in
    let x = c.args.self.now in
    let old = noted_in x in
    let all = map items x.references.items in
    same_noted (λ a. slice_index_or (map items (slice_set x.references.items c.number.result c.args.frames)) a none) (with_at old.references c.args.actor c.args.frames.items) old.locks old.locks old.busy old.busy old.torn old.torn
    (ap {B = ℕ → List Frame} (λ (ys : List (List Frame)). λ (a : ℕ). slice_index_or ys a none) (map-set items x.references.items c.number.result c.args.frames)
    ∙ (written all c.number.result c.args.frames.items (omega (arith, length-map x.references.items items, x.sized, c.number.ensures.below)) ∙ ap {B = ℕ → List Frame} (λ (n : ℕ). with_at old.references n c.args.frames.items) c.number.ensures.same))
    refl refl refl
