use Rattle.std.proofs.Common.{ℕ, None, List, [], Vec, Global, map, refl, ap, ◌∙◌}
use Rattle.std.proofs.Math.Path.{fun_ext}
use Rattle.std.specs.Prelude.{slice_index_or}
use Rattle.hm_base.specs.declared.Frame.{Frame}
use Rattle.hm_linux_steps.specs.Notes.{noted_in}
use Rattle.hm_linux_steps.proofs.NoneNoted.{same_noted}
use Rattle.hm_linux_steps.proofs.notes.Notes.copy.Goals as goal

pub returns : goal.returns
returns c =
    let items : Vec Frame Global → List Frame = λ v. v.items in
    let none : List Frame = [] in
    let old = noted_in c.args.self.now in
    same_noted (λ a. slice_index_or (map items c.in_ok-copied.field-0.items) a none) old.references (λ a. slice_index_or c.copy_locks.result a None) old.locks old.busy old.busy old.torn old.torn
    (ap {B = ℕ → List Frame} (λ (ys : List (List Frame)). λ (a : ℕ). slice_index_or ys a none) (c.in_ok-copied.ensures ∙ ap (map items) c.deref.ensures.value))
    (fun_ext c.copy_locks.ensures) refl refl
