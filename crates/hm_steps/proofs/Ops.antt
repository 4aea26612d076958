-- An operation of a script is in range.
use Rattle.std.proofs.Common.{◌≡◌, ℕ, Bool, true, false, ◌&&◌, Option, Some, None, List, [], ◌∷◌, length, refl}
use Rattle.std.specs.Prelude.{slice_get}
use Rattle.std.specs.List.{list_all}
use Rattle.hm_base.specs.Program.{Program, IsScript, op_fits, op_in_range}
use Rattle.hm_base.specs.declared.ops.Op.{Op}
use Rattle.hm_history.specs.Kernel.Going.{op_at}
use Rattle.hm_base.proofs.Shared.{each_passes}

op_passes : (c : Program) (t : Op → Bool) (a i : ℕ) (o : Op) → list_all (list_all t) c.actors ≡ true → op_at c a i ≡ Some o → t o ≡ true
op_passes c t a i o h e = by (slice_get c.actors a) refl e
  where
    by : (x : Option (List Op)) → slice_get c.actors a ≡ x → slice_get (elim x [ None ↦ [] | Some os ↦ os ]) i ≡ Some o → t o ≡ true
    by None ex k = cc
    by (Some os) ex k = each_passes t os i o (each_passes (list_all t) c.actors a os h ex) k

pub op_ranged : (c : Program) (a i : ℕ) (o : Op) → IsScript c → op_at c a i ≡ Some o → op_in_range o ≡ true
op_ranged c a i o sc e = by (op_in_range o) _ (op_passes c (op_fits (length c.devices)) a i o sc.ops e)
  where
    by : (b d : Bool) → (b && d) ≡ true → b ≡ true
    by true d k = refl
    by false d k = cc
