-- Area lists that processes share.
use Rattle.std.proofs.Common.{◌≡◌, ℕ, ◌<◌, ◌==◌, Bool, true, false, if◌then◌else◌, Some, None, List, [], length, refl, map, replicate, slice_set, slice_index_or, get_or, sym, ap, ◌∙◌, arith}
use Rattle.std.proofs.lemmas.List.{map-set, length-map, get_or-map}
use Rattle.std.proofs.lemmas.Bool.Decides.{nat_tests}
use Rattle.std.proofs.Math.Path.{fun_ext}
use Rattle.std.specs.Prelude.{not, nat_le}
use Rattle.hm_base.specs.Pages.{Pages}
use Rattle.hm_base.specs.Areas.{all_mapped, with_rights}
use Rattle.hm_base.specs.declared.area.Area.{Area}
use Rattle.hm_base.specs.declared.cause.Cause.{Cause}
use Rattle.hm_base.specs.declared.ops.Op.{Op}
use Rattle.hm_base.specs.declared.ops.Rights.{Rights}
use Rattle.vm_areas.specs.Refusals.{protect_refusal}
use Rattle.vm_areas.specs.declared.AreaRefusal.{AreaRefusal}
use Rattle.hm_history.specs.Memory.Words.{with_at}
use Rattle.hm_history.specs.Memory.Plain.{Plain, area_refusal, plain_start}
use Rattle.hm_folds.proofs.Writes.{shown, set_at}
use Rattle.hm_folds.proofs.SeqSteps.{all_alike}
use Rattle.hm_race_states.specs.Spaces.{bare}

-- a plain state of processes with these areas
abbrev pub made : (ℕ → Bool) → (ℕ → Bool) → (ℕ → List Area) → Plain
made t n r = record plain_start { there = t; named = n; been = λ p. false; areas = r }

-- one list takes the place of another
pub areas_set : {X : Type 0} (f : X → List Area) (xs : List X) (n p : ℕ) (x : X) (ys : List Area) → n ≡ p → p < length xs → f x ≡ ys
    → (λ k. slice_index_or (map f (slice_set xs n x)) k []) ≡ with_at (λ k. slice_index_or (map f xs) k []) p ys
areas_set f xs n p x ys e l h =
    rw e (ap {B = ℕ → List Area} (λ (zs : List (List Area)). λ (k : ℕ). slice_index_or zs k []) (map-set f xs p x)
    ∙ (shown (λ z. z) (map f xs) p (f x) [] (omega (arith, length-map xs f, l)) ∙ ap (with_at (λ k. slice_index_or (map f xs) k []) p) h))

-- the list of a process
pub areas_read : {X : Type 0} (f : X → List Area) (xs : List X) (i p : ℕ) (x d : X) → x ≡ get_or xs i d → i ≡ p → i < length xs
    → f x ≡ slice_index_or (map f xs) p []
areas_read f xs i p x d e k l = ap f e ∙ (sym (get_or-map f xs i d [] l) ∙ ap (λ j. slice_index_or (map f xs) j []) k)

-- at the start process 0 is there, with nothing mapped
first_there : (λ p. slice_index_or (slice_set (replicate 32 false) 0 true) p false) ≡ plain_start.there
first_there = fun_ext (λ p. set_at (replicate 32 false) 0 true false p (omega arith) ∙ by p (all_alike false 32 p))
  where
    by : (p : ℕ) → slice_index_or (replicate 32 false) p false ≡ false → with_at (λ j. slice_index_or (replicate 32 false) j false) 0 true p ≡ (p == 0)
    by p e = grind (arith, nat_tests)

pub spaces_start : (xs : List (List Area)) → xs ≡ replicate 32 [] → made (λ p. slice_index_or (slice_set (replicate 32 false) 0 true) p false) (λ p. slice_index_or (replicate 32 false) p false) (λ p. slice_index_or xs p []) ≡ bare plain_start
spaces_start xs h =
    let none : List Area = [] in
    let f : ℕ → List Area = λ p. slice_index_or xs p [] in
    ap (λ t. made t (λ p. slice_index_or (replicate 32 false) p false) f) first_there
    ∙ ap (λ n. made plain_start.there n f) (fun_ext (λ p. all_alike false 32 p))
    ∙ ap (λ r. made plain_start.there plain_start.named r) (fun_ext (λ p. ap (λ (ys : List (List Area)). slice_index_or ys p []) h ∙ all_alike none 32 p))

-- a change of rights that no cause refuses is not refused
pub protects : (s : Plain) (p : ℕ) (r : Pages) (w : Rights) → area_refusal s (Op.Protect p r w) ≡ None → protect_refusal r w (s.areas p) ≡ None
protects s p r w = by (all_mapped r (s.areas p)) (nat_le (length (with_rights r w (s.areas p))) 64)
  where
    by : (mapped few : Bool) → (if not mapped then Some Cause.Unmapped else if few then None else Some Cause.TooManyAreas) ≡ None
        → (if not mapped then Some AreaRefusal.Unmapped else if few then None else Some AreaRefusal.TooMany) ≡ None
    by true true e = refl
    by true false e = cc
    by false few e = cc
