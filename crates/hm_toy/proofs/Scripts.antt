-- A script with no operations is in range.
use Rattle.std.proofs.Common.{◌≡◌, ℕ, zero, suc, ◌+◌, ◌≤◌, Bool, true, ◌&&◌, List, [], replicate, refl, sym, ap, ◌∙◌, subst, arith}
use Rattle.std.specs.List.{list_all}
use Rattle.std.proofs.lemmas.List.{length-replicate}
use Rattle.hm_base.specs.declared.ops.Op.{Op}
use Rattle.hm_base.specs.declared.ops.ScheduleLine.{ScheduleLine}
use Rattle.hm_base.specs.declared.ops.Version.TheVariants.{One}
use Rattle.hm_base.specs.Program.{IsScript, op_fits, op_of_version, operation_count}
use Rattle.hm_toy.specs.Toys.{script_of}

all_empty : {X : Type 0} (test : List X → Bool) → test [] ≡ true → (n : ℕ) → list_all test (replicate n []) ≡ true
all_empty test is zero = refl
all_empty test is (suc n) = λ k. is k && all_empty test is n k

none_at_all : (n : ℕ) → operation_count (replicate n []) ≡ 0
none_at_all zero = refl
none_at_all (suc n) = ap (λ (m : ℕ). 0 + m) (none_at_all n)

script_fits : (actors entries : ℕ) → actors ≤ 16 → entries ≤ 16384 → IsScript (script_of actors entries)
script_fits a n few short = let long = length-replicate {A = List Op} a [] in let none = none_at_all a in record {
  frames = short;
  devices = refl;
  few_devices = omega arith;
  skip = omega arith;
  few_actors = omega arith;
  ops = all_empty (list_all (op_fits 0)) refl a;
  few_ops = omega arith;
  schedule = refl;
  few_lines = omega arith;
  version = all_empty (list_all (op_of_version (script_of a n).version)) refl a;
}

-- the script is made of these lists, of which k were pushed
pub made_script_fits : (actors entries k : ℕ) (lists : List (List Op)) (devices : List ℕ) (schedule : List ScheduleLine) → actors ≤ 16 → entries ≤ 16384 → k ≤ actors → actors ≤ k
    → lists ≡ replicate k [] → devices ≡ [] → schedule ≡ []
    → IsScript (record { version = One; frames = entries; devices = devices; skip = 0; actors = lists; schedule = schedule })
made_script_fits a n k lists devices schedule few short below above l d s = let all : k ≡ a = omega arith in
    let l' = sym (l ∙ ap (λ (m : ℕ). replicate {A = List Op} m []) all) in let d' = sym d in let s' = sym s in
    subst (λ (t : List (List Op) × List ℕ × List ScheduleLine). IsScript (record { version = One; frames = n; devices = t.1; skip = 0; actors = t.0; schedule = t.2 }))
    (λ j. (l' j, d' j, s' j)) (script_fits a n few short)
