-- An operation added at the end of a list: the script stays in range.
use Rattle.std.proofs.Common.{◌≡◌, ℕ, zero, suc, ◌+◌, ◌≤◌, ◌<◌, List, [], ◌∷◌, ◌++◌, length, get_or, ap, arith, Bool, true, subst, sym, refl}
use Rattle.std.proofs.lemmas.Bool.{and_parts, and_from}
use Rattle.std.proofs.lemmas.List.{length-append}
use Rattle.std.specs.Prelude.{slice_set, Result, Ok, Err, OnOk, OnErr}
use Rattle.std.specs.List.{list_all}
use Rattle.hm_base.specs.declared.ops.Op.{Op}
use Rattle.hm_base.specs.Program.{Program, IsScript, add_to_list, with_op, operation_count, op_fits, op_of_version}

-- a write at a place of the lists adds the operation there
pub set_list : (n : ℕ) (xs : List (List Op)) (l : List Op) (op : Op) → n < length xs → l ≡ get_or xs n l → slice_set xs n (l ++ op ∷ []) ≡ add_to_list xs n op
set_list n [] l op h e = absurd (omega arith)
set_list zero (x ∷ xs) l op h e = ap (λ (y : List Op). (y ++ op ∷ []) ∷ xs) e
set_list (suc n) (x ∷ xs) l op h e = ap (λ (zs : List (List Op)). x ∷ zs) (set_list n xs l op (omega arith) e)

pub length_added : (n : ℕ) (xs : List (List Op)) (op : Op) → length (add_to_list xs n op) ≡ length xs
length_added n [] op = refl
length_added zero (x ∷ xs) op = refl
length_added (suc n) (x ∷ xs) op = ap suc (length_added n xs op)

-- one operation more at most
pub count_added : (n : ℕ) (xs : List (List Op)) (op : Op) → operation_count (add_to_list xs n op) ≤ operation_count xs + 1
count_added n [] op = omega arith
count_added zero (x ∷ xs) op = omega (arith, length-append x (op ∷ []))
count_added (suc n) (x ∷ xs) op = omega (arith, count_added n xs op)

-- what passes of each operation, and of the one that is added, passes of each
all_last : (p : Op → Bool) (xs : List Op) (op : Op) → list_all p xs ≡ true → p op ≡ true → list_all p (xs ++ op ∷ []) ≡ true
all_last p [] op h e = rw e refl
all_last p (x ∷ xs) op h e = and_from (p x) (list_all p (xs ++ op ∷ [])) (and_parts (p x) (list_all p xs) h).0 (all_last p xs op (and_parts (p x) (list_all p xs) h).1 e)

pub all_added : (p : Op → Bool) (n : ℕ) (xs : List (List Op)) (op : Op) → list_all (list_all p) xs ≡ true → p op ≡ true → list_all (list_all p) (add_to_list xs n op) ≡ true
all_added p n [] op h e = refl
all_added p zero (x ∷ xs) op h e =
    let parts = and_parts (list_all p x) (list_all (list_all p) xs) h in
    and_from (list_all p (x ++ op ∷ [])) (list_all (list_all p) xs) (all_last p x op parts.0 e) parts.1
all_added p (suc n) (x ∷ xs) op h e =
    let parts = and_parts (list_all p x) (list_all (list_all p) xs) h in
    and_from (list_all p x) (list_all (list_all p) (add_to_list xs n op)) parts.0 (all_added p n xs op parts.1 e)

-- a script with an operation more is a script
pub with_op_is_script : (s : Program) (actor : ℕ) (op : Op) → IsScript s → op_fits (length s.devices) op ≡ true → operation_count s.actors < 100000 → op_of_version s.version op ≡ true → IsScript (with_op s actor op)
with_op_is_script s actor op is fits few version = record {
  frames = is.frames;
  devices = is.devices;
  few_devices = is.few_devices;
  skip = is.skip;
  few_actors = rw (length_added actor s.actors op) is.few_actors;
  ops = all_added (op_fits (length s.devices)) actor s.actors op is.ops fits;
  few_ops = omega (arith, count_added actor s.actors op, few);
  schedule = rw (length_added actor s.actors op) is.schedule;
  few_lines = is.few_lines;
  version = all_added (op_of_version s.version) actor s.actors op is.version version;
}

-- so it is after a push, which may fail
pub pushed_is_script : {T E : Type 0} (s : Program) (actor : ℕ) (op : Op) (actors : List (List Op)) (r : Result T E) → IsScript s → IsScript (with_op s actor op) → OnOk r (actors ≡ add_to_list s.actors actor op) → OnErr r (actors ≡ s.actors) → IsScript (record s { actors = actors })
pushed_is_script s actor op actors (Ok x) is more ok err = subst (λ xs. IsScript (record s { actors = xs })) (sym ok) more
pushed_is_script s actor op actors (Err x) is more ok err = subst (λ xs. IsScript (record s { actors = xs })) (sym err) is
