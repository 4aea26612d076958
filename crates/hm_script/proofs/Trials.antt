-- Each trial is a script.
use Rattle.std.proofs.Common.{◌≡◌, ℕ, zero, suc, ◌+◌, ◌*◌, ◌<◌, ◌≤◌, Bool, true, false, ◌&&◌, cond, eqb, ltb, List, [], ◌∷◌, ◌++◌, length, refl, sym, ap, subst, ◌∙◌, arith, length-append}
use Rattle.std.specs.Prelude.{nat_lt, nat_le}
use Rattle.std.specs.List.{list_all}
use Rattle.std.proofs.lemmas.Bool.{lt-ltb}
use Rattle.std.proofs.lemmas.Bool.Decides.{nat_tests}
use Rattle.std.proofs.lemmas.List.Folds.{list_all-append}
use Rattle.hm_base.specs.Pages.{span}
use Rattle.hm_base.specs.Program.{IsScript, op_fits, op_of_version, span_in_range, access_in_range, schedule_fits, run_lines, operation_count}
use Rattle.hm_base.specs.declared.ops.Version.TheVariants.{One}
use Rattle.hm_base.specs.declared.ops.Rights.TheVariants.{ReadWrite}
use Rattle.hm_base.specs.declared.ops.Op.{Op}
use Rattle.hm_base.specs.declared.ops.Op.TheVariants.{Map, Unmap, Load, Store, DeviceLoad, DeviceStore, ToDevice, ToSystem, Snap}
use Rattle.hm_base.specs.declared.ops.ScheduleLine.{ScheduleLine}
use Rattle.hm_base.specs.declared.ops.ScheduleLine.TheVariants.{Run}
use Rattle.hm_script.specs.Generator.{drawn_on, draw, Drawn, drawn_list, drawn_access, drawn_byte, drawn_load, drawn_store, drawn_span, drawn_protect, drawn_evict, drawn_rare, drawn_by, drawn_op, drawn_actor, drawn_line, first_ops, generated}
use Rattle.hm_script.proofs.Pairs.{is_byte}
use Rattle.hm_script.proofs.Drawing.{draw_below}

-- the operation may stand in a script of version 1 with two devices
pub record Fits (op : Op) : Type 0 where
  pub fits : op_fits 2 op ≡ true
  pub old : op_of_version One op ≡ true

-- ---- numbers in range

who_fits : (x : ℕ) → nat_lt (draw x 4) 32 ≡ true
who_fits x = lt-ltb (draw x 4) 32 (omega (arith, draw_below x 4 (omega arith)))

access_fits : (page offset n : ℕ) → page < 320 → offset < 4096 → 1 ≤ n → n ≤ 256 → access_in_range (page * 4096 + offset) n ≡ true
access_fits page offset n p o some few = grind (arith, nat_tests)

span_fits : (first n most : ℕ) → first < 320 → n < most → most ≤ 65536 → span_in_range (span first (1 + n)) most ≡ true
span_fits first n most f lt le = grind (arith, nat_tests)

byte_fits : (x : ℕ) → is_byte (draw x 256) ≡ true
byte_fits x = lt-ltb (draw x 256) 256 (draw_below x 256 (omega arith))

-- ---- lists

length-drawn : {A : Type 0} (one : ℕ → Drawn A) (x n : ℕ) → length (drawn_list one x n).value ≡ n
unfolding drawn_list
length-drawn one x zero = refl
length-drawn one x (suc n) = ap suc (length-drawn one (one x).rest n)

all_drawn : {A : Type 0} (test : A → Bool) (one : ℕ → Drawn A) → ((x : ℕ) → test (one x).value ≡ true) → (x n : ℕ) → list_all test (drawn_list one x n).value ≡ true
unfolding drawn_list
all_drawn test one each x zero = refl
all_drawn test one each x (suc n) = rw (each x, all_drawn test one each (one x).rest n) refl

drawn_access_fits : (x n : ℕ) → 1 ≤ n → n ≤ 256 → access_in_range (drawn_access x).value.addr n ≡ true
drawn_access_fits x n some few = access_fits (draw (drawn_on x) 320) (draw (drawn_on (drawn_on x)) 4096) n (draw_below _ 320 (omega arith)) (draw_below _ 4096 (omega arith)) some few

few_bytes : (x : ℕ) → (drawn_access x).value.len ≤ 256
few_bytes x = omega (arith, draw_below (drawn_on (drawn_on (drawn_on x))) 16 (omega arith))

-- ---- operations

load_fits : (x : ℕ) → Fits (drawn_load Load x).value
load_fits x = record { fits = rw (who_fits x, drawn_access_fits x (drawn_access x).value.len (omega arith) (few_bytes x)) refl; old = refl }

device_load_fits : (x : ℕ) → Fits (drawn_load DeviceLoad x).value
device_load_fits x = record { fits = rw (who_fits x, drawn_access_fits x (drawn_access x).value.len (omega arith) (few_bytes x)) refl; old = refl }

stored_fits : (x : ℕ) → let a = drawn_access x in access_in_range a.value.addr (length (drawn_list drawn_byte a.rest a.value.len).value) ≡ true
stored_fits x = let a = drawn_access x in let n = length-drawn drawn_byte a.rest a.value.len in
    subst (λ (k : ℕ). access_in_range a.value.addr k ≡ true) (sym n) (drawn_access_fits x a.value.len (omega arith) (few_bytes x))

store_fits : (x : ℕ) → Fits (drawn_store Store x).value
store_fits x = let a = drawn_access x in record { fits = rw (who_fits x, stored_fits x, all_drawn is_byte drawn_byte byte_fits a.rest a.value.len) refl; old = refl }

device_store_fits : (x : ℕ) → Fits (drawn_store DeviceStore x).value
device_store_fits x = let a = drawn_access x in record { fits = rw (who_fits x, stored_fits x, all_drawn is_byte drawn_byte byte_fits a.rest a.value.len) refl; old = refl }

drawn_span_fits : (x pages n most : ℕ) → 0 < pages → pages ≤ 320 → 0 < n → n ≤ most → most ≤ 65536 → span_in_range (span (draw (drawn_on x) pages) (1 + draw (drawn_on (drawn_on x)) n)) most ≡ true
drawn_span_fits x pages n most some few any le large =
    span_fits (draw (drawn_on x) pages) (draw (drawn_on (drawn_on x)) n) most (omega (arith, draw_below (drawn_on x) pages some)) (omega (arith, draw_below (drawn_on (drawn_on x)) n any)) large

to_device_fits : (x : ℕ) → Fits (drawn_span ToDevice 312 8 x).value
to_device_fits x = record { fits = rw (who_fits x, drawn_span_fits x 312 8 64 (omega arith) (omega arith) (omega arith) (omega arith) (omega arith)) refl; old = refl }

to_system_fits : (x : ℕ) → Fits (drawn_span ToSystem 312 8 x).value
to_system_fits x = record { fits = rw (who_fits x, drawn_span_fits x 312 8 64 (omega arith) (omega arith) (omega arith) (omega arith) (omega arith)) refl; old = refl }

snap_fits : (x : ℕ) → Fits (drawn_span Snap 312 8 x).value
snap_fits x = record { fits = rw (who_fits x, drawn_span_fits x 312 8 64 (omega arith) (omega arith) (omega arith) (omega arith) (omega arith)) refl; old = refl }

area_fits : (x : ℕ) → span_in_range (span (draw (drawn_on x) 256) (1 + draw (drawn_on (drawn_on x)) 4)) 65536 ≡ true
area_fits x = drawn_span_fits x 256 4 65536 (omega arith) (omega arith) (omega arith) (omega arith) (omega arith)

unmap_fits : (x : ℕ) → Fits (drawn_span Unmap 256 4 x).value
unmap_fits x = record { fits = rw (who_fits x, area_fits x) refl; old = refl }

map_fits : (x : ℕ) → Fits (drawn_span (λ p s. Map p s ReadWrite) 256 4 x).value
map_fits x = record { fits = rw (who_fits x, area_fits x) refl; old = refl }

protect_fits : (x : ℕ) → Fits (drawn_protect x).value
protect_fits x = record { fits = rw (who_fits x, area_fits x) refl; old = refl }

evict_fits : (x : ℕ) → Fits (drawn_evict x).value
evict_fits x = let h = lt-ltb (draw x 2) 2 (draw_below x 2 (omega arith)) in record { fits = rw h refl; old = refl }

-- a choice of two that fit
either_fits : (b : Bool) (d e : Drawn Op) → Fits d.value → Fits e.value → Fits (cond b d e).value
either_fits true d e p q = p
either_fits false d e p q = q

rare_fits : (u x : ℕ) → Fits (drawn_rare u x).value
rare_fits u x =
    either_fits (eqb u 0) _ _ (evict_fits x) (either_fits (eqb u 1) _ _ (protect_fits x) (either_fits (eqb u 2) _ _ (unmap_fits x) (either_fits (eqb u 3) _ _ (map_fits x) (load_fits x))))

by_fits : (t x : ℕ) → Fits (drawn_by t x).value
by_fits t x =
    either_fits (ltb t 4) _ _ (load_fits x) (either_fits (ltb t 8) _ _ (store_fits x) (either_fits (ltb t 10) _ _ (device_load_fits x) (either_fits (ltb t 12) _ _ (device_store_fits x)
    (either_fits (eqb t 12) _ _ (to_device_fits x) (either_fits (eqb t 13) _ _ (to_system_fits x) (either_fits (eqb t 14) _ _ (snap_fits x) (rare_fits (draw x 16) (drawn_on x))))))))

op_fits_drawn : (x : ℕ) → Fits (drawn_op x).value
unfolding drawn_op
op_fits_drawn x = by_fits (draw x 16) (drawn_on x)

-- ---- actors and lines

-- the operations may stand there
pub record AllFit (ops : List Op) : Type 0 where
  pub fit : list_all (op_fits 2) ops ≡ true
  pub old : list_all (op_of_version One) ops ≡ true

ops_fit : (x n : ℕ) → AllFit (drawn_list drawn_op x n).value
ops_fit x n = record { fit = all_drawn (op_fits 2) drawn_op (λ y. (op_fits_drawn y).fits) x n; old = all_drawn (op_of_version One) drawn_op (λ y. (op_fits_drawn y).old) x n }

count-actors : (x n : ℕ) → operation_count (drawn_list drawn_actor x n).value ≡ 500 * n
unfolding drawn_list
count-actors x zero = refl
count-actors x (suc n) = omega (arith, length-drawn drawn_op x 500, count-actors (drawn_actor x).rest n)

turns_fit : (a k : ℕ) (ls : List ScheduleLine) → a < 8 → k < 16 → schedule_fits 8 ls ≡ true → schedule_fits 8 (Run a (1 + k) ∷ ls) ≡ true
turns_fit a k ls low few h = rw (h, lt-ltb a 8 low, range k few) refl
  where
    range : (k : ℕ) → k < 16 → (nat_le 1 (1 + k) && nat_le (1 + k) 1000000) ≡ true
    range k lt = grind (arith, nat_tests)

lines_fit : (x n : ℕ) → schedule_fits 8 (drawn_list drawn_line x n).value ≡ true
unfolding drawn_list
lines_fit x zero = refl
lines_fit x (suc n) =
    let a = drawn_on x in
    turns_fit (draw x 8) (draw a 16) (drawn_list drawn_line (drawn_on a) n).value (draw_below x 8 (omega arith)) (draw_below a 16 (omega arith)) (lines_fit (drawn_on a) n)

count-lines : (x n : ℕ) → run_lines (drawn_list drawn_line x n).value ≡ n
unfolding drawn_list
count-lines x zero = refl
count-lines x (suc n) = omega (arith, count-lines (drawn_on (drawn_on x)) n)

-- ---- the script

first_fit : (ops : List Op) → AllFit ops → AllFit (first_ops ++ ops)
first_fit ops h = record { fit = rw (list_all-append (op_fits 2) first_ops ops, h.fit) refl; old = rw (list_all-append (op_of_version One) first_ops ops, h.old) refl }

first_line : (n : ℕ) (ls : List ScheduleLine) → n ≡ 8 → schedule_fits 8 ls ≡ true → schedule_fits n (Run 0 40 ∷ ls) ≡ true
first_line n ls e h = subst (λ (k : ℕ). schedule_fits k (Run 0 40 ∷ ls) ≡ true) (sym e) (rw h refl)

pub generated_is_script : (x : ℕ) → IsScript (generated x)
unfolding generated
generated_is_script x =
    let first = drawn_list drawn_op x 491 in
    let others = drawn_list drawn_actor first.rest 7 in
    let f = first_fit first.value (ops_fit x 491) in
    let count = length-drawn drawn_actor first.rest 7 in
    let fit = all_drawn (list_all (op_fits 2)) drawn_actor (λ y. (ops_fit y 500).fit) first.rest 7 in
    let old = all_drawn (list_all (op_of_version One)) drawn_actor (λ y. (ops_fit y 500).old) first.rest 7 in
    record {
      frames = omega arith;
      devices = refl;
      few_devices = omega arith;
      skip = omega arith;
      few_actors = omega (arith, count);
      ops = rw (f.fit, fit) refl;
      few_ops = omega (arith, length-append first_ops first.value, length-drawn drawn_op x 491, count-actors first.rest 7);
      schedule = first_line (length ((first_ops ++ first.value) ∷ others.value)) (drawn_list drawn_line others.rest 20000).value (ap suc count) (lines_fit others.rest 20000);
      few_lines = omega (arith, count-lines others.rest 20000);
      version = rw (f.old, old) refl;
    }

trial_is : (x : ℕ) (devices : List ℕ) (actors : List (List Op)) (schedule : List ScheduleLine)
    → devices ≡ 256 ∷ 256 ∷ []
    → (let first = drawn_list drawn_op x 491 in actors ≡ (first_ops ++ first.value) ∷ (drawn_list drawn_actor first.rest 7).value)
    → (let first = drawn_list drawn_op x 491 in schedule ≡ Run 0 40 ∷ (drawn_list drawn_line (drawn_list drawn_actor first.rest 7).rest 20000).value)
    → generated x ≡ record { version = One; frames = 2048; devices = devices; skip = 16; actors = actors; schedule = schedule }
unfolding generated
trial_is x devices actors schedule d a s = sym (λ i. record { version = One; frames = 2048; devices = d i; skip = 16; actors = a i; schedule = s i })

-- what was drawn for the first actor, the others and the schedule is a script
pub trial : (x : ℕ) (devices : List ℕ) (begin first : List Op) (one actors : List (List Op)) (line schedule : List ScheduleLine) (y z : ℕ)
    → devices ≡ 256 ∷ 256 ∷ []
    → begin ≡ first_ops
    → (first ≡ begin ++ (drawn_list drawn_op x 491).value) × (y ≡ (drawn_list drawn_op x 491).rest)
    → one ≡ first ∷ []
    → (actors ≡ one ++ (drawn_list drawn_actor y 7).value) × (z ≡ (drawn_list drawn_actor y 7).rest)
    → line ≡ Run 0 40 ∷ []
    → schedule ≡ line ++ (drawn_list drawn_line z 20000).value
    → IsScript (record { version = One; frames = 2048; devices = devices; skip = 16; actors = actors; schedule = schedule })
trial x devices begin first one actors line schedule y z d b f o a l s =
    let drawn_first = drawn_list drawn_op x 491 in
    let others = drawn_list drawn_actor drawn_first.rest 7 in
    let whole : first ≡ first_ops ++ drawn_first.value = f.0 ∙ ap (λ (ops : List Op). ops ++ drawn_first.value) b in
    let all : actors ≡ (first_ops ++ drawn_first.value) ∷ others.value = a.0 ∙ (λ i. o i ++ (drawn_list drawn_actor (f.1 i) 7).value) ∙ ap (λ (ops : List Op). ops ∷ others.value) whole in
    let state : z ≡ others.rest = a.1 ∙ ap (λ (k : ℕ). (drawn_list drawn_actor k 7).rest) f.1 in
    let lines : schedule ≡ Run 0 40 ∷ (drawn_list drawn_line others.rest 20000).value = s ∙ (λ i. l i ++ (drawn_list drawn_line (state i) 20000).value) in
    subst IsScript (trial_is x devices actors schedule d all lines) (generated_is_script x)
