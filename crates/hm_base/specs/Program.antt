-- A script as contracts see it, and what keeps it in range.
use Rattle.std.specs.Prelude.{ℕ, zero, suc, ◌+◌, ◌^◌, ◌≤◌, ◌≡◌, Bool, true, false, ◌&&◌, ◌||◌, not, List, [], ◌∷◌, ◌++◌}
use Rattle.std.specs.Prelude.{length, nat_lt, nat_le}
use Rattle.std.specs.List.{list_all}
use Rattle.hm_base.specs.Pages.{Pages}
use Rattle.hm_base.specs.declared.ops.Op.{Op}
use Rattle.hm_base.specs.declared.ops.Op.TheVariants.{Map, Unmap, Protect, Load, Store, Fork, Exit, Attach, Detach}
use Rattle.hm_base.specs.declared.ops.Op.TheVariants.{DeviceLoad, DeviceStore, ToDevice, ToSystem, Snap, Evict, Remove}
use Rattle.hm_base.specs.declared.ops.Op.TheVariants.{Exclusive, Add}
use Rattle.hm_base.specs.declared.ops.ScheduleLine.{ScheduleLine}
use Rattle.hm_base.specs.declared.ops.ScheduleLine.TheVariants.{Run, Drain}
use Rattle.hm_base.specs.declared.ops.Version.{Version}
use Rattle.hm_base.specs.declared.ops.Version.TheVariants.{One, Two}

-- a script: its frames, devices, skip number, actors with their operations, and schedule
pub record Program : Type 0 where
  pub version : Version
  pub frames : ℕ
  pub devices : List ℕ
  pub skip : ℕ
  pub actors : List (List Op)
  pub schedule : List ScheduleLine

-- an access of n bytes from this address
abbrev pub access_in_range : ℕ → ℕ → Bool
access_in_range addr n = nat_le 1 n && (nat_le n 256 && nat_le (addr + n) (2 ^ 48))

-- a span of at most `most` pages
abbrev pub span_in_range : Pages → ℕ → Bool
span_in_range s most = nat_le 1 s.count && (nat_le s.count most && nat_le (s.first + s.count) (2 ^ 36))

-- the operation's numbers are in range
abbrev pub op_in_range : Op → Bool
op_in_range (Map p s r) = nat_lt p 32 && span_in_range s 65536
op_in_range (Unmap p s) = nat_lt p 32 && span_in_range s 65536
op_in_range (Protect p s r) = nat_lt p 32 && span_in_range s 65536
op_in_range (Load p a n) = nat_lt p 32 && access_in_range a n
op_in_range (Store p a b) = nat_lt p 32 && access_in_range a (length b)
op_in_range (Fork p c) = nat_lt p 32 && nat_lt c 32
op_in_range (Exit p) = nat_lt p 32
op_in_range (Attach m d p s) = nat_lt m 32 && (nat_lt p 32 && span_in_range s 65536)
op_in_range (Detach m) = nat_lt m 32
op_in_range (DeviceLoad m a n) = nat_lt m 32 && access_in_range a n
op_in_range (DeviceStore m a b) = nat_lt m 32 && access_in_range a (length b)
op_in_range (ToDevice m s) = nat_lt m 32 && span_in_range s 64
op_in_range (ToSystem m s) = nat_lt m 32 && span_in_range s 64
op_in_range (Snap m s) = nat_lt m 32 && span_in_range s 64
op_in_range (Evict d) = true
op_in_range (Remove d) = true
op_in_range (Exclusive m v) = nat_lt m 32 && nat_lt v (2 ^ 36)
op_in_range (Add m a k) = nat_lt m 32 && (nat_lt a (2 ^ 48) && nat_lt k 256)

-- the device that the operation names is one of the first `devices`
abbrev pub op_declared : ℕ → Op → Bool
op_declared devices (Attach m d p s) = nat_lt d devices
op_declared devices (Evict d) = nat_lt d devices
op_declared devices (Remove d) = nat_lt d devices
op_declared devices _ = true

-- the bytes that an operation stores are bytes
abbrev pub op_bytes : Op → List ℕ
op_bytes (Store p a b) = b
op_bytes (DeviceStore m a b) = b
op_bytes _ = []

-- the operation's numbers are in range, its device is declared, and its bytes are bytes
abbrev pub op_fits : ℕ → Op → Bool
op_fits devices op = op_in_range op && (op_declared devices op && list_all (λ b. nat_lt b 256) (op_bytes op))

-- the two operations that version 1 has not
abbrev pub is_new_op : Op → Bool
is_new_op (Exclusive m v) = true
is_new_op (Add m a k) = true
is_new_op _ = false

-- the version with all 18 operations
abbrev pub is_version_two : Version → Bool
is_version_two One = false
is_version_two Two = true

-- the operation may stand in a script of this version
abbrev pub op_of_version : Version → Op → Bool
op_of_version v op = is_version_two v || not (is_new_op op)

-- the lines name actors that are there, and `drain` comes last
abbrev pub schedule_fits : ℕ → List ScheduleLine → Bool
schedule_fits actors [] = true
schedule_fits actors (Drain ∷ []) = true
schedule_fits actors (Drain ∷ l ∷ ls) = false
schedule_fits actors (Run a k ∷ ls) = (nat_le 1 k && nat_le k 1000000) && (nat_lt a actors && schedule_fits actors ls)

-- the lines but for `drain`
abbrev pub run_lines : List ScheduleLine → ℕ
run_lines [] = 0
run_lines (Drain ∷ ls) = run_lines ls
run_lines (Run a k ∷ ls) = 1 + run_lines ls

-- the operations of all actors
abbrev pub operation_count : List (List Op) → ℕ
operation_count [] = 0
operation_count (l ∷ ls) = length l + operation_count ls

-- a script that the grammar can spell: its numbers are in range, and what its lines name is there. Every theorem
-- about a script asks for it
pub record IsScript (s : Program) : Type 0 where
  pub frames : s.frames ≤ 16384
  pub devices : list_all (λ n. nat_le n 8192) s.devices ≡ true
  pub few_devices : length s.devices ≤ 4
  pub skip : s.skip ≤ 2 ^ 36
  pub few_actors : length s.actors ≤ 16
  pub ops : list_all (list_all (op_fits (length s.devices))) s.actors ≡ true
  pub few_ops : operation_count s.actors ≤ 100000
  pub schedule : schedule_fits (length s.actors) s.schedule ≡ true
  pub few_lines : run_lines s.schedule ≤ 100000
  pub version : list_all (list_all (op_of_version s.version)) s.actors ≡ true

-- the operation at the end of the last list
abbrev pub add_to_last : List (List Op) → Op → List (List Op)
add_to_last [] op = []
add_to_last (l ∷ []) op = (l ++ op ∷ []) ∷ []
add_to_last (l ∷ m ∷ ls) op = l ∷ add_to_last (m ∷ ls) op

-- the operation at the end of the list at this place
abbrev pub add_to_list : List (List Op) → ℕ → Op → List (List Op)
add_to_list [] n op = []
add_to_list (l ∷ ls) zero op = (l ++ op ∷ []) ∷ ls
add_to_list (l ∷ ls) (suc n) op = l ∷ add_to_list ls n op

-- the script with the operation at the end of that actor's list
abbrev pub with_op : Program → ℕ → Op → Program
with_op s actor op = record s { actors = add_to_list s.actors actor op }
