-- Peeks: bytes of a process that were checked to be current.
use Rattle.std.specs.Prelude.{◌≡◌, ℕ, ◌-◌, ◌<◌, ◌≤◌, Bool, true, List, length, take, slice_get, nat_lt, Option, Some}
use Rattle.std.specs.Prelude.{None, option_map}
use Rattle.hm_history.specs.Memory.After.{after}
use Rattle.hm_history.specs.declared.Entry.{Entry}
use Rattle.hm_turns.specs.Looking.{all_have_areas, looked_after, plain_after}
use Rattle.hm_turns.specs.Sights.{Sight, IsShown}
use Rattle.hm_turns.specs.declared.looks.Looked.{Looked}
use Rattle.hm_workers.specs.declared.peeks.Peek.{Peek}

-- the peek is of this many bytes of this process, from this address on
pub record IsOf (p at n : ℕ) (x : Peek) : Type 0 where
  pub proc_is : x.proc ≡ p
  pub addr_is : x.addr ≡ at
  pub length_is : length x.bytes ≡ n

-- after this many entries of the list as the peek counts, its bytes have areas, and are the plain bytes of its process
pub record IsPlain (list : List Entry) (x : Peek) : Type 0 where
  pub inside : x.count ≤ length list
  pub areas : all_have_areas (after (take x.count list)).plain x.proc x.addr (length x.bytes) ≡ true
  pub bytes_are : x.bytes ≡ plain_after (take x.count list) x.proc x.addr (length x.bytes)

-- so they are in each list that is shown later
abbrev pub IsRight : Sight → Peek → Type 0
IsRight v x = (later : List Entry) → IsShown v later → IsPlain later x

-- of two peeks the later one has the greater count
abbrev pub CountsRise : List Peek → Type 0
CountsRise xs =
    (i j : ℕ) (x y : Peek) → i < j → slice_get xs i ≡ Some x → slice_get xs j ≡ Some y → x.count < y.count

-- peeks of these bytes, each of which is right, and whose counts rise
pub record ArePeeks (p at n : ℕ) (Right : Peek → Type 0) (xs : List Peek) : Type 0 where
  pub each : (i : ℕ) (x : Peek) → slice_get xs i ≡ Some x → IsOf p at n x × Right x
  pub rise : CountsRise xs

-- the count of the last peek
abbrev pub last_count : List Peek → Option ℕ
last_count xs = option_map (λ (x : Peek). x.count) (slice_get xs (length xs - 1))

-- no peek has this count or a greater one
abbrev pub is_newer : List Peek → ℕ → Bool
is_newer xs n = elim (slice_get xs (length xs - 1)) [ None ↦ true | Some x ↦ nat_lt x.count n ]

-- if a look at the whole list finds the bytes, the last peek is of the whole list
abbrev pub ReachesEnd : ℕ → ℕ → ℕ → List Entry → List Peek → Type 0
ReachesEnd p at n list xs = looked_after list p at n ≡ Looked.Filled → last_count xs ≡ Some (length list)
