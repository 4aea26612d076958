-- What a look at a process's memory finds, and what it tells the pass.
use Rattle.std.specs.Prelude.{◌≡◌, ◌≢◌, ℕ, ◌+◌, ◌^◌, ◌≤◌, Bool, if◌then◌else◌, List, length, Some, None, is_some}
use Rattle.std.specs.List.{list_all}
use Rattle.hm_base.specs.Program.{Program}
use Rattle.hm_history.specs.Memory.After.{after}
use Rattle.hm_history.specs.Memory.Locks.{writer}
use Rattle.hm_history.specs.Memory.Plain.{Plain, rights_of}
use Rattle.hm_history.specs.Memory.Words.{bytes_from, numbers, page_of}
use Rattle.hm_history.specs.declared.Entry.{Entry}
use Rattle.hm_turns.specs.Sights.{Sight, IsShown, Halts, all_shares}
use Rattle.hm_turns.specs.declared.looks.Look.{Look}
use Rattle.hm_turns.specs.declared.looks.Looked.{Looked}

-- n bytes can be looked at from an address on: some, at most 256, and none past the last address
pub record IsLook (at n : ℕ) : Type 0 where
  pub some : 1 ≤ n
  pub few : n ≤ 256
  pub ends : at + n ≤ 2 ^ 48

-- each of the bytes has an area
abbrev pub all_have_areas : Plain → ℕ → ℕ → ℕ → Bool
all_have_areas s p at n = list_all (λ x. is_some (rights_of s p (page_of x))) (numbers at n)

-- what is found after a history: who has the process's mmap lock for writing; else whether the bytes have areas
abbrev pub looked_after : List Entry → ℕ → ℕ → ℕ → Looked
looked_after h p at n = elim (writer (after h).locks p) [
  | Some by ↦ Looked.Locked by
  | None ↦ if all_have_areas (after h).plain p at n then Looked.Filled else Looked.Unmapped
]

-- the plain bytes of a process after a history
abbrev pub plain_after : List Entry → ℕ → ℕ → ℕ → List ℕ
plain_after h p at n = bytes_from ((after h).plain.bytes p) at n

-- the bytes that were copied, if all were
abbrev pub Copied : List Entry → ℕ → ℕ → Looked → List ℕ → Type 0
Copied h p at Looked.Filled bytes = bytes ≡ plain_after h p at (length bytes)
Copied h p at _ bytes = Unit {0}

-- what is found and copied after a history
pub record ReadsAs (h : List Entry) (p at : ℕ) (found : Looked) (bytes : List ℕ) : Type 0 where
  pub found_is : found ≡ looked_after h p at (length bytes)
  pub bytes_are : Copied h p at found bytes

-- the pass was shown the history, in which no entry is new
pub record Sees (legal : Program → List Entry → Type 0) (v w : Sight) : Type 0 where
  pub legal_is : legal v.desk.script w.list
  pub shown : IsShown v w.list
  pub running : v.told ≡ None
  pub pass_is : w ≡ record v { list = w.list }

-- what a look comes to, and what the pass has seen then
abbrev pub LooksTo : (Program → List Entry → Type 0) → ℕ → ℕ → List ℕ → Sight → Look → Sight → Type 0
LooksTo legal p at bytes v Look.Busy w = (v.shares ≢ all_shares) × (w ≡ record v { busy = v.busy + 1 })
LooksTo legal p at bytes v Look.Halted w = Halts legal v w
LooksTo legal p at bytes v (Look.Locked by) w = Sees legal v w × ReadsAs w.list p at (Looked.Locked by) bytes
LooksTo legal p at bytes v Look.Unmapped w = Sees legal v w × ReadsAs w.list p at Looked.Unmapped bytes
LooksTo legal p at bytes v (Look.Filled n) w =
    Sees legal v w × ((n ≡ length w.list) × ReadsAs w.list p at Looked.Filled bytes)
