-- What a copy of a process's bytes is, and when it is current.
use Rattle.std.specs.Prelude.{◌≡◌, ◌≢◌, ℕ, ◌+◌, ◌≤◌, true, List, [], ◌∷◌, ◌++◌, length, take}
use Rattle.hm_base.specs.Program.{Program}
use Rattle.hm_history.specs.Memory.After.{after}
use Rattle.hm_history.specs.declared.Entry.{Entry}
use Rattle.hm_turns.specs.Looking.{Sees, all_have_areas, looked_after, plain_after}
use Rattle.hm_turns.specs.Sights.{Sight, IsShown, Halts, all_shares}
use Rattle.hm_turns.specs.declared.looks.Looked.{Looked}
use Rattle.seq_copies.specs.declared.answers.Snapshot.{Snapshot}
use Rattle.seq_copies.specs.declared.answers.Still.{Still}
use Rattle.seq_copies.specs.declared.answers.Taken.{Taken}

-- the copy has the plain bytes of its process after its first entries of the list
pub record IsCopy (s : Snapshot) (list : List Entry) : Type 0 where
  pub inside : s.at ≤ length list
  pub bytes_are : s.bytes ≡ plain_after (take s.at list) s.proc s.addr (length s.bytes)

-- all its bytes have areas after `count` entries of a list
abbrev pub HaveAreas : Snapshot → ℕ → List Entry → Type 0
HaveAreas s count list = all_have_areas (after (take count list)).plain s.proc s.addr (length s.bytes) ≡ true

-- the copy that was asked for, of the whole list
pub record IsTaken (s : Snapshot) (p at n : ℕ) (list : List Entry) : Type 0 where
  pub proc_is : s.proc ≡ p
  pub addr_is : s.addr ≡ at
  pub length_is : length s.bytes ≡ n
  pub at_is : s.at ≡ length list
  pub copy : IsCopy s list

-- what is found after what the pass has seen
abbrev pub Finds : (Program → List Entry → Type 0) → ℕ → ℕ → ℕ → Sight → Looked → Sight → Type 0
Finds legal p at n v found w = Sees legal v w × (looked_after w.list p at n ≡ found)

-- what a try for a copy comes to, and what the pass has seen then
abbrev pub TakesTo : (Program → List Entry → Type 0) → ℕ → ℕ → ℕ → Sight → Taken → Sight → Type 0
TakesTo legal p at n v Taken.Busy w = (v.shares ≢ all_shares) × (w ≡ record v { busy = v.busy + 1 })
TakesTo legal p at n v Taken.Halted w = Halts legal v w
TakesTo legal p at n v (Taken.Locked by) w = Finds legal p at n v (Looked.Locked by) w
TakesTo legal p at n v Taken.Unmapped w = Finds legal p at n v Looked.Unmapped w
TakesTo legal p at n v (Taken.Taken s) w = Finds legal p at n v Looked.Filled w × IsTaken s p at n w.list

-- the pass after a check: it has loaded the count, and then the mark
abbrev pub checked : Sight → ℕ → Still → Sight
checked v p t = record v {
  loaded = t.count;
  marks = v.marks ++ record { proc = p; at = t.mark; upto = t.count } ∷ [];
}

-- in each list that is shown later, the copy has the plain bytes of its process after `count` entries
abbrev pub IsCurrent : Snapshot → Sight → ℕ → Type 0
IsCurrent s w count =
    (later : List Entry) → IsShown w later → s.bytes ≡ plain_after (take count later) s.proc s.addr (length s.bytes)

-- and all its bytes have areas then
abbrev pub StillHaveAreas : Snapshot → Sight → ℕ → Type 0
StillHaveAreas s w count = (later : List Entry) → IsShown w later → HaveAreas s count later
