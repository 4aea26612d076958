-- What a watcher does with its pass, its copy and its peeks.
use Rattle.std.specs.Prelude.{◌≡◌, ℕ, ◌+◌, ◌≤◌, true, false, List, [], ◌∷◌, ◌++◌, length, nat_le, Some}
use Rattle.hm_history.specs.declared.Entry.{Entry}
use Rattle.hm_history.specs.declared.StepError.{StepError}
use Rattle.hm_turns.specs.Sights.{Sight, GoesOn, IsShown, all_shares}
use Rattle.hm_turns.specs.Stepping.{is_halted}
use Rattle.hm_workers.specs.Peeking.{ArePeeks, IsRight, ReachesEnd, is_newer}
use Rattle.hm_workers.specs.declared.peeks.Peek.{Peek}
use Rattle.hm_workers.specs.declared.watching.WatchedBytes.{WatchedBytes}
use Rattle.hm_workers.specs.declared.watching.Checked.{Checked}
use Rattle.hm_workers.specs.declared.watching.Tried.{Tried}
use Rattle.seq_copies.specs.Copies.{HaveAreas, IsCopy, checked}
use Rattle.seq_copies.specs.declared.answers.Snapshot.{Snapshot}
use Rattle.seq_copies.specs.declared.answers.Still.{Still}

-- a pass with which at most this many tries were made: it goes on, adds nothing and forgets nothing, and each try
-- raises one of two numbers by at most one: how often the turn was found held, and how many marks were loaded
pub record HasWatched (tries : ℕ) (old new : Sight) : Type 0 where
  pub goes : GoesOn old new
  pub own : new.own ≡ old.own
  pub stops : new.stops ≡ old.stops
  pub told : (e : StepError) → old.told ≡ Some e → new.told ≡ Some e
  pub shown : (later : List Entry) → IsShown new later → IsShown old later
  pub few : new.busy + length new.marks ≤ old.busy + length old.marks + tries

-- peeks of what was asked for, which are right in each list that is shown later
abbrev pub RightPeeks : WatchedBytes → Sight → List Peek → Type 0
RightPeeks a v xs = ArePeeks a.proc a.addr a.len (IsRight v) xs

-- a copy of these bytes, which was taken of a front of the list and found areas
pub record IsKept (a : WatchedBytes) (list : List Entry) (s : Snapshot) : Type 0 where
  pub proc_is : s.proc ≡ a.proc
  pub addr_is : s.addr ≡ a.addr
  pub length_is : length s.bytes ≡ a.len
  pub copy : IsCopy s list
  pub areas : HaveAreas s s.at list

-- the peek of a copy that is current after this many entries
abbrev pub peek_of : Snapshot → ℕ → Peek
peek_of s n = record { proc = s.proc; addr = s.addr; bytes = s.bytes; count = n }

-- what follows from the check of a copy: a peek exactly if the copy holds, and no peek has the count
abbrev pub ChecksTo : Snapshot → Still → List Peek → Checked → List Peek → Type 0
ChecksTo s t xs Checked.Stale ys = (t.holds ≡ false) × (ys ≡ xs)
ChecksTo s t xs Checked.Same ys = (t.holds ≡ true) × (is_newer xs t.count ≡ false) × (ys ≡ xs)
ChecksTo s t xs Checked.New ys =
    (t.holds ≡ true) × (is_newer xs t.count ≡ true) × (ys ≡ xs ++ peek_of s t.count ∷ [])

-- a check of a copy
pub record Checks (v : Sight) (s : Snapshot) (xs : List Peek) (r : Checked) (w : Sight)
    (ys : List Peek) : Type 0 where
  pub seen : Still
  pub pass_is : w ≡ checked v s.proc seen
  pub whole : v.shares ≡ all_shares → seen.count ≡ length v.list
  pub holds : seen.holds ≡ nat_le seen.mark s.at
  pub answer : ChecksTo s seen xs r ys

-- the copy that a try leaves
abbrev pub HasKept : WatchedBytes → List Entry → Tried → Type 0
HasKept a list (Tried.Copied s) = IsKept a list s
HasKept a list (Tried.Kept s) = IsKept a list s
HasKept a list _ = Unit {0}

-- if the pass was told of no halt, its list is the last that is shown, and a look at it finds the bytes, the last
-- peek is of the whole list
abbrev pub LastsTo : WatchedBytes → Sight → List Peek → Type 0
LastsTo a w xs = is_halted w.told ≡ false → IsShown w w.list → ReachesEnd a.proc a.addr a.len w.list xs
