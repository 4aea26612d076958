-- What a pass knows, as contracts see it, and what a turn does to it.
use Rattle.std.specs.Prelude.{◌≡◌, ◌≢◌, ◌⊎◌, ℕ, ◌+◌, ◌-◌, ◌<◌, ◌≤◌, true, List, [], ◌∷◌, ◌++◌, length, slice_get}
use Rattle.std.specs.Prelude.{if◌then◌else◌, nat_lt, max, count_by, ◌==◌, Option, Some, None}
use mathlib.Core.List.{IsPrefix}
use Rattle.atomic_table.specs.Seated.{TableId}
use Rattle.hm_base.specs.Program.{Program}
use Rattle.hm_history.specs.declared.Entry.{Entry}
use Rattle.hm_history.specs.declared.Progress.{Progress}
use Rattle.hm_history.specs.declared.Progress.TheVariants.{Did, Waiting, Idle}
use Rattle.hm_history.specs.declared.StepError.{StepError}
use Rattle.hm_turns.specs.declared.known.Marked.{Marked}
use Rattle.hm_turns.specs.declared.known.Own.{Own}
use Rattle.hm_turns.specs.declared.turn.Turn.{Turn}
use Rattle.hm_turns.specs.declared.turn.Turn.TheVariants.{Busy, Stopped, Halted, Did as Answered}
use Rattle.hm_turns.specs.Touching.{touch_at}
use Rattle.hm_turns.specs.Stepping.{IsItsCause, IsEntry, history_after, is_halted, most_entries}

-- the shares of all passes of a value together
abbrev pub all_shares : ℕ
all_shares = 64

-- where a value is shared, and its script: what passes and their value have in common
pub record Desk : Type 0 where
  pub table : TableId
  pub script : Program

-- what a pass knows of the value that it shares. A turn changes it as the clauses say, and nobody else does
pub record Sight : Type 0 where
  pub desk : Desk
  pub list : List Entry  -- the history as far as it was seen
  pub own : List Own  -- the entries that were added with the pass
  pub shares : ℕ
  pub loaded : ℕ  -- the greatest published length that was loaded
  pub marks : List Marked  -- the marks that were loaded
  pub busy : ℕ  -- how often the turn was found held
  pub stops : ℕ  -- how often a step made with the pass halted the value
  pub told : Option StepError  -- why the value is halted, if it was told so

-- how often a position is an own one
abbrev pub times : ℕ → List Own → ℕ
times x os = count_by (λ (o : Own). o.at == x) os

-- no entry at a position from k up to n touches the process
abbrev pub IsQuiet : List Entry → ℕ → ℕ → ℕ → Type 0
IsQuiet list k n p = (i : ℕ) → k ≤ i → i < n → touch_at list i ≢ Some p

-- the number k is 0, or the entry before it touches the process
abbrev pub Follows : List Entry → ℕ → ℕ → Type 0
Follows list k p = (k ≡ 0) ⊎ (touch_at list (k - 1) ≡ Some p)

-- a mark that was loaded is so in this list
pub record IsMark (list : List Entry) (m : Marked) : Type 0 where
  pub inside : m.at ≤ length list
  pub follows : Follows list m.at m.proc
  pub counted : m.upto ≤ length list
  pub quiet : IsQuiet list m.at m.upto m.proc

-- each mark that was loaded is right for the history seen
abbrev pub AreMarks : List Entry → List Marked → Type 0
AreMarks list [] = Unit {0}
AreMarks list (m ∷ ms) = IsMark list m × AreMarks list ms

-- at each own position stands the entry that was answered
abbrev pub AreThere : List Entry → List Own → Type 0
AreThere list [] = Unit {0}
AreThere list (o ∷ os) = (slice_get list o.at ≡ Some o.entry) × AreThere list os

-- own positions are distinct, and the own entries stand there
pub record OwnsOnce (own : List Own) (list : List Entry) : Type 0 where
  pub once : (x : ℕ) → times x own ≤ 1
  pub there : AreThere list own

-- the longer of two histories, the first if they have one length
abbrev pub longer : List Entry → List Entry → List Entry
longer xs ys = if nat_lt (length xs) (length ys) then ys else xs

-- the shorter of two histories, the second if they have one length
abbrev pub shorter : List Entry → List Entry → List Entry
shorter xs ys = if nat_lt (length xs) (length ys) then xs else ys

-- the own entries after an answer to a history of n entries
abbrev pub own_after : List Own → Progress → ℕ → List Own
own_after os (Did e) n = os ++ record { at = n; entry = e } ∷ []
own_after os (Waiting why) n = os
own_after os Idle n = os

-- one of two halts that were told
abbrev pub either_told : Option StepError → Option StepError → Option StepError
either_told None w = w
either_told (Some e) w = Some e

-- the first pass
abbrev pub whole_of : Desk → Sight
whole_of d =
    record {
      desk = d;
      list = [];
      own = [];
      shares = all_shares;
      loaded = 0;
      marks = [];
      busy = 0;
      stops = 0;
      told = None;
    }

-- the new pass of a split
abbrev pub half_of : Sight → Sight
half_of v = record v { own = []; shares = 1; busy = 0; stops = 0 }

-- a pass that has taken in another
abbrev pub joined : Sight → Sight → Sight
joined v w = record {
  desk = v.desk;
  list = longer v.list w.list;
  own = v.own ++ w.own;
  shares = v.shares + w.shares;
  loaded = max v.loaded w.loaded;
  marks = v.marks ++ w.marks;
  busy = v.busy + w.busy;
  stops = v.stops + w.stops;
  told = either_told v.told w.told;
}

-- a pass goes on: it stays with its value, keeps its shares, and forgets nothing
pub record GoesOn (old new : Sight) : Type 0 where
  pub desk : new.desk ≡ old.desk
  pub shares : new.shares ≡ old.shares
  pub later : IsPrefix old.list new.list

-- a list that is shown to a pass: it begins with the list before, has as many entries as each length that was loaded,
-- and each mark that was loaded is right in it
pub record IsShown (v : Sight) (list : List Entry) : Type 0 where
  pub later : IsPrefix v.list list
  pub counted : v.loaded ≤ length list
  pub marked : AreMarks list v.marks

module _ (legal : Program → List Entry → Type 0) (v : Sight) where
  -- the value was halted before
  pub record Halts (w : Sight) : Type 0 where
    pub legal_is : legal v.desk.script w.list
    pub shown : IsShown v w.list
    pub halted : is_halted w.told ≡ true
    pub same : (e : StepError) → v.told ≡ Some e → w.told ≡ Some e
    pub pass_is : w ≡ record v { list = w.list; told = w.told }

module _ (legal : Program → List Entry → Type 0) (due : Program → List Entry → ℕ → Progress) (actor : ℕ)
    (v : Sight) where
  -- what was answered is due to the actor after a legal history h
  pub record Answers (p : Progress) (h : List Entry) (w : Sight) : Type 0 where
    pub legal_is : legal v.desk.script h
    pub shown : IsShown v h
    pub due_is : p ≡ due v.desk.script h actor
    pub running : v.told ≡ None
    pub room : IsEntry p → length h < most_entries
    pub pass_is : w ≡ record v { list = history_after h p; own = own_after v.own p (length h) }

  -- the step failed, and halted the value
  pub record Stops (e : StepError) (w : Sight) : Type 0 where
    pub legal_is : legal v.desk.script w.list
    pub shown : IsShown v w.list
    pub running : v.told ≡ None
    pub cause_is : IsItsCause (due v.desk.script w.list actor) w.list e
    pub pass_is : w ≡ record v { list = w.list; stops = v.stops + 1; told = Some e }

  abbrev pub TurnsTo : Turn → Sight → Type 0
  TurnsTo Busy w = (v.shares ≢ all_shares) × (w ≡ record v { busy = v.busy + 1 })
  TurnsTo (Answered p) w = (h : List Entry) × Answers p h w
  TurnsTo (Stopped e) w = Stops e w
  TurnsTo Halted w = Halts legal v w
