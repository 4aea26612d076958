-- The rule of the table, and what each step tells.
-- Word 0 is COUNT, the published length of the history, and word 1 is TURN, 1 while a seat has the value.
-- Word p + 2 is the mark of the process p: the length of the history just after the last entry that touches it.
use Rattle.std.specs.Prelude.{◌≡◌, ◌≢◌, ◌⊎◌, ℕ, ◌+◌, ◌-◌, ◌<◌, ◌≤◌, true, false, List, [], ◌∷◌, ◌++◌, length}
use Rattle.std.specs.Prelude.{slice_index, sum_by, max, Option, Some, None, is_none}
use mathlib.Core.Option.{some}
use mathlib.Core.Option as maybe
use mathlib.Core.List.{IsPrefix}
use lib.ListN.{get_elem?}
use Rattle.atomic_table.specs.Table.{State, Me, Step}
use Rattle.atomic_table.specs.Seated.{TableId}
use Rattle.hm_history.specs.declared.Entry.{Entry}
use Rattle.hm_base.specs.Program.{Program}
use Rattle.hm_base.specs.declared.ops.Version.TheVariants.{One}
use Rattle.hm_history.specs.declared.StepError.{StepError}
use Rattle.hm_turns.specs.Touching.{last_touched}
use Rattle.hm_turns.specs.declared.known.Knowledge.{Knowledge}
use Rattle.hm_turns.specs.Sights.{Sight, OwnsOnce, IsQuiet, Follows, AreMarks, AreThere, times, longer, shorter}
use Rattle.hm_turns.specs.Sights.{either_told, all_shares}

-- the published length of the history
abbrev pub count_word : List ℕ → ℕ
count_word ws = slice_index ws 0

-- 1 while a seat has the value, and else 0
abbrev pub turn_word : List ℕ → ℕ
turn_word ws = slice_index ws 1

-- the shares of all views
abbrev pub shares_of : List Knowledge → ℕ
shares_of views = sum_by (λ (v : Knowledge). v.shares) views

-- how often a position is somebody's own
abbrev pub owned : ℕ → List Knowledge → ℕ
owned x views = sum_by (λ (v : Knowledge). times x v.own) views

-- what a view knows is so
pub record Fits (of : Program) (log : List Entry) (stopped : Option StepError) (count : ℕ) (v : Knowledge)
    : Type 0 where
  pub script_is : 0 < v.shares → v.script ≡ of
  pub seen : IsPrefix v.list log
  pub joined : IsPrefix v.other log
  pub shown : v.holds ≡ false → length v.list ≤ count
  pub counted : v.loaded ≤ count
  pub halted : (e : StepError) → v.told ≡ Some e → stopped ≡ Some e
  pub there : AreThere v.list v.own
  pub marked : AreMarks log v.marks

-- a view that is not spent has seen all that is published
pub record HasFront (count : ℕ) (views : List Knowledge) : Type 0 where
  pub seat : ℕ
  pub view : Knowledge
  pub at : get_elem? views seat ≡ some view
  pub live : 0 < view.shares
  pub whole : count ≤ length view.list

-- the marks of all processes, if the entries from n on are not counted yet
pub record MarkFits (log : List Entry) (n k : ℕ) (p : ℕ) : Type 0 where
  pub inside : k ≤ length log
  pub follows : Follows log k p
  pub quiet : IsQuiet log k n p

-- the mark of a process, with which a copy of its memory is compared
abbrev pub mark_word : List ℕ → ℕ → ℕ
mark_word ws p = slice_index ws (p + 2)

-- every process's mark is right for the entries below n
abbrev pub MarksFit : List Entry → ℕ → List ℕ → Type 0
MarksFit log n ws = (p : ℕ) → p < 32 → MarkFits log n (mark_word ws p) p

-- one seat has the value, and what it has seen is the history
pub record IsOut (log : List Entry) (stopped : Option StepError) (words : List ℕ) (views : List Knowledge)
    : Type 0 where
  pub seat : ℕ
  pub view : Knowledge
  pub at : get_elem? views seat ≡ some view
  pub holds : view.holds ≡ true
  pub live : 0 < view.shares
  pub log_is : view.list ≡ log
  pub told_is : view.told ≡ stopped
  pub even : view.ahead ≡ false → count_word words ≡ length log
  pub one_more : view.ahead ≡ true → length log ≡ count_word words + 1
  pub marked : view.marked ≡ true → MarksFit log (length log) words
  pub others : (j : ℕ) (v : Knowledge) → get_elem? views j ≡ some v → j ≢ seat → v.holds ≡ false

module _ {S : Type 0} (script : S → Program) (history : S → List Entry) (halt : S → Option StepError) where
  pub record IsHome (of : Program) (log : List Entry) (stopped : Option StepError)
      (homes : List (maybe.Option (Option S))) : Type 0 where
    pub value : S
    pub at : get_elem? homes 0 ≡ some (some (Some value))
    pub script_is : script value ≡ of
    pub log_is : history value ≡ log
    pub halt_is : halt value ≡ stopped

  -- the turn is free: the value is in its slot, all of its history is published, and no seat has the turn
  abbrev pub AtHome : Program → List Entry → Option StepError → State (Option S) Knowledge → Type 0
  AtHome of log stopped s =
      (turn_word s.words ≡ 0)
      × (count_word s.words ≡ length log)
      × IsHome of log stopped s.homes
      × ((j : ℕ) (v : Knowledge) → get_elem? s.views j ≡ some v → v.holds ≡ false)

  -- the turn is held
  abbrev pub Away : List Entry → Option StepError → State (Option S) Knowledge → Type 0
  Away log stopped s = (turn_word s.words ≡ 1) × IsOut log stopped s.words s.views

  -- where the value is
  abbrev pub Placed : Program → List Entry → Option StepError → State (Option S) Knowledge → Type 0
  Placed of log stopped s = AtHome of log stopped s ⊎ Away log stopped s

  pub record Kept (of : Program) (s : State (Option S) Knowledge) : Type 0 where
    pub log : List Entry
    pub stopped : Option StepError
    pub wide : 33 < length s.words
    pub published : count_word s.words ≤ length log
    pub placed : Placed of log stopped s
    pub each : (j : ℕ) (v : Knowledge) → get_elem? s.views j ≡ some v → Fits of log stopped (count_word s.words) v
    pub front : HasFront (count_word s.words) s.views
    pub shared : shares_of s.views ≡ all_shares
    pub apart : (x : ℕ) → owned x s.views ≤ 1
    pub marks : MarksFit log (count_word s.words) s.words

-- what a seat of the table sees: the value, if it has it, and what it knows
abbrev Sat : Type 0 → Type 0
Sat S = Me (Option S) Knowledge

-- a step of the table
abbrev At : Type 0 → Type 0
At S = Step (Option S)

-- a script for a view that nobody looks at any more
abbrev pub no_script : Program
no_script = record { version = One; frames = 0; devices = []; skip = 0; actors = []; schedule = [] }

-- the view of the first seat
abbrev pub opened : Program → Knowledge
opened of =
    record {
      script = of;
      list = [];
      other = [];
      own = [];
      shares = all_shares;
      loaded = 0;
      marks = [];
      busy = 0;
      stops = 0;
      told = None;
      ahead = false;
      marked = false;
      holds = false;
    }

-- the first seat takes the value, with its history and its mark
abbrev pub winner : Knowledge → List Entry → Option StepError → Knowledge
winner v log stopped = record v { list = log; told = stopped; ahead = false; marked = true; holds = true }

-- the view after the turn was found held by another
abbrev pub kept_out : Knowledge → Knowledge
kept_out v = record v { busy = v.busy + 1 }

-- the history became longer by one entry
abbrev pub grown : Knowledge → List Entry → Entry → Knowledge
grown v log e =
    record v {
      list = log;
      own = v.own ++ record { at = length v.list; entry = e } ∷ [];
      ahead = true;
      marked = is_none (last_touched log);
    }

-- the mark is raised
abbrev pub raised : Knowledge → Knowledge
raised v = record v { marked = true }

-- the history is published
abbrev pub even : Knowledge → Knowledge
even v = record v { ahead = false }

-- 1 if a value that was not halted is halted now
abbrev pub newly : Option StepError → Option StepError → ℕ
newly None None = 0
newly None (Some e) = 1
newly (Some e) after = 0

-- the view after the value was put back, and whether it was halted then
abbrev pub freed : Knowledge → Option StepError → Knowledge
freed v stopped = record v { stops = v.stops + newly v.told stopped; told = stopped; holds = false }

-- a cut, and what two views are together
abbrev pub left_of : Knowledge → Knowledge
left_of v = record v { shares = v.shares - 1 }

-- what the second half of a cut begins with: nothing of its own, and no counts
abbrev pub right_of : Knowledge → Knowledge
right_of v =
    record v { own = []; shares = 1; busy = 0; stops = 0; other = []; ahead = false; marked = false; holds = false }

-- what two views are once one has taken the other in: the longer history, and all counts together
abbrev pub both_of : Knowledge → Knowledge → Knowledge
both_of v w = record {
  script = v.script;
  list = longer v.list w.list;
  other = shorter v.list w.list;
  own = v.own ++ w.own;
  shares = v.shares + w.shares;
  loaded = max v.loaded w.loaded;
  marks = v.marks ++ w.marks;
  busy = v.busy + w.busy;
  stops = v.stops + w.stops;
  told = either_told v.told w.told;
  ahead = v.ahead;
  marked = v.marked;
  holds = v.holds;
}

-- what a view is once it was taken in
abbrev pub spent : Knowledge
spent =
    record {
      script = no_script;
      list = [];
      other = [];
      own = [];
      shares = 0;
      loaded = 0;
      marks = [];
      busy = 0;
      stops = 0;
      told = None;
      ahead = false;
      marked = false;
      holds = false;
    }

-- the view after its two histories were compared, of which it keeps the longer one
abbrev pub compared : Knowledge → Knowledge
compared v = record v { other = [] }

module _ {S : Type 0} (script : S → Program) (history : S → List Entry) (halt : S → Option StepError) where
  -- what is known of the value that is taken
  pub record Won (v : Knowledge) (x : S) : Type 0 where
    pub script_is : script x ≡ v.script
    pub later : IsPrefix v.list (history x)
    pub counted : v.loaded ≤ length (history x)
    pub told : (e : StepError) → v.told ≡ Some e → halt x ≡ Some e
    pub there : AreThere (history x) v.own
    pub marked : AreMarks (history x) v.marks

  abbrev pub took : At S → Sat S → ℕ → Sat S → Type 0
  took st m n m' =
      (n ≡ 0 → (x : S) × Won m.0 x × (m' ≡ (winner m.0 (history x) (halt x), (0, Some x) ∷ [])))
      × (n ≢ 0 → (m' ≡ (kept_out m.0, [])) × (m.0.shares ≢ all_shares) × (st.word ≡ 1) × (st.first ≡ 0)
      × (st.second ≡ 1))

  -- the value in hand has one entry more
  abbrev pub noted : At S → Sat S → ℕ → Sat S → Type 0
  noted st m n m' =
      (m'.0.busy ≡ m.0.busy)
      × ((x : S) (e : Entry) → m.1 ≡ (0, Some x) ∷ [] → history x ≡ m.0.list ++ e ∷ [] → m'
      ≡ (grown m.0 (history x) e, m.1))

  abbrev pub published_as : At S → Sat S → ℕ → Sat S → Type 0
  published_as st m n m' = m' ≡ (even m.0, m.1)

  abbrev pub gave : At S → Sat S → ℕ → Sat S → Type 0
  gave st m n m' = (m'.0.busy ≡ m.0.busy) × ((x : S) → m.1 ≡ (0, Some x) ∷ [] → m' ≡ (freed m.0 (halt x), []))

-- a mark was raised
abbrev pub raised_as : {S : Type 0} → At S → Sat S → ℕ → Sat S → Type 0
raised_as st m n m' = m' ≡ (raised m.0, m.1)

-- the view after the count was loaded
abbrev pub told_count : Knowledge → ℕ → Knowledge
told_count v n = record v { loaded = n }

-- the count was loaded
abbrev pub counted_as : {S : Type 0} → At S → Sat S → ℕ → Sat S → Type 0
counted_as st m n m' =
    (m' ≡ (told_count m.0 n, m.1)) × (m.0.loaded ≤ n) × (length m.0.list ≤ n)
    × (m.0.shares ≡ all_shares → n ≡ length m.0.list)

-- the view after a process's mark was loaded
abbrev pub told_mark : Knowledge → ℕ → ℕ → Knowledge
told_mark v p k = record v { marks = v.marks ++ record { proc = p; at = k; upto = v.loaded } ∷ [] }

-- a mark was loaded
abbrev pub marked_as : {S : Type 0} → At S → Sat S → ℕ → Sat S → Type 0
marked_as st m n m' = (m'.0.busy ≡ m.0.busy) × ((p : ℕ) → st.word ≡ p + 2 → m' ≡ (told_mark m.0 p n, m.1))

-- the step in which two histories were compared: one begins with the other
abbrev pub compared_as : {S : Type 0} → At S → Sat S → ℕ → Sat S → Type 0
compared_as st m n m' = (m' ≡ (compared m.0, m.1)) × IsPrefix m.0.other m.0.list × OwnsOnce m.0.own m.0.list

-- what contracts see of a pass
abbrev pub sight_of : TableId → List Knowledge → Sight
sight_of table [] =
    record {
      desk = record { table = table; script = no_script };
      list = [];
      own = [];
      shares = 0;
      loaded = 0;
      marks = [];
      busy = 0;
      stops = 0;
      told = None;
    }
sight_of table (v ∷ vs) =
    record {
      desk = record { table = table; script = v.script };
      list = v.list;
      own = v.own;
      shares = v.shares;
      loaded = v.loaded;
      marks = v.marks;
      busy = v.busy;
      stops = v.stops;
      told = v.told;
    }

-- the holder's list is longer than what is published
pub record IsAhead (v : Knowledge) : Type 0 where
  pub holds : v.holds ≡ true
  pub ahead : v.ahead ≡ true
  pub marked : v.marked ≡ is_none (last_touched v.list)

-- a pass between two calls
pub record IsResting (v : Knowledge) : Type 0 where
  pub free : v.holds ≡ false
  pub alone : v.other ≡ []
  pub live : 0 < v.shares

-- there is one view alone, and it rests: so a value can be taken out of the table
abbrev pub AreResting : List Knowledge → Type 0
AreResting [] = ⊥
AreResting (v ∷ vs) = (vs ≡ []) × IsResting v × OwnsOnce v.own v.list
