-- The laws, as statements.
use Rattle.std.specs.Prelude.{◌≡◌, ◌≤◌, ℕ, ◌↔◌, true, false, length, nat_lt, List, ◌++◌, map}
use Rattle.std.specs.List.{list_all}
use Rattle.hm_base.specs.Program.{Program, IsScript, run_lines}
use Rattle.hm_history.specs.Kernel.Due.{due}
use Rattle.hm_history.specs.Kernel.Going.{state_of}
use Rattle.hm_history.specs.Laws.{DueFrom}
use Rattle.hm_history.specs.Kernel.Legal.{Legal}
use Rattle.hm_history.specs.Kernel.Run.{run}
use Rattle.hm_history.specs.declared.Entry.{Entry}
use Rattle.hm_race_laws.specs.Outcomes.{Point, point_at, answers_of, raced}
use Rattle.hm_race_laws.specs.Closed.{IsListed, AreDistinct}
use Rattle.hm_script.specs.Built.{has_drain}
use Rattle.hm_script.specs.Spelling.{text}
use Rattle.hm_race_lines.specs.Answers.{answer_lines}
use Rattle.hm_race_top.specs.Text.Schedule.{with_turns}
use Rattle.hm_race_top.specs.Text.Text.{Way, block_of, blocks_of, turns_text}
use Rattle.hm_race_top.specs.declared.text.block.OutcomeBlock.{OutcomeBlock}

-- ---- schedules

-- the run of a script with turns after its schedule goes on from its own run by these turns
abbrev pub TurnsLead : Type 0
TurnsLead = (c : Program) (turns : List ℕ) → run (with_turns c turns) ≡ raced c (run c) turns

-- a script is one again, if its schedule has no `drain`, the turns are of its actors, and the lines are not too many
pub record MayHaveTurns (c : Program) (turns : List ℕ) : Type 0 where
  pub goes_on : has_drain c.schedule ≡ false
  pub actors : list_all (λ a. nat_lt a (length c.actors)) turns ≡ true
  pub few_lines : run_lines (with_turns c turns).schedule ≤ 100000

-- a script with such turns after its own schedule is a script
abbrev pub TurnsStand : Type 0
TurnsStand = (c : Program) (turns : List ℕ) → IsScript c → MayHaveTurns c turns → IsScript (with_turns c turns)

-- its text is the script's own, and then the lines of these turns
abbrev pub TurnsComeLast : Type 0
TurnsComeLast = (c : Program) (turns : List ℕ) → text (with_turns c turns) ≡ text c ++ turns_text turns

-- what is due, and what is legal, does not depend on a schedule
abbrev pub SameDue : Type 0
SameDue = (c : Program) (turns : List ℕ) (h : List Entry) (a : ℕ) → due (with_turns c turns) h a ≡ due c h a

-- turns after the schedule change nothing of what is legal
abbrev pub SameLegal : Type 0
SameLegal = (c : Program) (turns : List ℕ) (h : List Entry) → Legal (with_turns c turns) h ↔ Legal c h

-- the history after turns, and what is known of it: the entries since the set-up were due, and lead to the point of
-- these turns
pub record LeadsTo (c : Program) (h : List Entry) (turns : List ℕ) (x : Point) : Type 0 where
  pub entries : List Entry
  pub same : raced c h turns ≡ h ++ entries
  pub due : DueFrom c h entries
  pub state : state_of c (h ++ entries) ≡ x.state
  pub answers : answers_of entries ≡ x.answers

-- if a history has room for what the turns add
abbrev pub PointsAreLed : Type 0
PointsAreLed =
    (c : Program) (h : List Entry) (turns : List ℕ) → (point_at c h turns).state.after.length ≤ 2000000
    → LeadsTo c h turns (point_at c h turns)

-- ---- blocks

-- a way that is listed, whose block this is
pub record IsFound (ws : List Way) (b : OutcomeBlock) : Type 0 where
  pub way : Way
  pub listed : IsListed ws way
  pub block : block_of way ≡ b

-- each block that is written comes from a way that was found
abbrev pub BlocksAreFound : Type 0
BlocksAreFound = (ws : List Way) (b : OutcomeBlock) → IsListed (blocks_of ws) b → IsFound ws b

-- each way's answers are those of a block
abbrev pub lines_of : List OutcomeBlock → List (List ℕ)
lines_of bs = map (λ b. b.lines) bs

-- each way that was found has its answers written
abbrev pub WaysAreShown : Type 0
WaysAreShown = (ws : List Way) (w : Way) → IsListed ws w → IsListed (lines_of (blocks_of ws)) (answer_lines w.answers)

-- no outcome is written twice
abbrev pub NoneTwice : Type 0
NoneTwice = (ws : List Way) → AreDistinct (lines_of (blocks_of ws))
