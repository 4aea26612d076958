-- The ways to the outcomes that a search knows, and what holds of what is written of them.
use Rattle.std.specs.Prelude.{◌≡◌, ◌≤◌, ℕ, true, if◌then◌else◌, length, List, [], ◌∷◌, ◌++◌, map, fold}
use Rattle.hm_base.specs.Program.{Program, IsScript, run_lines}
use Rattle.hm_history.specs.Laws.{DueFrom}
use Rattle.hm_history.specs.Kernel.Legal.{Legal}
use Rattle.hm_history.specs.Kernel.Run.{run}
use Rattle.hm_history.specs.Memory.Words.{numbers}
use Rattle.hm_history.specs.declared.Entry.{Entry}
use Rattle.hm_race_laws.specs.Closed.{IsListed}
use Rattle.hm_race_laws.specs.Outcomes.{Point, outcome, answers_of, ended}
use Rattle.hm_race_top.specs.Run.Known.{KnownValue}
use Rattle.hm_search.specs.Known.{turns_at}
use Rattle.hm_race_lines.specs.Answers.{answer_lines}
use Rattle.hm_race_top.specs.Text.Laws.{lines_of}
use Rattle.hm_race_top.specs.Text.Schedule.{with_turns}
use Rattle.hm_race_top.specs.Text.Text.{Way, block_of, blocks_of, with_block}
use Rattle.hm_race_top.specs.declared.text.block.OutcomeBlock.{OutcomeBlock}

-- the way to the state with this number, whose form this is, with the answers of `actors` actors
abbrev pub way_to : ℕ → List KnownValue → ℕ → Point → Way
way_to actors ns at f = record { answers = map f.answers (numbers 0 actors); turns = turns_at ns at }

-- the way to a state, with the answers of `actors` actors
abbrev pub way_by : ℕ → KnownValue → Way
way_by actors n = record { answers = map n.form.answers (numbers 0 actors); turns = n.turns }

-- the ways to those states at which all operations have ended, in the order in which a search came to them
abbrev pub ways_by : ℕ → List KnownValue → List Way
ways_by actors [] = []
ways_by actors (n ∷ ns) = if n.ended then way_by actors n ∷ ways_by actors ns else ways_by actors ns

-- the ways to the outcomes of a script's race, of what a search knows
abbrev pub ways_of : Program → List KnownValue → List Way
ways_of c ns = ways_by (length c.actors) ns

-- with the blocks of these ways, but for those whose lines are there already
abbrev pub with_ways : List OutcomeBlock → List Way → List OutcomeBlock
with_ways bs ws = fold (λ cs w. with_block cs (block_of w)) bs ws

-- what is written of them
abbrev pub blocks_known : Program → List KnownValue → List OutcomeBlock
blocks_known c ns = blocks_of (ways_of c ns)

-- The script with these turns after its schedule goes on from its set-up by entries that are due. Its history is legal,
-- all operations have ended, and the answers since the set-up are these. It is a script, if it has no more lines than
-- one.
pub record EndsSo (c : Program) (w : Way) : Type 0 where
  pub entries : List Entry
  pub run_is : run (with_turns c w.turns) ≡ run c ++ entries
  pub due : DueFrom c (run c) entries
  pub legal : Legal (with_turns c w.turns) (run c ++ entries)
  pub ended : ended (with_turns c w.turns) (run c ++ entries) ≡ true
  pub answers : outcome c (answers_of entries) ≡ w.answers
  pub script : run_lines (with_turns c w.turns).schedule ≤ 100000 → IsScript (with_turns c w.turns)

-- the block is true
pub record IsTrueOf (c : Program) (b : OutcomeBlock) : Type 0 where
  pub way : Way
  pub block : block_of way ≡ b
  pub ends : EndsSo c way

-- each block that is written is true
abbrev pub AreTrue : Program → List OutcomeBlock → Type 0
AreTrue c bs = (b : OutcomeBlock) → IsListed bs b → IsTrueOf c b

-- after every list of entries that are due one after the other from the set-up on, after which all operations have
-- ended, the lines of its outcome are those of a block
abbrev pub HaveAll : Program → List OutcomeBlock → Type 0
HaveAll c bs =
    (es : List Entry) → DueFrom c (run c) es → ended c (run c ++ es) ≡ true
    → IsListed (lines_of bs) (answer_lines (outcome c (answers_of es)))
