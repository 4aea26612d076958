-- The laws, as statements.
use Rattle.std.specs.Prelude.{◌≡◌, ℕ, true, false, List, map}
use Rattle.hm_base.specs.Program.{Program, IsScript}
use Rattle.hm_history.specs.Kernel.Run.{run}
use Rattle.hm_race_laws.specs.Outcomes.{raced}
use Rattle.hm_race_top.specs.Run.Known.{KnownValue, IsComplete, AreKnown, outcomes_of}
use Rattle.hm_race_top.specs.Text.Conditions.Asking.{NoneHas}
use Rattle.hm_race_top.specs.Text.Conditions.Laws.{AllListed, AllReal}
use Rattle.hm_race_top.specs.Text.Laws.{lines_of}
use Rattle.hm_race_top.specs.Text.Text.{Way}
use Rattle.hm_race_top.specs.declared.text.block.OutcomeBlock.{OutcomeBlock}
use Rattle.hm_race_top.specs.Ways.{ways_of, blocks_known, AreTrue, HaveAll}
use Rattle.hm_script.specs.Built.{has_drain}

-- the answers of the ways are the outcomes that a search knows
abbrev pub WaysAreOutcomes : Type 0
WaysAreOutcomes = (c : Program) (ns : List KnownValue) → map (λ (w : Way). w.answers) (ways_of c ns) ≡ outcomes_of c ns

-- after a `drain` no turn adds an entry
abbrev pub DrainIsLast : Type 0
DrainIsLast =
    (c : Program) → IsScript c → has_drain c.schedule ≡ true → (turns : List ℕ) → raced c (run c) turns ≡ run c

-- what is written of states that are known is true, if the schedule does not end in `drain`
abbrev pub KnownIsTrue : Type 0
KnownIsTrue =
    (c : Program) → IsScript c → has_drain c.schedule ≡ false → (ns : List KnownValue) → AreKnown c (run c) ns
    → AreTrue c (blocks_known c ns)

-- and it is all, if the states are
abbrev pub CompleteIsAll : Type 0
CompleteIsAll = (c : Program) (ns : List KnownValue) → IsComplete c (run c) ns → HaveAll c (blocks_known c ns)

-- blocks that are true are outcomes of the race
abbrev pub TrueIsReal : Type 0
TrueIsReal = (c : Program) (bs : List OutcomeBlock) → AreTrue c bs → AllReal c (lines_of bs)

-- and if they are all, every outcome is listed
abbrev pub AllIsListed : Type 0
AllIsListed = (c : Program) (bs : List OutcomeBlock) → HaveAll c bs → AllListed c (lines_of bs)

-- no outcome of a script's race has a line that no operation of the script may end with, so nothing is lost if a
-- condition with such a line is not asked for
abbrev pub NoneHasUnasked : Type 0
NoneHasUnasked = (c : Program) → IsScript c → NoneHas c
