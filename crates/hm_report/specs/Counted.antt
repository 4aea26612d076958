-- The ends of operations, counted.
use Rattle.std.specs.Prelude.{◌≡◌, ℕ, List, []}
use Rattle.hm_base.specs.Program.{Program}
use Rattle.hm_history.specs.Laws.{DueFrom}
use Rattle.hm_history.specs.declared.Entry.{Entry}
use Rattle.hm_report.specs.Report.{first_unended}
use Rattle.hm_report.specs.Ended.{ended_after}

-- how many operations of an actor have ended, by its entries
abbrev pub counted : Program → List Entry → ℕ → ℕ
counted c h a = (ended_after c h a).operations

-- of each actor, as many operations have ended as its entries tell
abbrev pub EndsAreCounted : Program → List Entry → Type 0
EndsAreCounted c h = (a : ℕ) → first_unended c h a ≡ counted c h a

-- if each entry was due, the ends of operations are counted
abbrev pub EndsOfDueAreCounted : Type 0
EndsOfDueAreCounted = (c : Program) (h : List Entry) → DueFrom c [] h → EndsAreCounted c h
