-- How a call ends that has searched the races of drivers, if its text goes out whole.
use Rattle.std.specs.Prelude.{ℕ, ◌==◌, Bool, true, false, List}
use Rattle.std.specs.List.{list_any}
use Rattle.hm_edge.specs.declared.status.RaceEnd.{RaceEnd}
use Rattle.hm_edge.specs.declared.status.Status.{Status}
use Rattle.hm_flaw_search.specs.Outcomes.{answer_code}
use Rattle.hm_flaw_search.specs.declared.answer.Answer.{Answer}
use Rattle.hm_flaw_top.specs.declared.text.table.RuleAnswer.{RuleAnswer}

-- a driver was found that does what it must not do; or of one that is not known; or neither
abbrev pub ending_by : Bool → Bool → Status
ending_by true cut = Status.Race RaceEnd.Broken
ending_by false true = Status.Race RaceEnd.Open
ending_by false false = Status.Done

-- how a call ends that says this of one driver
abbrev pub ending_of : Answer → Status
ending_of a = ending_by (answer_code a == 1) (answer_code a == 10)

-- one of the lines has this exit status
abbrev pub has_code : ℕ → List RuleAnswer → Bool
has_code code rows = list_any (λ row. answer_code row.answer == code) rows

-- how a call ends that says this of several drivers: by the worst of them
abbrev pub ending_of_all : List RuleAnswer → Status
ending_of_all rows = ending_by (has_code 1 rows) (has_code 10 rows)
