-- What the words after the program's name ask for.
use Rattle.std.specs.Prelude.{◌≡◌, ◌⊎◌, ℕ, ◌+◌, if◌then◌else◌, List, [], ◌∷◌, ◌++◌, Some, None, Result, Ok, Err, codes}
use Rattle.std.specs.Str.{bytes_eq}
use Rattle.hm_protocol.specs.declared.rules.Rule.{Rule}
use Rattle.hm_trace_top.specs.Names.{rule_named}
use Rattle.hm_trace_top.specs.declared.ended.Ended.{Ended}
use Rattle.hm_trace_top.specs.declared.words.Task.{Task}

-- what is asked for
pub data Asked : Type 0 where
  Verdicts : Asked
  Expect : (rules : List Rule) → Asked  -- the verdicts; and how the call ends tells if one of these is not tested

-- the same of a task
abbrev pub asked_by : Task → Asked
asked_by Task.Verdicts = Asked.Verdicts
asked_by (Task.Expect rules) = Asked.Expect rules.items

-- these rules, and those that words name, the first of which has this number; or the first word that names none
abbrev pub rules_on : List Rule → ℕ → List (List ℕ) → Result (List Rule) Ended
rules_on rs n [] = Ok rs
rules_on rs n (w ∷ ws) = elim (rule_named w) [ None ↦ Err (Ended.NoRule n) | Some r ↦ rules_on (rs ++ r ∷ []) (n + 1) ws ]

-- the words after `--expect`
abbrev pub expected : Result (List Rule) Ended → Result Asked Ended
expected (Ok rs) = Ok (Asked.Expect rs)
expected (Err ended) = Err ended

-- what words ask for: the verdicts, or after `--expect` one rule at least; or how the call ends that does nothing
abbrev pub task_in : List (List ℕ) → Result Asked Ended
task_in [] = Ok Asked.Verdicts
task_in (w ∷ []) = Err Ended.Usage
task_in (w ∷ v ∷ ws) =
    if bytes_eq w (codes "--expect") then expected (rules_on [] 2 (v ∷ ws)) else Err Ended.Usage

-- how a call ends whose words were read so, and that does nothing; or memory ran out
abbrev pub HasNoTask : {X : Type 0} → Result X Ended → Ended → Type 0
HasNoTask x ended = (x ≡ Err ended) ⊎ (ended ≡ Ended.NoMemory)
