-- A line for each driver: its rule, what was found, and how many states are known.
use Rattle.std.specs.Prelude.{ℕ, ◌+◌, Bool, List, ◌∷◌, ◌++◌, length, codes}
use Rattle.std.specs.List.{flat_map}
use Rattle.std.specs.Fmt.{decimal}
use Rattle.hm_flaws.specs.declared.flaws.Flaw.{Flaw}
use Rattle.hm_race_top.specs.Text.Text.{padded, states_line}
use Rattle.hm_flaw_search.specs.Outcomes.{extent, nothing_word}
use Rattle.hm_flaw_top.specs.Text.Names.{name_of, part_text}
use Rattle.hm_flaw_search.specs.declared.answer.Answer.{Answer}
use Rattle.hm_flaw_search.specs.declared.answer.Found.{Found}
use Rattle.hm_flaw_top.specs.declared.text.table.RuleAnswer.{RuleAnswer}

-- what was found: the part that is broken, or `stuck`, with the number of entries; or `none`, or `unused`
abbrev pub outcome_words : Bool → Found → List ℕ
outcome_words unused (Found.Broken es e part) = part_text part ++ (codes " after " ++ decimal (length es + 1))
outcome_words unused (Found.Stuck es) = codes "stuck after " ++ decimal (length es)
outcome_words unused Found.Nothing = nothing_word unused

-- the line of a driver: its rule, with spaces up to a width of 24 bytes, what was found, and how many states are known
unfoldable pub rule_line : Flaw → Answer → List ℕ
rule_line l a =
    padded 24 (name_of l)
    ++ (32 ∷ (outcome_words a.unused a.found ++ (32 ∷ states_line a.states (extent a.found a.end))))

-- the lines of drivers
abbrev pub rules_text : List RuleAnswer → List ℕ
rules_text rows = flat_map (λ row. rule_line row.rule row.answer) rows
