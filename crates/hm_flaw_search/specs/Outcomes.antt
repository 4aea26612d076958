-- What a search has found of a driver, and the exit status of a program that writes it.
use Rattle.std.specs.Prelude.{ℕ, ◌+◌, Bool, true, false, List, length, codes}
use Rattle.hm_search.specs.declared.search.End.{End}
use Rattle.hm_flaw_search.specs.declared.answer.Answer.{Answer}
use Rattle.hm_flaw_search.specs.declared.answer.Found.{Found}

-- how many entries of the race come after the set-up, the one that breaks a part among them
abbrev pub race_length : Found → ℕ
race_length (Found.Broken es e part) = length es + 1
race_length (Found.Stuck es) = length es
race_length Found.Nothing = 0

-- the word for a search that found nothing
abbrev pub nothing_word : Bool → List ℕ
nothing_word true = codes "unused"
nothing_word false = codes "none"

-- how much of the race is known, as it is written: a search that came to an entry that breaks a part has looked at all
-- that it was to look at
abbrev pub extent : Found → End → End
extent (Found.Broken es e part) End.Reached = End.Whole
extent found end = end

-- the exit status, by what was found and by how the search ended
abbrev pub code_by : Found → End → ℕ
code_by Found.Nothing End.Whole = 0
code_by Found.Nothing end = 10
code_by found end = 1

-- the exit status: 1 if the driver does what it must not do, 0 if it does so in no order of turns, and 10 if the search
-- ended before it was known
abbrev pub answer_code : Answer → ℕ
answer_code a = code_by a.found a.end
