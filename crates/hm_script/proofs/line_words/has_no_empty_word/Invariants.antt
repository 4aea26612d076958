use Rattle.std.proofs.Common.{◌≡◌, length}
use Rattle.std.specs.List.{list_all}
use Rattle.hm_script.specs.Splitting.{split}
use Rattle.hm_script.specs.Reading.{is_some_word}
use Rattle.hm_script.proofs.line_words.has_no_empty_word.Given as goal

-- what was passed has no empty word
abbrev pub invariant-loop-word : goal.invariant-loop-word
invariant-loop-word l = list_all is_some_word (split l.line) ≡ list_all is_some_word (split l.rest)

abbrev pub decreases-loop-word : goal.decreases-loop-word
decreases-loop-word l = length l.rest
