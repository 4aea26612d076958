use Rattle.std.proofs.Common.{◌≡◌, ◌+◌, [], length, map}
use Rattle.std.specs.Prelude.{string_bytes}
use Rattle.hm_trace_top.specs.Words.{rules_on}
use Rattle.hm_trace_top.proofs.words.rules_of.Given as goal

-- the rules so far, and the words that are left, come to what all words come to
abbrev pub invariant-loop-left : goal.invariant-loop-left
invariant-loop-left l = record {
  same : rules_on l.rules.items l.at (map string_bytes l.left) ≡ rules_on [] 2 (map string_bytes l.fn.words);
  counts : l.at + length l.left ≡ 2 + length l.fn.words;
}

abbrev pub decreases-loop-left : goal.decreases-loop-left
decreases-loop-left l = length l.left
