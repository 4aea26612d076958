use Rattle.std.proofs.Common.{◌≡◌, ◌++◌}
use Rattle.std.specs.Vec.Iter.{into_iter_items}
use Rattle.hm_edge.proofs.words.without_name.Given as goal

-- what was taken so far, and what is left, are all arguments
abbrev pub invariant-loop-word : goal.invariant-loop-word
invariant-loop-word l = record { taken : l.words.items ≡ l.yielded; all : l.yielded ++ into_iter_items l.word-iterator ≡ into_iter_items l.fn.args }
