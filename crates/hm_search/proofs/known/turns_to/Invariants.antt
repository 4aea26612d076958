use Rattle.std.proofs.Common.{◌≡◌, ◌++◌, reverse}
use Rattle.hm_search.specs.Known.{turns_at}
use Rattle.hm_search.specs.Values.{all_known}
use Rattle.hm_search.proofs.known.turns_to.Given as goal

-- the turns that were found end those that are asked for
abbrev pub invariant-loop-turn : goal.invariant-loop-turn
invariant-loop-turn g l =
    turns_at (all_known g.K.SearchKey.form l.known) l.at ≡ turns_at (all_known g.K.SearchKey.form l.known) l.place ++ reverse l.turns.items

abbrev pub decreases-loop-turn : goal.decreases-loop-turn
decreases-loop-turn g l = l.place
