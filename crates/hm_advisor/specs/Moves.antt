-- Where a page should move, by how often it was accessed by the CPU and by the device.
use Rattle.std.specs.Prelude.{◌≡◌, true, false, if◌then◌else◌, List, [], ◌∷◌, ◌++◌}
use Rattle.std.specs.List.{flat_map}
use Rattle.hm_history.specs.declared.Entry.{Entry}
use Rattle.skip_rules.specs.Rules.{outweighs}
use Rattle.hm_advisor.specs.Counts.{counts}
use Rattle.hm_advisor.specs.declared.counts.Count.{Count}
use Rattle.hm_advisor.specs.declared.advice.Move.{Move}
use Rattle.hm_advisor.specs.declared.advice.Advice.{Advice}

-- the page of a count moves to the mirror's device
abbrev pub to_device : Count → Move
to_device c = record { mirror = c.mirror; page = c.page; to_device = true }

-- it moves to the system
abbrev pub to_system : Count → Move
to_system c = record { mirror = c.mirror; page = c.page; to_device = false }

-- it moves to the device if the device's accesses outweigh the CPU's, and to the system if it is the other way
-- round
abbrev pub moves_of : Count → List Move
moves_of c =
    (if outweighs c.dev c.cpu then to_device c ∷ [] else []) ++ (if outweighs c.cpu c.dev then to_system c ∷ [] else [])

-- the moves of pages that were counted, in their order
abbrev pub moves_for : List Count → List Move
moves_for cs = flat_map moves_of cs

-- the counts of the history, and the moves of its pages
pub record IsAdvice (h : List Entry) (a : Advice) : Type 0 where
  pub counts_are : a.counts ≡ counts h
  pub moves_are : a.moves ≡ moves_for (counts h)
