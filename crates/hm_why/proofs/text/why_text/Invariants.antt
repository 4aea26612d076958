use Rattle.std.proofs.Common.{◌≡◌, ℕ, List}
use Rattle.hm_history.specs.declared.Entry.{Entry}
use Rattle.hm_why.specs.Follows.{Follows}
use Rattle.hm_why.specs.Loads.{why_lines}
use Rattle.hm_why.specs.declared.writers.Writers.{Writers}
use Rattle.hm_why.proofs.text.why_text.Given as goal

-- the entries so far were noted, and the lines of their loads added
pub record SoFar (h : List Entry) (w : Writers) (text : List ℕ) (at : ℕ) : Type 0 where
  pub follows : Follows w h at
  pub lines : text ≡ why_lines h at

abbrev pub invariant-loop-at : goal.invariant-loop-at
invariant-loop-at l = SoFar l.entries l.writers l.text l.at
