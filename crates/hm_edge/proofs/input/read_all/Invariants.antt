use Rattle.std.proofs.Common.{◌≡◌, ℕ, ◌≤◌, List, length, Option}
use Rattle.hm_edge.specs.Input.{Came}
use Rattle.hm_edge.proofs.input.read_all.Given as goal

-- what came so far is the text, within the limit, and each call brought something
pub record SoFar (before now : Option (List ℕ)) (faults_before faults_now : ℕ) (text : List ℕ) (calls most : ℕ) : Type 0 where
  pub came : Came before now text
  pub faults : faults_now ≡ faults_before
  pub small : length text ≤ most
  pub turns : calls ≤ length text

abbrev pub invariant-loop-turn : goal.invariant-loop-turn
invariant-loop-turn g l =
    SoFar (g.S.Source.state l.fn.source).left (g.S.Source.state l.source).left (g.S.Source.state l.fn.source).faults (g.S.Source.state l.source).faults l.text l.turn l.fn.most
