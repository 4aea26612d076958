-- How many lines of a text are the same as one.
use Rattle.std.proofs.Common.{◌≡◌, ℕ, ◌+◌, ◌≤◌, List, length}
use Rattle.hm_race_top.specs.Text.Conditions.Meets.{line_count}

-- so many were passed, and the rest has the others
pub record CountedTo (lines text rest : List ℕ) (count : ℕ) : Type 0 where
  pub all : line_count lines text ≡ count + line_count rest text
  pub few : count + length rest ≤ length lines
