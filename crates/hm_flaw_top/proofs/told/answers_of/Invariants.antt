use Rattle.std.proofs.Common.{◌≡◌, ℕ, List, take}
use Rattle.hm_base.specs.Program.{Program}
use Rattle.hm_flaws.specs.declared.flaws.Flaw.{Flaw}
use Rattle.hm_flaws.specs.declared.parts.Part.{Part}
use Rattle.hm_flaw_parts.specs.Judged.{judged_parts}
use Rattle.hm_flaw_top.specs.declared.text.table.RuleAnswer.{RuleAnswer}
use Rattle.hm_history.specs.declared.Entry.{Entry}
use Rattle.hm_flaw_top.specs.Told.{rules_in, AreAnswers}
use Rattle.hm_flaw_top.proofs.told.answers_of.Given as goal

-- the lines so far are those of the drivers so far
pub record SoFar (parts : List Part) (most : ℕ) (c : Program) (h : List Entry) (flaws : List Flaw) (rows : List RuleAnswer) (at : ℕ) : Type 0 where
  pub rules : rules_in rows ≡ take at flaws
  pub are : AreAnswers parts most c h rows

abbrev pub invariant-loop-flaw : goal.invariant-loop-flaw
invariant-loop-flaw l = SoFar (judged_parts l.fn.task.judging) l.fn.task.most l.fn.script l.fn.set_up l.flaw-items l.rows l.flaw-index
