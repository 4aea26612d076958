-- Lines of drivers, of which one more is added.
use Rattle.std.proofs.Common.{◌≡◌, ℕ, ◌+◌, ◌<◌, ◌⊎◌, inl, inr, List, [], ◌∷◌, ◌++◌, length, get_or, take, sym, ap, ◌∙◌, subst}
use Rattle.std.proofs.lemmas.List.{map-append, take_more}
use Rattle.hm_base.specs.Program.{Program}
use Rattle.hm_flaws.specs.declared.flaws.Flaw.{Flaw}
use Rattle.hm_flaws.specs.declared.parts.Part.{Part}
use Rattle.hm_flaw_search.specs.Answers.{IsAnswer}
use Rattle.hm_flaw_top.specs.declared.text.table.RuleAnswer.{RuleAnswer}
use Rattle.hm_history.specs.declared.Entry.{Entry}
use Rattle.hm_race_laws.specs.Closed.{IsListed}
use Rattle.hm_race_laws.proofs.Searching.{listed_cases}
use Rattle.hm_flaw_top.specs.Told.{rules_in, AreAnswers}

-- each line is an answer still
pub one_more : (parts : List Part) (most : ℕ) (c : Program) (h : List Entry) (rows : List RuleAnswer) (new : RuleAnswer) → AreAnswers parts most c h rows
    → IsAnswer parts new.rule c h most new.answer → AreAnswers parts most c h (rows ++ new ∷ [])
one_more parts most c h rows new are is row listed = by (listed_cases rows (new ∷ []) row listed)
  where
    by : IsListed rows row ⊎ IsListed (new ∷ []) row → IsAnswer parts row.rule c h most row.answer
    by (inl l) = are row l
    by (inr (inl e)) = subst (λ (x : RuleAnswer). IsAnswer parts x.rule c h most x.answer) e is
    by (inr (inr l)) = absurd l

-- the drivers are those so far, in their order
pub rules_more : (rows : List RuleAnswer) (new : RuleAnswer) (flaws : List Flaw) (i : ℕ) (d : Flaw) → i < length flaws → get_or flaws i d ≡ new.rule
    → rules_in rows ≡ take i flaws → rules_in (rows ++ new ∷ []) ≡ take (i + 1) flaws
rules_more rows new flaws i d below at so =
    map-append (λ (row : RuleAnswer). row.rule) rows (new ∷ [])
    ∙ ap (λ (ls : List Flaw). ls ++ new.rule ∷ []) so
    ∙ sym (take_more flaws i d below ∙ ap (λ (l : Flaw). take i flaws ++ l ∷ []) at)
