-- What a judgement says of bytes holds.
use Rattle.std.proofs.Common.{◌≡◌, ℕ, ◌+◌, inl, inr, List, ◌∷◌, ◌++◌, length, refl, sym, subst, ap, ◌∙◌}
use Rattle.std.specs.Prelude.{map}
use Rattle.hm_base.specs.Program.{Program}
use Rattle.hm_history.specs.declared.Entry.{Entry}
use Rattle.hm_history.specs.Kernel.Due.{due}
use Rattle.hm_history.specs.Kernel.Run.{actors_of}
use Rattle.hm_script.specs.Automaton.{lines}
use Rattle.hm_script.specs.Spelling.{text}
use Rattle.hm_report.specs.Report.{history_line, report}
use Rattle.hm_report_front.specs.Heads.{IsHead}
use Rattle.hm_report_front.specs.Parts.{Differ}
use Rattle.hm_report_front.proofs.Scripts.{OneText}
use Rattle.hm_check.specs.FirstBad.{IsFirstBad, IsLegalReport}
use Rattle.hm_check.specs.Judged.{Judged}
use Rattle.hm_laws.specs.Laws.{HistoryIsLegal}
use Rattle.hm_check.specs.Parts.{TakenFrom, tail_of}
use Rattle.hm_check.proofs.Exact.{is_yes, judged_bad, judged_good, judged_head}
use Rattle.hm_judge.specs.Judgements.{HasBadHead, IsBadThere, IsJudgementAt, IsTold, StandsRight, verdict_of}
use Rattle.hm_judge.specs.Judging.{IsJudgementBehind, IsJudgementOn}
use Rattle.hm_judge.specs.declared.judgement.BadReport.{BadReport}
use Rattle.hm_judge.specs.declared.judgement.Judgement.{Judgement}

told_here : (whole bytes rest tail : List ℕ) (c : Program) (h : List Entry) (first n : ℕ) (b : BadReport) → TakenFrom c bytes c h rest → tail ≡ tail_of c h → Differ (lines tail) (lines rest) n
    → lines whole ≡ lines (text c) ++ history_line ∷ lines bytes → first ≡ length (lines (text c)) + 2 → IsBadThere c h first (lines rest) n b → IsTold whole (Judgement.Bad b)
told_here whole bytes rest tail c h first n b t is differ parts at said = inr (record {
  script = c;
  history = h;
  left = lines rest;
  same = n;
  read = record { script = t.script; dues = t.dues; few = t.few; lines_are = parts ∙ ap (λ (z : List (List ℕ)). lines (text c) ++ history_line ∷ z) t.lines_are };
  differ = subst (λ (z : List ℕ). Differ (lines z) (lines rest) n) is differ;
  said = subst (λ (k : ℕ). IsBadThere c h k (lines rest) n b) at said;
})

-- what is said of a line behind the entries holds
pub told_bad : (whole bytes rest tail : List ℕ) (c d : Program) (h : List Entry) (first n : ℕ) (b : BadReport) → TakenFrom c bytes d h rest → tail ≡ tail_of d h → Differ (lines tail) (lines rest) n
    → lines whole ≡ lines (text c) ++ history_line ∷ lines bytes → first ≡ length (lines (text c)) + 2 → IsBadThere d h first (lines rest) n b → IsTold whole (Judgement.Bad b)
told_bad whole bytes rest tail c d h first n b t is differ parts at said =
    told_here whole bytes rest tail c h first n b (subst (λ (z : Program). TakenFrom c bytes z h rest) t.same t)
    (subst (λ (z : Program). tail ≡ tail_of z h) t.same is) differ parts at
    (subst (λ (z : Program). IsBadThere z h first (lines rest) n b) t.same said)

-- the judgement on all of it
judgement_is : (one : OneText) (whole : List ℕ) (j : Judgement) → Judged whole (verdict_of j) → IsTold whole j → IsJudgementOn whole j
judgement_is one whole j judged told = record {
  judged = judged;
  told = told;
  only = λ c h legal. is_yes one whole (verdict_of j) c h judged legal.legal legal.text_is;
}

-- what is said of the lines behind the entries that were taken is the judgement
pub judgement_behind : (one : OneText) (law : HistoryIsLegal) (bytes rest : List ℕ) (c d : Program) (h : List Entry) (first : ℕ) (j : Judgement) → TakenFrom c bytes d h rest → IsJudgementAt d h first rest j → IsJudgementBehind c first bytes j
judgement_behind one law bytes rest c d h first (Judgement.Legal l) t at whole parts number = judgement_is one whole (Judgement.Legal l) judged stands
  where
    here : IsLegalReport d h × (whole ≡ report d h)
    here = judged_good law whole bytes rest (tail_of d h) c d h t refl at.ends parts

    judged : IsLegalReport l.report.script l.report.history.entries × (whole ≡ report l.report.script l.report.history.entries)
    judged = subst (λ (z : Program). IsLegalReport z l.report.history.entries × (whole ≡ report z l.report.history.entries)) (sym at.said.script)
        (subst (λ (z : List Entry). IsLegalReport d z × (whole ≡ report d z)) (sym at.said.history) here)

    stands : StandsRight l
    stands = at.said.standing
        ∙ ap (λ (z : Program). map (due z h) (actors_of z)) (sym at.said.script)
        ∙ ap (λ (z : List Entry). map (due l.report.script z) (actors_of l.report.script)) (sym at.said.history)
judgement_behind one law bytes rest c d h first (Judgement.Bad b) t at whole parts number = judgement_is one whole (Judgement.Bad b)
    (subst (IsFirstBad whole) (sym at.said.line) (judged_bad one law whole bytes rest (tail_of d h) c d h first (length h) at.same t refl at.differ parts number refl))
    (told_bad whole bytes rest (tail_of d h) c d h first at.same b t refl at.differ parts number at.said)

pub behind_head : (whole rest : List ℕ) (c : Program) (first : ℕ) (j : Judgement) → IsHead whole c first rest → IsJudgementBehind c first rest j → IsJudgementOn whole j
behind_head whole rest c first j h judged = judged whole h.lines_are h.number

-- a bad line of the script
pub head_is : (one : OneText) (whole : List ℕ) (b : BadReport) → HasBadHead whole b → IsJudgementOn whole (Judgement.Bad b)
head_is one whole b said = judgement_is one whole (Judgement.Bad b) (judged_head whole b.line said.head) (inl said)
