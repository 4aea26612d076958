use Rattle.std.proofs.Common.{◌≡◌, ℕ, List, ◌++◌, inl, length, refl, ap, ◌∙◌}
use Rattle.hm_edge.specs.declared.status.Status.{Status}
use Rattle.hm_flaw_search.specs.Races.{FlawRaceValue}
use Rattle.hm_flaw_search.specs.declared.answer.Answer.{Answer}
use Rattle.hm_race_top.specs.declared.telling.Telling.{Telling}
use Rattle.hm_flaw_top.specs.Endings.{ending_of}
use Rattle.hm_flaw_top.specs.Text.Lines.{answer_text}
use Rattle.hm_flaw_top.specs.Told.{AddsMore, told_more}
use Rattle.hm_flaw_top.proofs.Full.{held_fails}
use Rattle.hm_flaw_top.proofs.told.tell_holds.Goals as goal

abbrev telling : List ℕ → Status → Telling
telling text ends = record { text = text; ends = ends }

told_so : (start : ℕ) (a : Answer) (before more new : List ℕ) (ends : Status) → before ≡ answer_text start a → new ≡ before ++ more → ends ≡ ending_of a → telling new ends ≡ told_more start a more
told_so start a before more new ends text added is = ap (λ (t : List ℕ). telling t ends) (added ∙ ap (λ (t : List ℕ). t ++ more) text) ∙ ap (telling (answer_text start a ++ more)) is

pub returns-in_default-clause-fails : goal.returns-in_default-clause-fails
returns-in_default-clause-fails c = inl tt

pub returns-in-Ok-add_holds-clause-tells : goal.returns-in-Ok-add_holds-clause-tells
returns-in-Ok-add_holds-clause-tells c =
    let r : FlawRaceValue = record { script = c.args.script.now; set_up = c.args.set_up.now; first = c.args.first.now; flaw = c.args.flaw; judging = c.args.task.judging } in
    let adds : AddsMore r c.args.task.most c.in-Ok.answer.found c.in-Ok-answer_text.text c.add_holds.new.text = c.in-Ok-add_holds.ensures.holds in
    record {
      answer = c.in-Ok.answer;
      is = c.in-Ok.ensures.answer;
      race = r;
      of_race = record { parts_are = refl; flaw = refl; script = refl; set_up = refl };
      more = adds.more;
      holds = adds.tells;
      told = told_so (length c.args.set_up.now) c.in-Ok.answer c.in-Ok-answer_text.text adds.more c.add_holds.new.text c.ending_of.result c.in-Ok-answer_text.ensures adds.added c.ending_of.ensures.same;
    }

pub returns-clause-fails : goal.returns-clause-fails
returns-clause-fails c =
    let r : FlawRaceValue = record { script = c.args.script.now; set_up = c.args.set_up.now; first = c.args.first.now; flaw = c.args.flaw; judging = c.args.task.judging } in
    held_fails r c.in-Err-add_holds.error c.in-Err-add_holds.ensures.fails
