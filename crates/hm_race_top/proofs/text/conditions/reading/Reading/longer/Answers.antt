use Rattle.std.proofs.Common.{ℕ, List, ◌++◌, ap, ◌∙◌}
use Rattle.hm_race_top.specs.Text.Conditions.Grammar.{is_answer, is_plain, are_plain}
use Rattle.hm_race_top.specs.Text.Conditions.Reading.{line_stands}
use Rattle.hm_script.specs.Splitting.{split}
use Rattle.hm_race_top.proofs.Plain.{kept, longer_answer}
use Rattle.hm_race_top.proofs.text.conditions.reading.Reading.longer.Goals as goal

pub returns-clause-plain : goal.returns-clause-plain
returns-clause-plain c =
    let r = c.args.self in
    let w = c.args.word.now in
    let new = c.extend.new.self in
    kept (is_plain r.body) (are_plain r.literals) (line_stands r.place r.line) (is_answer (split new)) c.requires.plain
    (longer_answer r.line new w (c.in_ok-extend.ensures.ok ∙ ap (λ (z : List ℕ). z ++ w) c.in_ok-push.ensures.ok) c.requires.alone c.requires.front c.requires.word)
