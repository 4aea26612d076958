use Rattle.std.proofs.Common.{refl, ℕ, List, ◌∷◌, ◌++◌, sym, ap, ◌∙◌}
use Rattle.hm_race_top.specs.Text.Conditions.Reading.{literal_of, open_text, ended_text, held_text}
use Rattle.hm_race_top.specs.declared.text.conditions.words.Place.{Place}
use Rattle.hm_race_top.proofs.Connectives.{word_and}
use Rattle.hm_race_top.proofs.Plain.{more_plain, and_plain}
use Rattle.hm_race_top.proofs.Growing.{and_more}
use Rattle.hm_race_top.proofs.text.conditions.reading.Reading.and.Goals as goal

pub returns-clause-text : goal.returns-clause-text
returns-clause-text c =
    let r = c.args.self in
    let w = c.args.word.now in
    let e = ended_text r.body in
    and_more e w r.literals c.in_ok-with_literal.field-0 (literal_of r) c.in_ok-with_literal.ensures (word_and w c.requires.word)
    ∙ ap (λ (o : List ℕ). (e ++ (held_text r.literals ++ o)) ++ 32 ∷ w) (sym (ap (λ (p : Place). open_text p (literal_of r)) c.requires.inside))

pub returns-clause-plain : goal.returns-clause-plain
returns-clause-plain c =
    let r = c.args.self in
    let new = c.in_ok-with_literal.field-0 in
    and_plain r new c.requires.plain (more_plain r new (literal_of r) c.requires.plain c.requires.inside refl c.in_ok-with_literal.ensures)
