use Rattle.std.proofs.Common.{refl, ℕ, List, ◌++◌, sym, ap, ◌∙◌}
use Rattle.hm_race_top.specs.Text.Conditions.Reading.{literal_of, open_text, ended_text, held_text}
use Rattle.hm_race_top.specs.declared.text.conditions.words.Place.{Place}
use Rattle.hm_race_top.proofs.Plain.{more_plain, body_plain}
use Rattle.hm_race_top.proofs.Growing.{finished}
use Rattle.hm_race_top.proofs.text.conditions.reading.Reading.finish.Goals as goal

pub returns-clause-text : goal.returns-clause-text
returns-clause-text c =
    let r = c.args.self in
    finished r.body c.push.new.self r.literals c.in_ok-literals.literals (literal_of r) c.in_ok-literals.ensures c.in_ok-push.ensures.ok
    ∙ ap (λ (o : List ℕ). ended_text r.body ++ (held_text r.literals ++ o)) (sym (ap (λ (p : Place). open_text p (literal_of r)) c.requires.inside))

pub returns-clause-plain : goal.returns-clause-plain
returns-clause-plain c =
    let r = c.args.self in
    let new = c.in_ok-literals.literals in
    body_plain r c.push.new.self new c.requires.plain (more_plain r new (literal_of r) c.requires.plain c.requires.inside refl c.in_ok-literals.ensures) c.in_ok-push.ensures.ok
