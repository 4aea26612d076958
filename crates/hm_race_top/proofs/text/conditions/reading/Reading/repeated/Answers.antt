use Rattle.std.proofs.Common.{refl, true, ℕ, List, ◌∷◌, ◌++◌, sym, ap, ◌∙◌, append_assoc}
use Rattle.std.specs.Prelude.{codes, Some}
use Rattle.std.specs.Fmt.{decimal}
use Rattle.hm_race_top.specs.Text.Conditions.Grammar.{are_plain, count_text, is_plain, not_text}
use Rattle.hm_race_top.specs.Text.Conditions.Reading.{literal_of, open_text, ended_text, held_text, line_stands}
use Rattle.hm_race_top.specs.declared.text.conditions.words.Place.{Place}
use Rattle.hm_race_top.proofs.Connectives.{word_times}
use Rattle.hm_race_top.proofs.Growing.{more_open}
use Rattle.hm_race_top.proofs.Plain.{kept}
use Rattle.hm_race_top.proofs.text.conditions.reading.Reading.repeated.Goals as goal

pub returns-clause-text : goal.returns-clause-text
returns-clause-text c =
    let r = c.args.self in
    let w = c.args.word.now in
    let n = c.args.n in
    more_open (ended_text r.body) (held_text r.literals) (open_text r.place (literal_of r)) (not_text r.wanted ++ 32 ∷ decimal n) (32 ∷ w)
    (not_text r.wanted ++ count_text (Some n)) (ap (λ (p : Place). open_text p (literal_of r)) c.requires.counted)
    (sym (append_assoc (not_text r.wanted) (32 ∷ decimal n) (codes " x"))
    ∙ ap (λ (z : List ℕ). (not_text r.wanted ++ 32 ∷ decimal n) ++ 32 ∷ z) (sym (word_times w c.requires.word)))

pub returns-clause-plain : goal.returns-clause-plain
returns-clause-plain c =
    let r = c.args.self in
    kept (is_plain r.body) (are_plain r.literals) (line_stands r.place r.line) true c.requires.plain refl
