use Rattle.std.proofs.Common.{refl, true, ℕ, List, ◌∷◌, ◌++◌, sym, ap}
use Rattle.std.specs.Fmt.{decimal}
use Rattle.hm_race_top.specs.Text.Conditions.Grammar.{are_plain, is_plain, not_text}
use Rattle.hm_race_top.specs.Text.Conditions.Reading.{literal_of, open_text, ended_text, held_text, line_stands}
use Rattle.hm_race_top.proofs.Connectives.{word_number}
use Rattle.hm_race_top.proofs.Growing.{more_open}
use Rattle.hm_race_top.proofs.Plain.{kept}
use Rattle.hm_race_top.proofs.text.conditions.reading.Reading.counted.Goals as goal

pub returns-clause-text : goal.returns-clause-text
returns-clause-text c =
    let r = c.args.self in
    let w = c.args.word.now in
    more_open (ended_text r.body) (held_text r.literals) (open_text r.place (literal_of r)) (not_text c.args.wanted) (32 ∷ w)
    (not_text c.args.wanted ++ 32 ∷ decimal c.args.n) c.requires.open
    (ap (λ (z : List ℕ). not_text c.args.wanted ++ 32 ∷ z) (sym (word_number w c.args.n c.requires.word)))

pub returns-clause-plain : goal.returns-clause-plain
returns-clause-plain c =
    let r = c.args.self in
    kept (is_plain r.body) (are_plain r.literals) (line_stands r.place r.line) true c.requires.plain refl
