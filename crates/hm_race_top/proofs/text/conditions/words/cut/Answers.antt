use Rattle.std.proofs.Common.{◌+◌, sym, ◌∙◌, ap, take, ◌∷◌, ◌++◌, List, ℕ}
use Rattle.std.proofs.lemmas.List.{take_rest}
use Rattle.hm_script.specs.Splitting.{split}
use Rattle.hm_script.proofs.Splits.{split-Some, split-None}
use Rattle.hm_race_top.proofs.Cuts.{at_space}
use Rattle.hm_race_top.proofs.Plain.{word_alone}
use Rattle.hm_race_top.proofs.text.conditions.words.cut.Goals as goal

pub returns-in-Some-clause-text : goal.returns-in-Some-clause-text
returns-in-Some-clause-text c =
    let text = c.args.text.now in
    let end = c.in-Some.end in
    at_space text end (sym c.space_in.ensures.gives ∙ c.in-Some.is) ∙ ap (λ (r : List ℕ). take end text ++ 32 ∷ r) (sym (take_rest text (end + 1)))

pub returns-in-Some-clause-words : goal.returns-in-Some-clause-words
returns-in-Some-clause-words c =
    let text = c.args.text.now in
    let end = c.in-Some.end in
    let s = split-Some text end (sym c.space_in.ensures.gives ∙ c.in-Some.is) in
    s.1 ∙ ap (λ (r : List ℕ). take end text ∷ split r) (sym (take_rest text (end + 1)))

pub returns-in-None-clause-words : goal.returns-in-None-clause-words
returns-in-None-clause-words c = split-None c.args.text.now (sym c.space_in.ensures.gives ∙ c.in-None.is)

pub returns-in-Some-clause-alone : goal.returns-in-Some-clause-alone
returns-in-Some-clause-alone c = word_alone c.args.text.now c.in-Some.end (sym c.space_in.ensures.gives ∙ c.in-Some.is)

pub returns-in-None-clause-alone : goal.returns-in-None-clause-alone
returns-in-None-clause-alone c = split-None c.args.text.now (sym c.space_in.ensures.gives ∙ c.in-None.is)
