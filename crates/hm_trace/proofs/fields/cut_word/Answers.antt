use Rattle.std.proofs.Common.{◌+◌, sym, ◌∙◌, ap, take, ◌∷◌, List, ℕ}
use Rattle.std.proofs.lemmas.List.{take_rest}
use Rattle.hm_script.specs.Splitting.{split}
use Rattle.hm_script.proofs.Splits.{split-Some, split-None}
use Rattle.hm_trace.proofs.fields.cut_word.Goals as goal

pub returns-in-Some-clause-splits : goal.returns-in-Some-clause-splits
returns-in-Some-clause-splits c =
    let line = c.args.line.now in
    let end = c.in-Some.end in
    let s = split-Some line end (sym c.find_byte.ensures.gives ∙ c.in-Some.is) in
    s.1 ∙ ap (λ (r : List ℕ). take end line ∷ split r) (sym (take_rest line (end + 1)))

pub returns-in-None-clause-none : goal.returns-in-None-clause-none
returns-in-None-clause-none c = split-None c.args.line.now (sym c.find_byte.ensures.gives ∙ c.in-None.is)
