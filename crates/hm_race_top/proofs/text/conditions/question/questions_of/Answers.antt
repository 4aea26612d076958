use Rattle.std.proofs.Common.{ℕ, ◌+◌, ◌<◌, List, Some, map, length, string_bytes, sym, ap, ◌∙◌, arith}
use Rattle.std.proofs.lemmas.List.{get_or-map, length-map}
use Rattle.hm_script.specs.Splitting.{split}
use Rattle.hm_race_top.specs.Text.Conditions.Grammar.{first_bad}
use Rattle.hm_race_top.proofs.Asking.{all_read, bad_here, bad_word, one_more}
use Rattle.hm_race_top.proofs.text.conditions.question.questions_of.Goals as goal

pub returns-in-Err-Word-clause-bad : goal.returns-in-Err-Word-clause-bad
returns-in-Err-Word-clause-bad c =
    let xs = c.args.texts.now in
    let i = c.loop-at.at in
    let r = c.index-texts-at.result in
    let low : i < length (map string_bytes xs) = omega (arith, c.loop-at-test.true, length-map xs string_bytes) in
    bad_here (map string_bytes xs) i c.loop-at.questions c.loop-at.invariant low (string_bytes r)
    (get_or-map string_bytes xs i r (string_bytes r) c.loop-at-test.true ∙ sym (ap string_bytes c.index-texts-at.is)) _
    (ap (λ (z : List ℕ). first_bad (split z)) (sym c.as_bytes.ensures.value)
    ∙ bad_word (first_bad (split c.as_bytes.result.now)) c.in-Err-Word.field-0 _ c.in-Err-Word.field-0-is c.in-Err-Word.ensures.bad)
    ∙ ap (λ (w : ℕ). Some (i + 1, w)) (sym c.in-Err-Word.word-is)

pub loop-at-preserved : goal.loop-at-preserved
loop-at-preserved c =
    let xs = c.args.texts.now in
    let i = c.loop-at.at in
    let r = c.index-texts-at.result in
    let low : i < length (map string_bytes xs) = omega (arith, c.loop-at-test.true, length-map xs string_bytes) in
    one_more (map string_bytes xs) i c.loop-at.questions c.loop-at.invariant low (string_bytes r)
    (get_or-map string_bytes xs i r (string_bytes r) c.loop-at-test.true ∙ sym (ap string_bytes c.index-texts-at.is))
    c.push.new.self c.in-Ok.question c.in_ok-push-in-Ok.ensures.ok (c.in-Ok.ensures.text ∙ c.as_bytes.ensures.value) c.in-Ok.ensures.is
    (ap (λ (z : List ℕ). first_bad (split z)) (sym c.as_bytes.ensures.value) ∙ c.in-Ok.ensures.good)

pub returns-clause-questions : goal.returns-clause-questions
returns-clause-questions c =
    let xs = c.args.texts.now in
    all_read (map string_bytes xs) c.loop-at.at c.loop-at.questions c.loop-at.invariant (omega (arith, c.loop-at-test.false, length-map xs string_bytes))
