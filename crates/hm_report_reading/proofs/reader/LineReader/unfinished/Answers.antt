use Rattle.std.proofs.Common.{◌≡◌, ◌∙◌, ℕ, sym, ap}
use Rattle.std.proofs.lemmas.Bool.{false≢true}
use Rattle.std.proofs.lemmas.Slice.Eq.{bytes_eq-Decides}
use Rattle.hm_script.specs.Numerals.{number}
use Rattle.hm_script.specs.Splitting.{word}
use Rattle.hm_script.proofs.Steps.{ok_is}
use Rattle.hm_report_reading.specs.Entries.{unfinished_text}
use Rattle.hm_report_reading.specs.Words.{numbered}
use Rattle.hm_report_reading.proofs.InRange.{is_numbered, is_number}
use Rattle.hm_report_reading.proofs.LineAgain.{unfinished_actor, unfinished_index}
use Rattle.hm_report_reading.proofs.reader.LineReader.unfinished.Goals as goal

pub returns-in_default-actor : goal.returns-in_default-actor
returns-in_default-actor c = λ u h same.
    c.in_default-actor.not-Ok u.actor (c.actor.ensures ∙ ap (numbered 16) (c.get.ensures ∙ ap (word 1) c.of-words.ensures) ∙ unfinished_actor u.actor u.index c.args.line.now c.in-Some.text.now h.actor h.index c.in-Some.ensures same)

pub returns-in_default-number : goal.returns-in_default-number
returns-in_default-number c = λ u h same.
    c.in_default-number.not-Ok u.index (c.number.ensures ∙ ap number (c.get-2.ensures ∙ ap (word 2) c.of-words.ensures) ∙ unfinished_index u.actor u.index c.args.line.now c.in-Some.text.now h.actor h.index c.in-Some.ensures same)

pub returns-then-eq : goal.returns-then-eq
returns-then-eq c =
    let made : c.as_slice.result.now ≡ unfinished_text c.in-Ok.actor c.in-Ok-number.index = c.as_slice.ensures ∙ c.put_unfinished.ensures in (
      record {
        actor = is_numbered 16 _ c.in-Ok.actor (sym c.actor.ensures ∙ c.in-Ok.is);
        index = is_number _ c.in-Ok-number.index (sym c.number.ensures ∙ c.in-Ok-number.is);
      },
      (bytes_eq-Decides c.args.line.now c.as_slice.result.now).0 (sym c.if-eq.ensures) ∙ made,
    )

pub returns-else-eq : goal.returns-else-eq
returns-else-eq c = λ u h same.
    let by : c.in-Ok.actor ≡ u.actor = ok_is c.in-Ok.actor u.actor (sym c.in-Ok.is ∙ c.actor.ensures ∙ ap (numbered 16) (c.get.ensures ∙ ap (word 1) c.of-words.ensures) ∙ unfinished_actor u.actor u.index c.args.line.now c.in-Some.text.now h.actor h.index c.in-Some.ensures same) in
    let at : c.in-Ok-number.index ≡ u.index = ok_is c.in-Ok-number.index u.index (sym c.in-Ok-number.is ∙ c.number.ensures ∙ ap number (c.get-2.ensures ∙ ap (word 2) c.of-words.ensures) ∙ unfinished_index u.actor u.index c.args.line.now c.in-Some.text.now h.actor h.index c.in-Some.ensures same) in
    let made : c.as_slice.result.now ≡ unfinished_text c.in-Ok.actor c.in-Ok-number.index = c.as_slice.ensures ∙ c.put_unfinished.ensures in
    false≢true (c.if-eq.ensures ∙ (bytes_eq-Decides c.args.line.now c.as_slice.result.now).1 (same ∙ ap (unfinished_text u.actor) (sym at) ∙ ap (λ (x : ℕ). unfinished_text x c.in-Ok-number.index) (sym by) ∙ sym made))
