use Rattle.std.proofs.Common.{◌≡◌, ◌∙◌, ◌++◌, ◌∷◌, [], List, ℕ, arith, length, length-append, sym, ap, subst}
use Rattle.std.specs.List.{All}
use Rattle.std.proofs.lemmas.List.Elements.{All-push}
use Rattle.hm_report_reading.specs.Entries.{FitsUnfinished, unfinished_text}
use Rattle.hm_report_reading.specs.declared.reader.Unfinished.{Unfinished}
use Rattle.hm_report_reading.specs.Reports.{unfinished_list}
use Rattle.hm_report_reading.proofs.TextLines.{unfinished_more}
use Rattle.hm_report_reading.proofs.unfinished.read_unfinished.Goals as goal
use Rattle.hm_script.specs.Automaton.{lines}

pub loop-line-preserved : goal.loop-line-preserved
loop-line-preserved c =
    let us = c.loop-line.unfinished.items in
    let u = c.in-Some.told in
    let line = c.cut_line.result.0.now in
    let after = c.cut_line.result.1.now in
    let found : FitsUnfinished u × (line ≡ unfinished_text u.actor u.index) = c.in-Some.ensures in
    let more : c.push.new.self.items ≡ us ++ u ∷ [] = c.in_ok-push.ensures.items in
    let split : lines c.args.bytes.now ≡ unfinished_list us ++ unfinished_text u.actor u.index ∷ lines after = c.loop-line.invariant.0 ∙ ap (λ (z : List (List ℕ)). unfinished_list us ++ z) (c.cut_line.ensures.lines ∙ ap (λ (z : List ℕ). z ∷ lines after) found.1) in (
      split ∙ unfinished_more us u (lines after) ∙ ap (λ (z : List Unfinished). unfinished_list z ++ lines after) (sym more),
      subst (All FitsUnfinished) (sym more) (All-push FitsUnfinished us u c.loop-line.invariant.1 found.0),
      omega (arith, ap length more, length-append us (u ∷ []), c.loop-line.invariant.2, c.cut_line.ensures.shorter),
    )
