use Rattle.std.proofs.Common.{◌≡◌, ◌+◌, ◌++◌, ◌∙◌, List, ℕ, length, ap, arith}
use Rattle.hm_report.specs.Report.{end_line}
use Rattle.hm_report_reading.proofs.Reports.{bad_behind, good_behind}
use Rattle.hm_report_reading.proofs.reading.read_behind.Goals as goal

pub returns-in-Some-clause-read : goal.returns-in-Some-clause-read
returns-in-Some-clause-read c = λ whole parts number.
    let h = c.in_ok-history.history.entries in
    let us = c.in_ok-unfinished.unfinished.items in
    let end : c.as_slice.result.now ≡ end_line (length h) = c.as_slice.ensures ∙ c.put_end.ensures.text ∙ ap (λ (x : List ℕ). x ++ end_line c.len.result) c.in_ok-end.ensures ∙ ap end_line c.len.ensures in
    let at : c.args.first + (c.len-in-Some.result + c.len-in-Some-2.result) + c.in-Some.same ≡ c.args.first + (length h + length us) + c.in-Some.same = omega (arith, c.len-in-Some.ensures, c.len-in-Some-2.ensures) in
    bad_behind c.one_text.ensures whole c.args.bytes.now c.in_ok-history.rest.now c.in_ok-unfinished.rest.now c.as_slice.result.now c.args.script h us c.args.first c.in-Some.same _ c.facts.ensures c.in_ok-history.ensures c.in_ok-unfinished.ensures end c.in-Some.ensures.differ at parts number

pub returns-in-None-clause-read : goal.returns-in-None-clause-read
returns-in-None-clause-read c = λ whole parts number.
    let h = c.in_ok-history.history.entries in
    let end : c.as_slice.result.now ≡ end_line (length h) = c.as_slice.ensures ∙ c.put_end.ensures.text ∙ ap (λ (x : List ℕ). x ++ end_line c.len.result) c.in_ok-end.ensures ∙ ap end_line c.len.ensures in
    let g = good_behind whole c.args.bytes.now c.in_ok-history.rest.now c.in_ok-unfinished.rest.now c.as_slice.result.now c.args.script h c.in_ok-unfinished.unfinished.items c.facts.ensures c.in_ok-history.ensures c.in_ok-unfinished.ensures end c.in-None.ensures.differ parts in
    (g.0, g.1, number)
