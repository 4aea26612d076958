use Rattle.std.proofs.Common.{◌≡◌, List, ℕ, subst, sym}
use Rattle.std.specs.Prelude.{IfOk, []}
use Rattle.hm_history.proofs.RunLemmas.{legal_due}
use Rattle.hm_report.specs.Report.{first_unended}
use Rattle.hm_report.specs.Counted.{counted, EndsAreCounted}
use Rattle.hm_report.proofs.Actors.{summary_same}
use Rattle.hm_report.proofs.totals.summary.Goals as goal

pub returns : goal.returns
returns c =
    let script = c.args.script.now in
    let h = c.args.history.now.entries in
    let ends : EndsAreCounted script h = c.ends_are_counted.ensures script h (legal_due script [] h c.requires) in
    let P : List ℕ → Type 0 = λ x. IfOk c.counted_summary.result (λ t. t ≡ x) in
    subst P (sym (summary_same c.args.number script h (first_unended script h) (counted script h) ends)) c.counted_summary.ensures
