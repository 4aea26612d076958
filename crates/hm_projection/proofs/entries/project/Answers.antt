use Rattle.std.proofs.Common.{List, [], sym, ap, subst}
use Rattle.hm_base.specs.Program.{Program}
use Rattle.hm_history.proofs.RunLemmas.{legal_due}
use Rattle.hm_history.specs.Laws.{DueFrom}
use Rattle.hm_history.specs.declared.Entry.{Entry}
use Rattle.hm_world.specs.WorldValue.{WorldValue}
use Rattle.hm_projection.proofs.entries.project.Goals as goal

pub add_entries-added-requires-clause-dues : goal.add_entries-added-requires-clause-dues
add_entries-added-requires-clause-dues c =
    let p = c.args.report.script in
    subst (λ (q : Program). DueFrom q [] c.as_slice.result.now) (sym (ap (λ (w : WorldValue). w.script) c.in_ok-world.ensures))
    (subst (λ (h : List Entry). DueFrom p [] h) (sym c.as_slice.ensures) (legal_due p [] c.args.report.history.entries c.requires.legal))
