use Rattle.std.proofs.Common.{sym, ap, ◌∙◌, subst}
use Rattle.std.proofs.lemmas.Result.{IfOk-weaker}
use Rattle.std.specs.Prelude.{map}
use Rattle.hm_history.specs.Memory.Words.{numbers}
use Rattle.hm_why.specs.Loads.{IsLoadAt, AllFound, AreSources}
use Rattle.hm_why.specs.Writers.{source_in}
use Rattle.hm_why.proofs.Listing.{at_load, load_there, some_load, all_found, are_sources}
use Rattle.hm_why.proofs.one_load.sources.Goals as goal

pub sources_from-requires-clause-found : goal.sources_from-requires-clause-found
sources_from-requires-clause-found c =
    let h = c.as_slice-entries.result.now in
    let w = c.in_ok-writers.writers in
    let p = c.process-proc.result in
    let a = at_load c.loads_lie_in_a_page.ensures c.args.history.now.entries h c.args.at c.in-Loaded.addr p c.in-Loaded.who c.in-Loaded.bytes w c.index-entries-at.result c.as_slice-entries.ensures c.requires.legal c.requires.load c.in-Loaded.is c.in_ok-writers.ensures c.process-proc.ensures in
    subst (AllFound (source_in w p) c.in-Loaded.addr) (sym c.len.ensures)
    (all_found c.loads_have_sources.ensures h c.args.at c.in-Loaded.addr p c.in-Loaded.who c.in-Loaded.bytes w a)

pub unreachable-requires : goal.unreachable-requires
unreachable-requires c =
    let h = c.as_slice-entries.result.now in
    let load : IsLoadAt h c.args.at = subst (λ y. IsLoadAt y c.args.at) (sym c.as_slice-entries.ensures) c.requires.load in
    some_load _ (load_there h c.args.at c.index-entries-at.result load) c.in_default.not-Loaded

pub returns : goal.returns
returns c =
    let h = c.as_slice-entries.result.now in
    let w = c.in_ok-writers.writers in
    let p = c.process-proc.result in
    let a = at_load c.loads_lie_in_a_page.ensures c.args.history.now.entries h c.args.at c.in-Loaded.addr p c.in-Loaded.who c.in-Loaded.bytes w c.index-entries-at.result c.as_slice-entries.ensures c.requires.legal c.requires.load c.in-Loaded.is c.in_ok-writers.ensures c.process-proc.ensures in
    IfOk-weaker c.sources_from.result _ _
    (λ found e. subst (λ y. AreSources y c.args.at found) c.as_slice-entries.ensures
    (are_sources c.loads_have_sources.ensures h c.args.at c.in-Loaded.addr p c.in-Loaded.who c.in-Loaded.bytes w a found (e ∙ ap (λ n. map (source_in w p) (numbers c.in-Loaded.addr n)) c.len.ensures)))
    c.sources_from.ensures
