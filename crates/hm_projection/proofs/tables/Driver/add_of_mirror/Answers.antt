use Rattle.std.proofs.Common.{◌≡◌, ℕ, ◌+◌, ◌++◌, map, Some, Option, List, ap, ◌∙◌, arith}
use Rattle.std.proofs.lemmas.Grind.{elements}
use Rattle.hm_base.specs.Pages.{Pages}
use Rattle.hm_folds.specs.MirrorTables.{tables_of}
use Rattle.hm_history.specs.Memory.Places.{TableEntry}
use Rattle.hm_protocol.specs.declared.events.Event.{Event}
use Rattle.hm_projection.specs.Tables.{erased_between, windows_of}
use Rattle.hm_projection.proofs.Erased.{in_window}
use Rattle.hm_projection.proofs.tables.Driver.add_of_mirror.Goals as goal

pub returns : goal.returns
returns c = λ s d.
    let m = c.args.mirror in
    let w = c.in-Some.window in
    let f : ℕ → Option TableEntry = tables_of c.args.self.now.tables.tables.items m in
    let told : Pages → List Event = λ z. c.args.told.now.items ++ map (λ v. Event.Erase m v) (erased_between f w z.first (z.first + z.count)) in
    let between : ℕ → ℕ → List Event = λ k n. c.args.told.now.items ++ map (λ v. Event.Erase m v) (erased_between f w k (k + n)) in
    let some : windows_of c.args.self.now.windows m ≡ Some w = grind (arith, elements) in
    c.in_ok-add_between.ensures
    ∙ ap (λ k. between k c.count.result) (c.number-first.ensures.same ∙ c.first.ensures.same)
    ∙ ap (between c.unwrap_or-pages.result.first) c.count.ensures.same
    ∙ ap told c.unwrap_or-pages.ensures
    ∙ ap (λ es. c.args.told.now.items ++ es) (in_window s m c.args.self.now c.args.span w d some)
