use Rattle.std.proofs.Common.{◌≡◌, ℕ, Option, Some, option_map, sym, ap, ◌∙◌, arith}
use Rattle.hm_history.specs.Memory.Words.{page_of}
use Rattle.hm_history.specs.Memory.Places.{TableEntry}
use Rattle.hm_folds.specs.TableMap.{entry_of}
use Rattle.hm_folds.specs.MirrorTables.{tables_of}
use Rattle.hm_folds.specs.Standing.{entry_allows}
use Rattle.hm_folds.proofs.PastPages.{past_table}
use Rattle.hm_folds.proofs.PlaceAccepts.{table_form}
use Rattle.hm_folds.proofs.places.PlaceState.table_may.Goals as goal
use Rattle.hm_history.proofs.Pages.{address_past}

pub returns-then-addr : goal.returns-then-addr
returns-then-addr c = λ p s h. past_table p s _ c.args.mirror c.args.proc (page_of c.args.addr) c.args.writes h.tables (address_past c.args.addr (omega arith))

pub returns-in-Some : goal.returns-in-Some
returns-in-Some c = λ p s h.
    let e = c.in-Some.entry in
    let v = page_of c.args.addr in
    let entry : Some (entry_of e) ≡ s.table c.args.mirror v =
    ap (option_map entry_of) (sym c.in-Some.is) ∙ c.get.ensures ∙ ap (tables_of c.args.self.now.mirror_tables.tables.items c.args.mirror) c.new-page.ensures ∙ ap (λ (f : ℕ → ℕ → Option TableEntry). f c.args.mirror v) h.table in
    let place = c.place.ensures p s h ∙ ap (s.place c.args.proc) c.new-page.ensures in
    c.entry_may.ensures p s h ∙ ap (λ z. entry_allows s (entry_of e) z c.args.writes) place ∙ table_form s c.args.mirror c.args.proc v c.args.writes (entry_of e) entry
