use Rattle.std.proofs.Common.{◌≡◌, ◌&&◌, ℕ, Option, Some, option_map, sym, ap, ◌∙◌, arith}
use Rattle.hm_history.specs.Memory.Words.{page_of}
use Rattle.hm_history.specs.Memory.Places.{TableEntry, entry_passes, is_sole, is_exclusive_of}
use Rattle.hm_folds.specs.TableMap.{entry_of}
use Rattle.hm_folds.specs.MirrorTables.{tables_of}
use Rattle.hm_folds.proofs.PastPages.{past_sole}
use Rattle.hm_folds.proofs.PlaceAccepts.{and_then}
use Rattle.hm_folds.proofs.places.PlaceState.table_is_sole.Goals as goal
use Rattle.hm_history.proofs.Pages.{address_past}

pub returns-then-addr : goal.returns-then-addr
returns-then-addr c = λ p s h. past_sole p s _ c.args.actor c.args.mirror c.args.proc (page_of c.args.addr) h.tables (address_past c.args.addr (omega arith))

pub returns-then-is_sole : goal.returns-then-is_sole
returns-then-is_sole c = λ p s h.
    let e = c.in-Some.entry in
    let v = page_of c.args.addr in
    let entry : Some (entry_of e) ≡ s.table c.args.mirror v =
    ap (option_map entry_of) (sym c.in-Some.is) ∙ c.get.ensures ∙ ap (tables_of c.args.self.now.mirror_tables.tables.items c.args.mirror) c.new-page.ensures ∙ ap (λ (f : ℕ → ℕ → Option TableEntry). f c.args.mirror v) h.table in
    let place = c.place.ensures p s h ∙ ap (s.place c.args.proc) c.new-page.ensures in
    c.is_exclusive_of.ensures ∙ ap (λ z. is_exclusive_of z c.args.actor c.target.result) place ∙ ap (is_exclusive_of (s.place c.args.proc v) c.args.actor) c.target.ensures
    ∙ and_then (is_sole e.right) _ (sym c.is_sole.ensures ∙ c.if-is_sole.true) ∙ ap (entry_passes (λ y. is_sole y.right && is_exclusive_of (s.place c.args.proc v) c.args.actor y.target)) entry
