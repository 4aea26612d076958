use Rattle.std.proofs.Common.{ℕ, ◌^◌, ap, ◌∙◌, arith}
use Rattle.hm_history.specs.Memory.Places.{is_used}
use Rattle.hm_tables.specs.Values.{table_of}
use Rattle.hm_tables.specs.Reads.{next_page_before}
use Rattle.hm_tables.specs.declared.places.PageTest.{PageTest}
use Rattle.hm_tables.proofs.NextFound.{all_before}
use Rattle.hm_tables.proofs.ReadsShown.{next_page_shown}
use Rattle.hm_folds.proofs.PastPages.{past_end}
use Rattle.hm_folds.proofs.places.PlaceState.next_used.Goals as goal

pub returns-then-from : goal.returns-then-from
returns-then-from c = λ p s h.
    c.next_page.ensures ∙ ap (λ (k : ℕ). next_page_before c.args.self.now.tables is_used c.args.proc k (2 ^ 36)) c.new.ensures
    ∙ all_before (table_of c.args.self.now.tables c.args.proc) PageTest.Used c.args.from (h.tables.tables.ordered c.args.proc)
    ∙ next_page_shown p s _ h.tables PageTest.Used c.args.proc c.args.from

pub returns-else-from : goal.returns-else-from
returns-else-from c = λ p s h. past_end p s _ c.args.proc c.args.from h.tables (omega arith)
