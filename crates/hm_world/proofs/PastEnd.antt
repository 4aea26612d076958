-- No page that has a place lies past the last.
use Rattle.std.proofs.Common.{◌≡◌, ℕ, ◌^◌, ◌≤◌, Bool, true, false, ◌&&◌, nat_lt, cond, Option, Some, None, [], ◌∷◌, refl, sym, ap, ◌∙◌}
use Rattle.std.specs.Prelude.{option_map}
use Rattle.hm_base.specs.Program.{Program}
use Rattle.hm_history.specs.Memory.Places.{Places, next_page}
use Rattle.radix_tables.specs.Maps.{before}
use Rattle.hm_reads.specs.Cursors.{page_before}
use Rattle.hm_tables.specs.Values.{Tables, table_of, place_of_word}
use Rattle.hm_tables.specs.Reads.{page_test, first_passing, next_page_before}
use Rattle.hm_tables.specs.Shown.{TablesShown}
use Rattle.hm_tables.specs.declared.places.PageTest.{PageTest}
use Rattle.hm_tables.proofs.ReadsShown.{next_page_shown}
use Rattle.hm_history.proofs.Pages.{none_past}

pub past_end : (c : Program) (s : Places) (x : Tables) (test : PageTest) (p from end : ℕ) → TablesShown c s.place s.placed x → 2 ^ 36 ≤ from → None ≡ page_before end (next_page s (page_test test) p from)
past_end c s x test p from end h l =
    ap (page_before end) (sym (ap (option_map (λ e. e.0)) (none_past (λ e. page_test test (place_of_word e.1)) from _ l (h.tables.ordered p).below)) ∙ next_page_shown c s x h test p from)

-- the page of a word that lies before the end is one that does
page_of : (end : ℕ) (o : Option (ℕ × ℕ)) → option_map (λ e. e.0) (before end o) ≡ page_before end (option_map (λ (e : ℕ × ℕ). e.0) o)
page_of end None = refl
page_of end (Some e) = by (nat_lt e.0 end)
  where
    by : (b : Bool) → option_map (λ (e : ℕ × ℕ). e.0) (cond b (Some e) None) ≡ cond b (Some e.0) None
    by true = refl
    by false = refl

pub before_shown : (c : Program) (s : Places) (x : Tables) → TablesShown c s.place s.placed x → (test : PageTest) (p from end : ℕ) → next_page_before x (page_test test) p from end ≡ page_before end (next_page s (page_test test) p from)
before_shown c s x h test p from end =
    page_of end (first_passing (table_of x p) (page_test test) from) ∙ ap (page_before end) (next_page_shown c s x h test p from)
