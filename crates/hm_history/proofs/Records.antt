-- A migration's records when one is put in place of that of its page.
use Rattle.std.proofs.Common.{◌≡◌, ◌==◌, ◌⊎◌, inl, inr, arith}
use Rattle.std.specs.Bool.{if◌then◌else◌}
use Rattle.std.proofs.lemmas.Bool.{cases_eq}
use Rattle.std.proofs.lemmas.Bool.Decides.{nat_tests}
use Rattle.hm_history.specs.declared.phases.Migrating.{Migrating}

-- each keeps its page
pub page_stays : (m y : Migrating) → (if y.page == m.page then m else y).page ≡ y.page
page_stays m y = by (cases_eq y.page m.page)
  where
    by : (y.page ≡ m.page) ⊎ (y.page ≡ m.page → ⊥) → (if y.page == m.page then m else y).page ≡ y.page
    by (inl e) = grind (arith, nat_tests)
    by (inr e) = grind (arith, nat_tests)
