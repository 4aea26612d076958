use Rattle.std.proofs.Common.{◌≡◌, ◌≤◌, take, count_by}
use Rattle.hm_flaw_states.specs.declared.placed.PlacedPage.{PlacedPage}
use Rattle.hm_flaw_states.proofs.placed.count_of.Given as goal

abbrev pub invariant-loop-page : goal.invariant-loop-page
invariant-loop-page g l = record {
  counted : l.count ≡ count_by (λ (x : PlacedPage). g.T.Asks.test l.asks x.proc x.page) (take l.page-index l.pages);
  few : l.count ≤ l.page-index;
}
