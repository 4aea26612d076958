use Rattle.std.proofs.Common.{◌≡◌, ◌==◌, ◌&&◌, is_none, take, false}
use Rattle.std.specs.List.{list_any}
use Rattle.hm_parts.proofs.kept.was_fresh.Given as goal

abbrev pub invariant-loop-record : goal.invariant-loop-record
invariant-loop-record l = list_any (λ x. (x.page == l.page) && is_none x.source) (take l.record-index l.records) ≡ false
