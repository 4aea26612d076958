-- What is asked of what is known, before an event.
use Rattle.std.specs.Prelude.{ℕ, Bool, false, ◌&&◌, ◌==◌, is_some, List}
use Rattle.std.specs.List.{list_any}
use Rattle.hm_protocol.specs.declared.events.Traced.{Traced}
use Rattle.hm_protocol.specs.declared.rules.Rule.{Rule}
use Rattle.hm_protocol.specs.Words.{is_after}
use Rattle.hm_protocol.specs.Known.{Call, Known}
use Rattle.hm_protocol.specs.Rules.{Test, test_of}

-- the event breaks the rule
abbrev pub breaks_at : Rule → Known → Traced → Bool
breaks_at r k s = elim (test_of r) [ Test.At test ↦ test k s | Test.Of test ↦ false | Test.End test ↦ false ]

-- some callback of a mirror has returned, and its invalidation has ended after this position
abbrev pub are_over_since : ℕ → ℕ → List Call → Bool
are_over_since m i xs = list_any (λ x. (x.mirror == m) && (is_some x.after && is_after x.ended i)) xs
