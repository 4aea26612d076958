-- Where memory ran out on the way: what was added before is kept, and is a front of what would have been.
use Rattle.std.proofs.Common.{◌≡◌, List, sym, ap, ◌∙◌, subst}
use mathlib.Core.List.{IsPrefix}
use Rattle.hm_turns.proofs.Sums.{prefix_refl, prefix_trans}
use Rattle.hm_history.specs.declared.Entry.{Entry}
use Rattle.hm_history.specs.declared.StepError.{StepError}
use Rattle.hm_machine.specs.Turning.{StoppedShort, with_history}
use Rattle.hm_world.specs.WorldValue.{WorldValue, halted_by}

-- a history begins with itself
pub begins : (h : List Entry) → IsPrefix h h
begins h = prefix_refl h

-- it ran out at once
pub short_here : (t u : WorldValue) → u ≡ halted_by t StepError.NoMemory → StoppedShort t t.history u
short_here t u is = let same : u.history ≡ t.history = ap (λ x. x.history) is in record {
  same = is ∙ ap (λ x. halted_by (with_history t x) StepError.NoMemory) (sym same);
  later = subst (IsPrefix t.history) (sym same) (prefix_refl t.history);
  front = subst (λ x. IsPrefix x t.history) (sym same) (prefix_refl t.history);
}

-- it ran out after s had come to t, on the way to g, with which h begins
pub short_of : (s t u : WorldValue) (g h : List Entry) → t ≡ with_history s t.history → IsPrefix s.history t.history → StoppedShort t g u → IsPrefix g h → StoppedShort s h u
short_of s t u g h same later short on = record {
  same = short.same ∙ ap (λ x. halted_by (with_history x u.history) StepError.NoMemory) same;
  later = prefix_trans s.history t.history u.history later short.later;
  front = prefix_trans u.history g h short.front on;
}
