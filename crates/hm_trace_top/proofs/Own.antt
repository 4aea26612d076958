-- A rule has its own word, and its own place among verdicts.
use Rattle.std.proofs.Common.{◌≡◌, ℕ, true, List, Some, get_or, length, ◌<◌, refl, sym, ap, ◌∙◌}
use Rattle.std.specs.List.{position_or_len, slice_get}
use Rattle.std.specs.Str.{bytes_eq}
use Rattle.std.proofs.lemmas.List.Folds.{find_at}
use Rattle.std.proofs.lemmas.List.Sums.{passes_at_first}
use Rattle.std.proofs.lemmas.Option.{slice_get_within, get_or_from_slice_get}
use Rattle.std.proofs.lemmas.Slice.Eq.{bytes_eq-Decides}
use Rattle.hm_protocol.specs.Rules.{all_rules}
use Rattle.hm_protocol.specs.declared.rules.Rule.{Rule}
use Rattle.hm_trace_top.specs.Laws.{VerdictsAreTheirs}
use Rattle.hm_trace_top.specs.Names.{NamesAreTheirs, rule_name, rule_named}
use Rattle.hm_trace_top.specs.Texts.{verdicts}

-- a rule's word names it
named-again : (r : Rule) → rule_named (rule_name r) ≡ Some r
unfolding rule_named
named-again Rule.Compare = refl
named-again Rule.CompareSequence = refl
named-again Rule.EntryRight = refl
named-again Rule.MmapLock = refl
named-again Rule.OwnDevice = refl
named-again Rule.BeginWaits = refl
named-again Rule.BeginFirst = refl
named-again Rule.SetSequence = refl
named-again Rule.Erase = refl
named-again Rule.EraseAll = refl
named-again Rule.EraseInTime = refl
named-again Rule.OwnEvents = refl
named-again Rule.OwnSequence = refl
named-again Rule.OwnEntries = refl
named-again Rule.StopAtDetach = refl
named-again Rule.WriteEntry = refl
named-again Rule.DetachWaits = refl
named-again Rule.SetMoved = refl
named-again Rule.SetRight = refl
named-again Rule.SetUnlessInvalidated = refl
named-again Rule.DropLost = refl
named-again Rule.TakeFromThere = refl
named-again Rule.EvictFirst = refl
named-again Rule.WithdrawFirst = refl
named-again Rule.WaitForLocked = refl
named-again Rule.ExclusiveWaits = refl
named-again Rule.LookAgain = refl

-- a word that names a rule is its own
named_own : (w : List ℕ) (r : Rule) → rule_named w ≡ Some r → rule_name r ≡ w
unfolding rule_named
named_own w r e =
    let test = λ (x : Rule). bytes_eq (rule_name x) w in
    let at : ℕ = position_or_len test all_rules in
    let here : slice_get all_rules at ≡ Some r = sym (find_at test all_rules) ∙ e in
    let within : at < length all_rules = slice_get_within all_rules at r here in
    let is : get_or all_rules at r ≡ r = get_or_from_slice_get all_rules at r r here in
    let passes : test r ≡ true = ap test (sym is) ∙ passes_at_first test all_rules r within in
    (bytes_eq-Decides (rule_name r) w).0 passes

pub names_are_theirs : NamesAreTheirs
names_are_theirs w r = (named_own w r, λ (e : rule_name r ≡ w). ap rule_named (sym e) ∙ named-again r)

pub verdicts_are_theirs : VerdictsAreTheirs
unfolding verdicts
verdicts_are_theirs x es Rule.Compare = refl
verdicts_are_theirs x es Rule.CompareSequence = refl
verdicts_are_theirs x es Rule.EntryRight = refl
verdicts_are_theirs x es Rule.MmapLock = refl
verdicts_are_theirs x es Rule.OwnDevice = refl
verdicts_are_theirs x es Rule.BeginWaits = refl
verdicts_are_theirs x es Rule.BeginFirst = refl
verdicts_are_theirs x es Rule.SetSequence = refl
verdicts_are_theirs x es Rule.Erase = refl
verdicts_are_theirs x es Rule.EraseAll = refl
verdicts_are_theirs x es Rule.EraseInTime = refl
verdicts_are_theirs x es Rule.OwnEvents = refl
verdicts_are_theirs x es Rule.OwnSequence = refl
verdicts_are_theirs x es Rule.OwnEntries = refl
verdicts_are_theirs x es Rule.StopAtDetach = refl
verdicts_are_theirs x es Rule.WriteEntry = refl
verdicts_are_theirs x es Rule.DetachWaits = refl
verdicts_are_theirs x es Rule.SetMoved = refl
verdicts_are_theirs x es Rule.SetRight = refl
verdicts_are_theirs x es Rule.SetUnlessInvalidated = refl
verdicts_are_theirs x es Rule.DropLost = refl
verdicts_are_theirs x es Rule.TakeFromThere = refl
verdicts_are_theirs x es Rule.EvictFirst = refl
verdicts_are_theirs x es Rule.WithdrawFirst = refl
verdicts_are_theirs x es Rule.WaitForLocked = refl
verdicts_are_theirs x es Rule.ExclusiveWaits = refl
verdicts_are_theirs x es Rule.LookAgain = refl
