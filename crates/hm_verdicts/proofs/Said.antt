-- What is said of a rule by what is known in the end is the verdict.
use Rattle.std.proofs.Common.{refl, ap, ◌∙◌}
use Rattle.std.specs.Prelude.{◌≡◌, ℕ, Bool, false, if◌then◌else◌, Option, Some, None, List, [], ◌∷◌, map}
use Rattle.std.specs.Option.{option_or}
use Rattle.hm_protocol.specs.declared.events.Recorded.{Recorded}
use Rattle.hm_protocol.specs.declared.events.Traced.{Traced}
use Rattle.hm_protocol.specs.declared.rules.Rule.{Rule}
use Rattle.hm_protocol.specs.declared.rules.Verdict.{Verdict}
use Rattle.hm_protocol.specs.Known.{Known, known_start}
use Rattle.hm_protocol.specs.Noted.{known_next, known}
use Rattle.hm_protocol.specs.Rules.{Test, test_of, first_call, first_wrong, fails, broken}
use Rattle.hm_protocol.specs.Verdicts.{is_recorded, if_asked, asked, kept, suspect, none_broken, joined, verdict}
use Rattle.hm_verdicts.specs.Asking.{breaks_at}
use Rattle.hm_verdicts.specs.Ending.{fails_at_end, suspect_at_end, may_leave_some}
use Rattle.hm_verdicts.specs.Judging.{count_of, said_of, unbroken_at_end}
use Rattle.hm_verdicts.specs.Saying.{kept_by, verdict_by}

-- how often a rule was kept
pub kept_known : (r : Rule) (es : List Traced) → kept_by r (known es) (asked r known_start es) ≡ kept r es
kept_known Rule.Compare es = refl
kept_known Rule.CompareSequence es = refl
kept_known Rule.SetSequence es = refl
kept_known Rule.Erase es = refl
kept_known Rule.EraseAll es = refl
kept_known Rule.EraseInTime es = refl
kept_known Rule.OwnEvents es = refl
kept_known Rule.OwnSequence es = refl
kept_known Rule.OwnEntries es = refl
kept_known r es = refl

-- the event that may break it
pub suspect_known : (r : Rule) (es : List Traced) → suspect_at_end r (known es) ≡ suspect r es
unfolding may_leave_some
suspect_known Rule.EraseAll es = refl
suspect_known r es = refl

-- no event is wrong of which none is
none_wrong : (k : Known) (es : List Traced) → first_wrong (λ k s. false) k es ≡ None
none_wrong k [] = refl
none_wrong k (s ∷ ss) = none_wrong (known_next k s) ss

or_none : {X : Type 0} → (o : Option X) → option_or o None ≡ o
or_none None = refl
or_none (Some x) = refl

-- where a test is failed: at an event, or in the end
fails_known : (test : Test) (es : List Traced) → option_or
    (first_wrong (λ k s. elim test [ Test.At t ↦ t k s | Test.Of t ↦ false | Test.End t ↦ false ]) known_start es)
    (elim test [ Test.At t ↦ None | Test.Of t ↦ first_call t (known es) | Test.End t ↦ t (known es) ]) ≡ fails test es
fails_known (Test.At t) es = or_none (first_wrong t known_start es)
fails_known (Test.Of t) es = ap (λ o. option_or o (first_call t (known es))) (none_wrong known_start es)
fails_known (Test.End t) es = ap (λ o. option_or o (t (known es))) (none_wrong known_start es)

-- where a rule is broken
pub broken_known : (r : Rule) (es : List Traced)
    → option_or (first_wrong (breaks_at r) known_start es) (fails_at_end r (known es)) ≡ broken r es
broken_known r es = fails_known (test_of r) es

-- the verdict, by where the rule may be broken and how often it was kept
abbrev pub said : Recorded → Rule → Option ℕ → Bool → Option ℕ → ℕ → Verdict
said x r at none_broken suspect n = if is_recorded x r then elim at [
  | None ↦ elim (if none_broken then suspect else None) [ None ↦ if_asked n | Some i ↦ Verdict.Maybe i ]
  | Some i ↦ Verdict.Broken i
] else Verdict.Unseen

-- the verdict on a rule
pub verdict_known : (x : Recorded) (r : Rule) (es : List Traced)
    → verdict_by x r (known es) (broken r es) (none_broken (joined r) es) (asked r known_start es) ≡ verdict x r es
verdict_known x r es = let at = broken r es in let none = none_broken (joined r) es in
    ap (λ o. said x r at none o (kept_by r (known es) (asked r known_start es))) (suspect_known r es)
    ∙ ap (said x r at none (suspect r es)) (kept_known r es)

-- the rules of which one is broken if it is not said which: no event breaks them
joined_known : (r : Rule) (es : List Traced) → unbroken_at_end (joined r) (known es) ≡ none_broken (joined r) es
joined_known Rule.Compare es = refl
joined_known Rule.CompareSequence es = refl
joined_known Rule.Erase es = refl
joined_known Rule.EraseAll es = refl
joined_known Rule.EraseInTime es = refl
joined_known Rule.OwnEntries es = refl
joined_known Rule.SetSequence es = refl
joined_known Rule.OwnEvents es = refl
joined_known Rule.OwnSequence es = refl
joined_known r es = refl

-- the verdict on a rule, by what a judge keeps of it
said_known : (x : Recorded) (es : List Traced) (r : Rule) → said_of x (known es) (count_of es r) ≡ verdict x r es
said_known x es r = ap (λ o. verdict_by x r (known es) o (unbroken_at_end (joined r) (known es)) (asked r known_start es)) (broken_known r es)
    ∙ (ap (λ b. verdict_by x r (known es) (broken r es) b (asked r known_start es)) (joined_known r es) ∙ verdict_known x r es)

-- on all of them
pub all_said : (x : Recorded) (es : List Traced) (rs : List Rule)
    → map (said_of x (known es)) (map (count_of es) rs) ≡ map (λ r. verdict x r es) rs
all_said x es [] = refl
all_said x es (r ∷ rs) = ap (λ v. v ∷ map (said_of x (known es)) (map (count_of es) rs)) (said_known x es r)
    ∙ ap (λ vs. verdict x r es ∷ vs) (all_said x es rs)
