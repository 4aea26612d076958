-- What is said of a rule by the verdicts on several traces.
use Rattle.std.specs.Prelude.{ℕ, Bool, true, false, nat_lt, if◌then◌else◌, Option, Some, None, List, [], ◌∷◌, ◌++◌}
use Rattle.std.specs.Prelude.{length, count_by, codes, slice_get}
use Rattle.std.specs.List.{find, list_all, list_any, sum_by}
use Rattle.std.specs.Fmt.{decimal}
use Rattle.hm_protocol.specs.declared.rules.Rule.{Rule}
use Rattle.hm_protocol.specs.declared.rules.Verdict.{Verdict}
use Rattle.hm_protocol.specs.Rules.{all_rules}
use Rattle.hm_protocol.specs.Verdicts.{joined}
use Rattle.hm_trace_top.specs.Names.{place_of, rule_name}
use Rattle.hm_trace_top.specs.declared.ended.Outcome.{Outcome}
use Rattle.hm_trace_top.specs.declared.together.Combined.{Combined}

-- ---- one trace

-- a rule is broken
abbrev pub is_broken : Verdict → Bool
is_broken (Verdict.Broken i) = true
is_broken v = false

-- it may be
abbrev pub is_open : Verdict → Bool
is_open (Verdict.Maybe i) = true
is_open v = false

-- nothing tests it
abbrev pub is_unseen : Verdict → Bool
is_unseen Verdict.Unseen = true
is_unseen v = false

-- how often it was kept
abbrev pub times_kept : Verdict → ℕ
times_kept (Verdict.Kept n) = n
times_kept v = 0

-- the verdict on a rule, of those on all
abbrev pub verdict_on : List Verdict → Rule → Verdict
verdict_on vs r = elim (slice_get vs (place_of r)) [ None ↦ Verdict.Unseen | Some v ↦ v ]

-- ---- several traces, each with its verdicts

-- how many of them break the rule
abbrev pub broken_in : List (List Verdict) → Rule → ℕ
broken_in vss r = count_by (λ vs. is_broken (verdict_on vs r)) vss

-- how many of them may break it
abbrev pub open_in : List (List Verdict) → Rule → ℕ
open_in vss r = count_by (λ vs. is_open (verdict_on vs r)) vss

-- how often they keep it
abbrev pub kept_in : List (List Verdict) → Rule → ℕ
kept_in vss r = sum_by (λ vs. times_kept (verdict_on vs r)) vss

-- none of them tests it
abbrev pub is_unseen_in : List (List Verdict) → Rule → Bool
is_unseen_in vss r = list_all (λ vs. is_unseen (verdict_on vs r)) vss

-- the first of the rules of which one is broken where this one may be, that some of these traces breaks
abbrev pub broken_partner : List (List Verdict) → Rule → Option Rule
broken_partner vss r = find (λ q. nat_lt 0 (broken_in vss q)) (joined r)

-- what is said of the rule: it is broken, if some trace breaks it; or else it may be, if it may be in some trace. What
-- another rule of the same suspicion, which some trace breaks, would account for is said to be so
abbrev pub together : List (List Verdict) → Rule → Combined
together vss r =
    if nat_lt 0 (broken_in vss r) then Combined.Broken (broken_in vss r)
    else if nat_lt 0 (open_in vss r) then Combined.Maybe (open_in vss r) (broken_partner vss r)
    else if is_unseen_in vss r then Combined.Unseen else Combined.Kept (kept_in vss r)

-- ---- what they come to

-- some rule is broken
abbrev pub has_broken : List Verdict → Bool
has_broken vs = list_any is_broken vs

-- some trace breaks one
abbrev pub some_broken : List (List Verdict) → Bool
some_broken vss = list_any has_broken vss

-- the first of these rules that no trace tests
abbrev pub first_unseen : List Rule → List (List Verdict) → Option Rule
first_unseen rs vss = find (λ r. is_unseen_in vss r) rs

-- what verdicts come to, if these rules are to be tested
abbrev pub outcome_of : List Rule → List (List Verdict) → Outcome
outcome_of rs vss = if some_broken vss then Outcome.Broken
    else elim (first_unseen rs vss) [ None ↦ Outcome.Kept | Some r ↦ Outcome.Unseen r ]

-- ---- the text

-- what is said of a rule after its word
abbrev pub together_text : Combined → List ℕ
together_text (Combined.Broken n) = codes " broken in " ++ decimal n
together_text (Combined.Maybe n q) = codes " maybe in " ++ decimal n
together_text (Combined.Kept n) = codes " kept " ++ decimal n
together_text Combined.Unseen = codes " unseen"

-- the broken rule that would account for it
abbrev pub unless_text : Combined → List ℕ
unless_text (Combined.Maybe n (Some q)) = codes " if not " ++ rule_name q
unless_text t = []

-- the line of a rule
abbrev pub together_line : Rule → Combined → List ℕ
together_line r t = rule_name r ++ (together_text t ++ (unless_text t ++ 10 ∷ []))

-- the lines of some rules
abbrev pub together_lines : List (List Verdict) → List Rule → List ℕ
together_lines vss [] = []
together_lines vss (r ∷ rs) = together_line r (together vss r) ++ together_lines vss rs

-- how many traces there are
abbrev pub count_line : ℕ → List ℕ
count_line n = codes "all " ++ (decimal n ++ codes " traces\n")

-- all of it: how many traces there are, and a line for each rule
unfoldable pub all_text : List (List Verdict) → List ℕ
all_text vss = count_line (length vss) ++ together_lines vss all_rules
