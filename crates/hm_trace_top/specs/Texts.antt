-- The text of the verdicts on a trace.
use Rattle.std.specs.Prelude.{ℕ, List, [], ◌∷◌, ◌++◌, false, if◌then◌else◌, Option, Some, None, codes, length, map, slice_get}
use Rattle.std.specs.Fmt.{decimal}
use Rattle.hm_protocol.specs.declared.events.Recorded.{Recorded}
use Rattle.hm_protocol.specs.declared.events.Traced.{Traced}
use Rattle.hm_protocol.specs.declared.rules.Rule.{Rule}
use Rattle.hm_protocol.specs.declared.rules.Verdict.{Verdict}
use Rattle.hm_protocol.specs.Rules.{all_rules}
use Rattle.hm_protocol.specs.Verdicts.{verdict}
use Rattle.hm_trace.specs.Progress.{is_whole}
use Rattle.hm_trace.specs.declared.reader.Progress.{Progress}
use Rattle.hm_trace_top.specs.Names.{rule_name}
use Rattle.hm_trace_top.specs.Origins.{origin_of}
use Rattle.hm_trace_top.specs.Sentences.{sentence}
use Rattle.hm_trace_top.specs.declared.origins.Origin.{Origin}

-- ---- verdicts

-- what is recorded of a driver if no line says it: nothing but the kernel's own events
abbrev pub nothing : Recorded
nothing = record { set = false; erase = false; uses = false; take = false; free = false; model = false }

-- what was recorded, as a line of the trace says it
abbrev pub recorded_in : Option Recorded → Recorded
recorded_in None = nothing
recorded_in (Some r) = r

-- the verdicts on the events of a trace, one for each rule
unfoldable pub verdicts : Option Recorded → List Traced → List Verdict
verdicts x es = map (λ r. verdict (recorded_in x) r es) all_rules

-- ---- their text

-- the number of the event at a position, by the numbers of all events
abbrev pub number_at : List ℕ → ℕ → ℕ
number_at ns i = elim (slice_get ns i) [ None ↦ i | Some n ↦ n ]

-- what is said of a rule after its word
abbrev pub verdict_text : List ℕ → Verdict → List ℕ
verdict_text ns (Verdict.Kept n) = codes " kept " ++ decimal n
verdict_text ns Verdict.Unseen = codes " unseen"
verdict_text ns (Verdict.Maybe i) = codes " maybe " ++ decimal (number_at ns i)
verdict_text ns (Verdict.Broken i) = codes " broken " ++ decimal (number_at ns i)

-- the event that was met after the first
abbrev pub met_text : List ℕ → Option ℕ → List ℕ
met_text ns None = []
met_text ns (Some i) = codes " and " ++ decimal (number_at ns i)

-- the events that a verdict goes back to, if there are any
abbrev pub origin_text : List ℕ → Option ℕ → Option ℕ → List ℕ
origin_text ns None met = []
origin_text ns (Some i) met = codes "; goes back to " ++ (decimal (number_at ns i) ++ met_text ns met)

-- what the rule says, and to which events its verdict goes back
abbrev pub sentence_line : List ℕ → Rule → Origin → List ℕ
sentence_line ns r o = codes "  " ++ (sentence r ++ (origin_text ns o.from o.met ++ 10 ∷ []))

-- the same of a rule that is broken by the event at a position of these, or may be
abbrev pub reason_line : List Traced → List ℕ → Rule → Verdict → List ℕ
reason_line es ns r (Verdict.Kept n) = []
reason_line es ns r Verdict.Unseen = []
reason_line es ns r (Verdict.Maybe i) = sentence_line ns r (origin_of r es i)
reason_line es ns r (Verdict.Broken i) = sentence_line ns r (origin_of r es i)

-- the line of a rule, and what it says if it is broken, or may be
abbrev pub rule_line : List Traced → List ℕ → Rule → Verdict → List ℕ
rule_line es ns r v = rule_name r ++ (verdict_text ns v ++ (10 ∷ reason_line es ns r v))

-- the lines of some rules, each with its verdict
abbrev pub rule_lines : List Traced → List ℕ → List Rule → List Verdict → List ℕ
rule_lines es ns [] vs = []
rule_lines es ns (r ∷ rs) [] = []
rule_lines es ns (r ∷ rs) (v ∷ vs) = rule_line es ns r v ++ rule_lines es ns rs vs

-- the first line: how many events there are, and whether all are there from number 0 on
abbrev pub events_line : Progress → ℕ → List ℕ
events_line p n = codes "events " ++ (decimal n ++ (if is_whole p then codes " whole\n" else codes " part\n"))

-- all of it, of a trace with these events, which have these numbers, by its verdicts
unfoldable pub lines_text : Progress → List Traced → List ℕ → List Verdict → List ℕ
lines_text p es ns vs = events_line p (length es) ++ rule_lines es ns all_rules vs
