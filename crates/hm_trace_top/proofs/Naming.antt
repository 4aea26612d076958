-- What a verdict names is an event of the trace, and each event has a number.
use Rattle.std.proofs.Common.{◌≡◌, ℕ, ◌+◌, ◌<◌, ◌≤◌, ◌==◌, ◌&&◌, ◌||◌, Bool, true, false, not, is_none, Option, Some, None, List, [], ◌∷◌, ◌++◌, length, Result, Ok, Err, refl, ap, ◌∙◌, subst, arith, length-append}
use Rattle.std.specs.Prelude.{if◌then◌else◌, is_some, nat_lt}
use Rattle.std.specs.List.{flat_map}
use Rattle.hm_protocol.specs.declared.events.Recorded.{Recorded}
use Rattle.hm_protocol.specs.declared.events.Traced.{Traced}
use Rattle.hm_protocol.specs.declared.rules.Rule.{Rule}
use Rattle.hm_protocol.specs.declared.rules.Verdict.{Verdict}
use Rattle.hm_protocol.specs.Callbacks.{left_first, own_sequence_left}
use Rattle.hm_protocol.specs.Known.{Call, Early, Known, is_own, known_start}
use Rattle.hm_protocol.specs.Noted.{known, known_next}
use Rattle.hm_protocol.specs.Rules.{Test, broken, compare, fails, first_call, first_commit, first_wrong, test_of}
use Rattle.hm_protocol.specs.Verdicts.{if_asked, is_recorded, joined, kept, may_break, may_leave, none_broken, suspect, verdict}
use Rattle.hm_protocol.specs.Words.{is_empty}
use Rattle.hm_script.specs.Automaton.{lines, onto_line}
use Rattle.hm_script.specs.declared.reason.Reason.{Reason}
use Rattle.hm_trace.specs.Lines.{line_at}
use Rattle.hm_trace.specs.Progress.{read_next, start}
use Rattle.hm_trace.specs.Traces.{events_told, read_lines, with_front}
use Rattle.hm_trace.specs.declared.line.TraceLine.{TraceLine}
use Rattle.hm_trace.specs.declared.reader.Progress.{Progress}
use Rattle.hm_trace.specs.declared.reader.Refused.{Refused}
use Rattle.hm_trace_top.specs.Laws.{EventsAreNamed, IsNamed}
use Rattle.hm_trace_top.specs.Reading.{number_of, number_told, numbers_of}
use Rattle.hm_trace_top.proofs.Lines.{number_in, number_is, then_lines}
use Rattle.hm_trace_top.proofs.Positions.{Past, are_found, known_past}

-- ---- where a test is failed

one_wrong : (b : Bool) (here : ℕ) (o : Option ℕ) (n i : ℕ) → here < n → (o ≡ Some i → i < n) → elim b as (λ c. Option ℕ) [ true ↦ Some here | false ↦ o ] ≡ Some i → i < n
one_wrong true here o n i h g e = let same : here ≡ i = cc in subst (λ k. k < n) same h
one_wrong false here o n i h g e = g e

wrong_in : (test : Known → Traced → Bool) (es : List Traced) (k : Known) (n i : ℕ) → n ≡ k.at + length es → first_wrong test k es ≡ Some i → i < n
wrong_in test [] k n i e f = absurd (let no : None ≡ Some i = f in cc)
wrong_in test (s ∷ es) k n i e f =
    one_wrong (test k s) k.at (first_wrong test (known_next k s) es) n i (omega arith) (wrong_in test es (known_next k s) n i (omega arith)) f

-- what a test of all that is known says is the position of an event
abbrev EndIn : Test → Type 0
EndIn (Test.At test) = Unit {0}
EndIn (Test.Of test) = Unit {0}
EndIn (Test.End test) = (k : Known) (n i : ℕ) → Past k n → test k ≡ Some i → i < n

commit_in : (test : Bool → Bool) (k : Known) (n i : ℕ) → Past k n → first_commit test k ≡ Some i → i < n
commit_in test k n i p e = are_found (λ (x : ℕ × Bool). x.0) n (λ (x : ℕ × Bool). test x.1) k.stale i p.stale e

call_in : (test : Known → Call → Bool) (k : Known) (n i : ℕ) → Past k n → first_call test k ≡ Some i → i < n
call_in test k n i p e = are_found (λ (x : Call). x.at) n (test k) k.calls i p.calls e

unless : (b : Bool) (o : Option ℕ) (n i : ℕ) → (o ≡ Some i → i < n) → (if b then None else o) ≡ Some i → i < n
unless true o n i h e = absurd (let no : None ≡ Some i = e in cc)
unless false o n i h e = h e

rule_in : (r : Rule) → EndIn (test_of r)
rule_in Rule.Compare = commit_in (λ goes_on. goes_on)
rule_in Rule.CompareSequence = λ k n i p e. unless (is_some (compare k) || is_empty k.given_up) (first_commit not k) n i (commit_in not k n i p) e
rule_in Rule.BeginWaits = λ k n i p e. are_found (λ (x : Early). x.at) n (λ x. true) k.early i p.early e
rule_in r = tt

fails_in : (t : Test) → EndIn t → (es : List Traced) (i : ℕ) → fails t es ≡ Some i → i < length es
fails_in (Test.At test) h es i e = wrong_in test es known_start (length es) i (omega arith) e
fails_in (Test.Of test) h es i e = call_in test (known es) (length es) i (known_past es) e
fails_in (Test.End test) h es i e = h (known es) (length es) i (known_past es) e

-- ---- what a verdict names

suspect_in : (r : Rule) (es : List Traced) (i : ℕ) → suspect r es ≡ Some i → i < length es
suspect_in Rule.Compare es i e = commit_in (λ goes_on. true) (known es) (length es) i (known_past es) e
suspect_in Rule.CompareSequence es i e = commit_in (λ goes_on. true) (known es) (length es) i (known_past es) e
suspect_in Rule.Erase es i e = call_in may_leave (known es) (length es) i (known_past es) e
suspect_in Rule.EraseAll es i e = call_in (λ k x. may_leave k x && (not (is_own k x) && not (left_first k x))) (known es) (length es) i (known_past es) e
suspect_in Rule.EraseInTime es i e = call_in (λ k x. may_leave k x && (is_own k x || is_none x.ended)) (known es) (length es) i (known_past es) e
suspect_in Rule.OwnEntries es i e = call_in (λ k x. may_leave k x && is_own k x) (known es) (length es) i (known_past es) e
suspect_in Rule.SetSequence es i e = call_in (λ k x. own_sequence_left k x && is_empty x.had) (known es) (length es) i (known_past es) e
suspect_in Rule.OwnEvents es i e = call_in own_sequence_left (known es) (length es) i (known_past es) e
suspect_in Rule.OwnSequence es i e = call_in own_sequence_left (known es) (length es) i (known_past es) e
suspect_in r es i e = absurd (let no : None ≡ Some i = e in cc)

may_in : (b : Bool) (o : Option ℕ) (n i : ℕ) → (o ≡ Some i → i < n) → (if b then o else None) ≡ Some i → i < n
may_in true o n i h e = h e
may_in false o n i h e = absurd (let no : None ≡ Some i = e in cc)

not_named : (b : Bool) (n i : ℕ) → IsNamed i (if b then Verdict.Kept n else Verdict.Unseen) → ⊥
not_named true n i h = h
not_named false n i h = h

named_in : (b : Bool) (broken may : Option ℕ) (times n i : ℕ) → (broken ≡ Some i → i < n) → (may ≡ Some i → i < n)
    → IsNamed i (if b then elim broken as (λ o. Verdict) [ None ↦ elim may as (λ o. Verdict) [ None ↦ if_asked times | Some j ↦ Verdict.Maybe j ] | Some j ↦ Verdict.Broken j ] else Verdict.Unseen) → i < n
named_in false broken may times n i f g h = absurd h
named_in true (Some j) may times n i f g h = f (ap Some h)
named_in true None (Some j) times n i f g h = g (ap Some h)
named_in true None None times n i f g h = absurd (not_named (nat_lt 0 times) times i h)

is_there : (es : List Traced) (x : Recorded) (r : Rule) (i : ℕ) → IsNamed i (verdict x r es) → i < length es
is_there es x r i h = named_in (is_recorded x r) (broken r es) (may_break r es) (kept r es) (length es) i
    (fails_in (test_of r) (rule_in r) es i) (may_in (none_broken (joined r) es) (suspect r es) (length es) i (suspect_in r es i)) h

-- ---- numbers

-- there are so many events
abbrev Counts : ℕ → Result (Progress × List Traced) Refused → Type 0
Counts n (Ok x) = n ≡ length x.1
Counts n (Err why) = Unit {0}

told_counts : (x : TraceLine) → length (number_told x) ≡ length (events_told x)
told_counts (TraceLine.Event n e) = refl
told_counts x = refl

front_counts : (ns ms : List ℕ) (es : List Traced) (y : Result (Progress × List Traced) Refused) → length ns ≡ length es → Counts (length ms) y → Counts (length (ns ++ ms)) (with_front es y)
front_counts ns ms es (Ok y) e h = omega (arith, length-append ns ms, length-append es y.1, h)
front_counts ns ms es (Err why) e h = tt

one_counts : (p : Progress) (l : List ℕ) (ls : List (List ℕ)) → ((q : Progress) → Counts (length (flat_map number_of ls)) (read_lines q ls)) → (z : Result (Progress × TraceLine) Refused) → read_next p l ≡ z
    → Counts (length (number_of l ++ flat_map number_of ls)) (then_lines ls z)
one_counts p l ls rest (Ok x) e =
    front_counts (number_of l) (flat_map number_of ls) (events_told x.1) (read_lines x.0 ls) (ap length (number_is p x.0 l x.1 e) ∙ told_counts x.1) (rest x.0)
one_counts p l ls rest (Err why) e = tt

all_counts : (p : Progress) (ls : List (List ℕ)) → Counts (length (flat_map number_of ls)) (read_lines p ls)
all_counts p [] = refl
all_counts p (l ∷ ls) = one_counts p l ls (λ q. all_counts q ls) (read_next p l) refl

-- a line tells one event at most
one_number : (z : Result TraceLine Reason) → length (number_in z) ≤ 1
one_number (Ok (TraceLine.Event n e)) = omega arith
one_number (Ok x) = omega arith
one_number (Err why) = omega arith

numbers_few : (ls : List (List ℕ)) → length (flat_map number_of ls) ≤ length ls
numbers_few [] = omega arith
numbers_few (l ∷ ls) = omega (arith, length-append (number_of l) (flat_map number_of ls), one_number (line_at l), numbers_few ls)

onto_few : (b : ℕ) (ls : List (List ℕ)) → length (onto_line b ls) ≤ length ls + 1
onto_few b [] = omega arith
onto_few b (l ∷ ls) = omega arith

-- there are no more lines than bytes
lines_few : (bytes : List ℕ) → length (lines bytes) ≤ length bytes
lines_few [] = omega arith
lines_few (b ∷ bytes) = by (b == 10) (lines_few bytes)
  where
    by : (c : Bool) → length (lines bytes) ≤ length bytes → length (if c then (10 ∷ []) ∷ lines bytes else onto_line b (lines bytes)) ≤ length (b ∷ bytes)
    by true h = omega arith
    by false h = omega (arith, onto_few b (lines bytes))

pub events_are_named : EventsAreNamed
events_are_named bytes p es e =
    let counts : length (numbers_of bytes) ≡ length es = subst (Counts (length (numbers_of bytes))) e (all_counts start (lines bytes)) in
    (counts, omega (arith, numbers_few (lines bytes), lines_few bytes), is_there es)
