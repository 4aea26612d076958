-- Lines that are read one after the other are read as a whole trace.
use Rattle.std.proofs.Common.{◌≡◌, ℕ, List, [], ◌∷◌, ◌++◌, Result, Ok, Err, refl, sym, ap, ◌∙◌, subst, append_assoc, append-nil}
use Rattle.std.specs.List.{flat_map}
use Rattle.hm_protocol.specs.declared.events.Traced.{Traced}
use Rattle.hm_script.specs.declared.reason.Reason.{Reason}
use Rattle.hm_trace.specs.Lines.{line_at}
use Rattle.hm_trace.specs.Progress.{progress_next, read_next, refused, start}
use Rattle.hm_trace.specs.Traces.{events_told, read_lines, with_front}
use Rattle.hm_trace.specs.declared.line.TraceLine.{TraceLine}
use Rattle.hm_trace.specs.declared.reader.Fault.{Fault}
use Rattle.hm_trace.specs.declared.reader.Progress.{Progress}
use Rattle.hm_trace.specs.declared.reader.Refused.{Refused}
use Rattle.hm_trace.proofs.TracesAgain.{told_of, went_of}
use Rattle.hm_trace_top.specs.Reading.{IsTrace, IsUnread, Read, Stops, number_of, number_told, opening, read_more, read_of, read_on}
use Rattle.hm_trace_top.specs.declared.reading.Trace.{Trace}
use Rattle.hm_trace_top.specs.declared.reading.Unread.{Unread}

-- ---- numbers

abbrev pub number_in : Result TraceLine Reason → List ℕ
number_in r = elim r [ Ok x ↦ number_told x | Err why ↦ [] ]

told_same : (p q : Progress) (x z : TraceLine) (r : Result Progress Fault) → went_of p z r ≡ Ok (q, x) → z ≡ x
told_same p q x z (Ok y) e = let same : (y, z) ≡ (q, x) = cc in ap (λ (t : Progress × TraceLine). t.1) same
told_same p q x z (Err f) e = absurd (let no : Err (refused p f) ≡ Ok (q, x) = e in cc)

number_same : (p q : Progress) (x : TraceLine) (r : Result TraceLine Reason) → told_of p r ≡ Ok (q, x) → number_in r ≡ number_told x
number_same p q x (Ok z) e = ap number_told (told_same p q x z (progress_next p z) e)
number_same p q x (Err why) e = absurd (let no : Err (refused p (Fault.Line why)) ≡ Ok (q, x) = e in cc)

pub number_is : (p q : Progress) (l : List ℕ) (x : TraceLine) → read_next p l ≡ Ok (q, x) → number_of l ≡ number_told x
number_is p q l x e = number_same p q x (line_at l) e

-- ---- lines

-- what lines tell, after what was read before them
abbrev read_after : Read → List (List ℕ) → Result (Progress × List Traced) Refused → Result Read Refused
read_after r ls (Ok x) =
    Ok (record { progress = x.0; events = r.events ++ x.1; numbers = r.numbers ++ flat_map number_of ls })
read_after r ls (Err why) = Err why

abbrev reads : Progress → List Traced → List ℕ → Result Read Refused
reads p es ns = Ok (record { progress = p; events = es; numbers = ns })

same_reads : (p : Progress) (es fs : List Traced) (ns ms : List ℕ) → es ≡ fs → ns ≡ ms → reads p es ns ≡ reads p fs ms
same_reads p es fs ns ms e f = cc

on_front : (r : Read) (l : List ℕ) (ls : List (List ℕ)) (q : Progress) (x : TraceLine) → number_of l ≡ number_told x → (y : Result (Progress × List Traced) Refused)
    → read_after (read_more r q x) ls y ≡ read_after r (l ∷ ls) (with_front (events_told x) y)
on_front r l ls q x is (Ok y) =
    same_reads y.0 ((r.events ++ events_told x) ++ y.1) (r.events ++ (events_told x ++ y.1)) ((r.numbers ++ number_told x) ++ flat_map number_of ls) (r.numbers ++ (number_of l ++ flat_map number_of ls))
    (append_assoc r.events (events_told x) y.1)
    (append_assoc r.numbers (number_told x) (flat_map number_of ls) ∙ ap (λ (z : List ℕ). r.numbers ++ (z ++ flat_map number_of ls)) (sym is))
on_front r l ls q x is (Err why) = refl

-- a line, and then the others
abbrev then_on : Read → List (List ℕ) → Result (Progress × TraceLine) Refused → Result Read Refused
then_on r ls z = elim (elim z as (λ k. Result Read Refused) [ Ok x ↦ Ok (read_more r x.0 x.1) | Err why ↦ Err why ]) [ Ok s ↦ read_on s ls | Err why ↦ Err why ]

-- the lines behind one, by what that one tells
abbrev pub then_lines : List (List ℕ) → Result (Progress × TraceLine) Refused → Result (Progress × List Traced) Refused
then_lines ls z = elim z [ Ok x ↦ with_front (events_told x.1) (read_lines x.0 ls) | Err why ↦ Err why ]

one_on : (r : Read) (l : List ℕ) (ls : List (List ℕ)) → ((s : Read) → read_on s ls ≡ read_after s ls (read_lines s.progress ls)) → (z : Result (Progress × TraceLine) Refused) → read_next r.progress l ≡ z
    → then_on r ls z ≡ read_after r (l ∷ ls) (then_lines ls z)
one_on r l ls rest (Ok x) e = rest (read_more r x.0 x.1) ∙ on_front r l ls x.0 x.1 (number_is r.progress x.0 l x.1 e) (read_lines x.0 ls)
one_on r l ls rest (Err why) e = refl

pub on_lines : (r : Read) (ls : List (List ℕ)) → read_on r ls ≡ read_after r ls (read_lines r.progress ls)
on_lines r [] = same_reads r.progress r.events (r.events ++ []) r.numbers (r.numbers ++ []) (sym (append-nil r.events)) (sym (append-nil r.numbers))
on_lines r (l ∷ ls) = one_on r l ls (λ s. on_lines s ls) (read_next r.progress l) refl

-- ---- a whole trace

read_same : (ls : List (List ℕ)) (y : Result (Progress × List Traced) Refused)
    → read_after opening ls y ≡ elim y as (λ z. Result Read Refused) [ Ok x ↦ reads x.0 x.1 (flat_map number_of ls) | Err why ↦ Err why ]
read_same ls (Ok y) = refl
read_same ls (Err why) = refl

-- what was read of all lines is what the trace tells
are_read : (ls : List (List ℕ)) → read_on opening ls ≡ read_of ls
are_read ls = on_lines opening ls ∙ read_same ls (read_lines start ls)

all_same : (p q : Progress) (es fs : List Traced) (ns ms : List ℕ) → p ≡ q → es ≡ fs → ns ≡ ms → reads p es ns ≡ reads q fs ms
all_same p q es fs ns ms d e f = cc

-- so it is of a trace that has just that
pub is_trace : (ls : List (List ℕ)) (before r : Read) (t : Trace) → before ≡ opening → read_on before ls ≡ Ok r → t.progress ≡ r.progress → t.events.items ≡ r.events → t.numbers.items ≡ r.numbers → IsTrace ls t
is_trace ls before r t is e p es ns =
    sym (are_read ls) ∙ subst (λ (s : Read). read_on s ls ≡ Ok r) is e
    ∙ all_same r.progress t.progress r.events t.events.items r.numbers t.numbers.items (sym p) (sym es) (sym ns)

-- and of why there is none
pub is_unread : (ls : List (List ℕ)) (before : Read) (why : Unread) → before ≡ opening → Stops (read_on before ls) why → IsUnread ls why
is_unread ls before (Unread.Refused refused) is e = sym (are_read ls) ∙ subst (λ (s : Read). read_on s ls ≡ Err refused) is e
is_unread ls before Unread.NoMemory is e = tt
