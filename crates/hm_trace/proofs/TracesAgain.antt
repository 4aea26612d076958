-- The text of a whole trace is read back; and lines that are read after others.
use Rattle.std.proofs.Common.{◌≡◌, ℕ, ◌+◌, ◌-◌, ◌^◌, ◌<◌, Bool, true, cond, eqb, Option, Some, None, List, [], ◌∷◌, ◌++◌, length, map, Result, Ok, Err, refl, sym, ap, subst, ◌∙◌, arith, append_assoc}
use Rattle.std.specs.Prelude.{codes}
use Rattle.std.specs.Fmt.{decimal}
use Rattle.std.proofs.lemmas.Bool.{eq-eqb, lt-ltb}
use Rattle.hm_protocol.specs.declared.events.Recorded.{Recorded}
use Rattle.hm_protocol.specs.declared.events.Traced.{Traced}
use Rattle.hm_report.specs.Words.{actor_text}
use Rattle.hm_script.specs.Automaton.{lines}
use Rattle.hm_script.specs.Spelling.{line}
use Rattle.hm_script.specs.declared.reason.Reason.{Reason}
use Rattle.hm_script.proofs.LinesAgain.{AreLines, lines-text}
use Rattle.hm_trace.specs.Fits.{FitsTraced}
use Rattle.hm_trace.specs.Lines.{line_at}
use Rattle.hm_trace.specs.Progress.{event_next, is_whole, progress_next, read_next, read_told, refused, start, with_line}
use Rattle.hm_trace.specs.Spelling.{event_line, event_words, names_line, recorded_words}
use Rattle.hm_trace.specs.Traces.{FitsAll, IsReadAs, events_told, events_words, read_lines, trace_text, with_front}
use Rattle.hm_trace.specs.declared.line.TraceLine.{TraceLine}
use Rattle.hm_trace.specs.declared.reader.Fault.{Fault}
use Rattle.hm_trace.specs.declared.reader.Numbers.{Numbers}
use Rattle.hm_trace.specs.declared.reader.Progress.{Progress}
use Rattle.hm_trace.specs.declared.reader.Refused.{Refused}
use Rattle.hm_trace.proofs.NamesAgain.{names_words}
use Rattle.hm_trace.proofs.TextAgain.{event_are, line-again, words_plain}

-- ---- lines after others

abbrev Read : Type 0
Read = Result (Progress × List Traced) Refused

front_front : (es fs : List Traced) (r : Read) → with_front es (with_front fs r) ≡ with_front (es ++ fs) r
front_front es fs (Ok x) = ap (λ (z : List Traced). kept x.0 z) (sym (append_assoc es fs x.1))
  where
    kept : Progress → List Traced → Read
    kept p z = Ok (p, z)
front_front es fs (Err w) = refl

-- lines that were read, and more: what the more tell comes after
abbrev then_lines : List (List ℕ) → Read → Read
then_lines ls (Ok x) = with_front x.1 (read_lines x.0 ls)
then_lines ls (Err w) = Err w

then_front : (es : List Traced) (ls : List (List ℕ)) (r : Read) → then_lines ls (with_front es r) ≡ with_front es (then_lines ls r)
then_front es ls (Ok x) = sym (front_front es x.1 (read_lines x.0 ls))
then_front es ls (Err w) = refl

no_front : (r : Read) → with_front [] r ≡ r
no_front (Ok x) = refl
no_front (Err w) = refl

-- what the lines behind one tell, by what that one told
lines_of : List (List ℕ) → Result (Progress × TraceLine) Refused → Read
lines_of ls r = elim r [
  | Ok x ↦ with_front (events_told x.1) (read_lines x.0 ls)
  | Err w ↦ Err w
]

of_more : (ks ls : List (List ℕ)) → ((q : Progress) → read_lines q (ks ++ ls) ≡ then_lines ls (read_lines q ks)) → (r : Result (Progress × TraceLine) Refused) → lines_of (ks ++ ls) r ≡ then_lines ls (lines_of ks r)
unfolding lines_of
of_more ks ls rest (Ok x) = ap (with_front (events_told x.1)) (rest x.0) ∙ sym (then_front (events_told x.1) ls (read_lines x.0 ks))
of_more ks ls rest (Err w) = refl

pub lines_after : (p : Progress) (ks ls : List (List ℕ)) → read_lines p (ks ++ ls) ≡ then_lines ls (read_lines p ks)
unfolding lines_of
lines_after p [] ls = sym (no_front (read_lines p ls))
lines_after p (k ∷ ks) ls = of_more ks ls (λ q. lines_after q ks ls) (read_next p k)

-- ---- the text of a whole trace

abbrev none : Option Numbers
none = None

abbrev at_number : ℕ → ℕ → Option Numbers
at_number first next = Some (record { first = first; next = next })

abbrev after_event : Progress → ℕ → ℕ → Progress
after_event p first n = record (with_line p) { numbers = at_number first (n + 1) }

-- a line after others, step by step
abbrev pub told_of : Progress → Result TraceLine Reason → Result (Progress × TraceLine) Refused
told_of p r = elim r [ Ok x ↦ read_told p x | Err r ↦ Err (refused p (Fault.Line r)) ]

abbrev pub went_of : Progress → TraceLine → Result Progress Fault → Result (Progress × TraceLine) Refused
went_of p x r = elim r [ Ok q ↦ Ok (q, x) | Err f ↦ Err (refused p f) ]

abbrev goes_of : Progress → ℕ → Option Numbers → Result Progress Fault
goes_of p n ns = elim ns [
  | None ↦ Ok (record (with_line p) { numbers = at_number n (n + 1) })
  | Some x ↦ cond (eqb x.next n) (Ok (record (with_line p) { numbers = at_number x.first (n + 1) })) (Err Fault.NotNext)
]

-- a line that tells this, after which reading has come that far
one_line : (p q : Progress) (l : List ℕ) (x : TraceLine) → line_at l ≡ Ok x → progress_next p x ≡ Ok q → read_next p l ≡ Ok (q, x)
one_line p q l x tells goes =
    subst (λ (r : Result TraceLine Reason). told_of p r ≡ Ok (q, x)) (sym tells) (subst (λ (r : Result Progress Fault). went_of p x r ≡ Ok (q, x)) (sym goes) refl)

in_range : (p q : Progress) (n : ℕ) → n < 2 ^ 64 - 1 → goes_of p n p.numbers ≡ Ok q → event_next p n ≡ Ok q
in_range p q n few goes = subst (λ (b : Bool). cond b (goes_of p n p.numbers) (Err Fault.TooMany) ≡ Ok q) (sym (lt-ltb n (2 ^ 64 - 1) few)) goes

next_goes : (p : Progress) (first n : ℕ) → p.numbers ≡ at_number first n → n < 2 ^ 64 - 1 → event_next p n ≡ Ok (after_event p first n)
next_goes p first n numbers few =
    let at : cond (eqb n n) (Ok (after_event p first n)) (Err Fault.NotNext) ≡ Ok (after_event p first n) = rw (eq-eqb n n refl) refl in
    in_range p (after_event p first n) n few (subst (λ (ns : Option Numbers). goes_of p n ns ≡ Ok (after_event p first n)) (sym numbers) at)

first_goes : (p : Progress) (n : ℕ) → p.numbers ≡ none → n < 2 ^ 64 - 1 → event_next p n ≡ Ok (after_event p n n)
first_goes p n numbers few = in_range p (after_event p n n) n few (subst (λ (ns : Option Numbers). goes_of p n ns ≡ Ok (after_event p n n)) (sym numbers) refl)

next_event : (p : Progress) (first n : ℕ) (e : Traced) → p.numbers ≡ at_number first n → n < 2 ^ 64 - 1 → FitsTraced e → read_next p (event_line n e) ≡ Ok (after_event p first n, TraceLine.Event n e)
next_event p first n e numbers few h = one_line p (after_event p first n) (event_line n e) (TraceLine.Event n e) (line-again (TraceLine.Event n e) (omega arith, h)) (next_goes p first n numbers few)

first_event : (p : Progress) (n : ℕ) (e : Traced) → p.numbers ≡ none → n < 2 ^ 64 - 1 → FitsTraced e → read_next p (event_line n e) ≡ Ok (after_event p n n, TraceLine.Event n e)
first_event p n e numbers few h = one_line p (after_event p n n) (event_line n e) (TraceLine.Event n e) (line-again (TraceLine.Event n e) (omega arith, h)) (first_goes p n numbers few)

-- some events were read after these: nothing else has changed
record Went (p : Progress) (ls : List (List ℕ)) (es : List Traced) (ns : Option Numbers) : Type 0 where
  end : Progress
  read : read_lines p ls ≡ Ok (end, es)
  numbers : end.numbers ≡ ns
  recorded : end.recorded ≡ p.recorded
  lost : end.lost ≡ p.lost
  missed : end.missed ≡ p.missed

one_more : (p q : Progress) (l : List ℕ) (ls : List (List ℕ)) (n : ℕ) (e : Traced) (es : List Traced) (ns : Option Numbers) → read_next p l ≡ Ok (q, TraceLine.Event n e) → q.recorded ≡ p.recorded → q.lost ≡ p.lost → q.missed ≡ p.missed → Went q ls es ns → Went p (l ∷ ls) (e ∷ es) ns
unfolding lines_of
one_more p q l ls n e es ns here recorded lost missed w = record {
  end = w.end;
  read = subst (λ r. lines_of ls r ≡ Ok (w.end, e ∷ es)) (sym here) (ap (with_front (e ∷ [])) w.read);
  numbers = w.numbers;
  recorded = w.recorded ∙ recorded;
  lost = w.lost ∙ lost;
  missed = w.missed ∙ missed;
}

events_read : (p : Progress) (first n : ℕ) (es : List Traced) → p.numbers ≡ at_number first n → FitsAll es → n + length es < 2 ^ 64 → Went p (map line (events_words n es)) es (at_number first (n + length es))
events_read p first n [] numbers h few =
    let same : at_number first n ≡ at_number first (n + 0) = ap (at_number first) (omega arith) in
    record { end = p; read = refl; numbers = numbers ∙ same; recorded = refl; lost = refl; missed = refl }
events_read p first n (e ∷ es) numbers h few =
    let rest = events_read (after_event p first n) first (n + 1) es refl h.1 (omega arith) in
    let same : at_number first (n + 1 + length es) ≡ at_number first (n + length (e ∷ es)) = ap (at_number first) (omega arith) in
    subst (Went p (map line (events_words n (e ∷ es))) (e ∷ es)) same (one_more p (after_event p first n) (event_line n e) (map line (events_words (n + 1) es)) n e es _ (next_event p first n e numbers (omega arith) h.0) refl refl refl rest)

events_lines : (n : ℕ) (es : List Traced) → FitsAll es → n + length es < 2 ^ 64 → AreLines (events_words n es)
events_lines n [] h few = tt
events_lines n (e ∷ es) h few = ((omega arith, words_plain (decimal n ∷ actor_text e.thread ∷ event_words e.event) (event_are n e (omega arith) h.0)), events_lines (n + 1) es h.1 (omega arith))

trace_lines : (r : Recorded) (es : List Traced) → FitsAll es → length es < 2 ^ 64 → lines (trace_text r es) ≡ names_line r ∷ map line (events_words 0 es)
trace_lines r es h few =
    lines-text ((codes "names" ∷ recorded_words r) ∷ events_words 0 es) ((omega arith, words_plain (codes "names" ∷ recorded_words r) (names_words r)), events_lines 0 es h (omega arith))

abbrev named : Recorded → Progress
named r = record (with_line start) { recorded = Some r }

names_first : (r : Recorded) → read_next start (names_line r) ≡ Ok (named r, TraceLine.Names r)
names_first r = one_line start (named r) (names_line r) (TraceLine.Names r) (line-again (TraceLine.Names r) tt) refl

after_names : (r : Recorded) (ls : List (List ℕ)) → read_lines start (names_line r ∷ ls) ≡ with_front [] (read_lines (named r) ls)
unfolding lines_of
after_names r ls = ap (lines_of ls) (names_first r)

all_read : (r : Recorded) (es : List Traced) → FitsAll es → length es < 2 ^ 64 → (q : Progress) × (read_lines (named r) (map line (events_words 0 es)) ≡ Ok (q, es)) × (is_whole q ≡ true) × (q.recorded ≡ Some r)
all_read r [] h few = (named r, refl, refl, refl)
all_read r (e ∷ es) h few =
    let rest = events_read (after_event (named r) 0 0) 0 1 es refl h.1 (omega arith) in
    let w = one_more (named r) (after_event (named r) 0 0) (event_line 0 e) (map line (events_words 1 es)) 0 e es _ (first_event (named r) 0 e refl (omega arith) h.0) refl refl refl rest in
    (w.end, w.read, rw (w.lost, w.missed, w.numbers) refl, w.recorded)

pub trace-again : (r : Recorded) (es : List Traced) → FitsAll es → length es < 2 ^ 64 → IsReadAs (trace_text r es) r es
trace-again r es h few =
    let x = all_read r es h few in
    record {
      end = x.0;
      read = ap (read_lines start) (trace_lines r es h few) ∙ after_names r (map line (events_words 0 es)) ∙ ap (with_front []) x.1;
      whole = x.2;
      recorded = x.3;
    }

-- once a line is refused, what follows changes nothing
pub refused_after : (p : Progress) (ks ls : List (List ℕ)) (w : Refused) → read_lines p ks ≡ Err w → read_lines p (ks ++ ls) ≡ Err w
refused_after p ks ls w e = lines_after p ks ls ∙ ap (then_lines ls) e

-- after lines that were read the next ones are read from there on
pub read_after : (p q : Progress) (ks ls : List (List ℕ)) (es : List Traced) → read_lines p ks ≡ Ok (q, es) → read_lines p (ks ++ ls) ≡ with_front es (read_lines q ls)
read_after p q ks ls es e = lines_after p ks ls ∙ ap (then_lines ls) e
