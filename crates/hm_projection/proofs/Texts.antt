-- The text of a trace, event by event.
use Rattle.std.proofs.Common.{◌≡◌, ℕ, ◌+◌, ◌^◌, ◌<◌, List, [], ◌∷◌, ◌++◌, length, get_or, take, sym, ap, ◌∙◌, subst, arith}
use Rattle.std.specs.Prelude.{codes, false, IfOk, Result, Ok, Err}
use Rattle.std.specs.Fmt.{decimal}
use Rattle.std.specs.List.{flat_map}
use Rattle.std.proofs.lemmas.Grind.{flat_map-append}
use Rattle.std.proofs.lemmas.List.{append-nil, length-take, take_more}
use Rattle.hm_base.specs.Program.{Program}
use Rattle.hm_history.specs.declared.Entry.{Entry}
use Rattle.hm_protocol.specs.Laws.{is_blame}
use Rattle.hm_protocol.specs.Projection.{project}
use Rattle.hm_protocol.specs.Verdicts.{verdict}
use Rattle.hm_protocol.specs.declared.rules.Rule.{Rule}
use Rattle.hm_trace.specs.Progress.{is_whole}
use Rattle.hm_trace.specs.declared.reader.Progress.{Progress}
use Rattle.hm_protocol.specs.declared.events.Recorded.{Recorded}
use Rattle.hm_protocol.specs.declared.events.Traced.{Traced}
use Rattle.hm_report.specs.Words.{actor_text}
use Rattle.hm_script.specs.Spelling.{line}
use Rattle.hm_trace.specs.Fits.{FitsTraced}
use Rattle.hm_trace.specs.Spelling.{event_line, event_words, recorded_words}
use Rattle.hm_trace.specs.Traces.{FitsAll, IsReadAs, events_words, read_trace, trace_text}
use Rattle.hm_trace.proofs.TracesAgain.{trace-again}
use Rattle.hm_projection.specs.Traces.{IsReadBack, IsUnblamed, all, trace_of}

words_more : (n : ℕ) (es : List Traced) (e : Traced) → events_words n (es ++ e ∷ []) ≡ events_words n es ++ (decimal (n + length es) ∷ actor_text e.thread ∷ event_words e.event) ∷ []
words_more n [] e = let z : n ≡ n + 0 = omega arith in ap (λ k. (decimal k ∷ actor_text e.thread ∷ event_words e.event) ∷ []) z
words_more n (x ∷ es) e =
    let k : (n + 1) + length es ≡ n + length (x ∷ es) = omega arith in
    ap (λ ws. (decimal n ∷ actor_text x.thread ∷ event_words x.event) ∷ ws) (words_more (n + 1) es e
    ∙ ap (λ j. events_words (n + 1) es ++ (decimal j ∷ actor_text e.thread ∷ event_words e.event) ∷ []) k)

-- one more event
text_of_more : (r : Recorded) (es : List Traced) (e : Traced) → trace_text r (es ++ e ∷ []) ≡ trace_text r es ++ event_line (length es) e
text_of_more r es e =
    ap (λ ws. flat_map line ((codes "names" ∷ recorded_words r) ∷ ws)) (words_more 0 es e)
    ∙ ap (λ k. flat_map line ((codes "names" ∷ recorded_words r) ∷ (events_words 0 es ++ (decimal k ∷ actor_text e.thread ∷ event_words e.event) ∷ []))) zero_length
    ∙ flat_map-append line ((codes "names" ∷ recorded_words r) ∷ events_words 0 es) ((decimal (length es) ∷ actor_text e.thread ∷ event_words e.event) ∷ [])
    ∙ ap (λ t. trace_text r es ++ t) (append-nil (event_line (length es) e))
  where
    zero_length : 0 + length es ≡ length es
    zero_length = omega arith

-- the event at a position
pub text_more : (r : Recorded) (es : List Traced) (i : ℕ) (e : Traced) (old new : List ℕ) → old ≡ trace_text r (take i es) → i < length es → e ≡ get_or es i e → new ≡ old ++ event_line i e → new ≡ trace_text r (take (i + 1) es)
text_more r es i e old new so below is next =
    let many : length (take i es) ≡ i = omega (arith, length-take i es) in
    next ∙ ap (λ t. t ++ event_line i e) so
    ∙ ap (λ k. trace_text r (take i es) ++ event_line k e) (sym many)
    ∙ sym (text_of_more r (take i es) e)
    ∙ ap (trace_text r) (ap (λ y. take i es ++ y ∷ []) is ∙ sym (take_more es i e below))

fits_last : (es : List Traced) (e : Traced) → FitsAll es → FitsTraced e → FitsAll (es ++ e ∷ [])
fits_last [] e fit one = (one, tt)
fits_last (x ∷ es) e fit one = (fit.0, fits_last es e fit.1 one)

-- the event at a position fits
pub fits_more : (es : List Traced) (i : ℕ) (e : Traced) → FitsAll (take i es) → i < length es → e ≡ get_or es i e → FitsTraced e → FitsAll (take (i + 1) es)
fits_more es i e fit below is one = subst FitsAll (ap (λ y. take i es ++ y ∷ []) is ∙ sym (take_more es i e below)) (fits_last (take i es) e fit one)

-- the text of events that fit is read back
pub reads_back : {E : Type 0} (r : Result (List ℕ) E) (es : List Traced) → length es < 2 ^ 64 → IfOk r (λ t. FitsAll es) → IfOk r (λ t. IsReadAs (trace_text all es) all es)
reads_back (Ok t) es few fits = trace-again all es fits few
reads_back (Err e) es few fits = tt

-- two answers that are the same
read_same : {X Y E : Type 0} (q k : X) (f g : Y) → ◌≡◌ {A = Result (X × Y) E} (Ok (q, f)) (Ok (k, g)) → (k ≡ q) × (g ≡ f)
read_same {X} {Y} q k f g e = let d : ◌≡◌ {A = X × Y} (q, f) (k, g) = cc in (ap (λ (x : X × Y). x.0) (sym d), ap (λ (x : X × Y). x.1) (sym d))

-- what is read of the trace of a history is its events
pub unblamed : (c : Program) (h : List Entry) (p : Progress) (es : List Traced) → IsReadBack c h → read_trace (trace_of c h) ≡ Ok (p, es) → ((r : Rule) → is_blame (verdict all r (project c h)) ≡ false) → IsUnblamed c h p es
unblamed c h p es b got free = record {
  events = same.1;
  whole = ap is_whole same.0 ∙ b.whole;
  recorded = ap (λ (q : Progress). q.recorded) same.0 ∙ b.recorded;
  rules = λ r. ap (λ fs. is_blame (verdict all r fs)) same.1 ∙ free r;
}
  where
    same : (p ≡ b.end) × (es ≡ project c h)
    same = read_same b.end p (project c h) es (sym b.read ∙ got)
