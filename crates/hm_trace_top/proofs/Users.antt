-- What the user of the program is told.
use Rattle.std.proofs.Common.{◌≡◌, ◌⊎◌, inl, inr, ℕ, ◌<◌, false, List, [], ◌∷◌, Some, Result, Ok, Err, length, refl, sym, ap, subst}
use Rattle.std.specs.Prelude.{IfSome}
use Rattle.hm_edge.specs.Input.{LeftOver}
use Rattle.hm_edge.specs.Reading.{ReadFaulted}
use Rattle.hm_edge.specs.Exits.{Arguments}
use Rattle.hm_edge.specs.Traffic.{IsUntouched, NoFault, Traffic}
use Rattle.hm_edge.specs.Users.{CutShort, NothingOut}
use Rattle.hm_edge.specs.Writing.{IsFlushed, WriteFaulted}
use Rattle.hm_edge.proofs.Telling.{cut_short, goes_out, known, left_over, nothing_out}
use Rattle.hm_io.specs.Streams.{SinkState}
use Rattle.hm_protocol.specs.declared.rules.Rule.{Rule}
use Rattle.hm_trace_top.specs.Exits.{Begins}
use Rattle.hm_trace_top.specs.Heard.{IsUnsaid, said_of}
use Rattle.hm_trace_top.specs.Judging.{Does, HasNone, Judges, Runs, Told, streams_as}
use Rattle.hm_trace_top.specs.Theorem.{IsOfTrace, IsUncounted, TellsVerdicts, Theorem, ToldAsked, ToldBy, ToldTrace}
use Rattle.hm_trace_top.specs.Words.{Asked, HasNoTask, task_in}
use Rattle.hm_trace_top.specs.declared.ended.Ended.{Ended}
use Rattle.hm_trace_top.specs.declared.ended.Outcome.{Outcome}

module _ (bytes held : List ℕ) (io : Traffic) (left : io.source.left ≡ Some bytes) (holds : io.sink.held ≡ Some held) (none : NoFault io) where
  same_held : io.sink_after ≡ io.sink → io.sink_after.held ≡ io.sink.held
  same_held same = ap (λ (k : SinkState). k.held) same

  -- what was said of the bytes
  is_said : (rs : List Rule) (ended : Ended) (t : Told rs io ended) → said_of bytes ≡ Ok t.heard
  is_said rs ended t = known _ io.source.left bytes left t.said

  tells : (rs : List Rule) (o : Outcome) (t : Told rs io (Ended.Told o)) → io.sink_after.pending ≡ false → TellsVerdicts rs o bytes held io
  tells rs o t sent = record {
    heard = t.heard;
    said = is_said rs (Ended.Told o) t;
    says = t.ends;
    out = goes_out bytes held io left holds _ t.written sent;
  }

  of_trace : (rs : List Rule) (t : Told rs io Ended.NoMemory) → CutShort (IsOfTrace bytes) held io
  of_trace rs t =
      cut_short bytes held io left holds (λ u. u ≡ t.heard.text) (IsOfTrace bytes)
      (λ u same. (t.heard, is_said rs Ended.NoMemory t, same)) t.written

  told_trace : (rs : List Rule) (ended : Ended) → Told rs io ended → ReadFaulted io.source.faults io.source_after.faults (streams_as ended) → WriteFaulted io.sink.faults io.sink_after.faults (streams_as ended) → IsFlushed io.sink_after.pending (streams_as ended) → ToldTrace rs bytes held io ended
  told_trace rs (Ended.Told o) t read fault sent = tells rs o t sent
  told_trace rs Ended.NoMemory t read fault sent = of_trace rs t
  told_trace rs Ended.WriteFault t read fault sent = absurd (none.writes fault)
  told_trace rs Ended.ReadFault t read fault sent = absurd (none.reads read)
  told_trace rs Ended.TooLong t read fault sent = absurd t.ends
  told_trace rs Ended.Usage t read fault sent = absurd t.ends
  told_trace rs (Ended.NoRule n) t read fault sent = absurd t.ends
  told_trace rs (Ended.Refused refused) t read fault sent = absurd t.ends
  told_trace rs (Ended.RefusedIn n refused) t read fault sent = absurd t.ends

  too_long : HasNone io Ended.TooLong → ((268435456 < length bytes) × NothingOut held io) ⊎ IsUncounted bytes held io
  too_long t = by t.why
    where
      out : NothingOut held io
      out = nothing_out bytes held io left holds (same_held t.nothing)

      by : LeftOver io.source.left 268435456 ⊎ IfSome io.source.left (λ b. IsUnsaid b Ended.TooLong) → ((268435456 < length bytes) × NothingOut held io) ⊎ IsUncounted bytes held io
      by (inl over) = inl (left_over io.source.left bytes 268435456 left over, out)
      by (inr why) = inr (record { why = known _ io.source.left bytes left why; nothing = out })

  told_none : (rs : List Rule) (ended : Ended) → HasNone io ended → ReadFaulted io.source.faults io.source_after.faults (streams_as ended) → ToldTrace rs bytes held io ended
  told_none rs Ended.NoMemory t read = inl (nothing_out bytes held io left holds (same_held t.nothing))
  told_none rs Ended.TooLong t read = too_long t
  told_none rs (Ended.Refused why) t read = record { said = known _ io.source.left bytes left t.why; nothing = nothing_out bytes held io left holds (same_held t.nothing) }
  told_none rs (Ended.RefusedIn n why) t read = record { said = known _ io.source.left bytes left t.why; nothing = nothing_out bytes held io left holds (same_held t.nothing) }
  told_none rs Ended.ReadFault t read = absurd (none.reads read)
  told_none rs (Ended.Told o) t read = absurd t.why
  told_none rs Ended.WriteFault t read = absurd t.why
  told_none rs Ended.Usage t read = absurd t.why
  told_none rs (Ended.NoRule n) t read = absurd t.why

  judged : (rs : List Rule) (ended : Ended) → Judges rs io ended → ToldTrace rs bytes held io ended
  judged rs ended x = by x.told
    where
      by : Told rs io ended ⊎ HasNone io ended → ToldTrace rs bytes held io ended
      by (inl t) = told_trace rs ended t x.read_faults x.write_faults x.flushed
      by (inr t) = told_none rs ended t x.read_faults

  -- by what is asked for
  done : (x : Asked) (ended : Ended) → Does x io ended → ToldAsked (Ok x) bytes held io ended
  done Asked.Verdicts ended d = judged [] ended d
  done (Asked.Expect rs) ended d = judged rs ended d

  two_sides : (x : Asked) (ended : Ended) → Ok x ≡ Err ended → ⊥
  two_sides x ended e = cc

  same_end : (z : Result Asked Ended) (why ended : Ended) → z ≡ Err why → z ≡ Err ended → ended ≡ why
  same_end z why ended e f = cc

  short_of : (x : Asked) → IsUntouched io → ToldAsked (Ok x) bytes held io Ended.NoMemory
  short_of Asked.Verdicts same = inl (nothing_out bytes held io left holds (same_held same.unwritten))
  short_of (Asked.Expect rs) same = inl (nothing_out bytes held io left holds (same_held same.unwritten))

  short_by : (z : Result Asked Ended) → IsUntouched io → ToldAsked z bytes held io Ended.NoMemory
  short_by (Ok x) same = short_of x same
  short_by (Err why) same = (inr refl, same)

  refused_by : (z : Result Asked Ended) (ended : Ended) → HasNoTask z ended → IsUntouched io → ToldAsked z bytes held io ended
  refused_by z ended (inr memory) same = subst (ToldAsked z bytes held io) (sym memory) (short_by z same)
  refused_by (Ok x) ended (inl is) same = absurd (two_sides x ended is)
  refused_by (Err why) ended (inl is) same = (inl (same_end (Err why) why ended refl is), same)

  by_words : (words : List (List ℕ)) (ended : Ended) → Runs words io ended → ToldBy words bytes held io ended
  by_words words ended (inl d) = subst (λ (z : Result Asked Ended). ToldAsked z bytes held io ended) (sym d.is) (done d.asked ended d.does)
  by_words words ended (inr r) = refused_by (task_in words) ended r.why r.untouched

  -- a program that was started has made its call, or memory ran out before that
  begun : (name : List ℕ) (words : List (List ℕ)) (ended : Ended) → Begins (Ok (name ∷ words)) io ended → ToldBy words bytes held io ended
  begun name words ended (inl does) = by_words words ended does
  begun name words Ended.NoMemory (inr n) = short_by (task_in words) n.untouched
  begun name words (Ended.Told o) (inr n) = absurd n.why
  begun name words Ended.Usage (inr n) = absurd n.why
  begun name words (Ended.NoRule at) (inr n) = absurd n.why
  begun name words (Ended.Refused refused) (inr n) = absurd n.why
  begun name words (Ended.RefusedIn at refused) (inr n) = absurd n.why
  begun name words Ended.ReadFault (inr n) = absurd n.why
  begun name words Ended.WriteFault (inr n) = absurd n.why
  begun name words Ended.TooLong (inr n) = absurd n.why

pub theorem : Theorem
theorem words bytes held args io errors errors_after code start e = record {
  ended = e.ended;
  code_is = e.code_is;
  says = e.says;
  told = begun bytes held io start.left start.holds start.faultless start.name words e.ended (subst (λ (z : Arguments). Begins z io e.ended) start.named e.does);
}
