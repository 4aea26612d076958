-- What the user of the program is told.
use Rattle.std.proofs.Common.{◌≡◌, ◌⊎◌, inl, inr, ℕ, ◌≤◌, false, List, [], ◌∷◌, length, Option, Some, None, refl, sym, ap}
use Rattle.hm_base.specs.Program.{Program}
use Rattle.hm_check.specs.Judging.{IsLegalReportOf}
use Rattle.hm_edge.specs.Reading.{ReadFaulted}
use Rattle.hm_edge.specs.Traffic.{IsUntouched, NoFault, Traffic}
use Rattle.hm_edge.specs.Users.{CutShort, GoesOut}
use Rattle.hm_edge.specs.Writing.{WriteFaulted}
use Rattle.hm_edge.specs.declared.status.Status.{Status}
use Rattle.hm_edge.proofs.Telling.{added, ends_so, goes_out, known, left_over, nothing_out}
use Rattle.hm_history.specs.declared.Entry.{Entry}
use Rattle.hm_io.specs.Streams.{AddsFront, Rose, SinkState}
use Rattle.hm_projection.specs.Runs.{Runs, name, usage}
use Rattle.hm_projection.specs.Theorem.{IsOfReport, Theorem, ToldBy, ToldTrace}
use Rattle.hm_projection.specs.Traces.{trace_of}
use Rattle.hm_projection.specs.Writes.{Finds, HasSeen, Traced}

done≢short : Status.Done ≡ Status.NoMemory → ⊥
done≢short e = cc

bad≢short : (n : ℕ) → Status.NotLegal n ≡ Status.NoMemory → ⊥
bad≢short n e = cc

module _ (bytes held : List ℕ) (io : Traffic) (left : io.source.left ≡ Some bytes) (holds : io.sink.held ≡ Some held) (none : NoFault io) where
  same_held : io.sink_after ≡ io.sink → io.sink_after.held ≡ io.sink.held
  same_held same = ap (λ (k : SinkState). k.held) same

  -- the bytes are the report of what was written
  is_of : (status : Status) (d : Traced io status) → IsLegalReportOf d.script d.history bytes
  is_of status d = known _ io.source.left bytes left d.read

  of_report : (d : Traced io Status.NoMemory) → CutShort (IsOfReport bytes) held io
  of_report d = by d.written
    where
      by : (io.sink_after ≡ io.sink) ⊎ (AddsFront io.sink.held io.sink_after.held (trace_of d.script d.history) × Rose io.sink.wants io.sink_after.wants) → CutShort (IsOfReport bytes) held io
      by (inl same) = inl (nothing_out bytes held io left holds (same_held same))
      by (inr w) = inr (record {
        front = w.0.0;
        rest = w.0.1;
        goes = (d.script, d.history, is_of Status.NoMemory d, sym w.0.2);
        written = added io.sink.held io.sink_after.held held w.0.0 holds w.0.3;
      })

  wrote : (status : Status) → HasSeen io status → ReadFaulted io.source.faults io.source_after.faults status → WriteFaulted io.sink.faults io.sink_after.faults status → (status ≡ Status.Done → io.sink_after.pending ≡ false)
      → (length bytes ≤ 268435456 → (c : Program) (h : List Entry) → IsLegalReportOf c h bytes → Finds c h io status) → ToldTrace bytes held io status
  wrote Status.Done d read fault sent finds = record {
    script = d.script;
    history = d.history;
    is = is_of Status.Done d;
    legal = d.legal;
    out = goes_out bytes held io left holds (trace_of d.script d.history) d.written.0 (sent refl);
    reads = d.written.1;
    alone = λ short c h is. by c h (finds short c h is);
  }
    where
      by : (c : Program) (h : List Entry) → Finds c h io Status.Done → GoesOut held (trace_of c h) io
      by c h (inl e) = absurd (done≢short e)
      by c h (inr w) = goes_out bytes held io left holds (trace_of c h) w.0 (sent refl)
  wrote (Status.NotLegal n) s read fault sent finds = record {
    first = known _ io.source.left bytes left s.0;
    none = λ short c h is. by c h (finds short c h is);
    nothing = nothing_out bytes held io left holds (same_held s.1);
  }
    where
      by : (c : Program) (h : List Entry) → Finds c h io (Status.NotLegal n) → ⊥
      by c h (inl e) = bad≢short n e
      by c h (inr w) = w
  wrote Status.ReportTooLong s read fault sent finds = (left_over io.source.left bytes 268435456 left s.0, nothing_out bytes held io left holds (same_held s.1))
  wrote Status.NoMemory (inl same) read fault sent finds = inl (nothing_out bytes held io left holds (same_held same))
  wrote Status.NoMemory (inr d) read fault sent finds = of_report d
  wrote Status.WriteFault d read fault sent finds = absurd (none.writes fault)
  wrote Status.ReadFault s read fault sent finds = absurd (none.reads read)
  wrote Status.NoRows s read fault sent finds = absurd s
  wrote Status.TooManyRows s read fault sent finds = absurd s
  wrote Status.HistoryFull s read fault sent finds = absurd s
  wrote (Status.Refused refused) s read fault sent finds = absurd s
  wrote Status.ScriptTooLong s read fault sent finds = absurd s
  wrote Status.Usage s read fault sent finds = absurd s
  wrote (Status.Race end) s read fault sent finds = absurd s

  by_words : (words : List (List ℕ)) (status : Status) → Runs words io status → ToldBy words bytes held io status
  by_words [] status v = wrote status v.seen v.read_faults v.write_faults v.flushed (known _ io.source.left bytes left (v.finds none.reads))
  by_words (w ∷ ws) status v = (inl v.usage, v.untouched)

  short_by : (words : List (List ℕ)) → IsUntouched io → ToldBy words bytes held io Status.NoMemory
  short_by [] same = inl (nothing_out bytes held io left holds (ap (λ (k : SinkState). k.held) same.unwritten))
  short_by (w ∷ ws) same = (inr refl, same)

pub theorem : Theorem
theorem words bytes held args io errors errors_after code start e =
    ends_so Runs (ToldBy words bytes held io) name usage words bytes held args io errors errors_after code start e
    (λ status v. by_words bytes held io start.left start.holds start.faultless words status v)
    (short_by bytes held io start.left start.holds start.faultless words)
