-- What the user of the program is told.
use Rattle.std.proofs.Common.{◌≡◌, ◌⊎◌, inl, inr, ℕ, ◌≤◌, true, false, List, length, Option, Some, None, refl, sym, ap}
use Rattle.hm_base.specs.Program.{Program}
use Rattle.hm_check.specs.Judging.{IsLegalReportOf}
use Rattle.hm_edge.specs.Reading.{ReadFaulted}
use Rattle.hm_edge.specs.Traffic.{IsUntouched, NoFault, Traffic}
use Rattle.hm_edge.specs.Users.{CutShort, GoesOut}
use Rattle.hm_edge.specs.Writing.{WriteFaulted}
use Rattle.hm_edge.specs.declared.status.Status.{Status}
use Rattle.hm_edge.proofs.Telling.{added, ends_so, goes_out, known, left_over, nothing_out}
use Rattle.hm_history.specs.declared.Entry.{Entry}
use Rattle.hm_io.specs.Streams.{AddsFront, Rose, SinkState}
use Rattle.hm_view.proofs.Told.{changes_are_told}
use Rattle.hm_view.specs.Asked.{asked_of, fits, is_there}
use Rattle.hm_view.specs.Runs.{Runs, name, usage}
use Rattle.hm_view.specs.Theorem.{IsOfPage, NoPage, Theorem, ToldBy, ToldPage}
use Rattle.hm_view.specs.Views.{Drew, Finds, HasSeen, Views, page}
use Rattle.hm_view.specs.declared.asked.Asked.{Asked}

done≢short : Status.Done ≡ Status.NoMemory → ⊥
done≢short e = cc

bad≢short : (n : ℕ) → Status.NotLegal n ≡ Status.NoMemory → ⊥
bad≢short n e = cc

module _ (x : Asked) (bytes held : List ℕ) (io : Traffic) (left : io.source.left ≡ Some bytes) (holds : io.sink.held ≡ Some held) (none : NoFault io) where
  same_held : io.sink_after ≡ io.sink → io.sink_after.held ≡ io.sink.held
  same_held same = ap (λ (k : SinkState). k.held) same

  -- the bytes are the report of what was drawn
  is_of : (status : Status) (d : Drew x io status) → IsLegalReportOf d.script d.history bytes
  is_of status d = known _ io.source.left bytes left d.read

  no_page : (status : Status) (Is : ℕ → Type 0) (d : Drew x io status) → Is (length d.history) → io.sink_after ≡ io.sink → NoPage Is bytes held io
  no_page status Is d why same = record { script = d.script; history = d.history; is = is_of status d; why = why; nothing = nothing_out bytes held io left holds (same_held same) }

  of_page : (d : Drew x io Status.NoMemory) → CutShort (IsOfPage x bytes) held io
  of_page d = by d.drawn.1
    where
      by : (io.sink_after ≡ io.sink) ⊎ (AddsFront io.sink.held io.sink_after.held (page x d.script d.history) × Rose io.sink.wants io.sink_after.wants) → CutShort (IsOfPage x bytes) held io
      by (inl same) = inl (nothing_out bytes held io left holds (same_held same))
      by (inr w) = inr (record {
        front = w.0.0;
        rest = w.0.1;
        goes = (d.script, d.history, is_of Status.NoMemory d, sym w.0.2);
        written = added io.sink.held io.sink_after.held held w.0.0 holds w.0.3;
      })

  drew : (status : Status) → HasSeen x io status → ReadFaulted io.source.faults io.source_after.faults status → WriteFaulted io.sink.faults io.sink_after.faults status → (status ≡ Status.Done → io.sink_after.pending ≡ false)
      → (length bytes ≤ 268435456 → (c : Program) (h : List Entry) → IsLegalReportOf c h bytes → Finds x c h io status) → ToldPage x bytes held io status
  drew Status.Done d read fault sent finds = record {
    script = d.script;
    history = d.history;
    is = is_of Status.Done d;
    legal = d.legal;
    there = d.drawn.0.there;
    few = d.drawn.0.few;
    out = goes_out bytes held io left holds (page x d.script d.history) d.drawn.1 (sent refl);
    states = changes_are_told d.script d.history;
    alone = λ short c h is. by c h (finds short c h is);
  }
    where
      by : (c : Program) (h : List Entry) → Finds x c h io Status.Done → GoesOut held (page x c h) io
      by c h (inl e) = absurd (done≢short e)
      by c h (inr w) = goes_out bytes held io left holds (page x c h) w.1 (sent refl)
  drew (Status.NotLegal n) s read fault sent finds = record {
    first = known _ io.source.left bytes left s.0;
    none = λ short c h is. by c h (finds short c h is);
    nothing = nothing_out bytes held io left holds (same_held s.1);
  }
    where
      by : (c : Program) (h : List Entry) → Finds x c h io (Status.NotLegal n) → ⊥
      by c h (inl e) = bad≢short n e
      by c h (inr w) = w
  drew Status.NoRows d read fault sent finds = no_page Status.NoRows (λ n. is_there x n ≡ false) d d.drawn.0 d.drawn.1
  drew Status.TooManyRows d read fault sent finds = no_page Status.TooManyRows (λ n. (is_there x n ≡ true) × (fits x n ≡ false)) d (d.drawn.0, d.drawn.1.0) d.drawn.1.1
  drew Status.ReportTooLong s read fault sent finds = (left_over io.source.left bytes 268435456 left s.0, nothing_out bytes held io left holds (same_held s.1))
  drew Status.NoMemory (inl same) read fault sent finds = inl (nothing_out bytes held io left holds (same_held same))
  drew Status.NoMemory (inr d) read fault sent finds = of_page d
  drew Status.WriteFault d read fault sent finds = absurd (none.writes fault)
  drew Status.ReadFault s read fault sent finds = absurd (none.reads read)
  drew Status.HistoryFull s read fault sent finds = absurd s
  drew (Status.Refused refused) s read fault sent finds = absurd s
  drew Status.ScriptTooLong s read fault sent finds = absurd s
  drew Status.Usage s read fault sent finds = absurd s
  drew (Status.Race end) s read fault sent finds = absurd s

module _ (bytes held : List ℕ) (io : Traffic) (left : io.source.left ≡ Some bytes) (holds : io.sink.held ≡ Some held) (none : NoFault io) where
  by_words : (asked : Option Asked) (status : Status) → Views asked io status → ToldBy asked bytes held io status
  by_words None status v = (inl v.usage, record { unread = v.source; unwritten = v.sink })
  by_words (Some x) status v = drew x bytes held io left holds none status v.seen v.read_faults v.write_faults v.flushed (known _ io.source.left bytes left (v.finds none.reads))

  short_by : (asked : Option Asked) → IsUntouched io → ToldBy asked bytes held io Status.NoMemory
  short_by None same = (inr refl, same)
  short_by (Some x) same = inl (nothing_out bytes held io left holds (ap (λ (k : SinkState). k.held) same.unwritten))

pub theorem : Theorem
theorem words bytes held args io errors errors_after code start e =
    ends_so Runs (ToldBy (asked_of words) bytes held io) name usage words bytes held args io errors errors_after code start e
    (λ status v. by_words bytes held io start.left start.holds start.faultless (asked_of words) status v)
    (short_by bytes held io start.left start.holds start.faultless (asked_of words))
