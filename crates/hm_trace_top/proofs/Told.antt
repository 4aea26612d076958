-- What a call comes to, by what was read and written.
use Rattle.std.proofs.Common.{◌≡◌, inl, ℕ, List, Ok}
use Rattle.std.specs.Prelude.{IfSome}
use Rattle.hm_edge.specs.Reading.{ReadFaulted}
use Rattle.hm_edge.specs.Traffic.{Traffic}
use Rattle.hm_edge.specs.Writing.{HasWritten, IsFlushed, WriteFaulted}
use Rattle.hm_protocol.specs.declared.rules.Rule.{Rule}
use Rattle.hm_trace_top.specs.Heard.{Heard, said_of}
use Rattle.hm_trace_top.specs.Judging.{EndsAs, Judges, streams_as}
use Rattle.hm_trace_top.specs.Together.{outcome_of}
use Rattle.hm_trace_top.specs.declared.ended.Ended.{Ended}
use Rattle.hm_trace_top.specs.declared.ended.Outcome.{Outcome}

no_fault : (o : Outcome) (ended : Ended) → EndsAs o ended → (before after : ℕ) → after ≡ before → ReadFaulted before after (streams_as ended)
no_fault o (Ended.Told x) ends before after same = same
no_fault o Ended.WriteFault ends before after same = same
no_fault o Ended.NoMemory ends before after same = same
no_fault o Ended.TooLong ends before after same = absurd ends
no_fault o Ended.ReadFault ends before after same = absurd ends
no_fault o Ended.Usage ends before after same = absurd ends
no_fault o (Ended.NoRule n) ends before after same = absurd ends
no_fault o (Ended.Refused refused) ends before after same = absurd ends
no_fault o (Ended.RefusedIn n refused) ends before after same = absurd ends

pub judges_told : (rs : List Rule) (io : Traffic) (ended : Ended) (h : Heard) → IfSome io.source.left (λ bytes. said_of bytes ≡ Ok h) → io.source_after.faults ≡ io.source.faults → EndsAs (outcome_of rs h.said) ended
    → HasWritten h.text (λ u. u ≡ h.text) io.sink io.sink_after (streams_as ended) → WriteFaulted io.sink.faults io.sink_after.faults (streams_as ended) → IsFlushed io.sink_after.pending (streams_as ended) → Judges rs io ended
judges_told rs io ended h said same ends written faults flushed = record {
  told = inl (record { heard = h; said = said; ends = ends; written = written });
  read_faults = no_fault (outcome_of rs h.said) ended ends io.source.faults io.source_after.faults same;
  write_faults = faults;
  flushed = flushed;
}
