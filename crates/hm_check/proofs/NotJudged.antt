-- A call that came to no verdict has written nothing, and, if the report was not too long and nothing failed, it ran out of
-- memory.
use Rattle.std.proofs.Common.{◌≡◌, ℕ, ◌<◌, ◌≤◌, Bool, Some, None, Option, List, length, refl, ap, arith}
use Rattle.hm_edge.specs.Input.{LeftOver}
use Rattle.hm_edge.specs.Reading.{HasNotJudged, ReadFaulted}
use Rattle.hm_edge.specs.Writing.{IsFlushed, WriteFaulted}
use Rattle.hm_edge.specs.declared.status.Status.{Status}
use Rattle.hm_io.specs.Streams.{Rose, SourceState}

pub none_failed : (b a : SourceState) (n n' : ℕ) (status : Status) → HasNotJudged b a status → n' ≡ n → WriteFaulted n n' status
none_failed b a n n' Status.Done x same = absurd x
none_failed b a n n' (Status.NotLegal l) x same = absurd x
none_failed b a n n' Status.Usage x same = absurd x
none_failed b a n n' (Status.Refused r) x same = absurd x
none_failed b a n n' Status.ReadFault x same = same
none_failed b a n n' Status.WriteFault x same = absurd x
none_failed b a n n' Status.NoMemory x same = same
none_failed b a n n' Status.HistoryFull x same = absurd x
none_failed b a n n' Status.ScriptTooLong x same = absurd x
none_failed b a n n' Status.ReportTooLong x same = same
none_failed b a n n' Status.NoRows x same = absurd x
none_failed b a n n' Status.TooManyRows x same = absurd x
none_failed b a n n' (Status.Race end) x same = absurd x

pub none_flushed : (b a : SourceState) (pending : Bool) (status : Status) → HasNotJudged b a status → IsFlushed pending status
none_flushed b a pending Status.Done x = absurd x
none_flushed b a pending (Status.NotLegal l) x = absurd x
none_flushed b a pending Status.Usage x = absurd x
none_flushed b a pending (Status.Refused r) x = absurd x
none_flushed b a pending Status.ReadFault x = tt
none_flushed b a pending Status.WriteFault x = absurd x
none_flushed b a pending Status.NoMemory x = tt
none_flushed b a pending Status.HistoryFull x = absurd x
none_flushed b a pending Status.ScriptTooLong x = absurd x
none_flushed b a pending Status.ReportTooLong x = tt
none_flushed b a pending Status.NoRows x = absurd x
none_flushed b a pending Status.TooManyRows x = absurd x
none_flushed b a pending (Status.Race end) x = absurd x

left_over : (left : Option (List ℕ)) (bytes : List ℕ) → left ≡ Some bytes → LeftOver left 268435456 → length bytes ≤ 268435456 → ⊥
left_over None bytes e l short = cc
left_over (Some y) bytes e l short = let same : y ≡ bytes = cc in omega (arith, ap length same, l, short)

pub short_of_memory : (b a : SourceState) (status : Status) (bytes : List ℕ) → HasNotJudged b a status → ReadFaulted b.faults a.faults status → (Rose b.faults a.faults → ⊥) → b.left ≡ Some bytes → length bytes ≤ 268435456 → status ≡ Status.NoMemory
short_of_memory b a Status.Done bytes j f none is short = absurd j
short_of_memory b a (Status.NotLegal l) bytes j f none is short = absurd j
short_of_memory b a Status.Usage bytes j f none is short = absurd j
short_of_memory b a (Status.Refused r) bytes j f none is short = absurd j
short_of_memory b a Status.ReadFault bytes j f none is short = absurd (none f)
short_of_memory b a Status.WriteFault bytes j f none is short = absurd j
short_of_memory b a Status.NoMemory bytes j f none is short = refl
short_of_memory b a Status.HistoryFull bytes j f none is short = absurd j
short_of_memory b a Status.ScriptTooLong bytes j f none is short = absurd j
short_of_memory b a Status.ReportTooLong bytes j f none is short = absurd (left_over b.left bytes is j short)
short_of_memory b a Status.NoRows bytes j f none is short = absurd j
short_of_memory b a Status.TooManyRows bytes j f none is short = absurd j
short_of_memory b a (Status.Race end) bytes j f none is short = absurd j
