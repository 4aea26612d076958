-- What is said of a status that has no number in its line.
use Rattle.std.proofs.Common.{◌≡◌, ℕ, List, refl}
use Rattle.hm_io.specs.Streams.{SinkState}
use Rattle.hm_script.specs.declared.reason.Refused.{Refused}
use Rattle.hm_edge.specs.Messages.{Says, Wrote, fixed_text, line_of, race_message, race_text}
use Rattle.hm_edge.specs.declared.status.RaceEnd.{RaceEnd}
use Rattle.hm_edge.specs.declared.status.Status.{Status}

pub says_fixed : (name usage : List ℕ) (status : Status) (k k' : SinkState) → (status ≡ Status.Done → ⊥) → ((r : Refused) → status ≡ Status.Refused r → ⊥) → ((e : RaceEnd) → status ≡ Status.Race e → ⊥) → Wrote (line_of name (fixed_text usage status)) k k' → Says name usage status k k'
says_fixed name usage Status.Done k k' done refused race w = absurd (done refl)
says_fixed name usage (Status.NotLegal l) k k' done refused race w = w
says_fixed name usage Status.Usage k k' done refused race w = w
says_fixed name usage (Status.Refused r) k k' done refused race w = absurd (refused r refl)
says_fixed name usage Status.ReadFault k k' done refused race w = w
says_fixed name usage Status.WriteFault k k' done refused race w = w
says_fixed name usage Status.NoMemory k k' done refused race w = w
says_fixed name usage Status.HistoryFull k k' done refused race w = w
says_fixed name usage Status.ScriptTooLong k k' done refused race w = w
says_fixed name usage Status.ReportTooLong k k' done refused race w = w
says_fixed name usage Status.NoRows k k' done refused race w = w
says_fixed name usage Status.TooManyRows k k' done refused race w = w
says_fixed name usage (Status.Race end) k k' done refused race w = absurd (race end refl)

pub race_unnumbered : (end : RaceEnd) → ((m n : ℕ) → end ≡ RaceEnd.NoCondition m n → ⊥) → race_text end ≡ race_message end
race_unnumbered (RaceEnd.NoCondition m n) none = absurd (none m n refl)
race_unnumbered RaceEnd.Fails none = refl
race_unnumbered RaceEnd.Unsettled none = refl
race_unnumbered RaceEnd.NoOutcome none = refl
race_unnumbered RaceEnd.NotFound none = refl
race_unnumbered RaceEnd.Drained none = refl
race_unnumbered RaceEnd.Broken none = refl
race_unnumbered RaceEnd.Open none = refl
