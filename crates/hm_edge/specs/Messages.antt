-- What a program says of a status: its exit code, and its line on standard error.
use Rattle.std.specs.Prelude.{◌≡◌, ℕ, ◌⊎◌, false, List, [], ◌++◌, codes}
use Rattle.std.specs.Fmt.{decimal}
use Rattle.hm_io.specs.Streams.{SinkState}
use Rattle.hm_report.specs.Sends.{Sends, Stops}
use Rattle.hm_report.specs.declared.outlet.Stop.{Stop}
use Rattle.hm_script.specs.Reasons.{refused_text}
use Rattle.hm_edge.specs.declared.status.RaceEnd.{RaceEnd}
use Rattle.hm_edge.specs.declared.status.Status.{Status}

-- the exit code of a search that did not do all that was asked for
abbrev pub race_code : RaceEnd → ℕ
race_code (RaceEnd.NoCondition condition word) = 2
race_code RaceEnd.Fails = 1
race_code RaceEnd.Unsettled = 10
race_code RaceEnd.NoOutcome = 9
race_code RaceEnd.NotFound = 10
race_code RaceEnd.Drained = 9
race_code RaceEnd.Broken = 1
race_code RaceEnd.Open = 10

-- the exit code
abbrev pub code_of : Status → ℕ
code_of Status.Done = 0
code_of (Status.NotLegal n) = 1
code_of Status.Usage = 2
code_of (Status.Refused refused) = 3
code_of Status.ReadFault = 4
code_of Status.WriteFault = 5
code_of Status.NoMemory = 6
code_of Status.HistoryFull = 7
code_of Status.ScriptTooLong = 8
code_of Status.ReportTooLong = 8
code_of Status.NoRows = 9
code_of Status.TooManyRows = 9
code_of (Status.Race end) = race_code end

-- the message of a search that did not do all that was asked for, if it has no number in it
abbrev pub race_text : RaceEnd → List ℕ
race_text (RaceEnd.NoCondition condition word) = []
race_text RaceEnd.Fails = codes "a condition fails"
race_text RaceEnd.Unsettled = codes "a condition is not settled: the search was cut; allow more states"
race_text RaceEnd.NoOutcome = codes "no such outcome"
race_text RaceEnd.NotFound = codes "no such outcome was found, but the search was cut; allow more states"
race_text RaceEnd.Drained = codes "nothing is left to race after drain: end the schedule where the race is to begin"
race_text RaceEnd.Broken = codes "in some order of turns a driver does what it must not do"
race_text RaceEnd.Open = codes "nothing was found, but the search was cut; allow more states"

-- the message of a status that has no number in it; at `Usage` the program's own line on its words
abbrev pub fixed_text : List ℕ → Status → List ℕ
fixed_text usage Status.Done = []
fixed_text usage (Status.NotLegal n) = codes "not legal"
fixed_text usage Status.Usage = usage
fixed_text usage (Status.Refused refused) = []
fixed_text usage Status.ReadFault = codes "read fault"
fixed_text usage Status.WriteFault = codes "write fault"
fixed_text usage Status.NoMemory = codes "out of memory"
fixed_text usage Status.HistoryFull = codes "history full"
fixed_text usage Status.ScriptTooLong = codes "script too long"
fixed_text usage Status.ReportTooLong = codes "report too long"
fixed_text usage Status.NoRows = codes "no such rows: FROM is after TO, or after the end of the report"
fixed_text usage Status.TooManyRows = codes "a page has at most 20000 rows; ask for fewer by FROM TO"
fixed_text usage (Status.Race end) = race_text end

-- the condition and its first word that may not come, both from 1
abbrev pub no_condition_text : ℕ → ℕ → List ℕ
no_condition_text condition word = codes "condition " ++ (decimal condition ++ (codes ": bad word " ++ decimal word))

-- the message of a search that did not do all that was asked for
abbrev pub race_message : RaceEnd → List ℕ
race_message (RaceEnd.NoCondition condition word) = no_condition_text condition word
race_message end = race_text end

-- the message, which is empty if all was done
abbrev pub message_text : List ℕ → Status → List ℕ
message_text usage (Status.Refused refused) = refused_text refused
message_text usage (Status.Race end) = race_message end
message_text usage status = fixed_text usage status

-- the line of a message, after the program's name
abbrev pub line_of : List ℕ → List ℕ → List ℕ
line_of name message = (name ++ codes ": ") ++ (message ++ codes "\n")

-- these bytes were written and sent on, or a front of them before the stream failed or ran out of memory
abbrev pub Wrote : List ℕ → SinkState → SinkState → Type 0
Wrote bytes before after =
    (Sends before after bytes × (after.pending ≡ false)) ⊎ ((why : Stop) × Stops before after bytes why)

-- what is written on standard error: nothing if all was done, and else the line of the status
abbrev pub Says : List ℕ → List ℕ → Status → SinkState → SinkState → Type 0
Says name usage Status.Done before after = after ≡ before
Says name usage status before after = Wrote (line_of name (message_text usage status)) before after
