-- What the program says of how a call ended: its exit code, and its line on standard error.
use Rattle.std.specs.Prelude.{◌≡◌, ℕ, List, [], ◌++◌, codes}
use Rattle.std.specs.Fmt.{decimal}
use Rattle.hm_edge.specs.Messages.{Wrote, line_of}
use Rattle.hm_io.specs.Streams.{SinkState}
use Rattle.hm_protocol.specs.declared.rules.Rule.{Rule}
use Rattle.hm_trace.specs.Progress.{fault_text, refused_text}
use Rattle.hm_trace.specs.declared.reader.Refused.{Refused}
use Rattle.hm_trace_top.specs.Names.{rule_name}
use Rattle.hm_trace_top.specs.declared.ended.Ended.{Ended}
use Rattle.hm_trace_top.specs.declared.ended.Outcome.{Outcome}

-- the name that its messages begin with
abbrev pub name : List ℕ
name = codes "hmmtrace"

-- what it says if the words are none of the forms
abbrev pub usage : List ℕ
usage = codes "usage: hmmtrace [--expect RULE ..]"

-- the exit code of verdicts that come to this
abbrev pub outcome_code : Outcome → ℕ
outcome_code Outcome.Kept = 0
outcome_code Outcome.Broken = 1
outcome_code (Outcome.Unseen r) = 10

-- the exit code
abbrev pub code_of : Ended → ℕ
code_of (Ended.Told o) = outcome_code o
code_of Ended.Usage = 2
code_of (Ended.NoRule n) = 2
code_of (Ended.Refused refused) = 3
code_of (Ended.RefusedIn n refused) = 3
code_of Ended.ReadFault = 4
code_of Ended.WriteFault = 5
code_of Ended.NoMemory = 6
code_of Ended.TooLong = 8

-- a rule that was asked for is not put to the test
abbrev pub unseen_text : Rule → List ℕ
unseen_text r = codes "no event tests the rule " ++ rule_name r

-- the word of this number is no rule
abbrev pub no_rule_text : ℕ → List ℕ
no_rule_text n = codes "word " ++ (decimal n ++ codes " is no rule")

-- the trace of this number in a list is none: the first bad line, and what is wrong with it
abbrev pub refused_in_text : ℕ → Refused → List ℕ
refused_in_text n r =
    codes "trace " ++ (decimal n ++ (codes " line " ++ (decimal r.line ++ (codes ": " ++ fault_text r.why))))

-- what verdicts come to, if there is something to say
abbrev pub outcome_text : Outcome → List ℕ
outcome_text Outcome.Kept = []
outcome_text Outcome.Broken = codes "a rule is broken"
outcome_text (Outcome.Unseen r) = unseen_text r

-- the message, which is empty if there is nothing to say
abbrev pub message_text : Ended → List ℕ
message_text (Ended.Told o) = outcome_text o
message_text Ended.Usage = usage
message_text (Ended.NoRule n) = no_rule_text n
message_text (Ended.Refused refused) = refused_text refused
message_text (Ended.RefusedIn n refused) = refused_in_text n refused
message_text Ended.ReadFault = codes "read fault"
message_text Ended.WriteFault = codes "write fault"
message_text Ended.NoMemory = codes "out of memory"
message_text Ended.TooLong = codes "trace too long"

-- what is written on standard error: nothing if there is nothing to say, and else the line of the message
abbrev pub Says : Ended → SinkState → SinkState → Type 0
Says (Ended.Told Outcome.Kept) before after = after ≡ before
Says ended before after = Wrote (line_of name (message_text ended)) before after
