-- What a call has read of its source, by how it ended.
use Rattle.std.specs.Prelude.{◌≡◌, ℕ, ◌≤◌, List, [], length, Some, IfSome, Err}
use Rattle.hm_base.specs.Program.{Program, IsScript}
use Rattle.hm_io.specs.Streams.{Rose, SourceState}
use Rattle.hm_script.specs.Automaton.{reading}
use Rattle.hm_script.specs.BadLine.{IsFirstBad}
use Rattle.hm_script.specs.Built.{every_word}
use Rattle.hm_script.specs.Spelling.{text}
use Rattle.hm_script.specs.declared.reason.Refused.{Refused}
use Rattle.hm_edge.specs.Input.{LeftOver}
use Rattle.hm_edge.specs.declared.status.Status.{Status}

-- the bytes are the text of the script
pub record IsTextOf (s : Program) (bytes : List ℕ) : Type 0 where
  pub in_range : IsScript s
  pub spells : bytes ≡ text s

-- the bytes are no script's text; the first bad line and the first reason that holds of it
pub record IsRefusalOf (refused : Refused) (bytes : List ℕ) : Type 0 where
  pub no_text : (s : Program) → IsScript s → text s ≡ bytes → ⊥
  pub first : IsFirstBad bytes refused.line
  pub reason : reading every_word bytes ≡ Err refused

-- the source was read to its end, and had no more bytes than the limit, if it is known what was left in it
pub record ReadWhole (most : ℕ) (before after : SourceState) : Type 0 where
  pub rest : IfSome before.left (λ bytes. after.left ≡ Some [])
  pub short : IfSome before.left (λ bytes. length bytes ≤ most)

-- it was, and this holds of the bytes
pub record ReadAs (most : ℕ) (Are : List ℕ → Type 0) (before after : SourceState) : Type 0 where
  pub bytes_are : IfSome before.left Are
  pub whole : ReadWhole most before after

-- the bytes are the text of this script, and no more than a script has
pub record IsGiven (s : Program) (bytes : List ℕ) : Type 0 where
  pub text_is : IsTextOf s bytes
  pub short : length bytes ≤ 4194304

-- how reading ends that gives no script
abbrev pub HasNotRead : SourceState → SourceState → Status → Type 0
HasNotRead before after (Status.Refused refused) = ReadAs 4194304 (IsRefusalOf refused) before after
HasNotRead before after Status.ScriptTooLong = LeftOver before.left 4194304
HasNotRead before after Status.ReadFault = Unit {0}
HasNotRead before after Status.NoMemory = Unit {0}
HasNotRead before after _ = ⊥

-- how reading ends that comes to no report, and so to no verdict on one
abbrev pub HasNotJudged : SourceState → SourceState → Status → Type 0
HasNotJudged before after Status.ReportTooLong = LeftOver before.left 268435456
HasNotJudged before after Status.ReadFault = Unit {0}
HasNotJudged before after Status.NoMemory = Unit {0}
HasNotJudged before after _ = ⊥

-- what was read, where this holds of the bytes if the call came to write something
abbrev pub HasRead : (List ℕ → Type 0) → SourceState → SourceState → Status → Type 0
HasRead Are before after Status.Done = ReadAs 4194304 Are before after
HasRead Are before after Status.HistoryFull = ReadAs 4194304 Are before after
HasRead Are before after Status.WriteFault = ReadAs 4194304 Are before after
HasRead Are before after status = HasNotRead before after status

-- the source's count of faults rose at `ReadFault`, and is as it was at every other status
abbrev pub ReadFaulted : ℕ → ℕ → Status → Type 0
ReadFaulted before after Status.ReadFault = Rose before after
ReadFaulted before after _ = after ≡ before
