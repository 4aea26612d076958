-- The call with the word `upgrade`: a script is read, and its text in version 2 goes out.
use Rattle.std.specs.Prelude.{◌≡◌, ℕ, List, [], Option, Some, None, IfSome}
use Rattle.hm_base.specs.Program.{Program}
use Rattle.hm_base.specs.declared.ops.Version.TheVariants.{Two}
use Rattle.hm_script.specs.Spelling.{text}
use Rattle.hm_top.specs.Complete.{IsComplete}
use Rattle.hm_edge.specs.Reading.{IsGiven, HasRead, IsTextOf, ReadFaulted}
use Rattle.hm_edge.specs.Traffic.{NoFault, Traffic}
use Rattle.hm_io.specs.Streams.{SourceState}
use Rattle.hm_edge.specs.Writing.{HasWritten, IsFlushed, WriteFaulted}
use Rattle.hm_top.specs.declared.ended.Ended.{Ended}
use Rattle.hm_edge.specs.declared.status.Status.{Status}

-- the same script in version 2
abbrev pub upgraded : Program → Program
upgraded s = record s { version = Two }

-- the bytes are the text of a script, and this is the same in version 2
pub record IsUpgradeOf (u : Program) (bytes : List ℕ) : Type 0 where
  pub script : Program
  pub text_is : IsTextOf script bytes
  pub upgrade : u ≡ upgraded script

-- so of the script in the answer
abbrev pub IsItsUpgrade : Option Program → List ℕ → Type 0
IsItsUpgrade None bytes = ⊥
IsItsUpgrade (Some u) bytes = IsUpgradeOf u bytes

-- the answer has a script if its text goes out, and no history is ever full
abbrev pub HasUpgraded : Option Program → Status → Type 0
HasUpgraded script Status.Done = (u : Program) × (script ≡ Some u)
HasUpgraded script Status.WriteFault = (u : Program) × (script ≡ Some u)
HasUpgraded script Status.HistoryFull = ⊥
HasUpgraded script Status.Usage = ⊥
HasUpgraded script (Status.NotLegal n) = ⊥
HasUpgraded script _ = script ≡ None

-- the text of the script in the answer
abbrev pub text_for : Option Program → List ℕ
text_for None = []
text_for (Some u) = text u

-- the text is that of the script with these bytes, in version 2
pub record IsUpgradedText (from : SourceState) (t : List ℕ) : Type 0 where
  pub script : Program
  pub read : IfSome from.left (IsUpgradeOf script)
  pub text_is : t ≡ text script

-- the clause of `run` for the word `upgrade`
pub record Upgrades (io : Traffic) (ended : Ended) : Type 0 where
  -- If a text goes out, the bytes read are the text of a script, and the script in the answer is the same in
  -- version 2. A script is refused as for `replay`.
  pub read : HasRead (IsItsUpgrade ended.script) io.source io.source_after ended.status
  pub read_faults : ReadFaulted io.source.faults io.source_after.faults ended.status
  pub script : HasUpgraded ended.script ended.status
  -- Nothing is run.
  pub history : ended.history.entries ≡ []
  -- The text of that script goes out; a front of it at `WriteFault`, and at `NoMemory` if the sink itself ran
  -- out of memory.
  pub written : HasWritten (text_for ended.script) (IsUpgradedText io.source) io.sink io.sink_after ended.status
  pub write_faults : WriteFaulted io.sink.faults io.sink_after.faults ended.status
  -- If the text went out whole, the sink sent all of it on.
  pub flushed : IsFlushed io.sink_after.pending ended.status
  pub receipt : ended.receipt ≡ None
  -- If neither stream counted a fault, and the bytes are the text of a script, it is done, or memory runs out.
  pub complete : NoFault io
      → IfSome io.source.left (λ bytes. (s : Program) → IsGiven s bytes → IsComplete ended.status)
