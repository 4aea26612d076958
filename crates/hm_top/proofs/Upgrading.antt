-- What a call with the word `upgrade` comes to.
use Rattle.std.proofs.Common.{◌≡◌, ℕ, inl, inr, Some, None, Option, List, [], refl, sym, ap, subst}
use Rattle.std.specs.Prelude.{IfSome}
use Rattle.hm_base.specs.Program.{Program}
use Rattle.hm_history.specs.declared.Entry.{Entry}
use Rattle.hm_io.specs.Streams.{Adds, AddsFront, SinkState, SourceState}
use Rattle.hm_script.specs.Spelling.{text}
use Rattle.hm_top.specs.Complete.{IsComplete}
use Rattle.hm_edge.specs.Traffic.{NoFault, Traffic}
use Rattle.hm_top.specs.Generates.{HasMade, IsAlone}
use Rattle.hm_edge.specs.Reading.{HasRead, IsTextOf, ReadAs, ReadFaulted}
use Rattle.hm_top.specs.Running.{Answered}
use Rattle.hm_top.specs.Upgrades.{HasUpgraded, IsItsUpgrade, IsUpgradedText, IsUpgradeOf, Upgrades, text_for, upgraded}
use Rattle.hm_edge.specs.Writing.{HasWritten, IsFlushed, WriteFaulted}
use Rattle.hm_top.specs.declared.ended.Ended.{Ended}
use Rattle.hm_edge.specs.declared.status.Status.{Status}
use Rattle.hm_edge.proofs.Came.{given}

the_script : (u : Program) (script : Option Program) (h : List Entry) → Answered (IsAlone u) script h → script ≡ Some u
the_script u None h a = absurd a
the_script u (Some s) h a = ap Some a.0

no_history : (u : Program) (script : Option Program) (h : List Entry) → Answered (IsAlone u) script h → h ≡ []
no_history u None h a = absurd a
no_history u (Some s) h a = a.1

module _ (b a : SourceState) (u : Program) (script : Option Program) (h : List Entry) where
  read_made : (status : Status) → HasMade (IsAlone u) script h status → ReadAs 4194304 (IsUpgradeOf u) b a → HasRead (IsItsUpgrade script) b a status
  read_made Status.Done made read = subst (λ x. ReadAs 4194304 (IsItsUpgrade x) b a) (sym (the_script u script h made)) read
  read_made Status.WriteFault made read = subst (λ x. ReadAs 4194304 (IsItsUpgrade x) b a) (sym (the_script u script h made)) read
  read_made Status.NoMemory made read = tt
  read_made Status.HistoryFull made read = absurd made
  read_made Status.Usage made read = absurd made
  read_made (Status.NotLegal l) made read = absurd made
  read_made (Status.Refused x) made read = absurd made
  read_made Status.ScriptTooLong made read = absurd made
  read_made Status.ReportTooLong made read = absurd made
  read_made Status.NoRows made read = absurd made
  read_made Status.TooManyRows made read = absurd made
  read_made (Status.Race end) made read = absurd made
  read_made Status.ReadFault made read = tt

  faults_made : (n n' : ℕ) (status : Status) → HasMade (IsAlone u) script h status → n' ≡ n → ReadFaulted n n' status
  faults_made n n' Status.ReadFault made same = absurd made
  faults_made n n' Status.Done made same = same
  faults_made n n' Status.HistoryFull made same = same
  faults_made n n' Status.WriteFault made same = same
  faults_made n n' Status.NoMemory made same = same
  faults_made n n' Status.Usage made same = same
  faults_made n n' (Status.NotLegal l) made same = same
  faults_made n n' (Status.Refused x) made same = same
  faults_made n n' Status.ScriptTooLong made same = same
  faults_made n n' Status.ReportTooLong made same = same
  faults_made n n' Status.NoRows made same = same
  faults_made n n' Status.TooManyRows made same = same
  faults_made n n' (Status.Race end) made same = same

  script_made : (status : Status) → HasMade (IsAlone u) script h status → HasUpgraded script status
  script_made Status.Done made = (u, the_script u script h made)
  script_made Status.WriteFault made = (u, the_script u script h made)
  script_made Status.NoMemory made = made.script_is
  script_made Status.HistoryFull made = made
  script_made Status.Usage made = made
  script_made (Status.NotLegal l) made = made
  script_made (Status.Refused x) made = absurd made
  script_made Status.ScriptTooLong made = absurd made
  script_made Status.ReportTooLong made = absurd made
  script_made Status.NoRows made = absurd made
  script_made Status.TooManyRows made = absurd made
  script_made (Status.Race end) made = absurd made
  script_made Status.ReadFault made = absurd made

  history_made : (status : Status) → HasMade (IsAlone u) script h status → h ≡ []
  history_made Status.Done made = no_history u script h made
  history_made Status.WriteFault made = no_history u script h made
  history_made Status.NoMemory made = made.history_is
  history_made Status.HistoryFull made = absurd made
  history_made Status.Usage made = absurd made
  history_made (Status.NotLegal l) made = absurd made
  history_made (Status.Refused x) made = absurd made
  history_made Status.ScriptTooLong made = absurd made
  history_made Status.ReportTooLong made = absurd made
  history_made Status.NoRows made = absurd made
  history_made Status.TooManyRows made = absurd made
  history_made (Status.Race end) made = absurd made
  history_made Status.ReadFault made = absurd made

  its_text : Answered (IsAlone u) script h → text u ≡ text_for script
  its_text made = ap text_for (sym (the_script u script h made))

  text_made : (k k' : SinkState) (status : Status) → HasMade (IsAlone u) script h status → IsUpgradedText b (text u) → HasWritten (text u) (λ t. t ≡ text u) k k' status → HasWritten (text_for script) (IsUpgradedText b) k k' status
  text_made k k' Status.Done made goes w = subst (Adds k.held k'.held) (its_text made) w
  text_made k k' Status.WriteFault made goes w = subst (AddsFront k.held k'.held) (its_text made) w
  text_made k k' Status.NoMemory made goes (inl same) = inl same
  text_made k k' Status.NoMemory made goes (inr w) = inr (record { text = w.text; goes = subst (IsUpgradedText b) (sym w.goes) goes; front = w.front; wants = w.wants })
  text_made k k' Status.HistoryFull made goes w = absurd made
  text_made k k' Status.Usage made goes w = absurd made
  text_made k k' (Status.NotLegal l) made goes w = absurd made
  text_made k k' (Status.Refused x) made goes w = absurd made
  text_made k k' Status.ScriptTooLong made goes w = absurd made
  text_made k k' Status.ReportTooLong made goes w = absurd made
  text_made k k' Status.NoRows made goes w = absurd made
  text_made k k' Status.TooManyRows made goes w = absurd made
  text_made k k' (Status.Race end) made goes w = absurd made
  text_made k k' Status.ReadFault made goes w = absurd made

  ends_made : (io : Traffic) (status : Status) → HasMade (IsAlone u) script h status → WriteFaulted io.sink.faults io.sink_after.faults status → NoFault io → IsComplete status
  ends_made io Status.Done made w none = tt
  ends_made io Status.NoMemory made w none = tt
  ends_made io Status.WriteFault made w none = none.writes w
  ends_made io Status.HistoryFull made w none = made
  ends_made io Status.Usage made w none = made
  ends_made io (Status.NotLegal l) made w none = made
  ends_made io (Status.Refused x) made w none = made
  ends_made io Status.ScriptTooLong made w none = made
  ends_made io Status.ReportTooLong made w none = made
  ends_made io Status.NoRows made w none = made
  ends_made io Status.TooManyRows made w none = made
  ends_made io (Status.Race end) made w none = made
  ends_made io Status.ReadFault made w none = made

upgrade_of : (left : Option (List ℕ)) (s u : Program) → u ≡ upgraded s → IfSome left (IsTextOf s) → IfSome left (IsUpgradeOf u)
upgrade_of None s u is x = tt
upgrade_of (Some bytes) s u is x = record { script = s; text_is = x; upgrade = is }

-- the text in version 2 was written
pub written : (io : Traffic) (e : Ended) (s u : Program) → ReadAs 4194304 (IsTextOf s) io.source io.source_after → io.source_after.faults ≡ io.source.faults → u ≡ upgraded s
    → HasMade (IsAlone u) e.script e.history.entries e.status → HasWritten (text u) (λ t. t ≡ text u) io.sink io.sink_after e.status → WriteFaulted io.sink.faults io.sink_after.faults e.status → IsFlushed io.sink_after.pending e.status → e.receipt ≡ None → Upgrades io e
written io e s u read same is made w faults flushed receipt =
    let mine = upgrade_of io.source.left s u is read.bytes_are in record {
      read = read_made io.source io.source_after u e.script e.history.entries e.status made (record { bytes_are = mine; whole = read.whole });
      read_faults = faults_made io.source io.source_after u e.script e.history.entries io.source.faults io.source_after.faults e.status made same;
      script = script_made io.source io.source_after u e.script e.history.entries e.status made;
      history = history_made io.source io.source_after u e.script e.history.entries e.status made;
      written = text_made io.source io.source_after u e.script e.history.entries io.sink io.sink_after e.status made (record { script = u; read = mine; text_is = refl }) w;
      write_faults = faults;
      flushed = flushed;
      receipt = receipt;
      complete = λ none. given io.source.left (λ bytes at t is_given. ends_made io.source io.source_after u e.script e.history.entries io e.status made faults none);
    }
