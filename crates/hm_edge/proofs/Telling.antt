-- From how a program ends to what its user is told.
use Rattle.std.proofs.Common.{◌≡◌, ◌⊎◌, inl, inr, ℕ, ◌<◌, List, [], ◌∷◌, ◌++◌, drop, false, Option, Some, None, Ok, length, refl, sym, ap, ◌∙◌, subst}
use Rattle.std.specs.Prelude.{IfSome}
use Rattle.hm_base.specs.Program.{Program, IsScript}
use Rattle.hm_io.specs.Streams.{Adds, Rose, SinkState}
use Rattle.hm_script.specs.Spelling.{text}
use Rattle.hm_script.specs.declared.reason.Refused.{Refused}
use Rattle.hm_edge.specs.Exits.{Arguments, Begins, Exits}
use Rattle.hm_edge.specs.Input.{LeftOver}
use Rattle.hm_edge.specs.Reading.{HasNotRead, IsGiven, IsRefusalOf, IsTextOf, ReadAs, ReadFaulted}
use Rattle.hm_edge.specs.Traffic.{IsUntouched, NoFault, Traffic}
use Rattle.hm_edge.specs.Users.{CutShort, EndsSo, GoesOut, IsRefused, IsStarted, NothingOut, Spells, ToldNoScript}
use Rattle.hm_edge.specs.Writing.{WantedIn}
use Rattle.hm_edge.specs.declared.status.Status.{Status}

-- what holds of the bytes that are left, if they are known
pub known : (P : List ℕ → Type 0) (left : Option (List ℕ)) (bytes : List ℕ) → left ≡ Some bytes → IfSome left P → P bytes
known P None bytes e p = cc
known P (Some l) bytes e p = let same : l ≡ bytes = cc in subst P same p

-- more was left than this
pub left_over : (left : Option (List ℕ)) (bytes : List ℕ) (most : ℕ) → left ≡ Some bytes → LeftOver left most → most < length bytes
left_over None bytes most e over = cc
left_over (Some l) bytes most e over = let same : l ≡ bytes = cc in subst (λ (x : List ℕ). most < length x) same over

-- what was added to what the output held
pub added : (before after : Option (List ℕ)) (held t : List ℕ) → before ≡ Some held → Adds before after t → after ≡ Some (held ++ t)
added None after held t e w = cc
added (Some l) after held t e w = let same : l ≡ held = cc in subst (λ (x : List ℕ). after ≡ Some (x ++ t)) same w

-- ---- a program

-- a program that was started has made its call, or memory ran out before that and nothing was read or written
pub ends_so : (Does : List (List ℕ) → Traffic → Status → Type 0) (At : Status → Type 0) (name usage : List ℕ) (words : List (List ℕ)) (bytes held : List ℕ) (args : Arguments) (io : Traffic)
    (errors errors_after : SinkState) (code : ℕ) → IsStarted words bytes held args io → Exits Does name usage args io errors errors_after code
    → ((status : Status) → Does words io status → At status) → (IsUntouched io → At Status.NoMemory) → EndsSo At name usage errors errors_after code
ends_so Does At name usage words bytes held args io errors errors_after code start e made short = record {
  status = e.status;
  code_is = e.code_is;
  says = e.says;
  told = by e.status (subst (λ (z : Arguments). Begins Does z io e.status) start.named e.does);
}
  where
    by : (status : Status) → Begins Does (Ok (start.name ∷ words)) io status → At status
    by status (inl does) = made status does
    by Status.NoMemory (inr none) = short none.untouched
    by Status.Done (inr none) = absurd none.why
    by (Status.NotLegal n) (inr none) = absurd none.why
    by Status.Usage (inr none) = absurd none.why
    by (Status.Refused refused) (inr none) = absurd none.why
    by Status.ReadFault (inr none) = absurd none.why
    by Status.WriteFault (inr none) = absurd none.why
    by Status.HistoryFull (inr none) = absurd none.why
    by Status.ScriptTooLong (inr none) = absurd none.why
    by Status.ReportTooLong (inr none) = absurd none.why
    by Status.NoRows (inr none) = absurd none.why
    by Status.TooManyRows (inr none) = absurd none.why
    by (Status.Race end) (inr none) = absurd none.why

-- ---- its streams

module _ (bytes held : List ℕ) (io : Traffic) (left : io.source.left ≡ Some bytes) (holds : io.sink.held ≡ Some held) where
  pub goes_out : (t : List ℕ) → Adds io.sink.held io.sink_after.held t → io.sink_after.pending ≡ false → GoesOut held t io
  goes_out t w sent = record { written = added io.sink.held io.sink_after.held held t holds w; sent = sent }

  pub nothing_out : io.sink_after.held ≡ io.sink.held → NothingOut held io
  nothing_out same = same ∙ holds

  pub cut_short : (Given Goes : List ℕ → Type 0) → ((t : List ℕ) → Given t → Goes t) → (io.sink_after.held ≡ io.sink.held) ⊎ WantedIn Given io.sink io.sink_after → CutShort Goes held io
  cut_short Given Goes to (inl same) = inl (nothing_out same)
  cut_short Given Goes to (inr w) = inr (record {
    front = w.front.0;
    rest = w.front.1;
    goes = subst Goes w.front.2 (to w.text w.goes);
    written = added io.sink.held io.sink_after.held held w.front.0 holds w.front.3;
  })

  -- ---- scripts

  -- the bytes are the text of a script that was read
  pub spells : (s : Program) → ReadAs 4194304 (IsTextOf s) io.source io.source_after → Spells s bytes
  spells s r = let is = known _ io.source.left bytes left r.bytes_are in record {
    in_range = is.in_range;
    bytes_are = is.spells;
    short = known _ io.source.left bytes left r.whole.short;
  }

  pub none_left : (Are : List ℕ → Type 0) (most : ℕ) → ReadAs most Are io.source io.source_after → io.source_after.left ≡ Some []
  none_left Are most r = known (λ (b : List ℕ). io.source_after.left ≡ Some []) io.source.left bytes left r.whole.rest

  pub is_given : (s : Program) → Spells s bytes → IsGiven s bytes
  is_given s z = record { text_is = record { in_range = z.in_range; spells = z.bytes_are }; short = z.short }

  refused_so : (refused : Refused) → ReadAs 4194304 (IsRefusalOf refused) io.source io.source_after → io.sink_after.held ≡ io.sink.held → IsRefused refused bytes held io
  refused_so refused r same = let is = known _ io.source.left bytes left r.bytes_are in record {
    none = λ s script e. is.no_text s script (sym e);
    line = is.first;
    reason = is.reason;
    read = none_left (IsRefusalOf refused) 4194304 r;
    short = known _ io.source.left bytes left r.whole.short;
    nothing = nothing_out same;
  }

  -- so ends a program that finds no script, if it does not run out of memory and its input does not fail
  pub told_no_script : (status : Status) → HasNotRead io.source io.source_after status → (status ≡ Status.NoMemory → ⊥) → (status ≡ Status.ReadFault → ⊥) → io.sink_after.held ≡ io.sink.held → ToldNoScript bytes held io status
  told_no_script (Status.Refused refused) read memory fault same = refused_so refused read same
  told_no_script Status.ScriptTooLong read memory fault same = (left_over io.source.left bytes 4194304 left read, nothing_out same)
  told_no_script Status.NoMemory read memory fault same = absurd (memory refl)
  told_no_script Status.ReadFault read memory fault same = absurd (fault refl)
  told_no_script Status.Done read memory fault same = absurd read
  told_no_script (Status.NotLegal n) read memory fault same = absurd read
  told_no_script Status.Usage read memory fault same = absurd read
  told_no_script Status.WriteFault read memory fault same = absurd read
  told_no_script Status.HistoryFull read memory fault same = absurd read
  told_no_script Status.ReportTooLong read memory fault same = absurd read
  told_no_script Status.NoRows read memory fault same = absurd read
  told_no_script Status.TooManyRows read memory fault same = absurd read
  told_no_script (Status.Race end) read memory fault same = absurd read
