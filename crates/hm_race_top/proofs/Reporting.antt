-- What a call has found, by how it ends.
use Rattle.std.proofs.Common.{◌≡◌, ℕ, inr, Bool, true, false, Option, Some, None, List, ◌++◌, length, refl, sym, ap, ◌∙◌, subst}
use Rattle.hm_base.specs.Program.{Program}
use Rattle.hm_race_top.specs.declared.text.conditions.rulings.Ruling.{Ruling}
use Rattle.hm_race_top.specs.Text.Conditions.Absent.{have_absent}
use Rattle.hm_race_top.specs.Text.Conditions.Rulings.{strictly, summary}
use Rattle.hm_race_top.specs.Text.Conditions.Texts.{is_whole}
use Rattle.hm_edge.specs.declared.status.RaceEnd.{RaceEnd}
use Rattle.hm_edge.specs.declared.status.Status.{Status}
use Rattle.hm_edge.specs.Writing.{WriteFaulted}
use Rattle.hm_io.specs.Streams.{Adds, SinkState}
use Rattle.hm_race_top.specs.Run.Known.{KnownValue}
use Rattle.hm_search.specs.declared.search.End.{End}
use Rattle.hm_race_top.specs.Text.Laws.{lines_of}
use Rattle.hm_race_top.specs.Text.Text.{blocks_of}
use Rattle.hm_race_top.specs.declared.text.block.OutcomeBlock.{OutcomeBlock}
use Rattle.hm_script.specs.Built.{has_drain}
use Rattle.hm_race_top.specs.Asked.{questions_in}
use Rattle.hm_race_top.specs.Text.Conditions.Asking.{unasked}
use Rattle.hm_race_top.specs.Races.{Found, HasFound, Holds}
use Rattle.hm_race_top.specs.Telling.{HasTold, IsEnding, IsSentOn, ending_of, numbered, script_told, telling, told}
use Rattle.hm_race_top.specs.Ways.{ways_by}
use Rattle.hm_race_top.specs.declared.asked.Task.{Task}
use Rattle.hm_race_top.specs.declared.telling.Telling.{Telling}

-- a call of hmmraces whose text goes out whole ends in one of these ways
abbrev IsOfOutcomes : Status → Type 0
IsOfOutcomes Status.Done = Unit {0}
IsOfOutcomes (Status.Race RaceEnd.NoOutcome) = Unit {0}
IsOfOutcomes (Status.Race RaceEnd.NotFound) = Unit {0}
IsOfOutcomes (Status.Race RaceEnd.Fails) = Unit {0}
IsOfOutcomes (Status.Race RaceEnd.Unsettled) = Unit {0}
IsOfOutcomes _ = ⊥

script_ends : (c : Program) (o : Option OutcomeBlock) (whole : Bool) → IsOfOutcomes (script_told c o whole).ends
script_ends c None true = tt
script_ends c None false = tt
script_ends c (Some b) whole = tt

ruling_ends : (r : Ruling) → IsOfOutcomes (ending_of r)
ruling_ends Ruling.Holds = tt
ruling_ends Ruling.Fails = tt
ruling_ends Ruling.Open = tt

telling_ends : (c : Program) (task : Task) (bs : List OutcomeBlock) (states : ℕ) (end : End) → IsOfOutcomes (telling c task bs states end).ends
telling_ends c Task.Outcomes bs states end = tt
telling_ends c Task.Table bs states end = tt
telling_ends c (Task.Script n) bs states end = script_ends c (numbered bs n) (is_whole end)
telling_ends c (Task.Expect qs) bs states end = ruling_ends (summary qs (lines_of bs) (is_whole end))
telling_ends c (Task.Strict qs) bs states end = ruling_ends (strictly (summary qs (lines_of bs) (is_whole end)) (have_absent qs (lines_of bs)) (is_whole end))

module _ (most : ℕ) (c : Program) (task : Task) (known played : List KnownValue) (end : End) (holds : Holds most c task known played end) (none : has_drain c.schedule ≡ false) (asks : unasked c (questions_in task) ≡ None) (before after : SinkState) where
  found : (status : Status) → HasTold (told c task known played end) before after status → Found most c task before after status
  found status w = record { known = known; played = played; end = end; holds = holds; written = w; races = none; asks = asks }

  not_so : (status : Status) → (IsOfOutcomes status → ⊥) → status ≡ (told c task known played end).ends → ⊥
  not_so status none same = none (subst IsOfOutcomes (sym same) (telling_ends c task _ _ end))

  race_found : (e : RaceEnd) → HasTold (told c task known played end) before after (Status.Race e) → HasFound most c task before after (Status.Race e)
  race_found (RaceEnd.NoCondition m n) w = absurd (not_so (Status.Race (RaceEnd.NoCondition m n)) (λ u. u) w.0)
  race_found RaceEnd.Fails w = found (Status.Race RaceEnd.Fails) w
  race_found RaceEnd.Unsettled w = found (Status.Race RaceEnd.Unsettled) w
  race_found RaceEnd.NoOutcome w = found (Status.Race RaceEnd.NoOutcome) w
  race_found RaceEnd.NotFound w = found (Status.Race RaceEnd.NotFound) w
  race_found RaceEnd.Drained w = absurd (not_so (Status.Race RaceEnd.Drained) (λ u. u) w.0)
  race_found RaceEnd.Broken w = absurd (not_so (Status.Race RaceEnd.Broken) (λ u. u) w.0)
  race_found RaceEnd.Open w = absurd (not_so (Status.Race RaceEnd.Open) (λ u. u) w.0)

  pub has_found : (status : Status) → HasTold (told c task known played end) before after status → HasFound most c task before after status
  has_found Status.Done w = found Status.Done w
  has_found Status.WriteFault w = found Status.WriteFault w
  has_found Status.NoMemory w = inr (found Status.NoMemory w)
  has_found Status.HistoryFull w = absurd (not_so Status.HistoryFull (λ u. u) w.0)
  has_found Status.Usage w = absurd (not_so Status.Usage (λ u. u) w.0)
  has_found (Status.NotLegal n) w = absurd (not_so (Status.NotLegal n) (λ u. u) w.0)
  has_found (Status.Refused r) w = absurd (not_so (Status.Refused r) (λ u. u) w.0)
  has_found Status.ScriptTooLong w = absurd (not_so Status.ScriptTooLong (λ u. u) w.0)
  has_found Status.ReportTooLong w = absurd (not_so Status.ReportTooLong (λ u. u) w.0)
  has_found Status.NoRows w = absurd (not_so Status.NoRows (λ u. u) w.0)
  has_found Status.TooManyRows w = absurd (not_so Status.TooManyRows (λ u. u) w.0)
  has_found Status.ReadFault w = absurd (not_so Status.ReadFault (λ u. u) w.0)
  has_found (Status.Race e) w = race_found e w

-- ---- how a text was written

pub whole_told : (t : Telling) (before after : SinkState) → IsEnding t.ends → Adds before.held after.held t.text → HasTold t before after t.ends
whole_told t before after is adds = by t.ends refl is
  where
    by : (status : Status) → status ≡ t.ends → IsEnding status → HasTold t before after status
    by Status.Done e i = (e, adds)
    by (Status.NotLegal n) e i = absurd i
    by Status.Usage e i = absurd i
    by (Status.Refused r) e i = absurd i
    by Status.ReadFault e i = absurd i
    by Status.WriteFault e i = absurd i
    by Status.NoMemory e i = absurd i
    by Status.HistoryFull e i = absurd i
    by Status.ScriptTooLong e i = absurd i
    by Status.ReportTooLong e i = absurd i
    by Status.NoRows e i = absurd i
    by Status.TooManyRows e i = absurd i
    by (Status.Race (RaceEnd.NoCondition m n)) e i = absurd i
    by (Status.Race RaceEnd.Fails) e i = (e, adds)
    by (Status.Race RaceEnd.Unsettled) e i = (e, adds)
    by (Status.Race RaceEnd.NoOutcome) e i = (e, adds)
    by (Status.Race RaceEnd.NotFound) e i = (e, adds)
    by (Status.Race RaceEnd.Drained) e i = absurd i
    by (Status.Race RaceEnd.Broken) e i = (e, adds)
    by (Status.Race RaceEnd.Open) e i = (e, adds)

-- a call that ends so counted no fault, and if the sink sent on what it has, that is so at its end
pub none_faulted : (status : Status) (n n' : ℕ) → IsEnding status → n' ≡ n → WriteFaulted n n' status
none_faulted Status.Done n n' i same = same
none_faulted (Status.NotLegal l) n n' i same = absurd i
none_faulted Status.Usage n n' i same = absurd i
none_faulted (Status.Refused r) n n' i same = absurd i
none_faulted Status.ReadFault n n' i same = absurd i
none_faulted Status.WriteFault n n' i same = absurd i
none_faulted Status.NoMemory n n' i same = absurd i
none_faulted Status.HistoryFull n n' i same = absurd i
none_faulted Status.ScriptTooLong n n' i same = absurd i
none_faulted Status.ReportTooLong n n' i same = absurd i
none_faulted Status.NoRows n n' i same = absurd i
none_faulted Status.TooManyRows n n' i same = absurd i
none_faulted (Status.Race e) n n' i same = same

pub all_sent : (status : Status) (pending : Bool) → IsEnding status → pending ≡ false → IsSentOn pending status
all_sent Status.Done pending i same = same
all_sent (Status.NotLegal l) pending i same = absurd i
all_sent Status.Usage pending i same = absurd i
all_sent (Status.Refused r) pending i same = absurd i
all_sent Status.ReadFault pending i same = absurd i
all_sent Status.WriteFault pending i same = absurd i
all_sent Status.NoMemory pending i same = absurd i
all_sent Status.HistoryFull pending i same = absurd i
all_sent Status.ScriptTooLong pending i same = absurd i
all_sent Status.ReportTooLong pending i same = absurd i
all_sent Status.NoRows pending i same = absurd i
all_sent Status.TooManyRows pending i same = absurd i
all_sent (Status.Race (RaceEnd.NoCondition m n)) pending i same = absurd i
all_sent (Status.Race RaceEnd.Fails) pending i same = same
all_sent (Status.Race RaceEnd.Unsettled) pending i same = same
all_sent (Status.Race RaceEnd.NoOutcome) pending i same = same
all_sent (Status.Race RaceEnd.NotFound) pending i same = same
all_sent (Status.Race RaceEnd.Drained) pending i same = absurd i
all_sent (Status.Race RaceEnd.Broken) pending i same = same
all_sent (Status.Race RaceEnd.Open) pending i same = same

-- ---- one text

pub told_same : (c : Program) (task : Task) (known played : List KnownValue) (end : End) (bs : List OutcomeBlock) (actors states : ℕ) → actors ≡ length c.actors → states ≡ length known → bs ≡ blocks_of (ways_by actors (known ++ played))
    → telling c task bs states end ≡ told c task known played end
told_same c task known played end bs actors states is all same =
    ap (λ (n : ℕ). telling c task bs n end) all ∙ ap (λ (x : List OutcomeBlock). telling c task x (length known) end) (same ∙ ap (λ (n : ℕ). blocks_of (ways_by n (known ++ played))) is)
