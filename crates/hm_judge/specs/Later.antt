-- What is said of the entries after a first bad line.
use Rattle.std.specs.Prelude.{◌≡◌, ℕ, ◌+◌, List, [], length}
use Rattle.hm_base.specs.Program.{Program}
use Rattle.hm_report_reading.specs.declared.reader.Unfinished.{Unfinished}
use Rattle.hm_report_reading.specs.Reports.{IsFirstUnread}
use Rattle.hm_report_reading.specs.Texts.{HasText, text_of}
use Rattle.hm_parts.specs.Rules.{rules_from}
use Rattle.hm_script.specs.Automaton.{lines}
use Rattle.hm_script.specs.Spelling.{text}
use Rattle.hm_judge.specs.declared.asked.Asked.{Asked}
use Rattle.hm_judge.specs.declared.judgement.Judgement.{Judgement}
use Rattle.hm_judge.specs.declared.followed.Followed.{Followed}
use Rattle.hm_judge.specs.declared.followed.Later.{Later}

-- the bytes are the text of a report with these entries, the first of which has the line of this number; each keeps
-- these rules after those before it
pub record IsFollowedIn (bytes : List ℕ) (f : Followed) : Type 0 where
  pub script : Program
  pub unfinished : List Unfinished
  pub has : HasText script f.history.entries unfinished
  pub text_is : bytes ≡ text_of script f.history.entries unfinished
  pub first : f.first ≡ length (lines (text script)) + 2
  pub rules : f.rules.items ≡ rules_from script [] f.history.entries

-- the entries were followed, or this line is the first that no report's text has there
abbrev pub IsFollowedOn : List ℕ → Later → Type 0
IsFollowedOn bytes Later.Unasked = ⊥
IsFollowedOn bytes (Later.Unread n) = IsFirstUnread bytes n
IsFollowedOn bytes (Later.Read f) = IsFollowedIn bytes f

-- so they were if they are asked for and the judgement on the bytes is that they are no legal report
abbrev pub IsLater : Asked → Judgement → List ℕ → Later → Type 0
IsLater Asked.All (Judgement.Legal l) bytes x = x ≡ Later.Unasked
IsLater Asked.All (Judgement.Bad b) bytes x = IsFollowedOn bytes x
IsLater Asked.Verdict j bytes x = x ≡ Later.Unasked
IsLater Asked.Standing j bytes x = x ≡ Later.Unasked
