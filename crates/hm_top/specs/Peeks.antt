-- The call with the word `peek`: as `threads`, with a watcher that looks at bytes of a process; what it saw follows the
-- report.
use Rattle.std.specs.Prelude.{◌≡◌, ◌⊎◌, ◌↔◌, ℕ, true, false, List, [], ◌∷◌, ◌++◌, length, Option, Some, IfSome, codes}
use Rattle.std.specs.Fmt.{decimal, digits}
use Rattle.std.specs.List.{flat_map}
use Rattle.hm_base.specs.Program.{Program}
use Rattle.hm_history.specs.Memory.After.{after}
use Rattle.hm_history.specs.declared.Entry.{Entry}
use Rattle.hm_report.specs.Report.{report}
use Rattle.hm_script.specs.Spelling.{hex_text}
use Rattle.hm_turns.specs.Looking.{all_have_areas}
use Rattle.hm_workers.specs.Peeking.{ArePeeks, IsPlain, last_count}
use Rattle.hm_workers.specs.declared.peeks.Peek.{Peek}
use Rattle.hm_edge.specs.Reading.{IsTextOf}
use Rattle.hm_top.specs.Running.{Answered}
use Rattle.hm_top.specs.RunsThreads.{AllEnded, CameToEnd, StoppedFull, TellsOfThreads}
use Rattle.hm_io.specs.Streams.{SourceState}
use Rattle.hm_edge.specs.Traffic.{Traffic}
use Rattle.hm_top.specs.declared.ended.Ended.{Ended}
use Rattle.hm_edge.specs.declared.status.Status.{Status}

-- the line of a peek: its process and address, after how many entries it was so, and the bytes
abbrev pub peek_line : Peek → List ℕ
peek_line x =
    codes "peek p" ++ (decimal x.proc ++ (codes " 0x" ++ (digits 16 false x.addr ++ (32 ∷ (decimal x.count
    ++ (32 ∷ (hex_text x.bytes ++ 10 ∷ [])))))))

-- the report, and a line for each peek
abbrev pub peeked_text : List Peek → Program → List Entry → List ℕ
peeked_text xs s h = report s h ++ flat_map peek_line xs

-- the peeks of a whole run: each has the plain bytes of its process after its count in the history, the counts rise,
-- and the last one is of the whole history exactly if all the bytes have areas at the end
pub record SawAll (p at n : ℕ) (h : List Entry) (xs : List Peek) : Type 0 where
  pub right : ArePeeks p at n (IsPlain h) xs
  pub last : (last_count xs ≡ Some (length h)) ↔ (all_have_areas (after h).plain p at n ≡ true)

-- the peeks in the answer, by how far the run came: those of a whole run, or none if the history got full
abbrev pub SawSoFar : ℕ → ℕ → ℕ → Option Program → List Entry → List Peek → Type 0
SawSoFar p at n script h xs =
    (Answered AllEnded script h × SawAll p at n h xs) ⊎ (Answered StoppedFull script h × (xs ≡ []))

-- the peeks in the answer, by how the call ends
abbrev pub HasSeen : ℕ → ℕ → ℕ → Option Program → List Entry → List Peek → Status → Type 0
HasSeen p at n script h xs Status.Done = SawAll p at n h xs
HasSeen p at n script h xs Status.WriteFault = SawSoFar p at n script h xs
HasSeen p at n script h xs _ = xs ≡ []

-- if a text went out, or a front of it, the answer has these peeks, and else none
abbrev pub AnswersPeeks : List Peek → List Peek → Status → Type 0
AnswersPeeks saw xs Status.Done = xs ≡ saw
AnswersPeeks saw xs Status.HistoryFull = xs ≡ saw
AnswersPeeks saw xs Status.WriteFault = xs ≡ saw
AnswersPeeks saw xs _ = xs ≡ []

-- the text is the report of a script with these bytes, and of a history that its actors came to, and peeks of that
pub record IsPeekedReport (p at n : ℕ) (from : SourceState) (t : List ℕ) : Type 0 where
  pub script : Program
  pub history : List Entry
  pub peeks : List Peek
  pub read : IfSome from.left (IsTextOf script)
  pub ran : CameToEnd script history
  pub right : ArePeeks p at n (IsPlain history) peeks
  pub text_is : t ≡ peeked_text peeks script history

-- the clause of `run` for the word `peek`
pub record RunsPeeked (p at n : ℕ) (io : Traffic) (ended : Ended) : Type 0 where
  -- What is read, run and answered is as for `threads`. What is written is the report and a line for each peek in the
  -- answer.
  pub threads : TellsOfThreads (peeked_text ended.peeks) (IsPeekedReport p at n io.source) io ended
  -- At `Done` the peeks are right, and the last is of the whole history exactly if all the bytes have areas then. At
  -- `HistoryFull` there are none. At `WriteFault` one of the two holds, by how far the run came.
  pub peeks : HasSeen p at n ended.script ended.history.entries ended.peeks ended.status
