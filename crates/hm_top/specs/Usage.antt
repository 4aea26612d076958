-- A call whose words ask for nothing that it does.
use Rattle.std.specs.Prelude.{◌≡◌, None}
use Rattle.hm_top.specs.Running.{AnsweredNone}
use Rattle.hm_edge.specs.Traffic.{Traffic}
use Rattle.hm_top.specs.declared.ended.Ended.{Ended}

-- it reads and writes nothing, and answers nothing
pub record Refuses (io : Traffic) (ended : Ended) : Type 0 where
  pub unread : io.source_after ≡ io.source
  pub unwritten : io.sink_after ≡ io.sink
  pub none : AnsweredNone ended.script ended.history.entries
  pub receipt : ended.receipt ≡ None
