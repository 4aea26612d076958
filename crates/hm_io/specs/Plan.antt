-- The calls of a source or a sink in memory that fail.
use Rattle.std.specs.Prelude.{ℕ, ◌+◌, ◌^◌, Bool, ◌&&◌, ◌||◌, nat_lt, ◌==◌, if◌then◌else◌, List}
use Rattle.std.specs.List.{list_any}
use Rattle.hm_io.specs.Streams.{raised}

-- which calls are to fail, by their numbers, how many calls were made, and how many of them failed
pub record Plan : Type 0 where
  pub failing : List ℕ
  pub calls : ℕ
  pub faults : ℕ

-- the number of the next call, from 1, is one of those that are to fail; calls past 2^64 - 1 have none
abbrev pub is_planned : Plan → Bool
is_planned p = nat_lt (p.calls + 1) (2 ^ 64) && list_any (λ n. n == p.calls + 1) p.failing

-- the next call fails, by the plan or since it asks for too much
abbrev pub fails : Plan → Bool → Bool
fails p too_much = too_much || is_planned p

-- the plan after the next call, which is counted, and counted as a fault if it failed
abbrev pub after_call : Plan → Bool → Plan
after_call p too_much = record {
  failing = p.failing;
  calls = raised p.calls;
  faults = if fails p too_much then raised p.faults else p.faults;
}
