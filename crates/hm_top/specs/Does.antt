-- What a call does, by what its words ask for.
use Rattle.std.specs.Prelude.{Option, Some, None}
use Rattle.hm_top.specs.Advises.{Advises}
use Rattle.hm_top.specs.Checks.{Checks, Explains}
use Rattle.hm_top.specs.Generates.{Generates, Tries}
use Rattle.hm_top.specs.Peeks.{RunsPeeked}
use Rattle.hm_top.specs.Replays.{Replays}
use Rattle.hm_top.specs.RunsThreads.{RunsThreads}
use Rattle.hm_edge.specs.Traffic.{Traffic}
use Rattle.hm_top.specs.Upgrades.{Upgrades}
use Rattle.hm_top.specs.Usage.{Refuses}
use Rattle.hm_top.specs.declared.command.Alone.{Alone}
use Rattle.hm_top.specs.declared.command.Command.{Command}
use Rattle.hm_top.specs.declared.ended.Ended.{Ended}

-- a line for each word that the calling thread does alone
abbrev pub DoesAlone : Alone → Traffic → Ended → Type 0
DoesAlone Alone.Replay io ended = Replays io ended
DoesAlone (Alone.Generate n) io ended = Generates n io ended
DoesAlone (Alone.Trial n) io ended = Tries n io ended
DoesAlone Alone.Upgrade io ended = Upgrades io ended
DoesAlone Alone.Check io ended = Checks io ended
DoesAlone Alone.Advise io ended = Advises io ended
DoesAlone Alone.Why io ended = Explains io ended

-- so of each word; nothing if the words are none of the forms
abbrev pub Does : Option Command → Traffic → Ended → Type 0
Does None io ended = Refuses io ended
Does (Some (Command.Alone x)) io ended = DoesAlone x io ended
Does (Some (Command.Threads begin)) io ended = RunsThreads io ended
Does (Some (Command.Peek asked)) io ended = RunsPeeked asked.proc asked.addr asked.len io ended
