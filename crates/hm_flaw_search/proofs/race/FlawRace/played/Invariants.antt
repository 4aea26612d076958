use Rattle.std.proofs.Common.{◌≡◌, ◌+◌, length, take}
use Rattle.hm_flaw_parts.specs.Judged.{judged_parts}
use Rattle.hm_flaw_search.specs.Races.{IsKeyOf}
use Rattle.hm_flaw_search.specs.Played.{IsOwedAfter, IsPlayed}
use Rattle.hm_flaw_search.proofs.race.FlawRace.played.Given as goal

-- the key is that after the turns so far, and so is what is owed
abbrev pub invariant-loop-actor : goal.invariant-loop-actor
invariant-loop-actor l = record {
  played : IsPlayed (judged_parts l.self.judging) l.self.flaw l.self.script l.self.set_up (take l.actor-index l.turns) l.key;
  owed : IsOwedAfter (judged_parts l.self.judging) l.self.flaw l.self.script l.self.set_up (take l.actor-index l.turns) l.owed;
  kept : IsKeyOf l.self l.key l.entries;
  count : l.entries ≡ length l.self.set_up + l.actor-index;
}
