-- What is known after some events, of what is kept.
use Rattle.std.specs.Prelude.{reverse}
use Rattle.hm_protocol.specs.Known.{Known}
use Rattle.hm_verdicts.specs.AllLooks.{look_in}
use Rattle.hm_verdicts.specs.Numbers.{values_in, flags_in, positions_in, of_threads_in}
use Rattle.hm_verdicts.specs.declared.knowledge.Knowledge.{Knowledge}

-- what is known by it
abbrev pub known_of : Knowledge → Known
known_of s = record {
  at = s.at;
  last = positions_in s.last;
  device = values_in s.device;
  first = positions_in s.first;
  gone = flags_in s.gone;
  leaving = flags_in s.leaving;
  under = of_threads_in s.under;
  slots = reverse s.slots.items;
  calls = s.calls;
  looks = look_in s.looks;
  early = s.early.items;
  stale = s.stale.items;
  given_up = s.given_up.items;
  moves = of_threads_in s.moves;
  held = reverse s.held.items;
  withdrawn = flags_in s.withdrawn;
  held_then = flags_in s.held_then;
  passed = flags_in s.passed;
}
