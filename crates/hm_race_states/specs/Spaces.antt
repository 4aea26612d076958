-- The processes of a state, and their areas, as contracts see them.
use Rattle.std.specs.Prelude.{false, [], map, slice_index_or}
use Rattle.std.specs.Rc.{rc_value}
use Rattle.hm_history.specs.Memory.Plain.{Plain, plain_start}
use Rattle.hm_race_states.specs.declared.spaces.RaceSpaces.{RaceSpaces}

-- the plain state that they give, for definitions that read no more of it
abbrev pub spaces_in : RaceSpaces → Plain
spaces_in x = record plain_start {
  there = λ p. slice_index_or x.there p false;
  named = λ p. slice_index_or x.named p false;
  been = λ p. false;
  areas = λ p. slice_index_or (map rc_value x.areas.items) p [];
}

-- a plain state without bytes, mirrors, and which processes were ever there
abbrev pub bare : Plain → Plain
bare s = record plain_start { there = s.there; named = s.named; been = λ p. false; areas = s.areas }
