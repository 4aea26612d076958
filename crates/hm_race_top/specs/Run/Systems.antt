-- A race as a system that is searched.
use Rattle.std.specs.Prelude.{List, length}
use Rattle.hm_base.specs.Program.{Program}
use Rattle.hm_history.specs.Kernel.Due.{due_in}
use Rattle.hm_history.specs.Kernel.Run.{is_entry}
use Rattle.hm_history.specs.declared.Entry.{Entry}
use Rattle.hm_race_laws.specs.Outcomes.{Point, point_from, point_turn, ended_in}
use Rattle.hm_race_laws.specs.Blur.{form_of}
use Rattle.hm_search.specs.Systems.{SystemValue}

-- the race of a script after a set-up, whose points are told apart by their forms
abbrev pub race_of : Program → List Entry → SystemValue Point Point
race_of c h = record {
  actors = length c.actors;
  start = point_from c h;
  is_due = λ x a. is_entry (due_in c x.state a);
  turn = point_turn c;
  form = form_of c;
  ended = λ x. ended_in c x.state;
  entries = λ x. x.state.after.length;
}
