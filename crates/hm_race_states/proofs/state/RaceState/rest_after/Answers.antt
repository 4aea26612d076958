use Rattle.std.proofs.Common.{◌∙◌, ap, Global, List, map}
use Rattle.std.specs.Rc.{rc_value}
use Rattle.std.specs.declared.rc.Rc.{Rc}
use Rattle.hm_race_laws.specs.Blur.{unlisted}
use Rattle.hm_race_states.specs.Small.{kept_seqs}
use Rattle.hm_race_states.specs.States.{goings_in, state_in}
use Rattle.hm_race_states.specs.declared.small.SmallSeqs.{SmallSeqs}
use Rattle.hm_race_states.specs.declared.state.RaceState.{RaceState}
use Rattle.hm_race_states.specs.declared.tasks.RaceTask.{RaceTask}
use Rattle.hm_race_states.proofs.Nexts.{parts_on}
use Rattle.hm_race_states.proofs.state.RaceState.rest_after.Goals as goal

pub returns : goal.returns
returns c =
    ap (λ (x : RaceState). unlisted (state_in x)) c.joined.ensures
    ∙ parts_on c.args.script.now c.args.self.now c.args.entry.now c.in_ok-processes.processes c.in_ok-places.places c.in_ok-actors.actors (record {
      processes = c.in_ok-processes.ensures.parts;
      places = c.in_ok-places.ensures;
      actors = c.in_ok-actors.ensures.parts;
      seqs = ap (λ (q : Rc SmallSeqs Global). kept_seqs q.value) c.in_ok-processes.ensures.seqs ∙ c.requires.seqs;
      goings = λ n. ap (λ (ts : List (Rc RaceTask Global)). goings_in (map rc_value ts) n) c.in_ok-actors.ensures.tasks ∙ c.requires.goings n;
    })
