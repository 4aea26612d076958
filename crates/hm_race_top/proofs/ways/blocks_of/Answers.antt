use Rattle.hm_search.specs.Values.{all_known}
use Rattle.hm_race_states.specs.Keyed.{form_in}
use Rattle.hm_race_top.specs.Run.Played.{all_played}
use Rattle.hm_race_top.proofs.WaysKnown.{more_blocks}
use Rattle.hm_race_top.proofs.ways.blocks_of.Goals as goal

pub returns : goal.returns
returns c = more_blocks c.args.actors (all_known form_in c.args.known.now) (all_played c.args.orders.now) c.in_ok-blocks.blocks c.add_played.new.blocks c.in_ok-blocks.ensures c.in_ok-add_played.ensures
