use Rattle.hm_folds.specs.Kept.{sequences_of}
use Rattle.hm_parts.proofs.Showing.{goes_told, goes_ended}
use Rattle.hm_parts.proofs.show_sequences.goes_on.Goals as goal

pub returns-in-Some : goal.returns-in-Some
returns-in-Some g c =
    goes_told (sequences_of c.args.sequences.now) (g.W.Reads.state c.args.world.now).after.sequences c.args.actor c.args.proc c.args.span
    c.in-Some.mirror c.next_of.result c.telling.result c.requires c.next_of.ensures c.in-Some.is c.telling.ensures

pub returns-in-None : goal.returns-in-None
returns-in-None g c =
    goes_ended (sequences_of c.args.sequences.now) (g.W.Reads.state c.args.world.now).after.sequences c.args.actor c.args.proc c.args.span
    c.next_of.result c.ending.result c.if_right.result c.requires c.next_of.ensures c.in-None.is c.ending.ensures c.if_right.ensures
