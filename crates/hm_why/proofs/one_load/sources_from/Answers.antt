use Rattle.hm_why.specs.Writers.{source_in}
use Rattle.hm_why.proofs.Listing.{one_source}
use Rattle.hm_why.proofs.one_load.sources_from.Goals as goal

pub loop-byte-preserved : goal.loop-byte-preserved
loop-byte-preserved c =
    one_source (source_in c.args.writers.now c.args.proc) c.loop-byte.found c.push.new.self c.args.addr c.loop-byte.byte c.in-Some.at
    c.loop-byte.auto.byte c.loop-byte.invariant c.in-Some.ensures c.in_ok-push-in-Some.ensures.ok
