use Rattle.hm_tables.proofs.SetPlace.{removes, adds}
use Rattle.hm_tables.proofs.pools.change_use.Goals as goal

pub mark_use-requires-clause-used : goal.mark_use-requires-clause-used
mark_use-requires-clause-used c = removes _ c.args.proc c.args.page c.args.old.now _ c.requires.says c.names.ensures

pub remove_use-requires-clause-used : goal.remove_use-requires-clause-used
remove_use-requires-clause-used c = removes _ c.args.proc c.args.page c.args.old.now _ c.requires.says c.names-then-not-keeps_use.ensures

pub add_use-requires-clause-fits : goal.add_use-requires-clause-fits
add_use-requires-clause-fits c =
    adds _ c.args.proc c.args.page c.args.old.now c.args.new.now _ _ _ c.requires.says c.requires.room c.names-then-not-keeps_use.ensures c.remove_use.ensures c.names-then-not-keeps_use-2.ensures
