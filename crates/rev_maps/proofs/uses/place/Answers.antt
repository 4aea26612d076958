use Rattle.std.proofs.Common.{sym, ◌∙◌, arith}
use Rattle.rev_maps.specs.Uses.{precedes}
use Rattle.rev_maps.proofs.Edits.{first_at, none_at}
use Rattle.rev_maps.proofs.uses.place.Goals as goal

pub returns-then-precedes : goal.returns-then-precedes
returns-then-precedes c =
    first_at (precedes c.args.used.now) c.args.uses.now c.loop-at.at _ c.index-uses-at.is (omega arith) (sym c.precedes.ensures ∙ c.if-precedes.true) c.loop-at.invariant

pub returns : goal.returns
returns c = none_at (precedes c.args.used.now) c.args.uses.now (λ k d l. c.loop-at.invariant k d (omega arith))
