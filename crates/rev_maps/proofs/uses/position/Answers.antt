use Rattle.std.proofs.Common.{sym, ◌∙◌, arith}
use Rattle.rev_maps.specs.Uses.{is_by}
use Rattle.rev_maps.proofs.Edits.{first_at, no_use}
use Rattle.rev_maps.proofs.uses.position.Goals as goal

pub returns-then-is_by-clause-place : goal.returns-then-is_by-clause-place
returns-then-is_by-clause-place c =
    first_at (is_by c.args.proc c.args.page) c.args.uses.now c.loop-at.at _ c.index-uses-at.is (omega arith) (sym c.is_by.ensures ∙ c.if-is_by.true) c.loop-at.invariant

pub returns : goal.returns
returns c = cc (no_use c.args.proc c.args.page c.args.uses.now (λ k d l. c.loop-at.invariant k d (omega arith)), c.requires)
