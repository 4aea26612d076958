use Rattle.hm_verdicts.proofs.over.earlier.Goals as goal

pub returns-then-begun-over : goal.returns-then-begun-over
returns-then-begun-over c top xs h s = c.latest.ensures top xs s
