use Rattle.std.proofs.Common.{◌≡◌, drop}
use Rattle.hm_flaw_parts.specs.Told.{told_in}
use Rattle.hm_flaw_parts.proofs.told_spans.last_of.Given as goal

abbrev pub invariant-loop-told : goal.invariant-loop-told
invariant-loop-told l = told_in l.spans l.mirror l.page ≡ told_in (drop l.told-index l.spans) l.mirror l.page
