use Rattle.std.proofs.Common.{List, [], ◌∷◌, ◌++◌, ap, ◌∙◌}
use Rattle.hm_history.specs.declared.Entry.{Entry}
use Rattle.hm_flaw_states.proofs.trail.longer.Goals as goal

pub returns : goal.returns
returns c = c.in_ok-push_entry.ensures ∙ ap (λ (es : List Entry). es ++ c.args.entry ∷ []) c.in_ok-all.ensures
