use Rattle.std.proofs.Common.{◌∙◌, sym, ap, length}
use Rattle.hm_history.specs.declared.Entry.{Entry}
use Rattle.hm_world.specs.WorldValue.{WorldValue}
use Rattle.hm_world.proofs.Shown.{now_length}
use Rattle.hm_world.proofs.reads.WorldReads.length.Goals as goal

pub returns : goal.returns
returns c = c.len.ensures ∙ ap (λ (t : WorldValue). length {A = Entry} t.history) c.self.view_is ∙ sym (now_length c.args.self.now)
