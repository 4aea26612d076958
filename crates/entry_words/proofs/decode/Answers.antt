use Rattle.std.proofs.Common.{sym}
use Rattle.entry_words.proofs.ReadBack.{not_read}
use Rattle.entry_words.proofs.decode.Goals as goal

pub returns-in-None-clause-exact : goal.returns-in-None-clause-exact
returns-in-None-clause-exact c = λ place h e. absurd (not_read c.args.word (sym (c.in-None.ensures)) place h e)

pub returns-in-None-clause-bad : goal.returns-in-None-clause-bad
returns-in-None-clause-bad c = not_read c.args.word (sym (c.in-None.ensures))
