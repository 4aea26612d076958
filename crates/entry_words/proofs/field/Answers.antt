use Rattle.std.proofs.Common.{◌/◌, ◌^◌}
use Rattle.std.proofs.lemmas.Nat.{and_mask, one_shl}
use Rattle.entry_words.proofs.field.Goals as goal

pub returns-clause-value : goal.returns-clause-value
returns-clause-value c = rw (one_shl c.args.bits 64 c.requires.proper) (and_mask (c.args.word / 2 ^ c.args.from) c.args.bits)
