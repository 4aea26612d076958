use Rattle.radix_tables.proofs.Pairs.{no_words}
use Rattle.radix_tables.proofs.radix.Radix.new.Goals as goal

pub returns : goal.returns
returns c = no_words _ _ c.new.ensures.words c.new.ensures.room
