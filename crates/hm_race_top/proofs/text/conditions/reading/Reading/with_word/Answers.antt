use Rattle.hm_race_top.proofs.Plain.{inside_front}
use Rattle.hm_race_top.proofs.text.conditions.reading.Reading.with_word.Goals as goal

pub longer-requires-in-Actor-kind-4-clause-front : goal.longer-requires-in-Actor-kind-4-clause-front
longer-requires-in-Actor-kind-4-clause-front c = inside_front c.args.self c.requires.plain c.in-Inside.is
