use Rattle.hm_script.proofs.Loop.{is_found, is_only, is_first}
use Rattle.hm_script.proofs.script.parse_words.Goals as goal

pub returns-clause-found : goal.returns-clause-found
returns-clause-found c = is_found c.args.words.now c.args.bytes.now c.read.result c.read.ensures

pub returns-clause-only : goal.returns-clause-only
returns-clause-only c = is_only c.args.words.now c.args.bytes.now c.read.result c.read.ensures

pub returns-clause-first : goal.returns-clause-first
returns-clause-first c = is_first c.args.words.now c.args.bytes.now c.read.result c.read.ensures
