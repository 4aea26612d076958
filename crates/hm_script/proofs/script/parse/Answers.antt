use Rattle.hm_script.proofs.Whole.{whole_found, whole_only, whole_first}
use Rattle.hm_script.proofs.script.parse.Goals as goal

pub returns-clause-found : goal.returns-clause-found
returns-clause-found c = whole_found c.args.bytes.now c.parse_words.result c.parse_words.ensures.found

pub returns-clause-only : goal.returns-clause-only
returns-clause-only c = whole_only c.args.bytes.now c.parse_words.result c.parse_words.ensures.only

pub returns-clause-first : goal.returns-clause-first
returns-clause-first c = whole_first c.args.bytes.now c.parse_words.result c.parse_words.ensures.first
