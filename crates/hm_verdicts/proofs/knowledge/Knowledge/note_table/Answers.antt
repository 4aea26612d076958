use Rattle.hm_verdicts.proofs.knowledge.Knowledge.note_table.Goals as goal

pub returns-in-Walk : goal.returns-in-Walk
returns-in-Walk c = rw c.in-Walk.is c.walk.ensures

pub returns-in-Found : goal.returns-in-Found
returns-in-Found c = rw c.in-Found.is c.found.ensures
