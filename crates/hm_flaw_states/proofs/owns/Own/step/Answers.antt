use Rattle.hm_flaw_states.proofs.owns.Own.step.Goals as goal

pub returns-in_ok-tell-in-Told : goal.returns-in_ok-tell-in-Told
returns-in_ok-tell-in-Told g c = rw c.in-Told.is (c.in_ok-tell-in-Told.ensures c.in-Told.seq)
