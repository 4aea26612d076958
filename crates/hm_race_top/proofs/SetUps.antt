-- A set-up that could not be made.
use Rattle.std.proofs.Common.{◌≡◌, ℕ, Bool, None, List, [], ap, ◌∙◌, subst}
use Rattle.std.specs.Prelude.{Err, fold}
use Rattle.hm_base.specs.Program.{Program}
use Rattle.hm_history.specs.Kernel.Run.{run, line_run, is_entry}
use Rattle.hm_history.specs.declared.Entry.{Entry}
use Rattle.hm_history.specs.declared.StepError.{StepError}
use Rattle.hm_machine.specs.Turning.{CameTo}
use Rattle.hm_world.specs.WorldValue.{WorldValue, opening, now, MayHalt, HaltsRightly}
use Rattle.hm_world.proofs.Shown.{now_length}
use Rattle.hm_race_top.specs.Run.Known.{MayFail}

-- a world after its set-up
abbrev set_up_made : Program → List Entry → WorldValue
set_up_made c h = record { script = c; history = h; halted = None }

full_there : (c : Program) (h : List Entry) (n : ℕ) → MayHalt c h (StepError.Full n) → MayFail c h (StepError.Full n)
unfolding now
full_there c h n m = (m.0, [], m.2.actor, now_length (set_up_made c h) ∙ m.1, ap is_entry m.2.is_due)

-- its history is full, and an entry is due
came_short : (c : Program) (b : Bool) (x : StepError) (u : WorldValue) → CameTo (opening c) (run c) b (Err x) u → HaltsRightly u.script u.history u.halted → MayFail c (run c) x
came_short c b StepError.NoMemory u came halts = tt
came_short c b (StepError.Full n) u came halts = full_there c (run c) n (subst (λ (t : WorldValue). HaltsRightly t.script t.history t.halted) came.2 halts)

pub overran : (c : Program) (b : Bool) (x : StepError) (w u v : WorldValue) → w ≡ opening c → CameTo w (fold (line_run w.script) w.history w.script.schedule) b (Err x) u → v ≡ u → HaltsRightly v.script v.history v.halted → MayFail c (run c) x
overran c b x w u v e came same halts = came_short c b x u (subst (λ (t : WorldValue). CameTo t (fold (line_run t.script) t.history t.script.schedule) b (Err x) u) e came) (subst (λ (t : WorldValue). HaltsRightly t.script t.history t.halted) same halts)
