-- Why a call ends with a history that is full.
use Rattle.std.proofs.Common.{ℕ, List, inl, inr, subst}
use Rattle.hm_base.specs.Program.{Program}
use Rattle.hm_flaws.specs.declared.flaws.Flaw.{Flaw}
use Rattle.hm_flaws.specs.declared.parts.Part.{Part}
use Rattle.hm_flaw_top.specs.declared.text.task.Which.{Which}
use Rattle.hm_history.specs.declared.Entry.{Entry}
use Rattle.hm_history.specs.declared.StepError.{StepError}
use Rattle.hm_search.specs.Known.{MayFail}
use Rattle.hm_flaw_parts.specs.Judged.{judged_parts}
use Rattle.hm_flaw_parts.specs.Races.Races.{flaw_system}
use Rattle.hm_flaw_search.specs.Races.{FlawRaceValue}
use Rattle.hm_held_search.specs.Finding.{MayFailBy}
use Rattle.hm_holds.specs.Held.{held_system}
use Rattle.hm_flaw_top.specs.Told.{FlawsMayFail, HoldsMayFail}

-- it has as many entries as a history has
pub full_flaws : (x : Which) (parts : List Part) (c : Program) (h : List Entry) (n : ℕ) → FlawsMayFail x parts c h (StepError.Full n) → FlawsMayFail x parts c h (StepError.Full 2000000)
full_flaws (Which.One l) parts c h n f = subst (λ (m : ℕ). MayFail (flaw_system parts l c h) (StepError.Full m)) f.0 f
full_flaws (Which.Holds l) parts c h n (inl f) = inl (subst (λ (m : ℕ). MayFail (flaw_system parts l c h) (StepError.Full m)) f.0 f)
full_flaws (Which.Holds l) parts c h n (inr f) = inr (f.0, subst (λ (m : ℕ). MayFail (held_system parts l c h f.0) (StepError.Full m)) f.1.0 f.1)
full_flaws Which.All parts c h n f = record { flaw = f.flaw; fails = subst (λ (m : ℕ). MayFail (flaw_system parts f.flaw c h) (StepError.Full m)) f.fails.0 f.fails }

-- a call may fail for want of memory
pub no_memory_fails : (x : Which) (parts : List Part) (c : Program) (h : List Entry) → FlawsMayFail x parts c h StepError.NoMemory
no_memory_fails (Which.One l) parts c h = tt
no_memory_fails (Which.Holds l) parts c h = inl tt
no_memory_fails Which.All parts c h = record { flaw = Flaw.NoFlaw; fails = tt }

-- a search for holds fails as one of the race's does
pub held_fails : (r : FlawRaceValue) (e : StepError) → MayFailBy r e → HoldsMayFail (judged_parts r.judging) r.flaw r.script r.set_up e
held_fails r StepError.NoMemory f = inl tt
held_fails r (StepError.Full n) f = inr f
