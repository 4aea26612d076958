-- What a turn of an actor comes to at a key.
use Rattle.std.specs.Prelude.{◌≡◌, ℕ, false, Option, Some, None, List, [], ◌∷◌, ◌++◌}
use Rattle.hm_base.specs.Program.{Program}
use Rattle.hm_history.specs.Kernel.Going.{State}
use Rattle.hm_history.specs.declared.Entry.{Entry}
use Rattle.hm_history.specs.declared.Progress.{Progress}
use Rattle.hm_flaws.specs.Drivers.{Driver}
use Rattle.hm_flaws.specs.Flawed.{due_by, flawed_next}
use Rattle.hm_flaws.specs.declared.flaws.Flaw.{Flaw}
use Rattle.hm_flaws.specs.declared.parts.Part.{Part}
use Rattle.hm_flaw_parts.specs.declared.judged.Judging.{Judging}
use Rattle.hm_flaw_parts.specs.Races.Races.{broken_at, is_due_at, point_entry}
use Rattle.hm_flaw_states.specs.Keyed.{form_in, entries_in, broken_in}
use Rattle.hm_flaw_states.specs.Follows.{Standing}
use Rattle.hm_flaw_states.specs.States.{state_in}
use Rattle.hm_flaw_states.specs.Tidy.{TidyFor}
use Rattle.hm_flaw_states.specs.declared.key.FlawKey.{FlawKey}

-- a key, each of whose entries was judged so, and broke none of the parts
pub record IsKept (j : Judging) (k : FlawKey) : Type 0 where
  pub tidy : TidyFor j (state_in k.state.value).after.places
  pub standing : Standing (state_in k.state.value)

-- what a driver has of its own after an entry
abbrev pub own_next : Flaw → Program → State → Driver → Entry → Driver
own_next l c u x e = (flawed_next l c (record { state = u; driver = x }) e).driver

-- no part was broken, an entry is due to the actor, and the other key is that after it: with the entry among all
-- entries if it breaks no part, and else beside them with the part
pub record IsTurned (parts : List Part) (l : Flaw) (c : Program) (k : FlawKey) (a : ℕ) (n : FlawKey) : Type 0 where
  pub entry : Entry
  pub none : (form_in k).broken ≡ None
  pub due : due_by l c (form_in k).flawed a ≡ Progress.Did entry
  pub form : form_in n ≡ point_entry l c (form_in k) entry (broken_at parts c (form_in k) entry)
  pub on : broken_at parts c (form_in k) entry ≡ None
      → (entries_in n ≡ entries_in k ++ entry ∷ []) × (broken_in n ≡ None)
  pub ended : (part : Part) → broken_at parts c (form_in k) entry ≡ Some part
      → (entries_in n ≡ entries_in k) × (broken_in n ≡ Some (entry, part))

-- the key after a turn of the actor, or none if nothing is due to it
abbrev pub IsNextKey : List Part → Flaw → Program → FlawKey → ℕ → Option FlawKey → Type 0
IsNextKey parts l c k a None = is_due_at l c (form_in k) a ≡ false
IsNextKey parts l c k a (Some n) = IsTurned parts l c k a n
