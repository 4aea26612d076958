-- Turns of a driver with a flaw, judged until one of them breaks a part of legality.
use Rattle.std.specs.Prelude.{◌≡◌, ℕ, Option, Some, None, List, [], ◌∷◌, ◌++◌, ⊤}
use Rattle.hm_base.specs.Program.{Program}
use Rattle.hm_history.specs.declared.Entry.{Entry}
use Rattle.hm_history.specs.declared.Progress.{Progress}
use Rattle.hm_history.specs.Kernel.Going.{state_of}
use Rattle.hm_flaws.specs.declared.flaws.Flaw.{Flaw}
use Rattle.hm_flaws.specs.Flawed.{Flawed, flawed_from, flawed_next, flawed_after, due_by}
use Rattle.hm_flaws.specs.Parts.{Part, broken_part}

-- ---- what a driver does after a set-up

-- entries that are due one after the other in this state of a driver, after the history h, and break none of the parts
abbrev pub UnbrokenBy : List Part → Flaw → Program → List Entry → Flawed → List Entry → Type 0
UnbrokenBy parts l c h t [] = ⊤
UnbrokenBy parts l c h t (e ∷ es) =
    (due_by l c t e.actor ≡ Progress.Did e) × (broken_part parts c h t.state.going e ≡ None)
    × UnbrokenBy parts l c (h ++ e ∷ []) (flawed_next l c t e) es

-- entries after the set-up that are due to a driver with this flaw, and break none of the parts
abbrev pub Unbroken : List Part → Flaw → Program → List Entry → List Entry → Type 0
Unbroken parts l c h es = UnbrokenBy parts l c h (flawed_from (state_of c h)) es

-- the entry is due to such a driver after the set-up and its entries so far
abbrev pub IsDueBy : Flaw → Program → List Entry → List Entry → Entry → Type 0
IsDueBy l c h es e = due_by l c (flawed_after l c h es) e.actor ≡ Progress.Did e

-- the first of the parts that it breaks then
abbrev pub broken_by : List Part → Flaw → Program → List Entry → List Entry → Entry → Option Part
broken_by parts l c h es e = broken_part parts c (h ++ es) (flawed_after l c h es).state.going e

-- a race in which a driver with this flaw breaks a part: entries that were due to it and break none, and then one that
-- is due to it and breaks this one first
pub record Breaks (parts : List Part) (l : Flaw) (c : Program) (h es : List Entry) (e : Entry) (part : Part)
    : Type 0 where
  pub unbroken : Unbroken parts l c h es
  pub is_due : IsDueBy l c h es e
  pub broken : broken_by parts l c h es e ≡ Some part

-- such a driver breaks none of the parts, in whatever order the actors take turns after the set-up
abbrev pub BreaksNone : List Part → Flaw → Program → List Entry → Type 0
BreaksNone parts l c h = (es : List Entry) → Unbroken parts l c h es → (e : Entry) → IsDueBy l c h es e
    → broken_by parts l c h es e ≡ None

-- ---- turns of actors, one after the other

-- what turns come to: the state, the entries after the set-up, and the entry that breaks a part, with that part; it is
-- not among the entries
pub record Judged : Type 0 where
  pub flawed : Flawed
  pub entries : List Entry
  pub broken : Option (Entry × Part)

-- after an entry that breaks this part, or none
abbrev pub judged_entry : List Part → Flaw → Program → List Entry → Judged → Entry → Option Part → Judged
judged_entry parts l c h x e (Some part) = record x { broken = Some (e, part) }
judged_entry parts l c h x e None =
    record { flawed = flawed_next l c x.flawed e; entries = x.entries ++ e ∷ []; broken = None }

-- after a turn that comes to this; one that waits or is idle changes nothing
abbrev pub judged_turn : List Part → Flaw → Program → List Entry → Judged → Progress → Judged
judged_turn parts l c h x (Progress.Did e) =
    judged_entry parts l c h x e (broken_part parts c (h ++ x.entries) x.flawed.state.going e)
judged_turn parts l c h x p = x

-- after a turn of an actor, if no part was broken before it
abbrev pub judged_on : List Part → Flaw → Program → List Entry → Option (Entry × Part) → Judged → ℕ → Judged
judged_on parts l c h (Some found) x a = x
judged_on parts l c h None x a = judged_turn parts l c h x (due_by l c x.flawed a)

-- after the set-up
abbrev pub judged_from : Program → List Entry → Judged
judged_from c h = record { flawed = flawed_from (state_of c h); entries = []; broken = None }

-- after turns of these actors
abbrev pub judged_after : List Part → Flaw → Program → List Entry → List ℕ → Judged → Judged
judged_after parts l c h [] x = x
judged_after parts l c h (a ∷ turns) x = judged_after parts l c h turns (judged_on parts l c h x.broken x a)

-- what turns of these actors come to after the set-up h
abbrev pub judged : List Part → Flaw → Program → List Entry → List ℕ → Judged
judged parts l c h turns = judged_after parts l c h turns (judged_from c h)
