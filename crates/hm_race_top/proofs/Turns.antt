-- The turns of a race, as those of a system.
use Rattle.std.proofs.Common.{◌≡◌, ℕ, true, false, Option, Some, None, List, length, refl, sym, ap, ◌∙◌, zero-add}
use Rattle.hm_base.specs.Program.{Program}
use Rattle.hm_history.specs.Kernel.Going.{state_start}
use Rattle.hm_history.specs.Kernel.Run.{is_entry}
use Rattle.hm_history.specs.declared.Entry.{Entry}
use Rattle.hm_history.specs.declared.Progress.{Progress}
use Rattle.hm_race_laws.specs.Blur.{form_of}
use Rattle.hm_race_laws.specs.Outcomes.{Point, Reached, point_from, point_turned, point_at}
use Rattle.hm_history.proofs.Going.{lengths}
use Rattle.hm_race_laws.proofs.Turned.{at_reached}
use Rattle.hm_search.specs.Systems.{IsNext, form_after}
use Rattle.hm_race_top.specs.Run.Known as known
use Rattle.hm_race_top.specs.Run.Systems.{race_of}

pub never : {A : Type 0} → true ≡ false → A
never e = absurd (no e)
  where
    no : true ≡ false → ⊥
    no e = cc

-- an entry that is due
pub record Did (p : Progress) : Type 0 where
  pub entry : Entry
  pub same : p ≡ Progress.Did entry

pub did : (p : Progress) → is_entry p ≡ true → Did p
did (Progress.Did e) is = record { entry = e; same = refl }
did (Progress.Waiting why) is = never (sym is)
did Progress.Idle is = never (sym is)

-- the entries that led to the start
pub entries_from : (c : Program) (h : List Entry) → (point_from c h).state.after.length ≡ length h
entries_from c h = lengths c (state_start c) h ∙ zero-add (length h)

-- what is due, and comes next, in a race is so in the system
pub next_turn : {K : Type 0} (form : K → Point) (c : Program) (h : List Entry) (x : Point) (a : ℕ) (o : Option K) → known.IsNext form c x a o → IsNext form (race_of c h) x a o
next_turn form c h x a None p = p
next_turn form c h x a (Some k) p = (ap is_entry p.1, p.2 ∙ ap (form_of c) (sym (ap (point_turned c x) p.1)))

pub next_after : {K : Type 0} (form : K → Point) (c : Program) (h : List Entry) (f : Point) (a : ℕ) (o : Option K) → ((x : Point) → Reached c h x → form_of c x ≡ f → known.IsNext form c x a o)
    → (turns : List ℕ) → form_after (race_of c h) turns ≡ f → IsNext form (race_of c h) (point_at c h turns) a o
next_after form c h f a o next turns same = next_turn form c h (point_at c h turns) a o (next (point_at c h turns) (at_reached c h turns) same)
