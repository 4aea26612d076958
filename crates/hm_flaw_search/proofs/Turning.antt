-- The start of a race, and a turn more.
use Rattle.std.proofs.Common.{◌≡◌, ℕ, Option, None, List, [], ◌∷◌, ◌++◌, length, refl, ap, ◌∙◌, arith}
use Rattle.hm_base.specs.Program.{Program}
use Rattle.hm_history.specs.Kernel.Going.{state_start}
use Rattle.hm_history.specs.declared.Entry.{Entry}
use Rattle.hm_history.specs.declared.Progress.{Progress}
use Rattle.hm_history.proofs.Going.{lengths}
use Rattle.hm_flaws.specs.declared.flaws.Flaw.{Flaw}
use Rattle.hm_flaws.specs.declared.parts.Part.{Part}
use Rattle.hm_flaws.specs.Flawed.{due_by}
use Rattle.hm_flaws.specs.Judged.{Judged, judged_after, judged_on}
use Rattle.hm_flaw_parts.specs.Races.Races.{FlawPoint, broken_at, entries_at, point_entry, point_from, point_on, point_turn, point_turned}

-- the point after a turn that adds this entry
pub turned_point : (parts : List Part) (l : Flaw) (c : Program) (x : FlawPoint) (a : ℕ) (e : Entry) → x.broken ≡ None → due_by l c x.flawed a ≡ Progress.Did e → point_turn parts l c x a ≡ point_entry l c x e (broken_at parts c x e)
turned_point parts l c x a e none due = ap (λ (o : Option Part). point_on parts l c o x a) none ∙ ap (point_turned parts l c x) due

-- how many entries led to the start
pub entries_from : (c : Program) (h : List Entry) → length h ≡ entries_at (point_from c h)
entries_from c h = omega (arith, lengths c (state_start c) h)

-- what turns are judged to come to with one more
pub judged_more : (parts : List Part) (l : Flaw) (c : Program) (h : List Entry) (turns : List ℕ) (a : ℕ) (x : Judged) → judged_after parts l c h (turns ++ a ∷ []) x ≡ judged_on parts l c h (judged_after parts l c h turns x).broken (judged_after parts l c h turns x) a
judged_more parts l c h [] a x = refl
judged_more parts l c h (b ∷ turns) a x = judged_more parts l c h turns a (judged_on parts l c h x.broken x b)
