-- What turns are judged to come to: entries that were due and break no part, and the point after the turns.
use Rattle.std.proofs.Common.{◌≡◌, ℕ, ◌+◌, Option, Some, None, List, [], ◌∷◌, ◌++◌, length, refl, sym, ap, ◌∙◌, subst, fold, append_assoc, append-nil, arith}
use Rattle.std.proofs.lemmas.List.Sums.{fold-append}
use Rattle.hm_base.specs.Program.{Program}
use Rattle.hm_base.specs.declared.ops.Op.{Op}
use Rattle.hm_history.specs.Memory.After.{After, after_nothing, after_entry, after}
use Rattle.hm_history.specs.Kernel.Going.{op_at, state_of}
use Rattle.hm_history.specs.declared.Entry.{Entry}
use Rattle.hm_history.specs.declared.Progress.{Progress}
use Rattle.hm_history.specs.declared.phases.Phase.{Phase}
use Rattle.hm_history.proofs.RunLemmas.{progress_own}
use Rattle.hm_laws.proofs.Histories.Sound.{after_is}
use Rattle.hm_flaws.specs.declared.flaws.Flaw.{Flaw}
use Rattle.hm_flaws.specs.declared.parts.Part.{Part}
use Rattle.hm_flaws.specs.Overrides.{due_flawed}
use Rattle.hm_flaws.specs.Flawed.{Flawed, flawed_from, flawed_next, flawed_after, due_by, due_flawed_top, as_read, found}
use Rattle.hm_flaws.specs.Parts.{broken_part}
use Rattle.hm_flaws.specs.Judged.{UnbrokenBy, Unbroken, Judged, judged_entry, judged_turn, judged_on, judged_from, judged_after, judged}
use Rattle.hm_flaws.specs.Races.{part_in}
use Rattle.hm_flaw_parts.specs.Marks.{Marked, marked_next}
use Rattle.hm_flaw_parts.specs.Races.Races.{FlawPoint, marked_of, point_from, point_entry, point_turned, point_on, point_turn}
use Rattle.hm_flaw_parts.specs.Races.Judging.{point_of}
use Rattle.hm_flaw_parts.specs.Races.Laws.{TurnsAreJudged}
use Rattle.hm_flaw_parts.proofs.MarkedTurns.{marked_more, broken_same}

-- ---- states

states_along : (l : Flaw) (c : Program) (t : Flawed) (es : List Entry) → (fold (flawed_next l c) t es).state.after ≡ fold after_entry t.state.after es
states_along l c t [] = refl
states_along l c t (e ∷ es) = states_along l c (flawed_next l c t e) es

-- the memory of a driver's state is that of all entries
pub state_after : (l : Flaw) (c : Program) (h es : List Entry) → (flawed_after l c h es).state.after ≡ after (h ++ es)
state_after l c h es = states_along l c (flawed_from (state_of c h)) es ∙ (ap (λ (s : After). fold after_entry s es) (after_is c h) ∙ sym (fold-append after_entry after_nothing h es))

-- each entry adds one to the length
pub flawed_lengths : (l : Flaw) (c : Program) (t : Flawed) (es : List Entry) → (fold (flawed_next l c) t es).state.after.length ≡ t.state.after.length + length es
flawed_lengths l c t [] = omega arith
flawed_lengths l c t (e ∷ es) = omega (arith, flawed_lengths l c (flawed_next l c t e) es)

-- ---- entries that were due

-- what is due to an actor is due to that of the entry
pub due_to_own : (l : Flaw) (c : Program) (t : Flawed) (a : ℕ) (e : Entry) → due_by l c t a ≡ Progress.Did e → due_by l c t e.actor ≡ Progress.Did e
due_to_own l c t a e d = subst (λ b. due_by l c t b ≡ Progress.Did e) (top (op_at c a (t.state.going a).index) (t.state.going a).stack d) d
  where
    top : (o : Option Op) (stack : List Phase) → due_flawed_top l c t.driver (found l c t) a o (t.state.going a).pages stack ≡ Progress.Did e → a ≡ e.actor
    top None [] k = cc
    top None (x ∷ stack) k = cc
    top (Some o) [] k = cc
    top (Some o) (x ∷ stack) k = progress_own a (as_read l t.driver (due_flawed l c (found l c t) a o (t.state.going a).pages x)) e k

-- entries that are unbroken, and others after them
unbroken_join : (parts : List Part) (l : Flaw) (c : Program) (h : List Entry) (t : Flawed) (es ds : List Entry) → UnbrokenBy parts l c h t es → UnbrokenBy parts l c (h ++ es) (fold (flawed_next l c) t es) ds → UnbrokenBy parts l c h t (es ++ ds)
unbroken_join parts l c h t [] ds u w = subst (λ z. UnbrokenBy parts l c z t ds) (append-nil h) w
unbroken_join parts l c h t (x ∷ es) ds u w = (u.0, u.1, unbroken_join parts l c (h ++ x ∷ []) (flawed_next l c t x) es ds u.2 (subst (λ z. UnbrokenBy parts l c z (fold (flawed_next l c) (flawed_next l c t x) es) ds) (sym (append_assoc h (x ∷ []) es)) w))

-- what turns came to is what their entries lead to, and these are unbroken
pub record Goes (parts : List Part) (l : Flaw) (c : Program) (h : List Entry) (x : Judged) : Type 0 where
  pub unbroken : Unbroken parts l c h x.entries
  pub same : x.flawed ≡ flawed_after l c h x.entries

entry_goes : (parts : List Part) (l : Flaw) (c : Program) (h : List Entry) (x : Judged) (e : Entry) → Goes parts l c h x → due_by l c x.flawed e.actor ≡ Progress.Did e → (o : Option Part) → broken_part parts c (h ++ x.entries) x.flawed.state.going e ≡ o → Goes parts l c h (judged_entry parts l c h x e o)
entry_goes parts l c h x e k d (Some part) b = record { unbroken = k.unbroken; same = k.same }
entry_goes parts l c h x e k d None b = record {
  unbroken = unbroken_join parts l c h (flawed_from (state_of c h)) x.entries (e ∷ []) k.unbroken (subst (λ z. UnbrokenBy parts l c (h ++ x.entries) z (e ∷ [])) k.same (d, b, tt));
  same = ap (λ (z : Flawed). flawed_next l c z e) k.same ∙ sym (fold-append (flawed_next l c) (flawed_from (state_of c h)) x.entries (e ∷ []));
}

turned_goes : (parts : List Part) (l : Flaw) (c : Program) (h : List Entry) (x : Judged) (a : ℕ) → Goes parts l c h x → (p : Progress) → due_by l c x.flawed a ≡ p → Goes parts l c h (judged_turn parts l c h x p)
turned_goes parts l c h x a k (Progress.Did e) d = entry_goes parts l c h x e k (due_to_own l c x.flawed a e d) (broken_part parts c (h ++ x.entries) x.flawed.state.going e) refl
turned_goes parts l c h x a k (Progress.Waiting why) d = k
turned_goes parts l c h x a k Progress.Idle d = k

on_goes : (parts : List Part) (l : Flaw) (c : Program) (h : List Entry) (x : Judged) (a : ℕ) → Goes parts l c h x → (o : Option (Entry × Part)) → Goes parts l c h (judged_on parts l c h o x a)
on_goes parts l c h x a k None = turned_goes parts l c h x a k (due_by l c x.flawed a) refl
on_goes parts l c h x a k (Some y) = k

all_goes : (parts : List Part) (l : Flaw) (c : Program) (h : List Entry) (turns : List ℕ) (x : Judged) → Goes parts l c h x → Goes parts l c h (judged_after parts l c h turns x)
all_goes parts l c h [] x k = k
all_goes parts l c h (a ∷ turns) x k = all_goes parts l c h turns (judged_on parts l c h x.broken x a) (on_goes parts l c h x a k x.broken)

from_goes : (parts : List Part) (l : Flaw) (c : Program) (h : List Entry) → Goes parts l c h (judged_from c h)
from_goes parts l c h = record { unbroken = tt; same = refl }

pub turns_go : (parts : List Part) (l : Flaw) (c : Program) (h : List Entry) (turns : List ℕ) → Goes parts l c h (judged parts l c h turns)
turns_go parts l c h turns = all_goes parts l c h turns (judged_from c h) (from_goes parts l c h)

-- ---- points

abbrev with_marks : Flawed → Marked → FlawPoint
with_marks t m = record { flawed = t; marked = m; broken = None }

-- the state's memory is that of all entries
pub in_step : (parts : List Part) (l : Flaw) (c : Program) (h : List Entry) (x : Judged) → Goes parts l c h x → x.flawed.state.after ≡ after (h ++ x.entries)
in_step parts l c h x k = ap (λ (t : Flawed). t.state.after) k.same ∙ state_after l c h x.entries

entry_same : (parts : List Part) (l : Flaw) (c : Program) (h : List Entry) (x : Judged) (e : Entry) → Goes parts l c h x → (o : Option Part) → point_entry l c (point_of c h x) e o ≡ point_of c h (judged_entry parts l c h x e o)
entry_same parts l c h x e k (Some part) = refl
entry_same parts l c h x e k None = ap (with_marks (flawed_next l c x.flawed e)) (ap (λ (s : After). marked_next c s (marked_of c (h ++ x.entries)) e) (in_step parts l c h x k) ∙ sym (marked_more c h x.entries e))

turned_same : (parts : List Part) (l : Flaw) (c : Program) (h : List Entry) (x : Judged) → Goes parts l c h x → (p : Progress) → point_turned parts l c (point_of c h x) p ≡ point_of c h (judged_turn parts l c h x p)
turned_same parts l c h x k (Progress.Did e) =
    ap (point_entry l c (point_of c h x) e) (broken_same parts c (h ++ x.entries) x.flawed e (in_step parts l c h x k))
    ∙ entry_same parts l c h x e k (broken_part parts c (h ++ x.entries) x.flawed.state.going e)
turned_same parts l c h x k (Progress.Waiting why) = refl
turned_same parts l c h x k Progress.Idle = refl

on_same : (parts : List Part) (l : Flaw) (c : Program) (h : List Entry) (x : Judged) (a : ℕ) → Goes parts l c h x → (o : Option (Entry × Part)) → point_on parts l c (part_in o) (point_of c h x) a ≡ point_of c h (judged_on parts l c h o x a)
on_same parts l c h x a k None = turned_same parts l c h x k (due_by l c x.flawed a)
on_same parts l c h x a k (Some y) = refl

all_same : (parts : List Part) (l : Flaw) (c : Program) (h : List Entry) (turns : List ℕ) (x : Judged) → Goes parts l c h x → fold (point_turn parts l c) (point_of c h x) turns ≡ point_of c h (judged_after parts l c h turns x)
all_same parts l c h [] x k = refl
all_same parts l c h (a ∷ turns) x k =
    ap (λ (y : FlawPoint). fold (point_turn parts l c) y turns) (on_same parts l c h x a k x.broken)
    ∙ all_same parts l c h turns (judged_on parts l c h x.broken x a) (on_goes parts l c h x a k x.broken)

pub turns_are_judged : TurnsAreJudged
turns_are_judged parts l c h turns = ap (λ (y : FlawPoint). fold (point_turn parts l c) y turns) first ∙ all_same parts l c h turns (judged_from c h) (from_goes parts l c h)
  where
    first : point_from c h ≡ point_of c h (judged_from c h)
    first = ap (λ (g : List Entry). with_marks (flawed_from (state_of c h)) (marked_of c g)) (sym (append-nil h))
