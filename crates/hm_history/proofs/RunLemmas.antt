-- A run adds what is due.
use Rattle.std.proofs.Common.{◌≡◌, ℕ, zero, suc, ◌<◌, Bool, true, false, Option, None, Some, List, [], ◌∷◌, ◌++◌, length, get_or, take, refl, sym, ap, subst, append_assoc, append-nil, fold, arith}
use Rattle.std.specs.Prelude.{◌&&◌}
use Rattle.std.proofs.lemmas.Bool.Decides.{nat_tests}
use Rattle.hm_base.specs.Program.{Program}
use Rattle.hm_base.specs.declared.ops.Op.{Op}
use Rattle.hm_base.specs.declared.ops.ScheduleLine.{ScheduleLine}
use Rattle.hm_history.specs.Memory.After.{After}
use Rattle.hm_history.specs.Kernel.Going.{state_of}
use Rattle.hm_history.specs.Kernel.Due.{due, due_top, due_phase, progress}
use Rattle.hm_history.specs.Kernel.Run.{enough, has_room, added, is_entry, is_idle, turn, turns, turns_on, actors_of, round, drained, line_run}
use Rattle.hm_history.specs.Laws.{DueFrom, RunsAreDue}
use Rattle.hm_history.specs.Kernel.Legal.{LegalFrom}
use Rattle.hm_history.specs.declared.Entry.{Entry}
use Rattle.hm_history.specs.declared.Progress.{Progress}
use Rattle.hm_history.specs.declared.phases.Migrating.{Migrating}
use Rattle.hm_history.specs.declared.phases.Phase.{Phase}
use Rattle.hm_history.specs.declared.phases.Next.{Next}
use Rattle.hm_history.specs.declared.phases.Next.TheVariants.{Do, Wait}

-- what is due to an actor is an entry of its own
pub progress_own : (a : ℕ) (n : Next) (e : Entry) → progress a n ≡ Progress.Did e → a ≡ e.actor
progress_own a (Do k) e p = cc
progress_own a (Wait w) e p = cc

pub due_top_own : (c : Program) (s : After) (a : ℕ) (o : Option Op) (xs : List Migrating) (st : List Phase) (e : Entry) → due_top c s a o xs st ≡ Progress.Did e → a ≡ e.actor
due_top_own c s a (Some o) xs (top ∷ below) e p = progress_own a (due_phase c s a o xs top) e p
due_top_own c s a (Some o) xs [] e p = cc
due_top_own c s a None xs st e p = cc

pub due_own : (c : Program) (h : List Entry) (a : ℕ) (e : Entry) → due c h a ≡ Progress.Did e → due c h e.actor ≡ Progress.Did e
due_own c h a e p = subst (λ b. due c h b ≡ Progress.Did e) (due_top_own c (state_of c h).after a _ _ _ e p) p

pub DueFrom-append : (c : Program) (g h : List Entry) (e : Entry) → DueFrom c g h → due c (g ++ h) e.actor ≡ Progress.Did e → DueFrom c g (h ++ e ∷ [])
DueFrom-append c g [] e d p = (rw append-nil at p, tt)
DueFrom-append c g (x ∷ h) e d p = (d.0, DueFrom-append c (g ++ x ∷ []) h e d.1 (subst (λ l. due c l e.actor ≡ Progress.Did e) (sym (append_assoc g (x ∷ []) h)) p))

-- entries that were due, and then others
pub DueFrom-join : (c : Program) (g h es : List Entry) → DueFrom c g h → DueFrom c (g ++ h) es → DueFrom c g (h ++ es)
DueFrom-join c g [] es d after = subst (λ l. DueFrom c l es) (append-nil g) after
DueFrom-join c g (x ∷ h) es d after = (d.0, DueFrom-join c (g ++ x ∷ []) h es d.1 (subst (λ l. DueFrom c l es) (sym (append_assoc g (x ∷ []) h)) after))

-- the entry at a position was due there
pub due_at : (c : Program) (g h : List Entry) (i : ℕ) (d : Entry) → i < length h → DueFrom c g h → due c (g ++ take i h) (get_or h i d).actor ≡ Progress.Did (get_or h i d)
due_at c g [] i d below l = absurd (omega (arith, below))
due_at c g (e ∷ h) zero d below l = subst (λ (y : List Entry). due c y e.actor ≡ Progress.Did e) (sym (append-nil g)) l.0
due_at c g (e ∷ h) (suc i) d below l =
    subst (λ (y : List Entry). due c y (get_or h i d).actor ≡ Progress.Did (get_or h i d)) (append_assoc g (e ∷ []) (take i h))
    (due_at c (g ++ e ∷ []) h i d (omega (arith, below)) l.1)

-- a history that is not too long has room
pub has_room_below : (h : List Entry) → length h < 2000000 → has_room h ≡ true
has_room_below h l = grind (arith, nat_tests)

-- an actor with nothing left to do has no entry
pub idle_quiet : (p : Progress) → is_idle p ≡ true → is_entry p ≡ false
idle_quiet (Progress.Did e) idle = cc
idle_quiet (Progress.Waiting why) idle = refl
idle_quiet Progress.Idle idle = refl

-- turns of an actor to whom no entry is due add none
pub turns_stop : (c : Program) (h : List Entry) (a n : ℕ) → is_entry (due c h a) ≡ false → turns_on c h a n ≡ h
turns_stop c h a zero quiet = refl
turns_stop c h a (suc n) quiet = ap (λ b. elim (b && has_room h) [ true ↦ turns_on c (turn c h a) a n | false ↦ h ]) quiet

pub added_due : (c : Program) (h : List Entry) (a : ℕ) (n : Progress) → due c h a ≡ n → DueFrom c [] h → DueFrom c [] (added h n)
added_due c h a (Progress.Did e) p d =
    elim (has_room h) as (λ b. DueFrom c [] (elim b [ true ↦ h ++ e ∷ [] | false ↦ h ])) [
      | true ↦ DueFrom-append c [] h e d (due_own c h a e p)
      | false ↦ d
    ]
added_due c h a (Progress.Waiting w) p d = d
added_due c h a Progress.Idle p d = d

pub turn_due : (c : Program) (h : List Entry) (a : ℕ) → DueFrom c [] h → DueFrom c [] (turn c h a)
turn_due c h a d = added_due c h a (due c h a) refl d

pub turns_due : (c : Program) (h : List Entry) (a n : ℕ) → DueFrom c [] h → DueFrom c [] (turns c h a n)
turns_due c h a zero d = d
turns_due c h a (suc n) d = turns_due c (turn c h a) a n (turn_due c h a d)

pub either_due : (c : Program) (b : Bool) (g h : List Entry) → DueFrom c [] g → DueFrom c [] h → DueFrom c [] (elim b [ true ↦ g | false ↦ h ])
either_due c true g h p q = p
either_due c false g h p q = q

pub turns_on_due : (c : Program) (h : List Entry) (a n : ℕ) → DueFrom c [] h → DueFrom c [] (turns_on c h a n)
turns_on_due c h a zero d = d
turns_on_due c h a (suc n) d = either_due c _ _ _ (turns_on_due c (turn c h a) a n (turn_due c h a d)) d

pub round_from_due : (c : Program) (as_ : List ℕ) (h : List Entry) → DueFrom c [] h → DueFrom c [] (fold (λ g a. turns_on c g a enough) h as_)
round_from_due c [] h d = d
round_from_due c (a ∷ as_) h d = round_from_due c as_ (turns_on c h a enough) (turns_on_due c h a enough d)

pub drained_due : (c : Program) (h : List Entry) (n : ℕ) → DueFrom c [] h → DueFrom c [] (drained c h n)
drained_due c h zero d = d
drained_due c h (suc n) d = either_due c _ _ _ (drained_due c (round c h) n (round_from_due c (actors_of c) h d)) d

pub line_due : (c : Program) (h : List Entry) (l : ScheduleLine) → DueFrom c [] h → DueFrom c [] (line_run c h l)
line_due c h (ScheduleLine.Run a n) d = turns_due c h a n d
line_due c h ScheduleLine.Drain d = drained_due c h enough d

pub lines_due : (c : Program) (ls : List ScheduleLine) (h : List Entry) → DueFrom c [] h → DueFrom c [] (fold (line_run c) h ls)
lines_due c [] h d = d
lines_due c (l ∷ ls) h d = lines_due c ls (line_run c h l) (line_due c h l d)

pub runs_due : RunsAreDue
runs_due c = lines_due c c.schedule [] tt

-- each entry of a legal history was due
pub legal_due : (c : Program) (h es : List Entry) → LegalFrom c h es → DueFrom c h es
legal_due c h [] l = l
legal_due c h (e ∷ es) l = (l.0.is_due, legal_due c (h ++ e ∷ []) es l.1)
