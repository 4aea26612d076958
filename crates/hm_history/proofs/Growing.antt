-- Turns and rounds only add to a history.
use Rattle.std.proofs.Common.{◌≡◌, ℕ, zero, suc, ◌<◌, ◌≤◌, ◌⊎◌, inl, inr, Bool, true, false, List, [], ◌∷◌, ◌++◌, length, refl, sym, ap, ◌∙◌, arith, length-append, append_assoc, append-nil}
use Rattle.std.specs.Prelude.{not, ◌&&◌, fold}
use mathlib.Core.List.{IsPrefix}
use Rattle.hm_base.specs.Program.{Program}
use Rattle.hm_base.specs.declared.ops.ScheduleLine.{ScheduleLine}
use Rattle.hm_history.specs.Kernel.Due.{due}
use Rattle.hm_history.specs.Kernel.Run.{enough, has_room, added, is_entry, turn, turns, turns_on, actors_of, round, all_idle, drained, line_run}
use Rattle.hm_history.specs.declared.Entry.{Entry}
use Rattle.hm_history.specs.declared.Progress.{Progress}

-- a history goes on as another: it is the beginning of that
abbrev pub Grows : List Entry → List Entry → Type 0
Grows h g = IsPrefix h g

pub grows_none : (h : List Entry) → Grows h h
grows_none h = ([], append-nil h)

pub grows_both : (h g k : List Entry) → Grows h g → Grows g k → Grows h k
grows_both h g k x y = (x.0 ++ y.0, sym (append_assoc h x.0 y.0) ∙ (ap (λ (l : List Entry). l ++ y.0) x.1 ∙ y.1))

-- it is no shorter; it is the same if it is no longer; else it is longer
pub grows_more : (h g : List Entry) → Grows h g → length h ≤ length g
grows_more h g x = omega (arith, length-append h x.0, ap (λ (l : List Entry). length l) x.1)

pub grows_same : (h g : List Entry) → Grows h g → length g ≡ length h → g ≡ h
grows_same h g x e = by x.0 x.1
  where
    by : (k : List Entry) → h ++ k ≡ g → g ≡ h
    by [] is = sym is ∙ append-nil h
    by (y ∷ k) is = absurd (omega (arith, length-append h (y ∷ k), ap (λ (l : List Entry). length l) is, e))

pub grows_or_same : (h g : List Entry) → Grows h g → (g ≡ h) ⊎ (length h < length g)
grows_or_same h g x = by x.0 x.1
  where
    by : (k : List Entry) → h ++ k ≡ g → (g ≡ h) ⊎ (length h < length g)
    by [] is = inl (sym is ∙ append-nil h)
    by (y ∷ k) is = inr (omega (arith, length-append h (y ∷ k), ap (λ (l : List Entry). length l) is))

pub grows_one : (h : List Entry) (e : Entry) → Grows h (h ++ e ∷ [])
grows_one h e = (e ∷ [], refl)

-- turns, rounds and lines of a schedule
pub grows_either : (b : Bool) (h g : List Entry) → Grows h g → Grows h (elim b [ true ↦ g | false ↦ h ])
grows_either true h g x = x
grows_either false h g x = grows_none h

pub grows_added : (h : List Entry) (p : Progress) → Grows h (added h p)
grows_added h (Progress.Did e) = grows_either (has_room h) h (h ++ e ∷ []) (grows_one h e)
grows_added h (Progress.Waiting why) = grows_none h
grows_added h Progress.Idle = grows_none h

pub grows_on : (c : Program) (h : List Entry) (a n : ℕ) → Grows h (turns_on c h a n)
grows_on c h a zero = grows_none h
grows_on c h a (suc n) =
    grows_either (is_entry (due c h a) && has_room h) h (turns_on c (turn c h a) a n) (grows_both h (turn c h a) (turns_on c (turn c h a) a n) (grows_added h (due c h a)) (grows_on c (turn c h a) a n))

pub grows_all : (c : Program) (as_ : List ℕ) (h : List Entry) → Grows h (fold (λ g a. turns_on c g a enough) h as_)
grows_all c [] h = grows_none h
grows_all c (a ∷ as_) h =
    let g = turns_on c h a enough in
    grows_both h g (fold (λ x b. turns_on c x b enough) g as_) (grows_on c h a enough) (grows_all c as_ g)

pub grows_turns : (c : Program) (h : List Entry) (a n : ℕ) → Grows h (turns c h a n)
grows_turns c h a zero = grows_none h
grows_turns c h a (suc n) = grows_both h (turn c h a) (turns c (turn c h a) a n) (grows_added h (due c h a)) (grows_turns c (turn c h a) a n)

pub grows_drained : (c : Program) (h : List Entry) (n : ℕ) → Grows h (drained c h n)
grows_drained c h zero = grows_none h
grows_drained c h (suc n) =
    grows_either (not (all_idle c h) && has_room h) h (drained c (round c h) n) (grows_both h (round c h) (drained c (round c h) n) (grows_all c (actors_of c) h) (grows_drained c (round c h) n))

pub grows_line : (c : Program) (h : List Entry) (l : ScheduleLine) → Grows h (line_run c h l)
grows_line c h (ScheduleLine.Run a n) = grows_turns c h a n
grows_line c h ScheduleLine.Drain = grows_drained c h enough

pub grows_lines : (c : Program) (ls : List ScheduleLine) (h : List Entry) → Grows h (fold (line_run c) h ls)
grows_lines c [] h = grows_none h
grows_lines c (l ∷ ls) h = grows_both h (line_run c h l) (fold (line_run c) (line_run c h l) ls) (grows_line c h l) (grows_lines c ls (line_run c h l))
