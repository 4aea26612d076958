-- Rounds of turns: one that changes nothing is followed by none that does, as where all are idle or the history is full.
use Rattle.std.proofs.Common.{◌≡◌, ℕ, zero, suc, ◌+◌, ◌-◌, ◌<◌, ◌≤◌, Bool, true, false, ltb, Some, List, [], ◌∷◌, ◌++◌, length, drop, refl, sym, ap, ◌∙◌, arith}
use Rattle.std.specs.Prelude.{not, ◌&&◌, fold, slice_get}
use Rattle.std.specs.List.{list_all}
use Rattle.std.proofs.lemmas.Bool.Decides.{nat_tests}
use Rattle.std.proofs.lemmas.List.{drop_all}
use Rattle.hm_base.specs.Program.{Program}
use Rattle.hm_base.specs.declared.ops.ScheduleLine.{ScheduleLine}
use Rattle.hm_history.specs.Kernel.Due.{due}
use Rattle.hm_history.specs.Kernel.Run.{enough, has_room, added, is_entry, is_idle, turn, turns_on, actors_of, round, all_idle, drained, line_run}
use Rattle.hm_history.specs.Memory.Words.{numbers}
use Rattle.hm_history.specs.declared.Entry.{Entry}
use Rattle.hm_history.specs.declared.Progress.{Progress}
use Rattle.hm_machine.proofs.Fullness.{full_turns, quiet_turn}
use Rattle.std.proofs.Math.Bool.{and-false}
use Rattle.std.proofs.lemmas.Bool.{and_parts}
use Rattle.hm_history.proofs.Numbers.{number_count}
use Rattle.hm_history.proofs.RunLemmas.{idle_quiet, turns_stop}
use Rattle.hm_history.proofs.Growing.{grows_all, grows_same}

-- as many turns and rounds as are made at most
pub enough_left : (i : ℕ) → i < 2000000 → enough - i ≡ suc (enough - (i + 1))
unfolding enough
enough_left i few = omega arith

pub none_left : (i : ℕ) → 2000000 ≤ i → enough - i ≡ 0
unfolding enough
none_left i many = omega arith

pub has_none : (h : List Entry) → length h ≡ 2000000 → has_room h ≡ false
has_none h full = let high : ltb (length h) 2000000 ≡ false = grind (arith, nat_tests) in high

pub added_none : (h : List Entry) (p : Progress) → has_room h ≡ false → added h p ≡ h
added_none h (Progress.Did e) full = ap (λ b. elim b [ true ↦ h ++ e ∷ [] | false ↦ h ]) full
added_none h (Progress.Waiting why) full = refl
added_none h Progress.Idle full = refl

-- an actor's turns where there is no room, and where none is due
pub on_full : (c : Program) (h : List Entry) (a n : ℕ) → has_room h ≡ false → turns_on c h a n ≡ h
on_full c h a zero full = refl
on_full c h a (suc n) full =
    ap (λ b. elim (is_entry (due c h a) && b) [ true ↦ turns_on c (turn c h a) a n | false ↦ h ]) full ∙ ap (λ b. elim b [ true ↦ turns_on c (turn c h a) a n | false ↦ h ]) (and-false (is_entry (due c h a)))

-- where there is room, a turn and the rest of them
pub on_next : (c : Program) (h : List Entry) (a n : ℕ) → has_room h ≡ true → turns_on c h a (suc n) ≡ turns_on c (turn c h a) a n
on_next c h a n room = by (is_entry (due c h a)) refl
  where
    by : (b : Bool) → is_entry (due c h a) ≡ b → turns_on c h a (suc n) ≡ turns_on c (turn c h a) a n
    by true e = ap (λ b. elim (b && has_room h) [ true ↦ turns_on c (turn c h a) a n | false ↦ h ]) e ∙ ap (λ b. elim b [ true ↦ turns_on c (turn c h a) a n | false ↦ h ]) room
    by false e = turns_stop c h a (suc n) e ∙ sym (ap (λ g. turns_on c g a n) (quiet_turn c h a e) ∙ turns_stop c h a n e)

pub still_round : (c : Program) (h : List Entry) → length (round c h) ≡ length h → round c h ≡ h
still_round c h e = grows_same h (round c h) (grows_all c (actors_of c) h) e

-- rounds at which nothing is added
full_all : (c : Program) (as_ : List ℕ) (h : List Entry) → has_room h ≡ false → fold (λ g a. turns_on c g a enough) h as_ ≡ h
full_all c [] h full = refl
full_all c (a ∷ as_) h full = ap (λ g. fold (λ x b. turns_on c x b enough) g as_) (on_full c h a enough full) ∙ full_all c as_ h full

idle_all : (c : Program) (as_ : List ℕ) (h : List Entry) → list_all (λ a. is_idle (due c h a)) as_ ≡ true → fold (λ g a. turns_on c g a enough) h as_ ≡ h
idle_all c [] h idle = refl
idle_all c (a ∷ as_) h idle =
    let parts = and_parts (is_idle (due c h a)) (list_all (λ b. is_idle (due c h b)) as_) idle in
    ap (λ g. fold (λ x b. turns_on c x b enough) g as_) (turns_stop c h a enough (idle_quiet (due c h a) parts.0)) ∙ idle_all c as_ h parts.1

by_either : (b : Bool) (g h : List Entry) → g ≡ h → elim b [ true ↦ g | false ↦ h ] ≡ h
by_either true g h e = e
by_either false g h e = refl

pub drained_still : (c : Program) (h : List Entry) (n : ℕ) → round c h ≡ h → drained c h n ≡ h
drained_still c h zero still = refl
drained_still c h (suc n) still = by_either (not (all_idle c h) && has_room h) (drained c (round c h) n) h (ap (λ g. drained c g n) still ∙ drained_still c h n still)

-- a round and the rest of them, whether or not one is wanted
pub drained_next : (c : Program) (h : List Entry) (n : ℕ) → drained c h (suc n) ≡ drained c (round c h) n
drained_next c h n = by (all_idle c h) (has_room h) refl refl
  where
    rest : round c h ≡ h → drained c h (suc n) ≡ drained c (round c h) n
    rest still = drained_still c h (suc n) still ∙ sym (ap (λ g. drained c g n) still ∙ drained_still c h n still)

    by : (x y : Bool) → all_idle c h ≡ x → has_room h ≡ y → drained c h (suc n) ≡ drained c (round c h) n
    by true y idle room = rest (idle_all c (actors_of c) h idle)
    by false false idle full = rest (full_all c (actors_of c) h full)
    by false true busy room =
        ap (λ b. elim (not b && has_room h) [ true ↦ drained c (round c h) n | false ↦ h ]) busy ∙ ap (λ b. elim b [ true ↦ drained c (round c h) n | false ↦ h ]) room

-- a full history stays as it is at each line
pub full_lines : (c : Program) (ls : List ScheduleLine) (h : List Entry) → length h ≡ 2000000 → fold (line_run c) h ls ≡ h
full_lines c [] h full = refl
full_lines c (ScheduleLine.Run a n ∷ ls) h full = ap (λ g. fold (line_run c) g ls) (full_turns c h a n full) ∙ full_lines c ls h full
full_lines c (ScheduleLine.Drain ∷ ls) h full =
    ap (λ g. fold (line_run c) g ls) (drained_still c h enough (full_all c (actors_of c) h (has_none h full))) ∙ full_lines c ls h full

-- the actors' numbers
number_at : (from n i : ℕ) → i < n → slice_get (numbers from n) i ≡ Some (from + i)
number_at from zero i few = absurd (omega arith)
number_at from (suc n) zero few = let e : from ≡ from + 0 = omega arith in ap Some e
number_at from (suc n) (suc i) few = let less : i < n = omega arith in let e : from + 1 + i ≡ from + suc i = omega arith in number_at (from + 1) n i less ∙ ap Some e

pub actor_at : (c : Program) (i : ℕ) → i < length c.actors → slice_get (actors_of c) i ≡ Some i
actor_at c i few = let e : 0 + i ≡ i = omega arith in number_at 0 (length c.actors) i few ∙ ap Some e

pub no_actor : (c : Program) (i : ℕ) → length c.actors ≤ i → drop i (actors_of c) ≡ []
no_actor c i many = let e = number_count 0 (length c.actors) in drop_all i (actors_of c) (omega arith)
