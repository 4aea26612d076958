-- Own positions stay distinct.
use Rattle.std.proofs.Common.{refl, ℕ, List, [], ◌∷◌, ◌++◌, length, sym, ap, subst, arith}
use mathlib.Core.Logic.{dite}
use mathlib.Core.List.{IsPrefix}
use native.Mathlib.Decide.{ℕ_discrete}
use Rattle.hm_history.specs.declared.Entry.{Entry}
use Rattle.hm_base.specs.Program.{Program}
use Rattle.hm_history.specs.declared.Progress.{Progress}
use Rattle.hm_history.specs.declared.Progress.TheVariants.{Did, Waiting, Idle}
use Rattle.hm_turns.specs.Stepping.{history_after}
use Rattle.hm_turns.specs.declared.turn.Turn.{Turn}
use Rattle.hm_turns.specs.declared.turn.Turn.TheVariants.{Busy, Stopped, Halted, Did as Answered}
use Rattle.hm_turns.specs.Sights.{Sight, OwnsOnce, GoesOn, TurnsTo, times, own_after}
use Rattle.hm_turns.specs.declared.known.Own.{Own}
use Rattle.hm_turns.proofs.Sums.{prefix_refl, prefix_trans}
use Rattle.hm_turns.proofs.Owned.{times_both, once_here, never_here, there_longer, there_inside, there_more}

pub owns_longer : (own : List Own) (xs ys : List Entry) → IsPrefix xs ys → OwnsOnce own xs → OwnsOnce own ys
owns_longer own xs ys more o = record { once = o.once; there = there_longer xs ys own more o.there }

owns_one_more : (own : List Own) (xs : List Entry) (e : Entry) → OwnsOnce own xs → OwnsOnce (own ++ record { at = length xs; entry = e } ∷ []) (xs ++ e ∷ [])
owns_one_more own xs e o = let n : Own = record { at = length xs; entry = e } in record {
  once = λ x. let sum = times_both x own (n ∷ []) in let a = o.once x in dite (ℕ_discrete n.at x)
      (λ here. let one = once_here n x here in
      dite (ℕ_discrete (times x own) 0) (λ z. omega arith) (λ no. let t = there_inside xs own x o.there (omega arith) in absurd (omega arith)))
      (λ away. let none_here = never_here n x away in omega arith);
  there = there_more xs own e o.there;
}

owns_after : (own : List Own) (h : List Entry) (p : Progress) → OwnsOnce own h → OwnsOnce (own_after own p (length h)) (history_after h p)
owns_after own h (Did e) o = owns_one_more own h e o
owns_after own h (Waiting _) o = o
owns_after own h Idle o = o

module _ (legal : Program → List Entry → Type 0) (due : Program → List Entry → ℕ → Progress) (actor : ℕ) (v : Sight) where
  pub owns_turned : (t : Turn) (w : Sight) → OwnsOnce v.own v.list → TurnsTo legal due actor v t w → OwnsOnce w.own w.list
  owns_turned Busy w o t = subst (λ (z : Sight). OwnsOnce z.own z.list) (sym t.1) o
  owns_turned (Answered p) w o t = let a = t.1 in subst (λ (z : Sight). OwnsOnce z.own z.list) (sym a.pass_is) (owns_after v.own t.0 p (owns_longer v.own v.list t.0 a.shown.later o))
  owns_turned (Stopped e) w o t = subst (λ (z : Sight). OwnsOnce z.own z.list) (sym t.pass_is) (owns_longer v.own v.list w.list t.shown.later o)
  owns_turned Halted w o t = subst (λ (z : Sight). OwnsOnce z.own z.list) (sym t.pass_is) (owns_longer v.own v.list w.list t.shown.later o)

history_later : (h : List Entry) (p : Progress) → IsPrefix h (history_after h p)
history_later h (Did e) = (e ∷ [], refl)
history_later h (Waiting _) = prefix_refl h
history_later h Idle = prefix_refl h

module _ (legal : Program → List Entry → Type 0) (due : Program → List Entry → ℕ → Progress) (actor : ℕ) (v : Sight) where
  pub goes_turned : (t : Turn) (w : Sight) → TurnsTo legal due actor v t w → GoesOn v w
  goes_turned Busy w t = subst (λ (z : Sight). GoesOn v z) (sym t.1) record { desk = refl; shares = refl; later = prefix_refl v.list }
  goes_turned (Answered p) w t = let a = t.1 in subst (λ (z : Sight). GoesOn v z) (sym a.pass_is) record { desk = refl; shares = refl; later = prefix_trans v.list t.0 (history_after t.0 p) a.shown.later (history_later t.0 p) }
  goes_turned (Stopped e) w t = record { desk = ap (λ (z : Sight). z.desk) t.pass_is; shares = ap (λ (z : Sight). z.shares) t.pass_is; later = t.shown.later }
  goes_turned Halted w t = record { desk = ap (λ (z : Sight). z.desk) t.pass_is; shares = ap (λ (z : Sight). z.shares) t.pass_is; later = t.shown.later }
