-- Whether a line of a schedule is `drain`.
use Rattle.std.proofs.Common.{◌≡◌, ℕ, zero, suc, ◌+◌, ◌<◌, true, false, List, [], ◌∷◌, ◌++◌, length, get_or, take, refl, sym, ap, ◌∙◌, subst, arith}
use Rattle.std.proofs.lemmas.List.{take_more}
use Rattle.hm_base.specs.declared.ops.ScheduleLine.{ScheduleLine}
use Rattle.hm_script.specs.Built.{has_drain}

pub drain_at : (ls : List ScheduleLine) (i : ℕ) (d : ScheduleLine) → i < length ls → get_or ls i d ≡ ScheduleLine.Drain → has_drain ls ≡ true
drain_at [] i d below e = absurd (omega arith)
drain_at (ScheduleLine.Drain ∷ ls) i d below e = refl
drain_at (ScheduleLine.Run a k ∷ ls) zero d below e = cc
drain_at (ScheduleLine.Run a k ∷ ls) (suc i) d below e = drain_at ls i d (omega (arith, below)) e

none_more : (ls : List ScheduleLine) (a k : ℕ) → has_drain ls ≡ false → has_drain (ls ++ ScheduleLine.Run a k ∷ []) ≡ false
none_more [] a k none = refl
none_more (ScheduleLine.Drain ∷ ls) a k none = cc
none_more (ScheduleLine.Run b n ∷ ls) a k none = none_more ls a k none

pub none_at : (ls : List ScheduleLine) (i : ℕ) (d : ScheduleLine) (a k : ℕ) → i < length ls → get_or ls i d ≡ ScheduleLine.Run a k → has_drain (take i ls) ≡ false → has_drain (take (i + 1) ls) ≡ false
none_at ls i d a k below e none =
    subst (λ (xs : List ScheduleLine). has_drain xs ≡ false) (sym (take_more ls i d below ∙ ap (λ (l : ScheduleLine). take i ls ++ l ∷ []) e)) (none_more (take i ls) a k none)
