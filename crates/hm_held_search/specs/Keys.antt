-- The point that a key stands for, with the holds there.
use Rattle.std.proofs.Common.{◌≡◌, ap}
use Rattle.std.specs.Prelude.{ℕ, ⊤}
use Rattle.hm_flaw_states.specs.Keyed.{form_in, key_number, point_number}
use Rattle.hm_holds.specs.Held.{HeldPoint}
use Rattle.hm_held_search.specs.declared.keys.HeldKey.{HeldKey}

-- the point of the race, and how far the holds are
abbrev pub held_form : HeldKey → HeldPoint
held_form k = record { point = form_in k.race; holds = k.holds.items }

-- the number of a key: that of its point of the race
abbrev pub held_number : HeldKey → ℕ
held_number k = key_number k.race

-- keys of one form have one number
pub same_number : (x y : HeldKey) → ⊤ → ⊤ → held_form x ≡ held_form y → held_number x ≡ held_number y
same_number x y k l e = ap (λ (h : HeldPoint). point_number h.point) e
