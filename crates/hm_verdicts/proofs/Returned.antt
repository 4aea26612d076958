-- Callbacks that return one after the other: each is what it would be if all returned at once.
use Rattle.std.proofs.Common.{refl, ap}
use Rattle.std.specs.Prelude.{◌≡◌, ℕ, Bool, true, false, ◌&&◌, ◌==◌, if◌then◌else◌, List}
use Rattle.std.specs.List.{list_any}
use Rattle.hm_protocol.specs.Known.{Call, Move, is_current}
use Rattle.hm_verdicts.specs.Changes.{returned_in, returned_by, is_placing}
use Rattle.hm_verdicts.proofs.Mapping.{mapped_to, counted_same}

-- it was given that sequence in that mirror
abbrev pub is_given : ℕ → ℕ → Call → Bool
is_given m q y = (y.mirror == m) && (y.seq == q)

-- a return changes nothing of that
pub given_stays : (i q : ℕ) (cs : List Call) (ys : List Move) (t m n z : ℕ) (x : Call)
    → is_given n z (returned_in i q cs ys t m x) ≡ is_given n z x
given_stays i q cs ys t m n z x = by_bool (is_current t m x) _ _
  where
    by_bool : (b alone placing : Bool) → is_given n z (if b then returned_by i q alone placing x else x) ≡ is_given n z x
    by_bool true a p = refl
    by_bool false a p = refl

-- so a callback returns alike after others have
pub returns_alike : (i q : ℕ) (cs : List Call) (ys : List Move) (t m n : ℕ) (x : Call)
    → returned_in i q (mapped_to (returned_in i q cs ys t m) n cs) ys t m x ≡ returned_in i q cs ys t m x
returns_alike i q cs ys t m n x =
    ap (λ k. if is_current t m x then returned_by i q (k == 1) (list_any (is_placing x.span) ys) x else x)
    (counted_same (is_given m x.seq) (returned_in i q cs ys t m) (given_stays i q cs ys t m m x.seq) n cs)
