-- A frame that was unlocked and locked again.
use Rattle.std.proofs.Common.{◌≡◌, ℕ, ◌<◌, ◌≤◌, Option, Some, None, Result, Ok, Err, List, length, get_or, set, ap, ◌∙◌, ◌⊎◌, inl, inr, arith}
use Rattle.std.specs.Result.{MatchResult}
use Rattle.std.proofs.lemmas.Bool.{cases_lt}
use Rattle.std.proofs.lemmas.List.{get_or-set_same, get_or_past, length-set, set-set}
use Rattle.frame_pool.specs.Frames.{Frames, locker, locked, unlocked}
use Rattle.frame_pool.specs.declared.pool.Held.{Held}

nobody : (f : Frames) (n : ℕ) → locker (unlocked f n) n ≡ None
nobody f n = by (cases_lt n (length f.locks))
  where
    by : (n < length f.locks) ⊎ (length f.locks ≤ n) → get_or (set f.locks n None) n None ≡ None
    by (inl l) = get_or-set_same f.locks n None None l
    by (inr l) = get_or_past (set f.locks n None) n None (omega (arith, length-set {A = Option ℕ} f.locks n None))

pub locked_after : {A : Type 0} (f g h : Frames) (n a : ℕ) (r : Result A Held) → g ≡ unlocked f n → MatchResult r (λ x. (locker g n ≡ None) × (h ≡ locked g n a)) (λ e. (locker g n ≡ Some e.0) × (h ≡ g)) → h ≡ locked f n a
locked_after f g h n a (Ok x) e m = m.1 ∙ ap (λ (k : Frames). locked k n a) e ∙ ap (λ (ls : List (Option ℕ)). record f { locks = ls }) (set-set f.locks n None (Some a))
locked_after f g h n a (Err k) e m = cc (m.0, nobody f n, ap (λ (z : Frames). locker z n) e)
