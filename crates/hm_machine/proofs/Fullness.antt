-- A full history takes no further entry, and a turn that adds none is followed by none that does.
use Rattle.std.proofs.Common.{◌≡◌, ℕ, zero, suc, ◌<◌, true, false, ltb, List, [], ◌∷◌, ◌++◌, length, refl, ap, ◌∙◌, arith}
use Rattle.std.proofs.lemmas.Bool.Decides.{nat_tests}
use Rattle.hm_base.specs.Program.{Program}
use Rattle.hm_history.specs.Kernel.Due.{due}
use Rattle.hm_history.specs.Kernel.Run.{added, is_entry, turn, turns}
use Rattle.hm_history.specs.declared.Entry.{Entry}
use Rattle.hm_history.specs.declared.Progress.{Progress}
use Rattle.hm_history.specs.Kernel.Overrun.{overruns_turns}

pub with_room : (h : List Entry) (e : Entry) → length h < 2000000 → added h (Progress.Did e) ≡ h ++ e ∷ []
with_room h e room =
    let low : ltb (length h) 2000000 ≡ true = grind (arith, nat_tests) in
    ap (λ b. elim b [ true ↦ h ++ e ∷ [] | false ↦ h ]) low

full_added : (h : List Entry) (p : Progress) → length h ≡ 2000000 → added h p ≡ h
full_added h (Progress.Did e) full =
    let high : ltb (length h) 2000000 ≡ false = grind (arith, nat_tests) in
    ap (λ b. elim b [ true ↦ h ++ e ∷ [] | false ↦ h ]) high
full_added h (Progress.Waiting why) full = refl
full_added h Progress.Idle full = refl

-- turns that change nothing
pub still_turns : (c : Program) (h : List Entry) (a n : ℕ) → turn c h a ≡ h → turns c h a n ≡ h
still_turns c h a zero same = refl
still_turns c h a (suc n) same = ap (λ g. turns c g a n) same ∙ still_turns c h a n same

pub full_turns : (c : Program) (h : List Entry) (a n : ℕ) → length h ≡ 2000000 → turns c h a n ≡ h
full_turns c h a n full = still_turns c h a n (full_added h (due c h a) full)

quiet_added : (h : List Entry) (p : Progress) → is_entry p ≡ false → added h p ≡ h
quiet_added h (Progress.Did e) quiet = cc
quiet_added h (Progress.Waiting why) quiet = refl
quiet_added h Progress.Idle quiet = refl

-- after a wait, or at the end, no turn of the actor adds an entry
pub quiet_turn : (c : Program) (h : List Entry) (a : ℕ) → is_entry (due c h a) ≡ false → turn c h a ≡ h
quiet_turn c h a quiet = quiet_added h (due c h a) quiet

-- whether they would go beyond a full history
pub quiet_within : (c : Program) (h : List Entry) (a n : ℕ) → is_entry (due c h a) ≡ false → overruns_turns c h a n ≡ false
quiet_within c h a zero quiet = refl
quiet_within c h a (suc n) quiet = rw quiet (ap (λ g. overruns_turns c g a n) (quiet_turn c h a quiet) ∙ quiet_within c h a n quiet)
