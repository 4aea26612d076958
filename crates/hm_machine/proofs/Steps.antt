-- A turn, by what was due.
use Rattle.std.proofs.Common.{◌≡◌, ℕ, ◌<◌, true, false, ltb, None, List, length, refl, sym, ap, ◌∙◌, subst, arith}
use Rattle.std.specs.Prelude.{Result, Ok, Err, not}
use Rattle.std.proofs.lemmas.Bool.Decides.{nat_tests}
use Rattle.hm_history.specs.Kernel.Due.{due}
use Rattle.hm_history.specs.Kernel.Run.{has_room}
use Rattle.hm_history.specs.declared.Entry.{Entry}
use Rattle.hm_history.specs.declared.Progress.{Progress}
use Rattle.hm_history.specs.declared.StepError.{StepError}
use Rattle.hm_history.specs.declared.Why.{Why}
use Rattle.hm_world.specs.WorldValue.{WorldValue}
use Rattle.hm_machine.specs.declared.Turn.{Turn}
use Rattle.hm_machine.specs.Turning.{TurnsTo, TurnsFrom, Turned, AddsTo, Adds, with_history}
use Rattle.hm_machine.proofs.Fullness.{with_room}

-- a machine that goes on
goes_on : (t u : WorldValue) (a : ℕ) (r : Result Turn StepError) → t.halted ≡ None → Turned t a r u → TurnsTo t (due t.script t.history a) r u
goes_on t u a r none turned = subst (λ x. TurnsFrom x t (due t.script t.history a) r u) none turned

no_room : (h : List Entry) → length h ≡ 2000000 → not (has_room h) ≡ true
no_room h full = let high : ltb (length h) 2000000 ≡ false = grind (arith, nat_tests) in ap not high

some_room : (h : List Entry) → length h < 2000000 → not (has_room h) ≡ false
some_room h few = let low : ltb (length h) 2000000 ≡ true = grind (arith, nat_tests) in ap not low

pub did : (t u : WorldValue) (a : ℕ) → t.halted ≡ None → Turned t a (Ok Turn.Did) u → Adds t a (Ok true) u
did t u a none turned = by (due t.script t.history a) (goes_on t u a (Ok Turn.Did) none turned)
  where
    by : (p : Progress) → TurnsTo t p (Ok Turn.Did) u → AddsTo t p (Ok true) u
    by (Progress.Did e) h = (h.0 ∙ ap (with_history t) (sym (with_room t.history e h.1)), some_room t.history h.1, λ x. absurd (never x))
      where
        never : true ≡ false → ⊥
        never x = cc
    by (Progress.Waiting why) h = absurd h
    by Progress.Idle h = absurd h

pub waited : (t u : WorldValue) (a : ℕ) (w : Why) → t.halted ≡ None → Turned t a (Ok (Turn.Waiting w)) u → Adds t a (Ok false) u
waited t u a w none turned = by (due t.script t.history a) (goes_on t u a (Ok (Turn.Waiting w)) none turned)
  where
    by : (p : Progress) → TurnsTo t p (Ok (Turn.Waiting w)) u → AddsTo t p (Ok false) u
    by (Progress.Did e) h = absurd h
    by (Progress.Waiting why) h = (h.1, refl, λ x. refl)
    by Progress.Idle h = absurd h

pub idled : (t u : WorldValue) (a : ℕ) → t.halted ≡ None → Turned t a (Ok Turn.Idle) u → Adds t a (Ok false) u
idled t u a none turned = by (due t.script t.history a) (goes_on t u a (Ok Turn.Idle) none turned)
  where
    by : (p : Progress) → TurnsTo t p (Ok Turn.Idle) u → AddsTo t p (Ok false) u
    by (Progress.Did e) h = absurd h
    by (Progress.Waiting why) h = absurd h
    by Progress.Idle h = (h, refl, λ x. refl)

-- an error adds nothing
pub failed : (t u : WorldValue) (a : ℕ) (e : StepError) → t.halted ≡ None → Turned t a (Err e) u → Adds t a (Err e) u
failed t u a e none turned = by (due t.script t.history a) e (goes_on t u a (Err e) none turned)
  where
    by : (p : Progress) (e : StepError) → TurnsTo t p (Err e) u → AddsTo t p (Err e) u
    by (Progress.Did x) (StepError.Full n) h = (h.0, h.1, no_room t.history h.1, h.2)
    by (Progress.Waiting why) (StepError.Full n) h = absurd h
    by Progress.Idle (StepError.Full n) h = absurd h
    by (Progress.Did x) StepError.NoMemory h = h
    by (Progress.Waiting why) StepError.NoMemory h = h
    by Progress.Idle StepError.NoMemory h = h
