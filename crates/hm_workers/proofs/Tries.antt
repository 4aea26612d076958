-- What a try of a worker leaves, by the turn's answer.
use Rattle.std.proofs.Common.{◌≡◌, ℕ, inl, inr, List, [], ◌∷◌, length, ap, sym, ◌∙◌, subst, arith, length-append}
use Rattle.hm_base.specs.Program.{Program}
use Rattle.hm_history.specs.declared.Entry.{Entry}
use Rattle.hm_history.specs.declared.Progress.{Progress}
use Rattle.hm_turns.specs.Sights.{Sight, GoesOn, TurnsTo}
use Rattle.hm_turns.specs.Stepping.{is_halted}
use Rattle.hm_turns.specs.declared.turn.Turn.{Turn}
use Rattle.hm_turns.specs.declared.turn.Turn.TheVariants as turn
use Rattle.hm_workers.specs.Working.{Tries, next_of}
use Rattle.hm_workers.specs.declared.workers.AfterTry.{AfterTry}

module _ (legal : Program → List Entry → Type 0) (due : Program → List Entry → ℕ → Progress) (actor : ℕ) (v w : Sight) (goes : GoesOn v w) where
  by_turn : (t : Turn) → TurnsTo legal due actor v t w → Tries due actor v (next_of t) w
  by_turn (turn.Did (Progress.Did e)) x = let a = x.1 in let own = ap (λ (s : Sight). length s.own) a.pass_is in
      let one = length-append v.own (record { at = length x.0; entry = e } ∷ []) in (goes, omega (arith, own, one))
  by_turn (turn.Did (Progress.Waiting why)) x = let a = x.1 in let own = ap (λ (s : Sight). length s.own) a.pass_is in (goes, omega (arith, own))
  by_turn (turn.Did Progress.Idle) x =
      let a = x.1 in
      let list = ap (λ (s : Sight). s.list) a.pass_is in
      let script = ap (λ (s : Sight). s.desk.script) a.pass_is in
      (goes, inl (ap (λ (s : Program). due s w.list actor) script ∙ (ap (λ (l : List Entry). due v.desk.script l actor) list ∙ sym a.due_is)))
  by_turn turn.Busy x = let own = ap (λ (s : Sight). length s.own) x.1 in (goes, omega (arith, own))
  by_turn (turn.Stopped e) x = (goes, inr (ap (λ (s : Sight). is_halted s.told) x.pass_is))
  by_turn turn.Halted x = (goes, inr x.halted)

  pub tries : (t : Turn) (next : AfterTry) → TurnsTo legal due actor v t w → next ≡ next_of t → Tries due actor v next w
  tries t next x is = subst (λ (n : AfterTry). Tries due actor v n w) (sym is) (by_turn t x)
