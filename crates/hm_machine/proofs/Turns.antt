-- A machine that makes turns of one actor: it has gone on from s to t, and u comes of a turn.
use Rattle.std.proofs.Common.{◌≡◌, ℕ, suc, Bool, true, false, List, length, refl, sym, ap, ◌∙◌, subst}
use Rattle.std.specs.Prelude.{Ok, Err, ◌||◌}
use mathlib.Core.List.{IsPrefix}
use Rattle.hm_turns.proofs.Sums.{prefix_trans}
use Rattle.hm_history.specs.Kernel.Due.{due}
use Rattle.hm_history.specs.Kernel.Run.{turn, turns}
use Rattle.hm_history.specs.declared.Entry.{Entry}
use Rattle.hm_history.specs.declared.StepError.{StepError}
use Rattle.hm_world.specs.WorldValue.{WorldValue, halted_by}
use Rattle.hm_history.specs.Kernel.Overrun.{overruns_turn, overruns_turns}
use Rattle.hm_machine.specs.Turning.{Adds, CameTo, with_history}
use Rattle.hm_machine.proofs.Short.{short_here, short_of}
use Rattle.hm_machine.proofs.Fullness.{full_turns, quiet_turn, quiet_within, still_turns}
use Rattle.hm_history.proofs.Growing.{grows_added, grows_turns}

pub or_true : (x y : Bool) → x ≡ true → (x || y) ≡ true
or_true x y e = ap (λ z. z || y) e

pub or_false : (x y : Bool) → x ≡ false → (x || y) ≡ y
or_false x y e = ap (λ z. z || y) e

-- so many turns of the actor are left, which come to this history, and beyond a full one or not
pub record Left (s t : WorldValue) (a n : ℕ) (h : List Entry) (b : Bool) : Type 0 where
  pub same : t ≡ with_history s t.history
  pub left : turns s.script t.history a n ≡ h
  pub beyond : overruns_turns s.script t.history a n ≡ b
  pub later : IsPrefix s.history t.history

-- an error ends the turns, of which none that is left adds an entry
pub turns_fail : (s t u : WorldValue) (a n k : ℕ) (e : StepError) (h : List Entry) (b : Bool) → n ≡ suc k → Left s t a n h b → Adds t a (Err e) u → CameTo s h b (Err e) u
turns_fail s t u a n k e h b less before adds = by t.history e before.left before.beyond before.later (subst (λ x. Adds x a (Err e) u) before.same adds)
  where
    by : (g : List Entry) (e : StepError) → turns s.script g a n ≡ h → overruns_turns s.script g a n ≡ b → IsPrefix s.history g → Adds (with_history s g) a (Err e) u → CameTo s h b (Err e) u
    by g (StepError.Full m) left beyond later adds =
        let here : g ≡ h = sym (full_turns s.script g a n adds.1) ∙ left in
        let over : overruns_turns s.script g a (suc k) ≡ true = or_true (overruns_turn s.script g a) _ adds.2 in
        (adds.0, sym (ap length here) ∙ adds.1, adds.3 ∙ ap (λ x. halted_by (with_history s x) (StepError.Full m)) here, sym beyond ∙ ap (overruns_turns s.script g a) less ∙ over)
    by g StepError.NoMemory left beyond later adds =
        short_of s (with_history s g) u g h refl later (short_here (with_history s g) u adds) (subst (IsPrefix g) left (grows_turns s.script g a n))

-- so does a turn that adds none
pub turns_rest : (s t u : WorldValue) (a n : ℕ) (h : List Entry) (b : Bool) → Left s t a n h b → Adds t a (Ok false) u → (u ≡ with_history s h) × (b ≡ false)
turns_rest s t u a n h b before adds = by t.history before.left before.beyond (subst (λ x. Adds x a (Ok false) u) before.same adds)
  where
    by : (g : List Entry) → turns s.script g a n ≡ h → overruns_turns s.script g a n ≡ b → Adds (with_history s g) a (Ok false) u → (u ≡ with_history s h) × (b ≡ false)
    by g left beyond adds =
        let quiet = adds.2 refl in
        let still = quiet_turn s.script g a quiet in
        (adds.0 ∙ ap (with_history s) (still ∙ sym (still_turns s.script g a n still) ∙ left), sym beyond ∙ quiet_within s.script g a n quiet)

-- else a turn less is left
pub turns_go : (s t u : WorldValue) (a n k : ℕ) (more : Bool) (h : List Entry) (b : Bool) → n ≡ suc k → Left s t a n h b → Adds t a (Ok more) u → Left s u a k h b
turns_go s t u a n k more h b less before adds = by t.history before.left before.beyond before.later (subst (λ x. Adds x a (Ok more) u) before.same adds)
  where
    by : (g : List Entry) → turns s.script g a n ≡ h → overruns_turns s.script g a n ≡ b → IsPrefix s.history g → Adds (with_history s g) a (Ok more) u → Left s u a k h b
    by g left beyond later adds =
        let now : u.history ≡ turn s.script g a = ap (λ x. x.history) adds.0 in
        let rest = or_false (overruns_turn s.script g a) (overruns_turns s.script (turn s.script g a) a k) adds.1 in
        record {
          same = adds.0 ∙ ap (with_history s) (sym now);
          left = ap (λ x. turns s.script x a k) now ∙ sym (ap (turns s.script g a) less) ∙ left;
          beyond = ap (λ x. overruns_turns s.script x a k) now ∙ sym rest ∙ sym (ap (overruns_turns s.script g a) less) ∙ beyond;
          later = subst (IsPrefix s.history) (sym now) (prefix_trans s.history g (turn s.script g a) later (grows_added g (due s.script g a)));
        }
