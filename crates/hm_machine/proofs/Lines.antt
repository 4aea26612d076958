-- A machine that runs the lines of a schedule: it has gone on from s to t, and u comes of the line at position i.
use Rattle.std.proofs.Common.{◌≡◌, ℕ, add-one, zero, suc, ◌+◌, drop, Bool, Some, List, [], ◌∷◌, length, refl, sym, ap, ◌∙◌, subst}
use Rattle.std.specs.Prelude.{Ok, Err, slice_get, fold, ⊤}
use Rattle.hm_base.specs.declared.ops.ScheduleLine.{ScheduleLine}
use mathlib.Core.List.{IsPrefix}
use Rattle.hm_turns.proofs.Sums.{prefix_trans}
use Rattle.hm_history.specs.Kernel.Run.{line_run}
use Rattle.hm_history.specs.declared.Entry.{Entry}
use Rattle.hm_history.specs.declared.StepError.{StepError}
use Rattle.hm_world.specs.WorldValue.{WorldValue, halted_by}
use Rattle.hm_history.specs.Kernel.Overrun.{overruns_line, overruns_lines}
use Rattle.hm_machine.specs.Turning.{CameTo, with_history}
use Rattle.hm_machine.proofs.Rounds.{full_lines}
use Rattle.hm_machine.proofs.Short.{short_of}
use Rattle.hm_machine.proofs.Turns.{or_true, or_false}
use Rattle.hm_history.proofs.Growing.{grows_line, grows_lines}

-- the lines from a position on are that line and those after it
split_at : {X : Type 0} (xs : List X) (i : ℕ) (x : X) → slice_get xs i ≡ Some x → drop i xs ≡ x ∷ drop (suc i) xs
split_at [] i x e = cc
split_at (z ∷ xs) zero x e = let same : z ≡ x = cc in ap (λ w. w ∷ xs) same
split_at (z ∷ xs) (suc i) x e = split_at xs i x e

pub line_at : {X : Type 0} (xs : List X) (i : ℕ) (x : X) → slice_get xs i ≡ Some x → drop i xs ≡ x ∷ drop (i + 1) xs
line_at xs i x e = rw (add-one i) (split_at xs i x e)

-- the lines from position i on are left, which come to this history, and beyond a full one or not
pub record Left (ls : List ScheduleLine) (s t : WorldValue) (i : ℕ) (h : List Entry) (b : Bool) : Type 0 where
  pub same : t ≡ with_history s t.history
  pub left : fold (line_run s.script) t.history (drop i ls) ≡ h
  pub beyond : overruns_lines s.script t.history (drop i ls) ≡ b
  pub later : IsPrefix s.history t.history

-- an error ends the lines, of which none that is left adds an entry
pub lines_fail : (ls : List ScheduleLine) (s t u : WorldValue) (i : ℕ) (l : ScheduleLine) (e : StepError) (h : List Entry) (b : Bool) → Left ls s t i h b → slice_get ls i ≡ Some l → CameTo t (line_run t.script t.history l) (overruns_line t.script t.history l) (Err e) u → CameTo s h b (Err e) u
lines_fail ls s t u i l e h b before at came = by t.history e before.left before.beyond before.later (subst (λ x. CameTo x (line_run x.script x.history l) (overruns_line x.script x.history l) (Err e) u) before.same came)
  where
    by : (g : List Entry) (e : StepError) → fold (line_run s.script) g (drop i ls) ≡ h → overruns_lines s.script g (drop i ls) ≡ b → IsPrefix s.history g → CameTo (with_history s g) (line_run s.script g l) (overruns_line s.script g l) (Err e) u → CameTo s h b (Err e) u
    by g (StepError.Full k) left beyond later came =
        let more = drop (i + 1) ls in
        let split : drop i ls ≡ l ∷ more = line_at ls i l at in
        let done : line_run s.script g l ≡ h = sym (full_lines s.script more (line_run s.script g l) came.1) ∙ sym (ap (fold (line_run s.script) g) split) ∙ left in (
          came.0,
          sym (ap length done) ∙ came.1,
          came.2 ∙ ap (λ x. halted_by (with_history s x) (StepError.Full k)) done,
          sym beyond ∙ ap (overruns_lines s.script g) split ∙ or_true (overruns_line s.script g l) _ came.3,
        )
    by g StepError.NoMemory left beyond later came =
        let more = drop (i + 1) ls in
        let k = line_run s.script g l in
        let whole : fold (line_run s.script) k more ≡ h = sym (ap (fold (line_run s.script) g) (line_at ls i l at)) ∙ left in
        short_of s (with_history s g) u k h refl later came (subst (IsPrefix k) whole (grows_lines s.script more k))

-- else a line less is left
pub lines_go : (ls : List ScheduleLine) (s t u : WorldValue) (i : ℕ) (l : ScheduleLine) (x : ⊤) (h : List Entry) (b : Bool) → Left ls s t i h b → slice_get ls i ≡ Some l → CameTo t (line_run t.script t.history l) (overruns_line t.script t.history l) (Ok x) u → Left ls s u (i + 1) h b
lines_go ls s t u i l x h b before at came = by t.history before.left before.beyond before.later (subst (λ y. CameTo y (line_run y.script y.history l) (overruns_line y.script y.history l) (Ok x) u) before.same came)
  where
    by : (g : List Entry) → fold (line_run s.script) g (drop i ls) ≡ h → overruns_lines s.script g (drop i ls) ≡ b → IsPrefix s.history g → CameTo (with_history s g) (line_run s.script g l) (overruns_line s.script g l) (Ok x) u → Left ls s u (i + 1) h b
    by g left beyond later came =
        let more = drop (i + 1) ls in
        let split : drop i ls ≡ l ∷ more = line_at ls i l at in
        let now : u.history ≡ line_run s.script g l = ap (λ y. y.history) came.0 in
        record {
          same = came.0 ∙ ap (with_history s) (sym now);
          left = ap (λ y. fold (line_run s.script) y more) now ∙ sym (ap (fold (line_run s.script) g) split) ∙ left;
          beyond = ap (λ y. overruns_lines s.script y more) now ∙ sym (or_false (overruns_line s.script g l) _ came.1) ∙ sym (ap (overruns_lines s.script g) split) ∙ beyond;
          later = subst (IsPrefix s.history) (sym now) (prefix_trans s.history g (line_run s.script g l) later (grows_line s.script g l));
        }

-- the script's own lines
pub own_line : (s t : WorldValue) (ls : List ScheduleLine) (i : ℕ) (h : List Entry) (b : Bool) (l : ScheduleLine) → Left s.script.schedule s t i h b → slice_get t.script.schedule i ≡ Some l → slice_get s.script.schedule i ≡ Some l
own_line s t ls i h b l before at = subst (λ x. slice_get x.script.schedule i ≡ Some l) before.same at
