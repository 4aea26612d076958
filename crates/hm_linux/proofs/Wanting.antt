-- A failure for want of a frame comes only if none was free, with variants that leave the state as it is found.
use Rattle.std.proofs.Common.{◌≡◌, ◌⊎◌, inl, inr, ℕ, Bool, true, false, ◌||◌, is_none, None, List, ◌++◌, refl, ap, ◌∙◌}
use Rattle.std.proofs.Common.{subst}
use Rattle.std.proofs.lemmas.Bool.{or_left, or_right}
use Rattle.hm_base.specs.Program.{Program}
use Rattle.hm_base.specs.declared.PoolId.{PoolId}
use Rattle.hm_base.specs.declared.ops.Op.{Op}
use Rattle.hm_history.specs.Memory.Places.{lowest_free}
use Rattle.hm_history.specs.Memory.After.{After, after}
use Rattle.hm_history.specs.Memory.Rules.{wants_frame, needs_full, fails_rightly, system_is_full, was_short}
use Rattle.hm_history.specs.Kernel.Operation.{is_exclusive_op}
use Rattle.hm_history.specs.Kernel.Going.{Going, op_at, going_next}
use Rattle.hm_history.specs.Kernel.Due.{due_in}
use Rattle.hm_history.specs.declared.Kind.{Kind}
use Rattle.hm_history.specs.declared.Entry.{Entry}
use Rattle.hm_history.specs.declared.Progress.{Progress}
use Rattle.hm_history.specs.declared.phases.Migrating.{Migrating}
use Rattle.hm_history.specs.declared.phases.Touch.TheVariants.{Walk, Sole}
use Rattle.hm_history.specs.declared.phases.Phase.{Phase}
use Rattle.hm_laws.specs.Past.{Past}
use Rattle.hm_laws.proofs.Due.Good.{Fair, either}
use Rattle.hm_laws.proofs.Past.Short.{is_given, gives}
use Rattle.hm_laws.proofs.Histories.Sound.{Turn, small, turn_of}
use Rattle.hm_linux.specs.declared.variant.Variant.{Variant}
use Rattle.hm_linux.specs.Noted.{Noted, Varied}
use Rattle.hm_linux.specs.Instead.{varied_after}
use Rattle.hm_linux.specs.Laws.{FailsWhenFull}
use Rattle.hm_linux.proofs.Differing.{OtherAt, Other}
use Rattle.hm_linux.proofs.Standing.{due_here}
use Rattle.hm_linux.proofs.Walked.{Walked, walked_after}

-- ---- an entry of the definitions

wanting : (c : Program) (h : List Entry) (a : ℕ) (b : Bool)
    → (b ≡ true → (system_is_full c h || was_short c h a) ≡ true)
    → elim b [ false ↦ true | true ↦ system_is_full c h || was_short c h a ] ≡ true
wanting c h a false f = refl
wanting c h a true f = f refl

fair_wanting : (c : Program) (h : List Entry) (a : ℕ) (o : Op) (xs : List Migrating) (k : Kind) (top : Phase)
    → (is_given top ≡ true → was_short c h a ≡ true) → Fair c (after h) a o xs k top
    → fails_rightly c h (record { actor = a; kind = k }) ≡ true
fair_wanting c h a o xs k top short fair = by k top short fair
  where
    was : was_short c h a ≡ true → (system_is_full c h || was_short c h a) ≡ true
    was e = or_right (system_is_full c h) (was_short c h a) e

    now : lowest_free c (after h).places PoolId.System ≡ None → (system_is_full c h || was_short c h a) ≡ true
    now e = or_left (system_is_full c h) (was_short c h a) (ap is_none e)

    by : (i : Kind) (y : Phase) → (is_given y ≡ true → was_short c h a ≡ true) → Fair c (after h) a o xs i y
        → fails_rightly c h (record { actor = a; kind = i }) ≡ true
    by (Kind.Failed x at n why) (Phase.GiveUp y) e f = wanting c h a (wants_frame why) (λ w. was (e refl))
    by (Kind.Failed x at n why) y e f = wanting c h a (wants_frame why) (λ w. now (f w))
    by (Kind.Refused why) (Phase.GiveUp y) e f = wanting c h a (wants_frame why) (λ w. was (e refl))
    by (Kind.Refused why) y e f = wanting c h a (wants_frame why) (λ w. now (f w))
    by i y e f = refl

-- ---- an entry that a variant puts in its place: none is for want of a frame

other_wants : (l : Variant) (n : Noted) (s : After) (a : ℕ) (o : Op) (xs : List Migrating) (top : Phase) (k : Kind)
    → OtherAt l n s a o xs top k → needs_full k ≡ false
other_wants l n s a o xs (Phase.Pages v) k p = ap needs_full p.1
other_wants l n s a o xs (Phase.Decide (Walk j since q)) k p = ap needs_full p.is
other_wants l n s a o xs (Phase.Decide Sole) k p =
    ap needs_full p.1 ∙ either (λ i. needs_full i ≡ false) (is_exclusive_op o) _ _ (λ e. refl) (λ e. refl)
other_wants l n s a o xs (Phase.Guard q r met told body) k p = ap needs_full p.is
other_wants l n s a o xs (Phase.Noted j since q x) k p = ap needs_full p.1
other_wants l n s a o xs (Phase.Moves step v) k p = ap needs_full p.is
other_wants l n s a o xs top k p = absurd p

-- ---- both

pub fails_when_full : FailsWhenFull
fails_when_full l leave c sc h d es due e now = by (due_here l c t e.actor e.kind leave now)
  where
    t : Varied
    t = varied_after l c h es

    s : After
    s = t.state.after

    was : Going
    was = t.state.going e.actor

    w : (p : Past) × Walked c (h ++ es) t.state p
    w = walked_after l c h es leave sc d due

    by : (due_in c t.state e.actor ≡ Progress.Did e)
        ⊎ Other l t.noted s e.actor (op_at c e.actor was.index) was.pages was.stack e.kind
        → fails_rightly c (h ++ es) e ≡ true
    by (inl i) = fair_wanting c (h ++ es) e.actor tn.op was.pages e.kind tn.top
        (λ g. (w.1.short e.actor (ap gives tn.is_stack ∙ ap (λ b. b || gives tn.below) g)).1)
        (subst (λ z. Fair c z e.actor tn.op was.pages e.kind tn.top) w.1.is_after tn.fair)
      where
        tn : Turn c s w.0 e.actor e.kind was (going_next c s e.actor was e.kind)
        tn = turn_of c t.state w.0 e (small c sc) w.1.standing i
    by (inr p) = ap (λ b. elim b [ false ↦ true | true ↦ system_is_full c (h ++ es) || was_short c (h ++ es) e.actor ])
        (other_wants l t.noted s e.actor p.op was.pages p.top e.kind p.other)
