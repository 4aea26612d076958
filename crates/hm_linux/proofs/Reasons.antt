-- What is kept, is kept for its reason, or for that of a variant, with variants that leave the state as it is found.
use Rattle.std.proofs.Common.{◌≡◌, ◌⊎◌, inl, inr, ℕ, true, not, ◌&&◌, ◌||◌, ◌==◌, Option, Some, None, List, [], ◌∷◌}
use Rattle.std.proofs.Common.{refl, sym, ap, ◌∙◌, subst}
use Rattle.std.specs.List.{list_any}
use Rattle.std.proofs.lemmas.Bool.{and_from, and_parts}
use Rattle.hm_base.specs.Program.{Program}
use Rattle.hm_base.specs.declared.Frame.{Frame}
use Rattle.hm_base.specs.declared.ops.Op.{Op}
use Rattle.hm_history.specs.Memory.Words.{same_frame}
use Rattle.hm_history.specs.Memory.After.{After}
use Rattle.hm_history.specs.Kernel.Operation.{is_exclusive_op}
use Rattle.hm_history.specs.Kernel.Going.{Going, State, op_at, going_next}
use Rattle.hm_history.specs.Kernel.Due.{due_in}
use Rattle.hm_history.specs.Kernel.Legal.{kept_op, kept_rightly}
use Rattle.hm_history.specs.declared.Kind.{Kind}
use Rattle.hm_history.specs.declared.Progress.{Progress}
use Rattle.hm_history.specs.declared.phases.MoveStep.{MoveStep}
use Rattle.hm_history.specs.declared.phases.Touch.TheVariants.{Walk, Sole}
use Rattle.hm_history.specs.declared.phases.Phase.{Phase}
use Rattle.hm_laws.specs.Past.{Past}
use Rattle.hm_laws.specs.Sound.{Sound}
use Rattle.hm_laws.specs.Records.{Among}
use Rattle.hm_laws.specs.Facts.{facts, facts_of, HoldsAll}
use Rattle.hm_laws.specs.Stands.{Standing}
use Rattle.hm_laws.proofs.Due.Good.{Fair, either}
use Rattle.hm_laws.proofs.State.Search.{least_some}
use Rattle.hm_laws.proofs.Migration.Records.{among_any}
use Rattle.hm_laws.proofs.Migration.Setup.{at_itself}
use Rattle.hm_laws.proofs.Histories.Sound.{Turn, small, turn_of}
use Rattle.hm_linux.specs.declared.variant.Variant.{Variant}
use Rattle.hm_linux.specs.Noted.{Noted, Varied}
use Rattle.hm_linux.specs.HeldPage.{referrer, refers_to}
use Rattle.hm_linux.specs.Instead.{varied_after}
use Rattle.hm_linux.specs.Variants.{kept_as}
use Rattle.hm_linux.specs.Laws.{KeptForReasons}
use Rattle.hm_linux.proofs.Differing.{KeepsPage, OtherAt, Other}
use Rattle.hm_linux.proofs.Leading.{came_there}
use Rattle.hm_linux.proofs.Standing.{due_here, stands_after}

-- ---- an entry of the definitions

turn_kept : (c : Program) (u : State) (t : Past) (a : ℕ) (k : Kind)
    → Turn c u.after t a k (u.going a) (going_next c u.after a (u.going a) k)
    → kept_rightly c u (record { actor = a; kind = k }) ≡ true
turn_kept c u t a k tn = by k tn.fair
  where
    by : (i : Kind) → Fair c u.after a tn.op (u.going a).pages i tn.top
        → kept_rightly c u (record { actor = a; kind = i }) ≡ true
    by (Kind.Kept what why) fair = ap (λ x. kept_op c u.after a x (u.going a).pages what why) tn.is_op ∙ fair
    by i fair = refl

-- ---- an entry that a variant puts in its place

refers : (n : Noted) (a b : ℕ) (x : Option Frame) → referrer n a x ≡ Some b → (not (a == b) && refers_to n b x) ≡ true
refers n a b None e = cc
refers n a b (Some f) e = least_some (λ d. not (a == d) && list_any (same_frame f) (n.references d)) 0 16 b e

-- a page that a migration keeps
keeps_referred : (l : Variant) (c : Program) (t : Varied) (p : Past) (a : ℕ) (o : Op) (step : MoveStep) (v : ℕ)
    (below : List Phase) (k : Kind) → Sound c t.state.after p
    → HoldsAll t.state.after p a (facts o (t.state.going a).pages (Phase.Moves step v ∷ below))
    → KeepsPage l t.noted t.state.after a o (t.state.going a).pages (Phase.Moves step v) k
    → kept_as l t (record { actor = a; kind = k }) ≡ true
keeps_referred l c t p a o step v (y ∷ below) k so h keeps = absurd h.0
keeps_referred l c t p a o step v [] k so h keeps = subst (λ i. kept_as l t (record { actor = a; kind = i }) ≡ true)
    (sym keeps.is) (and_from (l.held_page || l.exclusive_pins) _ keeps.on (and_from (not (a == keeps.by)) _ of_it.0
    (among_any (λ x. (x.page == keeps.page.page) && refers_to t.noted keeps.by x.source) (t.state.going a).pages
    keeps.page among (and_from (keeps.page.page == keeps.page.page) _ (at_itself keeps.page.page) of_it.1))))
  where
    of_it : (not (a == keeps.by) ≡ true) × (refers_to t.noted keeps.by keeps.page.source ≡ true)
    of_it = and_parts (not (a == keeps.by)) _ (refers t.noted a keeps.by keeps.page.source keeps.refers)

    among : Among (t.state.going a).pages keeps.page
    among = (came_there c t.state.after p a o (t.state.going a).pages step v keeps.page so h keeps.comes).among

other_kept : (l : Variant) (c : Program) (t : Varied) (p : Past) (a : ℕ) (o : Op) (top : Phase) (below : List Phase)
    (k : Kind) → Sound c t.state.after p
    → HoldsAll t.state.after p a (facts o (t.state.going a).pages (top ∷ below))
    → OtherAt l t.noted t.state.after a o (t.state.going a).pages top k
    → (kept_rightly c t.state (record { actor = a; kind = k }) ≡ true)
    ⊎ (kept_as l t (record { actor = a; kind = k }) ≡ true)
other_kept l c t p a o top below k so h other = by top h other
  where
    unlike : (i : Kind) → k ≡ i → kept_rightly c t.state (record { actor = a; kind = i }) ≡ true
        → (kept_rightly c t.state (record { actor = a; kind = k }) ≡ true)
        ⊎ (kept_as l t (record { actor = a; kind = k }) ≡ true)
    unlike i e f = inl (subst (λ z. kept_rightly c t.state (record { actor = a; kind = z }) ≡ true) (sym e) f)

    by : (y : Phase) → HoldsAll t.state.after p a (facts o (t.state.going a).pages (y ∷ below))
        → OtherAt l t.noted t.state.after a o (t.state.going a).pages y k
        → (kept_rightly c t.state (record { actor = a; kind = k }) ≡ true)
        ⊎ (kept_as l t (record { actor = a; kind = k }) ≡ true)
    by (Phase.Pages v) i z = unlike _ z.1 refl
    by (Phase.Decide (Walk j since q)) i z = unlike _ z.is refl
    by (Phase.Decide Sole) i z = unlike _ z.1
        (either (λ f. kept_rightly c t.state (record { actor = a; kind = f }) ≡ true) (is_exclusive_op o) _ _
        (λ e. refl) (λ e. refl))
    by (Phase.Guard q r met told body) i z = unlike _ z.is refl
    by (Phase.Noted j since q x) i z = unlike _ z.1 refl
    by (Phase.Moves step v) i z = inr (keeps_referred l c t p a o step v below k so i z)
    by y i z = absurd z

-- ---- both

pub kept_for_reasons : KeptForReasons
kept_for_reasons l leave c sc h d es due e now = by (due_here l c t e.actor e.kind leave now)
  where
    t : Varied
    t = varied_after l c h es

    s : After
    s = t.state.after

    was : Going
    was = t.state.going e.actor

    st : (p : Past) × Standing c t.state p
    st = stands_after l c h es leave sc d due

    by : (due_in c t.state e.actor ≡ Progress.Did e)
        ⊎ Other l t.noted s e.actor (op_at c e.actor was.index) was.pages was.stack e.kind
        → (kept_rightly c t.state e ≡ true) ⊎ (kept_as l t e ≡ true)
    by (inl i) = inl (turn_kept c t.state st.0 e.actor e.kind (turn_of c t.state st.0 e (small c sc) st.1 i))
    by (inr p) = other_kept l c t st.0 e.actor p.op p.top p.below e.kind st.1.sound
        (subst (λ z. HoldsAll s st.0 e.actor (facts p.op was.pages z)) p.is_stack
        (subst (λ x. HoldsAll s st.0 e.actor (facts_of x was.pages was.stack)) p.is_op (st.1.known e.actor))) p.other
