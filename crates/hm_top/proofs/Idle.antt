-- An actor that is idle stays idle, whatever others add. So where each actor was idle after some front of a history, no
-- operation is left after all of it.
use Rattle.std.proofs.Common.{◌≡◌, ℕ, ◌⊎◌, inl, inr, Bool, false, Option, None, Some, List, [], ◌∷◌, ◌++◌, ◌==◌, refl, sym, ap, ◌∙◌, subst, append_assoc, append-nil, if◌then◌else◌, arith}
use Rattle.std.proofs.lemmas.Bool.{cases_eq}
use Rattle.std.proofs.lemmas.Bool.Decides.{nat_tests}
use Rattle.hm_base.specs.Program.{Program, IsScript}
use Rattle.hm_base.specs.declared.ops.Op.{Op}
use Rattle.hm_history.specs.Memory.After.{After}
use Rattle.hm_history.specs.Kernel.Due.{due, due_phase, due_top, progress}
use Rattle.hm_history.specs.Kernel.Going.{Going, going_next, op_at, state_of, state_of-snoc}
use Rattle.hm_history.specs.Laws.{DueFrom}
use Rattle.hm_history.specs.Kernel.Legal.{Legal}
use Rattle.hm_history.specs.Kernel.Run.{is_entry}
use Rattle.hm_history.specs.Memory.Words.{with_at}
use Rattle.hm_history.specs.declared.Entry.{Entry}
use Rattle.hm_history.specs.declared.Progress.{Progress}
use Rattle.hm_history.specs.declared.StepError.{StepError}
use Rattle.hm_turns.specs.Stepping.{is_halted}
use Rattle.hm_history.specs.declared.phases.Migrating.{Migrating}
use Rattle.hm_history.specs.declared.phases.Next.{Next}
use Rattle.hm_history.specs.declared.phases.Next.TheVariants.{Do, Wait}
use Rattle.hm_history.specs.declared.phases.Phase.{Phase}
use Rattle.hm_history.proofs.RunLemmas.{legal_due}
use Rattle.hm_laws.specs.NeverStuck.{NeverStuck}
use Rattle.hm_workers.specs.Dealing.{HasEnded, HaveEnded}
use Rattle.hm_top.specs.RunsThreads.{AllEnded}
use Rattle.hm_top.proofs.Drains.{NoneDue, all_done}

never_idle : (a : ℕ) (n : Next) → progress a n ≡ Progress.Idle → ⊥
never_idle a (Do k) e = cc
never_idle a (Wait w) e = cc

-- whatever else has changed, as long as the actor has not gone on
idle_top : (c : Program) (s t : After) (a : ℕ) (o : Option Op) (xs : List Migrating) (st : List Phase) → due_top c s a o xs st ≡ Progress.Idle → due_top c t a o xs st ≡ Progress.Idle
idle_top c s t a (Some o) xs (top ∷ below) idle = absurd (never_idle a (due_phase c s a o xs top) idle)
idle_top c s t a (Some o) xs [] idle = refl
idle_top c s t a None xs st idle = refl

other_going : (f : ℕ → Going) (k : ℕ) (x : Going) (a : ℕ) → (k ≡ a → ⊥) → with_at f k x a ≡ f a
other_going f k x a other =
    let flip : a ≡ k → ⊥ = λ e. other (sym e) in
    let apart : (a == k) ≡ false = grind (arith, nat_tests, flip) in
    ap (λ (b : Bool). if b then x else f a) apart

idle_step : (c : Program) (h : List Entry) (a : ℕ) (e : Entry) → due c h a ≡ Progress.Idle → due c h e.actor ≡ Progress.Did e → due c (h ++ e ∷ []) a ≡ Progress.Idle
idle_step c h a e idle did = by (cases_eq e.actor a)
  where
    by : (e.actor ≡ a) ⊎ (e.actor ≡ a → ⊥) → due c (h ++ e ∷ []) a ≡ Progress.Idle
    by (inl same) = let never : Progress.Did e ≡ Progress.Idle = sym did ∙ ap (due c h) same ∙ idle in cc
    by (inr other) =
        let s = state_of c h in
        let x = going_next c s.after e.actor (s.going e.actor) e.kind in
        let stays : (state_of c (h ++ e ∷ [])).going a ≡ s.going a = ap (λ t. t.going a) (state_of-snoc c h e) ∙ other_going s.going e.actor x a other in
        let t = (state_of c (h ++ e ∷ [])).after in
        let same : due c (h ++ e ∷ []) a ≡ due_top c t a (op_at c a (s.going a).index) (s.going a).pages (s.going a).stack = ap (λ g. due_top c t a (op_at c a g.index) g.pages g.stack) stays in
        same ∙ idle_top c s.after t a (op_at c a (s.going a).index) (s.going a).pages (s.going a).stack idle

idle_on : (c : Program) (g es : List Entry) (a : ℕ) → DueFrom c g es → due c g a ≡ Progress.Idle → due c (g ++ es) a ≡ Progress.Idle
idle_on c g [] a d idle = subst (λ l. due c l a ≡ Progress.Idle) (sym (append-nil g)) idle
idle_on c g (e ∷ es) a d idle = subst (λ l. due c l a ≡ Progress.Idle) (append_assoc g (e ∷ []) es) (idle_on c (g ++ e ∷ []) es a d.1 (idle_step c g a e idle d.0))

due_later : (c : Program) (g h es : List Entry) → DueFrom c g (h ++ es) → DueFrom c (g ++ h) es
due_later c g [] es d = subst (λ l. DueFrom c l es) (sym (append-nil g)) d
due_later c g (x ∷ h) es d = subst (λ l. DueFrom c l es) (append_assoc g (x ∷ []) h) (due_later c (g ++ x ∷ []) h es d.1)

idle_after : (c : Program) (h : List Entry) (a : ℕ) → DueFrom c [] h → HasEnded due c h false a → due c h a ≡ Progress.Idle
idle_after c h a d (inl ended) =
    let front = ended.0 in
    let rest = ended.1 in
    let whole : front ++ rest.0 ≡ h = rest.1 in
    subst (λ l. due c l a ≡ Progress.Idle) whole (idle_on c front rest.0 a (due_later c [] front rest.0 (subst (DueFrom c []) (sym whole) d)) ended.2)
idle_after c h a d (inr halted) = cc

pub all_ended : NeverStuck → (c : Program) → IsScript c → (h : List Entry) → Legal c h → HaveEnded due c h false → AllEnded c h
all_ended never_stuck c script h legal ended =
    let d = legal_due c [] h legal in
    let none : NoneDue c h = λ a few. ap is_entry (idle_after c h a d (ended a few)) in
    record { legal = legal; ended = all_done never_stuck c script h d none }

-- so of a value that came back from its workers, and is not halted
pub ended_so : NeverStuck → (s : Program) → IsScript s → (t : Program) (r h : List Entry) (halted : Option StepError) → t ≡ s → h ≡ r → halted ≡ None → Legal t r → HaveEnded due t r (is_halted halted) → AllEnded s h
ended_so never_stuck s script t r h halted is same none legal ended =
    all_ended never_stuck s script h (subst (Legal s) (sym same) (subst (λ x. Legal x r) is legal))
    (subst (λ x. HaveEnded due s x false) (sym same) (subst (λ x. HaveEnded due x r false) is (subst (λ b. HaveEnded due t r (is_halted b)) none ended)))
