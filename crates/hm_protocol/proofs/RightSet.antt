-- A migration sets no page for writes that was collected for reads.
use Rattle.std.proofs.Common.{refl, ap, sym, subst, ◌∙◌}
use Rattle.std.proofs.lemmas.Bool.{true≢false, false≢true, and_right}
use Rattle.std.specs.Prelude.{◌≡◌, ℕ, Bool, true, false, ◌&&◌, Option, Some, None, List, [], ◌∷◌, ◌++◌}
use Rattle.hm_base.specs.Program.{Program}
use Rattle.hm_base.specs.declared.Frame.{Frame}
use Rattle.hm_base.specs.declared.ops.Op.{Op}
use Rattle.hm_history.specs.Memory.Words.{writable}
use Rattle.hm_history.specs.Memory.Plain.{mirror_proc}
use Rattle.hm_history.specs.Memory.After.{After}
use Rattle.hm_history.specs.Kernel.Operation.{op_mirror}
use Rattle.hm_history.specs.Kernel.Going.{coming}
use Rattle.hm_history.specs.Kernel.Due.{due_phase}
use Rattle.hm_history.specs.Kernel.Due.{due_moves, due_step}
use Rattle.hm_history.specs.Kernel.Due.{right_of}
use Rattle.hm_history.specs.declared.Kind.{Kind}
use Rattle.hm_history.specs.declared.phases.Migrating.{Migrating}
use Rattle.hm_history.specs.declared.phases.MoveStep.{MoveStep}
use Rattle.hm_history.specs.declared.phases.Next.TheVariants.{Do}
use Rattle.hm_history.specs.declared.phases.Phase.{Phase}
use Rattle.hm_laws.specs.Past.{Past}
use Rattle.hm_laws.specs.Sound.{Sound}
use Rattle.hm_laws.specs.Facts.{HoldsAll, facts}
use Rattle.hm_protocol.specs.declared.events.Event.{Event}
use Rattle.hm_protocol.specs.Words.{is_write}
use Rattle.hm_protocol.specs.Known.{is_noted}
use Rattle.hm_protocol.specs.Projection.{comes_to, entry_frame}
use Rattle.hm_protocol.proofs.MayBeDue.{steps}
use Rattle.hm_protocol.proofs.DueKinds.{is_setting, is_of_step}
use Rattle.hm_protocol.proofs.ComesFrom.{due_from, sets_nothing}
use Rattle.hm_protocol.proofs.Entries.{events_at, nothing_comes}
use Rattle.hm_protocol.proofs.Stands.{is_moves}
use Rattle.hm_protocol.proofs.MigrationViews.{View, CalmAt, views_after}
use Rattle.hm_protocol.proofs.Sitting.{Over, Single, Sits, is_later}
use Rattle.hm_protocol.proofs.Homing.{due_is}
use Rattle.hm_protocol.proofs.EachMove.{nothing_below}
use Rattle.hm_protocol.proofs.FoundMoves.{Found, FoundAt, found_at}
use Rattle.hm_protocol.proofs.Rights.{Low, is_between, own_between, between}
use Rattle.hm_protocol.proofs.DueKinds.{is_set}
use Rattle.hm_protocol.proofs.RightEvents.{right_wrong, noted_low, top_source, keeps_source, source_kept}
use Rattle.hm_protocol.proofs.RightEvents.{is_first}
use Rattle.hm_protocol.proofs.RightEvents.{comes_be, comes_not, calm_all, calm_and, calm_unless, noted_is_low}
use Rattle.hm_protocol.proofs.RightSteps.{from_between}
use Rattle.hm_protocol.proofs.Collected.{Noted, over_none, not_two}

-- ---- without a migration

none_calm : (s u : After) (a : ℕ) (o : Op) (xs : List Migrating) (top : Phase) (below : List Phase) (after : Phase)
    (k : Kind)
    (vs : List View) → is_moves top ≡ false → vs ≡ [] → CalmAt right_wrong vs
    (events_at s u a o xs (top ∷ below) after k)
none_calm s u a o xs top below after (Kind.Set m v f w from) vs n e =
    subst (λ vs. CalmAt right_wrong vs (events_at s u a o xs (top ∷ below) after (Kind.Set m v f w from))) (sym e)
    (subst (λ es. CalmAt right_wrong [] (es ++ Event.Set m v (entry_frame f) w ∷ []))
    (sym (nothing_comes s o xs top (Kind.Set m v f w from) n))
    (and_right (is_write w) false refl, tt))
none_calm s u a o xs top below after k vs n e = calm_unless s u a o xs top below after k vs refl

-- ---- entries that set nothing

over_unset : (c : Program) (s : After) (t : Past) (a : ℕ) (o : Op) (xs : List Migrating) (top : Phase)
    (step : MoveStep) (v : ℕ) (k : Kind) → is_moves top ≡ false
    → HoldsAll s t a (facts o xs (top ∷ Phase.Moves step v ∷ [])) → due_phase c s a o xs top ≡ Do k → is_set k ≡ false
over_unset c s t a o xs (Phase.Noted n at q x) step v k m h d = absurd h.0
over_unset c s t a o xs (Phase.Decide touch) step v k m h d = absurd h.0
over_unset c s t a o xs (Phase.Moves i w) step v k m h d = absurd (true≢false m)
over_unset c s t a o xs top step v k m h d =
    sets_nothing s o xs top k refl (due_from c s t a o xs top (Phase.Moves step v ∷ []) k h d)

step_unset : (step : MoveStep) (k : Kind) → is_setting step ≡ false → is_of_step step k ≡ true → is_set k ≡ false
step_unset step (Kind.Set m v f w from) e h = absurd (false≢true (sym e ∙ h))
step_unset step k e h = refl

-- ---- the driver sets a page

-- what is low is not writable
low_not : (c : Program) (s : After) (t : Past) (p v : ℕ) (source : Option Frame) → Sound c s t → Low s p source v
    → writable (s.places.place p v) ≡ true → ⊥
low_not c s t p v None so l w = true≢false (sym (so.areas.may_write p v w).1 ∙ l)
low_not c s t p v (Some f) so l w = true≢false (sym w ∙ l)

noted_some : (us : List View) (v : ℕ) → noted_low us v ≡ true → is_noted v false (top_source us) ≡ true
noted_some [] v e = absurd (false≢true e)
noted_some (y ∷ us) v e = e

set_calm : (c : Program) (s u : After) (t : Past) (a : ℕ) (o : Op) (xs : List Migrating) (step : MoveStep) (v : ℕ)
    (after : Phase)
    (vs : List View) (x : Migrating) → Sound c s t → coming s o xs (Phase.Moves step v) ≡ Some (MoveStep.SetOwnTable, x)
    → (is_between step ≡ true → Noted s o xs vs)
    → CalmAt right_wrong vs (events_at s u a o xs (Phase.Moves step v ∷ []) after
    (due_step c s o MoveStep.SetOwnTable x))
set_calm c s u t a o xs step v after vs x so q old = calm_and right_wrong vs (comes_to s o xs (Phase.Moves step v) k) _
    (calm_all vs (comes_to s o xs (Phase.Moves step v) k) (comes_not s o xs (Phase.Moves step v) k))
    (by_right (writable (s.places.place p x.page)) refl, tt)
  where
    p : ℕ
    p = mirror_proc s.plain (op_mirror o)

    k : Kind
    k = due_step c s o MoveStep.SetOwnTable x

    found : Found s o xs step v MoveStep.SetOwnTable x
    found = subst (FoundAt s o xs step v) q (found_at s o xs step v)

    on : (b : Bool) → (b ≡ false → false ≡ true) → b ≡ true
    on true f = refl
    on false f = absurd (false≢true (f refl))

    is_on : is_later step ≡ true
    is_on = on (is_later step) found.began

    not_first : (step : MoveStep) → is_later step ≡ true → is_first (Phase.Moves step v) ≡ false
    not_first MoveStep.FreezeOthers l = absurd (false≢true l)
    not_first MoveStep.TakeAndCopy l = refl
    not_first MoveStep.Commit l = refl
    not_first MoveStep.SetOwnTable l = refl
    not_first MoveStep.Finish l = refl

    same : top_source (views_after vs (comes_to s o xs (Phase.Moves step v) (due_step c s o MoveStep.SetOwnTable x))) ≡
        top_source vs
    same = source_kept vs (comes_to s o xs (Phase.Moves step v) (due_step c s o MoveStep.SetOwnTable x))
        (comes_be keeps_source (λ p. refl) s o xs (Phase.Moves step v) (due_step c s o MoveStep.SetOwnTable x)
        (λ e. absurd (false≢true (sym (not_first step is_on) ∙ e))))

    by_right : (b : Bool) → writable (s.places.place (mirror_proc s.plain (op_mirror o)) x.page) ≡ b
        → (is_write (right_of b) && noted_low (views_after vs (comes_to s o xs (Phase.Moves step v)
        (due_step c s o MoveStep.SetOwnTable x))) x.page) ≡ false
    by_right false e = refl
    by_right true e = by_noted (noted_low (views_after vs (comes_to s o xs (Phase.Moves step v)
        (due_step c s o MoveStep.SetOwnTable x))) x.page) refl
      where
        by_noted : (b : Bool) → noted_low (views_after vs (comes_to s o xs (Phase.Moves step v)
            (due_step c s o MoveStep.SetOwnTable x))) x.page ≡ b
            → b ≡ false
        by_noted false n = refl
        by_noted true n = absurd (low_not c s t (mirror_proc s.plain (op_mirror o)) x.page x.source so
            (noted_is_low s (mirror_proc s.plain (op_mirror o)) xs x found.among (top_source vs)
            (old (from_between s o xs step v MoveStep.SetOwnTable x q refl is_on))
            (ap (is_noted x.page false) (sym same) ∙ noted_some _ x.page n)) e)

moves_calm : (c : Program) (s u : After) (t : Past) (a : ℕ) (o : Op) (xs : List Migrating) (step : MoveStep) (v : ℕ)
    (after : Phase)
    (vs : List View) → Sound c s t → (is_between step ≡ true → Noted s o xs vs) → (r : Option (MoveStep × Migrating))
    → coming s o xs (Phase.Moves step v) ≡ r
    → CalmAt right_wrong vs (events_at s u a o xs (Phase.Moves step v ∷ []) after (due_moves c s o xs r))
moves_calm c s u t a o xs step v after vs so old None q = calm_unless s u a o xs (Phase.Moves step v) [] after _ vs refl
moves_calm c s u t a o xs step v after vs so old (Some (i, x)) q = here i q
  where
    here : (i : MoveStep) → coming s o xs (Phase.Moves step v) ≡ Some (i, x)
        → CalmAt right_wrong vs (events_at s u a o xs (Phase.Moves step v ∷ []) after (due_step c s o i x))
    here MoveStep.SetOwnTable q = set_calm c s u t a o xs step v after vs x so q old
    here i q = calm_unless s u a o xs (Phase.Moves step v) [] after (due_step c s o i x) vs
        (step_unset i (due_step c s o i x) refl (steps c s o i x))

-- ---- an entry anywhere

single_calm : (c : Program) (s u : After) (t : Past) (a : ℕ) (o : Op) (xs : List Migrating) (top : Phase)
    (below : List Phase)
    (after : Phase) (k : Kind) (vs : List View) → Sound c s t → HoldsAll s t a (facts o xs (top ∷ below))
    → due_phase c s a o xs top ≡ Do k → Single o xs top below vs → (own_between top ≡ true → Noted s o xs vs)
    → CalmAt right_wrong vs (events_at s u a o xs (top ∷ below) after k)
single_calm c s u t a o xs (Phase.Moves step v) [] after k vs so h d m old =
    subst (λ k. CalmAt right_wrong vs (events_at s u a o xs (Phase.Moves step v ∷ []) after k)) (due_is _ k d)
    (moves_calm c s u t a o xs step v after vs so old (coming s o xs (Phase.Moves step v)) refl)
single_calm c s u t a o xs (Phase.Moves step v) (x ∷ below) after k vs so h d m old = absurd h.0
single_calm c s u t a o xs (Phase.Copy f g i) below after k vs so h d m old =
    calm_unless s u a o xs (Phase.Copy f g i) below after k vs
    (sets_nothing s o xs (Phase.Copy f g i) k refl (due_from c s t a o xs (Phase.Copy f g i) below k h d))
single_calm c s u t a o xs (Phase.Copied f g) below after k vs so h d m old =
    calm_unless s u a o xs (Phase.Copied f g) below after k vs
    (sets_nothing s o xs (Phase.Copied f g) k refl (due_from c s t a o xs (Phase.Copied f g) below k h d))
single_calm c s u t a o xs (Phase.Finish f to) below after k vs so h d m old =
    calm_unless s u a o xs (Phase.Finish f to) below after k vs
    (sets_nothing s o xs (Phase.Finish f to) k refl (due_from c s t a o xs (Phase.Finish f to) below k h d))
single_calm c s u t a o xs (Phase.Settle g) below after k vs so h d m old =
    calm_unless s u a o xs (Phase.Settle g) below after k vs
    (sets_nothing s o xs (Phase.Settle g) k refl (due_from c s t a o xs (Phase.Settle g) below k h d))
single_calm c s u t a o xs top below after k vs so h d m old = none_calm s u a o xs top below after k vs refl m.0

over_calm : (c : Program) (s u : After) (t : Past) (a : ℕ) (o : Op) (xs : List Migrating) (top : Phase)
    (step : MoveStep) (v : ℕ)
    (after : Phase) (k : Kind) (vs : List View) → is_moves top ≡ false → HoldsAll s t a
    (facts o xs (top ∷ Phase.Moves step v ∷ []))
    → due_phase c s a o xs top ≡ Do k → Over o xs step top v vs
    → CalmAt right_wrong vs (events_at s u a o xs (top ∷ Phase.Moves step v ∷ []) after k)
over_calm c s u t a o xs top step v after k vs n h d m = by_later (is_later step) refl
  where
    by_later : (b : Bool) → is_later step ≡ b → CalmAt right_wrong vs (events_at s u a o xs
        (top ∷ Phase.Moves step v ∷ []) after k)
    by_later false l = none_calm s u a o xs top (Phase.Moves step v ∷ []) after k vs n
        (over_none s t a o xs top step v vs l h m)
    by_later true l = calm_unless s u a o xs top (Phase.Moves step v ∷ []) after k vs
        (over_unset c s t a o xs top step v k n h d)

pub calm_on : (c : Program) (s u : After) (t : Past) (a : ℕ) (o : Op) (xs : List Migrating) (top : Phase)
    (below : List Phase)
    (after : Phase) (k : Kind) (vs : List View) → Sound c s t → HoldsAll s t a (facts o xs (top ∷ below))
    → due_phase c s a o xs top ≡ Do k → Sits o xs (top ∷ below) vs → (between (top ∷ below) ≡ true → Noted s o xs vs)
    → CalmAt right_wrong vs (events_at s u a o xs (top ∷ below) after k)
calm_on c s u t a o xs top [] after k vs so h d m old = single_calm c s u t a o xs top [] after k vs so h d m old
calm_on c s u t a o xs (Phase.Moves i w) (Phase.Moves step v ∷ []) after k vs so h d m old = absurd
    (not_two s t a o xs i w step v h)
calm_on c s u t a o xs top (Phase.Moves step v ∷ []) after k vs so h d m old = over_calm c s u t a o xs top step v
    after k vs refl h d m
calm_on c s u t a o xs top (Phase.Moves step v ∷ x ∷ below) after k vs so h d m old =
    absurd (nothing_below s t a o xs top step v x below h)
calm_on c s u t a o xs top (x ∷ below) after k vs so h d m old = single_calm c s u t a o xs top (x ∷ below) after k vs
    so h d m old
