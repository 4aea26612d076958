-- What is noted of the pages of a migration holds after each entry of its actor, until it ends.
use Rattle.std.proofs.Common.{refl, ap, sym, subst, ◌∙◌, inl}
use Rattle.std.proofs.lemmas.Bool.{true≢false, false≢true}
use Rattle.std.specs.Prelude.{◌≡◌, ℕ, Bool, true, false, ◌&&◌, if◌then◌else◌, Option, Some, None}
use Rattle.std.specs.Prelude.{List, [], ◌∷◌, ◌++◌, map}
use Rattle.hm_base.specs.Program.{Program}
use Rattle.hm_base.specs.declared.Frame.{Frame}
use Rattle.hm_base.specs.declared.ops.Op.{Op}
use Rattle.hm_history.specs.Memory.Plain.{Plain, mirror_proc, mirror_dev}
use Rattle.hm_history.specs.Memory.After.{After}
use Rattle.hm_history.specs.Kernel.Operation.{op_mirror, is_migration, is_to_device}
use Rattle.hm_history.specs.Kernel.Stacks.{after_top, after_migration}
use Rattle.hm_history.specs.Kernel.Going.{recorded, recorded_at, seen_at, coming, coming_page}
use Rattle.hm_history.specs.Kernel.Due.{due_phase, due_moves}
use Rattle.hm_history.specs.declared.Kind.{Kind}
use Rattle.hm_history.specs.declared.phases.Body.{Body}
use Rattle.hm_history.specs.declared.phases.Migrating.{Migrating}
use Rattle.hm_history.specs.declared.phases.MoveStep.{MoveStep}
use Rattle.hm_history.specs.declared.phases.Next.TheVariants.{Do}
use Rattle.hm_history.specs.declared.phases.Phase.{Phase}
use Rattle.hm_history.proofs.Tests.{no_test}
use Rattle.hm_laws.specs.Past.{Past}
use Rattle.hm_laws.specs.Allowed.{next}
use Rattle.hm_laws.specs.Facts.{HoldsAll, facts, known_of, migrating}
use Rattle.hm_laws.proofs.Migration.Good.{seen_moves}
use Rattle.hm_laws.proofs.Migration.Records.{records_each}
use Rattle.hm_protocol.specs.declared.events.Event.{Event}
use Rattle.hm_protocol.specs.Projection as project
use Rattle.hm_protocol.specs.Projection.{events_by, comes_to, set_up, paged, is_start, is_home, collected, pages_of}
use Rattle.hm_protocol.proofs.Entries.{not_home}
use Rattle.hm_protocol.proofs.Entries.{events_at}
use Rattle.hm_protocol.proofs.Stands.{is_moves}
use Rattle.hm_protocol.proofs.MigrationViews.{View, views_after, set_up_view}
use Rattle.hm_protocol.proofs.StillEvents.{AllBe, none_all}
use Rattle.hm_protocol.proofs.EntryEvents.{by_none, be_when}
use Rattle.hm_protocol.proofs.Sitting.{AllOf, Homes, homes, Stays, Over, Single, Sits, is_later, all_more}
use Rattle.hm_protocol.proofs.Homing.{just_by, due_is}
use Rattle.hm_protocol.proofs.StaysOn.{gone_later}
use Rattle.hm_protocol.proofs.EachMove.{nothing_below}
use Rattle.hm_protocol.proofs.Rights.{Right, is_mild, Sourced, Places_fresh, right_own, mild_plain, is_between}
use Rattle.hm_protocol.proofs.Rights.{own_between, between}
use Rattle.hm_protocol.proofs.DueKinds.{is_answer}
use Rattle.hm_protocol.proofs.RightEvents.{top_source, keeps_source, source_kept, views_append, is_first}
use Rattle.hm_protocol.proofs.RightEvents.{by_source, at_source, collected_on}
use Rattle.hm_protocol.proofs.RightMoves.{Mildly, over_mild, over_stays}
use Rattle.hm_protocol.proofs.RightSteps.{Steps_mildly, moves_mild}

-- what is noted holds of the pages of a migration of this operation
abbrev pub Noted : After → Op → List Migrating → List View → Type 0
Noted s o xs vs = AllOf (Right s (mirror_proc s.plain (op_mirror o)) xs) (top_source vs)

-- so it does after an entry that leads to a step in between
abbrev Notes : After → After → ℕ → Op → List Migrating → Phase → List Phase → Phase → Kind → List View → Type 0
Notes s u a o xs top below after k vs = Noted (next s a k) o (recorded top (seen_at s o xs top k).page xs k)
    (views_after vs (events_at s u a o xs (top ∷ below) after k))

-- without a migration nothing is noted
none_noted : (s u : After) (a : ℕ) (o : Op) (xs : List Migrating) (top : Phase) (below : List Phase) (after : Phase)
    (k : Kind)
    (vs : List View) → is_moves top ≡ false → is_home o ≡ false → vs ≡ [] → Notes s u a o xs top below after k vs
none_noted s u a o xs top below after k vs n h e = subst (λ us. AllOf (Right (next s a k)
    (mirror_proc (next s a k).plain (op_mirror o))
    (recorded top (seen_at s o xs top k).page xs k)) (top_source us))
    (sym (ap (λ vs. views_after vs (events_at s u a o xs (top ∷ below) after k)) e
    ∙ (just_by (λ vs x. false) s u a o xs top below after k [] [] n
    (none_all (λ vs x. false) (λ x. refl) _ (by_none s u a o xs (top ∷ below) after k (λ b. h)))).is)) tt

not_over : (k : Kind) → is_mild k ≡ true → is_answer k ≡ false
not_over (Kind.Migrated n) h = absurd (false≢true h)
not_over k h = refl

-- what was noted goes on
goes_on : (s : After) (a : ℕ) (o : Op) (xs zs : List Migrating) (k : Kind) (vs us : List View) → is_mild k ≡ true
    → Places_fresh xs k
    → Sourced xs zs → top_source us ≡ top_source vs → Noted s o xs vs → Noted (next s a k) o zs us
goes_on s a o xs zs k vs us m f so e h = subst (AllOf (Right (next s a k)
    (mirror_proc (next s a k).plain (op_mirror o)) zs)) (sym e)
    (subst (λ p. AllOf (Right (next s a k) p zs) (top_source vs)) (ap (λ (q : Plain). mirror_proc q (op_mirror o))
    (sym (mild_plain s.plain k m)))
    (all_more (Right s (mirror_proc s.plain (op_mirror o)) xs) (Right (next s a k) (mirror_proc s.plain (op_mirror o))
    zs)
    (right_own s a (mirror_proc s.plain (op_mirror o)) xs zs k m f so) (top_source vs) h))

-- ---- above a step

stays_none : (o : Op) (xs : List Migrating) (step : MoveStep) (v : ℕ) (vs : List View) → is_later step ≡ false
    → Stays o xs step v vs
    → vs ≡ []
stays_none o xs MoveStep.FreezeOthers v vs e h = h
stays_none o xs MoveStep.TakeAndCopy v vs e h = absurd (true≢false e)
stays_none o xs MoveStep.Commit v vs e h = absurd (true≢false e)
stays_none o xs MoveStep.SetOwnTable v vs e h = absurd (true≢false e)
stays_none o xs MoveStep.Finish v vs e h = absurd (true≢false e)

pub over_none : (s : After) (t : Past) (a : ℕ) (o : Op) (xs : List Migrating) (top : Phase) (step : MoveStep) (v : ℕ)
    (vs : List View)
    → is_later step ≡ false → HoldsAll s t a (facts o xs (top ∷ Phase.Moves step v ∷ [])) → Over o xs step top v vs
    → vs ≡ []
over_none s t a o xs (Phase.Guard q r met told (Body.Fresh f)) MoveStep.Commit v vs e h m = absurd (true≢false e)
over_none s t a o xs (Phase.Guard q r met told (Body.Fresh f)) step v vs e h m = no_test h.1.1.1.0
over_none s t a o xs (Phase.Lost n f) step v vs e h m = absurd (true≢false (sym (gone_later step v n m.1.0) ∙ e))
over_none s t a o xs (Phase.Drop f) step v vs e h m = absurd (true≢false (sym m.0 ∙ e))
over_none s t a o xs (Phase.Guard q r met told body) step v vs e h m = stays_none o xs step v vs e m
over_none s t a o xs top step v vs e h m = stays_none o xs step v vs e m

over_noted : (c : Program) (s u : After) (t : Past) (a : ℕ) (o : Op) (xs : List Migrating) (top : Phase)
    (step : MoveStep) (v : ℕ)
    (after : Phase) (k : Kind) (vs : List View) → is_home o ≡ false → is_moves top ≡ false
    → HoldsAll s t a (facts o xs (top ∷ Phase.Moves step v ∷ [])) → due_phase c s a o xs top ≡ Do k
    → Over o xs step top v vs → (is_between step ≡ true → Noted s o xs vs)
    → between (after_top o top (Phase.Moves step v ∷ []) k (seen_at s o xs top k)) ≡ true
    → Notes s u a o xs top (Phase.Moves step v ∷ []) after k vs
over_noted c s u t a o xs top step v after k vs n f h d m old e = by_later (is_later step) refl
  where
    first_not : (top : Phase) → is_moves top ≡ false → is_first top ≡ false
    first_not (Phase.Moves step v) f = absurd (true≢false f)
    first_not top f = refl

    by_later : (b : Bool) → is_later step ≡ b → Notes s u a o xs top (Phase.Moves step v ∷ []) after k vs
    by_later false l = none_noted s u a o xs top (Phase.Moves step v ∷ []) after k vs f n
        (over_none s t a o xs top step v vs l h m)
    by_later true l =
        let b : is_between step ≡ true = over_stays c s t a o xs top step v k l h d e in
        let y : Mildly s o xs top step v k = over_mild c s t a o xs top step v k b h d in
        goes_on s a o xs (recorded top (seen_at s o xs top k).page xs k) k vs
        (views_after vs (events_at s u a o xs (top ∷ Phase.Moves step v ∷ []) after k)) y.mild y.fresh y.same
        (source_kept vs (events_at s u a o xs (top ∷ Phase.Moves step v ∷ []) after k)
        (at_source s u a o xs top (Phase.Moves step v ∷ []) after k n (not_over k y.mild) (first_not top f))) (old b)

-- ---- the set-up

there_of : (s : After) (t : Past) (a : ℕ) (o : Op) (n : ℕ) (source dest : Option Frame) (moved freezing : Bool)
    → HoldsAll s t a (known_of o n source dest moved freezing false false None)
    → s.plain.there (mirror_proc s.plain (op_mirror o)) ≡ true
there_of s t a o n None None moved freezing h = h.0.1.1
there_of s t a o n None (Some g) false freezing h = h.1.0.1.1
there_of s t a o n None (Some g) true freezing h = h.1.0.1.1
there_of s t a o n (Some f) None moved freezing h = h.1.0.1.1
there_of s t a o n (Some f) (Some g) false freezing h = h.1.0.1.1
there_of s t a o n (Some f) (Some g) true freezing h = h.1.0.1.1

collected_noted : (s : After) (t : Past) (a : ℕ) (o : Op) (xs : List Migrating) (v : ℕ)
    → HoldsAll s t a (migrating o xs MoveStep.FreezeOthers v None) → (y : View) → y.source ≡ []
    → AllOf (Right s (mirror_proc s.plain (op_mirror o)) xs)
    (top_source (views_after (y ∷ []) (map (collected s (mirror_proc s.plain (op_mirror o))) xs)))
collected_noted s t a o [] v h y e = subst (AllOf (Right s (mirror_proc s.plain (op_mirror o)) [])) (sym e) tt
collected_noted s t a o (x ∷ xs) v h y e = collected_on s (mirror_proc s.plain (op_mirror o)) (x ∷ xs) h.1.0
    (there_of s t a o x.page x.source x.dest x.moved _
    (records_each s t a o MoveStep.FreezeOthers v None (x ∷ xs) h.1.1.1 x (inl refl)).1.1)
    (x ∷ xs) (λ z i. i) y (subst (AllOf (Right s (mirror_proc s.plain (op_mirror o)) (x ∷ xs))) (sym e) tt)

-- what is noted when the pages are collected
set_up_noted : (s : After) (t : Past) (a : ℕ) (o : Op) (xs : List Migrating) (v : ℕ) (k : Kind) → is_start k ≡ false
    → HoldsAll s t a (migrating o xs MoveStep.FreezeOthers v None)
    → Noted s o xs (views_after [] (set_up s o xs (Phase.Moves MoveStep.FreezeOthers v) k))
set_up_noted s t a o xs v k e h = subst (λ es. Noted s o xs (views_after [] es)) (sym is)
    (subst (Right_all) (sym (ap top_source (views_append (set_up_view (is_to_device o) ∷ []) (map (collected s p) xs)
    (Event.Ready p ∷ [])))) (collected_noted s t a o xs v h (set_up_view (is_to_device o)) refl))
  where
    p : ℕ
    p = mirror_proc s.plain (op_mirror o)

    Right_all : List (ℕ × Bool) → Type 0
    Right_all us = AllOf (Right s (mirror_proc s.plain (op_mirror o)) xs) us

    is : set_up s o xs (Phase.Moves MoveStep.FreezeOthers v) k
        ≡ Event.Setup (mirror_proc s.plain (op_mirror o)) (pages_of o) (is_to_device o)
        (Some (mirror_dev s.plain (op_mirror o)))
        ∷ map (collected s (mirror_proc s.plain (op_mirror o))) xs ++ Event.Ready (mirror_proc s.plain (op_mirror o)) ∷
        []
    is = ap (λ b. if b then [] else
        Event.Setup (mirror_proc s.plain (op_mirror o)) (pages_of o) (is_to_device o)
        (Some (mirror_dev s.plain (op_mirror o)))
        ∷ map (collected s (mirror_proc s.plain (op_mirror o))) xs ++ Event.Ready (mirror_proc s.plain (op_mirror o)) ∷
        []) e

-- ---- a step

paged_source : (s : After) (o : Op) (xs : List Migrating) (top : Phase) → AllBe keeps_source (paged s o xs top)
paged_source s o xs top = be_when keeps_source (project.is_up_to_commits top && project.is_past_commits
    (coming s o xs top))
    (Event.Paged (mirror_proc s.plain (op_mirror o)) ∷ []) (λ e. (refl, tt))

first_source : (s u : After) (a : ℕ) (o : Op) (xs : List Migrating) (top : Phase) (below : List Phase) (after : Phase)
    (k : Kind)
    → is_migration o ≡ true → is_answer k ≡ false
    → top_source (views_after [] (events_at s u a o xs (top ∷ below) after k)) ≡ top_source
    (views_after [] (set_up s o xs top k))
first_source s u a o xs top below after k m n =
    ap top_source (views_append [] (comes_to s o xs top k) (events_by s u a o xs (top ∷ below) after k))
    ∙ (source_kept (views_after [] (comes_to s o xs top k)) (events_by s u a o xs (top ∷ below) after k)
    (by_source s u a o xs (top ∷ below) after k (not_home o m) n)
    ∙ (ap (λ b. top_source (views_after [] (if b then set_up s o xs top k ++ paged s o xs top else []))) m
    ∙ (ap top_source (views_append [] (set_up s o xs top k) (paged s o xs top))
    ∙ source_kept (views_after [] (set_up s o xs top k)) (paged s o xs top) (paged_source s o xs top))))

moves_noted : (c : Program) (s u : After) (t : Past) (a : ℕ) (o : Op) (xs : List Migrating) (step : MoveStep) (v : ℕ)
    (after : Phase) (k : Kind) (vs : List View) → HoldsAll s t a (facts o xs (Phase.Moves step v ∷ []))
    → due_phase c s a o xs (Phase.Moves step v) ≡ Do k → Stays o xs step v vs
    → (is_between step ≡ true → Noted s o xs vs)
    → between (after_top o (Phase.Moves step v) [] k (seen_at s o xs (Phase.Moves step v) k)) ≡ true
    → Notes s u a o xs (Phase.Moves step v) [] after k vs
moves_noted c s u t a o xs step v after k vs h d m old e = by_step step h m old y
  where
    y : Steps_mildly o xs step k (recorded_at (coming_page (coming s o xs (Phase.Moves step v))) xs k)
    y = subst (λ k. between (after_migration step (coming_page (coming s o xs (Phase.Moves step v))) k
        (seen_moves s o step v (coming_page (coming s o xs (Phase.Moves step v))) k)) ≡ true
        → Steps_mildly o xs step k (recorded_at (coming_page (coming s o xs (Phase.Moves step v))) xs k))
        (due_is (due_moves c s o xs (coming s o xs (Phase.Moves step v))) k d)
        (moves_mild c s o xs step v (coming s o xs (Phase.Moves step v)) refl) e

    later : (step : MoveStep) → is_first (Phase.Moves step v) ≡ false → is_migration o ≡ true
        → (is_between step ≡ true → Noted s o xs vs)
        → is_later step ≡ true
        → Steps_mildly o xs step k (recorded_at (coming_page (coming s o xs (Phase.Moves step v))) xs k)
        → Notes s u a o xs (Phase.Moves step v) [] after k vs
    later step f n old l y = goes_on s a o xs (recorded_at (coming_page (coming s o xs (Phase.Moves step v))) xs k) k vs
        (views_after vs (events_at s u a o xs (Phase.Moves step v ∷ []) after k)) y.mild y.fresh y.same
        (source_kept vs (events_at s u a o xs (Phase.Moves step v ∷ []) after k)
        (at_source s u a o xs (Phase.Moves step v) [] after k (not_home o n) (not_over k y.mild) f)) (old (y.from l))

    by_step : (step : MoveStep) → HoldsAll s t a (facts o xs (Phase.Moves step v ∷ [])) → Stays o xs step v vs
        → (is_between step ≡ true → Noted s o xs vs)
        → Steps_mildly o xs step k (recorded_at (coming_page (coming s o xs (Phase.Moves step v))) xs k)
        → Notes s u a o xs (Phase.Moves step v) [] after k vs
    by_step MoveStep.FreezeOthers h m old y = subst (Notes s u a o xs (Phase.Moves MoveStep.FreezeOthers v) [] after k)
        (sym m)
        (goes_on s a o xs (recorded_at (coming_page (coming s o xs (Phase.Moves MoveStep.FreezeOthers v))) xs k) k
        (views_after [] (set_up s o xs (Phase.Moves MoveStep.FreezeOthers v) k))
        (views_after [] (events_at s u a o xs (Phase.Moves MoveStep.FreezeOthers v ∷ []) after k)) y.mild y.fresh y.same
        (first_source s u a o xs (Phase.Moves MoveStep.FreezeOthers v) [] after k h.1.1.0 (not_over k y.mild))
        (set_up_noted s t a o xs v k (y.first refl) h.1.1))
    by_step MoveStep.TakeAndCopy h m old y = later MoveStep.TakeAndCopy refl h.1.1.0 old refl y
    by_step MoveStep.Commit h m old y = later MoveStep.Commit refl h.1.1.0 old refl y
    by_step MoveStep.SetOwnTable h m old y = later MoveStep.SetOwnTable refl h.1.1.0 old refl y
    by_step MoveStep.Finish h m old y = later MoveStep.Finish refl h.1.1.0 old refl y

-- ---- an entry anywhere

homes_none : (o : Op) (vs : List View) → is_home o ≡ false → Homes o vs → vs ≡ []
homes_none o vs n h = by_views vs (sym (ap (λ b. homes b vs) n) ∙ h)
  where
    by_views : (vs : List View) → homes false vs ≡ true → vs ≡ []
    by_views [] h = refl
    by_views (y ∷ ys) h = absurd (false≢true h)

single_noted : (c : Program) (s u : After) (t : Past) (a : ℕ) (o : Op) (xs : List Migrating) (top : Phase)
    (below : List Phase)
    (after : Phase) (k : Kind) (vs : List View) → is_home o ≡ false → HoldsAll s t a (facts o xs (top ∷ below))
    → due_phase c s a o xs top ≡ Do k → Single o xs top below vs → (own_between top ≡ true → Noted s o xs vs)
    → between (after_top o top below k (seen_at s o xs top k)) ≡ true → Notes s u a o xs top below after k vs
single_noted c s u t a o xs (Phase.Moves step v) [] after k vs n h d m old e = moves_noted c s u t a o xs step v after
    k vs h d m old e
single_noted c s u t a o xs (Phase.Moves step v) (x ∷ below) after k vs n h d m old e = absurd h.0
single_noted c s u t a o xs (Phase.Copy f g i) below after k vs n h d m old e =
    none_noted s u a o xs (Phase.Copy f g i) below after k vs refl n (homes_none o vs n m.0)
single_noted c s u t a o xs (Phase.Copied f g) below after k vs n h d m old e =
    none_noted s u a o xs (Phase.Copied f g) below after k vs refl n (homes_none o vs n m.0)
single_noted c s u t a o xs (Phase.Finish f to) below after k vs n h d m old e =
    none_noted s u a o xs (Phase.Finish f to) below after k vs refl n (homes_none o vs n m.0)
single_noted c s u t a o xs (Phase.Settle g) below after k vs n h d m old e =
    none_noted s u a o xs (Phase.Settle g) below after k vs refl n (homes_none o vs n m.0)
single_noted c s u t a o xs top below after k vs n h d m old e = none_noted s u a o xs top below after k vs refl n m.0

-- a migration's step stands on no other
pub not_two : (s : After) (t : Past) (a : ℕ) (o : Op) (xs : List Migrating) (i : MoveStep) (w : ℕ) (step : MoveStep)
    (v : ℕ)
    → HoldsAll s t a (facts o xs (Phase.Moves i w ∷ Phase.Moves step v ∷ [])) → ⊥
not_two s t a o xs i w step v h = h.0

pub noted_on : (c : Program) (s u : After) (t : Past) (a : ℕ) (o : Op) (xs : List Migrating) (top : Phase)
    (below : List Phase)
    (after : Phase) (k : Kind) (vs : List View) → is_home o ≡ false → HoldsAll s t a (facts o xs (top ∷ below))
    → due_phase c s a o xs top ≡ Do k → Sits o xs (top ∷ below) vs → (between (top ∷ below) ≡ true → Noted s o xs vs)
    → between (after_top o top below k (seen_at s o xs top k)) ≡ true → Notes s u a o xs top below after k vs
noted_on c s u t a o xs top [] after k vs n h d m old e = single_noted c s u t a o xs top [] after k vs n h d m old e
noted_on c s u t a o xs (Phase.Moves i w) (Phase.Moves step v ∷ []) after k vs n h d m old e = absurd
    (not_two s t a o xs i w step v h)
noted_on c s u t a o xs top (Phase.Moves step v ∷ []) after k vs n h d m old e =
    over_noted c s u t a o xs top step v after k vs n refl h d m old e
noted_on c s u t a o xs top (Phase.Moves step v ∷ x ∷ below) after k vs n h d m old e =
    absurd (nothing_below s t a o xs top step v x below h)
noted_on c s u t a o xs top (x ∷ below) after k vs n h d m old e =
    single_noted c s u t a o xs top (x ∷ below) after k vs n h d m old e
