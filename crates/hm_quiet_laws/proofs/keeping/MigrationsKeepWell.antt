-- A migration that meets nobody keeps no page for another's sake, at all its stacks.
use Rattle.std.proofs.Common.{◌≡◌, ℕ, ◌+◌, Bool, true, false, nat_lt, if◌then◌else◌, Option, Some, None, List, [], ◌∷◌, refl, sym, ap, ◌∙◌, subst}
use Rattle.hm_base.specs.Pages.{Pages}
use Rattle.hm_base.specs.Program.{Program}
use Rattle.hm_base.specs.declared.Frame.{Frame}
use Rattle.hm_base.specs.declared.ops.Op.{Op}
use Rattle.hm_history.specs.declared.phases.MoveStep.{MoveStep}
use Rattle.hm_history.specs.declared.phases.MoveStep.TheVariants.{FreezeOthers, TakeAndCopy, Commit, SetOwnTable, Finish}
use Rattle.hm_history.specs.Memory.Words.{names_directly, is_frame}
use Rattle.hm_history.specs.Memory.Plain.{in_window, mirror_proc}
use Rattle.hm_history.specs.Memory.Places.{lowest_moving, lowest_named}
use Rattle.hm_history.specs.Memory.Locks.{writer}
use Rattle.hm_history.specs.Memory.After.{After}
use Rattle.hm_history.specs.Kernel.Operation.{op_mirror, is_migration}
use Rattle.hm_history.specs.Kernel.Due.{to_tell, due_guard, due_begin, due_ready, due_finish, settle, in_window_rlock, due_phase}
use Rattle.hm_history.specs.declared.Kind.{Kind}
use Rattle.hm_history.specs.declared.phases.Migrating.{Migrating}
use Rattle.hm_history.specs.declared.phases.Body.{Body}
use Rattle.hm_history.specs.declared.phases.Phase.{Phase}
use Rattle.hm_history.specs.declared.phases.Next.TheVariants.{Do}
use Rattle.hm_history.proofs.Frames.{is_frame_from}
use Rattle.hm_laws.specs.Records.{same_step}
use Rattle.hm_laws.specs.Past.{Past}
use Rattle.hm_laws.specs.Sound.{Sound}
use Rattle.hm_laws.specs.Records.{is_past, Among}
use Rattle.hm_laws.specs.Facts.{HoldsAll, facts, readying}
use Rattle.hm_laws.proofs.Migration.Records.{one_of_page, source_found}
use Rattle.hm_laws.proofs.Due.Good.{Good, either, either_option}
use Rattle.hm_quiet_laws.proofs.measure.Shapes.{on_moves, no_test}
use Rattle.hm_quiet_laws.proofs.keeping.FreshPages.{FreshAt, StaysFresh}
use Rattle.hm_quiet_laws.proofs.alone.NeverWaits.{Alone}
use Rattle.hm_quiet_laws.proofs.accesses.HomeFalls.{moving_names, named_directly}
use Rattle.hm_quiet_laws.proofs.migrations.StepsFall.{known_page}
use Rattle.hm_quiet_laws.proofs.keeping.FreshStays.{Keeps, select_keeps, freeze_keeps, fresh_keeps}
use Rattle.hm_quiet_laws.proofs.keeping.MovesKeepWell.{moves_keeps}

begin_at : (c : Program) (s : After) (a : ℕ) (o : Op) (xs : List Migrating) (m : ℕ) (r : Pages) → Keeps c s a o xs Phase.Begin [] (Do (Kind.Rlock (mirror_proc s.plain m))) → Keeps c s a o xs Phase.Begin [] (in_window_rlock s m r)
begin_at c s a o xs m r h = either (Keeps c s a o xs Phase.Begin []) (in_window s.plain m r) _ _ (λ e. either_option (Keeps c s a o xs Phase.Begin []) (writer s.locks (mirror_proc s.plain m)) _ _ (λ w. h) (λ b w. tt)) (λ e. (tt, refl))

begin_keeps : (c : Program) (s : After) (a : ℕ) (o : Op) (xs : List Migrating) → is_migration o ≡ true → Keeps c s a o xs Phase.Begin [] (due_begin s a o)
begin_keeps c s a (Op.ToDevice m r) xs i = begin_at c s a (Op.ToDevice m r) xs m r (tt, refl)
begin_keeps c s a (Op.ToSystem m r) xs i = begin_at c s a (Op.ToSystem m r) xs m r (tt, refl)
begin_keeps c s a o xs i = absurd (no_test i)

ready_keeps : (c : Program) (s : After) (t : Past) (a : ℕ) (o : Op) (xs : List Migrating) → is_migration o ≡ true → HoldsAll s t a (readying o xs) → Keeps c s a o xs Phase.Ready [] (Do (due_ready s o))
ready_keeps c s t a (Op.ToDevice m r) [] i h = ((λ w j e p. absurd j), refl)
ready_keeps c s t a (Op.ToSystem m r) [] i h = ((λ w j e p. absurd j), refl)
ready_keeps c s t a (Op.ToDevice m r) (x ∷ xs) i h = absurd (no_test h.0)
ready_keeps c s t a (Op.ToSystem m r) (x ∷ xs) i h = absurd (no_test h.0)
ready_keeps c s t a o xs i h = absurd (no_test i)

-- a fresh page is none of a frame's
apart_from : (c : Program) (s : After) (t : Past) (a : ℕ) (o : Op) (xs : List Migrating) (p : ℕ) (r : Pages) (met : Bool) (told : Option ℕ) (f : Frame) (step : MoveStep) (v : ℕ) → Sound c s t → HoldsAll s t a (facts o xs (Phase.Guard p r met told (Body.Freeze f) ∷ Phase.Moves step v ∷ [])) →
    (w : Migrating) → Among xs w → w.source ≡ None → is_frame (names_directly (s.places.place p r.first)) f ≡ true → w.page ≡ r.first → ⊥
apart_from c s t a o xs p r met told f step v so h w i e d k = none (sym e ∙ (ap (λ (y : Migrating). y.source) same ∙ z.3))
  where
    none : None ≡ Some f → ⊥
    none j = cc

    z : (y : Migrating) × Among xs y × (y.page ≡ v) × (y.source ≡ Some f)
    z = source_found f v xs h.1.1.1.1.0

    there : Among xs (record { page = v; source = Some f; dest = z.0.dest; moved = z.0.moved })
    there = subst (λ n. Among xs (record { page = n; source = Some f; dest = z.0.dest; moved = z.0.moved })) z.2 (subst (λ g. Among xs (record { page = z.0.page; source = g; dest = z.0.dest; moved = z.0.moved })) z.3 z.1)

    on_page : r.first ≡ v
    on_page = so.frames.one_page (mirror_proc s.plain (op_mirror o)) v p r.first f (moving_names _ f (known_page s t a o xs step v f z.0.dest z.0.moved h.1.1.1.1.1.1.1.1 there)) (named_directly (s.places.place p r.first) f (is_frame_from (names_directly (s.places.place p r.first)) f d))

    same : w ≡ z.0
    same = one_of_page xs w z.0 h.1.1.1.1.1.1.0 i z.1 (k ∙ (on_page ∙ sym z.2))

past_commit : (step : MoveStep) (v u : ℕ) → same_step step Commit ≡ true → nat_lt u v ≡ true → is_past step v Commit u ≡ true
past_commit FreezeOthers v u h l = absurd (no_test h)
past_commit TakeAndCopy v u h l = absurd (no_test h)
past_commit Commit v u h l = l
past_commit SetOwnTable v u h l = refl
past_commit Finish v u h l = refl

guard_keeps : (c : Program) (s : After) (t : Past) (a : ℕ) (o : Op) (xs : List Migrating) (p : ℕ) (r : Pages) (met : Bool) (told : Option ℕ) (body : Body) (below : List Phase) → Sound c s t → Alone s a → HoldsAll s t a (facts o xs (Phase.Guard p r met told body ∷ below)) → on_moves (Phase.Guard p r met told body ∷ below) ≡ true → StaysFresh s o xs (Phase.Guard p r met told body ∷ below) → Good c s t a o xs (Phase.Guard p r met told body) below (Do (due_guard s a o p r met told body)) →
    Keeps c s a o xs (Phase.Guard p r met told body) below (Do (due_guard s a o p r met told body))
guard_keeps c s t a o xs p r met told (Body.Select n) (Phase.Moves step v ∷ []) so al h e fr gd = subst (λ q. Good c s t a o xs (Phase.Guard q r met told (Body.Select n)) (Phase.Moves step v ∷ []) (Do (due_guard s a o q r met told (Body.Select n))) → Keeps c s a o xs (Phase.Guard q r met told (Body.Select n)) (Phase.Moves step v ∷ []) (Do (due_guard s a o q r met told (Body.Select n)))) (sym h.1.1.0.1)
    (select_keeps c s t a o xs r met told n step v al h.1.1.1.1.1.1.0 fr) gd
guard_keeps c s t a o xs p r met told (Body.Freeze f) (Phase.Moves step v ∷ []) so al h e fr gd = freeze_keeps c s t a o xs p r met told f step v (apart_from c s t a o xs p r met told f step v so h) fr gd
guard_keeps c s t a o xs p r met told (Body.Fresh g) (Phase.Moves step v ∷ []) so al h e fr gd = fresh_keeps c s t a o xs p r met told g step v (past_commit step v r.first h.1.1.1.0 h.1.1.1.1.0) fr.1 fr.0 gd
guard_keeps c s t a o xs p r met told Body.Nothing (Phase.Moves step v ∷ []) so al h e fr gd = either_option (λ k. Keeps c s a o xs (Phase.Guard p r met told Body.Nothing) (Phase.Moves step v ∷ []) (Do k)) (to_tell s p r met told) _ _ (λ i. (fr, refl)) (λ m i. (fr, refl))
guard_keeps c s t a o xs p r met told body below so al h e fr gd = absurd (no_test e)

copy_keeps : (c : Program) (s : After) (a : ℕ) (o : Op) (xs : List Migrating) (f g : Frame) (k : ℕ) (below : List Phase) → on_moves (Phase.Copy f g k ∷ below) ≡ true → StaysFresh s o xs (Phase.Copy f g k ∷ below) → Keeps c s a o xs (Phase.Copy f g k) below (Do (Kind.Copied f g (Some k)))
copy_keeps c s a o xs f g k (Phase.Moves step v ∷ []) e fr = by (nat_lt k 7)
  where
    by : (b : Bool) → StaysFresh s o xs (if b then Phase.Copy f g (k + 1) ∷ Phase.Moves step v ∷ [] else (Phase.Moves step v ∷ [])) × (true ≡ true)
    by true = (fr, refl)
    by false = (fr, refl)
copy_keeps c s a o xs f g k below e fr = absurd (no_test e)

-- in the last step no fresh page is to be placed
late : (s : After) (o : Op) (xs : List Migrating) (step : MoveStep) (v : ℕ) → same_step step Finish ≡ true → FreshAt s o xs step v
late s o xs FreezeOthers v e = absurd (no_test e)
late s o xs TakeAndCopy v e = absurd (no_test e)
late s o xs Commit v e = absurd (no_test e)
late s o xs SetOwnTable v e = absurd (no_test e)
late s o xs Finish v e = λ w i j p. absurd (no_test (sym p))

finish_keeps : (c : Program) (s : After) (t : Past) (a : ℕ) (o : Op) (xs : List Migrating) (f : Frame) (to : Option Frame) (below : List Phase) → on_moves (Phase.Finish f to ∷ below) ≡ true → HoldsAll s t a (facts o xs (Phase.Finish f to ∷ below)) → Keeps c s a o xs (Phase.Finish f to) below (Do (due_finish s f to))
finish_keeps c s t a o xs f (Some g) (Phase.Moves step v ∷ []) e h = either_option (λ k. Keeps c s a o xs (Phase.Finish f (Some g)) (Phase.Moves step v ∷ []) (Do k)) (lowest_moving s.places f) _ _ (λ i. (tt, refl)) (λ x i. (tt, refl))
finish_keeps c s t a o xs f None (Phase.Moves step v ∷ []) e h = either_option (λ k. Keeps c s a o xs (Phase.Finish f None) (Phase.Moves step v ∷ []) (Do k)) (lowest_moving s.places f) _ _ (λ i. either_option (λ k. Keeps c s a o xs (Phase.Finish f None) (Phase.Moves step v ∷ []) (Do k)) (lowest_named s.places f) _ _ (λ j. (late s o xs step v h.1.1.1.1.0, refl)) (λ x j. (late s o xs step v h.1.1.1.1.0, refl))) (λ x i. (tt, refl))
finish_keeps c s t a o xs f to below e h = absurd (no_test e)

settle_keeps : (c : Program) (s : After) (t : Past) (a : ℕ) (o : Op) (xs : List Migrating) (g : Frame) (below : List Phase) → on_moves (Phase.Settle g ∷ below) ≡ true → HoldsAll s t a (facts o xs (Phase.Settle g ∷ below)) → Keeps c s a o xs (Phase.Settle g) below (Do (settle s g))
settle_keeps c s t a o xs g (Phase.Moves step v ∷ []) e h = either_option (λ k. Keeps c s a o xs (Phase.Settle g) (Phase.Moves step v ∷ []) (Do k)) (lowest_named s.places g) _ _ (λ i. (late s o xs step v h.1.1.1.1.0, refl)) (λ x i. (late s o xs step v h.1.1.1.1.0, refl))
settle_keeps c s t a o xs g below e h = absurd (no_test e)

pub all_keep : (c : Program) (o : Op) → is_migration o ≡ true → (s : After) (t : Past) (a : ℕ) (xs : List Migrating) (top : Phase) (below : List Phase) → Sound c s t → Alone s a → HoldsAll s t a (facts o xs (top ∷ below)) → on_moves (top ∷ below) ≡ true → StaysFresh s o xs (top ∷ below) → Good c s t a o xs top below (due_phase c s a o xs top) → Keeps c s a o xs top below (due_phase c s a o xs top)
all_keep c o i s t a xs Phase.Begin [] so al h e w g = begin_keeps c s a o xs i
all_keep c o i s t a xs Phase.Begin (y ∷ ys) so al h e w g = absurd h.0
all_keep c o i s t a xs Phase.Ready [] so al h e w g = ready_keeps c s t a o xs i h.1.1
all_keep c o i s t a xs Phase.Ready (y ∷ ys) so al h e w g = absurd h.0
all_keep c o i s t a xs (Phase.Moves step v) [] so al h e w g = moves_keeps c s t a o xs step v so h w
all_keep c o i s t a xs (Phase.Moves step v) (y ∷ ys) so al h e w g = absurd h.0
all_keep c o i s t a xs (Phase.Guard p r met told body) below so al h e w g = guard_keeps c s t a o xs p r met told body below so al h e w g
all_keep c o i s t a xs (Phase.Copy k l n) below so al h e w g = copy_keeps c s a o xs k l n below e w
all_keep c o i s t a xs (Phase.Finish k to) below so al h e w g = finish_keeps c s t a o xs k to below e h
all_keep c o i s t a xs (Phase.Settle k) below so al h e w g = settle_keeps c s t a o xs k below e h
all_keep c o i s t a xs (Phase.Lost u k) below so al h e w g = absurd w
all_keep c o i s t a xs (Phase.Drop k) below so al h e w g = absurd w
all_keep c o i s t a xs top below so al h e w g = absurd (no_test e)
