-- Migrations at all their stacks.
use Rattle.std.proofs.Common.{◌≡◌, ℕ, Bool, true, Option, Some, None, List, [], ◌∷◌, refl, arith}
use Rattle.hm_base.specs.Pages.{Pages}
use Rattle.hm_base.specs.Program.{Program}
use Rattle.hm_base.specs.declared.Frame.{Frame}
use Rattle.hm_base.specs.declared.ops.Op.{Op}
use Rattle.hm_history.specs.Memory.After.{After}
use Rattle.hm_history.specs.Kernel.Operation.{is_migration}
use Rattle.hm_history.specs.Kernel.Due.{due_guard, due_phase}
use Rattle.hm_history.specs.declared.KeptAt.{KeptAt}
use Rattle.hm_history.specs.declared.KeptWhy.{KeptWhy}
use Rattle.hm_history.specs.declared.Kind.{Kind}
use Rattle.hm_history.specs.declared.phases.Migrating.{Migrating}
use Rattle.hm_history.specs.declared.phases.Body.{Body}
use Rattle.hm_history.specs.declared.phases.Phase.{Phase}
use Rattle.hm_history.specs.declared.phases.Next.TheVariants.{Do}
use Rattle.hm_laws.specs.Past.{Past}
use Rattle.hm_laws.specs.Sound.{Sound}
use Rattle.hm_laws.specs.Facts.{HoldsAll, facts}
use Rattle.hm_laws.proofs.Due.Good.{Good}
use Rattle.hm_quiet_laws.proofs.measure.Counts.{Few}
use Rattle.hm_quiet_laws.proofs.measure.Shapes.{on_move_body, is_moves, no_test}
use Rattle.hm_quiet_laws.proofs.alone.Ends.{StepsTo, EachFalls}
use Rattle.hm_quiet_laws.proofs.accesses.OperationsFall.{in_seven}
use Rattle.hm_quiet_laws.proofs.migrations.StepsFall.{OnMoves}
use Rattle.hm_quiet_laws.proofs.migrations.MovesFall.{moves_steps}
use Rattle.hm_quiet_laws.proofs.migrations.GuardsFall.{told_inm, freeze_inm, nothing_inm, fresh_inm, copy_m, finish_m, settle_m}
use Rattle.hm_quiet_laws.proofs.migrations.SelectionFalls.{select_in, ready_m, begin_m}

guard_steps : (c : Program) (s : After) (t : Past) (a : ℕ) (o : Op) (xs : List Migrating) (p : ℕ) (r : Pages) (met : Bool) (told : Option ℕ) (body : Body) (below : List Phase) → Sound c s t → Few c s → on_move_body body below ≡ true → HoldsAll s t a (facts o xs (Phase.Guard p r met told body ∷ below)) → Good c s t a o xs (Phase.Guard p r met told body) below (Do (due_guard s a o p r met told body)) →
    StepsTo c s a o xs (Phase.Guard p r met told body) below OnMoves (Do (due_guard s a o p r met told body))
guard_steps c s t a o xs p r met told (Body.Select n) (Phase.Moves step v ∷ []) so fw e h gd = told_inm c s t a o xs p r met told (Body.Select n) (Phase.Moves step v ∷ []) so e (select_in c s t a o xs p r met told n step v fw h.1.1.1.1.1.1.0) gd
guard_steps c s t a o xs p r met told (Body.Freeze f) (Phase.Moves step v ∷ []) so fw e h gd = told_inm c s t a o xs p r met told (Body.Freeze f) (Phase.Moves step v ∷ []) so e (freeze_inm c s t a o xs p r met told f step v) gd
guard_steps c s t a o xs p r met told (Body.Fresh g) (Phase.Moves step v ∷ []) so fw e h gd = told_inm c s t a o xs p r met told (Body.Fresh g) (Phase.Moves step v ∷ []) so e (fresh_inm c s t a o xs p r met told g step v h.1.1.1.1.1.1.1.1.1.1.1.0 h.1.1.1.1.1.0) gd
guard_steps c s t a o xs p r met told Body.Nothing (Phase.Moves step v ∷ []) so fw e h gd = told_inm c s t a o xs p r met told Body.Nothing (Phase.Moves step v ∷ []) so e (nothing_inm c s t a o xs p r met told step v) gd
guard_steps c s t a o xs p r met told body below so fw e h gd = absurd (no_test e)

copy_at : (c : Program) (s : After) (t : Past) (a : ℕ) (o : Op) (xs : List Migrating) (f g : Frame) (k : ℕ) (below : List Phase) → is_moves below ≡ true → HoldsAll s t a (facts o xs (Phase.Copy f g k ∷ below)) → StepsTo c s a o xs (Phase.Copy f g k) below OnMoves (Do (Kind.Copied f g (Some k)))
copy_at c s t a o xs f g k (Phase.Moves step v ∷ []) e h = copy_m c s a o xs f g k step v (in_seven k h.1.1.1.0)
copy_at c s t a o xs f g k below e h = absurd (no_test e)

finish_at : (c : Program) (s : After) (t : Past) (a : ℕ) (o : Op) (xs : List Migrating) (f : Frame) (to : Option Frame) (below : List Phase) → Sound c s t → Few c s → is_moves below ≡ true → HoldsAll s t a (facts o xs (Phase.Finish f to ∷ below)) → Good c s t a o xs (Phase.Finish f to) below (due_phase c s a o xs (Phase.Finish f to)) → StepsTo c s a o xs (Phase.Finish f to) below OnMoves (due_phase c s a o xs (Phase.Finish f to))
finish_at c s t a o xs f None (Phase.Moves step v ∷ []) so fw e h gd = finish_m c s t a o xs f None step v so fw h.1.1.1.1.0 gd
finish_at c s t a o xs f (Some g) (Phase.Moves step v ∷ []) so fw e h gd = finish_m c s t a o xs f (Some g) step v so fw h.1.1.1.1.0 gd
finish_at c s t a o xs f to below so fw e h gd = absurd (no_test e)

settle_at : (c : Program) (s : After) (a : ℕ) (o : Op) (xs : List Migrating) (g : Frame) (below : List Phase) → is_moves below ≡ true → StepsTo c s a o xs (Phase.Settle g) below OnMoves (due_phase c s a o xs (Phase.Settle g))
settle_at c s a o xs g (Phase.Moves step v ∷ []) e = settle_m c s a o xs g step v
settle_at c s a o xs g below e = absurd (no_test e)

lost_at : (c : Program) (s : After) (a : ℕ) (o : Op) (xs : List Migrating) (u : ℕ) (g : Frame) (below : List Phase) → is_moves below ≡ true → StepsTo c s a o xs (Phase.Lost u g) below OnMoves (Do (Kind.Kept (KeptAt.Page u) KeptWhy.Lost))
lost_at c s a o xs u g (Phase.Moves step v ∷ []) e = (omega arith, refl)
lost_at c s a o xs u g below e = absurd (no_test e)

drop_at : (c : Program) (s : After) (a : ℕ) (o : Op) (xs : List Migrating) (g : Frame) (below : List Phase) → is_moves below ≡ true → StepsTo c s a o xs (Phase.Drop g) below OnMoves (Do (Kind.Drop g))
drop_at c s a o xs g (Phase.Moves step v ∷ []) e = (omega arith, refl)
drop_at c s a o xs g below e = absurd (no_test e)

pub moves_falls : (c : Program) (o : Op) → is_migration o ≡ true → EachFalls c o OnMoves
moves_falls c o i s t a xs Phase.Begin [] so f al h e g = begin_m c s a o xs i
moves_falls c o i s t a xs Phase.Begin (y ∷ ys) so f al h e g = absurd h.0
moves_falls c o i s t a xs Phase.Ready [] so f al h e g = ready_m c s t a o xs i f h.1.1
moves_falls c o i s t a xs Phase.Ready (y ∷ ys) so f al h e g = absurd h.0
moves_falls c o i s t a xs (Phase.Moves step v) [] so f al h e g = moves_steps c s t a o xs step v so f h g
moves_falls c o i s t a xs (Phase.Moves step v) (y ∷ ys) so f al h e g = absurd h.0
moves_falls c o i s t a xs (Phase.Guard p r met told body) below so f al h e g = guard_steps c s t a o xs p r met told body below so f e h g
moves_falls c o i s t a xs (Phase.Copy k l n) below so f al h e g = copy_at c s t a o xs k l n below e h
moves_falls c o i s t a xs (Phase.Finish k to) below so f al h e g = finish_at c s t a o xs k to below so f e h g
moves_falls c o i s t a xs (Phase.Settle k) below so f al h e g = settle_at c s a o xs k below e
moves_falls c o i s t a xs (Phase.Lost u k) below so f al h e g = lost_at c s a o xs u k below e
moves_falls c o i s t a xs (Phase.Drop k) below so f al h e g = drop_at c s a o xs k below e
moves_falls c o i s t a xs top below so f al h e g = absurd (no_test e)
