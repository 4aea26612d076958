-- A migration between its guards: the record to which it has come.
use Rattle.std.proofs.Common.{◌≡◌, ℕ, ◌≤◌, Option, Some, None, List, [], ◌∷◌, refl, sym, subst, arith}
use Rattle.std.specs.Prelude.{count_by}
use Rattle.hm_base.specs.Program.{Program}
use Rattle.hm_base.specs.declared.ops.Op.{Op}
use Rattle.hm_history.specs.declared.phases.MoveStep.{MoveStep}
use Rattle.hm_history.specs.declared.phases.MoveStep.TheVariants.{FreezeOthers, TakeAndCopy, Commit, SetOwnTable, Finish}
use Rattle.hm_history.specs.Memory.Plain.{mirror_proc}
use Rattle.hm_history.specs.Memory.After.{After}
use Rattle.hm_history.specs.Kernel.Operation.{op_mirror}
use Rattle.hm_history.specs.Kernel.Going.{coming, coming_page}
use Rattle.hm_history.specs.Memory.Words.{writable}
use Rattle.hm_history.specs.Kernel.Due.{due_moves, due_step, right_of}
use Rattle.hm_history.specs.declared.Kind.{Kind}
use Rattle.hm_history.specs.declared.phases.Migrating.{Migrating}
use Rattle.hm_history.specs.declared.phases.Phase.{Phase}
use Rattle.hm_history.specs.declared.phases.Next.TheVariants.{Do}
use Rattle.hm_laws.specs.Past.{Past}
use Rattle.hm_laws.specs.Sound.{Sound}
use Rattle.hm_laws.specs.Facts.{HoldsAll, facts}
use Rattle.hm_laws.proofs.Migration.Coming.{Came, came_to}
use Rattle.hm_laws.proofs.Migration.EachStep.{from_first, commits_on}
use Rattle.hm_laws.proofs.Due.Good.{Good}
use Rattle.hm_quiet_laws.proofs.measure.Left.{view, records_left}
use Rattle.hm_quiet_laws.proofs.measure.Counts.{Few}
use Rattle.hm_quiet_laws.proofs.alone.Ends.{StepsTo}
use Rattle.hm_quiet_laws.proofs.migrations.RecordsLeft.{Bounds, come_bounds}
use Rattle.hm_quiet_laws.proofs.migrations.StepsFall.{OnMoves, MoveTo, others_to, fetch_to, commit_to, set_own_to, finish_page_to}

abbrev At : Program → After → Past → ℕ → Op → List Migrating → MoveStep → ℕ → Option (MoveStep × Migrating) → Type 0
At c s t a o xs step v r = coming s o xs (Phase.Moves step v) ≡ r → Bounds c (view s) step v xs r → MoveTo c s t a o xs step v (coming_page r) (due_moves c s o xs r)

at_record : (c : Program) (s : After) (t : Past) (a : ℕ) (o : Op) (xs : List Migrating) (step : MoveStep) (v : ℕ) (k : MoveStep) (x : Migrating) → Sound c s t → Few c s → Came s t a o xs k x → At c s t a o xs step v (Some (k, x))
at_record c s t a o xs step v FreezeOthers x so fw m e = subst (λ n. records_left c (view s) FreezeOthers x.page xs ≤ records_left c (view s) n v xs → MoveTo c s t a o xs n v (Some x) (due_step c s o FreezeOthers x)) (sym (from_first s o xs step v x e))
    (λ b. others_to c s t a o xs v x.page x.source x.dest x.moved so fw m.knows.1.0 m.knows.1.1.1 m.among m.concerned b)
at_record c s t a o xs step v TakeAndCopy x so fw m e = λ b. fetch_to c s t a o xs step v x.page x.source x.dest x.moved m.knows.1.0 m.among b
at_record c s t a o xs step v Commit x so fw m e = λ b. commit_to c s t a o xs step v (mirror_proc s.plain (op_mirror o)) x.page x.source x.dest x.moved fw m.knows.1.0 m.among m.concerned (commits_on s o xs step v x e) b
at_record c s t a o xs step v SetOwnTable x so fw m e = λ b. set_own_to c s t a o xs step v x (op_mirror o) (right_of (writable (s.places.place (mirror_proc s.plain (op_mirror o)) x.page))) m.among b
at_record c s t a o xs step v Finish x so fw m e = λ b. finish_page_to c s t a o xs step v x.page x.source x.dest x.moved so fw m.knows.1.1.1 m.among b

pub moves_steps : (c : Program) (s : After) (t : Past) (a : ℕ) (o : Op) (xs : List Migrating) (step : MoveStep) (v : ℕ) → Sound c s t → Few c s → HoldsAll s t a (facts o xs (Phase.Moves step v ∷ [])) → Good c s t a o xs (Phase.Moves step v) [] (Do (due_moves c s o xs (coming s o xs (Phase.Moves step v)))) → StepsTo c s a o xs (Phase.Moves step v) [] OnMoves (Do (due_moves c s o xs (coming s o xs (Phase.Moves step v))))
moves_steps c s t a o xs step v so fw h g = to g.0
  where
    ended : MoveTo c s t a o xs step v None (Kind.Migrated (count_by (λ x. x.moved) xs))
    ended k = (omega arith, refl)

    to : MoveTo c s t a o xs step v (coming_page (coming s o xs (Phase.Moves step v))) (due_moves c s o xs (coming s o xs (Phase.Moves step v)))
    to = came_to c s t a o xs step v (At c s t a o xs step v) so h.1.1 h.1.0 (record {
      here = λ k x m. at_record c s t a o xs step v k x so fw m;
      ended = λ m e b. ended;
    }) refl (come_bounds c (view s) s o xs step v)
