-- The entries of a migration's step that lead to one between its set-up and its end are mild.
use Rattle.std.proofs.Common.{refl, ap, sym, subst, ◌∙◌}
use Rattle.std.proofs.lemmas.Bool.{true≢false, false≢true}
use Rattle.std.specs.Prelude.{◌≡◌, ℕ, ◌+◌, Bool, true, false, if◌then◌else◌, Option, Some}
use Rattle.std.specs.Prelude.{None}
use Rattle.std.specs.Prelude.{List, [], ◌∷◌}
use Rattle.hm_base.specs.Pages.{one_page}
use Rattle.hm_base.specs.Program.{Program}
use Rattle.hm_base.specs.declared.cause.Cause.{Cause}
use Rattle.hm_base.specs.declared.Frame.{Frame}
use Rattle.hm_base.specs.declared.ops.Op.{Op}
use Rattle.hm_history.specs.Memory.Words.{writable, place_in}
use Rattle.hm_history.specs.Memory.Plain.{mirror_proc}
use Rattle.hm_history.specs.Memory.Places.{lowest_direct, lowest_moving, lowest_named, lowest_free}
use Rattle.hm_history.specs.Memory.After.{After}
use Rattle.hm_history.specs.Kernel.Operation.{op_mirror}
use Rattle.hm_history.specs.Kernel.Stacks.{after_finish, after_moves, after_migration, finishing}
use Rattle.hm_history.specs.Kernel.Going.{recorded_at, coming, coming_page}
use Rattle.hm_history.specs.Kernel.Due.{target_of}
use Rattle.hm_history.specs.Kernel.Due.{has_no_frame, due_moves, due_step, others_of, fetch_page, commit_page}
use Rattle.hm_history.specs.Kernel.Due.{finish_page, start_entry, skips, pool_of}
use Rattle.hm_history.specs.declared.KeptAt.{KeptAt}
use Rattle.hm_history.specs.declared.KeptWhy.{KeptWhy}
use Rattle.hm_history.specs.declared.Kind.{Kind}
use Rattle.hm_history.specs.declared.phases.Migrating.{Migrating}
use Rattle.hm_history.specs.declared.phases.MoveStep.{MoveStep}
use Rattle.hm_history.specs.declared.phases.Phase.{Phase}
use Rattle.hm_laws.specs.Records.{Among}
use Rattle.hm_laws.proofs.Migration.EachStep.{from_first}
use Rattle.hm_laws.proofs.Migration.Good.{seen_moves}
use Rattle.hm_protocol.specs.Projection.{is_start}
use Rattle.hm_protocol.proofs.Coming.{last_only}
use Rattle.hm_protocol.proofs.Sitting.{is_later}
use Rattle.hm_protocol.proofs.FoundMoves.{Found, FoundAt, found_at}
use Rattle.hm_protocol.proofs.Rights.{is_mild, Places_fresh, Sourced, is_between, between}
use Rattle.hm_protocol.proofs.RightMoves.{same_records, with_same, finish_stays}

-- ---- a migration's step

-- what an entry of a step is that leads to a step in between
pub record Steps_mildly (o : Op) (xs : List Migrating) (step : MoveStep) (k : Kind) (zs : List Migrating) : Type 0 where
  pub mild : is_mild k ≡ true
  pub fresh : Places_fresh xs k
  pub same : Sourced xs zs
  pub from : is_later step ≡ true → is_between step ≡ true
  pub first : is_later step ≡ false → is_start k ≡ false

-- it does so if it leads there
abbrev Stepping : After → Op → List Migrating → MoveStep → ℕ → Option Migrating → Kind → Type 0
Stepping s o xs step v x k = between (after_migration step x k (seen_moves s o step v x k)) ≡ true
    → Steps_mildly o xs step k (recorded_at x xs k)

finishing_not : (step : MoveStep) (x : Migrating) (k : Kind) → between (finishing x k) ≡ true → ⊥
finishing_not step x k e = by_source x.source (if x.moved then x.dest else None) k e
  where
    ends : (f : Frame) (to : Option Frame) (k : Kind)
        → between (after_finish f to (Phase.Moves MoveStep.Finish (x.page + 1) ∷ []) k) ≡ true → ⊥
    ends f to k e = false≢true (finish_stays f to MoveStep.Finish (x.page + 1) k e)

    by_source : (source to : Option Frame) (k : Kind) → between (elim source as (λ y. List Phase) [
      | None ↦ Phase.Moves MoveStep.Finish (x.page + 1) ∷ []
      | Some f ↦ after_finish f to (Phase.Moves MoveStep.Finish (x.page + 1) ∷ []) k
    ]) ≡ true → ⊥
    by_source None to k e = false≢true e
    by_source (Some f) to k e = ends f to k e

pub from_between : (s : After) (o : Op) (xs : List Migrating) (step : MoveStep) (v : ℕ) (i : MoveStep) (x : Migrating)
    → coming s o xs (Phase.Moves step v) ≡ Some (i, x) → is_between i ≡ true → is_later step ≡ true
    → is_between step ≡ true
from_between s o xs MoveStep.FreezeOthers v i x e b l = absurd (false≢true l)
from_between s o xs MoveStep.TakeAndCopy v i x e b l = refl
from_between s o xs MoveStep.Commit v i x e b l = refl
from_between s o xs MoveStep.SetOwnTable v i x e b l = refl
from_between s o xs MoveStep.Finish v i x e b l = absurd (false≢true (sym (ap is_between (last_only s o xs v i x e)) ∙
    b))

others_step : (s : After) (o : Op) (xs : List Migrating) (v : ℕ) (n : ℕ) (source dest : Option Frame) (moved : Bool)
    → Stepping s o xs MoveStep.FreezeOthers v (Some (record { page = n; source = source; dest = dest; moved = moved }))
    (others_of s source)
others_step s o xs v n None dest moved e = absurd (false≢true e)
others_step s o xs v n (Some f) dest moved e = absurd (by_direct (lowest_direct s.places f) e)
  where
    x : Migrating
    x = record { page = n; source = Some f; dest = dest; moved = moved }

    by_direct : (y : Option (ℕ × ℕ)) → between (after_moves MoveStep.FreezeOthers
        (record { page = n; source = Some f; dest = dest; moved = moved })
        (elim y as (λ y. Kind) [ Some y ↦ start_entry s y.0 (one_page y.1) | None ↦ Kind.Refused Cause.Never ])
        (seen_moves s o MoveStep.FreezeOthers v
        (Some (record { page = n; source = Some f; dest = dest; moved = moved }))
        (elim y as (λ y. Kind) [ Some y ↦ start_entry s y.0 (one_page y.1) | None ↦ Kind.Refused Cause.Never ]))) ≡
        true → ⊥
    by_direct None e = finishing_not MoveStep.FreezeOthers
        (record { page = n; source = Some f; dest = dest; moved = moved }) (Kind.Refused Cause.Never) e
    by_direct (Some y) e = false≢true e

take_step : (c : Program) (s : After) (o : Op) (xs : List Migrating) (step : MoveStep) (v : ℕ) (x : Migrating)
    → coming s o xs (Phase.Moves step v) ≡ Some (MoveStep.TakeAndCopy, x) → Among xs x
    → Stepping s o xs step v (Some x) (fetch_page c s o x.page)
take_step c s o xs step v x q i e = by_skip (skips c o x.page) (lowest_free c s.places (pool_of s o))
  where
    by_skip : (b : Bool) (y : Option Frame) → Steps_mildly o xs step (elim b as (λ b. Kind) [
      | true ↦ Kind.Kept (KeptAt.Page x.page) KeptWhy.Skipped
      | false ↦ elim y as (λ y. Kind) [ Some g ↦ Kind.Take g | None ↦ Kind.Kept (KeptAt.Page x.page) KeptWhy.NoFrame ]
    ]) (recorded_at (Some x) xs (elim b as (λ b. Kind) [
      | true ↦ Kind.Kept (KeptAt.Page x.page) KeptWhy.Skipped
      | false ↦ elim y as (λ y. Kind) [ Some g ↦ Kind.Take g | None ↦ Kind.Kept (KeptAt.Page x.page) KeptWhy.NoFrame ]
    ]))
    by_skip true y = record {
      mild = refl;
      fresh = tt;
      same = same_records xs;
      from = from_between s o
          xs step v MoveStep.TakeAndCopy x q refl;
      first = λ e. refl;
    }
    by_skip false None = record {
      mild = refl;
      fresh = tt;
      same = same_records xs;
      from = from_between
          s o xs step v MoveStep.TakeAndCopy x q refl;
      first = λ e. refl;
    }
    by_skip false (Some g) = record {
      mild = refl;
      fresh = tt;
      same = with_same xs x (record x { dest = Some g }) i refl refl;
      from = from_between s o xs step v MoveStep.TakeAndCopy x q refl;
      first = λ e. refl;
    }

commit_step : (s : After) (o : Op) (xs : List Migrating) (step : MoveStep) (v n : ℕ) (source dest : Option Frame)
    (moved : Bool)
    → coming s o xs (Phase.Moves step v) ≡ Some (
      MoveStep.Commit,
      record
          { page = n; source = source; dest = dest; moved = moved },
    )
    → Found s o xs step v MoveStep.Commit (record { page = n; source = source; dest = dest; moved = moved })
    → Stepping s o xs step v (Some (record { page = n; source = source; dest = dest; moved = moved }))
    (commit_page s (mirror_proc s.plain (op_mirror o)) n source dest)
commit_step s o xs step v n source None moved q f e =
    absurd (finishing_not step (record { page = n; source = source; dest = None; moved = moved })
    (Kind.Refused Cause.Never) (no_dest source e))
  where
    no_dest : (source : Option Frame) → between (after_moves step (record
        { page = n; source = source; dest = None; moved = moved })
        (commit_page s (mirror_proc s.plain (op_mirror o)) n source None)
        (seen_moves s o step v (Some (record { page = n; source = source; dest = None; moved = moved }))
        (commit_page s (mirror_proc s.plain (op_mirror o)) n source None))) ≡ true
        → between (finishing (record { page = n; source = source; dest = None; moved = moved })
        (Kind.Refused Cause.Never)) ≡ true
    no_dest None e = e
    no_dest (Some f) e = e
commit_step s o xs step v n (Some h) (Some g) moved q f e = record {
  mild = refl;
  fresh = tt;
  same = with_same xs (record { page = n; source = Some h; dest = Some g; moved = moved })
      (record { page = n; source = Some h; dest = Some g; moved = true })
      f.among refl refl;
  from = from_between s o xs step v MoveStep.Commit _ q refl;
  first = λ e. refl;
}
commit_step s o xs step v n None (Some g) moved q f e = by_room (has_no_frame
    (s.places.place (mirror_proc s.plain (op_mirror o)) n))
  where
    by_room : (b : Bool) → Steps_mildly o xs step (elim b as (λ b. Kind) [
      | true ↦ start_entry s (mirror_proc s.plain (op_mirror o)) (one_page n)
      | false ↦ Kind.Kept (KeptAt.Page n) KeptWhy.Lost
    ]) (recorded_at (Some (record { page = n; source = None; dest = Some g; moved = moved })) xs
        (elim b as (λ b. Kind) [
          | true ↦ start_entry s (mirror_proc s.plain (op_mirror o)) (one_page n)
          | false ↦ Kind.Kept (KeptAt.Page n) KeptWhy.Lost
        ]))
    by_room true = record {
      mild = refl;
      fresh = tt;
      same = same_records xs;
      from = from_between s o xs step v MoveStep.Commit
          (record { page = n; source = None; dest = Some g; moved = moved }) q refl;
      first = λ l. absurd (false≢true (f.began l));
    }
    by_room false = record {
      mild = refl;
      fresh = tt;
      same = same_records xs;
      from = from_between s o xs step v MoveStep.Commit
          (record { page = n; source = None; dest = Some g; moved = moved }) q refl;
      first = λ e. refl;
    }

finish_step : (s : After) (o : Op) (xs : List Migrating) (step : MoveStep) (v n : ℕ) (source dest : Option Frame)
    (moved : Bool)
    → Stepping s o xs step v (Some (record { page = n; source = source; dest = dest; moved = moved }))
    (finish_page s source dest moved)
finish_step s o xs step v n None None moved e = absurd (false≢true e)
finish_step s o xs step v n None (Some g) moved e = absurd (false≢true e)
finish_step s o xs step v n (Some f) dest moved e = absurd (by_moving (lowest_moving s.places f)
    (if moved then dest else None) (lowest_named s.places f) e)
  where
    by_moving : (z : Option (ℕ × ℕ)) (to : Option Frame) (y : Option (ℕ × ℕ)) → between (after_moves step
        (record { page = n; source = Some f; dest = dest; moved = moved }) (elim z as (λ x. Kind) [
          | Some x ↦ Kind.Place x.0 x.1 (place_in (target_of f to) (writable (s.places.place x.0 x.1)))
          | None ↦ elim to as (λ x. Kind) [
            | None ↦ elim y as (λ x. Kind) [ Some x ↦ Kind.Done f | None ↦ Kind.Drop f ]
            | Some g ↦ Kind.Drop f
          ]
        ]) (seen_moves s o step v (Some (record { page = n; source = Some f; dest = dest; moved = moved }))
        (elim z as (λ x. Kind) [
          | Some x ↦ Kind.Place x.0 x.1 (place_in (target_of f to) (writable (s.places.place x.0 x.1)))
          | None ↦ elim to as (λ x. Kind) [
            | None ↦ elim y as (λ x. Kind) [ Some x ↦ Kind.Done f | None ↦ Kind.Drop f ]
            | Some g ↦ Kind.Drop f
          ]
        ]))) ≡ true → ⊥
    by_moving (Some z) to y e = finishing_not step (record { page = n; source = Some f; dest = dest; moved = moved })
        (Kind.Place z.0 z.1 (place_in (target_of f to) (writable (s.places.place z.0 z.1)))) e
    by_moving None None (Some y) e = finishing_not step
        (record { page = n; source = Some f; dest = dest; moved = moved }) (Kind.Done f) e
    by_moving None None None e = finishing_not step (record { page = n; source = Some f; dest = dest; moved = moved })
        (Kind.Drop f) e
    by_moving None (Some g) y e = finishing_not step (record { page = n; source = Some f; dest = dest; moved = moved })
        (Kind.Drop f) e

pub moves_mild : (c : Program) (s : After) (o : Op) (xs : List Migrating) (step : MoveStep) (v : ℕ)
    (r : Option (MoveStep × Migrating))
    → coming s o xs (Phase.Moves step v) ≡ r → Stepping s o xs step v (coming_page r) (due_moves c s o xs r)
moves_mild c s o xs step v None q e = absurd (false≢true e)
moves_mild c s o xs step v (Some (i, x)) q e = here i q e
  where
    at_first : (step : MoveStep) → coming s o xs (Phase.Moves step v) ≡ Some (MoveStep.FreezeOthers, x)
        → Stepping s o xs step v (Some x) (others_of s x.source)
    at_first MoveStep.FreezeOthers q e = others_step s o xs v x.page x.source x.dest x.moved e
    at_first MoveStep.TakeAndCopy q e = absurd (true≢false (ap is_later (from_first s o xs MoveStep.TakeAndCopy v x q)))
    at_first MoveStep.Commit q e = absurd (true≢false (ap is_later (from_first s o xs MoveStep.Commit v x q)))
    at_first MoveStep.SetOwnTable q e = absurd (true≢false (ap is_later (from_first s o xs MoveStep.SetOwnTable v x q)))
    at_first MoveStep.Finish q e = absurd (true≢false (ap is_later (from_first s o xs MoveStep.Finish v x q)))

    here : (i : MoveStep) → coming s o xs (Phase.Moves step v) ≡ Some (i, x)
        → Stepping s o xs step v (Some x) (due_step c s o i x)
    here MoveStep.FreezeOthers q e = at_first step q e
    here MoveStep.TakeAndCopy q e =
        let f : Found s o xs step v MoveStep.TakeAndCopy x = subst (FoundAt s o xs step v) q (found_at s o xs step v) in
        take_step c s o xs step v x q f.among e
    here MoveStep.Commit q e =
        let f : Found s o xs step v MoveStep.Commit x = subst (FoundAt s o xs step v) q (found_at s o xs step v) in
        commit_step s o xs step v x.page x.source x.dest x.moved q f e
    here MoveStep.SetOwnTable q e = record {
      mild = refl;
      fresh = tt;
      same = same_records xs;
      from = from_between s o xs step v MoveStep.SetOwnTable x q refl;
      first = λ e. refl;
    }
    here MoveStep.Finish q e = finish_step s o xs step v x.page x.source x.dest x.moved e
