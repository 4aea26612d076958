-- To which record a migration comes: it is past no commit that it has not made, and begins by taking frames.
use Rattle.std.proofs.Common.{refl, ap, sym, ◌∙◌, arith}
use Rattle.std.proofs.lemmas.Bool.{true≢false, false≢true, and_parts}
use Rattle.std.proofs.lemmas.Bool.Decides.{nat_tests}
use Rattle.std.specs.Prelude.{◌≡◌, ℕ, Bool, true, false, ◌&&◌, nat_lt, nat_le, Option, Some, None, ⊤}
use Rattle.std.specs.Prelude.{List, [], ◌∷◌, find}
use Rattle.hm_base.specs.declared.ops.Op.{Op}
use Rattle.hm_history.specs.Memory.After.{After}
use Rattle.hm_history.specs.Kernel.Going.{concerns, come_to, coming, steps_from}
use Rattle.hm_history.specs.declared.phases.Migrating.{Migrating}
use Rattle.hm_history.specs.declared.phases.MoveStep.{MoveStep}
use Rattle.hm_history.specs.declared.phases.Phase.{Phase}
use Rattle.hm_laws.specs.Records.{Among}
use Rattle.hm_laws.proofs.Migration.Coming.{find_none}
use Rattle.hm_laws.proofs.Due.Fork.{from_first}
use Rattle.hm_laws.proofs.Migration.Coming.{find_some}
use Rattle.hm_protocol.proofs.Sitting.{gone_by, is_later}

-- nothing is committed in this step, or was before
abbrev pub is_early : MoveStep → Bool
is_early MoveStep.FreezeOthers = true
is_early MoveStep.TakeAndCopy = true
is_early step = false

-- a record to which a migration comes from a page in a step
pub record Found (s : After) (o : Op) (xs : List Migrating) (step : MoveStep) (v : ℕ) (k : MoveStep) (x : Migrating) :
    Type 0 where
  pub among : Among xs x
  pub concerned : concerns s o k x ≡ true
  pub later : (u : ℕ) → gone_by step v u ≡ true → gone_by k x.page u ≡ true
  pub began : is_later step ≡ false → is_early k ≡ true

abbrev pub FoundAt : After → Op → List Migrating → MoveStep → ℕ → Option (MoveStep × Migrating) → Type 0
FoundAt s o xs step v None = ⊤
FoundAt s o xs step v (Some at) = Found s o xs step v at.0 at.1

look : (s : After) (o : Op) (xs : List Migrating) (step : MoveStep) (v : ℕ) (k : MoveStep) (rest : List MoveStep)
    (next : ℕ)
    → ((x : Migrating) → nat_le next x.page ≡ true → Among xs x → (u : ℕ) → gone_by step v u ≡ true
    → gone_by k x.page u ≡ true)
    → ((x : Migrating) → Among xs x → is_later step ≡ false → is_early k ≡ true)
    → (find (λ x. nat_le next x.page && concerns s o k x) xs ≡ None → FoundAt s o xs step v (come_to s o xs rest 0))
    → FoundAt s o xs step v (come_to s o xs (k ∷ rest) next)
look s o xs step v k rest next later began over = by_found (find (λ x. nat_le next x.page && concerns s o k x) xs) refl
  where
    by_found : (r : Option Migrating) → find (λ x. nat_le next x.page && concerns s o k x) xs ≡ r
        → FoundAt s o xs step v (elim r as (λ r. Option (MoveStep × Migrating))
        [ Some x ↦ Some (k, x) | None ↦ come_to s o xs rest 0 ])
    by_found None e = over e
    by_found (Some x) e =
        let y : Among xs x × ((nat_le next x.page && concerns s o k x) ≡ true) = find_some
        (λ x. nat_le next x.page && concerns s o k x) xs x e in
        let z : (nat_le next x.page ≡ true) × (concerns s o k x ≡ true) = and_parts (nat_le next x.page)
        (concerns s o k x) y.1 in record {
          among = y.0;
          concerned = z.1;
          later = later x z.0 y.0;
          began = began x y.0;
        }

less_to : (u v w : ℕ) → nat_lt u v ≡ true → nat_le v w ≡ true → nat_lt u w ≡ true
less_to u v w h g = grind (arith, nat_tests)

-- there is no record
no_record : (s : After) (o : Op) (xs : List Migrating) → find (λ x. nat_le 0 x.page && concerns s o
    MoveStep.TakeAndCopy x) xs ≡ None
    → (x : Migrating) → Among xs x → ⊥
no_record s o xs e x i = true≢false (sym (ap (λ b. b && true) (from_first x.page))
    ∙ find_none (λ x. nat_le 0 x.page && concerns s o MoveStep.TakeAndCopy x) xs x e i)

-- the steps after the first two come to no record, if the second comes to none
pub found_at : (s : After) (o : Op) (xs : List Migrating) (step : MoveStep) (v : ℕ)
    → FoundAt s o xs step v (coming s o xs (Phase.Moves step v))
found_at s o xs MoveStep.FreezeOthers v = look s o xs MoveStep.FreezeOthers v MoveStep.FreezeOthers
    (steps_from MoveStep.TakeAndCopy) v
    (λ x l i u e. e) (λ x i e. refl)
    (λ none. look s o xs MoveStep.FreezeOthers v MoveStep.TakeAndCopy (steps_from MoveStep.Commit) 0 (λ x l i u e. e)
    (λ x i e. refl)
    (λ none. look s o xs MoveStep.FreezeOthers v MoveStep.Commit (steps_from MoveStep.SetOwnTable) 0
    (λ x l i. absurd (no_record s o xs none x i)) (λ x i. absurd (no_record s o xs none x i))
    (λ last. look s o xs MoveStep.FreezeOthers v MoveStep.SetOwnTable (steps_from MoveStep.Finish) 0
    (λ x l i. absurd (no_record s o xs none x i)) (λ x i. absurd (no_record s o xs none x i))
    (λ last. look s o xs MoveStep.FreezeOthers v MoveStep.Finish [] 0
    (λ x l i. absurd (no_record s o xs none x i)) (λ x i. absurd (no_record s o xs none x i)) (λ last. tt)))))
found_at s o xs MoveStep.TakeAndCopy v = look s o xs MoveStep.TakeAndCopy v MoveStep.TakeAndCopy
    (steps_from MoveStep.Commit) v
    (λ x l i u e. e) (λ x i e. absurd (true≢false e))
    (λ none. look s o xs MoveStep.TakeAndCopy v MoveStep.Commit (steps_from MoveStep.SetOwnTable) 0
    (λ x l i u e. absurd (false≢true e)) (λ x i e. absurd (true≢false e))
    (λ last. look s o xs MoveStep.TakeAndCopy v MoveStep.SetOwnTable (steps_from MoveStep.Finish) 0
    (λ x l i u e. refl) (λ x i e. absurd (true≢false e))
    (λ last. look s o xs MoveStep.TakeAndCopy v MoveStep.Finish [] 0
    (λ x l i u e. refl) (λ x i e. absurd (true≢false e)) (λ last. tt))))
found_at s o xs MoveStep.Commit v = look s o xs MoveStep.Commit v MoveStep.Commit (steps_from MoveStep.SetOwnTable) v
    (λ x l i u e. less_to u v x.page e l) (λ x i e. absurd (true≢false e))
    (λ last. look s o xs MoveStep.Commit v MoveStep.SetOwnTable (steps_from MoveStep.Finish) 0
    (λ x l i u e. refl) (λ x i e. absurd (true≢false e))
    (λ last. look s o xs MoveStep.Commit v MoveStep.Finish [] 0
    (λ x l i u e. refl) (λ x i e. absurd (true≢false e)) (λ last. tt)))
found_at s o xs MoveStep.SetOwnTable v = look s o xs MoveStep.SetOwnTable v MoveStep.SetOwnTable
    (steps_from MoveStep.Finish) v
    (λ x l i u e. refl) (λ x i e. absurd (true≢false e))
    (λ last. look s o xs MoveStep.SetOwnTable v MoveStep.Finish [] 0
    (λ x l i u e. refl) (λ x i e. absurd (true≢false e)) (λ last. tt))
found_at s o xs MoveStep.Finish v = look s o xs MoveStep.Finish v MoveStep.Finish [] v
    (λ x l i u e. refl) (λ x i e. absurd (true≢false e)) (λ last. tt)
