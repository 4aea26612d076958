-- What became of the pages that a migration selected: past the taking of frames a page has one to go to, or was left for one
-- of two reasons; past the commits it moved there. `but` is a page that is placed next.
use Rattle.std.proofs.Common.{◌≡◌, ℕ, ◌+◌, ◌<◌, ◌≤◌, ◌⊎◌, inl, inr, Bool, true, false, ◌&&◌, ◌||◌, nat_le, is_some, Option, Some, None, List, [], ◌∷◌, ◌++◌, refl, sym, ap, ◌∙◌, subst, arith, nat_lt}
use Rattle.std.specs.List.{list_any}
use Rattle.std.proofs.lemmas.Bool.{cases_eq}
use Rattle.std.proofs.lemmas.Bool.Decides.{nat_tests}
use Rattle.std.proofs.lemmas.List.Folds.{list_any-append}
use Rattle.hm_base.specs.Program.{Program}
use Rattle.hm_base.specs.declared.ops.Op.{Op}
use Rattle.hm_history.specs.declared.phases.MoveStep.{MoveStep}
use Rattle.hm_history.specs.declared.phases.MoveStep.TheVariants.{FreezeOthers, TakeAndCopy, Commit, SetOwnTable, Finish}
use Rattle.hm_history.specs.Memory.After.{After}
use Rattle.hm_history.specs.Kernel.Due.{skips}
use Rattle.hm_history.specs.Kernel.Going.{coming, concerns, with_record}
use Rattle.hm_history.specs.declared.Entry.{Entry}
use Rattle.hm_history.specs.declared.phases.Migrating.{Migrating}
use Rattle.hm_history.specs.declared.phases.Phase.{Phase}
use Rattle.hm_history.proofs.Tests.{true_false}
use Rattle.hm_laws.specs.Records.{same_step}
use Rattle.hm_laws.specs.Records.{is_past, Among, rising_pages, comes_before}
use Rattle.hm_laws.proofs.Migration.Coming.{find_none, find_before}
use Rattle.hm_laws.proofs.Migration.Records.{with_among, step_says}
use Rattle.hm_quiet_laws.specs.Keeping.{lacks_frame}
use Rattle.hm_quiet_laws.proofs.migrations.RecordsLeft.{IsNext, come_by}

abbrev pub Left : Program → Op → List Entry → ℕ → Type 0
Left c o done v = (skips c o v ≡ true) ⊎ (list_any (λ e. lacks_frame v e.kind) done ≡ true)

abbrev pub But : Option ℕ → ℕ → Type 0
But None v = ⊥
But (Some u) v = v ≡ u

pub record Dealt (c : Program) (o : Op) (step : MoveStep) (v : ℕ) (but : Option ℕ) (done : List Entry) (x : Migrating) : Type 0 where
  pub taken : is_past step v TakeAndCopy x.page ≡ true → (is_some x.dest ≡ true) ⊎ Left c o done x.page
  pub moved : is_past step v Commit x.page ≡ true → is_some x.dest ≡ true → But but x.page ⊎ (x.moved ≡ true)

abbrev pub Given : Program → Op → List Migrating → MoveStep → ℕ → Option ℕ → List Entry → Type 0
Given c o xs step v but done = (x : Migrating) → Among xs x → Dealt c o step v but done x

-- an entry more
pub left_more : (c : Program) (o : Op) (done : List Entry) (e : Entry) (v : ℕ) → Left c o done v → Left c o (done ++ e ∷ []) v
left_more c o done e v (inl h) = inl h
left_more c o done e v (inr h) = inr (list_any-append (λ y. lacks_frame v y.kind) done (e ∷ []) ∙ ap (λ b. b || list_any (λ y. lacks_frame v y.kind) (e ∷ [])) h)

pub left_by : (c : Program) (o : Op) (done : List Entry) (e : Entry) (v : ℕ) → lacks_frame v e.kind ≡ true → Left c o (done ++ e ∷ []) v
left_by c o done e v h = inr (list_any-append (λ y. lacks_frame v y.kind) done (e ∷ []) ∙ (ap (λ b. list_any (λ y. lacks_frame v y.kind) done || (b || false)) h ∙ or_true (list_any (λ y. lacks_frame v y.kind) done)))
  where
    or_true : (b : Bool) → (b || true) ≡ true
    or_true true = refl
    or_true false = refl

taken_more : (c : Program) (o : Op) (done : List Entry) (e : Entry) (x : Migrating) → (is_some x.dest ≡ true) ⊎ Left c o done x.page → (is_some x.dest ≡ true) ⊎ Left c o (done ++ e ∷ []) x.page
taken_more c o done e x (inl h) = inl h
taken_more c o done e x (inr h) = inr (left_more c o done e x.page h)

pub given_more : (c : Program) (o : Op) (xs : List Migrating) (step : MoveStep) (v : ℕ) (but : Option ℕ) (done : List Entry) (e : Entry) → Given c o xs step v but done → Given c o xs step v but (done ++ e ∷ [])
given_more c o xs step v but done e gv x i = record { taken = λ p. taken_more c o done e x ((gv x i).taken p); moved = (gv x i).moved }

-- in the first step there is nothing to say
pub in_first_step : (c : Program) (o : Op) (xs : List Migrating) (step : MoveStep) (v : ℕ) (but : Option ℕ) (done : List Entry) → same_step step FreezeOthers ≡ true → Given c o xs step v but done
in_first_step c o xs step v but done e x i = record { taken = λ p. absurd (take step v x.page e p); moved = λ p d. absurd (commit step v x.page e p) }
  where
    take : (step : MoveStep) (v u : ℕ) → same_step step FreezeOthers ≡ true → is_past step v TakeAndCopy u ≡ true → ⊥
    take FreezeOthers v u e p = true_false false p refl
    take TakeAndCopy v u e p = true_false false e refl
    take Commit v u e p = true_false false e refl
    take SetOwnTable v u e p = true_false false e refl
    take Finish v u e p = true_false false e refl

    commit : (step : MoveStep) (v u : ℕ) → same_step step FreezeOthers ≡ true → is_past step v Commit u ≡ true → ⊥
    commit FreezeOthers v u e p = true_false false p refl
    commit TakeAndCopy v u e p = true_false false e refl
    commit Commit v u e p = true_false false e refl
    commit SetOwnTable v u e p = true_false false e refl
    commit Finish v u e p = true_false false e refl

turned : (i k : MoveStep) → same_step k i ≡ true → i ≡ k
turned i k e = sym (step_says k i e)

pub within_says : (step : MoveStep) (from next : ℕ) (k : MoveStep) (v : ℕ) → is_past step from k v ≡ false → is_past step next k v ≡ true → (step ≡ k) × (from ≤ v) × (v < next)
within_says step from next k v f t = let z = by (comes_before k step) (same_step k step) f t in (turned step k z.0, z.1, z.2)
  where
    by : (b d : Bool) → (b || (d && nat_lt v from)) ≡ false → (b || (d && nat_lt v next)) ≡ true → (d ≡ true) × (from ≤ v) × (v < next)
    by b d f t = (grind (arith, nat_tests), grind (arith, nat_tests), grind (arith, nat_tests))

pub over_says : (step after : MoveStep) (from : ℕ) (k : MoveStep) (v : ℕ) → IsNext step after → is_past step from k v ≡ false → is_past after 0 k v ≡ true → (step ≡ k) × (from ≤ v)
over_says step after from k v nx f t = let z = by (comes_before k after) (comes_before k step) (same_step k step) (same_step k after) (nx k) f t in (turned step k z.0, z.1)
  where
    by : (z b d i : Bool) → z ≡ (b || d) → (b || (d && nat_lt v from)) ≡ false → (z || (i && nat_lt v 0)) ≡ true → (d ≡ true) × (from ≤ v)
    by z b d i j f t = (grind (arith, nat_tests), grind (arith, nat_tests))

pub none_at : (s : After) (o : Op) (step : MoveStep) (from : ℕ) (y : Migrating) → from ≤ y.page → (nat_le from y.page && concerns s o step y) ≡ false → concerns s o step y ≡ false
none_at s o step from y l h = by (concerns s o step y) h
  where
    by : (b : Bool) → (nat_le from y.page && b) ≡ false → b ≡ false
    by b h = grind (arith, nat_tests)

later_given : (c : Program) (s : After) (o : Op) (xs : List Migrating) (done : List Entry) (step : MoveStep) (from : ℕ) (j : MoveStep) (k : ℕ) →
    ((n : MoveStep) (y : Migrating) → Among xs y → is_past step from n y.page ≡ false → is_past j k n y.page ≡ true → (step ≡ n) × (concerns s o step y ≡ false)) → Given c o xs step from None done → Given c o xs j k None done
later_given c s o xs done step from j k h gv y i = record { taken = λ p. take p (is_past step from TakeAndCopy y.page) refl; moved = λ p d. commit p d (is_past step from Commit y.page) refl }
  where
    take : is_past j k TakeAndCopy y.page ≡ true → (b : Bool) → is_past step from TakeAndCopy y.page ≡ b → (is_some y.dest ≡ true) ⊎ Left c o done y.page
    take p true e = (gv y i).taken e
    take p false e = let z = h TakeAndCopy y i e p in absurd (true_false true refl (ap (λ n. concerns s o n y) (sym z.0) ∙ z.1))

    commit : is_past j k Commit y.page ≡ true → is_some y.dest ≡ true → (b : Bool) → is_past step from Commit y.page ≡ b → ⊥ ⊎ (y.moved ≡ true)
    commit p d true e = (gv y i).moved e d
    commit p d false e = let z = h Commit y i e p in absurd (true_false (is_some y.dest) d (ap (λ n. concerns s o n y) (sym z.0) ∙ z.1))

-- at the record to which it comes, or at the end
abbrev pub GivenCome : Program → Op → List Migrating → List Entry → Option (MoveStep × Migrating) → Type 0
GivenCome c o xs done None = Given c o xs Finish 0 None done
GivenCome c o xs done (Some at) = Given c o xs at.0 at.1.page None done

pub come_given : (c : Program) (s : After) (o : Op) (xs : List Migrating) (done : List Entry) (step : MoveStep) (from : ℕ) → rising_pages xs ≡ true → Given c o xs step from None done → GivenCome c o xs done (coming s o xs (Phase.Moves step from))
come_given c s o xs done step from r gv = come_by s o xs (λ st n. Given c o xs st n None done) (GivenCome c o xs done) step from (record {
  here = λ st n x h e. later_given c s o xs done st n st x.page (λ k y i f t. let w = within_says st n x.page k y.page f t in (w.0, none_at s o st n y w.1 (find_before (λ x. nat_le n x.page && concerns s o st x) xs x y r e i w.2))) h;
  over = λ st after n nx h e. later_given c s o xs done st n after 0 (λ k y i f t. let w = over_says st after n k y.page nx f t in (w.0, none_at s o st n y w.1 (find_none (λ x. nat_le n x.page && concerns s o st x) xs y e i))) h;
  ended = λ n h e y i. record { taken = λ p. (h y i).taken refl; moved = λ p d. (h y i).moved refl d };
}) gv

-- past one page more
pub past_other : (step : MoveStep) (v : ℕ) (k : MoveStep) (u : ℕ) → (u ≡ v → ⊥) → is_past step (v + 1) k u ≡ true → is_past step v k u ≡ true
past_other step v k u ne p = by (comes_before k step) (same_step k step) p
  where
    by : (b d : Bool) → (b || (d && nat_lt u (v + 1))) ≡ true → (b || (d && nat_lt u v)) ≡ true
    by b d p = grind (arith, nat_tests)

pub dealt_other : (c : Program) (o : Op) (xs : List Migrating) (step : MoveStep) (v : ℕ) (but : Option ℕ) (done : List Entry) (e : Entry) → Given c o xs step v None done → (y : Migrating) → Among xs y → (y.page ≡ v → ⊥) → Dealt c o step (v + 1) but (done ++ e ∷ []) y
dealt_other c o xs step v but done e gv y i ne = record {
  taken = λ p. taken_more c o done e y ((gv y i).taken (past_other step v TakeAndCopy y.page ne p));
  moved = λ p d. on ((gv y i).moved (past_other step v Commit y.page ne p) d);
}
  where
    on : ⊥ ⊎ (y.moved ≡ true) → But but y.page ⊎ (y.moved ≡ true)
    on (inl h) = absurd h
    on (inr h) = inr h

pub given_past : (c : Program) (o : Op) (xs : List Migrating) (step : MoveStep) (v : ℕ) (but : Option ℕ) (done : List Entry) (e : Entry) → ((y : Migrating) → Among xs y → y.page ≡ v → Dealt c o step (v + 1) but (done ++ e ∷ []) y) → Given c o xs step v None done → Given c o xs step (v + 1) but (done ++ e ∷ [])
given_past c o xs step v but done e here gv y i = by (cases_eq y.page v)
  where
    by : (y.page ≡ v) ⊎ (y.page ≡ v → ⊥) → Dealt c o step (v + 1) but (done ++ e ∷ []) y
    by (inl k) = here y i k
    by (inr ne) = dealt_other c o xs step v but done e gv y i ne

-- a record replaced
pub given_with : (c : Program) (o : Op) (xs : List Migrating) (step : MoveStep) (v : ℕ) (but : Option ℕ) (done : List Entry) (x : Migrating) → Dealt c o step v but done x → ((y : Migrating) → Among xs y → (y.page ≡ x.page → ⊥) → Dealt c o step v but done y) → Given c o (with_record x xs) step v but done
given_with c o xs step v but done x here others y i = by (with_among x xs y i)
  where
    by : ((y ≡ x) × ((z : Migrating) × Among xs z × (z.page ≡ x.page))) ⊎ (Among xs y × (y.page ≡ x.page → ⊥)) → Dealt c o step v but done y
    by (inl j) = subst (Dealt c o step v but done) (sym j.0) here
    by (inr j) = others y j.0 j.1
