-- What is left of a migration's records.
use Rattle.std.proofs.lemmas.Bool.{and_parts, eqb-true}
use Rattle.std.proofs.Common.{◌≡◌, ℕ, ◌+◌, ◌*◌, ◌≤◌, inl, inr, Bool, true, false, ◌==◌, ◌&&◌, ◌||◌, nat_le, nat_lt, if◌then◌else◌, Option, Some, None, List, [], ◌∷◌, ◌++◌, refl, sym, ap, ◌∙◌, subst, arith, find, map}
use Rattle.std.proofs.lemmas.Bool.Decides.{nat_tests}
use Rattle.hm_base.specs.Program.{Program}
use Rattle.hm_base.specs.declared.Frame.{Frame}
use Rattle.hm_base.specs.declared.ops.Op.{Op}
use Rattle.hm_history.specs.declared.phases.MoveStep.{MoveStep}
use Rattle.hm_history.specs.declared.phases.MoveStep.TheVariants.{FreezeOthers, TakeAndCopy, Commit, SetOwnTable, Finish}
use Rattle.hm_history.specs.Memory.After.{After}
use Rattle.hm_history.specs.Kernel.Quiet.{guard_cost}
use Rattle.hm_history.specs.Kernel.Going.{concerns, come_to, with_record, coming, steps_from}
use Rattle.hm_history.specs.declared.phases.Phase.{Phase}
use Rattle.hm_history.specs.declared.phases.Migrating.{Migrating}
use Rattle.hm_history.proofs.Tests.{true_false}
use Rattle.hm_laws.specs.Records.{is_past, Among, WellListed, comes_before, same_step}
use Rattle.hm_laws.proofs.Migration.Records.{one_of_page}
use Rattle.hm_quiet_laws.proofs.measure.Left.{View, unless, direct_at, moving_at, source_left, record_left, sum_over, records_left}

-- sums
pub sum_most : (f g : Migrating → ℕ) (xs : List Migrating) → ((y : Migrating) → Among xs y → g y ≤ f y) → sum_over g xs ≤ sum_over f xs
sum_most f g [] h = omega arith
sum_most f g (z ∷ xs) h = omega (arith, h z (inl refl), sum_most f g xs (λ y i. h y (inr i)))

pub sum_less : (f g : Migrating → ℕ) (xs : List Migrating) (x : Migrating) (k : ℕ) → Among xs x → ((y : Migrating) → Among xs y → g y ≤ f y) → g x + k ≤ f x → sum_over g xs + k ≤ sum_over f xs
sum_less f g [] x k i h e = absurd i
sum_less f g (z ∷ xs) x k (inl i) h e = omega (arith, subst (λ w. g w + k ≤ f w) (sym i) e, sum_most f g xs (λ y j. h y (inr j)))
sum_less f g (z ∷ xs) x k (inr i) h e = omega (arith, h z (inl refl), sum_less f g xs x k i (λ y j. h y (inr j)) e)

sum_map : (f : Migrating → ℕ) (h : Migrating → Migrating) (xs : List Migrating) → sum_over f (map h xs) ≡ sum_over (λ y. f (h y)) xs
sum_map f h [] = refl
sum_map f h (x ∷ xs) = omega (arith, sum_map f h xs)

pub sum_more : (f : Migrating → ℕ) (xs : List Migrating) (x : Migrating) → sum_over f (xs ++ x ∷ []) ≡ sum_over f xs + f x
sum_more f [] x = omega arith
sum_more f (z ∷ xs) x = omega (arith, sum_more f xs x)

-- a record put in the place of one with its page and source
pub same_record : (c : Program) (y : View) (step : MoveStep) (next : ℕ) (xs : List Migrating) (x z : Migrating) → WellListed xs → Among xs z → x.page ≡ z.page → x.source ≡ z.source → records_left c y step next (with_record x xs) ≤ records_left c y step next xs
same_record c y step next xs x z wl i p q = omega (arith, sum_map (record_left c y step next) (λ w. if w.page == x.page then x else w) xs, sum_most (record_left c y step next) (λ w. record_left c y step next (if w.page == x.page then x else w)) xs (λ w j. at w j (w.page == x.page) refl))
  where
    at : (w : Migrating) → Among xs w → (b : Bool) → (w.page == x.page) ≡ b → record_left c y step next (if b then x else w) ≤ record_left c y step next w
    at w j false e = omega arith
    at w j true e = let k : w ≡ z = one_of_page xs w z wl j i (eqb-true w.page x.page e ∙ p) in
        omega (arith, ap (λ v. source_left c y step next v x.source) p ∙ (ap (source_left c y step next z.page) q ∙ ap (record_left c y step next) (sym k)))

-- as steps go on
unless_more : (b d : Bool) (n : ℕ) → (d ≡ true → b ≡ true) → unless b n ≤ unless d n
unless_more true d n h = omega arith
unless_more false true n h = absurd (true_false false (h refl) refl)
unless_more false false n h = omega arith

pub source_later : (c : Program) (y : View) (s : MoveStep) (n : ℕ) (t : MoveStep) (m v : ℕ) (x : Option Frame) → ((k : MoveStep) → is_past s n k v ≡ true → is_past t m k v ≡ true) → source_left c y t m v x ≤ source_left c y s n v x
source_later c y s n t m v None h = omega (arith, unless_more (is_past t m TakeAndCopy v) (is_past s n TakeAndCopy v) 1 (h TakeAndCopy), unless_more (is_past t m Commit v) (is_past s n Commit v) (guard_cost c + 1) (h Commit), unless_more (is_past t m SetOwnTable v) (is_past s n SetOwnTable v) 1 (h SetOwnTable), unless_more (is_past t m Finish v) (is_past s n Finish v) 1 (h Finish))
source_later c y s n t m v (Some f) h = omega (arith, unless_more (is_past t m FreezeOthers v) (is_past s n FreezeOthers v) (direct_at y f v * (guard_cost c + 2)) (h FreezeOthers), unless_more (is_past t m TakeAndCopy v) (is_past s n TakeAndCopy v) 9 (h TakeAndCopy), unless_more (is_past t m Commit v) (is_past s n Commit v) 1 (h Commit), unless_more (is_past t m SetOwnTable v) (is_past s n SetOwnTable v) 1 (h SetOwnTable), unless_more (is_past t m Finish v) (is_past s n Finish v) (moving_at y f v + 2) (h Finish))

pub records_later : (c : Program) (y : View) (s : MoveStep) (n : ℕ) (t : MoveStep) (m : ℕ) (xs : List Migrating) → ((k : MoveStep) (v : ℕ) → is_past s n k v ≡ true → is_past t m k v ≡ true) → records_left c y t m xs ≤ records_left c y s n xs
records_later c y s n t m xs h = sum_most (record_left c y s n) (record_left c y t m) xs (λ w i. source_later c y s n t m w.page w.source (λ k. h k w.page))

-- as pages go on in a step
pub on_page : (step : MoveStep) (n m : ℕ) (k : MoveStep) (v : ℕ) → n ≤ m → is_past step n k v ≡ true → is_past step m k v ≡ true
on_page step n m k v l e = by (comes_before k step) (same_step k step) e
  where
    by : (b d : Bool) → (b || (d && nat_lt v n)) ≡ true → (b || (d && nat_lt v m)) ≡ true
    by b d e = grind (arith, nat_tests)

-- one step is next after another: past it is all that came before, and the other
abbrev pub IsNext : MoveStep → MoveStep → Type 0
IsNext step after = (k : MoveStep) → comes_before k after ≡ (comes_before k step || same_step k step)

pub on_step : (step after : MoveStep) (n : ℕ) (k : MoveStep) (v : ℕ) → IsNext step after → is_past step n k v ≡ true → is_past after 0 k v ≡ true
on_step step after n k v nx e = by (comes_before k after) (comes_before k step) (same_step k step) (same_step k after) (nx k) e
  where
    by : (z b d i : Bool) → z ≡ (b || d) → (b || (d && nat_lt v n)) ≡ true → (z || (i && nat_lt v 0)) ≡ true
    by z b d i j e = grind (arith, nat_tests)

freeze_take : IsNext FreezeOthers TakeAndCopy
freeze_take FreezeOthers = refl
freeze_take TakeAndCopy = refl
freeze_take Commit = refl
freeze_take SetOwnTable = refl
freeze_take Finish = refl

take_commit : IsNext TakeAndCopy Commit
take_commit FreezeOthers = refl
take_commit TakeAndCopy = refl
take_commit Commit = refl
take_commit SetOwnTable = refl
take_commit Finish = refl

commit_table : IsNext Commit SetOwnTable
commit_table FreezeOthers = refl
commit_table TakeAndCopy = refl
commit_table Commit = refl
commit_table SetOwnTable = refl
commit_table Finish = refl

table_finish : IsNext SetOwnTable Finish
table_finish FreezeOthers = refl
table_finish TakeAndCopy = refl
table_finish Commit = refl
table_finish SetOwnTable = refl
table_finish Finish = refl

-- the record with which a step goes on at a page, or that there is none
abbrev pub found_at : After → Op → List Migrating → MoveStep → ℕ → Option Migrating
found_at s o xs step next = find (λ x. nat_le next x.page && concerns s o step x) xs

-- what is kept as a migration goes on to the record to which it comes: to a record of a step, from a step over to the next
-- one, and past the last one
pub record Comes (s : After) (o : Op) (xs : List Migrating) (K : MoveStep → ℕ → Type 0) (P : Option (MoveStep × Migrating) → Type 0) : Type 0 where
  pub here : (step : MoveStep) (next : ℕ) (x : Migrating) → K step next → found_at s o xs step next ≡ Some x → P (Some (step, x))
  pub over : (step after : MoveStep) (next : ℕ) → IsNext step after → K step next → found_at s o xs step next ≡ None → K after 0
  pub ended : (next : ℕ) → K Finish next → found_at s o xs Finish next ≡ None → P None

pub come_by : (s : After) (o : Op) (xs : List Migrating) (K : MoveStep → ℕ → Type 0) (P : Option (MoveStep × Migrating) → Type 0) (step : MoveStep) (next : ℕ) → Comes s o xs K P → K step next → P (coming s o xs (Phase.Moves step next))
come_by s o xs K P step next go h = from step next h
  where
    in_step : (step : MoveStep) (rest : List MoveStep) (next : ℕ) → K step next → (found_at s o xs step next ≡ None → P (come_to s o xs rest 0)) → P (come_to s o xs (step ∷ rest) next)
    in_step step rest next h over = by (found_at s o xs step next) refl
      where
        by : (r : Option Migrating) → found_at s o xs step next ≡ r → P (elim r [ Some x ↦ Some (step, x) | None ↦ come_to s o xs rest 0 ])
        by (Some x) e = go.here step next x h e
        by None e = over e

    at_finish : (next : ℕ) → K Finish next → P (come_to s o xs (steps_from Finish) next)
    at_finish next h = in_step Finish [] next h (go.ended next h)

    at_own_table : (next : ℕ) → K SetOwnTable next → P (come_to s o xs (steps_from SetOwnTable) next)
    at_own_table next h = in_step SetOwnTable (steps_from Finish) next h (λ e. at_finish 0 (go.over SetOwnTable Finish next table_finish h e))

    at_commit : (next : ℕ) → K Commit next → P (come_to s o xs (steps_from Commit) next)
    at_commit next h = in_step Commit (steps_from SetOwnTable) next h (λ e. at_own_table 0 (go.over Commit SetOwnTable next commit_table h e))

    at_take : (next : ℕ) → K TakeAndCopy next → P (come_to s o xs (steps_from TakeAndCopy) next)
    at_take next h = in_step TakeAndCopy (steps_from Commit) next h (λ e. at_commit 0 (go.over TakeAndCopy Commit next take_commit h e))

    from : (step : MoveStep) (next : ℕ) → K step next → P (come_to s o xs (steps_from step) next)
    from FreezeOthers next h = in_step FreezeOthers (steps_from TakeAndCopy) next h (λ e. at_take 0 (go.over FreezeOthers TakeAndCopy next freeze_take h e))
    from TakeAndCopy next h = at_take next h
    from Commit next h = at_commit next h
    from SetOwnTable next h = at_own_table next h
    from Finish next h = at_finish next h

pub found_says : (t : Migrating → Bool) (xs : List Migrating) (x : Migrating) → find t xs ≡ Some x → t x ≡ true
found_says t [] x e = cc
found_says t (z ∷ xs) x e = by (t z) refl e (found_says t xs x)
  where
    by : (b : Bool) → t z ≡ b → ◌≡◌ {A = Option Migrating} (if b then Some z else find t xs) (Some x) → (find t xs ≡ Some x → t x ≡ true) → t x ≡ true
    by true i k ih = grind arith
    by false i k ih = ih k

-- it is not behind
pub found_above : (s : After) (o : Op) (xs : List Migrating) (step : MoveStep) (next : ℕ) (x : Migrating) → found_at s o xs step next ≡ Some x → next ≤ x.page
found_above s o xs step next x e = le next x.page (and_parts (nat_le next x.page) (concerns s o step x) (found_says (λ x. nat_le next x.page && concerns s o step x) xs x e)).0
  where
    le : (m n : ℕ) → nat_le m n ≡ true → m ≤ n
    le m n l = grind (arith, nat_tests)

-- so not more is left at the record to which it comes
abbrev pub Bounds : Program → View → MoveStep → ℕ → List Migrating → Option (MoveStep × Migrating) → Type 0
Bounds c y step next xs None = Unit {0}
Bounds c y step next xs (Some at) = records_left c y at.0 at.1.page xs ≤ records_left c y step next xs

pub come_bounds : (c : Program) (y : View) (s : After) (o : Op) (xs : List Migrating) (step : MoveStep) (next : ℕ) → Bounds c y step next xs (coming s o xs (Phase.Moves step next))
come_bounds c y s o xs step next = come_by s o xs (λ st n. records_left c y st n xs ≤ records_left c y step next xs) (Bounds c y step next xs) step next (record {
  here = λ st n x h e. omega (arith, h, records_later c y st n st x.page xs (λ k v i. on_page st n x.page k v (found_above s o xs st n x e) i));
  over = λ st after n nx h e. omega (arith, h, records_later c y st n after 0 xs (λ k v i. on_step st after n k v nx i));
  ended = λ n h e. tt;
}) (omega arith)
