-- From which phases entries come that set a table, begin a look-up or answer a migration, and which are due at all.
use Rattle.std.proofs.Common.{refl, ap, sym, subst, ◌∙◌, arith}
use Rattle.std.proofs.lemmas.Bool.{true≢false, false≢true, and_parts, eqb-true}
use Rattle.std.specs.Prelude.{◌≡◌, ℕ, Bool, true, false, not, ◌||◌, ◌==◌, [], ◌∷◌}
use Rattle.std.specs.Prelude.{Option, Some, None, List, ⊤}
use Rattle.hm_base.specs.Pages.{one_page}
use Rattle.hm_base.specs.Program.{Program}
use Rattle.hm_base.specs.declared.Place.{Place}
use Rattle.hm_base.specs.declared.ops.Op.{Op}
use Rattle.hm_history.specs.Memory.Words.{page_of}
use Rattle.hm_history.specs.Memory.Plain.{is_attached, in_window}
use Rattle.hm_history.specs.Memory.Sequences.{interval_seq}
use Rattle.hm_history.specs.Memory.After.{After}
use Rattle.hm_history.specs.Kernel.Operation.{op_piece, op_mirror, op_writes}
use Rattle.hm_history.specs.Kernel.Going.{coming}
use Rattle.hm_history.specs.Kernel.Due.{is_invalidating, is_usable}
use Rattle.hm_history.specs.Kernel.Due.{answer_of_piece, repeats}
use Rattle.hm_history.specs.Kernel.Due.{due_mirror, due_piece}
use Rattle.hm_history.specs.Kernel.Due.{due_step, due_moves}
use Rattle.hm_history.specs.Kernel.Due.{due_noted, due_phase}
use Rattle.hm_history.specs.declared.TableRight.{TableRight}
use Rattle.hm_history.specs.declared.Kind.{Kind}
use Rattle.hm_history.specs.declared.phases.Migrating.{Migrating}
use Rattle.hm_history.specs.declared.phases.MoveStep.{MoveStep}
use Rattle.hm_history.specs.declared.phases.Touch.{Touch}
use Rattle.hm_history.specs.declared.phases.Phase.{Phase}
use Rattle.hm_history.specs.declared.phases.Next.{Next}
use Rattle.hm_history.specs.declared.phases.Next.TheVariants.{Do, Wait}
use Rattle.hm_history.specs.Kernel.Operation.{is_exclusive_op}
use Rattle.hm_history.specs.Kernel.Going.{State}
use Rattle.hm_history.specs.declared.Entry.{Entry}
use Rattle.hm_laws.specs.Past.{Past}
use Rattle.hm_laws.specs.Facts.{facts, HoldsAll, is_device_access, has_piece}
use Rattle.hm_protocol.proofs.Steps.{Step}
use Rattle.hm_laws.proofs.Due.Good.{either}
use Rattle.hm_protocol.specs.Words.{is_sole}
use Rattle.hm_protocol.proofs.DueKinds.{is_set, is_plain, is_at_walk, is_setting, is_of_step, may, Passes, next_passes}
use Rattle.hm_protocol.proofs.MayBeDue.{adds, answers_piece, cpus, steps, due_may}

-- a table is set by a look-up whose sequence is still the interval's, for one actor, or by a migration's step
abbrev pub SetAt : After → Op → List Migrating → Phase → ℕ → ℕ → TableRight → Type 0
SetAt s o xs (Phase.Noted k at q x) m v w = (m ≡ op_mirror o) × (interval_seq s.sequences m ≡ q)
SetAt s o xs (Phase.Decide touch) m v w = is_sole w ≡ true
SetAt s o xs (Phase.Moves step n) m v w =
    (x : Migrating) × ((coming s o xs (Phase.Moves step n) ≡ Some (MoveStep.SetOwnTable, x)) × (v ≡ x.page))
SetAt s o xs top m v w = ⊥

-- a migration answers when nothing is left to do
abbrev pub EndAt : After → Op → List Migrating → Phase → Type 0
EndAt s o xs (Phase.Moves step n) = coming s o xs (Phase.Moves step n) ≡ None
EndAt s o xs top = ⊥

-- what is said of the phase of an entry
abbrev pub ComesFrom : After → Op → List Migrating → Phase → Kind → Type 0
ComesFrom s o xs top (Kind.Set m v f w from) = SetAt s o xs top m v w
ComesFrom s o xs top (Kind.Begin m q) = (v : ℕ) × ((m ≡ op_mirror o) × (in_window s.plain m (one_page v) ≡ true))
ComesFrom s o xs top (Kind.Migrated n) = EndAt s o xs top
ComesFrom s o xs top k = ⊤

abbrev pub DueFrom : After → Op → List Migrating → Phase → Next → Type 0
DueFrom s o xs top (Do k) = ComesFrom s o xs top k
DueFrom s o xs top (Wait y) = ⊤

plain_from : (s : After) (o : Op) (xs : List Migrating) (top : Phase) (k : Kind) → is_plain k ≡ true
    → ComesFrom s o xs top k
plain_from s o xs top (Kind.Set m v f w from) h = absurd (false≢true h)
plain_from s o xs top (Kind.Begin m q) h = absurd (false≢true h)
plain_from s o xs top (Kind.Migrated n) h = absurd (false≢true h)
plain_from s o xs top k h = tt

plainly : (s : After) (o : Op) (xs : List Migrating) (top : Phase) (n : Next) → Passes is_plain n
    → DueFrom s o xs top n
plainly s o xs top (Do k) h = plain_from s o xs top k h
plainly s o xs top (Wait y) h = tt

mirror_from : (s : After) (o : Op) (xs : List Migrating) (top : Phase) (k : ℕ)
    → DueFrom s o xs top (due_mirror s o k (op_mirror o))
mirror_from s o xs top k = let v : ℕ = page_of (op_piece o k).0 in
    either (DueFrom s o xs top) (in_window s.plain (op_mirror o) (one_page v)) _ _
    (λ e. either (DueFrom s o xs top) (is_usable (op_writes o) (s.places.table (op_mirror o) v)) _ _
    (λ i. plain_from s o xs top (answer_of_piece s o k) (answers_piece s o k))
    (λ i. either (DueFrom s o xs top) (is_invalidating s (op_mirror o)) _ _ (λ j. tt) (λ j. (v, (refl, e)))))
    (λ e. tt)

piece_from : (s : After) (a : ℕ) (o : Op) (xs : List Migrating) (k : ℕ)
    → DueFrom s o xs (Phase.Piece k) (due_piece s a o k)
piece_from s a (Op.Add m at n) xs k =
    plainly s (Op.Add m at n) xs (Phase.Piece k) _ (adds s a (Op.Add m at n) m at)
piece_from s a (Op.DeviceLoad m at n) xs k = mirror_from s (Op.DeviceLoad m at n) xs (Phase.Piece k) k
piece_from s a (Op.DeviceStore m at bs) xs k = mirror_from s (Op.DeviceStore m at bs) xs (Phase.Piece k) k
piece_from s a (Op.Load p at n) xs k =
    plainly s (Op.Load p at n) xs (Phase.Piece k) _ (cpus s (Op.Load p at n) k p)
piece_from s a (Op.Store p at bs) xs k =
    plainly s (Op.Store p at bs) xs (Phase.Piece k) _ (cpus s (Op.Store p at bs) k p)
piece_from s a o xs k = tt

still_the_same : (s : After) (m q : ℕ) → repeats s m q ≡ false → interval_seq s.sequences m ≡ q
still_the_same s m q h = eqb-true (interval_seq s.sequences m) q
    (same (is_attached s.plain m) (interval_seq s.sequences m == q) h)
  where
    same : (x y : Bool) → (not x || not y) ≡ false → y ≡ true
    same x y k = grind arith

noted_from : (s : After) (o : Op) (xs : List Migrating) (k at q : ℕ) (x : Place)
    → DueFrom s o xs (Phase.Noted k at q x) (due_noted s o k at q x)
noted_from s o xs k at q x = either (DueFrom s o xs (Phase.Noted k at q x)) (repeats s (op_mirror o) q) _ _ (λ e. tt)
    (λ e. (refl, still_the_same s (op_mirror o) q e))

step_from : (c : Program) (s : After) (o : Op) (xs : List Migrating) (step : MoveStep) (n : ℕ) (at : MoveStep)
    (x : Migrating) → coming s o xs (Phase.Moves step n) ≡ Some (at, x)
    → ComesFrom s o xs (Phase.Moves step n) (due_step c s o at x)
step_from c s o xs step n MoveStep.SetOwnTable x e = (x, (e, refl))
step_from c s o xs step n at x e = sets_none at (due_step c s o at x) refl (steps c s o at x)
  where
    sets_none : (at : MoveStep) (k : Kind) → is_setting at ≡ false → is_of_step at k ≡ true
        → ComesFrom s o xs (Phase.Moves step n) k
    sets_none at (Kind.Set m v f w from) i h = absurd (false≢true (sym i ∙ h))
    sets_none at (Kind.Begin m q) i h = absurd (false≢true h)
    sets_none at (Kind.Migrated n) i h = absurd (false≢true h)
    sets_none at k i h = tt

moves_from : (c : Program) (s : After) (o : Op) (xs : List Migrating) (step : MoveStep) (n : ℕ)
    → ComesFrom s o xs (Phase.Moves step n) (due_moves c s o xs (coming s o xs (Phase.Moves step n)))
moves_from c s o xs step n = by (coming s o xs (Phase.Moves step n)) refl
  where
    by : (at : Option (MoveStep × Migrating)) → coming s o xs (Phase.Moves step n) ≡ at
        → ComesFrom s o xs (Phase.Moves step n) (due_moves c s o xs at)
    by None e = e
    by (Some at) e = step_from c s o xs step n at.0 at.1 e

-- the other phases: what may be due there
abbrev is_said : Phase → Bool
is_said (Phase.Piece k) = true
is_said (Phase.Noted k at q x) = true
is_said (Phase.Moves step v) = true
is_said top = false

fault_from : (s : After) (o : Op) (xs : List Migrating) (touch : Touch) (k : Kind)
    → may o (Phase.Decide touch) k ≡ true → ComesFrom s o xs (Phase.Decide touch) k
fault_from s o xs (Touch.Cpu n) (Kind.Set m v f TableRight.Sole from) h = refl
fault_from s o xs (Touch.Cpu n) (Kind.Set m v f w from) h = absurd (false≢true h)
fault_from s o xs (Touch.Cpu n) (Kind.Begin m z) h = absurd (false≢true h)
fault_from s o xs (Touch.Cpu n) (Kind.Migrated z) h = absurd (false≢true h)
fault_from s o xs (Touch.Walk n at q) (Kind.Set m v f w from) h = absurd (false≢true h)
fault_from s o xs (Touch.Walk n at q) (Kind.Begin m z) h = absurd (false≢true h)
fault_from s o xs (Touch.Walk n at q) (Kind.Migrated z) h = absurd (false≢true h)
fault_from s o xs Touch.Sole (Kind.Set m v f TableRight.Sole from) h = refl
fault_from s o xs Touch.Sole (Kind.Set m v f w from) h = absurd (false≢true h)
fault_from s o xs Touch.Sole (Kind.Begin m z) h = absurd (false≢true h)
fault_from s o xs Touch.Sole (Kind.Migrated z) h = absurd (false≢true h)
fault_from s o xs touch k h = tt

given_from : (s : After) (o : Op) (xs : List Migrating) (touch : Option Touch) (k : Kind)
    → may o (Phase.GiveUp touch) k ≡ true → ComesFrom s o xs (Phase.GiveUp touch) k
given_from s o xs None (Kind.Set m v f w from) h = absurd (false≢true h)
given_from s o xs None (Kind.Begin m z) h = absurd (false≢true h)
given_from s o xs None (Kind.Migrated z) h = absurd (false≢true h)
given_from s o xs (Some (Touch.Cpu n)) (Kind.Set m v f w from) h = absurd (false≢true h)
given_from s o xs (Some (Touch.Cpu n)) (Kind.Begin m z) h = absurd (false≢true h)
given_from s o xs (Some (Touch.Cpu n)) (Kind.Migrated z) h = absurd (false≢true h)
given_from s o xs (Some (Touch.Walk n at q)) (Kind.Set m v f w from) h = absurd (false≢true h)
given_from s o xs (Some (Touch.Walk n at q)) (Kind.Begin m z) h = absurd (false≢true h)
given_from s o xs (Some (Touch.Walk n at q)) (Kind.Migrated z) h = absurd (false≢true h)
given_from s o xs (Some Touch.Sole) (Kind.Set m v f w from) h = absurd (false≢true h)
given_from s o xs (Some Touch.Sole) (Kind.Begin m z) h = absurd (false≢true h)
given_from s o xs (Some Touch.Sole) (Kind.Migrated z) h = absurd (false≢true h)
given_from s o xs touch k h = tt

else_from : (s : After) (o : Op) (xs : List Migrating) (top : Phase) (k : Kind) → is_said top ≡ false
    → may o top k ≡ true → ComesFrom s o xs top k
else_from s o xs (Phase.Piece n) k e h = absurd (true≢false e)
else_from s o xs (Phase.Noted n at q x) k e h = absurd (true≢false e)
else_from s o xs (Phase.Moves step v) k e h = absurd (true≢false e)
else_from s o xs (Phase.Decide touch) k e h = fault_from s o xs touch k h
else_from s o xs (Phase.GiveUp touch) k e h = given_from s o xs touch k h
else_from s o xs top (Kind.Set m v f w from) e h = absurd (false≢true h)
else_from s o xs top (Kind.Begin m z) e h = absurd (false≢true h)
else_from s o xs top (Kind.Migrated z) e h = absurd (false≢true h)
else_from s o xs top k e h = tt

elsewhere : (s : After) (o : Op) (xs : List Migrating) (top : Phase) (n : Next) → is_said top ≡ false
    → Passes (may o top) n → DueFrom s o xs top n
elsewhere s o xs top (Do k) e h = else_from s o xs top k e h
elsewhere s o xs top (Wait y) e h = tt

-- each entry that is due comes from such a phase
pub comes_from : (c : Program) (s : After) (a : ℕ) (o : Op) (xs : List Migrating) (top : Phase)
    → (is_at_walk top ≡ true → is_exclusive_op o ≡ false) → DueFrom s o xs top (due_phase c s a o xs top)
comes_from c s a o xs (Phase.Piece k) h = piece_from s a o xs k
comes_from c s a o xs (Phase.Noted k at q x) h = noted_from s o xs k at q x
comes_from c s a o xs (Phase.Moves step v) h = moves_from c s o xs step v
comes_from c s a o xs top h = elsewhere s o xs top (due_phase c s a o xs top) refl
    (due_may c s a o xs top h)

-- ---- what is due to an actor

device_refuses_not : (o : Op) → is_device_access o ≡ true → is_exclusive_op o ≡ false
device_refuses_not (Op.DeviceLoad m at n) h = refl
device_refuses_not (Op.DeviceStore m at bs) h = refl
device_refuses_not o h = absurd (false≢true h)

-- a walk is that of an access through a mirror
pub walk_is_device : (s : After) (t : Past) (a : ℕ) (o : Op) (xs : List Migrating) (top : Phase) (below : List Phase)
    → HoldsAll s t a (facts o xs (top ∷ below)) → is_at_walk top ≡ true → is_device_access o ≡ true
walk_is_device s t a o xs (Phase.Decide (Touch.Walk k since q)) [] h e =
    (and_parts (is_device_access o) (has_piece o k) h.0.0).0
walk_is_device s t a o xs (Phase.Decide (Touch.Walk k since q)) (y ∷ ys) h e = absurd h.0
walk_is_device s t a o xs (Phase.GiveUp (Some (Touch.Walk k since q))) [] h e =
    (and_parts (is_device_access o) (has_piece o k) h.1.1.0.0).0
walk_is_device s t a o xs (Phase.GiveUp (Some (Touch.Walk k since q))) (y ∷ ys) h e = absurd h.0
walk_is_device s t a o xs top below h e = absurd (false≢true e)

-- an entry that is due may be due
pub turn_may : (c : Program) (s : After) (t : Past) (a : ℕ) (o : Op) (xs : List Migrating) (top : Phase)
    (below : List Phase) (j : Kind) → HoldsAll s t a (facts o xs (top ∷ below)) → due_phase c s a o xs top ≡ Do j
    → may o top j ≡ true
turn_may c s t a o xs top below j h d = sym (ap (next_passes (may o top)) d)
    ∙ due_may c s a o xs top (λ e. device_refuses_not o (walk_is_device s t a o xs top below h e))

-- and from such a phase
pub due_from : (c : Program) (s : After) (t : Past) (a : ℕ) (o : Op) (xs : List Migrating) (top : Phase)
    (below : List Phase) (j : Kind) → HoldsAll s t a (facts o xs (top ∷ below)) → due_phase c s a o xs top ≡ Do j
    → ComesFrom s o xs top j
due_from c s t a o xs top below j h d = subst (DueFrom s o xs top) d
    (comes_from c s a o xs top (λ w. device_refuses_not o (walk_is_device s t a o xs top below h w)))

-- so does an actor's entry
pub turn_from : (c : Program) (t : State) (e : Entry) → (s : Step c t e)
    → ComesFrom t.after s.turn.op (t.going e.actor).pages s.turn.top e.kind
turn_from c t e s = due_from c t.after s.past e.actor s.turn.op (t.going e.actor).pages s.turn.top s.turn.below e.kind
    s.turn.known s.turn.is_due

-- a table is set from such phases alone
abbrev pub may_set : Phase → Bool
may_set (Phase.Noted k at q x) = true
may_set (Phase.Decide touch) = true
may_set (Phase.Moves step v) = true
may_set top = false

pub sets_nothing : (s : After) (o : Op) (xs : List Migrating) (top : Phase) (k : Kind) → may_set top ≡ false
    → ComesFrom s o xs top k → is_set k ≡ false
sets_nothing s o xs (Phase.Noted n at q x) k e h = absurd (true≢false e)
sets_nothing s o xs (Phase.Decide touch) k e h = absurd (true≢false e)
sets_nothing s o xs (Phase.Moves step v) k e h = absurd (true≢false e)
sets_nothing s o xs top (Kind.Set m v f w from) e h = absurd h
sets_nothing s o xs top k e h = refl
