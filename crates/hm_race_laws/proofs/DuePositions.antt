-- What is due in states that are equal but for positions is equal but for positions.
use Rattle.std.proofs.Common.{◌≡◌, ℕ, Bool, true, false, ◌==◌, ◌&&◌, Option, Some, None, List, [], ◌∷◌, refl, sym, ap, ◌∙◌}
use Rattle.hm_base.specs.Pages.{one_page}
use Rattle.hm_base.specs.Program.{Program}
use Rattle.hm_base.specs.declared.Place.{Place}
use Rattle.hm_base.specs.declared.ops.Op.{Op}
use Rattle.hm_history.specs.Memory.Words.{page_of}
use Rattle.hm_history.specs.Memory.Plain.{mirror_proc, in_window, is_attached}
use Rattle.hm_history.specs.Memory.Places.{TableEntry, entry_passes, is_sole, is_exclusive_by}
use Rattle.hm_history.specs.Memory.After.{After}
use Rattle.hm_history.specs.Kernel.Operation.{op_piece, op_mirror, op_writes}
use Rattle.hm_history.specs.Kernel.Going.{State, op_at, touch_page, touch_proc, coming}
use Rattle.hm_history.specs.Kernel.Due.{start_entry, due_taken, is_usable, has_exclusive, due_mirror, due_add, due_fetched, due_piece, due_sole, due_decide, repeats, is_invalidating, due_step, due_moves, due_phase, due_top, due_in, progress}
use Rattle.hm_history.specs.declared.phases.Migrating.{Migrating}
use Rattle.hm_history.specs.declared.phases.MoveStep.{MoveStep}
use Rattle.hm_history.specs.declared.phases.Touch.{Touch}
use Rattle.hm_history.specs.declared.phases.Touch.TheVariants.{Cpu, Walk, Sole}
use Rattle.hm_history.specs.declared.phases.Phase.{Phase}
use Rattle.hm_history.specs.declared.phases.Next.{Next}
use Rattle.hm_history.specs.declared.phases.Next.TheVariants.{Do, Wait}
use Rattle.hm_race_laws.specs.Positions.{placeless, forget_after, forget_touch, forget_phase, forget_stack, forget_state, forget_kind, forget_next, forget_progress}
use Rattle.hm_race_laws.proofs.Gone.{by_test, same_test, page_same}

abbrev Same : Next → Next → Type 0
Same x y = forget_next x ≡ forget_next y

usable : (w : Bool) (x : Option TableEntry) → is_usable w x ≡ is_usable w (placeless x)
usable w None = refl
usable w (Some x) = refl

sole : (x : Option TableEntry) → entry_passes (λ y. is_sole y.right) x ≡ entry_passes (λ y. is_sole y.right) (placeless x)
sole None = refl
sole (Some x) = refl

alone : (s : After) (a m v : ℕ) → has_exclusive s a m v ≡ has_exclusive (forget_after s) a m v
alone s a m v = ap (λ b. b && is_exclusive_by (s.places.place (mirror_proc s.plain m) v) a) (sole (s.places.table m v))

mirror : (s : After) (o : Op) (k m : ℕ) → Same (due_mirror s o k m) (due_mirror (forget_after s) o k m)
mirror s o k m = by_test forget_next (in_window s.plain m (one_page (page_of (op_piece o k).0))) _ _ _ _
    (same_test forget_next _ _ _ _ (usable (op_writes o) (s.places.table m (page_of (op_piece o k).0)))) refl

add : (s : After) (a : ℕ) (o : Op) (m at : ℕ) → Same (due_add s a o m at) (due_add (forget_after s) a o m at)
add s a o m at = by_test forget_next (in_window s.plain m (one_page (page_of at))) _ _ _ _ (same_test forget_next _ _ _ _ (alone s a m (page_of at))) refl

fetched : (s : After) (a : ℕ) (o : Op) (old : ℕ) → Same (due_fetched s a o old) (due_fetched (forget_after s) a o old)
fetched s a (Op.Add m at n) old = same_test forget_next _ _ _ _ (alone s a m (page_of at)) ∙ by_test forget_next (has_exclusive (forget_after s) a m (page_of at)) _ _ _ _ refl (add s a (Op.Add m at n) m at)
fetched s a _ old = refl

piece : (s : After) (a : ℕ) (o : Op) (k : ℕ) → Same (due_piece s a o k) (due_piece (forget_after s) a o k)
piece s a (Op.Add m at n) k = add s a (Op.Add m at n) m at
piece s a (Op.DeviceLoad m at n) k = mirror s (Op.DeviceLoad m at n) k m
piece s a (Op.DeviceStore m at bs) k = mirror s (Op.DeviceStore m at bs) k m
piece s a _ k = refl

sole_of : (c : Program) (s : After) (a : ℕ) (o : Op) (m p v : ℕ) (x : Place) → Same (due_sole c s a o m p v x) (due_sole c (forget_after s) a o m p v x)
sole_of c s a o m p v (Place.Exclusive n b) = by_test forget_next (a == b) _ _ _ _ (by_test forget_next (is_invalidating s m) _ _ _ _ refl refl) refl
sole_of c s a o m p v (Place.Sys n true) = refl
sole_of c s a o m p v (Place.Sys n false) = refl
sole_of c s a o m p v _ = refl

decide : (c : Program) (s : After) (a : ℕ) (o : Op) (touch : Touch) (p v : ℕ) → Same (due_decide c s a o touch p v) (due_decide c (forget_after s) a o (forget_touch touch) p v)
decide c s a o (Cpu k) p v = refl
decide c s a o (Walk k at q) p v = refl
decide c s a o Sole p v = by_test forget_next (is_attached s.plain (op_mirror o)) _ _ _ _ (sole_of c s a o (op_mirror o) p v (s.places.place p v)) refl

step_of : (c : Program) (s : After) (o : Op) (step : MoveStep) (x : Migrating) → forget_kind (due_step c s o step x) ≡ forget_kind (due_step c (forget_after s) o step x)
step_of c s o MoveStep.SetOwnTable x = refl
step_of c s o step x = refl

moves : (c : Program) (s : After) (o : Op) (xs : List Migrating) (z : Option (MoveStep × Migrating)) → forget_kind (due_moves c s o xs z) ≡ forget_kind (due_moves c (forget_after s) o xs z)
moves c s o xs None = refl
moves c s o xs (Some at) = step_of c s o at.0 at.1

pub phase : (c : Program) (s : After) (a : ℕ) (o : Op) (xs : List Migrating) (top : Phase) → Same (due_phase c s a o xs top) (due_phase c (forget_after s) a o xs (forget_phase top))
phase c s a o xs (Phase.Piece k) = piece s a o k
phase c s a o xs (Phase.Fetched old) = fetched s a o old
phase c s a o xs (Phase.Decide (Cpu k)) = decide c s a o (Cpu k) (touch_proc s o) (touch_page o (Cpu k))
phase c s a o xs (Phase.Decide (Walk k at q)) = decide c s a o (Walk k at q) (touch_proc s o) (touch_page o (Walk k at q)) ∙ ap (λ v. forget_next (due_decide c (forget_after s) a o (Walk k 0 q) (touch_proc s o) v)) (page_same o (Walk k at q))
phase c s a o xs (Phase.Decide Sole) = decide c s a o Sole (touch_proc s o) (touch_page o Sole)
phase c s a o xs (Phase.Noted k at q x) = by_test forget_next (repeats s (op_mirror o) q) _ _ _ _ refl refl
phase c s a o xs (Phase.Taken (Cpu k) g x) = refl
phase c s a o xs (Phase.Taken (Walk k at q) g x) = ap (λ v. forget_next (due_taken s g x (touch_proc s o) v)) (page_same o (Walk k at q))
phase c s a o xs (Phase.Taken Sole g x) = refl
phase c s a o xs (Phase.Armed (Cpu k) g x) = refl
phase c s a o xs (Phase.Armed (Walk k at q) g x) = ap (λ v. forget_next (Do (start_entry s (touch_proc s o) (one_page v)))) (page_same o (Walk k at q))
phase c s a o xs (Phase.Armed Sole g x) = refl
phase c s a o xs (Phase.GiveUp None) = refl
phase c s a o xs (Phase.GiveUp (Some (Cpu k))) = refl
phase c s a o xs (Phase.GiveUp (Some (Walk k at q))) = refl
phase c s a o xs (Phase.GiveUp (Some Sole)) = refl
phase c s a o xs (Phase.Moves step v) = ap Do (moves c s o xs (coming s o xs (Phase.Moves step v)))
phase c s a o xs _ = refl

progress_of : (a : ℕ) (x y : Next) → Same x y → forget_progress (progress a x) ≡ forget_progress (progress a y)
progress_of a x y h = left x ∙ (ap (progress a) h ∙ sym (left y))
  where
    left : (z : Next) → forget_progress (progress a z) ≡ progress a (forget_next z)
    left (Do k) = refl
    left (Wait y) = refl

top_of : (c : Program) (s : After) (a : ℕ) (x : Option Op) (xs : List Migrating) (st : List Phase) → forget_progress (due_top c s a x xs st) ≡ forget_progress (due_top c (forget_after s) a x xs (forget_stack st))
top_of c s a None xs [] = refl
top_of c s a None xs (top ∷ below) = refl
top_of c s a (Some o) xs [] = refl
top_of c s a (Some o) xs (top ∷ below) = progress_of a _ _ (phase c s a o xs top)

pub due_forgets : (c : Program) (u : State) (a : ℕ) → forget_progress (due_in c u a) ≡ forget_progress (due_in c (forget_state u) a)
due_forgets c u a = top_of c u.after a (op_at c a (u.going a).index) (u.going a).pages (u.going a).stack
