-- All decisions of a fault.
use Rattle.std.proofs.Common.{◌≡◌, ℕ, ◌+◌, ◌≤◌, Bool, true, false, ◌==◌, ◌&&◌, not, if◌then◌else◌, Option, Some, None, List, refl, ap, ◌∙◌, arith}
use Rattle.hm_base.specs.declared.cause.Cause.{Cause}
use Rattle.hm_base.specs.Pages.{one_page}
use Rattle.hm_base.specs.Program.{Program}
use Rattle.hm_base.specs.declared.Frame.{Frame}
use Rattle.hm_base.specs.declared.Place.{Place}
use Rattle.hm_base.specs.declared.ops.Op.{Op}
use Rattle.hm_history.specs.Memory.Words.{sys_frame, page_of}
use Rattle.hm_history.specs.Memory.Plain.{is_attached, in_window, mirror_dev, mirror_proc}
use Rattle.hm_history.specs.Memory.Places.{TableEntry, with_entry, entry_passes, is_sole, is_exclusive_by}
use Rattle.hm_history.specs.Memory.After.{After}
use Rattle.hm_history.specs.Kernel.Operation.{op_mirror, op_writes}
use Rattle.hm_history.specs.Kernel.Going.{touch_page, touch_proc}
use Rattle.hm_history.specs.Kernel.Due.{is_invalidating, has_exclusive, suits, suits_walk, fails, fault, repeats, due_sole, due_decide}
use Rattle.hm_history.specs.declared.Kind.{Kind}
use Rattle.hm_history.specs.declared.TableRight.{TableRight}
use Rattle.hm_history.specs.declared.phases.Migrating.{Migrating}
use Rattle.hm_history.specs.declared.phases.Touch.{Touch}
use Rattle.hm_history.specs.declared.phases.Touch.TheVariants.{Cpu, Walk, Sole}
use Rattle.hm_history.specs.declared.phases.Next.TheVariants.{Do}
use Rattle.hm_history.proofs.Tests.{true_false}
use Rattle.hm_laws.specs.Shapes.{takes_exclusive}
use Rattle.hm_laws.specs.Allowed.{next}
use Rattle.hm_laws.proofs.Due.Guards.{number_is}
use Rattle.hm_laws.proofs.Due.Good.{either}
use Rattle.hm_quiet_laws.proofs.measure.Left.{view, stage, stage_now, add_left, is_ready, is_sole_of}
use Rattle.hm_quiet_laws.proofs.measure.Counts.{Few}
use Rattle.hm_quiet_laws.proofs.measure.Shapes.{is_access}
use Rattle.hm_quiet_laws.proofs.faults.StagesLeft.{stage_over}
use Rattle.hm_quiet_laws.proofs.faults.TakesFall.{Fits, Dec, Decs, if_true, fails_dec, runlock_dec}
use Rattle.hm_quiet_laws.proofs.faults.FaultsFall.{fault_decs, DecidesTo, decs_to, retry_to, seize_at}

-- the table entry of a page that the actor has alone
entry_set : (table : ℕ → ℕ → Option TableEntry) (m v : ℕ) (x : TableEntry) → is_sole x.right ≡ true → entry_passes (λ e. is_sole e.right) (with_entry table m v x m v) ≡ true
entry_set table m v x h = at (((m == m) && (v == v))) (two (m == m) (v == v) (number_is m m refl) (number_is v v refl))
  where
    two : (x y : Bool) → x ≡ true → y ≡ true → (x && y) ≡ true
    two x y i j = grind arith

    at : (b : Bool) → b ≡ true → entry_passes (λ e. is_sole e.right) (if b then Some x else table m v) ≡ true
    at true e = h
    at false e = cc

add_most : (c : Program) (s : After) (a m at n : ℕ) → has_exclusive s a m (page_of at) ≡ true → add_left c s a (Op.Add m at n) m at ≤ 2
add_most c s a m at n h = by (in_window s.plain m (one_page (page_of at)))
  where
    by : (b : Bool) → (if not b then 1 else if has_exclusive s a m (page_of at) then 2 else (1 + stage_now c (view s) a (Op.Add m at n) Sole)) ≤ 2
    by false = omega arith
    by true = omega (arith, if_true (has_exclusive s a m (page_of at)) 2 (1 + stage_now c (view s) a (Op.Add m at n) Sole) h)

set_dec : (c : Program) (s : After) (a : ℕ) (o : Op) (xs : List Migrating) (n b : ℕ) → takes_exclusive o ≡ true → s.places.place (touch_proc s o) (touch_page o Sole) ≡ Place.Exclusive n b → (a == b) ≡ true →
    Dec c s a o xs Sole (Kind.Set (op_mirror o) (touch_page o Sole) (Some (sys_frame n)) TableRight.Sole s.length)
set_dec c s a (Op.Exclusive m v) xs n b h e i = (omega (arith, now), refl)
  where
    now : stage_now c (view s) a (Op.Exclusive m v) Sole ≡ 2
    now = ap (λ z. stage c (view s) a (Op.Exclusive m v) Sole z) e ∙ stage_over c (view s) a (Op.Exclusive m v) Sole (Place.Exclusive n b) i
set_dec c s a (Op.Add m at k) xs n b h e i = (omega (arith, now, add_most c t a m at k (two (entry_passes (λ x. is_sole x.right) (t.places.table m (page_of at))) (is_exclusive_by (s.places.place (mirror_proc s.plain m) (page_of at)) a) (entry_set s.places.table m (page_of at) (record { target = Some (sys_frame n); right = TableRight.Sole; from = s.length }) refl) (ap (λ z. is_exclusive_by z a) e ∙ i))), refl)
  where
    t : After
    t = next s a (Kind.Set m (page_of at) (Some (sys_frame n)) TableRight.Sole s.length)

    two : (x y : Bool) → x ≡ true → y ≡ true → (x && y) ≡ true
    two x y i j = grind arith

    now : stage_now c (view s) a (Op.Add m at k) Sole ≡ 4
    now = ap (λ z. stage c (view s) a (Op.Add m at k) Sole z) e ∙ stage_over c (view s) a (Op.Add m at k) Sole (Place.Exclusive n b) i
set_dec c s a o xs n b h e i = cc

-- a page that is neither the actor's alone nor a writable system page
sole_fault : (c : Program) (s : After) (a : ℕ) (o : Op) (xs : List Migrating) (x : Place) → Few c s → is_access o ≡ true → takes_exclusive o ≡ true → ((g : Frame) → s.locks.frame g ≡ None) → s.places.place (touch_proc s o) (touch_page o Sole) ≡ x → suits true x ≡ false → is_sole_of a x ≡ false → is_ready Sole x ≡ false →
    Decs c s a o xs Sole (fault c s a o 0 (suits true) (touch_proc s o) (touch_page o Sole))
sole_fault c s a o xs x f i ft lk e su so rd = fault_decs c s a o xs Sole (suits true) f i ft lk refl
    (λ l. absurd (true_false (suits true (s.places.place (touch_proc s o) (touch_page o Sole))) l (ap (suits true) e ∙ su)))
    (λ l. (ap (is_sole_of a) e ∙ so, ap (is_ready Sole) e ∙ rd))

sole_decs : (c : Program) (s : After) (a : ℕ) (o : Op) (xs : List Migrating) (x : Place) → Few c s → is_access o ≡ true → takes_exclusive o ≡ true → ((g : Frame) → s.locks.frame g ≡ None) → s.places.place (touch_proc s o) (touch_page o Sole) ≡ x →
    Decs c s a o xs Sole (due_sole c s a o (op_mirror o) (touch_proc s o) (touch_page o Sole) x)
sole_decs c s a o xs (Place.Exclusive n b) f i ft lk e = either (Decs c s a o xs Sole) (a == b) _ _
    (λ j. either (Decs c s a o xs Sole) (is_invalidating s (op_mirror o)) _ _ (λ l. tt) (λ l. set_dec c s a o xs n b ft e j))
    (λ j. sole_fault c s a o xs (Place.Exclusive n b) f i ft lk e refl j refl)
sole_decs c s a o xs (Place.Sys n true) f i ft lk e = seize_at c s a o xs n f e
sole_decs c s a o xs (Place.Sys n false) f i ft lk e = sole_fault c s a o xs (Place.Sys n false) f i ft lk e refl refl refl
sole_decs c s a o xs Place.Empty f i ft lk e = sole_fault c s a o xs Place.Empty f i ft lk e refl refl refl
sole_decs c s a o xs Place.Zero f i ft lk e = sole_fault c s a o xs Place.Zero f i ft lk e refl refl refl
sole_decs c s a o xs (Place.Own d n w) f i ft lk e = sole_fault c s a o xs (Place.Own d n w) f i ft lk e refl refl refl
sole_decs c s a o xs (Place.Moving g w) f i ft lk e = sole_fault c s a o xs (Place.Moving g w) f i ft lk e refl refl refl

pub decide_to : (c : Program) (s : After) (a : ℕ) (o : Op) (xs : List Migrating) (touch : Touch) → Few c s → is_access o ≡ true → Fits o touch → ((g : Frame) → s.locks.frame g ≡ None) → DecidesTo c s a o xs touch (due_decide c s a o touch (touch_proc s o) (touch_page o touch))
decide_to c s a o xs (Cpu k) f i ft lk = decs_to c s a o xs (Cpu k) _ refl (fault_decs c s a o xs (Cpu k) (suits (op_writes o)) f i ft lk refl (λ l. runlock_dec c s a o xs (Cpu k) (touch_proc s o) ft l refl (λ h. cc)) (λ l. (l, refl)))
decide_to c s a o xs (Walk k at q) f i ft lk = either (DecidesTo c s a o xs (Walk k at q)) (repeats s (op_mirror o) q) _ _ (λ e. retry_to c s a o xs k at q (op_mirror o) ft e)
    (λ e. decs_to c s a o xs (Walk k at q) (fault c s a o k (suits_walk (mirror_dev s.plain (op_mirror o)) (op_writes o)) (touch_proc s o) (touch_page o (Walk k at q))) e (fault_decs c s a o xs (Walk k at q) (suits_walk (mirror_dev s.plain (op_mirror o)) (op_writes o)) f i ft lk e (λ l. runlock_dec c s a o xs (Walk k at q) (touch_proc s o) ft l e (λ h. cc)) (λ l. (l, refl))))
decide_to c s a o xs Sole f i ft lk = either (DecidesTo c s a o xs Sole) (is_attached s.plain (op_mirror o)) _ _ (λ e. decs_to c s a o xs Sole (due_sole c s a o (op_mirror o) (touch_proc s o) (touch_page o Sole) (s.places.place (touch_proc s o) (touch_page o Sole))) refl (sole_decs c s a o xs (s.places.place (touch_proc s o) (touch_page o Sole)) f i ft lk refl))
    (λ e. decs_to c s a o xs Sole (Do (fails o 0 Cause.Outside)) refl (fails_dec c s a o xs Sole 0 Cause.Outside i ft))
