-- Accesses: their pieces, look-ups, and frames taken for a page.
use Rattle.std.proofs.lemmas.Bool.{and_parts}
use Rattle.std.proofs.Common.{◌≡◌, ℕ, ◌+◌, ◌*◌, ◌-◌, ◌<◌, ◌≤◌, Bool, true, false, ◌==◌, ◌&&◌, ◌||◌, nat_lt, not, if◌then◌else◌, Option, Some, None, List, [], ◌∷◌, refl, sym, ap, ◌∙◌, subst, arith}
use Rattle.std.specs.Prelude.{⊤}
use Rattle.std.proofs.lemmas.Bool.Decides.{nat_tests}
use Rattle.hm_base.specs.declared.cause.Cause.{Cause}
use Rattle.hm_base.specs.Pages.{Pages, one_page, lies_in}
use Rattle.hm_base.specs.Program.{Program}
use Rattle.hm_base.specs.declared.Frame.{Frame}
use Rattle.hm_base.specs.declared.Place.{Place}
use Rattle.hm_base.specs.declared.PoolId.{PoolId}
use Rattle.hm_base.specs.declared.ops.Op.{Op}
use Rattle.hm_history.specs.Memory.Words.{page_of, names, writable, place_in, same_place, same_pool}
use Rattle.hm_history.specs.Memory.Plain.{plain_bytes, proc_of, is_attached, in_window, mirror_proc, mirror_passes, is_attached_state, MirrorState}
use Rattle.hm_history.specs.Memory.Places.{TableEntry, with_entry, entry_passes, may_read, may_write}
use Rattle.hm_history.specs.Memory.Sequences.{interval_seq, some_overlap}
use Rattle.hm_history.specs.Memory.Locks.{writer}
use Rattle.hm_history.specs.Memory.After.{After}
use Rattle.hm_history.specs.Kernel.Operation.{op_piece, op_who, op_bytes, op_mirror, op_writes}
use Rattle.hm_history.specs.Kernel.Quiet.{attaches, over_ops, guard_cost}
use Rattle.hm_history.specs.Kernel.Stacks.{first_touch, is_added, after_piece}
use Rattle.hm_history.specs.Kernel.Going.{touch_page, touch_proc, seen_at}
use Rattle.hm_history.specs.Kernel.Due.{rlock, start_entry, answer_of_piece, failed, is_usable, is_invalidating, has_exclusive, repeats, right_of, has_no_frame, suits, due_cpu, due_mirror, due_add, due_fetched, due_piece, due_noted, due_taken}
use Rattle.hm_history.specs.declared.Kind.{Kind}
use Rattle.hm_history.specs.declared.phases.Migrating.{Migrating}
use Rattle.hm_history.specs.declared.phases.Touch.{Touch}
use Rattle.hm_history.specs.declared.phases.Touch.TheVariants.{Cpu, Walk, Sole}
use Rattle.hm_history.specs.declared.phases.Phase.{Phase}
use Rattle.hm_history.specs.declared.phases.Next.{Next}
use Rattle.hm_history.specs.declared.phases.Next.TheVariants.{Do, Wait}
use Rattle.hm_history.proofs.Tests.{true_false}
use Rattle.hm_laws.specs.Shapes.{has_piece, is_device_access, is_core, of_system, is_add}
use Rattle.hm_laws.specs.Allowed.{next}
use Rattle.hm_laws.proofs.Due.Guards.{number_is}
use Rattle.hm_laws.proofs.Due.Good.{either, either_option}
use Rattle.hm_quiet_laws.proofs.measure.Left.{View, view, placed_view, left, told_left, piece_cost, later, extra, ready, stage, stage_now, home_now, decide_most, decide_left, retried, repeats_now, cpu_left, mirror_left, add_left, piece_left, fetched_left}
use Rattle.hm_quiet_laws.proofs.measure.Counts.{Few}
use Rattle.hm_quiet_laws.proofs.measure.Shapes.{is_access}
use Rattle.hm_quiet_laws.proofs.alone.Ends.{StepsTo}
use Rattle.hm_quiet_laws.proofs.counts.CountsBelow.{told_few}
use Rattle.hm_quiet_laws.proofs.StartsWithinBound.{mirror_most}
use Rattle.hm_quiet_laws.proofs.faults.StagesLeft.{ends_left, stage_writable, home_placed, now_placed}
use Rattle.hm_quiet_laws.proofs.faults.TakesFall.{if_true, if_false, second}
use Rattle.hm_quiet_laws.proofs.accesses.GuardsFall.{OnAccess}

-- after a piece
abbrev PieceTo : Phase → Program → After → ℕ → Op → List Migrating → ℕ → Touch → ℕ → Next → Type 0
PieceTo top c s a o xs k touch n (Do e) = (left c (next s a e) a o xs (after_piece o k touch e (seen_at s o xs top e)) < n) × OnAccess (after_piece o k touch e (seen_at s o xs top e))
PieceTo top c s a o xs k touch n (Wait y) = ⊤

answered : (top : Phase) (c : Program) (s : After) (a : ℕ) (o : Op) (xs : List Migrating) (k : ℕ) (touch : Touch) (n : ℕ) → is_access o ≡ true → n ≡ 1 + later c o k → PieceTo top c s a o xs k touch n (Do (answer_of_piece s o k))
answered top c s a o xs k touch n i e = either (λ x. PieceTo top c s a o xs k touch n (Do x)) (op_writes o) _ _
    (λ w. (omega (arith, e, (ends_left c (next s a (Kind.Stored (op_who o) (op_piece o k).0 (op_bytes o (op_piece o k)))) a o xs k i).0), (ends_left c s a o xs k i).1))
    (λ w. (omega (arith, e, (ends_left c (next s a (Kind.Loaded (op_who o) (op_piece o k).0 (plain_bytes s.plain (op_who o) (op_piece o k).0 (op_piece o k).1))) a o xs k i).0), (ends_left c s a o xs k i).1))

given_up : (top : Phase) (c : Program) (s : After) (a : ℕ) (o : Op) (xs : List Migrating) (k : ℕ) (touch : Touch) (m : Cause) (n : ℕ) → is_access o ≡ true → n ≡ 1 + later c o k → PieceTo top c s a o xs k touch n (Do (failed o k m))
given_up top c s a o xs k touch m n i e = (omega (arith, e, (ends_left c (next s a (failed o k m)) a o xs k i).0), (ends_left c s a o xs k i).1)

-- by the CPU
cpu_to : (top : Phase) (c : Program) (s : After) (a : ℕ) (o : Op) (xs : List Migrating) (k p : ℕ) → is_access o ≡ true → PieceTo top c s a o xs k (Cpu k) (cpu_left c s a o k p) (due_cpu s o k p)
cpu_to top c s a o xs k p i = either (PieceTo top c s a o xs k (Cpu k) (cpu_left c s a o k p)) (s.plain.there p) _ _
    (λ e. either (PieceTo top c s a o xs k (Cpu k) (cpu_left c s a o k p)) (suits (op_writes o) (s.places.place p (page_of (op_piece o k).0))) _ _
    (λ j. answered top c s a o xs k (Cpu k) (cpu_left c s a o k p) i (if_true _ _ _ (second (not (s.plain.there p)) (suits (op_writes o) (s.places.place p (page_of (op_piece o k).0))) j)))
    (λ j. either_option (PieceTo top c s a o xs k (Cpu k) (cpu_left c s a o k p)) (writer s.locks p) _ _ (λ w. (omega (arith, if_false (not (s.plain.there p) || suits (op_writes o) (s.places.place p (page_of (op_piece o k).0))) (1 + later c o k) (1 + stage_now c (view s) a o (Cpu k)) (neither (s.plain.there p) (suits (op_writes o) (s.places.place p (page_of (op_piece o k).0))) e j)), refl)) (λ b w. tt)))
    (λ e. given_up top c s a o xs k (Cpu k) Cause.Unmapped (cpu_left c s a o k p) i (if_true (not (s.plain.there p) || suits (op_writes o) (s.places.place p (page_of (op_piece o k).0))) (1 + later c o k) (1 + stage_now c (view s) a o (Cpu k)) (first (s.plain.there p) (suits (op_writes o) (s.places.place p (page_of (op_piece o k).0))) e)))
  where
    neither : (x y : Bool) → x ≡ true → y ≡ false → (not x || y) ≡ false
    neither x y h k = grind arith

    first : (x y : Bool) → x ≡ false → (not x || y) ≡ true
    first x y h = grind arith

-- through a mirror: a look-up that begins is not to be repeated yet
window_attached : (x : Option MirrorState) (r : Pages) → mirror_passes (λ y. is_attached_state y && lies_in r y.window) x ≡ true → mirror_passes is_attached_state x ≡ true
window_attached None r h = cc
window_attached (Some x) r h = (and_parts (is_attached_state x) (lies_in r x.window) h).0

walk_same : (c : Program) (y : View) (a : ℕ) (o : Op) (k at q : ℕ) → is_device_access o ≡ true → stage_now c y a o (Walk k at q) ≡ stage_now c y a o (Walk k 0 0)
walk_same c y a (Op.DeviceLoad m i n) k at q h = refl
walk_same c y a (Op.DeviceStore m i bs) k at q h = refl
walk_same c y a o k at q h = cc

begun_left : (c : Program) (s : After) (a : ℕ) (o : Op) (k at : ℕ) (r : Pages) → is_device_access o ≡ true → in_window s.plain (op_mirror o) r ≡ true → decide_left c (next s a (Kind.Begin (op_mirror o) (interval_seq s.sequences (op_mirror o)))) a o (Walk k at (interval_seq s.sequences (op_mirror o))) ≡ stage_now c (view s) a o (Walk k 0 0)
begun_left c s a o k at r ac h = if_false (repeats s (op_mirror o) (interval_seq s.sequences (op_mirror o))) (decide_most c (view s) a o (Walk k at (interval_seq s.sequences (op_mirror o)))) (stage_now c (view s) a o (Walk k at (interval_seq s.sequences (op_mirror o)))) (none (is_attached s.plain (op_mirror o)) (interval_seq s.sequences (op_mirror o) == interval_seq s.sequences (op_mirror o)) (window_attached (s.plain.mirrors (op_mirror o)) r h) (number_is (interval_seq s.sequences (op_mirror o)) (interval_seq s.sequences (op_mirror o)) refl)) ∙ walk_same c (view s) a o k at (interval_seq s.sequences (op_mirror o)) ac
  where
    none : (x y : Bool) → x ≡ true → y ≡ true → (not x || not y) ≡ false
    none x y i j = grind arith

mirror_to : (top : Phase) (c : Program) (s : After) (a : ℕ) (o : Op) (xs : List Migrating) (k m : ℕ) (touch : Touch) → is_access o ≡ true → is_device_access o ≡ true → op_mirror o ≡ m → PieceTo top c s a o xs k touch (mirror_left c s a o k m) (due_mirror s o k m)
mirror_to top c s a o xs k m touch i ac em = either (PieceTo top c s a o xs k touch (mirror_left c s a o k m)) (in_window s.plain m (one_page v)) _ _
    (λ e. either (PieceTo top c s a o xs k touch (mirror_left c s a o k m)) (is_usable (op_writes o) (s.places.table m v)) _ _
    (λ j. answered top c s a o xs k touch (mirror_left c s a o k m) i (if_true _ _ _ (second (not (in_window s.plain m (one_page v))) (is_usable (op_writes o) (s.places.table m v)) j)))
    (λ j. either (PieceTo top c s a o xs k touch (mirror_left c s a o k m)) (is_invalidating s m) _ _ (λ w. tt)
    (λ w. (omega (arith, subst (λ j. decide_left c (next s a (Kind.Begin j (interval_seq s.sequences j))) a o (Walk k s.length (interval_seq s.sequences j)) ≡ stage_now c (view s) a o (Walk k 0 0)) em (begun_left c s a o k s.length (one_page v) ac (subst (λ j. in_window s.plain j (one_page v) ≡ true) (sym em) e)), if_false (not (in_window s.plain m (one_page v)) || is_usable (op_writes o) (s.places.table m v)) (1 + later c o k) (2 + stage_now c (view s) a o (Walk k 0 0)) (neither (in_window s.plain m (one_page v)) (is_usable (op_writes o) (s.places.table m v)) e j)), refl))))
    (λ e. given_up top c s a o xs k touch Cause.Outside (mirror_left c s a o k m) i (if_true (not (in_window s.plain m (one_page v)) || is_usable (op_writes o) (s.places.table m v)) (1 + later c o k) (2 + stage_now c (view s) a o (Walk k 0 0)) (first (in_window s.plain m (one_page v)) (is_usable (op_writes o) (s.places.table m v)) e)))
  where
    v : ℕ
    v = page_of (op_piece o k).0

    neither : (x y : Bool) → x ≡ true → y ≡ false → (not x || y) ≡ false
    neither x y h k = grind arith

    first : (x y : Bool) → x ≡ false → (not x || y) ≡ true
    first x y h = grind arith

-- an addition
add_later : (c : Program) (m at n k : ℕ) → later c (Op.Add m at n) k ≡ 0
add_later c m at n k = ap (λ j. j * piece_cost c) (none k) ∙ nil (piece_cost c)
  where
    nil : (p : ℕ) → 0 * p ≡ 0
    nil p = omega arith

    none : (k : ℕ) → 1 - (k + 1) ≡ 0
    none k = omega arith

add_to : (top : Phase) (c : Program) (s : After) (a : ℕ) (xs : List Migrating) (m at n k : ℕ) → PieceTo top c s a (Op.Add m at n) xs k Sole (add_left c s a (Op.Add m at n) m at) (due_add s a (Op.Add m at n) m at)
add_to top c s a xs m at n k = either P (in_window s.plain m (one_page (page_of at))) _ _
    (λ e. either P (has_exclusive s a m (page_of at)) _ _ (λ j. (omega (arith, inside e, if_true (has_exclusive s a m (page_of at)) 1 (add_left c s a (Op.Add m at n) m at) j, if_true (has_exclusive s a m (page_of at)) 2 (1 + stage_now c (view s) a (Op.Add m at n) Sole) j), refl))
    (λ j. either_option P (writer s.locks (mirror_proc s.plain m)) _ _ (λ w. (omega (arith, inside e, if_false (has_exclusive s a m (page_of at)) 2 (1 + stage_now c (view s) a (Op.Add m at n) Sole) j), refl)) (λ b w. tt)))
    (λ e. (omega (arith, (ends_left c (next s a (failed (Op.Add m at n) 0 Cause.Outside)) a (Op.Add m at n) xs k refl).0, add_later c m at n k, outside e), (ends_left c s a (Op.Add m at n) xs k refl).1))
  where
    P : Next → Type 0
    P = PieceTo top c s a (Op.Add m at n) xs k Sole (add_left c s a (Op.Add m at n) m at)

    inside : in_window s.plain m (one_page (page_of at)) ≡ true → add_left c s a (Op.Add m at n) m at ≡ (if has_exclusive s a m (page_of at) then 2 else (1 + stage_now c (view s) a (Op.Add m at n) Sole))
    inside e = ap (λ b. if not b then 1 else if has_exclusive s a m (page_of at) then 2 else (1 + stage_now c (view s) a (Op.Add m at n) Sole)) e

    outside : in_window s.plain m (one_page (page_of at)) ≡ false → add_left c s a (Op.Add m at n) m at ≡ 1
    outside e = ap (λ b. if not b then 1 else if has_exclusive s a m (page_of at) then 2 else (1 + stage_now c (view s) a (Op.Add m at n) Sole)) e

-- pieces
to_piece : (c : Program) (s : After) (a : ℕ) (o : Op) (xs : List Migrating) (k : ℕ) (touch : Touch) (n : Next) → first_touch o k ≡ touch → PieceTo (Phase.Piece k) c s a o xs k touch (piece_left c s a o k) n → StepsTo c s a o xs (Phase.Piece k) [] OnAccess n
to_piece c s a o xs k touch (Do e) t h = subst (λ x. (left c (next s a e) a o xs (after_piece o k x e (seen_at s o xs (Phase.Piece k) e)) < piece_left c s a o k) × OnAccess (after_piece o k x e (seen_at s o xs (Phase.Piece k) e))) (sym t) h
to_piece c s a o xs k touch (Wait y) t h = tt

pub piece_steps : (c : Program) (s : After) (a : ℕ) (o : Op) (xs : List Migrating) (k : ℕ) → is_access o ≡ true → has_piece o k ≡ true → StepsTo c s a o xs (Phase.Piece k) [] OnAccess (due_piece s a o k)
piece_steps c s a (Op.Load p at n) xs k i hp = to_piece c s a (Op.Load p at n) xs k (Cpu k) (due_piece s a (Op.Load p at n) k) refl (cpu_to (Phase.Piece k) c s a (Op.Load p at n) xs k p i)
piece_steps c s a (Op.Store p at bs) xs k i hp = to_piece c s a (Op.Store p at bs) xs k (Cpu k) (due_piece s a (Op.Store p at bs) k) refl (cpu_to (Phase.Piece k) c s a (Op.Store p at bs) xs k p i)
piece_steps c s a (Op.DeviceLoad m at n) xs k i hp = to_piece c s a (Op.DeviceLoad m at n) xs k (Cpu k) (due_piece s a (Op.DeviceLoad m at n) k) refl (mirror_to (Phase.Piece k) c s a (Op.DeviceLoad m at n) xs k m (Cpu k) i refl refl)
piece_steps c s a (Op.DeviceStore m at bs) xs k i hp = to_piece c s a (Op.DeviceStore m at bs) xs k (Cpu k) (due_piece s a (Op.DeviceStore m at bs) k) refl (mirror_to (Phase.Piece k) c s a (Op.DeviceStore m at bs) xs k m (Cpu k) i refl refl)
piece_steps c s a (Op.Add m at n) xs k i hp = to_piece c s a (Op.Add m at n) xs k Sole (due_piece s a (Op.Add m at n) k) refl (add_to (Phase.Piece k) c s a xs m at n k)
piece_steps c s a (Op.Exclusive m v) xs k i hp = absurd (none k hp)
  where
    none : (k : ℕ) → nat_lt k 0 ≡ true → ⊥
    none k e = grind (arith, nat_tests)
piece_steps c s a o xs k i hp = cc

-- a byte was fetched
pub fetched_steps : (c : Program) (s : After) (a : ℕ) (o : Op) (xs : List Migrating) (old : ℕ) → is_add o ≡ true → StepsTo c s a o xs (Phase.Fetched old) [] OnAccess (due_fetched s a o old)
fetched_steps c s a (Op.Add m at n) xs old i = either (StepsTo c s a (Op.Add m at n) xs (Phase.Fetched old) [] OnAccess) (has_exclusive s a m (page_of at)) _ _
    (λ e. (omega (arith, if_true (has_exclusive s a m (page_of at)) 1 (add_left c s a (Op.Add m at n) m at) e), refl))
    (λ e. to (due_add s a (Op.Add m at n) m at) (not_added e) (if_false (has_exclusive s a m (page_of at)) 1 (add_left c s a (Op.Add m at n) m at) e) (add_to (Phase.Fetched old) c s a xs m at n 0))
  where
    NotAdded : Next → Type 0
    NotAdded (Do k) = is_added k ≡ false
    NotAdded (Wait y) = ⊤

    not_added : has_exclusive s a m (page_of at) ≡ false → NotAdded (due_add s a (Op.Add m at n) m at)
    not_added e = either NotAdded (in_window s.plain m (one_page (page_of at))) _ _ (λ j. either NotAdded (has_exclusive s a m (page_of at)) _ _ (λ l. refl) (λ l. either_option NotAdded (writer s.locks (mirror_proc s.plain m)) _ _ (λ w. refl) (λ b w. tt))) (λ j. refl)

    to : (d : Next) → NotAdded d → fetched_left c s a (Op.Add m at n) ≡ add_left c s a (Op.Add m at n) m at → PieceTo (Phase.Fetched old) c s a (Op.Add m at n) xs 0 Sole (add_left c s a (Op.Add m at n) m at) d → StepsTo c s a (Op.Add m at n) xs (Phase.Fetched old) [] OnAccess d
    to (Do k) na e h = subst (λ b. (left c (next s a k) a (Op.Add m at n) xs (if b then [] else after_piece (Op.Add m at n) 0 Sole k (seen_at s (Op.Add m at n) xs (Phase.Fetched old) k)) < fetched_left c s a (Op.Add m at n)) × OnAccess (if b then [] else after_piece (Op.Add m at n) 0 Sole k (seen_at s (Op.Add m at n) xs (Phase.Fetched old) k))) (sym na) (subst (λ l. left c (next s a k) a (Op.Add m at n) xs (after_piece (Op.Add m at n) 0 Sole k (seen_at s (Op.Add m at n) xs (Phase.Fetched old) k)) < l) (sym e) h.0, h.1)
    to (Wait y) na e h = tt
fetched_steps c s a o xs old i = cc

-- a look-up begun, and noted
pub begun_steps : (c : Program) (s : After) (a : ℕ) (o : Op) (xs : List Migrating) (k at q : ℕ) (p : ℕ) → StepsTo c s a o xs (Phase.Begun k at q) [] OnAccess (rlock s p)
begun_steps c s a o xs k at q p = either_option (StepsTo c s a o xs (Phase.Begun k at q) [] OnAccess) (writer s.locks p) _ _ (λ w. (omega arith, refl)) (λ b w. tt)

piece_retry : (c : Program) (s : After) (a : ℕ) (o : Op) (k m : ℕ) → is_device_access o ≡ true → piece_left c (next s a (Kind.Retry m)) a o k ≡ piece_left c s a o k
piece_retry c s a (Op.DeviceLoad j at n) k m h = refl
piece_retry c s a (Op.DeviceStore j at bs) k m h = refl
piece_retry c s a o k m h = cc

set_passes : (table : ℕ → ℕ → Option TableEntry) (m v : ℕ) (x : TableEntry) (t : TableEntry → Bool) → t x ≡ true → entry_passes t (with_entry table m v x m v) ≡ true
set_passes table m v x t h = at ((m == m) && (v == v)) (two (m == m) (v == v) (number_is m m refl) (number_is v v refl))
  where
    two : (x y : Bool) → x ≡ true → y ≡ true → (x && y) ≡ true
    two x y i j = grind arith

    at : (b : Bool) → b ≡ true → entry_passes t (if b then Some x else table m v) ≡ true
    at true e = h
    at false e = cc

right_fits : (wr w : Bool) → (wr && not w) ≡ false → (if wr then may_write (right_of w) else may_read (right_of w)) ≡ true
right_fits true true h = refl
right_fits true false h = cc
right_fits false true h = refl
right_fits false false h = refl

set_left : (c : Program) (s : After) (a : ℕ) (o : Op) (k m at : ℕ) (x : Place) → (op_writes o && not (writable x)) ≡ false → mirror_left c (next s a (Kind.Set m (page_of (op_piece o k).0) (names x) (right_of (writable x)) at)) a o k m ≡ 1 + later c o k
set_left c s a o k m at x h = if_true _ _ _ (second (not (in_window s.plain m (one_page (page_of (op_piece o k).0)))) _ (set_passes s.places.table m (page_of (op_piece o k).0) (record { target = names x; right = right_of (writable x); from = at }) (λ y. if op_writes o then may_write y.right else may_read y.right) (right_fits (op_writes o) (writable x) h)))

set_less : (c : Program) (s : After) (a : ℕ) (o : Op) (k m at : ℕ) (x : Place) → mirror_left c (next s a (Kind.Set m (page_of (op_piece o k).0) (names x) (right_of (writable x)) at)) a o k m < (if op_writes o && not (writable x) then 1 + piece_cost c + later c o k else (2 + later c o k))
set_less c s a o k m at x = by (op_writes o && not (writable x)) refl
  where
    by : (b : Bool) → (op_writes o && not (writable x)) ≡ b → mirror_left c (next s a (Kind.Set m (page_of (op_piece o k).0) (names x) (right_of (writable x)) at)) a o k m < (if b then 1 + piece_cost c + later c o k else (2 + later c o k))
    by true e = omega (arith, mirror_most c (next s a (Kind.Set m (page_of (op_piece o k).0) (names x) (right_of (writable x)) at)) a o k m)
    by false e = omega (arith, set_left c s a o k m at x e)

piece_mirror : (c : Program) (s : After) (a : ℕ) (o : Op) (k : ℕ) → is_device_access o ≡ true → piece_left c s a o k ≡ mirror_left c s a o k (op_mirror o)
piece_mirror c s a (Op.DeviceLoad j at n) k h = refl
piece_mirror c s a (Op.DeviceStore j at bs) k h = refl
piece_mirror c s a o k h = cc

pub noted_steps : (c : Program) (s : After) (a : ℕ) (o : Op) (xs : List Migrating) (k at q : ℕ) (x : Place) → is_device_access o ≡ true → StepsTo c s a o xs (Phase.Noted k at q x) [] OnAccess (due_noted s o k at q x)
noted_steps c s a o xs k at q x h = either (StepsTo c s a o xs (Phase.Noted k at q x) [] OnAccess) (repeats s (op_mirror o) q) _ _
    (λ e. (omega (arith, piece_retry c s a o k (op_mirror o) h, if_true (repeats s (op_mirror o) q) (1 + piece_left c s a o k) (if op_writes o && not (writable x) then 1 + piece_cost c + later c o k else (2 + later c o k)) e), refl))
    (λ e. (omega (arith, piece_mirror c (next s a (Kind.Set (op_mirror o) (page_of (op_piece o k).0) (names x) (right_of (writable x)) at)) a o k h, set_less c s a o k (op_mirror o) at x, if_false (repeats s (op_mirror o) q) (1 + piece_left c s a o k) (if op_writes o && not (writable x) then 1 + piece_cost c + later c o k else (2 + later c o k)) e), refl))

-- frames taken for a page
decide_same : (c : Program) (s : After) (a : ℕ) (o : Op) (touch : Touch) (f : Frame) → decide_left c (next s a (Kind.Drop f)) a o touch ≡ decide_left c s a o touch
decide_same c s a o (Cpu k) f = refl
decide_same c s a o (Walk k at q) f = refl
decide_same c s a o Sole f = refl

pub drop_decide_steps : (c : Program) (s : After) (a : ℕ) (o : Op) (xs : List Migrating) (touch : Touch) (f : Frame) → StepsTo c s a o xs (Phase.Drop f) (Phase.Decide touch ∷ []) OnAccess (Do (Kind.Drop f))
drop_decide_steps c s a o xs touch f = (omega (arith, decide_same c s a o touch f), refl)

in_system : (g : Frame) → of_system g ≡ true → place_in g true ≡ Place.Sys g.number true
in_system g h = by g.pool h
  where
    by : (x : PoolId) → same_pool x PoolId.System ≡ true → (elim x as (λ z. Place) [ PoolId.System ↦ Place.Sys g.number true | PoolId.Device d ↦ Place.Own d g.number true ]) ≡ Place.Sys g.number true
    by PoolId.System e = refl
    by (PoolId.Device d) e = cc

home_in : (c : Program) (y : View) (a : ℕ) (o : Op) (touch : Touch) (g : Frame) → of_system g ≡ true → home_now c (placed_view y (proc_of y.plain (op_who o)) (touch_page o touch) (place_in g true)) a o touch ≤ extra touch + ready c o touch
home_in c y a o touch g h = omega (arith, ap (λ z. home_now c (placed_view y (proc_of y.plain (op_who o)) (touch_page o touch) z) a o touch) (in_system g h), home_placed c y a o touch (Place.Sys g.number true), stage_writable c y a o touch g.number)

pub armed_steps : (c : Program) (s : After) (a : ℕ) (o : Op) (xs : List Migrating) (touch : Touch) (g : Frame) (x : Place) → Few c s → of_system g ≡ true → StepsTo c s a o xs (Phase.Armed touch g x) [] OnAccess (Do (start_entry s (touch_proc s o) (one_page (touch_page o touch))))
armed_steps c s a o xs touch g x f h = (by (same_place (s.places.place p v) x), refl)
  where
    p : ℕ
    p = touch_proc s o

    v : ℕ
    v = touch_page o touch

    y : View
    y = placed_view (view s) p v (place_in g true)

    few : told_left (next s a (start_entry s p (one_page v))) p (one_page v) (some_overlap s.sequences p (one_page v)) None ≤ over_ops attaches c
    few = told_few (next s a (start_entry s p (one_page v))) p (one_page v) (some_overlap s.sequences p (one_page v)) None (over_ops attaches c) f.mirrors

    by : (b : Bool) → told_left (next s a (start_entry s p (one_page v))) p (one_page v) (some_overlap s.sequences p (one_page v)) None + (if b then 3 + home_now c y a o touch else (2 + home_now c (view s) a o touch)) < (if b then guard_cost c + 2 + extra touch + ready c o touch else (guard_cost c + 2 + home_now c (view s) a o touch))
    by true = omega (arith, few, home_in c (view s) a o touch g h)
    by false = omega (arith, few)

-- what is decided after a page was placed
decide_is : (c : Program) (s : After) (a : ℕ) (o : Op) (touch : Touch) → decide_left c s a o touch ≡ retried s o touch + stage_now c (view s) a o touch
decide_is c s a o touch = by (repeats_now s o touch)
  where
    by : (b : Bool) → (if b then decide_most c (view s) a o touch else stage_now c (view s) a o touch) ≡ (if b then extra touch else 0) + stage_now c (view s) a o touch
    by true = refl
    by false = omega arith

retried_same : (s : After) (a : ℕ) (o : Op) (touch : Touch) (p v : ℕ) (x : Place) → retried (next s a (Kind.Place p v x)) o touch ≡ retried s o touch
retried_same s a o (Cpu k) p v x = refl
retried_same s a o (Walk k at q) p v x = refl
retried_same s a o Sole p v x = refl

placed_in : (c : Program) (s : After) (a : ℕ) (o : Op) (touch : Touch) (g : Frame) → of_system g ≡ true → decide_left c (next s a (Kind.Place (touch_proc s o) (touch_page o touch) (place_in g true))) a o touch ≤ retried s o touch + ready c o touch
placed_in c s a o touch g h = omega (arith, decide_is c (next s a (Kind.Place (touch_proc s o) (touch_page o touch) (place_in g true))) a o touch, retried_same s a o touch (touch_proc s o) (touch_page o touch) (place_in g true), now_placed c (view s) a o touch (place_in g true), ap (stage c (view s) a o touch) (in_system g h), stage_writable c (view s) a o touch g.number)

pub taken_steps : (c : Program) (s : After) (a : ℕ) (o : Op) (xs : List Migrating) (touch : Touch) (g : Frame) (x : Place) → of_system g ≡ true → is_core x ≡ true → (x ≡ Place.Zero → ⊥) → StepsTo c s a o xs (Phase.Taken touch g x) [] OnAccess (due_taken s g x (touch_proc s o) (touch_page o touch))
taken_steps c s a o xs touch g x h co nz = either (StepsTo c s a o xs (Phase.Taken touch g x) [] OnAccess) (same_place (s.places.place (touch_proc s o) (touch_page o touch)) x) _ _
    (λ e. by x e co nz)
    (λ e. (omega (arith, decide_same c s a o touch g, if_false (same_place (s.places.place (touch_proc s o) (touch_page o touch)) x) ((if has_no_frame x then 1 + retried s o touch else guard_cost c + 3 + extra touch) + ready c o touch) (1 + decide_left c s a o touch) e), refl))
  where
    by : (x : Place) → same_place (s.places.place (touch_proc s o) (touch_page o touch)) x ≡ true → is_core x ≡ true → (x ≡ Place.Zero → ⊥) → StepsTo c s a o xs (Phase.Taken touch g x) [] OnAccess (elim (names x) [ None ↦ Do (Kind.Place (touch_proc s o) (touch_page o touch) (place_in g true)) | Some f ↦ Do (Kind.Copied f g None) ])
    by Place.Empty e co nz = (omega (arith, placed_in c s a o touch g h, if_true (same_place (s.places.place (touch_proc s o) (touch_page o touch)) Place.Empty) ((1 + retried s o touch) + ready c o touch) (1 + decide_left c s a o touch) e), refl)
    by Place.Zero e co nz = absurd (nz refl)
    by (Place.Sys n w) e co nz = (omega (arith, if_true (same_place (s.places.place (touch_proc s o) (touch_page o touch)) (Place.Sys n w)) ((guard_cost c + 3 + extra touch) + ready c o touch) (1 + decide_left c s a o touch) e, if_true (same_place (s.places.place (touch_proc s o) (touch_page o touch)) (Place.Sys n w)) (guard_cost c + 2 + extra touch + ready c o touch) (guard_cost c + 2 + home_now c (view s) a o touch) e), refl)
    by (Place.Own d n w) e co nz = absurd (true_false false co refl)
    by (Place.Moving f w) e co nz = absurd (true_false false co refl)
    by (Place.Exclusive n b) e co nz = absurd (true_false false co refl)
