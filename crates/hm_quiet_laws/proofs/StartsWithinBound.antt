-- Where an operation begins, no more is left than its bound.
use Rattle.std.proofs.Common.{◌≡◌, ℕ, ◌+◌, ◌*◌, ◌-◌, ◌≤◌, Bool, true, false, ◌||◌, ◌==◌, not, if◌then◌else◌, [], ◌∷◌, ap, arith, length}
use Rattle.std.specs.Prelude.{slice_index}
use Rattle.hm_base.specs.Pages.{one_page}
use Rattle.hm_base.specs.Program.{Program}
use Rattle.hm_base.specs.declared.Place.{Place}
use Rattle.hm_base.specs.declared.ops.Op.{Op}
use Rattle.hm_history.specs.Memory.Words.{page_of, first_len}
use Rattle.hm_history.specs.Memory.Plain.{in_window, proc_of}
use Rattle.hm_history.specs.Memory.After.{After}
use Rattle.hm_history.specs.Kernel.Operation.{op_piece, op_who, op_writes}
use Rattle.hm_history.specs.Kernel.Quiet.{guard_cost, home_cost, quiet_bound}
use Rattle.hm_history.specs.Kernel.Stacks.{first_phase}
use Rattle.hm_history.specs.Kernel.Going.{touch_page}
use Rattle.hm_history.specs.Kernel.Due.{suits, is_usable, has_exclusive}
use Rattle.hm_history.specs.declared.phases.Touch.{Touch}
use Rattle.hm_history.specs.declared.phases.Touch.TheVariants.{Cpu, Walk, Sole}
use Rattle.hm_quiet_laws.proofs.measure.Left.{View, view, left, piece_cost, later, tail, extra, ready, copies, mends, is_over, is_ready, stage, stage_now, cpu_left, mirror_left, add_left}
use Rattle.hm_quiet_laws.proofs.measure.Counts.{Few}

-- faults
copies_most : (c : Program) (o : Op) (touch : Touch) → copies c o touch ≤ guard_cost c + 4 + extra touch
copies_most c o touch = by (op_writes o)
  where
    by : (b : Bool) → (if b then guard_cost c + 4 + extra touch else 0) ≤ guard_cost c + 4 + extra touch
    by true = omega arith
    by false = omega arith

abbrev most : Program → Touch → ℕ
most c touch = home_cost c + guard_cost c + 4 + extra touch + extra touch

mends_most : (c : Program) (o : Op) (touch : Touch) (x : Place) → mends c o touch x ≤ most c touch
mends_most c o touch Place.Empty = by (op_writes o)
  where
    by : (b : Bool) → (if b then 2 else 1) ≤ most c touch
    by true = omega arith
    by false = omega arith
mends_most c o touch Place.Zero = omega arith
mends_most c o touch (Place.Sys n w) = omega (arith, copies_most c o touch)
mends_most c o touch (Place.Moving f w) = omega (arith, copies_most c o touch)
mends_most c o touch (Place.Own d n w) = omega (arith, copies_most c o touch)
mends_most c o touch (Place.Exclusive n b) = omega arith

-- once the place suits no more is left than once the page is a writable system page
pub tail_less : (c : Program) (o : Op) (touch : Touch) → tail c o touch ≤ ready c o touch
tail_less c o (Cpu k) = omega arith
tail_less c o (Walk k at q) = omega arith
tail_less c o Sole = omega arith

pub stage_most : (c : Program) (y : View) (a : ℕ) (o : Op) (touch : Touch) (x : Place) → stage c y a o touch x ≤ most c touch + ready c o touch
stage_most c y a o touch x = by (is_over y a o touch x) (is_ready touch x)
  where
    by : (b d : Bool) → (if b then tail c o touch else if d then ready c o touch else (mends c o touch x + ready c o touch)) ≤ most c touch + ready c o touch
    by true d = omega (arith, tail_less c o touch)
    by false true = omega arith
    by false false = omega (arith, mends_most c o touch x)

pub now_most : (c : Program) (y : View) (a : ℕ) (o : Op) (touch : Touch) → stage_now c y a o touch ≤ most c touch + ready c o touch
now_most c y a o touch = stage_most c y a o touch (y.place (proc_of y.plain (op_who o)) (touch_page o touch))

-- pieces: at most two
two_pieces : (c : Program) (a n : ℕ) (b : Bool) → (length {A = ℕ × ℕ} (if b then (a, n) ∷ [] else ((a, first_len a n) ∷ (a + first_len a n, n - first_len a n) ∷ [])) - (0 + 1)) * piece_cost c ≤ piece_cost c
two_pieces c a n true = omega arith
two_pieces c a n false = omega arith

pub cpu_most : (c : Program) (s : After) (a : ℕ) (o : Op) (k p : ℕ) → cpu_left c s a o k p ≤ piece_cost c + later c o k
cpu_most c s a o k p = by (not (s.plain.there p) || suits (op_writes o) (s.places.place p (page_of (op_piece o k).0)))
  where
    by : (b : Bool) → (if b then 1 + later c o k else (1 + stage_now c (view s) a o (Cpu k))) ≤ piece_cost c + later c o k
    by true = omega arith
    by false = omega (arith, now_most c (view s) a o (Cpu k))

pub mirror_most : (c : Program) (s : After) (a : ℕ) (o : Op) (k m : ℕ) → mirror_left c s a o k m ≤ piece_cost c + later c o k
mirror_most c s a o k m = by (not (in_window s.plain m (one_page (page_of (op_piece o k).0))) || is_usable (op_writes o) (s.places.table m (page_of (op_piece o k).0)))
  where
    by : (b : Bool) → (if b then 1 + later c o k else (2 + stage_now c (view s) a o (Walk k 0 0))) ≤ piece_cost c + later c o k
    by true = omega arith
    by false = omega (arith, now_most c (view s) a o (Walk k 0 0))

add_most : (c : Program) (s : After) (a m at n : ℕ) → add_left c s a (Op.Add m at n) m at ≤ home_cost c + 2 * guard_cost c + 10
add_most c s a m at n = by (in_window s.plain m (one_page (page_of at))) (has_exclusive s a m (page_of at))
  where
    by : (b d : Bool) → (if not b then 1 else if d then 2 else (1 + stage_now c (view s) a (Op.Add m at n) Sole)) ≤ home_cost c + 2 * guard_cost c + 10
    by false d = omega arith
    by true true = omega arith
    by true false = omega (arith, now_most c (view s) a (Op.Add m at n) Sole)

exclusive_most : (c : Program) (s : After) (a m v : ℕ) → (if in_window s.plain m (one_page v) then 1 + stage_now c (view s) a (Op.Exclusive m v) Sole else 1) ≤ home_cost c + 2 * guard_cost c + 8
exclusive_most c s a m v = by (in_window s.plain m (one_page v))
  where
    by : (b : Bool) → (if b then 1 + stage_now c (view s) a (Op.Exclusive m v) Sole else 1) ≤ home_cost c + 2 * guard_cost c + 8
    by false = omega arith
    by true = omega (arith, now_most c (view s) a (Op.Exclusive m v) Sole)

same_off : (n : ℕ) → n - 0 ≡ n
same_off n = omega arith

evict_most : (n h : ℕ) → (n - 0) * h + 1 + 0 ≤ n * h + 1
evict_most n h = omega (arith, ap (λ k. k * h) (same_off n))

remove_most : (n h : ℕ) (b : Bool) → (n - 0) * h + 1 + (if b then 1 else 0) ≤ n * h + 2
remove_most n h true = omega (arith, ap (λ k. k * h) (same_off n))
remove_most n h false = omega (arith, ap (λ k. k * h) (same_off n))

pub first_bound : (c : Program) (s : After) (a : ℕ) (o : Op) → Few c s → left c s a o [] (first_phase o ∷ []) ≤ quiet_bound c o
first_bound c s a (Op.Map p r w) f = omega arith
first_bound c s a (Op.Unmap p r) f = omega arith
first_bound c s a (Op.Protect p r w) f = omega arith
first_bound c s a (Op.Exit p) f = omega (arith, f.pages p)
first_bound c s a (Op.Fork p d) f = omega (arith, f.pages p)
first_bound c s a (Op.Attach m d p r) f = omega arith
first_bound c s a (Op.Detach m) f = omega arith
first_bound c s a (Op.Snap m r) f = omega arith
first_bound c s a (Op.ToDevice m r) f = omega arith
first_bound c s a (Op.ToSystem m r) f = omega arith
first_bound c s a (Op.Exclusive m v) f = exclusive_most c s a m v
first_bound c s a (Op.Add m at n) f = add_most c s a m at n
first_bound c s a (Op.Evict d) f = evict_most (slice_index c.devices d) (home_cost c)
first_bound c s a (Op.Remove d) f = remove_most (slice_index c.devices d) (home_cost c) (not (s.places.withdrawn d))
first_bound c s a (Op.Load p at n) f = omega (arith, cpu_most c s a (Op.Load p at n) 0 p, two_pieces c at n (first_len at n == n))
first_bound c s a (Op.Store p at bs) f = omega (arith, cpu_most c s a (Op.Store p at bs) 0 p, two_pieces c at (length bs) (first_len at (length bs) == length bs))
first_bound c s a (Op.DeviceLoad m at n) f = omega (arith, mirror_most c s a (Op.DeviceLoad m at n) 0 m, two_pieces c at n (first_len at n == n))
first_bound c s a (Op.DeviceStore m at bs) f = omega (arith, mirror_most c s a (Op.DeviceStore m at bs) 0 m, two_pieces c at (length bs) (first_len at (length bs) == length bs))
