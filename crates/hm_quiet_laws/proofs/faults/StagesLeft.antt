-- What is left of a fault, by the place of its page.
use Rattle.std.proofs.Common.{◌≡◌, ℕ, suc, ◌+◌, ◌*◌, ◌-◌, ◌<◌, ◌≤◌, Bool, true, false, nat_lt, if◌then◌else◌, List, [], ◌∷◌, refl, ap, ◌∙◌, subst, arith, length}
use Rattle.std.proofs.lemmas.Bool.Decides.{nat_tests}
use Rattle.hm_base.specs.Program.{Program}
use Rattle.hm_base.specs.declared.Place.{Place}
use Rattle.hm_base.specs.declared.ops.Op.{Op}
use Rattle.hm_history.specs.Memory.After.{After}
use Rattle.hm_history.specs.Kernel.Operation.{op_pieces, op_writes, op_who}
use Rattle.hm_history.specs.Memory.Plain.{proc_of}
use Rattle.hm_history.specs.Kernel.Stacks.{piece_ends}
use Rattle.hm_history.specs.Kernel.Going.{touch_page}
use Rattle.hm_history.specs.declared.phases.Migrating.{Migrating}
use Rattle.hm_history.specs.declared.phases.Touch.{Touch}
use Rattle.hm_history.specs.declared.phases.Touch.TheVariants.{Cpu, Walk, Sole}
use Rattle.hm_history.specs.declared.phases.Phase.{Phase}
use Rattle.hm_laws.proofs.Due.Spans.{this_page}
use Rattle.hm_quiet_laws.proofs.measure.Left.{View, view, placed_view, left, piece_cost, later, tail, extra, ready, mends, is_over, is_ready, stage, stage_home, stage_now, home_now, decide_most, decide_left, repeats_now, piece_left}
use Rattle.hm_quiet_laws.proofs.measure.Shapes.{is_access, on_access}
use Rattle.hm_quiet_laws.proofs.StartsWithinBound.{cpu_most, mirror_most, tail_less}

pub stage_over : (c : Program) (y : View) (a : ℕ) (o : Op) (touch : Touch) (x : Place) → is_over y a o touch x ≡ true → stage c y a o touch x ≡ tail c o touch
stage_over c y a o touch x e = ap (λ b. if b then tail c o touch else if is_ready touch x then ready c o touch else (mends c o touch x + ready c o touch)) e

pub stage_mends : (c : Program) (y : View) (a : ℕ) (o : Op) (touch : Touch) (x : Place) → is_over y a o touch x ≡ false → is_ready touch x ≡ false → stage c y a o touch x ≡ mends c o touch x + ready c o touch
stage_mends c y a o touch x e f = ap (λ b. if b then tail c o touch else if is_ready touch x then ready c o touch else (mends c o touch x + ready c o touch)) e ∙ ap (λ b. if b then ready c o touch else (mends c o touch x + ready c o touch)) f

pub stage_any : (c : Program) (y : View) (a : ℕ) (o : Op) (touch : Touch) (x : Place) → stage c y a o touch x ≤ mends c o touch x + ready c o touch
stage_any c y a o touch x = by (is_over y a o touch x) (is_ready touch x)
  where
    by : (b d : Bool) → (if b then tail c o touch else if d then ready c o touch else (mends c o touch x + ready c o touch)) ≤ mends c o touch x + ready c o touch
    by true d = omega (arith, tail_less c o touch)
    by false true = omega arith
    by false false = omega arith

-- a writable system page is ready
pub stage_writable : (c : Program) (y : View) (a : ℕ) (o : Op) (touch : Touch) (n : ℕ) → stage c y a o touch (Place.Sys n true) ≤ ready c o touch
stage_writable c y a o (Cpu k) n = by (op_writes o)
  where
    by : (b : Bool) → (if (if b then true else true) then tail c o (Cpu k) else if false then ready c o (Cpu k) else (mends c o (Cpu k) (Place.Sys n true) + ready c o (Cpu k))) ≤ ready c o (Cpu k)
    by true = omega arith
    by false = omega arith
stage_writable c y a o (Walk k at q) n = by (op_writes o)
  where
    by : (b : Bool) → (if (if b then true else true) then tail c o (Walk k at q) else if false then ready c o (Walk k at q) else (mends c o (Walk k at q) (Place.Sys n true) + ready c o (Walk k at q))) ≤ ready c o (Walk k at q)
    by true = omega arith
    by false = omega arith
stage_writable c y a o Sole n = omega arith

pub home_most : (c : Program) (y : View) (a : ℕ) (o : Op) (touch : Touch) → decide_most c y a o touch ≤ home_now c y a o touch
home_most c y a o touch = by (y.place (proc_of y.plain (op_who o)) (touch_page o touch))
  where
    by : (x : Place) → extra touch + stage c y a o touch x ≤ extra touch + stage_home c y a o touch x
    by (Place.Own d n w) = omega (arith, stage_any c y a o touch (Place.Own d n w))
    by Place.Empty = omega arith
    by Place.Zero = omega arith
    by (Place.Sys n w) = omega arith
    by (Place.Moving f w) = omega arith
    by (Place.Exclusive n b) = omega arith

pub decide_less : (c : Program) (s : After) (a : ℕ) (o : Op) (touch : Touch) → decide_left c s a o touch ≤ decide_most c (view s) a o touch
decide_less c s a o touch = by (repeats_now s o touch)
  where
    by : (b : Bool) → (if b then decide_most c (view s) a o touch else stage_now c (view s) a o touch) ≤ decide_most c (view s) a o touch
    by true = omega arith
    by false = omega arith

pub decide_home : (c : Program) (s : After) (a : ℕ) (o : Op) (touch : Touch) → decide_left c s a o touch ≤ home_now c (view s) a o touch
decide_home c s a o touch = omega (arith, decide_less c s a o touch, home_most c (view s) a o touch)

-- the page of the touch after its `place`
pub home_placed : (c : Program) (y : View) (a : ℕ) (o : Op) (touch : Touch) (x : Place) → home_now c (placed_view y (proc_of y.plain (op_who o)) (touch_page o touch) x) a o touch ≡ extra touch + stage_home c y a o touch x
home_placed c y a o touch x = ap (λ z. extra touch + stage_home c y a o touch z) (this_page y.place (proc_of y.plain (op_who o)) (touch_page o touch) x)

pub now_placed : (c : Program) (y : View) (a : ℕ) (o : Op) (touch : Touch) (x : Place) → stage_now c (placed_view y (proc_of y.plain (op_who o)) (touch_page o touch) x) a o touch ≡ stage c y a o touch x
now_placed c y a o touch x = ap (λ z. stage c y a o touch z) (this_page y.place (proc_of y.plain (op_who o)) (touch_page o touch) x)

-- the next piece
next_piece : (n k p : ℕ) → k + 1 < n → p + (n - (k + 1 + 1)) * p ≤ (n - (k + 1)) * p
next_piece n k p h = subst (λ m. p + (n - (k + 1 + 1)) * p ≤ m * p) (same n k h) (omega arith)
  where
    same : (n k : ℕ) → k + 1 < n → suc (n - (k + 1 + 1)) ≡ n - (k + 1)
    same n k h = omega arith

piece_most : (c : Program) (s : After) (a : ℕ) (o : Op) (k : ℕ) → is_access o ≡ true → nat_lt (k + 1) (length (op_pieces o)) ≡ true → piece_left c s a o (k + 1) ≤ piece_cost c + later c o (k + 1)
piece_most c s a (Op.Load p at n) k i e = cpu_most c s a (Op.Load p at n) (k + 1) p
piece_most c s a (Op.Store p at bs) k i e = cpu_most c s a (Op.Store p at bs) (k + 1) p
piece_most c s a (Op.DeviceLoad m at n) k i e = mirror_most c s a (Op.DeviceLoad m at n) (k + 1) m
piece_most c s a (Op.DeviceStore m at bs) k i e = mirror_most c s a (Op.DeviceStore m at bs) (k + 1) m
piece_most c s a (Op.Exclusive m v) k i e = omega arith
piece_most c s a (Op.Add m at n) k i e = absurd (none k e)
  where
    none : (k : ℕ) → nat_lt (k + 1) 1 ≡ true → ⊥
    none k e = grind (arith, nat_tests)
piece_most c s a o k i e = cc

pub ends_left : (c : Program) (s : After) (a : ℕ) (o : Op) (xs : List Migrating) (k : ℕ) → is_access o ≡ true → (left c s a o xs (piece_ends o k) ≤ later c o k) × (on_access (piece_ends o k) ≡ true)
ends_left c s a o xs k i = by (nat_lt (k + 1) (length (op_pieces o))) refl
  where
    less : (n : ℕ) → nat_lt (k + 1) n ≡ true → k + 1 < n
    less n e = grind (arith, nat_tests)

    by : (b : Bool) → nat_lt (k + 1) (length (op_pieces o)) ≡ b → (left c s a o xs (if b then Phase.Piece (k + 1) ∷ [] else []) ≤ later c o k) × (on_access (if b then Phase.Piece (k + 1) ∷ [] else []) ≡ true)
    by true e = (omega (arith, piece_most c s a o k i e, next_piece (length (op_pieces o)) k (piece_cost c) (less (length (op_pieces o)) e)), refl)
    by false e = (omega arith, refl)
