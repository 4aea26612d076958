-- A fault's decisions.
use Rattle.std.proofs.Common.{◌≡◌, ℕ, ◌+◌, ◌<◌, ◌≤◌, Bool, true, false, ◌&&◌, ◌||◌, not, if◌then◌else◌, List, [], ◌∷◌, refl, sym, ap, ◌∙◌, subst, arith}
use Rattle.std.specs.Prelude.{⊤}
use Rattle.std.proofs.lemmas.Bool.Decides.{nat_tests}
use Rattle.hm_base.specs.declared.cause.Cause.{Cause}
use Rattle.hm_base.specs.Program.{Program}
use Rattle.hm_base.specs.declared.PoolId.{PoolId}
use Rattle.hm_base.specs.declared.Frame.{Frame}
use Rattle.hm_base.specs.declared.Place.{Place}
use Rattle.hm_base.specs.declared.ops.Op.{Op}
use Rattle.hm_history.specs.Memory.Words.{writable, same_place}
use Rattle.hm_history.specs.Memory.Plain.{mirror_dev}
use Rattle.hm_history.specs.Memory.Places.{lowest_free}
use Rattle.hm_history.specs.Memory.After.{After}
use Rattle.hm_history.specs.Kernel.Operation.{op_mirror, op_writes, is_exclusive_op}
use Rattle.hm_history.specs.Kernel.Quiet.{guard_cost}
use Rattle.hm_history.specs.Kernel.Stacks.{after_decide, piece_of, with_frame_taken}
use Rattle.hm_history.specs.Kernel.Going.{touch_page, touch_proc, seen_at}
use Rattle.hm_history.specs.Kernel.Due.{suits, suits_walk, fails, failed, take_or, repeats}
use Rattle.hm_history.specs.declared.Kind.{Kind}
use Rattle.hm_history.specs.declared.phases.Migrating.{Migrating}
use Rattle.hm_history.specs.declared.phases.Touch.{Touch}
use Rattle.hm_history.specs.declared.phases.Touch.TheVariants.{Cpu, Walk, Sole}
use Rattle.hm_history.specs.declared.phases.Phase.{Phase}
use Rattle.hm_history.specs.declared.phases.Next.{Next}
use Rattle.hm_history.specs.declared.phases.Next.TheVariants.{Do, Wait}
use Rattle.hm_history.proofs.Frames.{frame_tells}
use Rattle.hm_laws.specs.Shapes.{is_cpu, is_device_access, takes_exclusive, is_core}
use Rattle.hm_laws.specs.Allowed.{next}
use Rattle.hm_laws.proofs.Due.Good.{either, either_option}
use Rattle.hm_quiet_laws.proofs.measure.Left.{View, view, left, piece_cost, later, tail, extra, ready, copies, mends, is_over, is_ready, stage, stage_now, home_now, decide_left, retried, repeats_now, piece_left, noted_left}
use Rattle.hm_quiet_laws.proofs.measure.Shapes.{is_access, on_access}
use Rattle.hm_quiet_laws.proofs.faults.StagesLeft.{stage_over, stage_mends, now_placed, ends_left}
use Rattle.hm_quiet_laws.proofs.StartsWithinBound.{tail_less}

-- whose touch an operation's fault is
abbrev pub Fits : Op → Touch → Type 0
Fits o (Cpu k) = is_cpu o ≡ true
Fits o (Walk k at q) = is_device_access o ≡ true
Fits o Sole = takes_exclusive o ≡ true

-- what a decision leads to, by the entry
abbrev pub Dec : Program → After → ℕ → Op → List Migrating → Touch → Kind → Type 0
Dec c s a o xs touch k = (left c (next s a k) a o xs (after_decide o touch k (seen_at s o xs (Phase.Decide touch) k)) < stage_now c (view s) a o touch) × (on_access (after_decide o touch k (seen_at s o xs (Phase.Decide touch) k)) ≡ true)

abbrev pub Decs : Program → After → ℕ → Op → List Migrating → Touch → Next → Type 0
Decs c s a o xs touch (Do k) = Dec c s a o xs touch k
Decs c s a o xs touch (Wait y) = ⊤

pub tail_stage : (c : Program) (y : View) (a : ℕ) (o : Op) (touch : Touch) (x : Place) → tail c o touch ≤ stage c y a o touch x
tail_stage c y a o touch x = by (is_over y a o touch x) (is_ready touch x)
  where
    by : (b d : Bool) → tail c o touch ≤ (if b then tail c o touch else if d then ready c o touch else (mends c o touch x + ready c o touch))
    by true d = omega arith
    by false true = omega (arith, tail_less c o touch)
    by false false = omega (arith, tail_less c o touch)

sole_later : (c : Program) (o : Op) → takes_exclusive o ≡ true → later c o 0 < tail c o Sole
sole_later c (Op.Exclusive m v) h = omega arith
sole_later c (Op.Add m at n) h = omega arith
sole_later c o h = cc

pub later_less : (c : Program) (o : Op) (touch : Touch) → Fits o touch → later c o (piece_of touch) < tail c o touch
later_less c o (Cpu k) f = omega arith
later_less c o (Walk k at q) f = omega arith
later_less c o Sole f = sole_later c o f

-- failures
pub now_tail : (c : Program) (s : After) (a : ℕ) (o : Op) (touch : Touch) → tail c o touch ≤ stage_now c (view s) a o touch
now_tail c s a o touch = tail_stage c (view s) a o touch (s.places.place (touch_proc s o) (touch_page o touch))

pub fails_dec : (c : Program) (s : After) (a : ℕ) (o : Op) (xs : List Migrating) (touch : Touch) (k : ℕ) (n : Cause) → is_access o ≡ true → Fits o touch → Dec c s a o xs touch (fails o k n)
fails_dec c s a o xs touch k n i f = either (Dec c s a o xs touch) (is_exclusive_op o) _ _ (λ e. (omega (arith, later_less c o touch f, now_tail c s a o touch), refl))
    (λ e. (omega (arith, (ends_left c (next s a (failed o k n)) a o xs (piece_of touch) i).0, later_less c o touch f, now_tail c s a o touch), (ends_left c (next s a (failed o k n)) a o xs (piece_of touch) i).1))

-- the page suits
walk_writes : (d : ℕ) (w : Bool) (x : Place) → suits_walk d w x ≡ true → (w && not (writable x)) ≡ false
walk_writes d w (Place.Own e n z) h = grind arith
walk_writes d w (Place.Sys n z) h = grind arith
walk_writes d w Place.Zero h = grind arith
walk_writes d w Place.Empty h = grind arith
walk_writes d w (Place.Moving f z) h = grind arith
walk_writes d w (Place.Exclusive n b) h = grind arith

pub if_false : (b : Bool) (x y : ℕ) → b ≡ false → (if b then x else y) ≡ y
if_false b x y e = grind arith

pub if_true : (b : Bool) (x y : ℕ) → b ≡ true → (if b then x else y) ≡ x
if_true b x y e = grind arith

pub second : (x y : Bool) → y ≡ true → (x || y) ≡ true
second x y h = grind arith

cpu_suits : (c : Program) (s : After) (a : ℕ) (o : Op) (xs : List Migrating) (k : ℕ) → is_cpu o ≡ true → suits (op_writes o) (s.places.place (touch_proc s o) (touch_page o (Cpu k))) ≡ true → piece_left c s a o k ≡ 1 + later c o k
cpu_suits c s a (Op.Load p at n) xs k f e = if_true _ _ _ (second (not (s.plain.there p)) _ e)
cpu_suits c s a (Op.Store p at bs) xs k f e = if_true _ _ _ (second (not (s.plain.there p)) _ e)
cpu_suits c s a o xs k f e = cc

pub runlock_dec : (c : Program) (s : After) (a : ℕ) (o : Op) (xs : List Migrating) (touch : Touch) (q : ℕ) → Fits o touch → is_over (view s) a o touch (s.places.place (touch_proc s o) (touch_page o touch)) ≡ true → repeats_now s o touch ≡ false → (touch ≡ Sole → ⊥) → Dec c s a o xs touch (Kind.Runlock q)
runlock_dec c s a o xs (Cpu k) q f e r ns = (omega (arith, cpu_suits c (next s a (Kind.Runlock q)) a o xs k f e, stage_over c (view s) a o (Cpu k) (s.places.place (touch_proc s o) (touch_page o (Cpu k))) e), refl)
runlock_dec c s a o xs (Walk k at i) q f e r ns = (omega (arith, fits, stage_over c (view s) a o (Walk k at i) (s.places.place (touch_proc s o) (touch_page o (Walk k at i))) e), refl)
  where
    fits : noted_left c (next s a (Kind.Runlock q)) a o k i (s.places.place (touch_proc s o) (touch_page o (Walk k at i))) ≡ 2 + later c o k
    fits = if_false (repeats s (op_mirror o) i) (1 + piece_left c (next s a (Kind.Runlock q)) a o k) (if op_writes o && not (writable (s.places.place (touch_proc s o) (touch_page o (Walk k at i)))) then 1 + piece_cost c + later c o k else (2 + later c o k)) r
        ∙ if_false (op_writes o && not (writable (s.places.place (touch_proc s o) (touch_page o (Walk k at i))))) (1 + piece_cost c + later c o k) (2 + later c o k) (walk_writes (mirror_dev s.plain (op_mirror o)) (op_writes o) (s.places.place (touch_proc s o) (touch_page o (Walk k at i))) e)
runlock_dec c s a o xs Sole q f e r ns = absurd (ns refl)

-- a frame is taken
pub same_refl : (x : Place) → same_place x x ≡ true
same_refl Place.Empty = refl
same_refl Place.Zero = refl
same_refl (Place.Sys n w) = grind (arith, nat_tests)
same_refl (Place.Own d n w) = grind (arith, nat_tests)
same_refl (Place.Moving f w) = grind (arith, nat_tests, frame_tells f f)
same_refl (Place.Exclusive n b) = grind (arith, nat_tests)

abbrev TakesAt : Program → After → ℕ → Op → List Migrating → Touch → Frame → Place → Type 0
TakesAt c s a o xs touch g z = (left c (next s a (Kind.Take g)) a o xs (with_frame_taken touch g z ∷ []) < stage c (view s) a o touch z) × (on_access (with_frame_taken touch g z ∷ []) ≡ true)

pub copies_writes : (c : Program) (o : Op) (touch : Touch) → op_writes o ≡ true → copies c o touch ≡ guard_cost c + 4 + extra touch
copies_writes c o touch e = if_true (op_writes o) (guard_cost c + 4 + extra touch) 0 e

-- of a page that does not suit, a read-only one for a store, the zero page or an untouched one
no_retry : (c : Program) (s : After) (a : ℕ) (o : Op) (touch : Touch) (g : Frame) → repeats_now s o touch ≡ false → retried (next s a (Kind.Take g)) o touch ≡ 0
no_retry c s a o (Cpu k) g e = refl
no_retry c s a o (Walk k at q) g e = if_false (repeats s (op_mirror o) q) 3 0 e
no_retry c s a o Sole g e = refl

take_at : (c : Program) (s : After) (a : ℕ) (o : Op) (xs : List Migrating) (touch : Touch) (g : Frame) (x : Place) → same_place (s.places.place (touch_proc s o) (touch_page o touch)) x ≡ true → is_over (view s) a o touch x ≡ false → is_ready touch x ≡ false → op_writes o ≡ true → is_core x ≡ true → repeats_now s o touch ≡ false → TakesAt c s a o xs touch g x
take_at c s a o xs touch g Place.Empty e v r w co rp = (omega (arith, if_true (same_place (s.places.place (touch_proc s o) (touch_page o touch)) Place.Empty) ((1 + retried (next s a (Kind.Take g)) o touch) + ready c o touch) (1 + decide_left c (next s a (Kind.Take g)) a o touch) e, no_retry c s a o touch g rp, stage_mends c (view s) a o touch Place.Empty v r, if_true (op_writes o) 2 1 w), refl)
take_at c s a o xs touch g Place.Zero e v r w co rp = (omega (arith, if_true (same_place (s.places.place (touch_proc s o) (touch_page o touch)) Place.Zero) (guard_cost c + 2 + extra touch + ready c o touch) (guard_cost c + 2 + home_now c (view s) a o touch) e, stage_mends c (view s) a o touch Place.Zero v r), refl)
take_at c s a o xs touch g (Place.Sys n z) e v r w co rp = (omega (arith, if_true (same_place (s.places.place (touch_proc s o) (touch_page o touch)) (Place.Sys n z)) ((guard_cost c + 3 + extra touch) + ready c o touch) (1 + decide_left c (next s a (Kind.Take g)) a o touch) e, stage_mends c (view s) a o touch (Place.Sys n z) v r, copies_writes c o touch w), refl)
take_at c s a o xs touch g (Place.Own d n z) e v r w co rp = cc
take_at c s a o xs touch g (Place.Moving h z) e v r w co rp = cc
take_at c s a o xs touch g (Place.Exclusive n b) e v r w co rp = cc

pub take_dec : (c : Program) (s : After) (a : ℕ) (o : Op) (xs : List Migrating) (touch : Touch) (g : Frame) (x : Place) → s.places.place (touch_proc s o) (touch_page o touch) ≡ x → is_over (view s) a o touch x ≡ false → is_ready touch x ≡ false → op_writes o ≡ true → is_core x ≡ true → repeats_now s o touch ≡ false → Dec c s a o xs touch (Kind.Take g)
take_dec c s a o xs touch g x e v r w co rp = subst (TakesAt c s a o xs touch g) (sym e) (take_at c s a o xs touch g x (ap (λ z. same_place z x) e ∙ same_refl x) v r w co rp)

pub take_or_dec : (c : Program) (s : After) (a : ℕ) (o : Op) (xs : List Migrating) (touch : Touch) (k : ℕ) (x : Place) → is_access o ≡ true → Fits o touch → s.places.place (touch_proc s o) (touch_page o touch) ≡ x → is_over (view s) a o touch x ≡ false → is_ready touch x ≡ false → op_writes o ≡ true → is_core x ≡ true → repeats_now s o touch ≡ false → Decs c s a o xs touch (take_or c s (fails o k Cause.NoFrame))
take_or_dec c s a o xs touch k x i f e v r w co rp = either_option (Decs c s a o xs touch) (lowest_free c s.places PoolId.System) _ _ (λ j. fails_dec c s a o xs touch k Cause.NoFrame i f) (λ g j. take_dec c s a o xs touch g x e v r w co rp)

placed_now : (c : Program) (s : After) (a : ℕ) (o : Op) (touch : Touch) (x : Place) → repeats_now s o touch ≡ false → decide_left c (next s a (Kind.Place (touch_proc s o) (touch_page o touch) x)) a o touch ≡ stage c (view s) a o touch x
placed_now c s a o touch x r = if_false _ _ _ (same touch r) ∙ now_placed c (view s) a o touch x
  where
    same : (t : Touch) → repeats_now s o t ≡ false → repeats_now (next s a (Kind.Place (touch_proc s o) (touch_page o touch) x)) o t ≡ false
    same (Cpu k) e = refl
    same (Walk k at q) e = e
    same Sole e = refl

pub place_dec : (c : Program) (s : After) (a : ℕ) (o : Op) (xs : List Migrating) (touch : Touch) (x z : Place) → s.places.place (touch_proc s o) (touch_page o touch) ≡ z → repeats_now s o touch ≡ false → stage c (view s) a o touch x < stage c (view s) a o touch z → Dec c s a o xs touch (Kind.Place (touch_proc s o) (touch_page o touch) x)
place_dec c s a o xs touch x z e r h = (omega (arith, placed_now c s a o touch x r, subst (λ w. stage c (view s) a o touch x < stage c (view s) a o touch w) (sym e) h), refl)
