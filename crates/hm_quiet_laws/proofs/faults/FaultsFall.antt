-- A fault's decisions, whosever touch it is.
use Rattle.std.proofs.Common.{◌≡◌, ℕ, ◌+◌, ◌<◌, ◌≤◌, Bool, true, false, ◌&&◌, ◌||◌, not, is_none, if◌then◌else◌, None, List, [], ◌∷◌, refl, ap, arith}
use Rattle.std.specs.Prelude.{⊤}
use Rattle.hm_base.specs.declared.cause.Cause.{Cause}
use Rattle.hm_base.specs.Pages.{one_page}
use Rattle.hm_base.specs.Program.{Program}
use Rattle.hm_base.specs.declared.Frame.{Frame}
use Rattle.hm_base.specs.declared.Place.{Place}
use Rattle.hm_base.specs.declared.ops.Op.{Op}
use Rattle.hm_history.specs.Memory.Words.{sys_frame, dev_frame, page_of, same_place}
use Rattle.hm_history.specs.Memory.Plain.{in_window, rights_of, is_read_only}
use Rattle.hm_history.specs.Memory.Locks.{other_locker}
use Rattle.hm_history.specs.Memory.After.{After}
use Rattle.hm_history.specs.Kernel.Operation.{op_piece, op_mirror, op_writes, is_evicting}
use Rattle.hm_history.specs.Kernel.Stacks.{piece_of, after_decide}
use Rattle.hm_history.specs.Kernel.Going.{touch_page, touch_proc, seen_at}
use Rattle.hm_history.specs.Kernel.Due.{start_entry, suits, is_usable, is_used_once, fault_at, fault, repeats}
use Rattle.hm_history.specs.declared.Kind.{Kind}
use Rattle.hm_history.specs.declared.phases.Migrating.{Migrating}
use Rattle.hm_history.specs.declared.phases.Touch.{Touch}
use Rattle.hm_history.specs.declared.phases.Touch.TheVariants.{Cpu, Walk, Sole}
use Rattle.hm_history.specs.declared.phases.Body.{Body}
use Rattle.hm_history.specs.declared.phases.Phase.{Phase}
use Rattle.hm_history.specs.declared.phases.Next.{Next}
use Rattle.hm_history.specs.declared.phases.Next.TheVariants.{Do, Wait}
use Rattle.hm_history.proofs.Tests.{true_false}
use Rattle.hm_laws.specs.Shapes.{takes_exclusive, is_device_access}
use Rattle.hm_laws.specs.Allowed.{next}
use Rattle.hm_laws.proofs.Due.Guards.{number_is}
use Rattle.hm_laws.proofs.Due.Good.{either, either_option}
use Rattle.hm_quiet_laws.proofs.measure.Left.{View, view, placed_view, left, later, piece_left, body_left, home_now, decide_most, decide_left, is_over, is_ready, stage, stage_now, repeats_now}
use Rattle.hm_quiet_laws.proofs.measure.Counts.{Few}
use Rattle.hm_quiet_laws.proofs.measure.Shapes.{is_access, on_access}
use Rattle.hm_quiet_laws.proofs.faults.StagesLeft.{stage_over, stage_mends, stage_writable, home_placed}
use Rattle.hm_quiet_laws.proofs.faults.TakesFall.{Fits, Dec, Decs, if_true, if_false, now_tail, same_refl, fails_dec, copies_writes, take_or_dec, place_dec}
use Rattle.hm_quiet_laws.proofs.faults.StartsFall.{start_dec, restore_dec, catch_dec}

access_evicts : (o : Op) → is_access o ≡ true → is_evicting o ≡ false
access_evicts (Op.Evict d) i = cc
access_evicts (Op.Remove d) i = cc
access_evicts o i = refl

sole_writes : (o : Op) → takes_exclusive o ≡ true → op_writes o ≡ true
sole_writes (Op.Exclusive m v) h = refl
sole_writes (Op.Add m at n) h = refl
sole_writes o h = cc

not_load : (b : Bool) → (if b then false else true) ≡ false → b ≡ true
not_load true h = refl
not_load false h = cc

-- a page that the CPU can read and that does not suit is wanted for a store
writes_zero : (s : After) (a : ℕ) (o : Op) (touch : Touch) → Fits o touch → is_over (view s) a o touch Place.Zero ≡ false → op_writes o ≡ true
writes_zero s a o (Cpu k) f e = not_load (op_writes o) e
writes_zero s a o (Walk k at q) f e = not_load (op_writes o) e
writes_zero s a o Sole f e = sole_writes o f

writes_sys : (s : After) (a : ℕ) (o : Op) (touch : Touch) (n : ℕ) (w : Bool) → Fits o touch → is_over (view s) a o touch (Place.Sys n w) ≡ false → op_writes o ≡ true
writes_sys s a o (Cpu k) n w f e = by (op_writes o) e
  where
    by : (b : Bool) → (if b then w else true) ≡ false → b ≡ true
    by true h = refl
    by false h = cc
writes_sys s a o (Walk k at q) n w f e = by (op_writes o) e
  where
    by : (b : Bool) → (if b then w else true) ≡ false → b ≡ true
    by true h = refl
    by false h = cc
writes_sys s a o Sole n w f e = sole_writes o f

zero_less : (c : Program) (s : After) (a : ℕ) (o : Op) (touch : Touch) → Fits o touch → op_writes o ≡ false → is_over (view s) a o touch Place.Empty ≡ false → is_ready touch Place.Empty ≡ false → stage c (view s) a o touch Place.Zero < stage c (view s) a o touch Place.Empty
zero_less c s a o (Cpu k) f w e r = omega (arith, stage_over c (view s) a o (Cpu k) Place.Zero (ap (λ b. suits b Place.Zero) w), stage_mends c (view s) a o (Cpu k) Place.Empty e r, mended (op_writes o))
  where
    mended : (b : Bool) → 1 ≤ (if b then 2 else 1)
    mended true = omega arith
    mended false = omega arith
zero_less c s a o (Walk k at q) f w e r = omega (arith, stage_over c (view s) a o (Walk k at q) Place.Zero (ap (λ b. suits b Place.Zero) w), stage_mends c (view s) a o (Walk k at q) Place.Empty e r, mended (op_writes o))
  where
    mended : (b : Bool) → 1 ≤ (if b then 2 else 1)
    mended true = omega arith
    mended false = omega arith
zero_less c s a o Sole f w e r = absurd (true_false (op_writes o) (sole_writes o f) w)

fault_at_decs : (c : Program) (s : After) (a : ℕ) (o : Op) (xs : List Migrating) (touch : Touch) (x : Place) → Few c s → is_access o ≡ true → Fits o touch → ((g : Frame) → s.locks.frame g ≡ None) → repeats_now s o touch ≡ false → s.places.place (touch_proc s o) (touch_page o touch) ≡ x → is_over (view s) a o touch x ≡ false → is_ready touch x ≡ false →
    Decs c s a o xs touch (fault_at c s a o (piece_of touch) (touch_proc s o) (touch_page o touch) x)
fault_at_decs c s a o xs touch (Place.Moving h w) f i ft lk rp e v r = tt
fault_at_decs c s a o xs touch (Place.Own d n w) f i ft lk rp e v r = either_option (Decs c s a o xs touch) (other_locker s.locks (dev_frame d n) a) _ _ (λ j. catch_dec c s a o xs touch d n w f e (lk (dev_frame d n)) (access_evicts o i) v r) (λ b j. tt)
fault_at_decs c s a o xs touch (Place.Exclusive n b) f i ft lk rp e v r = restore_dec c s a o xs touch n b f e v r
fault_at_decs c s a o xs touch Place.Empty f i ft lk rp e v r = either (Decs c s a o xs touch) (op_writes o) _ _ (λ w. take_or_dec c s a o xs touch (piece_of touch) Place.Empty i ft e v r w refl rp)
    (λ w. place_dec c s a o xs touch Place.Zero Place.Empty e rp (zero_less c s a o touch ft w v r))
fault_at_decs c s a o xs touch Place.Zero f i ft lk rp e v r = take_or_dec c s a o xs touch (piece_of touch) Place.Zero i ft e v r (writes_zero s a o touch ft v) refl rp
fault_at_decs c s a o xs touch (Place.Sys n w) f i ft lk rp e v r = either (Decs c s a o xs touch) (is_used_once s (sys_frame n)) _ _
    (λ j. place_dec c s a o xs touch (Place.Sys n true) (Place.Sys n w) e rp (omega (arith, stage_writable c (view s) a o touch n, stage_mends c (view s) a o touch (Place.Sys n w) v r, copies_writes c o touch (writes_sys s a o touch n w ft v))))
    (λ j. take_or_dec c s a o xs touch (piece_of touch) (Place.Sys n w) i ft e v r (writes_sys s a o touch n w ft v) refl rp)

pub fault_decs : (c : Program) (s : After) (a : ℕ) (o : Op) (xs : List Migrating) (touch : Touch) (suited : Place → Bool) → Few c s → is_access o ≡ true → Fits o touch → ((g : Frame) → s.locks.frame g ≡ None) → repeats_now s o touch ≡ false →
    (suited (s.places.place (touch_proc s o) (touch_page o touch)) ≡ true → Dec c s a o xs touch (Kind.Runlock (touch_proc s o))) →
    (suited (s.places.place (touch_proc s o) (touch_page o touch)) ≡ false → (is_over (view s) a o touch (s.places.place (touch_proc s o) (touch_page o touch)) ≡ false) × (is_ready touch (s.places.place (touch_proc s o) (touch_page o touch)) ≡ false)) →
    Decs c s a o xs touch (fault c s a o (piece_of touch) suited (touch_proc s o) (touch_page o touch))
fault_decs c s a o xs touch suited f i ft lk rp met unmet =
    either (Decs c s a o xs touch) (is_none (rights_of s.plain (touch_proc s o) (touch_page o touch))) _ _ (λ e. fails_dec c s a o xs touch (piece_of touch) Cause.Unmapped i ft)
    (λ e. either (Decs c s a o xs touch) (op_writes o && is_read_only (rights_of s.plain (touch_proc s o) (touch_page o touch))) _ _ (λ j. fails_dec c s a o xs touch (piece_of touch) Cause.Forbidden i ft)
    (λ j. either (Decs c s a o xs touch) (suited (s.places.place (touch_proc s o) (touch_page o touch))) _ _ met
    (λ l. fault_at_decs c s a o xs touch (s.places.place (touch_proc s o) (touch_page o touch)) f i ft lk rp refl (unmet l).0 (unmet l).1)))

-- a look-up that is repeated
abbrev pub DecidesTo : Program → After → ℕ → Op → List Migrating → Touch → Next → Type 0
DecidesTo c s a o xs touch (Do k) = (left c (next s a k) a o xs (after_decide o touch k (seen_at s o xs (Phase.Decide touch) k)) < decide_left c s a o touch) × (on_access (after_decide o touch k (seen_at s o xs (Phase.Decide touch) k)) ≡ true)
DecidesTo c s a o xs touch (Wait y) = ⊤

pub decs_to : (c : Program) (s : After) (a : ℕ) (o : Op) (xs : List Migrating) (touch : Touch) (n : Next) → repeats_now s o touch ≡ false → Decs c s a o xs touch n → DecidesTo c s a o xs touch n
decs_to c s a o xs touch (Do k) r d = (omega (arith, d.0, if_false (repeats_now s o touch) (decide_most c (view s) a o touch) (stage_now c (view s) a o touch) r), d.1)
decs_to c s a o xs touch (Wait y) r d = tt

retry_less : (c : Program) (s : After) (a : ℕ) (o : Op) (k at q m : ℕ) → is_device_access o ≡ true → piece_left c (next s a (Kind.Retry m)) a o k < 3 + stage_now c (view s) a o (Walk k at q)
retry_less c s a (Op.DeviceLoad j at n) k i q m h = by (not (in_window s.plain j (one_page (page_of (op_piece (Op.DeviceLoad j at n) k).0))) || is_usable (op_writes (Op.DeviceLoad j at n)) (s.places.table j (page_of (op_piece (Op.DeviceLoad j at n) k).0)))
  where
    by : (b : Bool) → (if b then 1 + later c (Op.DeviceLoad j at n) k else (2 + stage_now c (view s) a (Op.DeviceLoad j at n) (Walk k 0 0))) < 3 + stage_now c (view s) a (Op.DeviceLoad j at n) (Walk k i q)
    by true = omega (arith, now_tail c s a (Op.DeviceLoad j at n) (Walk k i q))
    by false = omega arith
retry_less c s a (Op.DeviceStore j at bs) k i q m h = by (not (in_window s.plain j (one_page (page_of (op_piece (Op.DeviceStore j at bs) k).0))) || is_usable (op_writes (Op.DeviceStore j at bs)) (s.places.table j (page_of (op_piece (Op.DeviceStore j at bs) k).0)))
  where
    by : (b : Bool) → (if b then 1 + later c (Op.DeviceStore j at bs) k else (2 + stage_now c (view s) a (Op.DeviceStore j at bs) (Walk k 0 0))) < 3 + stage_now c (view s) a (Op.DeviceStore j at bs) (Walk k i q)
    by true = omega (arith, now_tail c s a (Op.DeviceStore j at bs) (Walk k i q))
    by false = omega arith
retry_less c s a o k i q m h = cc

pub retry_to : (c : Program) (s : After) (a : ℕ) (o : Op) (xs : List Migrating) (k at q m : ℕ) → is_device_access o ≡ true → repeats s (op_mirror o) q ≡ true → DecidesTo c s a o xs (Walk k at q) (Do (Kind.Retry m))
retry_to c s a o xs k at q m h r = (omega (arith, retry_less c s a o k at q m h, if_true (repeats s (op_mirror o) q) (decide_most c (view s) a o (Walk k at q)) (stage_now c (view s) a o (Walk k at q)) r), refl)

-- a page taken alone
pub seize_at : (c : Program) (s : After) (a : ℕ) (o : Op) (xs : List Migrating) (n : ℕ) → Few c s → s.places.place (touch_proc s o) (touch_page o Sole) ≡ Place.Sys n true → Dec c s a o xs Sole (start_entry s (touch_proc s o) (one_page (touch_page o Sole)))
seize_at c s a o xs n f e = start_dec c s a o xs Sole (Place.Sys n true) f e (omega (arith, body, home_placed c (view s) a o Sole (Place.Exclusive n a), stage_over c (view s) a o Sole (Place.Exclusive n a) (number_is a a refl)))
  where
    y : View
    y = placed_view (view s) (touch_proc s o) (touch_page o Sole) (Place.Exclusive n a)

    body : body_left c (view s) s.locks.frame a o xs (touch_proc s o) (one_page (touch_page o Sole)) (Place.Sys n true) (Body.Seize (sys_frame n)) (Phase.Decide Sole ∷ []) ≡ 2 + home_now c y a o Sole
    body = if_true (same_place (Place.Sys n true) (Place.Sys n true)) (2 + home_now c y a o Sole) (1 + home_now c (view s) a o Sole) (same_refl (Place.Sys n true))
