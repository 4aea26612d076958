-- What events make of what a look-up has found: those of other threads nothing, and its walk what the place allows.
use Rattle.std.proofs.Common.{refl, ap, ◌∙◌}
use Rattle.std.proofs.lemmas.Bool.{false≢true, eqb-true}
use Rattle.std.specs.Prelude.{◌≡◌, ℕ, Bool, true, false, not, ◌&&◌, ◌==◌, if◌then◌else◌, is_none, Some, None, List, []}
use Rattle.std.specs.Prelude.{◌∷◌, ◌++◌, map, find, fold}
use Rattle.hm_base.specs.Program.{Program}
use Rattle.hm_base.specs.declared.Place.{Place}
use Rattle.hm_base.specs.declared.cause.Cause.{Cause}
use Rattle.hm_base.specs.declared.ops.Op.{Op}
use Rattle.hm_base.specs.declared.Frame.{Frame}
use Rattle.hm_base.specs.declared.PoolId.{PoolId}
use Rattle.hm_history.specs.Memory.Words.{writable, sys_frame}
use Rattle.hm_history.specs.Memory.Plain.{rights_of, is_read_only, mirror_dev}
use Rattle.hm_history.specs.Memory.Places.{lowest_free}
use Rattle.hm_history.specs.Memory.Locks.{other_locker}
use Rattle.hm_history.specs.Memory.After.{After}
use Rattle.hm_history.specs.Kernel.Operation.{op_mirror, op_writes, is_exclusive_op}
use Rattle.hm_history.specs.Kernel.Going.{touch_page, touch_proc}
use Rattle.hm_history.specs.Kernel.Due as due
use Rattle.hm_history.specs.Kernel.Due.{due_phase, suits_walk}
use Rattle.hm_history.specs.declared.Kind.{Kind}
use Rattle.hm_history.specs.declared.phases.Migrating.{Migrating}
use Rattle.hm_history.specs.declared.phases.Touch.{Touch}
use Rattle.hm_history.specs.declared.phases.Phase.{Phase}
use Rattle.hm_history.specs.declared.phases.Next.{Next}
use Rattle.hm_history.specs.declared.phases.Next.TheVariants.{Do}
use Rattle.hm_laws.proofs.Due.Good.{either, either_option}
use Rattle.hm_laws.proofs.Migration.Setup.{at_itself}
use Rattle.hm_protocol.specs.declared.events.Event.{Event}
use Rattle.hm_protocol.specs.declared.events.TraceFrame.{TraceFrame}
use Rattle.hm_protocol.specs.Words.{device_of, is_sole, drop_if}
use Rattle.hm_protocol.specs.Known.{Look, Known, no_look, is_noted, is_look_up, is_slot}
use Rattle.hm_protocol.specs.Noted.{noted, known_next, after_set, commit, moving}
use Rattle.hm_protocol.specs.Projection.{found_at, shown}
use Rattle.hm_protocol.proofs.Fields.{at_end, at_refused, held_keeps, pass_keeps}
use Rattle.hm_protocol.proofs.Steps.{by, by_thread}

-- ---- other threads

other_look : (looks : ℕ → ℕ → Look) (t m : ℕ) (l : Look) (b n : ℕ) → (b ≡ t → ⊥)
    → (if (b == t) && (n == m) then l else looks b n) ≡ looks b n
other_look looks t m l b n ne = by (b == t) refl
  where
    by : (d : Bool) → (b == t) ≡ d → (if d && (n == m) then l else looks b n) ≡ looks b n
    by true e = absurd (ne (eqb-true b t e))
    by false e = refl

-- what another thread has found does not grow
pub other_found : (k : Known) (t : ℕ) (x : Event) (b n v : ℕ) (w : Bool) → (b ≡ t → ⊥)
    → is_noted v w (k.looks b n).found ≡ false
    → is_noted v w ((noted k t x).looks b n).found ≡ false
other_found k t (Event.Insert m p r d) b n v w ne h = by (n == m)
  where
    by : (d : Bool) → is_noted v w (if d then no_look else k.looks b n).found ≡ false
    by true = refl
    by false = h
other_found k t (Event.Begin m q) b n v w ne h = ap (λ (l : Look). is_noted v w l.found)
    (other_look k.looks t m _ b n ne) ∙ h
other_found k t (Event.Walk m r q locked d) b n v w ne h = ap (λ (l : Look). is_noted v w l.found)
    (other_look k.looks t m _ b n ne) ∙ h
other_found k t (Event.Found m u f d) b n v w ne h = ap (λ (l : Look). is_noted v w l.found)
    (other_look k.looks t m _ b n ne) ∙ h
other_found k t (Event.Walked m done) b n v w ne h = ap (λ (l : Look). is_noted v w l.found)
    (other_look k.looks t m _ b n ne) ∙ h
other_found k t (Event.Set m u f d) b n v w ne h = let l : Known = record k {
  slots = record { mirror = m; page = u; right = d; at = k.at } ∷ drop_if (is_slot m u) k.slots;
  calls = map (after_set m u) k.calls;
} in by_right (is_look_up l t u d) (is_sole d) (commit l t m) l (moving l t (λ y. record y { set = u ∷ y.set }))
    (ap (λ (l : Look). is_noted v w l.found) (other_look k.looks t m _ b n ne) ∙ h) h h
  where
    by_right : (c d : Bool) (x y z : Known) → is_noted v w (x.looks b n).found ≡ false
        → is_noted v w (y.looks b n).found ≡ false
        → is_noted v w (z.looks b n).found ≡ false
        → is_noted v w ((if c then x else if d then y else z).looks b n).found ≡ false
    by_right true d x y z h g e = h
    by_right false true x y z h g e = g
    by_right false false x y z h g e = e
other_found k t (Event.End p r) b n v w ne h =
    ap (λ (l : Look). is_noted v w l.found) (at_end (λ k. k.looks b n) (λ k us xs. refl) k t p r) ∙ h
other_found k t (Event.Told m q true) b n v w ne h = h
other_found k t (Event.Told m q false) b n v w ne h =
    ap (λ (l : Look). is_noted v w l.found) (at_refused (λ k. k.looks b n) (λ k us xs. refl) k t m q) ∙ h
other_found k t (Event.Take f) b n v w ne h =
    ap (λ (l : Look). is_noted v w l.found) (held_keeps (λ k. k.looks b n) (λ k fs. refl) k f (device_of f)) ∙ h
other_found k t (Event.Pass f) b n v w ne h =
    ap (λ (l : Look). is_noted v w l.found) (pass_keeps (λ k. k.looks b n) (λ k p. refl) k (device_of f)) ∙ h
other_found k t x b n v w ne h = h

-- ---- a walk

own_look : (looks : ℕ → ℕ → Look) (t m : ℕ) (l : Look) → (if (t == t) && (m == m) then l else looks t m) ≡ l
own_look looks t m l = ap (λ b. if b && (m == m) then l else looks t m) (at_itself t)
    ∙ ap (λ b. if b then l else looks t m) (at_itself m)

-- a walk finds a page for writes
found_write : (k : Known) (a m v : ℕ) (f : TraceFrame) (w : Bool) → w ≡ true
    → is_noted v false ((fold known_next k (by_thread a (Event.Found m v f w ∷ Event.Walked m true ∷ []))).looks a
    m).found ≡ false
found_write k a m v f w e = ap (λ (l : Look). is_noted v false l.found)
    (own_look (known_next k (by a (Event.Found m v f w))).looks a m _)
    ∙ (ap (λ (l : Look). is_noted v false l.found) (own_look k.looks a m _)
    ∙ (ap (λ b. elim (if b then Some (v, w) else find (λ (x : ℕ × Bool). x.0 == v) (k.looks a m).found) as (λ o. Bool) [
      | None ↦ false
      | Some x ↦ not x.1
    ]) (at_itself v) ∙ ap not e))

-- a place that a walk goes through is found, and for writes if it is writable
pub walk_finds : (k : Known) (a m v d : ℕ) (writes : Bool) (x : Place) → suits_walk d writes x ≡ true
    → writable x ≡ true
    → is_noted v false ((fold known_next k (by_thread a (found_at m v x ++ Event.Walked m true ∷ []))).looks a m).found
    ≡ false
walk_finds k a m v d writes Place.Empty h g = absurd (false≢true g)
walk_finds k a m v d writes Place.Zero h g = absurd (false≢true g)
walk_finds k a m v d writes (Place.Sys n w) h g = found_write k a m v (shown (Place.Sys n w)) w g
walk_finds k a m v d writes (Place.Own e n w) h g = found_write k a m v (shown (Place.Own e n w)) w g
walk_finds k a m v d true (Place.Moving f w) h g = absurd (false≢true h)
walk_finds k a m v d false (Place.Moving f w) h g = absurd (false≢true h)
walk_finds k a m v d true (Place.Exclusive n b) h g = absurd (false≢true h)
walk_finds k a m v d false (Place.Exclusive n b) h g = absurd (false≢true h)

-- an entry that releases the lock, if it is this one
abbrev unlocks : Next → Bool
unlocks (Do (Kind.Runlock p)) = true
unlocks n = false

fault_suits : (c : Program) (s : After) (a : ℕ) (o : Op) (k : ℕ) (suited : Place → Bool) (p v : ℕ)
    → unlocks (due.fault c s a o k suited p v) ≡ true → suited (s.places.place p v) ≡ true
fault_suits c s a o k suited p v = either (λ n. unlocks n ≡ true → suited (s.places.place p v) ≡ true)
    (is_none (rights_of s.plain p v)) _ _ (λ e. fails k Cause.Unmapped)
    (λ e. either (λ n. unlocks n ≡ true → suited (s.places.place p v) ≡ true)
    (op_writes o && is_read_only (rights_of s.plain p v)) _ _ (λ e. fails k Cause.Forbidden)
    (λ e. either (λ n. unlocks n ≡ true → suited (s.places.place p v) ≡ true)
    (suited (s.places.place p v)) _ _ (λ e h. e) (λ e. other (s.places.place p v))))
  where
    fails : (k : ℕ) (why : Cause) → unlocks (Do (due.fails o k why)) ≡ true → suited (s.places.place p v) ≡ true
    fails k why = either (λ j. unlocks (Do j) ≡ true → suited (s.places.place p v) ≡ true) (is_exclusive_op o) _ _
        (λ e h. absurd (false≢true h)) (λ e h. absurd (false≢true h))

    taking : (failing : Kind) → (unlocks (Do failing) ≡ true → suited (s.places.place p v) ≡ true)
        → unlocks (due.take_or c s failing) ≡ true → suited (s.places.place p v) ≡ true
    taking failing g = either_option (λ n. unlocks n ≡ true → suited (s.places.place p v) ≡ true)
        (lowest_free c s.places PoolId.System) _ _ (λ n. g) (λ x n h. absurd (false≢true h))

    homing : (f : Frame) → unlocks (due.bring_home s a p v f) ≡ true → suited (s.places.place p v) ≡ true
    homing f = either_option (λ n. unlocks n ≡ true → suited (s.places.place p v) ≡ true) (other_locker s.locks f a) _ _
        (λ n h. absurd (false≢true h)) (λ b n h. absurd (false≢true h))

    other : (x : Place) → unlocks (due.fault_at c s a o k p v x) ≡ true → suited (s.places.place p v) ≡ true
    other (Place.Moving f w) h = absurd (false≢true h)
    other (Place.Own d n w) h = homing _ h
    other (Place.Exclusive n b) h = absurd (false≢true h)
    other Place.Empty h = either (λ n. unlocks n ≡ true → suited (s.places.place p v) ≡ true) (op_writes o) _ _
        (λ e. taking _ (fails k Cause.NoFrame)) (λ e h. absurd (false≢true h)) h
    other Place.Zero h = taking _ (fails k Cause.NoFrame) h
    other (Place.Sys n w) h = either (λ n. unlocks n ≡ true → suited (s.places.place p v) ≡ true)
        (due.is_used_once s (sys_frame n)) _ _ (λ e h. absurd (false≢true h)) (λ e. taking _ (fails k Cause.NoFrame)) h

-- a walk releases the lock when its place suits it
pub walk_suits : (c : Program) (s : After) (a : ℕ) (o : Op) (xs : List Migrating) (k since q p : ℕ)
    → due_phase c s a o xs (Phase.Decide (Touch.Walk k since q)) ≡ Do (Kind.Runlock p)
    → suits_walk (mirror_dev s.plain (op_mirror o)) (op_writes o)
    (s.places.place (touch_proc s o) (touch_page o (Touch.Walk k since q))) ≡ true
walk_suits c s a o xs k since q p d = either
    (λ n. unlocks n ≡ true → suits_walk (mirror_dev s.plain (op_mirror o)) (op_writes o)
    (s.places.place (touch_proc s o) (touch_page o (Touch.Walk k since q))) ≡ true)
    (due.repeats s (op_mirror o) q) _ _ (λ e h. absurd (false≢true h))
    (λ e. fault_suits c s a o k (suits_walk (mirror_dev s.plain (op_mirror o)) (op_writes o)) (touch_proc s o)
    (touch_page o (Touch.Walk k since q))) (ap unlocks d)
