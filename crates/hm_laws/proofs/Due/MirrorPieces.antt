-- Pieces of accesses through a mirror: an answer by its table, or a look-up begins.
use Rattle.std.proofs.Common.{◌≡◌, ℕ, ◌<◌, ◌≤◌, true, false, ◌==◌, ◌&&◌, if◌then◌else◌, not, is_none, is_some, Option, Some, None, List, [], ◌∷◌, refl, sym, ap, ◌∙◌, subst, arith, length}
use Rattle.std.proofs.lemmas.Bool.Decides.{nat_tests}
use Rattle.std.proofs.lemmas.Bool.{and_parts, and_from}
use Rattle.hm_base.specs.Pages.{Pages, one_page, covers, lies_in}
use Rattle.hm_base.specs.Program.{Program}
use Rattle.hm_base.specs.declared.cause.Cause.{Cause}
use Rattle.hm_base.specs.declared.ops.Op.{Op}
use Rattle.hm_history.specs.Memory.Plain.{MirrorState, Plain, is_attached_state, mirror_passes, is_attached, in_window, mirror_proc}
use Rattle.hm_history.proofs.Owners.{owned_from}
use Rattle.hm_history.specs.Memory.Places.{TableEntry, may_read, may_write, table_reads, table_writes}
use Rattle.hm_history.specs.Memory.Sequences.{Interval, interval_seq, interval_proc, sequences_accept}
use Rattle.hm_history.specs.Memory.After.{After}
use Rattle.hm_history.specs.Kernel.Operation.{op_piece, op_bytes}
use Rattle.hm_history.specs.Kernel.Due.{process_seq, is_invalidating, answer_of_piece, failed, is_usable, due_mirror}
use Rattle.hm_history.specs.declared.Kind.{Kind}
use Rattle.hm_history.specs.declared.phases.Migrating.{Migrating}
use Rattle.hm_history.specs.declared.phases.Touch.{Touch}
use Rattle.hm_history.specs.declared.phases.Phase.{Phase}
use Rattle.hm_history.specs.declared.phases.Next.{Next}
use Rattle.hm_history.specs.declared.phases.Next.TheVariants.{Do}
use Rattle.hm_laws.specs.Past.{Past, past_next}
use Rattle.hm_laws.specs.Sound.{Sound}
use Rattle.hm_laws.specs.Allowed.{next, InPage, Allowed}
use Rattle.hm_laws.specs.Facts.{Is, Touching, Looks, at_page, has_piece, nothing_held, HoldsAll}
use Rattle.hm_laws.proofs.State.MirrorInterval.{Mirrored, mirrored, same_proc}
use Rattle.hm_laws.proofs.Due.Good.{Good, either, release_none, ends_ok, outside, not_short}
use Rattle.hm_laws.proofs.Due.Guards.{number_is}
use Rattle.hm_laws.proofs.State.TableEntries.{TableSays, table_says, entry_of, allows_write, read_cause, write_cause, loaded_bytes}
use Rattle.hm_history.proofs.Updates.{here_at}
use Rattle.hm_history.proofs.Tests.{true_false}

-- the page of an access in the mirror's window
pub window_within : (s : Plain) (m v : ℕ) → in_window s m (one_page v) ≡ true → mirror_passes (λ x. covers x.window v) (s.mirrors m) ≡ true
window_within s m v h = by (s.mirrors m) h
  where
    inside : (r : Pages) → lies_in (one_page v) r ≡ true → covers r v ≡ true
    inside r k = grind (arith, nat_tests)

    by : (x : Option MirrorState) → mirror_passes (λ y. is_attached_state y && lies_in (one_page v) y.window) x ≡ true → mirror_passes (λ y. covers y.window v) x ≡ true
    by None k = cc
    by (Some x) k = inside x.window (and_parts (is_attached_state x) (lies_in (one_page v) x.window) k).1

pub window_attached : (s : Plain) (m v : ℕ) → in_window s m (one_page v) ≡ true → is_attached s m ≡ true
window_attached s m v h = by (s.mirrors m) h
  where
    by : (x : Option MirrorState) → mirror_passes (λ y. is_attached_state y && lies_in (one_page v) y.window) x ≡ true → mirror_passes is_attached_state x ≡ true
    by None k = cc
    by (Some x) k = (and_parts (is_attached_state x) (lies_in (one_page v) x.window) k).0

pub within_window : (s : Plain) (m v : ℕ) → is_attached s m ≡ true → mirror_passes (λ x. covers x.window v) (s.mirrors m) ≡ true → in_window s m (one_page v) ≡ true
within_window s m v at w = by (s.mirrors m) at w
  where
    inside : (r : Pages) → covers r v ≡ true → lies_in (one_page v) r ≡ true
    inside r k = grind (arith, nat_tests)

    by : (x : Option MirrorState) → mirror_passes is_attached_state x ≡ true → mirror_passes (λ y. covers y.window v) x ≡ true → mirror_passes (λ y. is_attached_state y && lies_in (one_page v) y.window) x ≡ true
    by None h k = cc
    by (Some x) h k = and_from (is_attached_state x) (lies_in (one_page v) x.window) h (inside x.window k)

-- a look-up begins
different : (m n : ℕ) → (m == n) ≡ false → (m ≡ n → ⊥)
different m n h e = true_false (m == n) (number_is m n e) h

pub less_of : (m n : ℕ) → m ≤ n → (m ≡ n → ⊥) → m < n
less_of m n l ne = omega (arith, l, ne)

begins_ok : (c : Program) (s : After) (t : Past) (a : ℕ) (o : Op) (xs : List Migrating) (k m : ℕ) → Sound c s t → HoldsAll s t a nothing_held → in_window s.plain m (one_page (at_page o k)) ≡ true → is_invalidating s m ≡ false →
    (Looks (next s a (Kind.Begin m (interval_seq s.sequences m))) (past_next t s.length a (Kind.Begin m (interval_seq s.sequences m))) a m s.length (interval_seq s.sequences m) → HoldsAll (next s a (Kind.Begin m (interval_seq s.sequences m))) (past_next t s.length a (Kind.Begin m (interval_seq s.sequences m))) a (Touching o (Touch.Walk k s.length (interval_seq s.sequences m)) ∷ nothing_held)) →
    Allowed c s t a (Kind.Begin m (interval_seq s.sequences m)) × HoldsAll (next s a (Kind.Begin m (interval_seq s.sequences m))) (past_next t s.length a (Kind.Begin m (interval_seq s.sequences m))) a (Touching o (Touch.Walk k s.length (interval_seq s.sequences m)) ∷ nothing_held)
begins_ok c s t a o xs k m so h w e go = (takes, go (begun, below, λ i v. so.past.told_below m v))
  where
    mi : Mirrored s m is_attached_state
    mi = mirrored c s t m is_attached_state so (window_attached s.plain m (at_page o k) w)

    seq_is : interval_seq s.sequences m ≡ mi.interval.seq
    seq_is = ap (λ (x : Option Interval). elim x [ None ↦ 0 | Some y ↦ y.seq ]) mi.is_interval

    proc : mi.interval.proc ≡ mirror_proc s.plain m
    proc = sym (ap (λ (x : Option Interval). elim x [ None ↦ 0 | Some y ↦ y.proc ]) mi.is_interval) ∙ same_proc s m is_attached_state mi

    below : interval_seq s.sequences m < process_seq s m
    below = less_of (interval_seq s.sequences m) (process_seq s m) (subst (λ i. i ≤ process_seq s m) (sym seq_is) (subst (λ i. mi.interval.seq ≤ s.sequences.seq i) proc (so.sequences.not_above m mi.interval mi.is_interval))) (different (interval_seq s.sequences m) (process_seq s m) e)

    begun : (past_next t s.length a (Kind.Begin m (interval_seq s.sequences m))).begun a m ≡ Some s.length
    begun = pair_here t.begun a m (Some s.length)
      where
        pair_here : (f : ℕ → ℕ → Option ℕ) (a m : ℕ) (x : Option ℕ) → (if (a == a) && (m == m) then x else f a m) ≡ x
        pair_here f a m x = grind (arith, nat_tests)

    not_equal : (n : ℕ) → (interval_seq s.sequences m == n) ≡ false → not (interval_seq s.sequences m == n) ≡ true
    not_equal n i = ap not i

    takes : sequences_accept s.sequences a (Kind.Begin m (interval_seq s.sequences m)) ≡ true
    takes = and_from (is_some (s.sequences.interval m)) _ (ap is_some mi.is_interval) (and_from (interval_seq s.sequences m == interval_seq s.sequences m) _ (number_is (interval_seq s.sequences m) (interval_seq s.sequences m) refl)
        (not_equal (s.sequences.seq (interval_proc s.sequences m)) (ap (λ i. interval_seq s.sequences m == s.sequences.seq i) (same_proc s m is_attached_state mi) ∙ e)))

-- a piece: outside the window it fails, a usable entry answers, and else a look-up begins
pub load_mirror_ok : (c : Program) (s : After) (t : Past) (a m at n k : ℕ) (xs : List Migrating) → Sound c s t → HoldsAll s t a (Is (has_piece (Op.DeviceLoad m at n) k) ∷ nothing_held) → Good c s t a (Op.DeviceLoad m at n) xs (Phase.Piece k) [] (due_mirror s (Op.DeviceLoad m at n) k m)
load_mirror_ok c s t a m at n k xs so h = either P (in_window s.plain m (one_page (at_page o k))) _ _
    (λ w. either P (is_usable false (s.places.table m (at_page o k))) _ _
    (λ u. answers w (entry_of (λ y. may_read y.right) (s.places.table m (at_page o k)) u))
    (λ u. either P (is_invalidating s m) _ _ (λ e. tt)
    (λ e. let b = begins_ok c s t a o xs k m so h.1 w e (λ l. ((h.0, window_within s.plain m (at_page o k) w, l), h.1)) in (b.0, tt, b.1))))
    (λ w. ((release_none s a h.1.0, outside s.plain m (at_page o k) w), not_short c s Cause.Outside refl, ends_ok o xs k (next s a (failed o k Cause.Outside)) t a (here_at s.locks.map a None, h.1.1)))
  where
    o : Op
    o = Op.DeviceLoad m at n

    P : Next → Type 0
    P = Good c s t a (Op.DeviceLoad m at n) xs (Phase.Piece k) []

    answers : in_window s.plain m (one_page (at_page (Op.DeviceLoad m at n) k)) ≡ true → (e : TableEntry) × (s.places.table m (at_page (Op.DeviceLoad m at n) k) ≡ Some e) × (may_read e.right ≡ true) → P (Do (answer_of_piece s (Op.DeviceLoad m at n) k))
    answers w e = let says : TableSays s m (at_page (Op.DeviceLoad m at n) k) e.0 = table_says c s t m (at_page (Op.DeviceLoad m at n) k) e.0 so e.1 e.2 in
        ((release_none s a h.1.0, loaded_bytes s m (op_piece o k).0 (op_piece o k).1 (read_cause s m (at_page o k) e.0 w says), owned_from s.plain m (λ p. table_reads s.places m p (at_page o k)) says.some says.reads), tt, ends_ok o xs k (next s a (answer_of_piece s o k)) t a (here_at s.locks.map a None, h.1.1))

pub store_mirror_ok : (c : Program) (s : After) (t : Past) (a m at : ℕ) (bs : List ℕ) (k : ℕ) (xs : List Migrating) → InPage (op_piece (Op.DeviceStore m at bs) k).0 (length (op_bytes (Op.DeviceStore m at bs) (op_piece (Op.DeviceStore m at bs) k))) → Sound c s t → HoldsAll s t a (Is (has_piece (Op.DeviceStore m at bs) k) ∷ nothing_held) → Good c s t a (Op.DeviceStore m at bs) xs (Phase.Piece k) [] (due_mirror s (Op.DeviceStore m at bs) k m)
store_mirror_ok c s t a m at bs k xs short so h = either P (in_window s.plain m (one_page (at_page o k))) _ _
    (λ w. either P (is_usable true (s.places.table m (at_page o k))) _ _
    (λ u. answers w (entry_of (λ y. may_write y.right) (s.places.table m (at_page o k)) u))
    (λ u. either P (is_invalidating s m) _ _ (λ e. tt)
    (λ e. let b = begins_ok c s t a o xs k m so h.1 w e (λ l. ((h.0, window_within s.plain m (at_page o k) w, l), h.1)) in (b.0, tt, b.1))))
    (λ w. ((release_none s a h.1.0, outside s.plain m (at_page o k) w), not_short c s Cause.Outside refl, ends_ok o xs k (next s a (failed o k Cause.Outside)) t a (here_at s.locks.map a None, h.1.1)))
  where
    o : Op
    o = Op.DeviceStore m at bs

    P : Next → Type 0
    P = Good c s t a (Op.DeviceStore m at bs) xs (Phase.Piece k) []

    answers : in_window s.plain m (one_page (at_page (Op.DeviceStore m at bs) k)) ≡ true → (e : TableEntry) × (s.places.table m (at_page (Op.DeviceStore m at bs) k) ≡ Some e) × (may_write e.right ≡ true) → P (Do (answer_of_piece s (Op.DeviceStore m at bs) k))
    answers w e = let says : TableSays s m (at_page (Op.DeviceStore m at bs) k) e.0 = table_says c s t m (at_page (Op.DeviceStore m at bs) k) e.0 so e.1 (allows_write e.0.right e.2) in
        ((release_none s a h.1.0, ap is_none (write_cause c s t m (at_page o k) e.0 so w says e.2), owned_from s.plain m (λ p. table_writes s.places m p (at_page o k)) says.some (says.writes e.2), short), tt, ends_ok o xs k (next s a (answer_of_piece s o k)) t a (here_at s.locks.map a None, h.1.1))
