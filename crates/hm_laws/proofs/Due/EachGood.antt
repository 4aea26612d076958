-- What is due at each stack of phases is good.
use Rattle.std.proofs.Common.{◌≡◌, ℕ, ◌^◌, ◌<◌, ◌≤◌, Bool, true, false, nat_lt, not, ◌&&◌, Option, Some, None, List, [], ◌∷◌, refl, sym, ap, ◌∙◌, subst, arith, length}
use Rattle.std.proofs.lemmas.Bool.Decides.{nat_tests}
use Rattle.std.proofs.lemmas.Bool.{and_from}
use Rattle.hm_base.specs.Pages.{Pages, covers}
use Rattle.hm_base.specs.Areas.{last_of}
use Rattle.hm_base.specs.Program.{Program}
use Rattle.hm_base.specs.declared.Place.{Place}
use Rattle.hm_base.specs.declared.ops.Rights.{Rights}
use Rattle.hm_base.specs.declared.ops.Op.{Op}
use Rattle.hm_history.specs.Memory.Words.{writable, is_empty_place}
use Rattle.hm_history.specs.Memory.Plain.{area_refusal}
use Rattle.hm_history.specs.Memory.After.{After}
use Rattle.hm_laws.specs.Past.{Past}
use Rattle.hm_laws.specs.Sound.{Sound}
use Rattle.hm_laws.specs.Allowed.{HasChild, Alike}
use Rattle.hm_history.specs.Kernel.Operation.{op_mirror}
use Rattle.hm_history.specs.declared.Who.{Who}
use Rattle.hm_laws.proofs.Due.Mirrors.{attach_ok, detach_ok, detaching_ok, snap_begin_ok, snap_ok}
use Rattle.hm_laws.specs.Records.{starts_empty}
use Rattle.hm_laws.specs.Facts.{Fact, Is, Read_locked, Leaving, begins, is_detach, is_snap, Writes, Emptying, Narrowing, Forking, No_guard, Over, Locks_only, EmptyBelow, Holds, op_span, Touching, Noted, at_page, has_piece, nothing_held, deciding, readying, answering, facts, HoldsAll}
use Rattle.hm_history.specs.Kernel.Due.{proc_of_op}
use Rattle.hm_base.specs.Program.{op_fits}
use Rattle.hm_base.specs.Pages.{all_pages}
use Rattle.hm_history.specs.Kernel.Due.{due_phase, due_guard}
use Rattle.hm_history.specs.declared.phases.Migrating.{Migrating}
use Rattle.hm_history.specs.declared.phases.Touch.{Touch}
use Rattle.hm_history.specs.declared.phases.Body.{Body}
use Rattle.hm_history.specs.declared.phases.Phase.{Phase}
use Rattle.hm_history.specs.declared.phases.Next.TheVariants.{Do}
use Rattle.hm_laws.proofs.Due.Good.{Good}
use Rattle.hm_laws.proofs.State.Pieces.{device_store_in_page}
use Rattle.hm_laws.proofs.Due.Access.{load_piece_ok, store_piece_ok}
use Rattle.hm_laws.proofs.Due.Cpu.{load_fault_ok, store_fault_ok}
use Rattle.hm_laws.proofs.Due.MirrorPieces.{load_mirror_ok, store_mirror_ok}
use Rattle.hm_laws.proofs.Due.Freezes.{catch_ok, freezing_ok, frozen_end_ok}
use Rattle.hm_laws.proofs.Due.Empties.{alone_ok, copy_ok, copied_ok}
use Rattle.hm_laws.proofs.Due.Returns.{settle_ok, return_to_ok, give_back_ok}
use Rattle.hm_laws.proofs.Due.Frames.{give_up_ok, refuse_ok, evict_ok, remove_ok}
use Rattle.hm_laws.specs.Facts.{Clearing, Emptied, under, is_cpu, is_device_access}
use Rattle.hm_history.specs.Kernel.Operation.{is_evicting, is_remove, is_to_device}
use Rattle.hm_laws.proofs.Due.Lookups.{begun_ok, load_walk_ok, store_walk_ok, noted_ok}
use Rattle.hm_laws.proofs.Due.Areas.{begin_ok, locked, locked_ok, map_ok, unmap_ok, protect_ok, exit_ok}
use Rattle.hm_laws.proofs.Due.Spans.{zap_guard, zap_ok, zap_drop, narrow_guard, narrow_ok, widen_ok}
use Rattle.hm_laws.proofs.Due.Fork.{fork_name_ok, fork_ready, fork_guard, fork_ok}
use Rattle.hm_laws.proofs.Migration.Select.{select_ok}
use Rattle.hm_laws.proofs.Migration.FreezeOthers.{freeze_moves_ok, guard_moves_ok}
use Rattle.hm_laws.proofs.Migration.CopyParts.{copy_moves_ok}
use Rattle.hm_laws.proofs.Migration.Fresh.{fresh_moves_ok}
use Rattle.hm_laws.proofs.Migration.Lost.{lost_moves_ok, drop_moves_ok}
use Rattle.hm_laws.proofs.Migration.EachStep.{moves_ok}
use Rattle.hm_laws.proofs.Migration.Setup.{has_lock, migrate_begin_ok, refused_window, migrate_ready_ok}
use Rattle.hm_laws.proofs.Due.Faults.{taken_ok, armed_ok, replace_at, nothing_at, drop_in_guard, drop_ok}
use Rattle.hm_laws.proofs.Due.Restores.{restore_ok, seize_ok}
use Rattle.hm_laws.proofs.Due.Exclusive.{exclusive_begin_ok, exclusive_ok, add_touch_ok, excluded_ok, taken_alone_ok, give_up_exclusive}
use Rattle.hm_laws.proofs.Due.Adds.{add_piece_ok, add_fetched_ok}
use Rattle.hm_laws.specs.Facts.{Fetched_at, takes_exclusive, is_add}
use Rattle.hm_history.specs.Kernel.Operation.{op_piece}
use Rattle.hm_history.proofs.Updates.{here_at}
use Rattle.hm_history.proofs.Tests.{some_none, true_false, no_test}
use Rattle.hm_laws.proofs.State.AllowedAccepts.{is_none_of}
use Rattle.hm_base.proofs.Shared.{few_device_bytes, few_bytes}

-- the operation's numbers are in range
abbrev pub OpOk : Program → Op → Type 0
OpOk c o = op_fits (length c.devices) o ≡ true

begin_at : (c : Program) (s : After) (t : Past) (a : ℕ) (o : Op) (xs : List Migrating) → OpOk c o → a < 16 → Sound c s t → HoldsAll s t a (Is (begins o && starts_empty o xs) ∷ nothing_held) → Good c s t a o xs Phase.Begin [] (due_phase c s a o xs Phase.Begin)
begin_at c s t a (Op.Map p r w) xs sm few so h = begin_ok c s t a (Op.Map p r w) xs few so h
begin_at c s t a (Op.Unmap p r) xs sm few so h = begin_ok c s t a (Op.Unmap p r) xs few so h
begin_at c s t a (Op.Protect p r w) xs sm few so h = begin_ok c s t a (Op.Protect p r w) xs few so h
begin_at c s t a (Op.Exit p) xs sm few so h = begin_ok c s t a (Op.Exit p) xs few so h
begin_at c s t a (Op.Fork p d) xs sm few so h = begin_ok c s t a (Op.Fork p d) xs few so h
begin_at c s t a (Op.Attach m d p r) xs sm few so h = attach_ok c s t a (length c.devices) m d p r xs sm h.1
begin_at c s t a (Op.Detach m) xs sm few so h = detach_ok c s t a m xs so h.1
begin_at c s t a (Op.Snap m r) xs sm few so h = snap_begin_ok c s t a m r xs few so h.1
begin_at c s t a (Op.Exclusive m v) xs sm few so h = exclusive_begin_ok c s t a m v xs few so h.1
begin_at c s t a (Op.Add m at n) xs sm few so h = no_test h.0
begin_at c s t a (Op.Load p at n) xs sm few so h = no_test h.0
begin_at c s t a (Op.Store p at bs) xs sm few so h = no_test h.0
begin_at c s t a (Op.Evict d) xs sm few so h = no_test h.0
begin_at c s t a (Op.Remove d) xs sm few so h = no_test h.0
begin_at c s t a (Op.DeviceLoad m at n) xs sm few so h = no_test h.0
begin_at c s t a (Op.DeviceStore m at bs) xs sm few so h = no_test h.0
begin_at c s t a (Op.ToDevice m r) xs sm few so h = migrate_begin_ok c s t a m r (Op.ToDevice m r) xs few so h.1 (λ w. has_lock s t a m r xs w h.0 h.1) (refused_window s t a h.1)
begin_at c s t a (Op.ToSystem m r) xs sm few so h = migrate_begin_ok c s t a m r (Op.ToSystem m r) xs few so h.1 (λ w. has_lock s t a m r xs w h.0 h.1) (refused_window s t a h.1)

detaching_at : (c : Program) (s : After) (t : Past) (a : ℕ) (o : Op) (xs : List Migrating) (q : ℕ) → Sound c s t → HoldsAll s t a (Is (is_detach o) ∷ Leaving (op_mirror o) ∷ nothing_held) → Good c s t a o xs (Phase.Detaching q) [] (due_phase c s a o xs (Phase.Detaching q))
detaching_at c s t a (Op.Detach m) xs q so h = detaching_ok c s t a m q xs so h
detaching_at c s t a o xs q so h = no_test h.0

pages_at : (c : Program) (s : After) (t : Past) (a : ℕ) (o : Op) (xs : List Migrating) (v : ℕ) → HoldsAll s t a (Is (is_snap o) ∷ Read_locked (Who.Mirror (op_mirror o)) ∷ No_guard ∷ Locks_only [] ∷ []) → Good c s t a o xs (Phase.Pages v) [] (due_phase c s a o xs (Phase.Pages v))
pages_at c s t a (Op.Snap m r) xs v h = snap_ok c s t a m v r xs h
pages_at c s t a o xs v h = no_test h.0

map_span : (n p : ℕ) (r : Pages) (w : Rights) → op_fits n (Op.Map p r w) ≡ true → (1 ≤ r.count) × (last_of r ≤ 2 ^ 36)
map_span n p r w h = (grind (arith, nat_tests), grind (arith, nat_tests))

locked_at : (c : Program) (s : After) (t : Past) (a : ℕ) (o : Op) (xs : List Migrating) → OpOk c o → a < 16 → Sound c s t → HoldsAll s t a (locked o) → Good c s t a o xs Phase.Locked [] (due_phase c s a o xs Phase.Locked)
locked_at c s t a (Op.Map p r w) xs sm few so h = locked_ok c s t a (Op.Map p r w) xs so h (map_ok c s t a p r w xs (map_span (length c.devices) p r w sm) h)
locked_at c s t a (Op.Unmap p r) xs sm few so h = locked_ok c s t a (Op.Unmap p r) xs so h (unmap_ok c s t a p r xs few so h)
locked_at c s t a (Op.Protect p r w) xs sm few so h = locked_ok c s t a (Op.Protect p r w) xs so h (protect_ok c s t a p r w xs few h)
locked_at c s t a (Op.Exit p) xs sm few so h = locked_ok c s t a (Op.Exit p) xs so h (exit_ok c s t a p xs few h)
locked_at c s t a (Op.Fork p d) xs sm few so h = locked_ok c s t a (Op.Fork p d) xs so h (λ e. fork_name_ok c s t a p d xs so h)
locked_at c s t a o xs sm few so h = cc

ready_at : (c : Program) (s : After) (t : Past) (a : ℕ) (o : Op) (xs : List Migrating) → a < 16 → HoldsAll s t a (No_guard ∷ Locks_only [] ∷ readying o xs) → Good c s t a o xs Phase.Ready [] (due_phase c s a o xs Phase.Ready)
ready_at c s t a (Op.Fork p d) xs few h = fork_ready c s t a p d xs few h
ready_at c s t a (Op.ToDevice m r) xs few h = let z = migrate_ready_ok c s t a (Op.ToDevice m r) xs few refl h in (z.0, tt, z.1)
ready_at c s t a (Op.ToSystem m r) xs few h = let z = migrate_ready_ok c s t a (Op.ToSystem m r) xs few refl h in (z.0, tt, z.1)
ready_at c s t a o xs few h = cc

in_all : (v : ℕ) → v < 2 ^ 36 → covers all_pages v ≡ true
in_all v l = grind (arith, nat_tests)

span_upto : (r : Pages) (v : ℕ) → covers r v ≡ true → v < last_of r
span_upto r v h = grind (arith, nat_tests)

all_empty : (c : Program) (s : After) (t : Past) (p : ℕ) → Sound c s t → EmptyBelow s p all_pages (last_of all_pages) → (v : ℕ) → is_empty_place (s.places.place p v) ≡ true
all_empty c s t p so f v = by (is_empty_place (s.places.place p v)) refl
  where
    by : (b : Bool) → is_empty_place (s.places.place p v) ≡ b → b ≡ true
    by true e = refl
    by false e = absurd (true_false (is_empty_place (s.places.place p v)) (f v (in_all v (so.places.ranged p v e)) (span_upto all_pages v (in_all v (so.places.ranged p v e)))) e)

is_named : (c : Program) (s : After) (t : Past) (a d : ℕ) → Sound c s t → HasChild s t a d → s.plain.named d ≡ true
is_named c s t a d so h = by (s.plain.named d) refl
  where
    by : (b : Bool) → s.plain.named d ≡ b → b ≡ true
    by true e = refl
    by false e = absurd (some_none (t.namer d) a h.0 (so.processes.namer_named d e))

all_alike : (c : Program) (s : After) (t : Past) (p d : ℕ) → Sound c s t → ((u : ℕ) → u < last_of all_pages → Alike s p d u) → (v : ℕ) → Alike s p d v
all_alike c s t p d so f v = by (nat_lt v (last_of all_pages)) refl
  where
    less : nat_lt v (last_of all_pages) ≡ true → v < last_of all_pages
    less e = grind (arith, nat_tests)

    past : nat_lt v (last_of all_pages) ≡ false → v < 2 ^ 36 → ⊥
    past e l = grind (arith, nat_tests)

    empty : nat_lt v (last_of all_pages) ≡ false → (q : ℕ) → is_empty_place (s.places.place q v) ≡ true
    empty e q = at (is_empty_place (s.places.place q v)) refl
      where
        at : (b : Bool) → is_empty_place (s.places.place q v) ≡ b → b ≡ true
        at true i = refl
        at false i = absurd (past e (so.places.ranged q v i))

    narrow : (x : Place) → is_empty_place x ≡ true → writable x ≡ false
    narrow x h = grind arith

    by : (b : Bool) → nat_lt v (last_of all_pages) ≡ b → Alike s p d v
    by true e = f v (less e)
    by false e = record {
      emptiness = empty e d ∙ sym (empty e p);
      contents = λ x i n. absurd (true_false (is_empty_place (s.places.place d v)) (empty e d) n);
      child_right = narrow (s.places.place d v) (empty e d);
      parent_right = narrow (s.places.place p v) (empty e p);
    }

answer_at : (c : Program) (s : After) (t : Past) (a : ℕ) (o : Op) (xs : List Migrating) → Sound c s t → HoldsAll s t a (No_guard ∷ Locks_only [] ∷ answering o) → Good c s t a o xs Phase.Answer [] (due_phase c s a o xs Phase.Answer)
answer_at c s t a (Op.Unmap p r) xs so h = ((e.0, e.1, (λ v cv. e.2 v cv (span_upto r v cv)), and_from (s.plain.there p) _ e.0.1 (is_none_of (area_refusal s.plain (Op.Unmap p r)) h.1.1.1.1.0.1)), tt, (here_at s.locks.map a None, (h.0, (h.1.0, tt))))
  where
    e : Holds s t a (Emptying p r (last_of r))
    e = h.1.1.1.1.1.0
answer_at c s t a (Op.Exit p) xs so h = ((e.0, all_empty c s t p so e.2, e.0.1), tt, (here_at s.locks.map a None, (h.0, (h.1.0, tt))))
  where
    e : Holds s t a (Emptying p all_pages (last_of all_pages))
    e = h.1.1.1.1.1.0
answer_at c s t a (Op.Protect p r Rights.Read) xs so h = ((e.0, e.1, (λ i v cv. e.2 v cv (span_upto r v cv)), and_from (s.plain.there p) _ e.0.1 (is_none_of (area_refusal s.plain (Op.Protect p r Rights.Read)) h.1.1.1.1.0.1)), tt, (here_at s.locks.map a None, (h.0, (h.1.0, tt))))
  where
    e : Holds s t a (Narrowing p r (last_of r))
    e = h.1.1.1.1.1.0
answer_at c s t a (Op.Protect p r Rights.ReadWrite) xs so h = ((e.0, e.1, (λ i v cv. absurd (clash i)), and_from (s.plain.there p) _ e.0.1 (is_none_of (area_refusal s.plain (Op.Protect p r Rights.ReadWrite)) h.1.1.1.0.1)), tt, (here_at s.locks.map a None, (h.0, (h.1.0, tt))))
  where
    e : Holds s t a (Writes p)
    e = h.1.1.1.1.0

    clash : Rights.ReadWrite ≡ Rights.Read → ⊥
    clash i = cc
answer_at c s t a (Op.Fork p d) xs so h = ((e.0, e.1, e.2, all_alike c s t p d so e.3, and_from (s.plain.there p) _ e.0.1 (and_from (s.plain.named d) _ (is_named c s t a d so e.2) (ap not e.2.1))), tt, (here_at s.locks.map a None, (h.0, (h.1.0, tt))))
  where
    e : Holds s t a (Forking p d (last_of all_pages))
    e = h.1.1.1.1.0
answer_at c s t a (Op.Exclusive m v) xs so h = excluded_ok c s t a m v xs h
answer_at c s t a (Op.Add m at n) xs so h = taken_alone_ok c s t a m at n xs h
answer_at c s t a (Op.Map p r w) xs so h = absurd h.1.1.0
answer_at c s t a (Op.Load p at n) xs so h = absurd h.1.1.0
answer_at c s t a (Op.Store p at bs) xs so h = absurd h.1.1.0
answer_at c s t a (Op.Attach m d p r) xs so h = absurd h.1.1.0
answer_at c s t a (Op.Detach m) xs so h = absurd h.1.1.0
answer_at c s t a (Op.Snap m r) xs so h = absurd h.1.1.0
answer_at c s t a (Op.DeviceLoad m at n) xs so h = absurd h.1.1.0
answer_at c s t a (Op.DeviceStore m at bs) xs so h = absurd h.1.1.0
answer_at c s t a (Op.Evict d) xs so h = absurd h.1.1.0
answer_at c s t a (Op.Remove d) xs so h = absurd h.1.1.0
answer_at c s t a (Op.ToDevice m r) xs so h = absurd h.1.1.0
answer_at c s t a (Op.ToSystem m r) xs so h = absurd h.1.1.0

-- accesses
no_piece : (k : ℕ) → nat_lt k 0 ≡ true → ⊥
no_piece k h = grind (arith, nat_tests)

piece_at_ok : (c : Program) (s : After) (t : Past) (a : ℕ) (o : Op) (xs : List Migrating) (k : ℕ) → OpOk c o → a < 16 → Sound c s t → HoldsAll s t a (Is (has_piece o k) ∷ nothing_held) → Good c s t a o xs (Phase.Piece k) [] (due_phase c s a o xs (Phase.Piece k))
piece_at_ok c s t a (Op.Load p at n) xs k sm few so h = load_piece_ok c s t a p at n k xs few so h
piece_at_ok c s t a (Op.Store p at bs) xs k sm few so h = store_piece_ok c s t a p at bs k xs few (few_bytes (length c.devices) p at bs sm) so h
piece_at_ok c s t a (Op.DeviceLoad m at n) xs k sm few so h = load_mirror_ok c s t a m at n k xs so h
piece_at_ok c s t a (Op.DeviceStore m at bs) xs k sm few so h = store_mirror_ok c s t a m at bs k xs (device_store_in_page m at bs k (few_device_bytes (length c.devices) m at bs sm)) so h
piece_at_ok c s t a (Op.Add m at n) xs k sm few so h = add_piece_ok c s t a m at n k xs few so h
piece_at_ok c s t a (Op.Exclusive m v) xs k sm few so h = absurd (no_piece k h.0)
piece_at_ok c s t a (Op.Map p r w) xs k sm few so h = absurd (no_piece k h.0)
piece_at_ok c s t a (Op.Unmap p r) xs k sm few so h = absurd (no_piece k h.0)
piece_at_ok c s t a (Op.Protect p r w) xs k sm few so h = absurd (no_piece k h.0)
piece_at_ok c s t a (Op.Fork p d) xs k sm few so h = absurd (no_piece k h.0)
piece_at_ok c s t a (Op.Exit p) xs k sm few so h = absurd (no_piece k h.0)
piece_at_ok c s t a (Op.Attach m d p r) xs k sm few so h = absurd (no_piece k h.0)
piece_at_ok c s t a (Op.Detach m) xs k sm few so h = absurd (no_piece k h.0)
piece_at_ok c s t a (Op.Snap m r) xs k sm few so h = absurd (no_piece k h.0)
piece_at_ok c s t a (Op.Evict d) xs k sm few so h = absurd (no_piece k h.0)
piece_at_ok c s t a (Op.Remove d) xs k sm few so h = absurd (no_piece k h.0)
piece_at_ok c s t a (Op.ToDevice m r) xs k sm few so h = absurd (no_piece k h.0)
piece_at_ok c s t a (Op.ToSystem m r) xs k sm few so h = absurd (no_piece k h.0)

decide_at : (c : Program) (s : After) (t : Past) (a : ℕ) (o : Op) (xs : List Migrating) (touch : Touch) → a < 16 → Sound c s t → HoldsAll s t a (deciding o touch) → Good c s t a o xs (Phase.Decide touch) [] (due_phase c s a o xs (Phase.Decide touch))
decide_at c s t a (Op.Load p at n) xs (Touch.Cpu k) few so h = load_fault_ok c s t a p at n k xs few so h
decide_at c s t a (Op.Store p at bs) xs (Touch.Cpu k) few so h = store_fault_ok c s t a p at bs k xs few so h
decide_at c s t a o xs (Touch.Cpu k) few so h = no_test h.0
decide_at c s t a (Op.DeviceLoad m at n) xs (Touch.Walk k i q) few so h = load_walk_ok c s t a m at n k i q xs few so h
decide_at c s t a (Op.DeviceStore m at bs) xs (Touch.Walk k i q) few so h = store_walk_ok c s t a m at bs k i q xs few so h
decide_at c s t a o xs (Touch.Walk k i q) few so h = no_test h.0.0
decide_at c s t a (Op.Exclusive m v) xs Touch.Sole few so h = exclusive_ok c s t a m v xs few so h
decide_at c s t a (Op.Add m at n) xs Touch.Sole few so h = add_touch_ok c s t a m at n xs few so h
decide_at c s t a o xs Touch.Sole few so h = no_test h.0.0

fetched_at : (c : Program) (s : After) (t : Past) (a : ℕ) (o : Op) (xs : List Migrating) (was : ℕ) → a < 16 → Sound c s t → HoldsAll s t a (Is (is_add o) ∷ Fetched_at (op_mirror o) (op_piece o 0).0 was ∷ nothing_held) → Good c s t a o xs (Phase.Fetched was) [] (due_phase c s a o xs (Phase.Fetched was))
fetched_at c s t a (Op.Add m at n) xs was few so h = add_fetched_ok c s t a m at n was xs few so h
fetched_at c s t a o xs was few so h = no_test h.0

-- look-ups
begun_at : (c : Program) (s : After) (t : Past) (a : ℕ) (o : Op) (xs : List Migrating) (k i q : ℕ) → a < 16 → Sound c s t → HoldsAll s t a (Touching o (Touch.Walk k i q) ∷ nothing_held) → Good c s t a o xs (Phase.Begun k i q) [] (due_phase c s a o xs (Phase.Begun k i q))
begun_at c s t a (Op.DeviceLoad m at n) xs k i q few so h = begun_ok c s t a (Op.DeviceLoad m at n) xs k i q few so refl h
begun_at c s t a (Op.DeviceStore m at bs) xs k i q few so h = begun_ok c s t a (Op.DeviceStore m at bs) xs k i q few so refl h
begun_at c s t a o xs k i q few so h = no_test h.0.0

noted_at : (c : Program) (s : After) (t : Past) (a : ℕ) (o : Op) (xs : List Migrating) (k i q : ℕ) (x : Place) → Sound c s t → HoldsAll s t a (Touching o (Touch.Walk k i q) ∷ Noted (op_mirror o) (at_page o k) q x ∷ nothing_held) → Good c s t a o xs (Phase.Noted k i q x) [] (due_phase c s a o xs (Phase.Noted k i q x))
noted_at c s t a (Op.DeviceLoad m at n) xs k i q x so h = noted_ok c s t a (Op.DeviceLoad m at n) xs k i q x so h.0.0 refl h
noted_at c s t a (Op.DeviceStore m at bs) xs k i q x so h = noted_ok c s t a (Op.DeviceStore m at bs) xs k i q x so h.0.0 refl h
noted_at c s t a o xs k i q x so h = no_test h.0.0

-- frames emptied
no_device : (o : Op) (b : Bool) → (is_cpu o && b) ≡ true → is_to_device o ≡ false
no_device (Op.ToDevice m r) b h = no_test h
no_device o b h = refl

no_device_walk : (o : Op) (b : Bool) → (is_device_access o && b) ≡ true → is_to_device o ≡ false
no_device_walk (Op.ToDevice m r) b h = no_test h
no_device_walk o b h = refl

no_device_evict : (o : Op) → is_evicting o ≡ true → is_to_device o ≡ false
no_device_evict (Op.ToDevice m r) h = no_test h
no_device_evict o h = refl

no_device_remove : (o : Op) → is_remove o ≡ true → is_to_device o ≡ false
no_device_remove (Op.ToDevice m r) h = no_test h
no_device_remove o h = refl

no_device_alone : (o : Op) → takes_exclusive o ≡ true → is_to_device o ≡ false
no_device_alone (Op.ToDevice m r) h = no_test h
no_device_alone o h = refl

touch_device : (s : After) (t : Past) (a : ℕ) (o : Op) (touch : Touch) → Holds s t a (Touching o touch) → is_to_device o ≡ false
touch_device s t a o (Touch.Cpu k) h = no_device o (has_piece o k) h
touch_device s t a o (Touch.Walk k i q) h = no_device_walk o (has_piece o k) h.0
touch_device s t a o Touch.Sole h = no_device_alone o h.0

to_system : (s : After) (t : Past) (a : ℕ) (o : Op) (below : List Phase) → HoldsAll s t a (under o below) → is_to_device o ≡ false
to_system s t a o (Phase.Decide touch ∷ []) h = touch_device s t a o touch h.0
to_system s t a o (Phase.GiveUp (Some touch) ∷ []) h = touch_device s t a o touch h.0
to_system s t a o (Phase.GiveUp None ∷ []) h = no_device_remove o h.0
to_system s t a o (Phase.Frames v n ∷ []) h = no_device_evict o h.0
to_system s t a o below h = absurd h.0

give_up_at : (c : Program) (s : After) (t : Past) (a : ℕ) (o : Op) (xs : List Migrating) (touch : Option Touch) → HoldsAll s t a (No_guard ∷ Locks_only [] ∷ under o (Phase.GiveUp touch ∷ [])) → Good c s t a o xs (Phase.GiveUp touch) [] (due_phase c s a o xs (Phase.GiveUp touch))
give_up_at c s t a o xs None h = refuse_ok c s t a o xs h
give_up_at c s t a (Op.Load p at n) xs (Some (Touch.Cpu k)) h = give_up_ok c s t a (Op.Load p at n) xs (Touch.Cpu k) refl h
give_up_at c s t a (Op.Store p at bs) xs (Some (Touch.Cpu k)) h = give_up_ok c s t a (Op.Store p at bs) xs (Touch.Cpu k) refl h
give_up_at c s t a o xs (Some (Touch.Cpu k)) h = no_test h.1.1.0
give_up_at c s t a (Op.DeviceLoad m at n) xs (Some (Touch.Walk k i q)) h = give_up_ok c s t a (Op.DeviceLoad m at n) xs (Touch.Walk k i q) refl h
give_up_at c s t a (Op.DeviceStore m at bs) xs (Some (Touch.Walk k i q)) h = give_up_ok c s t a (Op.DeviceStore m at bs) xs (Touch.Walk k i q) refl h
give_up_at c s t a o xs (Some (Touch.Walk k i q)) h = no_test h.1.1.0.0
give_up_at c s t a (Op.Exclusive m v) xs (Some Touch.Sole) h = give_up_exclusive c s t a m v xs h
give_up_at c s t a (Op.Add m at n) xs (Some Touch.Sole) h = give_up_ok c s t a (Op.Add m at n) xs Touch.Sole refl h
give_up_at c s t a o xs (Some Touch.Sole) h = no_test h.1.1.0.0

frames_at : (c : Program) (s : After) (t : Past) (a : ℕ) (o : Op) (xs : List Migrating) (v n : ℕ) → OpOk c o → a < 16 → Sound c s t → HoldsAll s t a (Is (is_evicting o) ∷ Clearing o v ∷ Emptied n ∷ nothing_held) → Good c s t a o xs (Phase.Frames v n) [] (due_phase c s a o xs (Phase.Frames v n))
frames_at c s t a (Op.Evict d) xs v n sm few so h = evict_ok c s t a d v n xs few so h
frames_at c s t a (Op.Remove d) xs v n sm few so h = remove_ok c s t a d v n xs few so h
frames_at c s t a o xs v n sm few so h = no_test h.0

-- guards, of the operation's process and span
over_op : (c : Program) (s : After) (t : Past) (a : ℕ) (o : Op) (xs : List Migrating) (q : ℕ) (r : Pages) (met : Bool) (told : Option ℕ) (body : Body) (l : ℕ → Pages → List Fact) → Holds s t a (Over q r (proc_of_op o) (op_span o)) →
    (HoldsAll s t a (l (proc_of_op o) (op_span o)) → Good c s t a o xs (Phase.Guard (proc_of_op o) (op_span o) met told body) (Phase.Answer ∷ []) (Do (due_guard s a o (proc_of_op o) (op_span o) met told body))) →
    HoldsAll s t a (l q r) → Good c s t a o xs (Phase.Guard q r met told body) (Phase.Answer ∷ []) (Do (due_guard s a o q r met told body))
over_op c s t a o xs q r met told body l e go h =
    subst (λ z. HoldsAll s t a (l z r) → Good c s t a o xs (Phase.Guard z r met told body) (Phase.Answer ∷ []) (Do (due_guard s a o z r met told body))) (sym e.0)
    (subst (λ z. HoldsAll s t a (l (proc_of_op o) z) → Good c s t a o xs (Phase.Guard (proc_of_op o) z met told body) (Phase.Answer ∷ []) (Do (due_guard s a o (proc_of_op o) z met told body))) (sym e.1) go) h

fork_at : (c : Program) (s : After) (t : Past) (a : ℕ) (o : Op) (xs : List Migrating) (met : Bool) (told : Option ℕ) (n : ℕ) (half : Bool) → Sound c s t → HoldsAll s t a (fork_guard o (proc_of_op o) (op_span o) met told n half) →
    Good c s t a o xs (Phase.Guard (proc_of_op o) (op_span o) met told (Body.Fork n half)) (Phase.Answer ∷ []) (Do (due_guard s a o (proc_of_op o) (op_span o) met told (Body.Fork n half)))
fork_at c s t a (Op.Fork p d) xs met told n half so h = fork_ok c s t a p d xs met told n half so h
fork_at c s t a o xs met told n half so h = cc

pub due_ok : (c : Program) (s : After) (t : Past) (a : ℕ) (o : Op) (xs : List Migrating) → OpOk c o → a < 16 → Sound c s t → (top : Phase) (below : List Phase) → HoldsAll s t a (facts o xs (top ∷ below)) → Good c s t a o xs top below (due_phase c s a o xs top)
due_ok c s t a o xs sm few so Phase.Begin [] h = begin_at c s t a o xs sm few so h
due_ok c s t a o xs sm few so (Phase.Detaching q) [] h = detaching_at c s t a o xs q so h
due_ok c s t a o xs sm few so (Phase.Pages v) [] h = pages_at c s t a o xs v h
due_ok c s t a o xs sm few so Phase.Locked [] h = locked_at c s t a o xs sm few so h
due_ok c s t a o xs sm few so Phase.Ready [] h = ready_at c s t a o xs few h
due_ok c s t a o xs sm few so Phase.Answer [] h = answer_at c s t a o xs so h
due_ok c s t a o xs sm few so (Phase.Guard q r met told (Body.Zap n)) (Phase.Answer ∷ []) h = over_op c s t a o xs q r met told (Body.Zap n) (λ z w. zap_guard o z w met told n) h.1.1.0 (zap_ok c s t a o xs met told n so) h
due_ok c s t a o xs sm few so (Phase.Drop f) (Phase.Guard q r met told (Body.Zap n) ∷ Phase.Answer ∷ []) h = zap_drop c s t a o xs f q r met told n h
due_ok c s t a o xs sm few so (Phase.Guard q r met told (Body.Narrow n)) (Phase.Answer ∷ []) h = over_op c s t a o xs q r met told (Body.Narrow n) (λ z w. narrow_guard o z w met told n) h.1.1.0 (narrow_ok c s t a o xs met told n so) h
due_ok c s t a o xs sm few so (Phase.Guard q r met told (Body.Fork n half)) (Phase.Answer ∷ []) h = over_op c s t a o xs q r met told (Body.Fork n half) (λ z w. fork_guard o z w met told n half) h.1.1.0 (fork_at c s t a o xs met told n half so) h
due_ok c s t a o xs sm few so (Phase.Guard q r met told Body.Nothing) (Phase.Answer ∷ []) h = widen_ok c s t a o xs q r met told so h
due_ok c s t a o xs sm few so (Phase.Piece k) [] h = piece_at_ok c s t a o xs k sm few so h
due_ok c s t a o xs sm few so (Phase.Fetched was) [] h = fetched_at c s t a o xs was few so h
due_ok c s t a o xs sm few so (Phase.Begun k i q) [] h = begun_at c s t a o xs k i q few so h
due_ok c s t a o xs sm few so (Phase.Noted k i q x) [] h = noted_at c s t a o xs k i q x so h
due_ok c s t a o xs sm few so (Phase.Decide touch) [] h = decide_at c s t a o xs touch few so h
due_ok c s t a o xs sm few so (Phase.Taken touch g Place.Zero) [] h = absurd h.0
due_ok c s t a o xs sm few so (Phase.Taken touch g over) [] h = taken_ok c s t a o xs touch g over so refl h
due_ok c s t a o xs sm few so (Phase.Armed touch g over) [] h = armed_ok c s t a o xs touch g over few so h
due_ok c s t a o xs sm few so (Phase.Guard q r met told (Body.Replace over g)) (Phase.Decide touch ∷ []) h = replace_at c s t a o xs touch g over met told q r so h
due_ok c s t a o xs sm few so (Phase.Guard q r met told Body.Nothing) (Phase.Decide touch ∷ []) h = nothing_at c s t a o xs touch q r met told so h
due_ok c s t a o xs sm few so (Phase.Guard q r met told Body.Restore) (Phase.Decide touch ∷ []) h = restore_ok c s t a o xs touch q r met told so h
due_ok c s t a o xs sm few so (Phase.Guard q r met told (Body.Seize f)) (Phase.Decide touch ∷ []) h = seize_ok c s t a o xs touch f q r met told so h
due_ok c s t a o xs sm few so (Phase.Drop f) (Phase.Guard q r met told Body.Nothing ∷ Phase.Decide touch ∷ []) h = drop_in_guard c s t a o xs f q r met told touch so h
due_ok c s t a o xs sm few so (Phase.Drop f) (Phase.Decide touch ∷ []) h = drop_ok c s t a o xs f touch so h
due_ok c s t a o xs sm few so (Phase.Guard q r met told (Body.Catch f)) below h = catch_ok c s t a o xs q r met told f below so h
due_ok c s t a o xs sm few so (Phase.Guard q r met told (Body.Freeze f)) (Phase.Emptying g at ∷ below) h = freezing_ok c s t a o xs q r met told f g at below so h
due_ok c s t a o xs sm few so (Phase.Guard q r met told (Body.Select n)) (Phase.Moves step v ∷ []) h = select_ok c s t a o xs q r met told n step v so h
due_ok c s t a o xs sm few so (Phase.Guard q r met told (Body.Freeze f)) (Phase.Moves step v ∷ []) h = freeze_moves_ok c s t a o xs q r met told f step v so h
due_ok c s t a o xs sm few so (Phase.Guard q r met told Body.Nothing) (Phase.Moves step v ∷ []) h = guard_moves_ok c s t a o xs q r met told step v so h
due_ok c s t a o xs sm few so (Phase.Guard q r met told (Body.Fresh g)) (Phase.Moves step v ∷ []) h = fresh_moves_ok c s t a o xs q r met told g step v so h
due_ok c s t a o xs sm few so (Phase.Copy f g k) (Phase.Moves step v ∷ []) h = copy_moves_ok c s t a o xs f g k step v so h
due_ok c s t a o xs sm few so (Phase.Lost u g) (Phase.Moves step v ∷ []) h = lost_moves_ok c s t a o xs u g step v so h
due_ok c s t a o xs sm few so (Phase.Drop g) (Phase.Moves step v ∷ []) h = drop_moves_ok c s t a o xs g step v so h
due_ok c s t a o xs sm few so (Phase.Moves step v) [] h = moves_ok c s t a o xs step v few so h
due_ok c s t a o xs sm few so (Phase.Guard q r met told Body.Nothing) (Phase.Emptying f at ∷ below) h = frozen_end_ok c s t a o xs q r met told f at below so h
due_ok c s t a o xs sm few so (Phase.Emptying f at) below h = alone_ok c s t a o xs f at below few so (to_system s t a o below h.1.1.1) h
due_ok c s t a o xs sm few so (Phase.Copy f g k) (Phase.Copied i j ∷ below) h = copy_ok c s t a o xs f g i j k below so h
due_ok c s t a o xs sm few so (Phase.Copied f g) below h = copied_ok c s t a o xs f g below so h
due_ok c s t a o xs sm few so (Phase.Finish f None) below h = give_back_ok c s t a o xs f below so h
due_ok c s t a o xs sm few so (Phase.Finish f (Some g)) below h = return_to_ok c s t a o xs f g below so h
due_ok c s t a o xs sm few so (Phase.Settle g) below h = settle_ok c s t a o xs g below so h
due_ok c s t a o xs sm few so (Phase.GiveUp touch) [] h = give_up_at c s t a o xs touch h
due_ok c s t a o xs sm few so (Phase.Frames v n) [] h = frames_at c s t a o xs v n sm few so h
due_ok c s t a o xs sm few so top below h = absurd h.0
