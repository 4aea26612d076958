-- Frames of a device are emptied one by one; and a fault or a removal is given up for want of a frame.
use Rattle.std.proofs.Common.{◌≡◌, ℕ, zero, suc, ◌+◌, ◌-◌, ◌<◌, ◌≤◌, ◌⊎◌, inl, inr, Bool, true, false, ◌==◌, ◌&&◌, nat_lt, not, if◌then◌else◌, is_some, is_none, Option, Some, None, List, [], ◌∷◌, refl, sym, ap, ◌∙◌, subst, arith}
use Rattle.std.proofs.lemmas.Bool.Decides.{nat_tests}
use Rattle.std.proofs.lemmas.Bool.{and_from, eqb-true, ltb-false, ltb-true}
use Rattle.hm_base.specs.Pages.{one_page}
use Rattle.hm_base.specs.Program.{Program}
use Rattle.hm_base.specs.declared.cause.Cause.{Cause}
use Rattle.hm_base.specs.declared.Frame.{Frame}
use Rattle.hm_base.specs.declared.ops.Op.{Op}
use Rattle.hm_history.specs.declared.Why.{Why}
use Rattle.hm_laws.proofs.Other.Cleared.{gone_for}
use Rattle.hm_history.specs.Memory.Words.{least, dev_frame, is_frame, names}
use Rattle.hm_history.specs.Memory.Plain.{proc_of, rights_of}
use Rattle.hm_history.specs.Memory.Places.{held_from, lowest_named, pool_size}
use Rattle.hm_base.specs.declared.PoolId.{PoolId}
use Rattle.hm_history.specs.Memory.Sequences.{some_overlap, seq_started}
use Rattle.hm_history.specs.Memory.Locks.{other_locker, is_locker}
use Rattle.hm_history.specs.Memory.After.{After}
use Rattle.hm_history.specs.Kernel.Operation.{op_who, is_evicting}
use Rattle.hm_history.specs.Kernel.Stacks.{piece_of, catching, number_of}
use Rattle.hm_history.specs.Kernel.Going.{touch_page}
use Rattle.hm_history.specs.Kernel.Due.{start_entry, failed, due_frames_of, frame_at}
use Rattle.hm_history.specs.declared.KeptAt.{KeptAt}
use Rattle.hm_history.specs.declared.KeptWhy.{KeptWhy}
use Rattle.hm_history.specs.declared.Kind.{Kind}
use Rattle.hm_history.specs.declared.phases.Migrating.{Migrating}
use Rattle.hm_history.specs.declared.phases.Touch.{Touch}
use Rattle.hm_history.specs.declared.phases.Phase.{Phase}
use Rattle.hm_history.specs.declared.phases.Next.{Next}
use Rattle.hm_history.specs.declared.phases.Next.TheVariants.{Do, Wait}
use Rattle.hm_laws.specs.Stood.{IsNamed}
use Rattle.hm_laws.specs.Past.{Past}
use Rattle.hm_laws.specs.Sound.{Sound}
use Rattle.hm_laws.specs.Allowed.{next}
use Rattle.hm_laws.specs.Facts.{Is, Clearing, Emptied, Clear, ClearTo, GoneFor, catches_at, No_guard, Locks_only, at_page, nothing_held, under, facts, HoldsAll}
use Rattle.hm_laws.proofs.State.Search.{least_none, lowest_none, least_some}
use Rattle.hm_laws.proofs.Kept.PlaceLocks.{lowest_passes}
use Rattle.hm_laws.proofs.Kept.Frames.{names_stays}
use Rattle.hm_laws.proofs.Due.Good.{Good, either_option, release_none, ends_ok, no_frame, not_short}
use Rattle.hm_laws.proofs.Due.Guards.{number_is, started, start_takes}
use Rattle.hm_laws.proofs.Due.Mirrors.{release_locked}
use Rattle.hm_laws.proofs.Due.Decide.{empty_locks}
use Rattle.hm_history.proofs.Updates.{here_at}
use Rattle.hm_history.proofs.Tests.{true_false}
use Rattle.hm_history.proofs.Frames.{is_frame_from, is_frame_of, frame_itself}
use Rattle.hm_laws.proofs.Own.WhileEmptying.{one_more}
use Rattle.hm_history.proofs.Least.{none_least}

-- an access fails for want of a frame
pub give_up_ok : (c : Program) (s : After) (t : Past) (a : ℕ) (o : Op) (xs : List Migrating) (touch : Touch) → touch_page o touch ≡ at_page o (piece_of touch) → HoldsAll s t a (No_guard ∷ Locks_only [] ∷ under o (Phase.GiveUp (Some touch) ∷ [])) → Good c s t a o xs (Phase.GiveUp (Some touch)) [] (Do (failed o (piece_of touch) Cause.NoFrame))
give_up_ok c s t a o xs touch page h = ((release_locked s a (proc_of s.plain (op_who o)) h.1.1.1.0.1.0, no_frame s.plain (op_who o) (at_page o (piece_of touch)) h.1.1.1.0.0 h.1.1.1.0.1.1 (ap (λ v. is_some (rights_of s.plain (proc_of s.plain (op_who o)) v)) (sym page) ∙ h.1.1.1.0.2)), tt, ends_ok o xs (piece_of touch) (next s a (failed o (piece_of touch) Cause.NoFrame)) t a (here_at s.locks.map a None, (h.0, (h.1.0, tt))))

pub refuse_ok : (c : Program) (s : After) (t : Past) (a : ℕ) (o : Op) (xs : List Migrating) → HoldsAll s t a (No_guard ∷ Locks_only [] ∷ under o (Phase.GiveUp None ∷ [])) → Good c s t a o xs (Phase.GiveUp None) [] (Do (Kind.Refused Cause.NoFrame))
refuse_ok c s t a o xs h = (release_none s a h.1.1.1.0, tt, (here_at s.locks.map a None, (h.0, (h.1.0, tt))))

-- evictions
within : (k v n : ℕ) → nat_lt k v ≡ false → nat_lt k n ≡ true → k < v + (n - v)
within k v n h l = grind (arith, nat_tests)

beyond : (k n : ℕ) → nat_lt k n ≡ false → k < n → ⊥
beyond k n h l = grind (arith, nat_tests)

abbrev pub other_lock : Option ℕ → ℕ → Option ℕ
other_lock None a = None
other_lock (Some b) a = if a == b then None else Some b

pub other_lock_is : (s : After) (f : Frame) (a : ℕ) → other_lock (s.locks.frame f) a ≡ other_locker s.locks f a
other_lock_is s f a = by (s.locks.frame f)
  where
    by : (x : Option ℕ) → other_lock x a ≡ elim x as (λ y. Option ℕ) [ None ↦ None | Some b ↦ if a == b then None else Some b ]
    by None = refl
    by (Some b) = refl

pub other_is : (x : Option ℕ) (a b : ℕ) → other_lock x a ≡ Some b → (x ≡ Some b) × ((a == b) ≡ false)
other_is None a b h = cc
other_is (Some d) a b h = by (a == d) refl h
  where
    some_is : (i j : ℕ) → Some i ≡ Some j → i ≡ j
    some_is i j e = cc

    by : (y : Bool) → (a == d) ≡ y → ◌≡◌ {A = Option ℕ} (if y then None else Some d) (Some b) → (Some d ≡ Some b) × ((a == b) ≡ false)
    by true e k = cc
    by false e k = (k, ap (λ i. a == i) (sym (some_is d b k)) ∙ e)

pub mine_is : (x : Option ℕ) (a b : ℕ) → other_lock x a ≡ None → x ≡ Some b → x ≡ Some a
mine_is None a b h e = cc
mine_is (Some d) a b h e = by (a == d) refl h
  where
    by : (y : Bool) → (a == d) ≡ y → ◌≡◌ {A = Option ℕ} (if y then None else Some d) None → Some d ≡ Some a
    by true i k = ap Some (sym (eqb-true a d i))
    by false i k = cc

least_before : (t : ℕ → Bool) (from n k j : ℕ) → least t from n ≡ Some k → from ≤ j → j < k → t j ≡ false
least_before t from zero k j h l m = cc
least_before t from (suc n) k j h l m = by (least_before t (from + 1) n k j) (t from) refl h
  where
    by : (least t (from + 1) n ≡ Some k → from + 1 ≤ j → j < k → t j ≡ false) → (b : Bool) → t from ≡ b → elim b [ true ↦ Some from | false ↦ least t (from + 1) n ] ≡ Some k → t j ≡ false
    by ih true e i = absurd (past (number i))
      where
        number : Some from ≡ Some k → from ≡ k
        number i = cc

        past : from ≡ k → ⊥
        past i = omega (arith, i, l, m)
    by ih false e i = grind (arith, nat_tests, ih i)

-- the frame to which an eviction or a removal has come
record Come (s : After) (a d k v : ℕ) (o : Op) : Type 0 where
  evicts : is_evicting o ≡ true
  catches : catches_at o (dev_frame d k) k ≡ true
  clear : ClearTo s a o k
  gone : GoneFor s o

frame_ok : (c : Program) (s : After) (t : Past) (a d k v n : ℕ) (o : Op) (xs : List Migrating) → a < 16 → Sound c s t → Come s a d k v o → n ≤ s.length → HoldsAll s t a nothing_held → s.places.held (dev_frame d k) ≡ true → (P : Next → Type 0) → ((y : Kind) → Good c s t a o xs (Phase.Frames v n) [] (Do y) → P (Do y)) → other_locker s.locks (dev_frame d k) a ≡ None → P (elim (lowest_named s.places (dev_frame d k)) [ Some x ↦ Do (start_entry s x.0 (one_page x.1)) | None ↦ Do (Kind.Drop (dev_frame d k)) ])
frame_ok c s t a d k v n o xs few so come emptied h held P to e = either_option P (lowest_named s.places (dev_frame d k)) (Do (Kind.Drop (dev_frame d k))) (λ x. Do (start_entry s x.0 (one_page x.1))) (λ m. absurd (free m)) (λ x m. to (start_entry s x.0 (one_page x.1)) (started_at x m))
  where
    started_at : (x : ℕ × ℕ) → lowest_named s.places (dev_frame d k) ≡ Some x → Good c s t a o xs (Phase.Frames v n) [] (Do (start_entry s x.0 (one_page x.1)))
    started_at x e = (
      (few, start_takes s a x.0 (one_page x.1) h.1.0),
      tt,
      subst (λ y. HoldsAll (next s a (start_entry s x.0 (one_page x.1))) t a (facts o xs (Phase.Guard x.0 (one_page x.1) (some_overlap s.sequences x.0 (one_page x.1)) None (catching y) ∷ Phase.Frames (number_of y) n ∷ []))) (sym named)
          (started s a x.0 (one_page x.1) (seq_started s.sequences x.0 (one_page x.1)), (h.1.1.0, (refl, (come.catches, (come.evicts, (clear_same s a (start_entry s x.0 (one_page x.1)) o k come.clear, (gone_for s a (start_entry s x.0 (one_page x.1)) o come.gone, (h.0, (one_more n s.length emptied, tt))))))))),
    )
      where
        named : names (s.places.place x.0 x.1) ≡ Some (dev_frame d k)
        named = is_frame_from (names (s.places.place x.0 x.1)) (dev_frame d k) (lowest_passes (λ i j. is_frame (names (s.places.place i j)) (dev_frame d k)) s.places.placed x e)

        clear_same : (s : After) (a : ℕ) (y : Kind) (o : Op) (k : ℕ) → ClearTo s a o k → ClearTo (next s a (start_entry s x.0 (one_page x.1))) a o k
        clear_same s a y (Op.Remove d) k h = h
        clear_same s a y o k h = tt

    free : lowest_named s.places (dev_frame d k) ≡ None → ⊥
    free m = at (s.locks.frame (dev_frame d k)) refl
      where
        unnamed : IsNamed s.places.place (dev_frame d k) → ⊥
        unnamed z = true_false (is_frame (names (s.places.place z.0 z.1)) (dev_frame d k)) (is_frame_of (names (s.places.place z.0 z.1)) (dev_frame d k) z.2) (lowest_none (λ i j. is_frame (names (s.places.place i j)) (dev_frame d k)) s.places.placed z.0 z.1 m (so.places.listed z.0 z.1 (names_stays (s.places.place z.0 z.1) (dev_frame d k) z.2)))

        at : (y : Option ℕ) → s.locks.frame (dev_frame d k) ≡ y → ⊥
        at None i = unnamed (so.frames.held_used (dev_frame d k) held i)
        at (Some b) i = empty_locks (dev_frame d k) (h.1.1.0 (dev_frame d k) (mine_is (s.locks.frame (dev_frame d k)) a b (other_lock_is s (dev_frame d k) a ∙ e) i))

pub evict_ok : (c : Program) (s : After) (t : Past) (a d v n : ℕ) (xs : List Migrating) → a < 16 → Sound c s t → HoldsAll s t a (Is true ∷ Clearing (Op.Evict d) v ∷ Emptied n ∷ nothing_held) → Good c s t a (Op.Evict d) xs (Phase.Frames v n) [] (due_frames_of c s a d false v n)
evict_ok c s t a d v n xs few so h = either_option P (held_from c s.places d v) _ _ (λ e. (tt, tt, h.1.1.1)) (λ k e. frame k (least_some (λ i. s.places.held (dev_frame d i)) v (pool_size c (PoolId.Device d) - v) k e))
  where
    P : Next → Type 0
    P = Good c s t a (Op.Evict d) xs (Phase.Frames v n) []

    frame : (k : ℕ) → s.places.held (dev_frame d k) ≡ true → P (frame_at s a false (dev_frame d k))
    frame k held = by (other_locker s.locks (dev_frame d k) a) refl
      where
        by : (y : Option ℕ) → other_locker s.locks (dev_frame d k) a ≡ y → P (elim y [ Some b ↦ Do (Kind.Kept (KeptAt.Frame (dev_frame d k)) (KeptWhy.LockedBy b)) | None ↦ elim (lowest_named s.places (dev_frame d k)) [ Some x ↦ Do (start_entry s x.0 (one_page x.1)) | None ↦ Do (Kind.Drop (dev_frame d k)) ] ])
        by None e = frame_ok c s t a d k v n (Op.Evict d) xs few so (record { evicts = refl; catches = refl; clear = tt; gone = tt }) h.1.1.0 h.1.1.1 held P (λ y g. g) e
        by (Some b) e = (tt, locked, (refl, (tt, (one_more n s.length h.1.1.0, h.1.1.1))))
          where
            is : (s.locks.frame (dev_frame d k) ≡ Some b) × ((a == b) ≡ false)
            is = other_is (s.locks.frame (dev_frame d k)) a b (other_lock_is s (dev_frame d k) a ∙ e)

            locked : (not (a == b) && is_locker (s.locks.frame (dev_frame d k)) b) ≡ true
            locked = and_from (not (a == b)) (is_locker (s.locks.frame (dev_frame d k)) b) (ap not is.1) (ap (λ y. is_locker y b) is.0 ∙ number_is b b refl)

-- a removal: the device gives no frame any more, its frames are emptied, and then it has none
pub remove_ok : (c : Program) (s : After) (t : Past) (a d v n : ℕ) (xs : List Migrating) → a < 16 → Sound c s t → HoldsAll s t a (Is true ∷ Clearing (Op.Remove d) v ∷ Emptied n ∷ nothing_held) → Good c s t a (Op.Remove d) xs (Phase.Frames v n) [] (due_frames_of c s a d true v n)
remove_ok c s t a d v n xs few so h = by (s.places.withdrawn d) refl
  where
    P : Next → Type 0
    P = Good c s t a (Op.Remove d) xs (Phase.Frames v n) []

    not_yet : s.places.withdrawn d ≡ false → (k : ℕ) → k < v → ⊥
    not_yet w k l = true_false (s.places.withdrawn d) (h.1.0 k l).0 w

    free_at : (k : ℕ) → k < v → s.places.held (dev_frame d k) ≡ false
    free_at k l = at (h.1.0 k l).1
      where
        at : (s.places.held (dev_frame d k) ≡ false) ⊎ (s.locks.frame (dev_frame d k) ≡ Some a) → s.places.held (dev_frame d k) ≡ false
        at (inl i) = i
        at (inr i) = absurd (empty_locks (dev_frame d k) (h.1.1.1.1.1.0 (dev_frame d k) i))

    none_held : held_from c s.places d v ≡ None → is_none (held_from c s.places d 0) ≡ true
    none_held e = ap is_none (none_least (λ i. s.places.held (dev_frame d i)) (λ k. at k) 0 (pool_size c (PoolId.Device d) - 0))
      where
        at : (k : ℕ) → s.places.held (dev_frame d k) ≡ false
        at k = cases (nat_lt k v) refl (nat_lt k (pool_size c (PoolId.Device d))) refl
          where
            cases : (x : Bool) → nat_lt k v ≡ x → (y : Bool) → nat_lt k (pool_size c (PoolId.Device d)) ≡ y → s.places.held (dev_frame d k) ≡ false
            cases true ex y ey = free_at k (ltb-true k v ex)
            cases false ex true ey = least_none (λ i. s.places.held (dev_frame d i)) v (pool_size c (PoolId.Device d) - v) k e (ltb-false k v ex) (within k v (pool_size c (PoolId.Device d)) ex ey)
            cases false ex false ey = out (s.places.held (dev_frame d k)) refl
              where
                out : (b : Bool) → s.places.held (dev_frame d k) ≡ b → b ≡ false
                out true i = absurd (beyond k (pool_size c (PoolId.Device d)) ey (so.pools.below (dev_frame d k) i))
                out false i = refl

    removed : (b : Bool) → s.places.withdrawn d ≡ true → held_from c s.places d v ≡ None → P (Do (elim b [ true ↦ Kind.Refused Cause.Removed | false ↦ Kind.Removed d ]))
    removed true w e = (release_none s a h.1.1.1.0, not_short c s Cause.Removed refl, (here_at s.locks.map a None, h.1.1.1.1))
    removed false w e = ((w, none_held e), tt, h.1.1.1)

    frame : (k : ℕ) → s.places.withdrawn d ≡ true → held_from c s.places d v ≡ Some k → P (frame_at s a true (dev_frame d k))
    frame k w e = by (other_locker s.locks (dev_frame d k) a) refl
      where
        clear : ClearTo s a (Op.Remove d) k
        clear j l = (w, at (nat_lt j v) refl)
          where
            at : (b : Bool) → nat_lt j v ≡ b → Clear s a (dev_frame d j)
            at true i = inl (free_at j (ltb-true j v i))
            at false i = inl (least_before (λ i. s.places.held (dev_frame d i)) v (pool_size c (PoolId.Device d) - v) k j e (ltb-false j v i) l)

        by : (y : Option ℕ) → other_locker s.locks (dev_frame d k) a ≡ y → P (elim y [ Some b ↦ Wait (Why.FrameLocked (dev_frame d k) b) | None ↦ elim (lowest_named s.places (dev_frame d k)) [ Some x ↦ Do (start_entry s x.0 (one_page x.1)) | None ↦ Do (Kind.Drop (dev_frame d k)) ] ])
        by None m = frame_ok c s t a d k v n (Op.Remove d) xs few so (record { evicts = refl; catches = frame_itself (dev_frame d k); clear = clear; gone = w }) h.1.1.0 h.1.1.1 (least_some (λ i. s.places.held (dev_frame d i)) v (pool_size c (PoolId.Device d) - v) k e) P (λ y g. g) m
        by (Some b) m = tt

    come : s.places.withdrawn d ≡ true → (y : Option ℕ) → held_from c s.places d v ≡ y → P (elim y [ None ↦ Do (elim (s.places.removed d) [ true ↦ Kind.Refused Cause.Removed | false ↦ Kind.Removed d ]) | Some k ↦ frame_at s a true (dev_frame d k) ])
    come w None e = removed (s.places.removed d) w e
    come w (Some k) e = frame k w e

    by : (b : Bool) → s.places.withdrawn d ≡ b → P (elim (not b) [ true ↦ Do (Kind.Withdrawn d) | false ↦ elim (held_from c s.places d v) [ None ↦ Do (elim (s.places.removed d) [ true ↦ Kind.Refused Cause.Removed | false ↦ Kind.Removed d ]) | Some k ↦ frame_at s a true (dev_frame d k) ] ])
    by false w = (tt, tt, (refl, ((λ k l. absurd (not_yet w k l)), (one_more n s.length h.1.1.0, h.1.1.1))))
    by true w = come w (held_from c s.places d v) refl
