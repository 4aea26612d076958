-- Where an operation may still be refused, none of its entries has changed the plain state.
use Rattle.std.proofs.Common.{◌≡◌, inl, inr, ℕ, Bool, true, false, not, ◌&&◌, ◌||◌, nat_lt, Some, None, List, [], ◌∷◌, refl, ap, arith}
use Rattle.std.proofs.lemmas.Bool.{and_parts, and_from}
use Rattle.hm_base.specs.declared.ops.Op.{Op}
use Rattle.hm_history.specs.Memory.After.{After}
use Rattle.hm_history.specs.Kernel.Stacks.{after_top}
use Rattle.hm_history.specs.Kernel.Operation.{is_exclusive_op, is_remove, is_evicting, is_migration}
use Rattle.hm_history.specs.declared.Kind.{Kind}
use Rattle.hm_history.specs.declared.phases.Migrating.{Migrating}
use Rattle.hm_history.specs.declared.phases.Seen.{Seen}
use Rattle.hm_history.specs.declared.phases.Phase.{Phase}
use Rattle.hm_laws.specs.Past.{Past}
use Rattle.hm_laws.specs.Facts.{is_detach, is_fork, is_add, is_snap, takes_lock, begins, has_piece, facts, HoldsAll}
use Rattle.hm_underway_laws.specs.Refused.{ChangesNothing}
use Rattle.hm_laws.proofs.Due.FromOp.{stores, is_access, refuses, FromOp}
use Rattle.hm_underway_laws.proofs.Early.{has_early, was_early}
use Rattle.hm_history.proofs.Tests.{no_test}

-- a fork and a detach change the plain state before their last entry
abbrev pub midway : Op → Bool
midway o = is_fork o || is_detach o

-- an operation that stores no bytes, and is before such a change
abbrev pub is_clean : Op → List Phase → Bool
is_clean o st = not (stores o) && (not (midway o) || has_early st)

-- entries that change a plain state
abbrev pub changes : Kind → Bool
changes (Kind.Mapped p r w) = true
changes (Kind.Unmapped p r) = true
changes (Kind.Protected p r w) = true
changes (Kind.Stored x at bs) = true
changes (Kind.Added m at was now) = true
changes (Kind.Named p d) = true
changes (Kind.Forked p d) = true
changes (Kind.Exited p) = true
changes (Kind.Attached m d p r q) = true
changes (Kind.Detaching m q) = true
changes (Kind.Detached m) = true
changes k = false

pub unchanged : (k : Kind) → changes k ≡ false → ChangesNothing k
unchanged (Kind.Mapped p r w) h = cc
unchanged (Kind.Unmapped p r) h = cc
unchanged (Kind.Protected p r w) h = cc
unchanged (Kind.Stored x at bs) h = cc
unchanged (Kind.Added m at was now) h = cc
unchanged (Kind.Named p d) h = cc
unchanged (Kind.Forked p d) h = cc
unchanged (Kind.Exited p) h = cc
unchanged (Kind.Attached m d p r q) h = cc
unchanged (Kind.Detaching m q) h = cc
unchanged (Kind.Detached m) h = cc
unchanged k h = λ s. refl

widen : (b x y : Bool) → (x ≡ true → y ≡ true) → (b || x) ≡ true → (b || y) ≡ true
widen true x y f h = refl
widen false x y f h = f h

not_both : {X : Type 0} (b : Bool) → b ≡ true → not b ≡ true → X
not_both true h k = cc
not_both false h k = cc

fork_midway : (o : Op) → is_fork o ≡ true → midway o ≡ true
fork_midway o h = ap (λ b. b || is_detach o) h

detach_midway : (o : Op) → is_detach o ≡ true → midway o ≡ true
detach_midway o h = by (is_fork o) h
  where
    by : (b : Bool) → is_detach o ≡ true → (b || is_detach o) ≡ true
    by true k = refl
    by false k = k

-- an operation that is midway, at a stack without an early phase
left_early : {X : Type 0} (o : Op) (st : List Phase) → midway o ≡ true → has_early st ≡ false → (not (midway o) || has_early st) ≡ true → X
left_early o st m e h = by (midway o) (has_early st) m e h
  where
    by : {X : Type 0} (b d : Bool) → b ≡ true → d ≡ false → (not b || d) ≡ true → X
    by true true m e h = cc
    by true false m e h = cc
    by false d m e h = cc

-- what changes the plain state ends the operation, or makes it midway
changes_not : (o : Op) (top : Phase) (below : List Phase) (k : Kind) (seen : Seen) → FromOp o top k → (after_top o top below k seen ≡ [] → ⊥) → is_clean o (after_top o top below k seen) ≡ true → changes k ≡ false
changes_not o top below (Kind.Mapped p r w) seen f ne cl = absurd (ne (ap (λ t. after_top o t below (Kind.Mapped p r w) seen) f.1))
changes_not o top below (Kind.Unmapped p r) seen (inl f) ne cl = absurd (ne (ap (λ t. after_top o t below (Kind.Unmapped p r) seen) f))
changes_not o top below (Kind.Unmapped p r) seen (inr f) ne cl = absurd (ne (ap (λ t. after_top o t below (Kind.Unmapped p r) seen) f))
changes_not o top below (Kind.Protected p r w) seen f ne cl = absurd (ne (ap (λ t. after_top o t below (Kind.Protected p r w) seen) f))
changes_not o top below (Kind.Stored x at bs) seen f ne cl = not_both (stores o) f (and_parts (not (stores o)) _ cl).0
changes_not o top below (Kind.Added m at was now) seen f ne cl = not_both (stores o) f (and_parts (not (stores o)) _ cl).0
changes_not o top below (Kind.Named p d) seen f ne cl = left_early o (after_top o top below (Kind.Named p d) seen) (fork_midway o (ap is_fork f.0)) (ap (λ t. has_early (after_top o t below (Kind.Named p d) seen)) f.1) (and_parts (not (stores o)) _ cl).1
changes_not o top below (Kind.Forked p d) seen f ne cl = absurd (ne (ap (λ t. after_top o t below (Kind.Forked p d) seen) f))
changes_not o top below (Kind.Exited p) seen f ne cl = absurd (ne (ap (λ t. after_top o t below (Kind.Exited p) seen) f))
changes_not o top below (Kind.Attached m d p r q) seen f ne cl = absurd (ne (ap (λ t. after_top o t below (Kind.Attached m d p r q) seen) f.1))
changes_not o top below (Kind.Detaching m q) seen f ne cl = left_early o (after_top o top below (Kind.Detaching m q) seen) (detach_midway o f.0) (ap (λ t. has_early (after_top o t below (Kind.Detaching m q) seen)) f.1) (and_parts (not (stores o)) _ cl).1
changes_not o top below (Kind.Detached m) seen (inl f) ne cl = absurd (ne (ap (λ t. after_top o t below (Kind.Detached m) seen) f))
changes_not o top below (Kind.Detached m) seen (inr f) ne cl = absurd (ne (ap (λ t. after_top o t below (Kind.Detached m) seen) f.1))
changes_not o top below k seen f ne cl = refl

pub clean_before : (o : Op) (top : Phase) (below : List Phase) (k : Kind) (seen : Seen) → FromOp o top k → (after_top o top below k seen ≡ [] → ⊥) → is_clean o (after_top o top below k seen) ≡ true → (is_clean o (top ∷ below) ≡ true) × (changes k ≡ false)
clean_before o top below k seen f ne cl =
    let parts = and_parts (not (stores o)) _ cl in
    (and_from (not (stores o)) _ parts.0 (widen (not (midway o)) (has_early (after_top o top below k seen)) (has_early (top ∷ below)) (was_early o top below k seen) parts.1), changes_not o top below k seen f ne cl)

-- where an operation is refused, it is before its changes
begins_clean : (o : Op) (b : Bool) (below : List Phase) → (begins o && b) ≡ true → is_clean o (Phase.Begin ∷ below) ≡ true
begins_clean (Op.Store p at bs) b below h = cc
begins_clean (Op.DeviceStore m at bs) b below h = cc
begins_clean (Op.Add m at n) b below h = cc
begins_clean o b below h = refl

locked_clean : (o : Op) (below : List Phase) → takes_lock o ≡ true → is_clean o (Phase.Locked ∷ below) ≡ true
locked_clean (Op.Store p at bs) below h = cc
locked_clean (Op.DeviceStore m at bs) below h = cc
locked_clean (Op.Add m at n) below h = cc
locked_clean o below h = refl

ready_clean : (s : After) (t : Past) (a : ℕ) (o : Op) (xs : List Migrating) → HoldsAll s t a (facts o xs (Phase.Ready ∷ [])) → not (is_fork o) ≡ true → is_clean o (Phase.Ready ∷ []) ≡ true
ready_clean s t a (Op.Fork p d) xs h r = cc
ready_clean s t a (Op.Store p at bs) xs h r = h.1.1.0
ready_clean s t a (Op.DeviceStore m at bs) xs h r = h.1.1.0
ready_clean s t a (Op.Add m at n) xs h r = h.1.1.0
ready_clean s t a (Op.Detach m) xs h r = h.1.1.0
ready_clean s t a o xs h r = refl

snap_clean : (o : Op) (st : List Phase) → is_snap o ≡ true → is_clean o st ≡ true
snap_clean (Op.Snap m r) st h = refl
snap_clean o st h = cc

piece_clean : (o : Op) (k : ℕ) (st : List Phase) → has_piece o k ≡ true → not (is_access o) ≡ true → is_clean o st ≡ true
piece_clean (Op.Fork p d) k st h r = absurd (none k h)
  where
    none : (n : ℕ) → nat_lt n 0 ≡ true → ⊥
    none n e = grind arith
piece_clean (Op.Detach m) k st h r = absurd (none k h)
  where
    none : (n : ℕ) → nat_lt n 0 ≡ true → ⊥
    none n e = grind arith
piece_clean (Op.Store p at bs) k st h r = cc
piece_clean (Op.DeviceStore m at bs) k st h r = cc
piece_clean (Op.Add m at n) k st h r = cc
piece_clean o k st h r = refl

sole_clean : (o : Op) (st : List Phase) → is_exclusive_op o ≡ true → is_clean o st ≡ true
sole_clean (Op.Exclusive m v) st h = refl
sole_clean o st h = cc

remove_clean : (o : Op) (st : List Phase) → is_remove o ≡ true → is_clean o st ≡ true
remove_clean (Op.Remove d) st h = refl
remove_clean o st h = cc

evicting_clean : (o : Op) (st : List Phase) → is_evicting o ≡ true → is_clean o st ≡ true
evicting_clean (Op.Evict d) st h = refl
evicting_clean (Op.Remove d) st h = refl
evicting_clean o st h = cc

migration_clean : (o : Op) (st : List Phase) → is_migration o ≡ true → is_clean o st ≡ true
migration_clean (Op.ToDevice m r) st h = refl
migration_clean (Op.ToSystem m r) st h = refl
migration_clean o st h = cc

pub refused_clean : (s : After) (t : Past) (a : ℕ) (o : Op) (xs : List Migrating) (top : Phase) (below : List Phase) → HoldsAll s t a (facts o xs (top ∷ below)) → refuses o top ≡ true → is_clean o (top ∷ below) ≡ true
refused_clean s t a o xs Phase.Begin [] h r = begins_clean o _ [] h.0
refused_clean s t a o xs Phase.Begin (y ∷ ys) h r = absurd h.0
refused_clean s t a o xs Phase.Locked [] h r = locked_clean o [] h.1.1.0
refused_clean s t a o xs Phase.Locked (y ∷ ys) h r = absurd h.0
refused_clean s t a o xs Phase.Ready [] h r = ready_clean s t a o xs h r
refused_clean s t a o xs Phase.Ready (y ∷ ys) h r = absurd h.0
refused_clean s t a o xs (Phase.Pages v) [] h r = snap_clean o (Phase.Pages v ∷ []) h.0
refused_clean s t a o xs (Phase.Pages v) (y ∷ ys) h r = absurd h.0
refused_clean s t a o xs (Phase.Piece k) [] h r = piece_clean o k (Phase.Piece k ∷ []) h.0 r
refused_clean s t a o xs (Phase.Piece k) (y ∷ ys) h r = absurd h.0
refused_clean s t a o xs (Phase.Fetched old) [] h r = not_both (is_add o) h.0 r
refused_clean s t a o xs (Phase.Fetched old) (y ∷ ys) h r = absurd h.0
refused_clean s t a o xs (Phase.Decide touch) below h r = sole_clean o (Phase.Decide touch ∷ below) r
refused_clean s t a o xs (Phase.GiveUp None) [] h r = remove_clean o (Phase.GiveUp None ∷ []) h.1.1.0
refused_clean s t a o xs (Phase.GiveUp None) (y ∷ ys) h r = absurd h.0
refused_clean s t a o xs (Phase.GiveUp (Some touch)) below h r = sole_clean o (Phase.GiveUp (Some touch) ∷ below) r
refused_clean s t a o xs (Phase.Frames v n) [] h r = evicting_clean o (Phase.Frames v n ∷ []) h.0
refused_clean s t a o xs (Phase.Frames v n) (y ∷ ys) h r = absurd h.0
refused_clean s t a o xs (Phase.Moves step v) [] h r = migration_clean o (Phase.Moves step v ∷ []) h.1.1.0
refused_clean s t a o xs (Phase.Moves step v) (y ∷ ys) h r = absurd h.0
refused_clean s t a o xs top below h r = no_test r
