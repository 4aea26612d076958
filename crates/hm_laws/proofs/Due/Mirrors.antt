-- Mirrors come, go, and look at their process.
use Rattle.std.proofs.Common.{◌≡◌, ℕ, ◌<◌, inl, inr, Bool, true, false, ◌&&◌, ◌||◌, nat_lt, not, is_some, is_none, Option, Some, None, List, [], ◌∷◌, refl, sym, ap, ◌∙◌, subst, arith}
use Rattle.std.proofs.lemmas.Bool.Decides.{nat_tests}
use Rattle.std.proofs.lemmas.Bool.{and_from, or_right, or_left}
use Rattle.hm_base.specs.Pages.{Pages, lies_in}
use Rattle.hm_base.specs.Areas.{last_of}
use Rattle.hm_base.specs.Program.{Program, op_fits}
use Rattle.hm_base.specs.declared.cause.Cause.{Cause}
use Rattle.hm_base.specs.declared.ops.Op.{Op}
use Rattle.hm_history.specs.Memory.Plain.{MirrorState, Attachment, Attached, Detaching, Gone, is_attached_state, is_detaching_state, mirror_passes, is_attached, in_window, mirror_proc, with_attachment}
use Rattle.hm_history.specs.Memory.Sequences.{Interval, Stage, InTree, InsertDeferred, RemoveDeferred, Removed, Out, is_odd, in_tree, in_tree_state, removed_state, insert_deferred, deferred_state, interval_passes, interval_proc, interval_inserted, sequences_accept}
use Rattle.hm_history.specs.Memory.Locks.{writer}
use Rattle.hm_history.specs.Memory.After.{After}
use Rattle.hm_history.specs.Kernel.Due.{process_seq, due_attach, due_detach, due_detaching, due_pages, in_window_rlock}
use Rattle.hm_history.specs.declared.Who.{Who}
use Rattle.hm_history.specs.declared.Kind.{Kind}
use Rattle.hm_history.specs.declared.phases.Migrating.{Migrating}
use Rattle.hm_history.specs.declared.phases.Phase.{Phase}
use Rattle.hm_history.specs.declared.phases.Next.{Next}
use Rattle.hm_history.specs.declared.phases.Next.TheVariants.{Do}
use Rattle.hm_laws.specs.Stood.{lock_on}
use Rattle.hm_laws.specs.Past.{Past}
use Rattle.hm_laws.specs.Sound.{stands_so, Sound}
use Rattle.hm_laws.specs.Allowed.{MayRelease}
use Rattle.hm_laws.specs.Facts.{Is, Read_locked, No_guard, Locks_only, Leaving, nothing_held, HoldsAll}
use Rattle.hm_laws.proofs.State.MirrorInterval.{Mirrored, mirrored, same_proc}
use Rattle.hm_laws.proofs.Due.Guards.{number_is}
use Rattle.hm_laws.proofs.Due.Good.{Good, either, either_option, release_none, no_writer, one_right, not_short}
use Rattle.hm_history.proofs.Updates.{here_at}

-- a mirror comes
few_mirrors : (n m d p : ℕ) (r : Pages) → op_fits n (Op.Attach m d p r) ≡ true → m < 32
few_mirrors n m d p r h = grind (arith, nat_tests)

never_attached : {X : Type 0} (x : Option X) → is_some x ≡ false → is_none x ≡ true
never_attached x h = grind arith

pub attach_ok : (c : Program) (s : After) (t : Past) (a n m d p : ℕ) (r : Pages) (xs : List Migrating) → op_fits n (Op.Attach m d p r) ≡ true → HoldsAll s t a nothing_held → Good c s t a (Op.Attach m d p r) xs Phase.Begin [] (Do (due_attach s m d p r))
attach_ok c s t a n m d p r xs fits h = either P (is_some (s.plain.mirrors m)) _ _
    (λ e. (release_none s a h.0, not_short c s Cause.MirrorTaken refl, (here_at s.locks.map a None, h.1)))
    (λ e. either P (s.plain.there p) _ _
    (λ th. ((few_mirrors n m d p r fits, and_from (s.plain.there p) (is_none (s.plain.mirrors m)) th (never_attached (s.plain.mirrors m) e), number_is (interval_inserted s.sequences p) (interval_inserted s.sequences p) refl), tt, h))
    (λ th. (release_none s a h.0, not_short c s Cause.NoProcess refl, (here_at s.locks.map a None, h.1))))
  where
    P : Kind → Type 0
    P = λ k. Good c s t a (Op.Attach m d p r) xs Phase.Begin [] (Do k)

-- the interval of a mirror that is attached, or detaching
attached_stage : (x : Attachment) (y : Stage) → stands_so x y ≡ true → elim x [ Attached ↦ true | Detaching ↦ false | Gone ↦ false ] ≡ true → (in_tree_state y || deferred_state y) ≡ true
attached_stage Attached InTree h k = refl
attached_stage Attached InsertDeferred h k = refl
attached_stage Attached RemoveDeferred h k = cc
attached_stage Attached Removed h k = cc
attached_stage Attached Out h k = cc
attached_stage Detaching y h k = cc
attached_stage Gone y h k = cc

detaching_stage : (x : Attachment) (y : Stage) → stands_so x y ≡ true → elim x [ Attached ↦ false | Detaching ↦ true | Gone ↦ false ] ≡ true → in_tree_state y ≡ false → removed_state y ≡ true
detaching_stage Detaching InTree h k i = cc
detaching_stage Detaching InsertDeferred h k i = cc
detaching_stage Detaching RemoveDeferred h k i = cc
detaching_stage Detaching Removed h k i = refl
detaching_stage Detaching Out h k i = cc
detaching_stage Attached y h k i = cc
detaching_stage Gone y h k i = cc

passes_at : (test : Interval → Bool) (x : Option Interval) (y : Interval) → x ≡ Some y → interval_passes test x ≡ test y
passes_at test x y e = rw e refl

-- an attached mirror leaves the tree, or begins to
in_or_deferred : (s : After) (m : ℕ) → Mirrored s m is_attached_state → (in_tree s.sequences m || insert_deferred s.sequences m) ≡ true
in_or_deferred s m h = subst (λ x. (interval_passes (λ y. in_tree_state y.stage) x || interval_passes (λ y. deferred_state y.stage) x) ≡ true) (sym h.is_interval) (attached_stage h.mirror.stage h.interval.stage h.paired.stage h.passes)

may_leave : (inside odd deferred removed : Bool) → (inside || deferred) ≡ true → (not odd || deferred) ≡ true → (deferred || (inside && not odd || removed)) ≡ true
may_leave inside odd deferred removed h k = grind arith

is_leaving : (inside odd deferred : Bool) → (inside || deferred) ≡ true → (not odd || deferred) ≡ false → (odd ≡ true) × (inside ≡ true)
is_leaving inside odd deferred h k = (grind arith, grind arith)

detaches : (x : Option MirrorState) → mirror_passes is_attached_state x ≡ true → mirror_passes is_detaching_state (with_attachment Detaching x) ≡ true
detaches None h = cc
detaches (Some y) h = refl

pub detach_ok : (c : Program) (s : After) (t : Past) (a m : ℕ) (xs : List Migrating) → Sound c s t → HoldsAll s t a nothing_held → Good c s t a (Op.Detach m) xs Phase.Begin [] (Do (due_detach s m))
detach_ok c s t a m xs so h = either P (is_attached s.plain m) _ _
    (λ at. leaves at (mirrored c s t m is_attached_state so at))
    (λ e. (release_none s a h.0, not_short c s Cause.Outside refl, (here_at s.locks.map a None, h.1)))
  where
    P : Kind → Type 0
    P = λ k. Good c s t a (Op.Detach m) xs Phase.Begin [] (Do k)

    leaves : is_attached s.plain m ≡ true → Mirrored s m is_attached_state → P (elim (not (is_odd (process_seq s m)) || insert_deferred s.sequences m) [ true ↦ Kind.Detached m | false ↦ Kind.Detaching m (process_seq s m) ])
    leaves at mi = either P (not (is_odd (process_seq s m)) || insert_deferred s.sequences m) _ _
        (λ e. ((or_left (is_attached s.plain m) _ at, gone e, inl at), tt, h))
        (λ e. ((at, goes e), tt, (refl, ((here_at t.leaver m (Some a), ap (mirror_passes is_detaching_state) (here_at s.plain.mirrors m _) ∙ detaches (s.plain.mirrors m) at), h))))
      where
        seq_is : s.sequences.seq (interval_proc s.sequences m) ≡ process_seq s m
        seq_is = ap s.sequences.seq (same_proc s m is_attached_state mi)

        gone : (not (is_odd (process_seq s m)) || insert_deferred s.sequences m) ≡ true → sequences_accept s.sequences a (Kind.Detached m) ≡ true
        gone e = may_leave (in_tree s.sequences m) (is_odd (s.sequences.seq (interval_proc s.sequences m))) (insert_deferred s.sequences m) _ (in_or_deferred s m mi) (ap (λ i. not (is_odd i) || insert_deferred s.sequences m) seq_is ∙ e)

        goes : (not (is_odd (process_seq s m)) || insert_deferred s.sequences m) ≡ false → sequences_accept s.sequences a (Kind.Detaching m (process_seq s m)) ≡ true
        goes e = let k = is_leaving (in_tree s.sequences m) (is_odd (process_seq s m)) (insert_deferred s.sequences m) (in_or_deferred s m mi) e in
            and_from (is_odd (s.sequences.seq (interval_proc s.sequences m))) _ (ap is_odd seq_is ∙ k.0) (and_from (in_tree s.sequences m) _ k.1 (number_is (process_seq s m) (s.sequences.seq (interval_proc s.sequences m)) (sym seq_is)))

-- the deferred removal was made
pub detaching_ok : (c : Program) (s : After) (t : Past) (a m q : ℕ) (xs : List Migrating) → Sound c s t → HoldsAll s t a (Is true ∷ Leaving m ∷ nothing_held) → Good c s t a (Op.Detach m) xs (Phase.Detaching q) [] (due_detaching s m q)
detaching_ok c s t a m q xs so h = either P (in_tree s.sequences m) _ _
    (λ e. tt)
    (λ e. ((or_right (is_attached s.plain m) _ h.1.0.1, removed e (mirrored c s t m is_detaching_state so h.1.0.1), inr h.1.0.0), tt, h.1.1))
  where
    P : Next → Type 0
    P = Good c s t a (Op.Detach m) xs (Phase.Detaching q) []

    removed : in_tree s.sequences m ≡ false → Mirrored s m is_detaching_state → sequences_accept s.sequences a (Kind.Detached m) ≡ true
    removed e mi = or_right (insert_deferred s.sequences m) _ (or_right (in_tree s.sequences m && _) _ (passes_at (λ x. removed_state x.stage) (s.sequences.interval m) mi.interval mi.is_interval
        ∙ detaching_stage mi.mirror.stage mi.interval.stage mi.paired.stage mi.passes (sym (passes_at (λ x. in_tree_state x.stage) (s.sequences.interval m) mi.interval mi.is_interval) ∙ e)))

-- the mirror's process is locked for reading
pub release_locked : (s : After) (a p : ℕ) → s.locks.map a ≡ lock_on p false → MayRelease s a
release_locked s a p h q e = absurd (one_right p q (sym h ∙ e))

pub window_some : (x : Option MirrorState) (r : Pages) → mirror_passes (λ y. is_attached_state y && lies_in r y.window) x ≡ true → is_some x ≡ true
window_some None r h = cc
window_some (Some x) r h = refl

pub snap_begin_ok : (c : Program) (s : After) (t : Past) (a m : ℕ) (r : Pages) (xs : List Migrating) → a < 16 → Sound c s t → HoldsAll s t a nothing_held → Good c s t a (Op.Snap m r) xs Phase.Begin [] (in_window_rlock s m r)
snap_begin_ok c s t a m r xs few so h = either P (in_window s.plain m r) _ _
    (λ w. either_option P (writer s.locks (mirror_proc s.plain m)) _ _ (λ n. ((few, h.0, no_writer s (mirror_proc s.plain m) so.locks n), tt, (refl, ((window_some (s.plain.mirrors m) r w, here_at s.locks.map a _), h.1)))) (λ b n. tt))
    (λ w. (release_none s a h.0, not_short c s Cause.Outside refl, (here_at s.locks.map a None, h.1)))
  where
    P : Next → Type 0
    P = Good c s t a (Op.Snap m r) xs Phase.Begin []

pub snap_ok : (c : Program) (s : After) (t : Past) (a m v : ℕ) (r : Pages) (xs : List Migrating) → HoldsAll s t a (Is true ∷ Read_locked (Who.Mirror m) ∷ No_guard ∷ Locks_only [] ∷ []) → Good c s t a (Op.Snap m r) xs (Phase.Pages v) [] (Do (due_pages s (Op.Snap m r) v))
snap_ok c s t a m v r xs h = either P (nat_lt v (last_of r)) _ _
    (λ e. (tt, tt, h))
    (λ e. (release_locked s a (mirror_proc s.plain m) h.1.0.1, tt, (here_at s.locks.map a None, h.1.1)))
  where
    P : Kind → Type 0
    P = λ k. Good c s t a (Op.Snap m r) xs (Phase.Pages v) [] (Do k)
