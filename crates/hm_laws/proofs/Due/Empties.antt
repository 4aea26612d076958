-- A frame is emptied once all its pages are frozen: it is copied and committed, or kept.
use Rattle.std.proofs.Common.{◌≡◌, ℕ, ◌+◌, ◌*◌, ◌<◌, ◌⊎◌, inl, inr, Bool, true, false, ◌&&◌, ◌||◌, nat_lt, nat_le, if◌then◌else◌, is_none, Option, Some, None, List, [], ◌∷◌, refl, sym, ap, ◌∙◌, subst, arith}
use Rattle.std.specs.List.{list_any}
use Rattle.std.proofs.lemmas.Bool.Decides.{nat_tests}
use Rattle.std.proofs.lemmas.Option.{same_Some}
use Rattle.hm_base.specs.Pages.{one_page}
use Rattle.hm_base.specs.Program.{Program}
use Rattle.hm_base.specs.declared.PoolId.{PoolId}
use Rattle.hm_base.specs.declared.Frame.{Frame}
use Rattle.hm_base.specs.declared.Place.{Place}
use Rattle.hm_base.specs.declared.ops.Op.{Op}
use Rattle.hm_history.specs.Memory.Words.{same_pool, same_frame, is_frame, with_frame, names, names_directly, moving_frame}
use Rattle.hm_history.specs.Memory.Plain.{mirror_proc, mirror_dev}
use Rattle.hm_history.specs.Memory.Places.{lowest_free, lowest_direct}
use Rattle.hm_history.specs.Memory.Sequences.{seq_started}
use Rattle.hm_history.specs.Memory.Contents.{with_part_copied}
use Rattle.hm_history.specs.Memory.After.{After}
use Rattle.hm_history.specs.Kernel.Legal.{kept_for}
use Rattle.hm_history.specs.Kernel.Operation.{op_mirror, is_to_device, is_migration}
use Rattle.hm_history.specs.Kernel.Due.{start_entry, due_emptying}
use Rattle.hm_history.specs.declared.KeptAt.{KeptAt}
use Rattle.hm_history.specs.declared.KeptWhy.{KeptWhy}
use Rattle.hm_history.specs.declared.Kind.{Kind}
use Rattle.hm_history.specs.declared.phases.Migrating.{Migrating}
use Rattle.hm_history.specs.declared.phases.Phase.{Phase}
use Rattle.hm_history.specs.declared.phases.Next.TheVariants.{Do}
use Rattle.hm_laws.specs.Stood.{stood, is_moving}
use Rattle.hm_laws.specs.Past.{Past}
use Rattle.hm_laws.specs.Sound.{Sound}
use Rattle.hm_laws.specs.Allowed.{next, AllMoving, IsSource, IsFrozen, Allowed}
use Rattle.hm_laws.specs.Moves.{IsReturning}
use Rattle.hm_history.specs.Kernel.Stacks.{with_one_more, gives_up}
use Rattle.hm_laws.specs.Facts.{Is, of_system, No_guard, Locks_only, Sourced, Copying, Holds, under, facts, HoldsAll}
use Rattle.hm_laws.proofs.State.Search.{lowest_none}
use Rattle.hm_laws.proofs.Kept.Pools.{free_says}
use Rattle.hm_laws.proofs.Kept.Contents.{stood_else, commit_cases}
use Rattle.hm_laws.proofs.Kept.Frames.{names_stays, moving_names, names_moving}
use Rattle.hm_laws.proofs.Other.Frames.{frame_else, frame_here}
use Rattle.hm_laws.proofs.Due.Good.{Good, either_option}
use Rattle.hm_laws.proofs.Due.Guards.{started, start_takes}
use Rattle.hm_laws.proofs.Due.Decide.{taken_own}
use Rattle.hm_laws.proofs.Other.Cleared.{clear_take}
use Rattle.hm_laws.proofs.Own.WhileEmptying.{kept_on, under_on, under_counted, under_given_up, still_only, to_beneath}
use Rattle.hm_history.proofs.Tests.{true_false}
use Rattle.hm_history.proofs.Frames.{is_frame_of, frame_itself, frame_same}

listed_direct : (x : Place) (f : Frame) → names x ≡ Some f → is_frame (names_directly x) f ≡ false → is_moving x ≡ true
listed_direct Place.Empty f n d = cc
listed_direct Place.Zero f n d = cc
listed_direct (Place.Sys i w) f n d = absurd (true_false (is_frame (names_directly (Place.Sys i w)) f) (is_frame_of (names (Place.Sys i w)) f n) d)
listed_direct (Place.Own e i w) f n d = absurd (true_false (is_frame (names_directly (Place.Own e i w)) f) (is_frame_of (names (Place.Own e i w)) f n) d)
listed_direct (Place.Moving g w) f n d = refl
listed_direct (Place.Exclusive i b) f n d = absurd (true_false (is_frame (names_directly (Place.Exclusive i b)) f) (is_frame_of (names (Place.Exclusive i b)) f n) d)

pub all_moving : (c : Program) (s : After) (t : Past) (f : Frame) → Sound c s t → lowest_direct s.places f ≡ None → AllMoving s.places.place f
all_moving c s t f so e q u n = listed_direct (s.places.place q u) f n (lowest_none (λ i j. is_frame (names_directly (s.places.place i j)) f) s.places.placed q u e (so.places.listed q u (names_stays (s.places.place q u) f n)))

two_locks : (s : After) (a : ℕ) (f g : Frame) → ((i : Frame) → s.locks.frame i ≡ Some a → list_any (same_frame i) (f ∷ []) ≡ true) → (i : Frame) → with_frame s.locks.frame g (Some a) i ≡ Some a → list_any (same_frame i) (f ∷ g ∷ []) ≡ true
two_locks s a f g h i k = by (same_frame i g) refl (same_frame i f) (h i) k
  where
    by : (b : Bool) → same_frame i g ≡ b → (d : Bool) → (s.locks.frame i ≡ Some a → (d || false) ≡ true) → (if b then Some a else s.locks.frame i) ≡ Some a → (d || (b || false)) ≡ true
    by true e true m k = refl
    by true e false m k = refl
    by false e d m k = m k

-- the frame is still the actor's after it takes another
take_source : (c : Program) (s : After) (t : Past) (a : ℕ) (f g : Frame) → Sound c s t → s.places.held g ≡ false → IsSource s a f → IsSource (next s a (Kind.Take g)) a f
take_source c s t a f g so free h = record {
  mine = frame_else s.locks.frame g f (Some a) apart ∙ h.mine;
  fresh = frame_else s.places.committed_to g f None apart ∙ h.fresh;
  stood_by = λ q u n. h.stood_by q u (sym (stood_else s.places.committed_to g None (s.places.place q u) (λ e. true_false (s.places.held g) (so.frames.names_held q u g e) free)) ∙ n);
}
  where
    apart : f ≡ g → ⊥
    apart e = true_false (s.places.held g) (ap s.places.held (sym e) ∙ so.frames.locked_held f a h.mine) free

pub no_part : (o : ℕ) → o < 512 * 0 → ⊥
no_part o l = omega (arith, l)

pub alone_ok : (c : Program) (s : After) (t : Past) (a : ℕ) (o : Op) (xs : List Migrating) (f : Frame) (at : KeptAt) (below : List Phase) → a < 16 → Sound c s t → is_to_device o ≡ false → HoldsAll s t a (No_guard ∷ Locks_only (f ∷ []) ∷ Sourced f ∷ under o below) → Good c s t a o xs (Phase.Emptying f at) below (Do (due_emptying c s f at))
alone_ok c s t a o xs f at below few so dev h = either_option P (lowest_direct s.places f) _ _ emptied (λ x e. again x)
  where
    P : Kind → Type 0
    P = λ k. Good c s t a o xs (Phase.Emptying f at) below (Do k)

    again : (x : ℕ × ℕ) → P (start_entry s x.0 (one_page x.1))
    again x = (ok, tt, (started s a x.0 (one_page x.1) (seq_started s.sequences x.0 (one_page x.1)), (h.1.0, (refl, (frame_itself f, (h.1.1.0, under_on c s t a (start_entry s x.0 (one_page x.1)) so ok (record { clear = λ f h n. h; no_begin = refl; map = refl; there = λ p. refl; areas = λ p. refl }) o below (λ d j v n e i. cc) h.1.1.1))))))
      where
        ok : Allowed c s t a (start_entry s x.0 (one_page x.1))
        ok = (few, start_takes s a x.0 (one_page x.1) h.0)

    emptied : lowest_direct s.places f ≡ None → P (elim (lowest_free c s.places PoolId.System) [ Some g ↦ Kind.Take g | None ↦ Kind.Kept at KeptWhy.NoFrame ])
    emptied e = by (lowest_free c s.places PoolId.System) refl
      where
        kept : lowest_free c s.places PoolId.System ≡ None → (x : KeptAt) → kept_for c s a o xs (mirror_proc s.plain (op_mirror o)) x KeptWhy.NoFrame ≡ true
        kept n (KeptAt.Page v) = ap is_none (ap (λ b. lowest_free c s.places (elim b [ true ↦ PoolId.Device (mirror_dev s.plain (op_mirror o)) | false ↦ PoolId.System ])) dev ∙ n)
        kept n (KeptAt.Frame i) = ap is_none (ap (λ b. lowest_free c s.places (elim b [ true ↦ PoolId.Device (mirror_dev s.plain (op_mirror o)) | false ↦ PoolId.System ])) dev ∙ n)

        by : (x : Option Frame) → lowest_free c s.places PoolId.System ≡ x → P (elim x [ Some g ↦ Kind.Take g | None ↦ Kind.Kept at KeptWhy.NoFrame ])
        by None n = (tt, kept n at, (h.0, (still_only (next s a (Kind.Kept at KeptWhy.NoFrame)) t a o xs (f ∷ []) (gives_up o below) rest h.1.0, (h.1.1.0, (kept_on s t a o below h.1.1.1, to_beneath (next s a (Kind.Kept at KeptWhy.NoFrame)) t a o xs (f ∷ []) (gives_up o below) rest)))))
          where
            rest : HoldsAll (next s a (Kind.Kept at KeptWhy.NoFrame)) t a (under o (gives_up o below))
            rest = under_given_up (next s a (Kind.Kept at KeptWhy.NoFrame)) t a o below (under_on c s t a (Kind.Kept at KeptWhy.NoFrame) so tt (record { clear = λ f h n. h; no_begin = refl; map = refl; there = λ p. refl; areas = λ p. refl }) o below (λ d j v n e i. cc) h.1.1.1)
        by (Some g) n = (free, tt, (frame_itself f, (frame_itself g, (refl, (h.0, (two_locks s a f g h.1.0, ((moved, taken_own c s t a g so out, (λ i l m. absurd (no_part i m)), apart), (ap (λ x. same_pool x PoolId.System) (free_says c s.places PoolId.System g n).0, under_on c s t a (Kind.Take g) so free (record { clear = λ i y z. clear_take s a g i y; no_begin = refl; map = refl; there = λ p. refl; areas = λ p. refl }) o below (λ d j v n e i. cc) h.1.1.1))))))))
          where
            free : lowest_free c s.places g.pool ≡ Some g
            free = subst (λ i. lowest_free c s.places i ≡ Some g) (sym (free_says c s.places PoolId.System g n).0) n

            out : s.places.held g ≡ false
            out = (free_says c s.places PoolId.System g n).1

            apart : f ≡ g → ⊥
            apart i = true_false (s.places.held g) (ap s.places.held (sym i) ∙ so.frames.locked_held f a h.1.1.0.mine) out

            moved : IsFrozen (next s a (Kind.Take g)) a f
            moved = (take_source c s t a f g so out h.1.1.0, all_moving c s t f so e)

-- an eighth is copied
part_copied : (from to new : ℕ → ℕ) (k : ℕ) → ((o : ℕ) → o < 4096 → o < 512 * k → to o ≡ from o) → ((o : ℕ) → new o ≡ (if nat_le (512 * k) o && nat_lt o (512 * k + 512) then from o else to o)) → (o : ℕ) → o < 4096 → o < 512 * (k + 1) → new o ≡ from o
part_copied from to new k h e o l m = e o ∙ by (nat_le (512 * k) o && nat_lt o (512 * k + 512)) refl
  where
    before : (nat_le (512 * k) o && nat_lt o (512 * k + 512)) ≡ false → o < 512 * k
    before i = grind (arith, nat_tests)

    by : (b : Bool) → (nat_le (512 * k) o && nat_lt o (512 * k + 512)) ≡ b → (if b then from o else to o) ≡ from o
    by true i = refl
    by false i = h o l (before i)

pub copying_on : (s : After) (t : Past) (a : ℕ) (i j : Frame) (k : ℕ) → Holds s t a (Copying i j k) → Holds (next s a (Kind.Copied i j (Some k))) t a (Copying i j (k + 1))
copying_on s t a i j k h = (h.0, h.1, (λ o l m. part_copied (s.contents i) (s.contents j) (with_frame s.contents j (with_part_copied (s.contents i) (s.contents j) (Some k)) j) k h.2 (λ o. ap (λ (f : ℕ → ℕ). f o) (frame_here s.contents j (with_part_copied (s.contents i) (s.contents j) (Some k)))) o l m ∙ sym (ap (λ (f : ℕ → ℕ). f o) (frame_else s.contents j i (with_part_copied (s.contents i) (s.contents j) (Some k)) h.3))), h.3)

pub copy_ok : (c : Program) (s : After) (t : Past) (a : ℕ) (o : Op) (xs : List Migrating) (f g i j : Frame) (k : ℕ) (below : List Phase) → Sound c s t → HoldsAll s t a (Is (same_frame f i) ∷ Is (same_frame g j) ∷ Is (nat_le k 7) ∷ No_guard ∷ Locks_only (i ∷ j ∷ []) ∷ Copying i j k ∷ Is (of_system j) ∷ under o below) →
    Good c s t a o xs (Phase.Copy f g k) (Phase.Copied i j ∷ below) (Do (Kind.Copied f g (Some k)))
copy_ok c s t a o xs f g i j k below so h = subst (λ z. Good c s t a o xs (Phase.Copy z g k) (Phase.Copied i j ∷ below) (Do (Kind.Copied z g (Some k)))) (sym (frame_same f i h.0)) (subst (λ z. Good c s t a o xs (Phase.Copy i z k) (Phase.Copied i j ∷ below) (Do (Kind.Copied i z (Some k)))) (sym (frame_same g j h.1.0)) (h.1.1.1.1.1.0.1.0, (so.frames.locked_held i a h.1.1.1.1.1.0.0.0.mine, h.1.1.1.1.1.0.3, few h.1.1.0), by (nat_lt k 7) refl))
  where
    moved : HoldsAll (next s a (Kind.Copied i j (Some k))) t a (under o below)
    moved = under_on c s t a (Kind.Copied i j (Some k)) so h.1.1.1.1.1.0.1.0 (record { clear = λ f h n. h; no_begin = refl; map = refl; there = λ p. refl; areas = λ p. refl }) o below (λ d j v n e i. cc) h.1.1.1.1.1.1.1

    more : nat_lt k 7 ≡ true → nat_le (k + 1) 7 ≡ true
    more e = grind (arith, nat_tests)

    few : nat_le k 7 ≡ true → k < 8
    few e = grind (arith, nat_tests)

    last : nat_lt k 7 ≡ false → nat_le k 7 ≡ true → k + 1 ≡ 8
    last e l = grind (arith, nat_tests)

    by : (b : Bool) → nat_lt k 7 ≡ b → HoldsAll (next s a (Kind.Copied i j (Some k))) t a (facts o xs (if b then Phase.Copy i j (k + 1) ∷ Phase.Copied i j ∷ below else (Phase.Copied i j ∷ below)))
    by true e = (frame_itself i, (frame_itself j, (more e, (h.1.1.1.0, (h.1.1.1.1.0, (copying_on s t a i j k h.1.1.1.1.1.0, (h.1.1.1.1.1.1.0, moved)))))))
    by false e = (h.1.1.1.0, (h.1.1.1.1.0, (subst (λ n. Holds (next s a (Kind.Copied i j (Some k))) t a (Copying i j n)) (last e h.1.1.0) (copying_on s t a i j k h.1.1.1.1.1.0), (h.1.1.1.1.1.1.0, moved))))

-- and committed
pub committed : (s : After) (t : Past) (a : ℕ) (f g : Frame) → Holds s t a (Copying f g 8) → IsReturning (next s a (Kind.Committed f g)) a f g
committed s t a f g h = record {
  mine = h.0.0.mine;
  moved = frame_here s.places.committed_to f (Some g);
  frozen = h.0.1;
  unstood = λ q u n. none q u n (commit_cases s.places.committed_to f g (s.places.place q u));
  dest = h.1.0.mine;
  fresh = frame_else s.places.committed_to f g (Some g) (λ e. h.3 (sym e)) ∙ h.1.1;
  lands = λ q u m. h.1.0.unnamed q u (moving_names (s.places.place q u) g m).0;
  stood_by = λ q u n. there q u n (commit_cases s.places.committed_to f g (s.places.place q u));
}
  where
    none : (q u : ℕ) → stood (with_frame s.places.committed_to f (Some g)) (s.places.place q u) ≡ Some f → ((moving_frame (s.places.place q u) ≡ Some f) × (stood (with_frame s.places.committed_to f (Some g)) (s.places.place q u) ≡ Some g)) ⊎ ((moving_frame (s.places.place q u) ≡ Some f → ⊥) × (stood (with_frame s.places.committed_to f (Some g)) (s.places.place q u) ≡ stood s.places.committed_to (s.places.place q u))) → ⊥
    none q u n (inl e) = h.3 (same_Some f g (sym n ∙ e.1))
    none q u n (inr e) = let k : names (s.places.place q u) ≡ Some f = h.0.0.stood_by q u (sym e.1 ∙ n) in e.0 (names_moving (s.places.place q u) f k (h.0.1 q u k))

    there : (q u : ℕ) → stood (with_frame s.places.committed_to f (Some g)) (s.places.place q u) ≡ Some g → ((moving_frame (s.places.place q u) ≡ Some f) × (stood (with_frame s.places.committed_to f (Some g)) (s.places.place q u) ≡ Some g)) ⊎ ((moving_frame (s.places.place q u) ≡ Some f → ⊥) × (stood (with_frame s.places.committed_to f (Some g)) (s.places.place q u) ≡ stood s.places.committed_to (s.places.place q u))) →
        (moving_frame (s.places.place q u) ≡ Some f) ⊎ (names_directly (s.places.place q u) ≡ Some g)
    there q u n (inl e) = inl e.0
    there q u n (inr e) = absurd (h.1.0.unstood q u (sym e.1 ∙ n))

pub all_parts : (o : ℕ) → o < 4096 → o < 512 * 8
all_parts o l = omega (arith, l)

pub copied_ok : (c : Program) (s : After) (t : Past) (a : ℕ) (o : Op) (xs : List Migrating) (f g : Frame) (below : List Phase) → Sound c s t → HoldsAll s t a (No_guard ∷ Locks_only (f ∷ g ∷ []) ∷ Copying f g 8 ∷ Is (of_system g) ∷ under o below) → Good c s t a o xs (Phase.Copied f g) below (Do (Kind.Committed f g))
copied_ok c s t a o xs f g below so h = (ok, tt, (h.0, (still_only (next s a (Kind.Committed f g)) t a o xs (f ∷ g ∷ []) (with_one_more below) rest h.1.0, (committed s t a f g h.1.1.0, (returns (of_system g) h.1.1.1.0, to_beneath (next s a (Kind.Committed f g)) t a o xs (f ∷ g ∷ []) (with_one_more below) rest)))))
  where
    ok : Allowed c s t a (Kind.Committed f g)
    ok = (h.1.1.0.0, h.1.1.0.1, λ i l. h.1.1.0.2 i l (all_parts i l))

    returns : (b : Bool) → b ≡ true → (b || is_migration o) ≡ true
    returns true e = refl
    returns false e = cc

    rest : HoldsAll (next s a (Kind.Committed f g)) t a (under o (with_one_more below))
    rest = under_counted s (next s a (Kind.Committed f g)) t a o below refl h.1.1.1.1 (under_on c s t a (Kind.Committed f g) so ok (record { clear = λ f h n. h; no_begin = refl; map = refl; there = λ p. refl; areas = λ p. refl }) o below (λ d j v n e i. cc) h.1.1.1.1)
