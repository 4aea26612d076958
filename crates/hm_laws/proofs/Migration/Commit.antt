-- A page of a migration is committed to its new frame; one that was untouched is to get that in a guard, or is lost
-- (`migrate_vma_pages`, mm/migrate_device.c).
use Rattle.std.proofs.Common.{◌≡◌, ℕ, ◌+◌, ◌<◌, inl, inr, Bool, true, false, not, ◌&&◌, Option, Some, None, List, [], ◌∷◌, refl, sym, ap, subst, arith}
use Rattle.std.specs.List.{list_any}
use Rattle.std.proofs.lemmas.Bool.{and_from}
use Rattle.hm_base.specs.Pages.{one_page}
use Rattle.hm_base.specs.Program.{Program}
use Rattle.hm_base.specs.declared.Frame.{Frame}
use Rattle.hm_base.specs.declared.ops.Op.{Op}
use Rattle.hm_history.specs.Memory.Words.{same_frame}
use Rattle.hm_history.specs.Memory.Plain.{mirror_proc}
use Rattle.hm_history.specs.Memory.Sequences.{seq_started, some_overlap}
use Rattle.hm_history.specs.Memory.After.{After}
use Rattle.hm_history.specs.Kernel.Operation.{op_mirror}
use Rattle.hm_history.specs.Kernel.Stacks.{next_cursor}
use Rattle.hm_history.specs.Kernel.Going.{with_record}
use Rattle.hm_history.specs.Kernel.Due.{start_entry, commit_page, due_step, has_no_frame}
use Rattle.hm_history.specs.declared.Who.{Who}
use Rattle.hm_history.specs.declared.KeptAt.{KeptAt}
use Rattle.hm_history.specs.declared.KeptWhy.{KeptWhy}
use Rattle.hm_history.specs.declared.Kind.{Kind}
use Rattle.hm_history.specs.declared.phases.Migrating.{Migrating}
use Rattle.hm_history.specs.declared.phases.MoveStep.{MoveStep}
use Rattle.hm_history.specs.declared.phases.MoveStep.TheVariants.{Commit}
use Rattle.hm_history.specs.declared.phases.Body.{Body}
use Rattle.hm_history.specs.declared.phases.Phase.{Phase}
use Rattle.hm_laws.specs.Past.{Past, past_next}
use Rattle.hm_laws.specs.Sound.{Sound}
use Rattle.hm_laws.specs.Allowed.{next, Allowed}
use Rattle.hm_laws.specs.Records.{is_of, staged, apart_from, WellListed}
use Rattle.hm_laws.specs.Facts.{No_guard, Read_locked, Locks_only, facts_past, frames_of, record_facts, records, held, migrating, Holds, facts, HoldsAll}
use Rattle.hm_laws.specs.Spares.{Apart}
use Rattle.hm_history.specs.Kernel.Legal.{was_fresh}
use Rattle.hm_laws.proofs.Due.Good.{either}
use Rattle.hm_laws.proofs.Due.Guards.{started, start_takes}
use Rattle.hm_laws.proofs.Due.Empties.{committed, all_parts}
use Rattle.hm_laws.proofs.Own.Facts.{Keeping}
use Rattle.hm_laws.proofs.Migration.Good.{Came, Steps}
use Rattle.hm_laws.proofs.Migration.Records.{records_each, record_same, held_of, listed_with, fresh_has, fresh_was}
use Rattle.hm_laws.proofs.Migration.PagePast.{Renewed, unchanged, renewed, apart_others, records_past, locked_past, not_held, stage_says, stage_of, not_before, now_before}
use Rattle.hm_history.proofs.Tests.{true_false}
use Rattle.hm_history.proofs.Frames.{frame_tells}

-- what is known of the record that the step has come to, and after that
came_facts : (s : After) (t : Past) (a : ℕ) (o : Op) (xs : List Migrating) (x : Migrating) → Came s t a o xs Commit x → HoldsAll s t a (facts_past o true true false false None x)
came_facts s t a o xs x h = subst (λ b. HoldsAll s t a (facts_past o true true b false None x)) (not_before x.page) (records_each s t a o Commit x.page None xs h.knows.1.1.1 x h.among)

past_facts : (s : After) (t : Past) (a : ℕ) (o : Op) (v : ℕ) (x : Migrating) → x.page ≡ v → HoldsAll s t a (facts_past o true true true false None x) → HoldsAll s t a (record_facts o Commit (v + 1) None x)
past_facts s t a o v x e h = subst (λ u. HoldsAll s t a (record_facts o Commit (u + 1) None x)) e (subst (λ b. HoldsAll s t a (facts_past o true true b false None x)) (sym (now_before x.page)) h)

same_after : (o : Op) (v : ℕ) (y : Migrating) → (y.page ≡ v → ⊥) → record_facts o Commit (v + 1) None y ≡ record_facts o Commit v None y
same_after o v y ne = record_same o Commit v None y ne

-- a page with an old frame
abbrev pair_record : ℕ → Frame → Frame → Bool → Migrating
pair_record u f g moved = record { page = u; source = Some f; dest = Some g; moved = moved }

pair_frames : (o : Op) (u : ℕ) (f g i : Frame) → list_any (same_frame i) (frames_of (record_facts o Commit u None (pair_record u f g false))) ≡ true → list_any (same_frame i) (frames_of (record_facts o Commit (u + 1) None (pair_record u f g true))) ≡ true
pair_frames o u f g i h = subst (λ b. list_any (same_frame i) (frames_of (facts_past o true true b false None (pair_record u f g true))) ≡ true) (sym (now_before u)) (subst (λ b. list_any (same_frame i) (frames_of (facts_past o true true b false None (pair_record u f g false))) ≡ true) (not_before u) h)

of_first : (u : ℕ) (f g : Frame) (moved : Bool) → is_of (pair_record u f g moved) f ≡ true
of_first u f g moved = grind (arith, frame_tells f f)

of_second : (u : ℕ) (f g : Frame) (moved : Bool) → is_of (pair_record u f g moved) g ≡ true
of_second u f g moved = grind (arith, frame_tells g g)

commit_steps : (c : Program) (s : After) (t : Past) (a : ℕ) (o : Op) (xs : List Migrating) (u : ℕ) (f g : Frame) (step : MoveStep) (v : ℕ) → Sound c s t → Holds s t a No_guard → Came s t a o xs Commit (pair_record u f g false) → Steps c s t a o xs step v (Some (pair_record u f g false)) (Kind.Committed f g)
commit_steps c s t a o xs u f g step v so n h = (ok, tt, (n, (locks, (h.knows.0, (listed, (h.knows.1.1.0, rest))))))
  where
    x : Migrating
    x = pair_record u f g false

    z : Migrating
    z = pair_record u f g true

    k : HoldsAll s t a (facts_past o true true false false None (pair_record u f g false))
    k = came_facts s t a o xs (pair_record u f g false) h

    w : WellListed xs
    w = h.knows.1.0

    r : Renewed xs (with_record (pair_record u f g true) xs) (pair_record u f g false) (pair_record u f g true)
    r = renewed xs (pair_record u f g false) (pair_record u f g true) w h.among refl

    ok : Allowed c s t a (Kind.Committed f g)
    ok = (k.1.1.0.0, k.1.1.0.1, λ i l. k.1.1.0.2 i l (all_parts i l))

    listed : WellListed (with_record (pair_record u f g true) xs)
    listed = listed_with xs z x w h.among refl (λ i m. inl m) (λ i e d. w.own x i h.among e d)

    locks : Holds (next s a (Kind.Committed f g)) t a (Locks_only (held o (with_record (pair_record u f g true) xs) Commit (u + 1) None))
    locks = locked_past s t a o Commit u Commit (u + 1) xs (with_record z xs) x z [] r (same_after o u) h.locks (λ i e. inr (held_of o Commit (u + 1) None (with_record z xs) i z r.now (pair_frames o u f g i e)))

    rest : HoldsAll (next s a (Kind.Committed f g)) t a (records o Commit (u + 1) None (with_record (pair_record u f g true) xs))
    rest = records_past c s t a (Kind.Committed f g) so ok (record { map = refl; there = λ p. refl; areas = λ p. refl }) o Commit u Commit (u + 1) xs (with_record z xs) x z r (same_after o u)
        (λ y i ne j m. (apart_others o Commit u None xs x y j f w h.among i ne (of_first u f g false) m, apart_others o Commit u None xs x y j g w h.among i ne (of_second u f g false) m))
        h.knows.1.1.1 (past_facts (next s a (Kind.Committed f g)) t a o u z refl (refl, (k.1.0, (committed s t a f g k.1.1.0, (k.1.1.1.0, (k.1.1.1.1.0, tt))))))

-- an untouched page: its new frame is none of those that the records still have locked
abbrev fresh_record : ℕ → Frame → Migrating
fresh_record u g = record { page = u; source = None; dest = Some g; moved = false }

fresh_locks : (s : After) (t : Past) (a : ℕ) (o : Op) (xs : List Migrating) (u : ℕ) (g : Frame) → Came s t a o xs Commit (fresh_record u g) → Holds s t a (Locks_only (g ∷ held o xs Commit (u + 1) None))
fresh_locks s t a o xs u g h = locked_past s t a o Commit u Commit (u + 1) xs xs (fresh_record u g) (fresh_record u g) (g ∷ []) (unchanged xs (fresh_record u g) h.knows.1.0 h.among) (same_after o u) h.locks
    (λ f e. inl (subst (λ b. list_any (same_frame f) (frames_of (facts_past o true true b false None (fresh_record u g))) ≡ true) (not_before u) e))

fresh_apart : (s : After) (t : Past) (a : ℕ) (o : Op) (xs : List Migrating) (u : ℕ) (g : Frame) → Came s t a o xs Commit (fresh_record u g) → apart_from (g ∷ []) (held o xs Commit (u + 1) None) ≡ true
fresh_apart s t a o xs u g h = ap (λ b. not b && true) (not_held o Commit (u + 1) xs (fresh_record u g) g h.knows.1.0 h.among (grind (arith, frame_tells g g)) (subst (λ b. list_any (same_frame g) (frames_of (facts_past o true true b false None (fresh_record u g))) ≡ true → ⊥) (sym (now_before u)) (λ m. cc)))

fresh_staged : (o : Op) (u : ℕ) (g : Frame) → staged o true false (fresh_record u g) ≡ true → staged o true true (fresh_record u g) ≡ true
fresh_staged o u g h = stage_of o true true (fresh_record u g) (record { device = (stage_says o true false (fresh_record u g) h).device; taken = refl; committed = refl; passed = refl })

fresh_past : (c : Program) (s : After) (t : Past) (a : ℕ) (o : Op) (xs : List Migrating) (u : ℕ) (g : Frame) (k : Kind) → Sound c s t → Allowed c s t a k → Keeping s a k → Came s t a o xs Commit (fresh_record u g) → ((f : Frame) → Apart s k f) → HoldsAll (next s a k) (past_next t s.length a k) a (record_facts o Commit (u + 1) None (fresh_record u g)) →
    Holds (next s a k) (past_next t s.length a k) a (Read_locked (Who.Mirror (op_mirror o))) → HoldsAll (next s a k) (past_next t s.length a k) a (migrating o xs Commit (u + 1) None)
fresh_past c s t a o xs u g k so ok st h apart new lock = (h.knows.0, (h.knows.1.0, (lock, records_past c s t a k so ok st o Commit u Commit (u + 1) xs xs (fresh_record u g) (fresh_record u g) (unchanged xs (fresh_record u g) h.knows.1.0 h.among) (same_after o u) (λ y i ne f m. apart f) h.knows.1.1.1 new)))

start_steps : (c : Program) (s : After) (t : Past) (a : ℕ) (o : Op) (xs : List Migrating) (u : ℕ) (g : Frame) (step : MoveStep) (v : ℕ) → a < 16 → Sound c s t → Holds s t a No_guard → ((u : ℕ) → next_cursor step u ≡ Phase.Moves Commit (u + 1)) → Came s t a o xs Commit (fresh_record u g) →
    Steps c s t a o xs step v (Some (fresh_record u g)) (start_entry s (mirror_proc s.plain (op_mirror o)) (one_page u))
start_steps c s t a o xs u g step v few so n e h = (
  ok,
  tt,
  subst (λ b. HoldsAll (next s a k) t a (facts o xs (Phase.Guard p (one_page u) (some_overlap s.sequences p (one_page u)) None (Body.Fresh g) ∷ b ∷ []))) (sym (e u)) (
    started s a p (one_page u) (seq_started s.sequences p (one_page u)),
    (
      fresh_locks s t a o xs u g h,
      (
        fresh_apart s t a o xs u g h,
        (
          refl,
          (
            now_before u,
            (
              fresh_has u g xs (fresh_record u g) h.among refl refl refl refl,
              ((h.knows.1.1.0.0, refl, refl), (z.1.1.0, (z.1.1.1.0, (z.1.1.1.1.0, fresh_past c s t a o xs u g k so ok (record { map = refl; there = λ p. refl; areas = λ p. refl }) h (λ f. tt) (past_facts (next s a k) t a o u (fresh_record u g) refl (fresh_staged o u g z.0, (z.1.0, tt))) h.knows.1.1.0)))),
            ),
          ),
        ),
      ),
    ),
  ),
)
  where
    p : ℕ
    p = mirror_proc s.plain (op_mirror o)

    k : Kind
    k = start_entry s (mirror_proc s.plain (op_mirror o)) (one_page u)

    z : HoldsAll s t a (facts_past o true true false false None (fresh_record u g))
    z = came_facts s t a o xs (fresh_record u g) h

    ok : Allowed c s t a (start_entry s (mirror_proc s.plain (op_mirror o)) (one_page u))
    ok = (few, start_takes s a (mirror_proc s.plain (op_mirror o)) (one_page u) n)

lost_steps : (c : Program) (s : After) (t : Past) (a : ℕ) (o : Op) (xs : List Migrating) (u : ℕ) (g : Frame) (step : MoveStep) (v : ℕ) → Sound c s t → Holds s t a No_guard → Came s t a o xs Commit (fresh_record u g) → has_no_frame (s.places.place (mirror_proc s.plain (op_mirror o)) u) ≡ false →
    Steps c s t a o xs step v (Some (fresh_record u g)) (Kind.Kept (KeptAt.Page u) KeptWhy.Lost)
lost_steps c s t a o xs u g step v so n h e = (
  tt,
  and_from (was_fresh u xs) (not (has_no_frame (s.places.place (mirror_proc s.plain (op_mirror o)) u))) (fresh_was u xs (fresh_record u g) h.among refl refl) (ap not e),
  (n, (fresh_locks s t a o xs u g h, (fresh_apart s t a o xs u g h, ((z.1.1.0.0.0, z.1.1.0.0.1), fresh_past c s t a o xs u g k so tt (record { map = refl; there = λ p. refl; areas = λ p. refl }) h (λ f. tt) (past_facts (next s a k) t a o u (fresh_record u g) refl (fresh_staged o u g z.0, (z.1.0, tt))) h.knows.1.1.0)))),
)
  where
    k : Kind
    k = Kind.Kept (KeptAt.Page u) KeptWhy.Lost

    z : HoldsAll s t a (facts_past o true true false false None (fresh_record u g))
    z = came_facts s t a o xs (fresh_record u g) h

-- a record that has a new frame is not moved yet
not_moved : (o : Op) (source dest : Option Frame) (u : ℕ) → staged o true false (record { page = u; source = source; dest = dest; moved = true }) ≡ true → ⊥
not_moved o source dest u h = true_false false (stage_says o true false (record { page = u; source = source; dest = dest; moved = true }) h).committed refl

commit_by : (c : Program) (s : After) (t : Past) (a : ℕ) (o : Op) (xs : List Migrating) (u : ℕ) (source dest : Option Frame) (moved : Bool) (step : MoveStep) (v : ℕ) → a < 16 → Sound c s t → Holds s t a No_guard → ((u : ℕ) → next_cursor step u ≡ Phase.Moves Commit (u + 1)) → Came s t a o xs Commit (record { page = u; source = source; dest = dest; moved = moved }) →
    Steps c s t a o xs step v (Some (record { page = u; source = source; dest = dest; moved = moved })) (commit_page s (mirror_proc s.plain (op_mirror o)) u source dest)
commit_by c s t a o xs u source None moved step v few so n e h = absurd (true_false false h.concerned refl)
commit_by c s t a o xs u source (Some g) true step v few so n e h = absurd (not_moved o source (Some g) u (came_facts s t a o xs (record { page = u; source = source; dest = Some g; moved = true }) h).0)
commit_by c s t a o xs u (Some f) (Some g) false step v few so n e h = commit_steps c s t a o xs u f g step v so n h
commit_by c s t a o xs u None (Some g) false step v few so n e h = either (Steps c s t a o xs step v (Some (fresh_record u g))) (has_no_frame (s.places.place (mirror_proc s.plain (op_mirror o)) u)) _ _
    (λ i. start_steps c s t a o xs u g step v few so n e h)
    (λ i. lost_steps c s t a o xs u g step v so n h i)

pub commit_ok : (c : Program) (s : After) (t : Past) (a : ℕ) (o : Op) (xs : List Migrating) (x : Migrating) (step : MoveStep) (v : ℕ) → a < 16 → Sound c s t → Holds s t a No_guard → ((u : ℕ) → next_cursor step u ≡ Phase.Moves Commit (u + 1)) → Came s t a o xs Commit x → Steps c s t a o xs step v (Some x) (due_step c s o Commit x)
commit_ok c s t a o xs x step v few so n e h = commit_by c s t a o xs x.page x.source x.dest x.moved step v few so n e h
