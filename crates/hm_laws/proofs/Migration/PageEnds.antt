-- The end of a page's migration, and of the migration.
use Rattle.std.proofs.Common.{◌≡◌, ℕ, ◌+◌, inl, Bool, true, false, not, ◌&&◌, ◌||◌, if◌then◌else◌, Option, Some, None, List, [], ◌∷◌, ◌++◌, refl, sym, ap, ◌∙◌, subst, arith}
use Rattle.std.specs.List.{list_any}
use Rattle.hm_base.specs.Program.{Program}
use Rattle.hm_base.specs.declared.Frame.{Frame}
use Rattle.hm_base.specs.declared.ops.Op.{Op}
use Rattle.hm_history.specs.Memory.Words.{same_frame, names, names_directly, writable, place_in}
use Rattle.hm_history.specs.Memory.Plain.{mirror_proc}
use Rattle.hm_history.specs.Memory.Places.{lowest_moving, lowest_named}
use Rattle.hm_history.specs.Memory.After.{After}
use Rattle.hm_history.specs.Kernel.Operation.{op_mirror, is_migration}
use Rattle.hm_history.specs.Memory.Rules.{is_finishing}
use Rattle.hm_history.specs.Kernel.Due.{due_step, due_finish, finish_page, finish_frames, target_of, settle}
use Rattle.hm_history.specs.declared.Kind.{Kind}
use Rattle.hm_history.specs.declared.phases.Migrating.{Migrating}
use Rattle.hm_history.specs.declared.phases.MoveStep.{MoveStep}
use Rattle.hm_history.specs.declared.phases.MoveStep.TheVariants.{Finish}
use Rattle.hm_history.specs.declared.phases.Phase.{Phase}
use Rattle.hm_history.specs.declared.phases.Next.TheVariants.{Do}
use Rattle.hm_laws.specs.Stood.{is_moving}
use Rattle.hm_laws.specs.Past.{Past}
use Rattle.hm_laws.specs.Sound.{Sound}
use Rattle.hm_laws.specs.Allowed.{next, Allowed}
use Rattle.hm_laws.specs.Moves.{IsReturned}
use Rattle.hm_laws.specs.Records.{is_of, staged, apart_from}
use Rattle.hm_laws.specs.Facts.{No_guard, Locks_only, of_system, facts_past, frames_of, record_facts, records, held, migrating, Holds, HoldsAll}
use Rattle.hm_laws.proofs.Kept.Frames.{names_moving, direct_names}
use Rattle.hm_laws.proofs.Due.Good.{Good, either_option}
use Rattle.hm_laws.proofs.Due.Mirrors.{release_locked}
use Rattle.hm_laws.proofs.Due.Returns.{freed_locks, give_back_ok, return_to_ok}
use Rattle.hm_laws.proofs.Migration.Good.{Came, Past_all, Steps}
use Rattle.hm_laws.proofs.Migration.Records.{records_each, record_same}
use Rattle.hm_laws.proofs.Migration.PagePast.{unchanged, apart_others, records_past, records_there, locked_past, not_held, stage_says, not_before, now_before}
use Rattle.hm_history.proofs.Updates.{here_at}
use Rattle.hm_history.proofs.Tests.{true_false}
use Rattle.hm_history.proofs.Frames.{frame_tells}

-- no page is left: the answer
pub migrated_ok : (c : Program) (s : After) (t : Past) (a : ℕ) (o : Op) (xs : List Migrating) (step : MoveStep) (v n : ℕ) → Sound c s t → Holds s t a No_guard → Past_all s t a o xs → Steps c s t a o xs step v None (Kind.Migrated n)
migrated_ok c s t a o xs step v n so g p = (release_locked s a (mirror_proc s.plain (op_mirror o)) p.reads.1, tt, (here_at s.locks.map a None, (g, (p.locks, tt))))

-- what is known of the record that the last step has come to
came_facts : (s : After) (t : Past) (a : ℕ) (o : Op) (xs : List Migrating) (x : Migrating) → Came s t a o xs Finish x → HoldsAll s t a (facts_past o true true true false None x)
came_facts s t a o xs x h = subst (λ b. HoldsAll s t a (facts_past o true true true b None x)) (not_before x.page) (records_each s t a o Finish x.page None xs h.knows.1.1.1 x h.among)

-- and is known of it after that
past_facts : (s : After) (t : Past) (a : ℕ) (o : Op) (x : Migrating) → HoldsAll s t a (facts_past o true true true true None x) → HoldsAll s t a (record_facts o Finish (x.page + 1) None x)
past_facts s t a o x h = subst (λ b. HoldsAll s t a (facts_past o true true true b None x)) (sym (now_before x.page)) h

-- the other records stay as they are
same_after : (o : Op) (v : ℕ) (y : Migrating) → (y.page ≡ v → ⊥) → record_facts o Finish (v + 1) None y ≡ record_facts o Finish v None y
same_after o v y ne = record_same o Finish v None y ne

-- the locked frames are the record's, and those of the records that are held after it
locked_then : (s : After) (t : Past) (a : ℕ) (o : Op) (xs : List Migrating) (x : Migrating) (l : List Frame) → Came s t a o xs Finish x → ((f : Frame) → list_any (same_frame f) (frames_of (facts_past o true true true false None x)) ≡ true → list_any (same_frame f) l ≡ true) →
    Holds s t a (Locks_only (l ++ held o xs Finish (x.page + 1) None))
locked_then s t a o xs x l h mine = locked_past s t a o Finish x.page Finish (x.page + 1) xs xs x x l (unchanged xs x h.knows.1.0 h.among) (same_after o x.page) h.locks
    (λ f e. inl (mine f (subst (λ b. list_any (same_frame f) (frames_of (facts_past o true true true b None x)) ≡ true) (not_before x.page) e)))

-- which has none of the record's
free_past : (s : After) (t : Past) (a : ℕ) (o : Op) (xs : List Migrating) (x : Migrating) (f : Frame) → Came s t a o xs Finish x → is_of x f ≡ true → (list_any (same_frame f) (frames_of (facts_past o true true true true None x)) ≡ true → ⊥) → list_any (same_frame f) (held o xs Finish (x.page + 1) None) ≡ false
free_past s t a o xs x f h of none = not_held o Finish (x.page + 1) xs x f h.knows.1.0 h.among of (subst (λ b. list_any (same_frame f) (frames_of (facts_past o true true true b None x)) ≡ true → ⊥) (sym (now_before x.page)) none)

-- a page that was untouched: its new frame is done with
settled : (c : Program) (s : After) (t : Past) (a p u : ℕ) (g : Frame) → IsReturned s a g → names_directly (s.places.place p u) ≡ Some g → Allowed c s t a (Kind.Done g)
settled c s t a p u g r d = (record { mine = r.dest; lands = λ q w m. lands q w m (is_moving (s.places.place q w)) refl; stood_by = λ q w m. (direct_names (s.places.place q w) g (r.stood_by q w m)).1 }, (p, u, (direct_names (s.places.place p u) g d).0))
  where
    lands : (q w : ℕ) → names (s.places.place q w) ≡ Some g → (b : Bool) → is_moving (s.places.place q w) ≡ b → b ≡ false
    lands q w m true e = absurd (r.lands q w (names_moving (s.places.place q w) g m e))
    lands q w m false e = refl

abbrev fresh_record : ℕ → Frame → Migrating
fresh_record u g = record { page = u; source = None; dest = Some g; moved = true }

fresh_done : (c : Program) (s : After) (t : Past) (a : ℕ) (o : Op) (xs : List Migrating) (u : ℕ) (step : MoveStep) (v : ℕ) (g : Frame) → Sound c s t → Holds s t a No_guard → Came s t a o xs Finish (fresh_record u g) → Steps c s t a o xs step v (Some (fresh_record u g)) (Kind.Done g)
fresh_done c s t a o xs u step v g so n h = (ok, tt, (n, (freed_locks s a g (held o xs Finish (u + 1) None) (locked_then s t a o xs x (g ∷ []) h (λ f m. m)), (h.knows.0, (h.knows.1.0, (h.knows.1.1.0, rest))))))
  where
    x : Migrating
    x = fresh_record u g

    k : HoldsAll s t a (facts_past o true true true false None (fresh_record u g))
    k = came_facts s t a o xs (fresh_record u g) h

    mine : is_of (fresh_record u g) g ≡ true
    mine = grind (arith, frame_tells g g)

    ok : Allowed c s t a (Kind.Done g)
    ok = settled c s t a (mirror_proc s.plain (op_mirror o)) u g k.1.1.0 k.1.1.1.0.4

    rest : HoldsAll (next s a (Kind.Done g)) t a (records o Finish (u + 1) None xs)
    rest = records_past c s t a (Kind.Done g) so ok (record { map = refl; there = λ p. refl; areas = λ p. refl }) o Finish u Finish (u + 1) xs xs x x (unchanged xs x h.knows.1.0 h.among) (same_after o u)
        (λ y i ne f m. apart_others o Finish u None xs x y f g h.knows.1.0 h.among i ne mine m) h.knows.1.1.1 (past_facts (next s a (Kind.Done g)) t a o x (k.0, (k.1.0, tt)))

-- a page that was frozen returns, and its frame is done with: as where a frame is emptied
finish_steps : (c : Program) (s : After) (t : Past) (a : ℕ) (o : Op) (xs : List Migrating) (u : ℕ) (step : MoveStep) (v : ℕ) (f : Frame) (to : Option Frame) (moved : Bool) (k : Kind) → is_finishing k ≡ true →
    Good c s t a o xs (Phase.Finish f (if moved then to else None)) (Phase.Moves Finish (u + 1) ∷ []) (Do k) → Steps c s t a o xs step v (Some (record { page = u; source = Some f; dest = to; moved = moved })) k
finish_steps c s t a o xs u step v f to moved (Kind.Place p w x) e h = h
finish_steps c s t a o xs u step v f to moved (Kind.Done g) e h = h
finish_steps c s t a o xs u step v f to moved (Kind.Drop g) e h = h
finish_steps c s t a o xs u step v f to moved k e h = cc

settle_finishes : (s : After) (g : Frame) → is_finishing (settle s g) ≡ true
settle_finishes s g = either_option (λ k. is_finishing k ≡ true) (lowest_named s.places g) (Kind.Drop g) (λ x. Kind.Done g) (λ e. refl) (λ x e. refl)

finish_frames_finishes : (s : After) (f : Frame) (to : Option Frame) → is_finishing (finish_frames s f to) ≡ true
finish_frames_finishes s f None = settle_finishes s f
finish_frames_finishes s f (Some g) = refl

finishes : (s : After) (f : Frame) (to : Option Frame) → is_finishing (due_finish s f to) ≡ true
finishes s f to = either_option (λ k. is_finishing k ≡ true) (lowest_moving s.places f) (finish_frames s f to) (λ x. Kind.Place x.0 x.1 (place_in (target_of f to) (writable (s.places.place x.0 x.1)))) (λ e. finish_frames_finishes s f to) (λ x e. refl)

abbrev kept_record : ℕ → Frame → Migrating
kept_record u f = record { page = u; source = Some f; dest = None; moved = false }

abbrev moved_record : ℕ → Frame → Frame → Migrating
moved_record u f g = record { page = u; source = Some f; dest = Some g; moved = true }

-- the records, once it is past
records_then : (s : After) (t : Past) (a : ℕ) (o : Op) (xs : List Migrating) (x : Migrating) → Came s t a o xs Finish x → HoldsAll s t a (facts_past o true true true true None x) → HoldsAll s t a (migrating o xs Finish (x.page + 1) None)
records_then s t a o xs x h k = (h.knows.0, (h.knows.1.0, (h.knows.1.1.0, records_there s t a o Finish x.page Finish (x.page + 1) xs xs x x (unchanged xs x h.knows.1.0 h.among) (same_after o x.page) h.knows.1.1.1 (past_facts s t a o x k))))

kept_finish : (c : Program) (s : After) (t : Past) (a : ℕ) (o : Op) (xs : List Migrating) (u : ℕ) (step : MoveStep) (v : ℕ) (f : Frame) → Sound c s t → Holds s t a No_guard → Came s t a o xs Finish (kept_record u f) → Steps c s t a o xs step v (Some (kept_record u f)) (due_finish s f None)
kept_finish c s t a o xs u step v f so n h = finish_steps c s t a o xs u step v f None false (due_finish s f None) (finishes s f None)
    (give_back_ok c s t a o xs f (Phase.Moves Finish (u + 1) ∷ []) so (n, (locked_then s t a o xs x (f ∷ []) h (λ i m. m), (k.1.1.0.0, (refl, (refl, (apart, records_then s t a o xs x h (k.0, (k.1.0, tt)))))))))
  where
    x : Migrating
    x = kept_record u f

    k : HoldsAll s t a (facts_past o true true true false None (kept_record u f))
    k = came_facts s t a o xs (kept_record u f) h

    apart : apart_from (f ∷ []) (held o xs Finish (u + 1) None) ≡ true
    apart = ap (λ b. not b && true) (free_past s t a o xs x f h (grind (arith, frame_tells f f)) (λ m. cc))

moved_finish_ok : (c : Program) (s : After) (t : Past) (a : ℕ) (o : Op) (xs : List Migrating) (u : ℕ) (step : MoveStep) (v : ℕ) (f g : Frame) → Sound c s t → Holds s t a No_guard → Came s t a o xs Finish (moved_record u f g) → Steps c s t a o xs step v (Some (moved_record u f g)) (due_finish s f (Some g))
moved_finish_ok c s t a o xs u step v f g so n h = finish_steps c s t a o xs u step v f (Some g) true (due_finish s f (Some g)) (finishes s f (Some g))
    (return_to_ok c s t a o xs f g (Phase.Moves Finish (u + 1) ∷ []) so (n, (locked_then s t a o xs x (f ∷ g ∷ []) h (λ i m. m), (k.1.1.0, (returns (of_system g) h.knows.0, (refl, (apart, records_then s t a o xs x h (k.0, (k.1.0, tt)))))))))
  where
    x : Migrating
    x = moved_record u f g

    k : HoldsAll s t a (facts_past o true true true false None (moved_record u f g))
    k = came_facts s t a o xs (moved_record u f g) h

    returns : (b : Bool) → is_migration o ≡ true → (b || is_migration o) ≡ true
    returns b e = grind arith

    apart : apart_from (f ∷ g ∷ []) (held o xs Finish (u + 1) None) ≡ true
    apart = ap (λ b. not b && apart_from (g ∷ []) (held o xs Finish (u + 1) None)) (free_past s t a o xs x f h (grind (arith, frame_tells f f)) (λ m. cc)) ∙ ap (λ b. not b && true) (free_past s t a o xs x g h (grind (arith, frame_tells g g)) (λ m. cc))

-- a page that neither has an old frame nor a new one has no end, and none is moved to no frame
not_moved : (o : Op) (source : Option Frame) (u : ℕ) → staged o true true (record { page = u; source = source; dest = None; moved = true }) ≡ true → ⊥
not_moved o source u h = true_false false (stage_says o true true (record { page = u; source = source; dest = None; moved = true }) h).committed refl

not_left : (o : Op) (f g : Frame) (u : ℕ) → staged o true true (record { page = u; source = Some f; dest = Some g; moved = false }) ≡ true → ⊥
not_left o f g u h = true_false false (stage_says o true true (record { page = u; source = Some f; dest = Some g; moved = false }) h).passed refl

finish_by : (c : Program) (s : After) (t : Past) (a : ℕ) (o : Op) (xs : List Migrating) (u : ℕ) (source dest : Option Frame) (moved : Bool) (step : MoveStep) (v : ℕ) → Sound c s t → Holds s t a No_guard → Came s t a o xs Finish (record { page = u; source = source; dest = dest; moved = moved }) →
    Steps c s t a o xs step v (Some (record { page = u; source = source; dest = dest; moved = moved })) (finish_page s source dest moved)
finish_by c s t a o xs u None dest false step v so n h = absurd (true_false false h.concerned refl)
finish_by c s t a o xs u None None true step v so n h = absurd (not_moved o None u (came_facts s t a o xs (record { page = u; source = None; dest = None; moved = true }) h).0)
finish_by c s t a o xs u None (Some g) true step v so n h = fresh_done c s t a o xs u step v g so n h
finish_by c s t a o xs u (Some f) None false step v so n h = kept_finish c s t a o xs u step v f so n h
finish_by c s t a o xs u (Some f) (Some g) false step v so n h = absurd (not_left o f g u (came_facts s t a o xs (record { page = u; source = Some f; dest = Some g; moved = false }) h).0)
finish_by c s t a o xs u (Some f) None true step v so n h = absurd (not_moved o (Some f) u (came_facts s t a o xs (record { page = u; source = Some f; dest = None; moved = true }) h).0)
finish_by c s t a o xs u (Some f) (Some g) true step v so n h = moved_finish_ok c s t a o xs u step v f g so n h

pub finish_ok : (c : Program) (s : After) (t : Past) (a : ℕ) (o : Op) (xs : List Migrating) (x : Migrating) (step : MoveStep) (v : ℕ) → Sound c s t → Holds s t a No_guard → Came s t a o xs Finish x → Steps c s t a o xs step v (Some x) (due_step c s o Finish x)
finish_ok c s t a o xs x step v so n h = finish_by c s t a o xs x.page x.source x.dest x.moved step v so n h
