-- The states after entries that are equal but for positions, from such states, are such states.
use Rattle.std.proofs.Common.{◌≡◌, ℕ, ◌+◌, Bool, true, false, ◌==◌, ◌&&◌, if◌then◌else◌, nat_lt, Option, Some, None, List, [], ◌∷◌, refl, ap, ◌∙◌}
use mathlib.Core.Path.{fun_ext}
use Rattle.hm_base.specs.Pages.{Pages, covers}
use Rattle.hm_base.specs.Program.{Program}
use Rattle.hm_base.specs.declared.Frame.{Frame}
use Rattle.hm_base.specs.declared.Place.{Place}
use Rattle.hm_base.specs.declared.ops.Op.{Op}
use Rattle.hm_history.specs.Memory.Words.{with_at}
use Rattle.hm_history.specs.Memory.Places.{Places, TableEntry, with_entry, erased_table}
use Rattle.hm_history.specs.Kernel.Operation.{is_evicting, is_remove}
use Rattle.hm_history.specs.Memory.After.{After, after_entry}
use Rattle.hm_history.specs.Kernel.Stacks.{body_of_fault, after_locked, after_ready, with_guard, after_top, after_piece, after_fetched, after_decide, after_taken, after_guard, after_emptying, after_copy, after_finish, after_frames, after_moves, after_migration, after_give_up, below_next, caught_next, frames_past, with_one_more, gives_up, after_body, dropping, first_touch, after_walk, with_frame_taken, told_mirror, is_end, is_added, body_next}
use Rattle.hm_history.specs.Memory.Locks.{Locks, orphan}
use Rattle.hm_history.specs.declared.TableRight.{TableRight}
use Rattle.hm_history.specs.Kernel.Going.{seen_overlap, State, Going, op_at, seen_at, seen_place, recorded, going_on, going_top, going_next, state_next, touch_proc, coming, coming_page}
use Rattle.hm_history.specs.declared.KeptAt.{KeptAt}
use Rattle.hm_history.specs.declared.Kind.{Kind}
use Rattle.hm_history.specs.declared.Entry.{Entry}
use Rattle.hm_history.specs.declared.phases.Migrating.{Migrating}
use Rattle.hm_history.specs.declared.phases.MoveStep.{MoveStep}
use Rattle.hm_history.specs.declared.phases.Seen.{Seen}
use Rattle.hm_history.specs.declared.phases.Touch.{Touch}
use Rattle.hm_history.specs.declared.phases.Touch.TheVariants.{Cpu, Walk, Sole}
use Rattle.hm_history.specs.declared.phases.Body.{Body}
use Rattle.hm_history.specs.declared.phases.Phase.{Phase}
use Rattle.hm_race_laws.specs.Positions.{placeless, forget_after, forget_touch, forget_option, forget_phase, forget_stack, forget_going, forget_state, forget_seen, forget_kind, forget_entry}
use Rattle.hm_race_laws.proofs.Gone.{page_same, by_if, by_option, placeless_twice, touch_twice, stack_twice}

-- tables
set_alike : (b : Bool) (x y : TableEntry) (z : Option TableEntry) → placeless (Some x) ≡ placeless (Some y) → placeless (if b then Some x else z) ≡ placeless (if b then Some y else placeless z)
set_alike true x y z h = h
set_alike false x y z h = placeless_twice z

erased_alike : (b : Bool) (z : Option TableEntry) → placeless (if b then None else z) ≡ placeless (if b then None else placeless z)
erased_alike true z = refl
erased_alike false z = placeless_twice z

abbrev with_table : After → (ℕ → ℕ → Option TableEntry) → After
with_table s t = record s { places = record s.places { table = λ m v. placeless (t m v) } }

erasing : (s : After) (t : ℕ → ℕ → Option TableEntry) (m : ℕ) (test : ℕ → Bool) → with_table s (erased_table t m test) ≡ with_table s (erased_table (λ k u. placeless (t k u)) m test)
erasing s t m test = ap (λ (f : ℕ → ℕ → Option TableEntry). record s { places = record s.places { table = f } }) (fun_ext (λ k. fun_ext (λ u. erased_alike ((k == m) && test u) (t k u))))

setting : (s : After) (t : ℕ → ℕ → Option TableEntry) (m v : ℕ) (x y : TableEntry) → placeless (Some x) ≡ placeless (Some y) → with_table s (with_entry t m v x) ≡ with_table s (with_entry (λ k u. placeless (t k u)) m v y)
setting s t m v x y h = ap (λ (f : ℕ → ℕ → Option TableEntry). record s { places = record s.places { table = f } }) (fun_ext (λ k. fun_ext (λ u. set_alike ((k == m) && (u == v)) x y (t k u) h)))

keeping : (s : After) (t : ℕ → ℕ → Option TableEntry) → with_table s t ≡ with_table s (λ k u. placeless (t k u))
keeping s t = ap (λ (f : ℕ → ℕ → Option TableEntry). record s { places = record s.places { table = f } }) (fun_ext (λ k. fun_ext (λ u. placeless_twice (t k u))))

pub after_forgets : (s : After) (a : ℕ) (k : Kind) → forget_after (after_entry s (record { actor = a; kind = k })) ≡ forget_after (after_entry (forget_after s) (record { actor = a; kind = forget_kind k }))
after_forgets s a (Kind.Set m v f w from) = setting (forget_after (after_entry s (record { actor = a; kind = Kind.Set m v f w from }))) s.places.table m v (record { target = f; right = w; from = from }) (record { target = f; right = w; from = 0 }) refl
after_forgets s a (Kind.Told m r q) = erasing (forget_after (after_entry s (record { actor = a; kind = Kind.Told m r q }))) s.places.table m (covers r)
after_forgets s a (Kind.Detaching m q) = erasing (forget_after (after_entry s (record { actor = a; kind = Kind.Detaching m q }))) s.places.table m (λ v. true)
after_forgets s a (Kind.Detached m) = erasing (forget_after (after_entry s (record { actor = a; kind = Kind.Detached m }))) s.places.table m (λ v. true)
after_forgets s a k = keeping (forget_after (after_entry s (record { actor = a; kind = k }))) s.places.table

-- stacks
abbrev Like : List Phase → List Phase → Type 0
Like x y = forget_stack x ≡ forget_stack y

below_like : (l : List Phase) → Like l (forget_stack l)
below_like l = stack_twice l

opened_like : (k : Kind) (seen : Seen) (body : Body) (l m : List Phase) → Like l m → Like (with_guard k seen body l) (with_guard k (forget_seen seen) body m)
opened_like (Kind.Start p r q) seen body l m h = ap (λ z. (Phase.Guard p r seen.overlapped None body) ∷ z) h
opened_like _ seen body l m h = h

piece_like : (o : Op) (k : ℕ) (touch : Touch) (e : Kind) (seen : Seen) → Like (after_piece o k touch e seen) (after_piece o k (forget_touch touch) e (forget_seen seen))
piece_like o k touch (Kind.Rlock p) seen = ap (λ z. Phase.Decide z ∷ []) (touch_twice touch)
piece_like o k touch _ seen = refl

first_like : (o : Op) (k : ℕ) (e : Kind) (seen : Seen) → Like (after_piece o k (first_touch o k) e seen) (after_piece o k (first_touch o k) e (forget_seen seen))
first_like o k (Kind.Rlock p) seen = refl
first_like o k _ seen = refl

fetched_like : (o : Op) (e : Kind) (seen : Seen) → Like (after_fetched o e seen) (after_fetched o e (forget_seen seen))
fetched_like o e seen = by (is_added e)
  where
    by : (b : Bool) → Like (if b then [] else after_piece o 0 Sole e seen) (if b then [] else after_piece o 0 Sole e (forget_seen seen))
    by true = refl
    by false = piece_like o 0 Sole e seen

noted_like : (touch : Touch) (x : Place) → Like (after_walk touch x ∷ []) (after_walk (forget_touch touch) x ∷ [])
noted_like (Cpu k) x = refl
noted_like (Walk k at q) x = refl
noted_like Sole x = refl

taken_like : (touch : Touch) (g : Frame) (x : Place) → Like (with_frame_taken touch g x ∷ []) (with_frame_taken (forget_touch touch) g x ∷ [])
taken_like touch g Place.Zero = ap (λ z. Phase.Armed z g Place.Zero ∷ []) (touch_twice touch)
taken_like touch g x = ap (λ z. Phase.Taken z g x ∷ []) (touch_twice touch)

decide_like : (o : Op) (touch : Touch) (e : Kind) (seen : Seen) → Like (after_decide o touch e seen) (after_decide o (forget_touch touch) e (forget_seen seen))
decide_like o touch (Kind.Failed x a n c) seen = by touch
  where
    by : (z : Touch) → Like (after_decide o z (Kind.Failed x a n c) seen) (after_decide o (forget_touch z) (Kind.Failed x a n c) (forget_seen seen))
    by (Cpu k) = refl
    by (Walk k at q) = refl
    by Sole = refl
decide_like o touch (Kind.Retry m) seen = by touch
  where
    by : (z : Touch) → Like (after_decide o z (Kind.Retry m) seen) (after_decide o (forget_touch z) (Kind.Retry m) (forget_seen seen))
    by (Cpu k) = refl
    by (Walk k at q) = refl
    by Sole = refl
decide_like o touch (Kind.Runlock p) seen = noted_like touch seen.place
decide_like o touch (Kind.Take g) seen = taken_like touch g seen.place
decide_like o touch (Kind.Place p v x) seen = ap (λ z. Phase.Decide z ∷ []) (touch_twice touch)
decide_like o touch (Kind.Start p r q) seen = ap (λ z. Phase.Guard p r seen.overlapped None (body_of_fault seen.place) ∷ Phase.Decide z ∷ []) (touch_twice touch)
decide_like o touch _ seen = refl

taken_next : (touch : Touch) (g : Frame) (x : Place) (e : Kind) → Like (after_taken touch g x e) (after_taken (forget_touch touch) g x e)
taken_next touch g x (Kind.Copied f h k) = ap (λ z. Phase.Armed z g x ∷ []) (touch_twice touch)
taken_next touch g x _ = ap (λ z. Phase.Decide z ∷ []) (touch_twice touch)

past_like : (f : Frame) (l : List Phase) → Like (frames_past f l) (frames_past f (forget_stack l))
past_like f [] = refl
past_like f (Phase.Frames v n ∷ l) = ap (λ z. (Phase.Frames (f.number + 1) n) ∷ z) (below_like l)
past_like f (x ∷ l) = below_like (x ∷ l)

counted_like : (l : List Phase) → Like (with_one_more l) (with_one_more (forget_stack l))
counted_like [] = refl
counted_like (Phase.Frames v n ∷ l) = ap (λ z. (Phase.Frames v (n + 1)) ∷ z) (below_like l)
counted_like (x ∷ l) = below_like (x ∷ l)

caught_like : (o : Op) (f : Frame) (r : Pages) (l : List Phase) → Like (caught_next o f r l) (caught_next o f r (forget_stack l))
caught_like o f r l = by_if forget_stack (is_evicting o) _ _ _ _ (ap (λ z. (Phase.Emptying f (KeptAt.Frame f)) ∷ z) (past_like f l)) (ap (λ z. (Phase.Emptying f (KeptAt.Page r.first)) ∷ z) (below_like l))

below_next_like : (o : Op) (body : Body) (r : Pages) (l : List Phase) → Like (below_next o body r l) (below_next o body r (forget_stack l))
below_next_like o (Body.Catch f) r l = caught_like o f r l
below_next_like o _ r l = below_like l

ended_like : (body : Body) (r : Pages) (l : List Phase) → Like (after_body body r l) (after_body body r (forget_stack l))
ended_like (Body.Replace over g) r l = ap (λ z. (Phase.Drop g) ∷ z) (below_like l)
ended_like (Body.Fresh g) r l = ap (λ z. (Phase.Lost r.first g) ∷ z) (below_like l)
ended_like _ r l = below_like l

dropping_like : (x : Option Frame) (l m : List Phase) → Like l m → Like (dropping x l) (dropping x m)
dropping_like None l m h = h
dropping_like (Some f) l m h = ap (λ z. (Phase.Drop f) ∷ z) h

guard_like : (o : Op) (p : ℕ) (r : Pages) (met : Bool) (told : Option ℕ) (body : Body) (l : List Phase) (e : Kind) (seen : Seen) → Like (after_guard o p r met told body l e seen) (after_guard o p r met told body (forget_stack l) e (forget_seen seen))
guard_like o p r met told body l e seen = by_option forget_stack (told_mirror e) _ _ _ _
    (by_if forget_stack (is_end e) _ _ _ _ (ended_like body r l) (dropping_like seen.orphan _ _ (ap (λ z. (Phase.Guard p r met told (body_next body p e)) ∷ z) (below_next_like o body r l))))
    (λ m. ap (λ z. (Phase.Guard p r met (Some m) body) ∷ z) (below_like l))

gives_up_like : (o : Op) (l : List Phase) → Like (gives_up o l) (gives_up o (forget_stack l))
gives_up_like o [] = refl
gives_up_like o (Phase.Decide touch ∷ l) = ap (λ z. Phase.GiveUp (Some z) ∷ []) (touch_twice touch)
gives_up_like o (Phase.Frames v n ∷ l) = by (is_remove o)
  where
    by : (b : Bool) → forget_stack (elim (if b then Some (Phase.GiveUp None) else None) [ Some y ↦ y ∷ [] | None ↦ Phase.Frames v n ∷ l ]) ≡ forget_stack (elim (if b then Some (Phase.GiveUp None) else None) [ Some y ↦ y ∷ [] | None ↦ Phase.Frames v n ∷ forget_stack l ])
    by true = refl
    by false = ap (λ z. (Phase.Frames v n) ∷ z) (below_like l)
gives_up_like o (x ∷ l) = below_like (x ∷ l)

alone_like : (o : Op) (f : Frame) (at : KeptAt) (l : List Phase) (e : Kind) (seen : Seen) → Like (after_emptying o f at l e seen) (after_emptying o f at (forget_stack l) e (forget_seen seen))
alone_like o f at l (Kind.Start p r q) seen = ap (λ z. (Phase.Guard p r seen.overlapped None (Body.Freeze f)) ∷ z) (ap (λ z. (Phase.Emptying f at) ∷ z) (below_like l))
alone_like o f at l (Kind.Take g) seen = ap (λ z. (Phase.Copy f g 0) ∷ z) (ap (λ z. (Phase.Copied f g) ∷ z) (below_like l))
alone_like o f at l _ seen = ap (λ z. (Phase.Finish f None) ∷ z) (gives_up_like o l)

copy_like : (f g : Frame) (k : ℕ) (l : List Phase) → Like (after_copy f g k l) (after_copy f g k (forget_stack l))
copy_like f g k l = by_if forget_stack (nat_lt k 7) _ _ _ _ (ap (λ z. (Phase.Copy f g (k + 1)) ∷ z) (below_like l)) (below_like l)

finish_like : (f : Frame) (to : Option Frame) (l : List Phase) (e : Kind) → Like (after_finish f to l e) (after_finish f to (forget_stack l) e)
finish_like f to l (Kind.Place p v x) = ap (λ z. (Phase.Finish f to) ∷ z) (below_like l)
finish_like f None l (Kind.Drop h) = below_like l
finish_like f (Some g) l (Kind.Drop h) = ap (λ z. (Phase.Settle g) ∷ z) (below_like l)
finish_like f None l _ = below_like l
finish_like f (Some g) l _ = below_like l

give_up_like : (o : Op) (touch : Option Touch) (e : Kind) → Like (after_give_up o touch e) (after_give_up o (forget_option touch) e)
give_up_like o None e = refl
give_up_like o (Some (Cpu k)) e = refl
give_up_like o (Some (Walk k at q)) e = refl
give_up_like o (Some Sole) e = refl

locked_like : (o : Op) (e : Kind) (seen : Seen) → after_locked o e seen ≡ after_locked o e (forget_seen seen)
locked_like o (Kind.Start p r q) seen = refl
locked_like o _ seen = refl

ready_like : (o : Op) (e : Kind) (seen : Seen) → Like (after_ready o e seen) (after_ready o e (forget_seen seen))
ready_like (Op.Fork p c) e seen = opened_like e seen (Body.Fork 0 false) _ _ refl
ready_like (Op.ToDevice m r) e seen = opened_like e seen (Body.Select r.first) _ _ refl
ready_like (Op.ToSystem m r) e seen = opened_like e seen (Body.Select r.first) _ _ refl
ready_like _ e seen = refl

moves_like : (step : MoveStep) (x : Migrating) (e : Kind) (seen : Seen) → after_moves step x e seen ≡ after_moves step x e (forget_seen seen)
moves_like step x (Kind.Start p r q) seen = refl
moves_like step x _ seen = refl

migration_like : (step : MoveStep) (x : Option Migrating) (e : Kind) (seen : Seen) → after_migration step x e seen ≡ after_migration step x e (forget_seen seen)
migration_like step None e seen = refl
migration_like step (Some x) e seen = moves_like step x e seen

frames_like : (v n : ℕ) (e : Kind) (seen : Seen) → Like (after_frames v n e seen) (after_frames v n e (forget_seen seen))
frames_like v n (Kind.Start p r q) seen = refl
frames_like v n (Kind.Kept (KeptAt.Frame f) why) seen = refl
frames_like v n (Kind.Kept (KeptAt.Page f) why) seen = refl
frames_like v n _ seen = refl

moved_like : (o : Op) (top : Phase) (l : List Phase) (e : Kind) (seen : Seen) → Like (after_top o top l e seen) (after_top o (forget_phase top) (forget_stack l) e (forget_seen seen))
moved_like o (Phase.Piece n) l e seen = first_like o n e seen
moved_like o (Phase.Fetched old) l e seen = fetched_like o e seen
moved_like o (Phase.Begun n at q) l e seen = piece_like o n (Walk n at q) e seen
moved_like o (Phase.Decide touch) l e seen = decide_like o touch e seen
moved_like o (Phase.Taken touch g x) l e seen = taken_next touch g x e
moved_like o (Phase.Armed touch g x) l e seen = opened_like e seen (Body.Replace x g) _ _ (ap (λ z. Phase.Decide z ∷ []) (touch_twice touch))
moved_like o (Phase.Guard p r met told body) l e seen = guard_like o p r met told body l e seen
moved_like o (Phase.Drop f) l e seen = below_like l
moved_like o (Phase.Emptying f at) l e seen = alone_like o f at l e seen
moved_like o (Phase.Copy f g n) l e seen = copy_like f g n l
moved_like o (Phase.Copied f g) l e seen = ap (λ z. (Phase.Finish f (Some g)) ∷ z) (counted_like l)
moved_like o (Phase.Finish f to) l e seen = finish_like f to l e
moved_like o (Phase.Settle g) l e seen = below_like l
moved_like o (Phase.GiveUp touch) l e seen = give_up_like o touch e
moved_like o (Phase.Lost v g) l e seen = ap (λ z. (Phase.Drop g) ∷ z) (below_like l)
moved_like o Phase.Locked l e seen = ap forget_stack (locked_like o e seen)
moved_like o Phase.Ready l e seen = ready_like o e seen
moved_like o (Phase.Frames v n) l e seen = frames_like v n e seen
moved_like o (Phase.Moves step v) l e seen = ap forget_stack (migration_like step seen.page e seen)
moved_like o _ l e seen = refl

-- the entry's own position
set_ready : (o : Op) (m v : ℕ) (f : Option Frame) (w : TableRight) (from : ℕ) (seen : Seen) → after_ready o (Kind.Set m v f w from) seen ≡ after_ready o (Kind.Set m v f w 0) seen
set_ready (Op.Fork p c) m v f w from seen = refl
set_ready (Op.ToDevice n r) m v f w from seen = refl
set_ready (Op.ToSystem n r) m v f w from seen = refl
set_ready _ m v f w from seen = refl

set_body : (body : Body) (p m v : ℕ) (f : Option Frame) (w : TableRight) (from : ℕ) → body_next body p (Kind.Set m v f w from) ≡ body_next body p (Kind.Set m v f w 0)
set_body (Body.Zap n) p m v f w from = refl
set_body (Body.Narrow n) p m v f w from = refl
set_body (Body.Select n) p m v f w from = refl
set_body (Body.Fork n half) p m v f w from = refl
set_body _ p m v f w from = refl

set_finish : (x : Frame) (to : Option Frame) (l : List Phase) (m v : ℕ) (f : Option Frame) (w : TableRight) (from : ℕ) → after_finish x to l (Kind.Set m v f w from) ≡ after_finish x to l (Kind.Set m v f w 0)
set_finish x None l m v f w from = refl
set_finish x (Some g) l m v f w from = refl

set_give_up : (o : Op) (x : Option Touch) (m v : ℕ) (f : Option Frame) (w : TableRight) (from : ℕ) → after_give_up o x (Kind.Set m v f w from) ≡ after_give_up o x (Kind.Set m v f w 0)
set_give_up o x m v f w from = refl

set_migration : (step : MoveStep) (x : Option Migrating) (m v : ℕ) (f : Option Frame) (w : TableRight) (from : ℕ) (seen : Seen) → after_migration step x (Kind.Set m v f w from) seen ≡ after_migration step x (Kind.Set m v f w 0) seen
set_migration step None m v f w from seen = refl
set_migration step (Some x) m v f w from seen = refl

set_like : (o : Op) (top : Phase) (l : List Phase) (m v : ℕ) (f : Option Frame) (w : TableRight) (from : ℕ) (seen : Seen) → after_top o top l (Kind.Set m v f w from) seen ≡ after_top o top l (Kind.Set m v f w 0) seen
set_like o Phase.Ready l m v f w from seen = set_ready o m v f w from seen
set_like o (Phase.Guard p r met told body) l m v f w from seen = ap (λ z. dropping seen.orphan (Phase.Guard p r met told z ∷ below_next o body r l)) (set_body body p m v f w from)
set_like o (Phase.Finish x to) l m v f w from seen = set_finish x to l m v f w from
set_like o (Phase.GiveUp x) l m v f w from seen = set_give_up o x m v f w from
set_like o (Phase.Moves step n) l m v f w from seen = set_migration step seen.page m v f w from seen
set_like o _ l m v f w from seen = refl

kind_like : (o : Op) (top : Phase) (l : List Phase) (e : Kind) (seen : Seen) → after_top o top l e seen ≡ after_top o top l (forget_kind e) seen
kind_like o top l (Kind.Set m v f w from) seen = set_like o top l m v f w from seen
kind_like o top l _ seen = refl

-- what is seen
place_set : (s : After) (o : Op) (top : Phase) (m v : ℕ) (f : Option Frame) (w : TableRight) (from : ℕ) → seen_place s o top (Kind.Set m v f w from) ≡ seen_place s o top (Kind.Set m v f w 0)
place_set s o (Phase.Decide touch) m v f w from = refl
place_set s o _ m v f w from = refl

place_kind : (s : After) (o : Op) (top : Phase) (e : Kind) → seen_place s o top e ≡ seen_place s o top (forget_kind e)
place_kind s o top (Kind.Set m v f w from) = place_set s o top m v f w from
place_kind s o top _ = refl

place_touch : (s : After) (o : Op) (touch : Touch) (e : Kind) → seen_place s o (Phase.Decide touch) e ≡ seen_place (forget_after s) o (Phase.Decide (forget_touch touch)) e
place_touch s o touch (Kind.Start p r q) = refl
place_touch s o touch (Kind.Place p v x) = refl
place_touch s o touch _ = ap (s.places.place (touch_proc s o)) (page_same o touch)

place_begun : (s : After) (o : Op) (k at q : ℕ) (e : Kind) → seen_place s o (Phase.Begun k at q) e ≡ seen_place (forget_after s) o (Phase.Begun k 0 q) e
place_begun s o k at q (Kind.Start p r w) = refl
place_begun s o k at q (Kind.Place p v x) = refl
place_begun s o k at q _ = refl

place_noted : (s : After) (o : Op) (k at q : ℕ) (y : Place) (e : Kind) → seen_place s o (Phase.Noted k at q y) e ≡ seen_place (forget_after s) o (Phase.Noted k 0 q y) e
place_noted s o k at q y (Kind.Start p r w) = refl
place_noted s o k at q y (Kind.Place p v x) = refl
place_noted s o k at q y _ = refl

place_taken : (s : After) (o : Op) (touch : Touch) (g : Frame) (y : Place) (e : Kind) → seen_place s o (Phase.Taken touch g y) e ≡ seen_place (forget_after s) o (Phase.Taken (forget_touch touch) g y) e
place_taken s o touch g y (Kind.Start p r w) = refl
place_taken s o touch g y (Kind.Place p v x) = refl
place_taken s o touch g y _ = refl

place_armed : (s : After) (o : Op) (touch : Touch) (g : Frame) (y : Place) (e : Kind) → seen_place s o (Phase.Armed touch g y) e ≡ seen_place (forget_after s) o (Phase.Armed (forget_touch touch) g y) e
place_armed s o touch g y (Kind.Start p r w) = refl
place_armed s o touch g y (Kind.Place p v x) = refl
place_armed s o touch g y _ = refl

place_give_up : (s : After) (o : Op) (touch : Option Touch) (e : Kind) → seen_place s o (Phase.GiveUp touch) e ≡ seen_place (forget_after s) o (Phase.GiveUp (forget_option touch)) e
place_give_up s o touch (Kind.Start p r w) = refl
place_give_up s o touch (Kind.Place p v x) = refl
place_give_up s o touch _ = refl

place_top : (s : After) (o : Op) (top : Phase) (e : Kind) → seen_place s o top e ≡ seen_place (forget_after s) o (forget_phase top) e
place_top s o (Phase.Decide touch) e = place_touch s o touch e
place_top s o (Phase.Begun k at q) e = place_begun s o k at q e
place_top s o (Phase.Noted k at q y) e = place_noted s o k at q y e
place_top s o (Phase.Taken touch g y) e = place_taken s o touch g y e
place_top s o (Phase.Armed touch g y) e = place_armed s o touch g y e
place_top s o (Phase.GiveUp touch) e = place_give_up s o touch e
place_top s o _ e = refl

overlap_kind : (s : After) (e : Kind) → seen_overlap s e ≡ seen_overlap s (forget_kind e)
overlap_kind s (Kind.Set m v f w from) = refl
overlap_kind s _ = refl

orphan_kind : (s : Locks) (t : Places) (e : Kind) → orphan s t e ≡ orphan s t (forget_kind e)
orphan_kind s t (Kind.Set m v f w from) = refl
orphan_kind s t _ = refl

coming_top : (s : After) (o : Op) (xs : List Migrating) (top : Phase) → coming s o xs top ≡ coming (forget_after s) o xs (forget_phase top)
coming_top s o xs (Phase.Moves step v) = refl
coming_top s o xs _ = refl

seen_forgets : (s : After) (o : Op) (xs : List Migrating) (top : Phase) (e : Kind) → forget_seen (seen_at s o xs top e) ≡ seen_at (forget_after s) o xs (forget_phase top) (forget_kind e)
seen_forgets s o xs top e = ap (λ z. record { at = 0; overlapped = z; place = seen_place s o top e; orphan = orphan s.locks s.places e; page = coming_page (coming s o xs top) }) (overlap_kind s e)
    ∙ (ap (λ z. record { at = 0; overlapped = seen_overlap s (forget_kind e); place = z; orphan = orphan s.locks s.places e; page = coming_page (coming s o xs top) }) (place_kind s o top e ∙ place_top s o top (forget_kind e))
    ∙ (ap (λ z. record { at = 0; overlapped = seen_overlap s (forget_kind e); place = seen_place (forget_after s) o (forget_phase top) (forget_kind e); orphan = z; page = coming_page (coming s o xs top) }) (orphan_kind s.locks s.places e)
    ∙ ap (λ (z : Option (MoveStep × Migrating)). record { at = 0; overlapped = seen_overlap s (forget_kind e); place = seen_place (forget_after s) o (forget_phase top) (forget_kind e); orphan = orphan s.locks s.places (forget_kind e); page = coming_page z }) (coming_top s o xs top)))

-- the records of a migration
records_top : (top : Phase) (x : Option Migrating) (xs : List Migrating) (e : Kind) → recorded top x xs e ≡ recorded (forget_phase top) x xs e
records_top (Phase.Guard p r met told body) x xs e = refl
records_top (Phase.Moves step v) x xs e = refl
records_top _ x xs e = refl

records_set : (top : Phase) (x : Option Migrating) (xs : List Migrating) (m v : ℕ) (f : Option Frame) (w : TableRight) (from : ℕ) → recorded top x xs (Kind.Set m v f w from) ≡ recorded top x xs (Kind.Set m v f w 0)
records_set (Phase.Guard p r met told (Body.Select n)) x xs m v f w from = refl
records_set (Phase.Guard p r met told (Body.Fresh n)) x xs m v f w from = refl
records_set (Phase.Guard p r met told body) x xs m v f w from = refl
records_set (Phase.Moves step n) None xs m v f w from = refl
records_set (Phase.Moves step n) (Some x) xs m v f w from = refl
records_set _ x xs m v f w from = refl

records_kind : (top : Phase) (x : Option Migrating) (xs : List Migrating) (e : Kind) → recorded top x xs e ≡ recorded top x xs (forget_kind e)
records_kind top x xs (Kind.Set m v f w from) = records_set top x xs m v f w from
records_kind top x xs _ = refl

-- an actor after its entry
on_like : (c : Program) (a i : ℕ) (l m : List Phase) (xs ys : List Migrating) → Like l m → xs ≡ ys → forget_going (going_on c a i l xs) ≡ forget_going (going_on c a i m ys)
on_like c a i [] [] xs ys h k = refl
on_like c a i [] (y ∷ m) xs ys h k = cc
on_like c a i (x ∷ l) [] xs ys h k = cc
on_like c a i (x ∷ l) (y ∷ m) xs ys h k = ap (λ z. record { index = i; stack = z; pages = xs }) h ∙ ap (λ z. record { index = i; stack = forget_stack (y ∷ m); pages = z }) k

top_forgets : (c : Program) (s : After) (a i : ℕ) (o : Op) (xs : List Migrating) (l : List Phase) (e : Kind) → forget_going (going_top c s a (record { index = i; stack = l; pages = xs }) o l e) ≡ forget_going (going_top c (forget_after s) a (record { index = i; stack = forget_stack l; pages = xs }) o (forget_stack l) (forget_kind e))
top_forgets c s a i o xs [] e = refl
top_forgets c s a i o xs (top ∷ l) e = on_like c a i _ _ _ _ stacks records
  where
    stacks : Like (after_top o top l e (seen_at s o xs top e)) (after_top o (forget_phase top) (forget_stack l) (forget_kind e) (seen_at (forget_after s) o xs (forget_phase top) (forget_kind e)))
    stacks = ap forget_stack (kind_like o top l e (seen_at s o xs top e)) ∙ (moved_like o top l (forget_kind e) (seen_at s o xs top e) ∙ ap (λ z. forget_stack (after_top o (forget_phase top) (forget_stack l) (forget_kind e) z)) (seen_forgets s o xs top e))

    records : recorded top (seen_at s o xs top e).page xs e ≡ recorded (forget_phase top) (seen_at (forget_after s) o xs (forget_phase top) (forget_kind e)).page xs (forget_kind e)
    records = records_kind top _ xs e ∙ (records_top top _ xs (forget_kind e) ∙ ap (λ (z : Seen). recorded (forget_phase top) z.page xs (forget_kind e)) (seen_forgets s o xs top e))

going_twice : (g : Going) → forget_going g ≡ forget_going (forget_going g)
going_twice g = ap (λ z. record { index = g.index; stack = z; pages = g.pages }) (stack_twice g.stack)

going_forgets : (c : Program) (s : After) (a : ℕ) (g : Going) (e : Kind) → forget_going (going_next c s a g e) ≡ forget_going (going_next c (forget_after s) a (forget_going g) (forget_kind e))
going_forgets c s a g e = by (op_at c a g.index)
  where
    by : (x : Option Op) → forget_going (elim x as (λ y. Going) [ None ↦ g | Some o ↦ going_top c s a g o g.stack e ]) ≡ forget_going (elim x as (λ y. Going) [ None ↦ forget_going g | Some o ↦ going_top c (forget_after s) a (forget_going g) o (forget_stack g.stack) (forget_kind e) ])
    by None = going_twice g
    by (Some o) = top_forgets c s a g.index o g.pages g.stack e

at_like : (f : ℕ → Going) (a b : ℕ) (g h : Going) → forget_going g ≡ forget_going h → forget_going (with_at f a g b) ≡ forget_going (with_at (λ x. forget_going (f x)) a h b)
at_like f a b g h e = by_if forget_going (b == a) g (f b) h (forget_going (f b)) e (going_twice (f b))

pub next_forgets : (c : Program) (u : State) (e : Entry) → forget_state (state_next c u e) ≡ forget_state (state_next c (forget_state u) (forget_entry e))
next_forgets c u e = ap (λ (z : After). record { after = z; going = (forget_state (state_next c u e)).going }) (after_forgets u.after e.actor e.kind)
    ∙ ap (λ (z : ℕ → Going). record { after = (forget_state (state_next c (forget_state u) (forget_entry e))).after; going = z }) (fun_ext (λ b. at_like u.going e.actor b _ _ (going_forgets c u.after e.actor (u.going e.actor) e.kind)))
