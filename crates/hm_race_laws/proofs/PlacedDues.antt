-- What is due, and the next state, do not depend on the order in which pages were placed.
use Rattle.std.proofs.Common.{◌≡◌, ℕ, inl, inr, Bool, true, false, ◌==◌, not, ◌&&◌, nat_le, if◌then◌else◌, is_none, is_some, Option, Some, None, List, [], ◌∷◌, refl, ap, ◌∙◌, find, arith}
use Rattle.std.specs.List.{list_any}
use mathlib.Core.Path.{fun_ext}
use Rattle.hm_base.specs.Pages.{Pages}
use Rattle.hm_base.specs.Program.{Program}
use Rattle.hm_base.specs.declared.Frame.{Frame}
use Rattle.hm_base.specs.declared.Place.{Place}
use Rattle.hm_base.specs.declared.ops.Op.{Op}
use Rattle.hm_base.specs.declared.cause.Cause.{Cause}
use Rattle.hm_history.specs.Memory.Words.{with_at, is_frame, names, names_directly, moving_frame, writable, narrowed, is_empty_place, sys_frame, dev_frame}
use Rattle.hm_history.specs.Memory.Plain.{rights_of, is_read_only, is_attached, mirror_dev}
use Rattle.hm_history.specs.Memory.Places.{is_page, with_page, with_place, places_next, lowest_direct, lowest_moving, lowest_named, uses, next_page, is_used, held_from}
use Rattle.hm_history.specs.Memory.Locks.{with_lock, frame_placed, Locks, orphan, left_behind, other_locker}
use Rattle.hm_history.specs.Memory.After.{After, after_entry}
use Rattle.hm_history.specs.Kernel.Operation.{op_mirror, op_writes}
use Rattle.hm_history.specs.Kernel.Going.{State, Going, op_at, touch_page, touch_proc, coming, coming_page, steps_from, come_to, concerns, is_direct, seen_at, seen_place, seen_overlap, going_seen, going_top, going_next, state_next}
use Rattle.hm_history.specs.Kernel.Due.{suits, suits_walk, repeats, fault_sys, fault_at, fault, due_sole, due_decide, within, fork_page, child_of, due_body, body_or_end, to_tell, due_guard, due_emptying, settle, finish_frames, due_finish, frame_at, due_frames_of, due_frames, others_of, finish_page, due_step, due_moves, due_phase, due_top, due_in, progress, fails}
use Rattle.hm_history.specs.declared.KeptAt.{KeptAt}
use Rattle.hm_history.specs.declared.Kind.{Kind}
use Rattle.hm_history.specs.declared.Entry.{Entry}
use Rattle.hm_history.specs.declared.phases.Migrating.{Migrating}
use Rattle.hm_history.specs.declared.phases.MoveStep.{MoveStep}
use Rattle.hm_history.specs.declared.phases.Touch.{Touch}
use Rattle.hm_history.specs.declared.phases.Touch.TheVariants.{Cpu, Walk, Sole}
use Rattle.hm_history.specs.declared.phases.Body.{Body}
use Rattle.hm_history.specs.declared.phases.Phase.{Phase}
use Rattle.hm_history.specs.declared.phases.Next.TheVariants.{Do}
use Rattle.hm_race_laws.proofs.Gone.{by_test, by_option, same_test, both_option}
use Rattle.hm_race_laws.specs.Forms.{Distinct, relist, restate}
use Rattle.hm_race_laws.proofs.PlacedLists.{lowest_same, count_same, still_distinct}
use Rattle.hm_history.proofs.Placed.{listed_more}
use Rattle.hm_laws.proofs.Kept.Areas.{writable_stays}

-- two lists that both have all pages with a place, each once
pub record Agree (place : ℕ → ℕ → Place) (xs ys : List (ℕ × ℕ)) : Type 0 where
  pub left : (p v : ℕ) → is_empty_place (place p v) ≡ false → list_any (is_page p v) xs ≡ true
  pub right : (p v : ℕ) → is_empty_place (place p v) ≡ false → list_any (is_page p v) ys ≡ true
  pub left_once : Distinct xs
  pub right_once : Distinct ys

direct_used : (x : Place) (f : Frame) → is_frame (names_directly x) f ≡ true → is_empty_place x ≡ false
direct_used Place.Empty f h = cc
direct_used _ f h = refl

moving_used : (x : Place) (f : Frame) → is_frame (moving_frame x) f ≡ true → is_empty_place x ≡ false
moving_used Place.Empty f h = cc
moving_used _ f h = refl

named_used : (x : Place) (f : Frame) → is_frame (names x) f ≡ true → is_empty_place x ≡ false
named_used Place.Empty f h = cc
named_used _ f h = refl

used_used : (x : Place) → is_used x ≡ true → is_empty_place x ≡ false
used_used Place.Empty h = cc
used_used _ h = refl

last_of_three : (x y z : Bool) → (x && (y && z)) ≡ true → z ≡ true
last_of_three x y z h = grind arith

module _ (s : After) (ys : List (ℕ × ℕ)) (ok : Agree s.places.place s.places.placed ys) where
  direct_same : (f : Frame) → lowest_direct s.places f ≡ lowest_direct (relist s ys).places f
  direct_same f = lowest_same (λ p v. is_frame (names_directly (s.places.place p v)) f) s.places.placed ys (λ p v h. ok.left p v (direct_used (s.places.place p v) f h)) (λ p v h. ok.right p v (direct_used (s.places.place p v) f h))

  moving_same : (f : Frame) → lowest_moving s.places f ≡ lowest_moving (relist s ys).places f
  moving_same f = lowest_same (λ p v. is_frame (moving_frame (s.places.place p v)) f) s.places.placed ys (λ p v h. ok.left p v (moving_used (s.places.place p v) f h)) (λ p v h. ok.right p v (moving_used (s.places.place p v) f h))

  named_same : (f : Frame) → lowest_named s.places f ≡ lowest_named (relist s ys).places f
  named_same f = lowest_same (λ p v. is_frame (names (s.places.place p v)) f) s.places.placed ys (λ p v h. ok.left p v (named_used (s.places.place p v) f h)) (λ p v h. ok.right p v (named_used (s.places.place p v) f h))

  next_same : (t : Place → Bool) (p from : ℕ) → ((x : Place) → t x ≡ true → is_empty_place x ≡ false) → next_page s.places t p from ≡ next_page (relist s ys).places t p from
  next_same t p from u = ap (λ z. elim z as (λ y. Option ℕ) [ None ↦ None | Some x ↦ Some x.1 ]) (lowest_same (λ q v. (q == p) && (nat_le from v && t (s.places.place q v))) s.places.placed ys (λ q v h. ok.left q v (u (s.places.place q v) (last_of_three (q == p) (nat_le from v) (t (s.places.place q v)) h))) (λ q v h. ok.right q v (u (s.places.place q v) (last_of_three (q == p) (nat_le from v) (t (s.places.place q v)) h))))

  uses_same : (f : Frame) → uses s.places f ≡ uses (relist s ys).places f
  uses_same f = count_same (λ x. is_frame (names (s.places.place x.0 x.1)) f) s.places.placed ys ok.left_once ok.right_once (λ p v h. ok.left p v (named_used (s.places.place p v) f h)) (λ p v h. ok.right p v (named_used (s.places.place p v) f h))

  fault_sys_same : (c : Program) (p v n : ℕ) (k : Kind) → fault_sys c s p v n k ≡ fault_sys c (relist s ys) p v n k
  fault_sys_same c p v n k = same_test (λ z. z) _ _ _ _ (ap (λ j. is_none (s.locks.frame (sys_frame n)) && (j == 1)) (uses_same (sys_frame n)))

  fault_at_same : (c : Program) (a : ℕ) (o : Op) (k p v : ℕ) (x : Place) → fault_at c s a o k p v x ≡ fault_at c (relist s ys) a o k p v x
  fault_at_same c a o k p v (Place.Sys n w) = fault_sys_same c p v n (fails o k Cause.NoFrame)
  fault_at_same c a o k p v _ = refl

  fault_same : (c : Program) (a : ℕ) (o : Op) (k : ℕ) (t : Place → Bool) (p v : ℕ) → fault c s a o k t p v ≡ fault c (relist s ys) a o k t p v
  fault_same c a o k t p v = by_test (λ z. z) (is_none (rights_of s.plain p v)) _ _ _ _ refl (by_test (λ z. z) (op_writes o && is_read_only (rights_of s.plain p v)) _ _ _ _ refl (by_test (λ z. z) (t (s.places.place p v)) _ _ _ _ refl (fault_at_same c a o k p v (s.places.place p v))))

  sole_same : (c : Program) (a : ℕ) (o : Op) (m p v : ℕ) (x : Place) → due_sole c s a o m p v x ≡ due_sole c (relist s ys) a o m p v x
  sole_same c a o m p v (Place.Exclusive n b) = by_test (λ z. z) (a == b) _ _ _ _ refl (fault_same c a o 0 (suits true) p v)
  sole_same c a o m p v (Place.Sys n true) = refl
  sole_same c a o m p v (Place.Sys n false) = fault_same c a o 0 (suits true) p v
  sole_same c a o m p v _ = fault_same c a o 0 (suits true) p v

  decide_same : (c : Program) (a : ℕ) (o : Op) (touch : Touch) (p v : ℕ) → due_decide c s a o touch p v ≡ due_decide c (relist s ys) a o touch p v
  decide_same c a o (Cpu k) p v = fault_same c a o k (suits (op_writes o)) p v
  decide_same c a o (Walk k at q) p v = by_test (λ z. z) (repeats s (op_mirror o) q) _ _ _ _ refl (fault_same c a o k (suits_walk (mirror_dev s.plain (op_mirror o)) (op_writes o)) p v)
  decide_same c a o Sole p v = by_test (λ z. z) (is_attached s.plain (op_mirror o)) _ _ _ _ (sole_same c a o (op_mirror o) p v (s.places.place p v)) refl

  body_same : (a : ℕ) (o : Op) (p : ℕ) (r : Pages) (x : Place) (body : Body) → due_body s a o p r x body ≡ due_body (relist s ys) a o p r x body
  body_same a o p r x (Body.Zap v) = ap (λ z. within r z (λ u. Kind.Place p u Place.Empty)) (next_same is_used p v used_used)
  body_same a o p r x (Body.Narrow v) = ap (λ z. within r z (λ u. Kind.Place p u (narrowed (s.places.place p u)))) (next_same writable p v writable_stays)
  body_same a o p r x (Body.Fork v false) = ap (λ z. within r z (fork_page s p (child_of o))) (next_same is_used p v used_used)
  body_same a o p r x (Body.Fork v true) = refl
  body_same a o p r x _ = refl

  guard_same : (a : ℕ) (o : Op) (p : ℕ) (r : Pages) (met : Bool) (told : Option ℕ) (body : Body) → due_guard s a o p r met told body ≡ due_guard (relist s ys) a o p r met told body
  guard_same a o p r met told body = by_option (λ z. z) (to_tell s p r met told) _ _ _ _ (ap (body_or_end s p r) (body_same a o p r (s.places.place p r.first) body)) (λ m. refl)

  alone_same : (c : Program) (f : Frame) (at : KeptAt) → due_emptying c s f at ≡ due_emptying c (relist s ys) f at
  alone_same c f at = both_option (λ z. z) _ _ _ _ _ _ (direct_same f) refl (λ x. refl)

  settle_same : (f : Frame) → settle s f ≡ settle (relist s ys) f
  settle_same f = both_option (λ z. z) _ _ _ _ _ _ (named_same f) refl (λ x. refl)

  finish_frames_same : (f : Frame) (to : Option Frame) → finish_frames s f to ≡ finish_frames (relist s ys) f to
  finish_frames_same f None = settle_same f
  finish_frames_same f (Some g) = refl

  finish_same : (f : Frame) (to : Option Frame) → due_finish s f to ≡ due_finish (relist s ys) f to
  finish_same f to = both_option (λ z. z) _ _ _ _ _ _ (moving_same f) (finish_frames_same f to) (λ x. refl)

  frame_same : (a : ℕ) (remove : Bool) (f : Frame) → frame_at s a remove f ≡ frame_at (relist s ys) a remove f
  frame_same a remove f = by_option (λ z. z) (other_locker s.locks f a) _ _ _ _ (both_option (λ z. z) _ _ _ _ _ _ (named_same f) refl (λ x. refl)) (λ b. refl)

  frames_of_same : (c : Program) (a d : ℕ) (remove : Bool) (v n : ℕ) → due_frames_of c s a d remove v n ≡ due_frames_of c (relist s ys) a d remove v n
  frames_of_same c a d remove v n = by_test (λ z. z) (remove && not (s.places.withdrawn d)) _ _ _ _ refl (by_option (λ z. z) (held_from c s.places d v) _ _ _ _ refl (λ k. frame_same a remove (dev_frame d k)))

  frames_same : (c : Program) (a : ℕ) (o : Op) (v n : ℕ) → due_frames c s a o v n ≡ due_frames c (relist s ys) a o v n
  frames_same c a (Op.Evict d) v n = frames_of_same c a d false v n
  frames_same c a (Op.Remove d) v n = frames_of_same c a d true v n
  frames_same c a _ v n = refl

  others_same : (x : Option Frame) → others_of s x ≡ others_of (relist s ys) x
  others_same None = refl
  others_same (Some f) = both_option (λ z. z) _ _ _ _ _ _ (direct_same f) refl (λ x. refl)

  finish_page_same : (f g : Option Frame) (moved : Bool) → finish_page s f g moved ≡ finish_page (relist s ys) f g moved
  finish_page_same (Some f) to moved = finish_same f (if moved then to else None)
  finish_page_same None (Some g) moved = refl
  finish_page_same None None moved = refl

  step_same : (c : Program) (o : Op) (step : MoveStep) (x : Migrating) → due_step c s o step x ≡ due_step c (relist s ys) o step x
  step_same c o MoveStep.FreezeOthers x = others_same x.source
  step_same c o MoveStep.Finish x = finish_page_same x.source x.dest x.moved
  step_same c o step x = refl

  moves_same : (c : Program) (o : Op) (xs : List Migrating) (z : Option (MoveStep × Migrating)) → due_moves c s o xs z ≡ due_moves c (relist s ys) o xs z
  moves_same c o xs None = refl
  moves_same c o xs (Some at) = step_same c o at.0 at.1

  is_direct_same : (x : Option Frame) → is_direct s x ≡ is_direct (relist s ys) x
  is_direct_same None = refl
  is_direct_same (Some f) = ap (λ z. is_some z) (direct_same f)

  concerns_same : (o : Op) (step : MoveStep) (x : Migrating) → concerns s o step x ≡ concerns (relist s ys) o step x
  concerns_same o MoveStep.FreezeOthers x = is_direct_same x.source
  concerns_same o step x = refl

  come_same : (o : Op) (xs : List Migrating) (steps : List MoveStep) (next : ℕ) → come_to s o xs steps next ≡ come_to (relist s ys) o xs steps next
  come_same o xs [] next = refl
  come_same o xs (step ∷ steps) next = both_option (λ z. z) _ _ _ _ _ _ (ap (λ t. find t xs) (fun_ext (λ x. ap (λ b. nat_le next x.page && b) (concerns_same o step x)))) (come_same o xs steps 0) (λ x. refl)

  coming_same : (o : Op) (xs : List Migrating) (top : Phase) → coming s o xs top ≡ coming (relist s ys) o xs top
  coming_same o xs (Phase.Moves step v) = come_same o xs (steps_from step) v
  coming_same o xs _ = refl

  pub phase_same : (c : Program) (a : ℕ) (o : Op) (xs : List Migrating) (top : Phase) → due_phase c s a o xs top ≡ due_phase c (relist s ys) a o xs top
  phase_same c a o xs (Phase.Decide touch) = decide_same c a o touch (touch_proc s o) (touch_page o touch)
  phase_same c a o xs (Phase.Guard p r met told body) = ap Do (guard_same a o p r met told body)
  phase_same c a o xs (Phase.Emptying f at) = ap Do (alone_same c f at)
  phase_same c a o xs (Phase.Finish f to) = ap Do (finish_same f to)
  phase_same c a o xs (Phase.Settle g) = ap Do (settle_same g)
  phase_same c a o xs (Phase.Frames v n) = frames_same c a o v n
  phase_same c a o xs (Phase.Moves step v) = ap Do (moves_same c o xs (coming s o xs (Phase.Moves step v)) ∙ ap (λ z. due_moves c (relist s ys) o xs z) (coming_same o xs (Phase.Moves step v)))
  phase_same c a o xs _ = refl

  pub top_same : (c : Program) (a : ℕ) (x : Option Op) (xs : List Migrating) (l : List Phase) → due_top c s a x xs l ≡ due_top c (relist s ys) a x xs l
  top_same c a None xs [] = refl
  top_same c a None xs (top ∷ l) = refl
  top_same c a (Some o) xs [] = refl
  top_same c a (Some o) xs (top ∷ l) = ap (progress a) (phase_same c a o xs top)

  -- after a place both lists still have all pages
  placed_more : (p v q u : ℕ) (x : Place) (zs : List (ℕ × ℕ)) → (is_empty_place (s.places.place q u) ≡ false → list_any (is_page q u) zs ≡ true) → is_empty_place (with_place s.places.place p v x q u) ≡ false → list_any (is_page q u) (with_page p v zs) ≡ true
  placed_more p v q u x zs h e = by ((q == p) && (u == v)) refl e
    where
      at : (b : Bool) → ((q == p) && (u == v)) ≡ b → b ≡ true → is_page p v (q, u) ≡ true
      at b k t = k ∙ t

      by : (b : Bool) → ((q == p) && (u == v)) ≡ b → is_empty_place (if b then x else s.places.place q u) ≡ false → list_any (is_page q u) (with_page p v zs) ≡ true
      by true k d = listed_more p v q u zs (inl k)
      by false k d = listed_more p v q u zs (inr (h d))

  pub agree_place : (p v : ℕ) (x : Place) → Agree (with_place s.places.place p v x) (with_page p v s.places.placed) (with_page p v ys)
  agree_place p v x = record {
    left = λ q u e. placed_more p v q u x s.places.placed (ok.left q u) e;
    right = λ q u e. placed_more p v q u x ys (ok.right q u) e;
    left_once = still_distinct p v s.places.placed ok.left_once;
    right_once = still_distinct p v ys ok.right_once;
  }

left_same : (s : After) (ys : List (ℕ × ℕ)) (k : Locks) (f : Option Frame) → Agree s.places.place s.places.placed ys → left_behind k s.places f ≡ left_behind k (relist s ys).places f
left_same s ys k None ok = refl
left_same s ys k (Some f) ok = ap (λ z. if is_none (k.frame f) && is_none z then Some f else None) (named_same s ys ok f)

orphan_same : (s : After) (ys : List (ℕ × ℕ)) (k : Kind) → Agree s.places.place s.places.placed ys → orphan s.locks s.places k ≡ orphan s.locks (relist s ys).places k
orphan_same s ys (Kind.Place p v x) ok = left_same (record s { places = places_next s.places (Kind.Place p v x) }) (with_page p v ys) s.locks (names (s.places.place p v)) (agree_place s ys ok p v x)
orphan_same s ys _ ok = refl

seen_same : (s : After) (ys : List (ℕ × ℕ)) (o : Op) (xs : List Migrating) (top : Phase) (k : Kind) → Agree s.places.place s.places.placed ys → seen_at s o xs top k ≡ seen_at (relist s ys) o xs top k
seen_same s ys o xs top k ok = ap (λ z. record { at = s.length; overlapped = seen_overlap s k; place = seen_place s o top k; orphan = z; page = coming_page (coming s o xs top) }) (orphan_same s ys k ok)
    ∙ ap (λ (z : Option (MoveStep × Migrating)). record { at = s.length; overlapped = seen_overlap s k; place = seen_place s o top k; orphan = orphan s.locks (relist s ys).places k; page = coming_page z }) (coming_same s ys ok o xs top)

going_same : (c : Program) (s : After) (ys : List (ℕ × ℕ)) (a : ℕ) (g : Going) (k : Kind) → Agree s.places.place s.places.placed ys → going_next c s a g k ≡ going_next c (relist s ys) a g k
going_same c s ys a g k ok = by (op_at c a g.index)
  where
    top : (o : Op) (l : List Phase) → going_top c s a g o l k ≡ going_top c (relist s ys) a g o l k
    top o [] = refl
    top o (x ∷ l) = ap (going_seen c a g o x k) (seen_same s ys o g.pages x k ok)

    by : (z : Option Op) → ◌≡◌ {A = Going} (elim z as (λ y. Going) [ None ↦ g | Some o ↦ going_top c s a g o g.stack k ]) (elim z as (λ y. Going) [ None ↦ g | Some o ↦ going_top c (relist s ys) a g o g.stack k ])
    by None = refl
    by (Some o) = top o g.stack

after_same : (s : After) (ys : List (ℕ × ℕ)) (a : ℕ) (k : Kind) → Agree s.places.place s.places.placed ys → relist (after_entry s (record { actor = a; kind = k })) [] ≡ relist (after_entry (relist s ys) (record { actor = a; kind = k })) []
after_same s ys a (Kind.Place p v x) ok = ap (λ z. record (relist (after_entry s (record { actor = a; kind = Kind.Place p v x })) []) { locks = record { map = s.locks.map; frame = with_lock (frame_placed s.locks (s.places.place p v) a x) z (Some a) } }) (orphan_same s ys (Kind.Place p v x) ok)
after_same s ys a k ok = refl

-- whole states
pub due_relisted : (c : Program) (u : State) (ys : List (ℕ × ℕ)) (a : ℕ) → Agree u.after.places.place u.after.places.placed ys → due_in c u a ≡ due_in c (restate u ys) a
due_relisted c u ys a ok = top_same u.after ys ok c a (op_at c a (u.going a).index) (u.going a).pages (u.going a).stack

pub next_relisted : (c : Program) (u : State) (ys : List (ℕ × ℕ)) (e : Entry) → Agree u.after.places.place u.after.places.placed ys → restate (state_next c u e) [] ≡ restate (state_next c (restate u ys) e) []
next_relisted c u ys e ok = ap (λ (z : After). record { after = z; going = (state_next c u e).going }) (after_same u.after ys e.actor e.kind ok)
    ∙ ap (λ (z : Going). record { after = relist (after_entry (relist u.after ys) e) []; going = with_at u.going e.actor z }) (going_same c u.after ys e.actor (u.going e.actor) e.kind ok)
