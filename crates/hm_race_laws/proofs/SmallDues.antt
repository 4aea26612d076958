-- What is due does not depend on how high sequences are.
use Rattle.std.proofs.Common.{◌≡◌, ℕ, ◌≤◌, Bool, true, false, ◌==◌, not, ◌&&◌, ◌||◌, if◌then◌else◌, nat_le, is_none, is_some, Option, Some, None, List, [], ◌∷◌, refl, sym, ap, ◌∙◌, subst, find, arith}
use Rattle.std.proofs.lemmas.Bool.Decides.{nat_tests}
use mathlib.Core.Path.{fun_ext}
use Rattle.hm_base.specs.Pages.{Pages, one_page}
use Rattle.hm_base.specs.Program.{Program}
use Rattle.hm_base.specs.declared.Frame.{Frame}
use Rattle.hm_base.specs.declared.Place.{Place}
use Rattle.hm_base.specs.declared.ops.Op.{Op}
use Rattle.hm_history.specs.Memory.Words.{page_of, dev_frame}
use Rattle.hm_history.specs.Memory.Plain.{MirrorState, rights_of, is_read_only, area_refusal, meets, mirror_proc, mirror_dev, in_window, is_attached}
use Rattle.hm_history.specs.Memory.Places.{lowest_direct, lowest_named, held_from}
use Rattle.hm_history.specs.Memory.Sequences.{Sequences, Interval, is_odd, insert_deferred, interval_seq}
use Rattle.hm_history.specs.Memory.Locks.{other_locker}
use Rattle.hm_history.specs.Memory.After.{After}
use Rattle.hm_history.specs.Kernel.Operation.{op_piece, op_mirror, op_writes, is_to_device}
use Rattle.hm_history.specs.Kernel.Going.{State, op_at, touch_page, touch_proc, coming, steps_from, come_to, concerns}
use Rattle.hm_history.specs.Kernel.Due.{start_entry, is_usable, begin_look_up, due_mirror, due_piece, bring_home, suits, suits_walk, fault_at, fault, due_sole, due_decide, due_taken, repeats, is_invalidating, process_seq, due_guard, to_tell, body_or_end, due_body, due_emptying, frame_at, due_frames_of, due_frames, others_of, commit_page, has_no_frame, due_step, due_moves, due_attach, due_detach, due_begin, due_areas, due_locked, due_ready, proc_of_op, due_phase, due_top, due_in, progress}
use Rattle.hm_history.specs.declared.KeptAt.{KeptAt}
use Rattle.hm_history.specs.declared.Kind.{Kind}
use Rattle.hm_history.specs.declared.phases.Migrating.{Migrating}
use Rattle.hm_history.specs.declared.phases.MoveStep.{MoveStep}
use Rattle.hm_history.specs.declared.phases.Touch.{Touch}
use Rattle.hm_history.specs.declared.phases.Touch.TheVariants.{Cpu, Walk, Sole}
use Rattle.hm_history.specs.declared.phases.Body.{Body}
use Rattle.hm_history.specs.declared.phases.Phase.{Phase}
use Rattle.hm_history.specs.declared.phases.Next.{Next}
use Rattle.hm_history.specs.declared.phases.Next.TheVariants.{Do, Wait}
use Rattle.hm_laws.specs.Sound.{SequenceRules, MirrorRules, Paired}
use Rattle.hm_race_laws.specs.Numbers.{small, small_of, small_interval, small_sequences, small_after, small_noted, small_touch, small_phase, small_stack, mirror_of, small_state, small_kind, small_next, small_progress}
use Rattle.hm_race_laws.proofs.Gone.{by_test, by_option, both_test, both_option}
use Rattle.hm_race_laws.proofs.SmallWords.{parity, tells, next_told_same, in_tree_same, deferred_same}

-- the rules that make small sequences enough
pub record Ruled (s : After) : Type 0 where
  pub sequences : SequenceRules s.sequences
  pub mirrors : MirrorRules s.plain.mirrors s.sequences.interval s.places.device

abbrev Same : Next → Next → Type 0
Same x y = small_next x ≡ small_next y

abbrev SameKind : Kind → Kind → Type 0
SameKind x y = small_kind x ≡ small_kind y

-- what is asked
pub invalidating_same : (s : After) (m : ℕ) → Ruled s → is_invalidating s m ≡ is_invalidating (small_after s) m
invalidating_same s m so = by (s.plain.mirrors m) (s.sequences.interval m) refl (so.mirrors.paired m)
  where
    none : (n : ℕ) → 2 ≤ n → (0 == n) ≡ (0 == small n)
    none n h = no ∙ sym (small_no (is_odd n))
      where
        no : (0 == n) ≡ false
        no = grind (arith, nat_tests)

        small_no : (b : Bool) → (0 == (if b then 3 else 2)) ≡ false
        small_no true = refl
        small_no false = refl

    by : (x : Option MirrorState) (y : Option Interval) → s.sequences.interval m ≡ y → Paired x y (s.places.device m) →
        ◌≡◌ {A = Bool} (elim y as (λ z. ℕ) [ None ↦ 0 | Some z ↦ z.seq ] == s.sequences.seq (elim x as (λ z. ℕ) [ None ↦ 0 | Some z ↦ z.proc ])) (elim (small_interval s.sequences.seq y) as (λ z. ℕ) [ None ↦ 0 | Some z ↦ z.seq ] == small (s.sequences.seq (elim x as (λ z. ℕ) [ None ↦ 0 | Some z ↦ z.proc ])))
    by None None e p = none (s.sequences.seq 0) (so.sequences.positive 0)
    by None (Some y) e p = absurd p
    by (Some x) None e p = absurd p
    by (Some x) (Some y) e p = subst (λ q. (y.seq == s.sequences.seq q) ≡ (small_of (y.seq == s.sequences.seq y.proc) == small (s.sequences.seq q))) p.proc (sym (tells y.seq (s.sequences.seq y.proc) (so.sequences.odd_seq m y e)))

pub noted_same : (s : Sequences) (m q : ℕ) → (interval_seq s m == q) ≡ (interval_seq (small_sequences s) m == small_noted s m q)
noted_same s m q = sym (by (interval_seq s m == q))
  where
    itself : (n : ℕ) → (n == n) ≡ true
    itself n = grind (arith, nat_tests)

    of : (b : Bool) → (small_of b == 5) ≡ false
    of true = refl
    of false = refl

    not_five : (z : Option Interval) → (elim (small_interval s.seq z) as (λ y. ℕ) [ None ↦ 0 | Some x ↦ x.seq ] == 5) ≡ false
    not_five None = refl
    not_five (Some x) = of (x.seq == s.seq x.proc)

    by : (b : Bool) → (interval_seq (small_sequences s) m == (if b then interval_seq (small_sequences s) m else 5)) ≡ b
    by true = itself (interval_seq (small_sequences s) m)
    by false = not_five (s.interval m)

pub repeats_same : (s : After) (m q : ℕ) → repeats s m q ≡ repeats (small_after s) m (small_noted s.sequences m q)
repeats_same s m q = ap (λ b. not (is_attached s.plain m) || not b) (noted_same s.sequences m q)

pub touched_page : (s : Sequences) (m : ℕ) (o : Op) (x : Touch) → touch_page o x ≡ touch_page o (small_touch s m x)
touched_page s m (Op.Exclusive n v) x = refl
touched_page s m _ (Cpu k) = refl
touched_page s m _ (Walk k at q) = refl
touched_page s m _ Sole = refl

-- accesses
begins_same : (s : After) (m : ℕ) → Ruled s → Same (begin_look_up s m) (begin_look_up (small_after s) m)
begins_same s m so = both_test small_next _ _ _ _ _ _ (invalidating_same s m so) refl refl

mirror_same : (s : After) (o : Op) (k m : ℕ) → Ruled s → Same (due_mirror s o k m) (due_mirror (small_after s) o k m)
mirror_same s o k m so = by_test small_next (in_window s.plain m (one_page (page_of (op_piece o k).0))) _ _ _ _ (by_test small_next (is_usable (op_writes o) (s.places.table m (page_of (op_piece o k).0))) _ _ _ _ refl (begins_same s m so)) refl

piece_same : (s : After) (a : ℕ) (o : Op) (k : ℕ) → Ruled s → Same (due_piece s a o k) (due_piece (small_after s) a o k)
piece_same s a (Op.DeviceLoad m at n) k so = mirror_same s (Op.DeviceLoad m at n) k m so
piece_same s a (Op.DeviceStore m at bs) k so = mirror_same s (Op.DeviceStore m at bs) k m so
piece_same s a _ k so = refl

home_same : (s : After) (a p v : ℕ) (f : Frame) → Same (bring_home s a p v f) (bring_home (small_after s) a p v f)
home_same s a p v f = by_option small_next (other_locker s.locks f a) _ _ _ _ refl (λ b. refl)

fault_at_same : (c : Program) (s : After) (a : ℕ) (o : Op) (k p v : ℕ) (x : Place) → Same (fault_at c s a o k p v x) (fault_at c (small_after s) a o k p v x)
fault_at_same c s a o k p v (Place.Own d n w) = home_same s a p v (dev_frame d n)
fault_at_same c s a o k p v _ = refl

fault_same : (c : Program) (s : After) (a : ℕ) (o : Op) (k : ℕ) (t : Place → Bool) (p v : ℕ) → Same (fault c s a o k t p v) (fault c (small_after s) a o k t p v)
fault_same c s a o k t p v = by_test small_next (is_none (rights_of s.plain p v)) _ _ _ _ refl (by_test small_next (op_writes o && is_read_only (rights_of s.plain p v)) _ _ _ _ refl (by_test small_next (t (s.places.place p v)) _ _ _ _ refl (fault_at_same c s a o k p v (s.places.place p v))))

sole_same : (c : Program) (s : After) (a : ℕ) (o : Op) (m p v : ℕ) (x : Place) → Ruled s → Same (due_sole c s a o m p v x) (due_sole c (small_after s) a o m p v x)
sole_same c s a o m p v (Place.Exclusive n b) so = by_test small_next (a == b) _ _ _ _ (both_test small_next _ _ _ _ _ _ (invalidating_same s m so) refl refl) (fault_same c s a o 0 (suits true) p v)
sole_same c s a o m p v (Place.Sys n true) so = refl
sole_same c s a o m p v (Place.Sys n false) so = fault_same c s a o 0 (suits true) p v
sole_same c s a o m p v _ so = fault_same c s a o 0 (suits true) p v

decide_same : (c : Program) (s : After) (a : ℕ) (o : Op) (touch : Touch) (p v : ℕ) → Ruled s → Same (due_decide c s a o touch p v) (due_decide c (small_after s) a o (small_touch s.sequences (op_mirror o) touch) p v)
decide_same c s a o (Cpu k) p v so = fault_same c s a o k (suits (op_writes o)) p v
decide_same c s a o (Walk k at q) p v so = both_test small_next _ _ _ _ _ _ (repeats_same s (op_mirror o) q) refl (fault_same c s a o k (suits_walk (mirror_dev s.plain (op_mirror o)) (op_writes o)) p v)
decide_same c s a o Sole p v so = by_test small_next (is_attached s.plain (op_mirror o)) _ _ _ _ (sole_same c s a o (op_mirror o) p v (s.places.place p v) so) refl

-- guards
to_tell_same : (s : After) (p : ℕ) (r : Pages) (met : Bool) (told : Option ℕ) → to_tell s p r met told ≡ to_tell (small_after s) p r met told
to_tell_same s p r true told = sym (next_told_same s.sequences p r told)
to_tell_same s p r false told = refl

end_same : (s : After) (p : ℕ) (r : Pages) (x : Option Kind) → SameKind (body_or_end s p r x) (body_or_end (small_after s) p r x)
end_same s p r None = refl
end_same s p r (Some k) = refl

guard_same : (s : After) (a : ℕ) (o : Op) (p : ℕ) (r : Pages) (met : Bool) (told : Option ℕ) (body : Body) → SameKind (due_guard s a o p r met told body) (due_guard (small_after s) a o p r met told body)
guard_same s a o p r met told body = both_option small_kind _ _ _ _ _ _ (to_tell_same s p r met told) (end_same s p r (due_body s a o p r (s.places.place p r.first) body)) (λ m. refl)

-- frames and migrations
alone_same : (c : Program) (s : After) (f : Frame) (at : KeptAt) → SameKind (due_emptying c s f at) (due_emptying c (small_after s) f at)
alone_same c s f at = by_option small_kind (lowest_direct s.places f) _ _ _ _ refl (λ x. refl)

frame_same : (s : After) (a : ℕ) (remove : Bool) (f : Frame) → Same (frame_at s a remove f) (frame_at (small_after s) a remove f)
frame_same s a remove f = by_option small_next (other_locker s.locks f a) _ _ _ _ (by_option small_next (lowest_named s.places f) _ _ _ _ refl (λ x. refl)) (λ b. refl)

frames_of_same : (c : Program) (s : After) (a d : ℕ) (remove : Bool) (v n : ℕ) → Same (due_frames_of c s a d remove v n) (due_frames_of c (small_after s) a d remove v n)
frames_of_same c s a d remove v n = by_test small_next (remove && not (s.places.withdrawn d)) _ _ _ _ refl (by_option small_next (held_from c s.places d v) _ _ _ _ refl (λ k. frame_same s a remove (dev_frame d k)))

frames_same : (c : Program) (s : After) (a : ℕ) (o : Op) (v n : ℕ) → Same (due_frames c s a o v n) (due_frames c (small_after s) a o v n)
frames_same c s a (Op.Evict d) v n = frames_of_same c s a d false v n
frames_same c s a (Op.Remove d) v n = frames_of_same c s a d true v n
frames_same c s a _ v n = refl

others_same : (s : After) (x : Option Frame) → SameKind (others_of s x) (others_of (small_after s) x)
others_same s None = refl
others_same s (Some f) = by_option small_kind (lowest_direct s.places f) _ _ _ _ refl (λ x. refl)

commit_same : (s : After) (p v : ℕ) (f g : Option Frame) → SameKind (commit_page s p v f g) (commit_page (small_after s) p v f g)
commit_same s p v (Some f) (Some g) = refl
commit_same s p v None (Some g) = by_test small_kind (has_no_frame (s.places.place p v)) _ _ _ _ refl refl
commit_same s p v None None = refl
commit_same s p v (Some f) None = refl

step_same : (c : Program) (s : After) (o : Op) (step : MoveStep) (x : Migrating) → SameKind (due_step c s o step x) (due_step c (small_after s) o step x)
step_same c s o MoveStep.FreezeOthers x = others_same s x.source
step_same c s o MoveStep.Commit x = commit_same s (mirror_proc s.plain (op_mirror o)) x.page x.source x.dest
step_same c s o step x = refl

moves_same : (c : Program) (s : After) (o : Op) (xs : List Migrating) (z : Option (MoveStep × Migrating)) → SameKind (due_moves c s o xs z) (due_moves c (small_after s) o xs z)
moves_same c s o xs None = refl
moves_same c s o xs (Some at) = step_same c s o at.0 at.1

concerns_same : (s : After) (o : Op) (step : MoveStep) (x : Migrating) → Ruled s → concerns s o step x ≡ concerns (small_after s) o step x
concerns_same s o MoveStep.SetOwnTable x so = ap (λ b. is_to_device o && (x.moved && (is_attached s.plain (op_mirror o) && not b))) (invalidating_same s (op_mirror o) so)
concerns_same s o step x so = refl

come_same : (s : After) (o : Op) (xs : List Migrating) (steps : List MoveStep) (next : ℕ) → Ruled s → come_to s o xs steps next ≡ come_to (small_after s) o xs steps next
come_same s o xs [] next so = refl
come_same s o xs (step ∷ steps) next so = both_option (λ z. z) _ _ _ _ _ _ (ap (λ t. find t xs) (fun_ext (λ x. ap (λ b. nat_le next x.page && b) (concerns_same s o step x so)))) (come_same s o xs steps 0 so) (λ x. refl)

pub coming_same : (s : After) (o : Op) (xs : List Migrating) (top : Phase) → Ruled s → coming s o xs top ≡ coming (small_after s) o xs (small_phase s.sequences (op_mirror o) top)
coming_same s o xs (Phase.Moves step v) so = come_same s o xs (steps_from step) v so
coming_same s o xs _ so = refl

-- the first steps
attach_same : (s : After) (m d p : ℕ) (r : Pages) → SameKind (due_attach s m d p r) (due_attach (small_after s) m d p r)
attach_same s m d p r = by_test small_kind (is_some (s.plain.mirrors m)) _ _ _ _ refl (by_test small_kind (s.plain.there p) _ _ _ _ refl refl)

detach_same : (s : After) (m : ℕ) → SameKind (due_detach s m) (due_detach (small_after s) m)
detach_same s m = by_test small_kind (is_attached s.plain m) _ _ _ _ (both_test small_kind _ _ _ _ _ _ (ap (λ b. not b || insert_deferred s.sequences m) (sym (parity (process_seq s m))) ∙ ap (λ b. not (is_odd (small (process_seq s m))) || b) (sym (deferred_same s.sequences m))) refl refl) refl

begin_same : (s : After) (a : ℕ) (o : Op) → Same (due_begin s a o) (due_begin (small_after s) a o)
begin_same s a (Op.Attach m d p r) = ap Do (attach_same s m d p r)
begin_same s a (Op.Detach m) = ap Do (detach_same s m)
begin_same s a _ = refl

areas_same : (s : After) (o : Op) → SameKind (due_areas s o) (due_areas (small_after s) o)
areas_same s (Op.Unmap p r) = by_test small_kind (meets r (s.plain.areas p)) _ _ _ _ refl refl
areas_same s _ = refl

locked_same : (s : After) (o : Op) → SameKind (due_locked s o) (due_locked (small_after s) o)
locked_same s o = by_test small_kind (s.plain.there (proc_of_op o)) _ _ _ _ (by_option small_kind (area_refusal s.plain o) _ _ _ _ (areas_same s o) (λ n. refl)) refl

ready_same : (s : After) (o : Op) → SameKind (due_ready s o) (due_ready (small_after s) o)
ready_same s (Op.Fork p c) = refl
ready_same s (Op.ToDevice m r) = refl
ready_same s (Op.ToSystem m r) = refl
ready_same s _ = refl

pub phase_same : (c : Program) (s : After) (a : ℕ) (o : Op) (xs : List Migrating) (top : Phase) → Ruled s → Same (due_phase c s a o xs top) (due_phase c (small_after s) a o xs (small_phase s.sequences (op_mirror o) top))
phase_same c s a o xs Phase.Begin so = begin_same s a o
phase_same c s a o xs Phase.Locked so = ap Do (locked_same s o)
phase_same c s a o xs Phase.Ready so = ap Do (ready_same s o)
phase_same c s a o xs (Phase.Detaching q) so = both_test small_next _ _ _ _ _ _ (sym (in_tree_same s.sequences (op_mirror o))) refl refl
phase_same c s a o xs (Phase.Piece k) so = piece_same s a o k so
phase_same c s a o xs (Phase.Decide touch) so = decide_same c s a o touch (touch_proc s o) (touch_page o touch) so ∙ ap (λ v. small_next (due_decide c (small_after s) a o (small_touch s.sequences (op_mirror o) touch) (touch_proc s o) v)) (touched_page s.sequences (op_mirror o) o touch)
phase_same c s a o xs (Phase.Noted k at q x) so = both_test small_next _ _ _ _ _ _ (repeats_same s (op_mirror o) q) refl refl
phase_same c s a o xs (Phase.Taken touch g x) so = ap (λ v. small_next (due_taken s g x (touch_proc s o) v)) (touched_page s.sequences (op_mirror o) o touch)
phase_same c s a o xs (Phase.Armed touch g x) so = ap (λ v. small_next (Do (start_entry s (touch_proc s o) (one_page v)))) (touched_page s.sequences (op_mirror o) o touch)
phase_same c s a o xs (Phase.Guard p r met told body) so = ap Do (guard_same s a o p r met told body)
phase_same c s a o xs (Phase.Emptying f at) so = ap Do (alone_same c s f at)
phase_same c s a o xs (Phase.Frames v n) so = frames_same c s a o v n
phase_same c s a o xs (Phase.GiveUp None) so = refl
phase_same c s a o xs (Phase.GiveUp (Some (Cpu k))) so = refl
phase_same c s a o xs (Phase.GiveUp (Some (Walk k at q))) so = refl
phase_same c s a o xs (Phase.GiveUp (Some Sole)) so = refl
phase_same c s a o xs (Phase.Moves step v) so = ap Do (moves_same c s o xs (coming s o xs (Phase.Moves step v)) ∙ ap (λ z. small_kind (due_moves c (small_after s) o xs z)) (coming_same s o xs (Phase.Moves step v) so))
phase_same c s a o xs _ so = refl

progress_of : (a : ℕ) (x y : Next) → Same x y → small_progress (progress a x) ≡ small_progress (progress a y)
progress_of a x y h = left x ∙ (ap (progress a) h ∙ sym (left y))
  where
    left : (z : Next) → small_progress (progress a z) ≡ progress a (small_next z)
    left (Do k) = refl
    left (Wait y) = refl

top_same : (c : Program) (s : After) (a : ℕ) (x : Option Op) (xs : List Migrating) (st : List Phase) → Ruled s → small_progress (due_top c s a x xs st) ≡ small_progress (due_top c (small_after s) a x xs (small_stack s.sequences (mirror_of x) st))
top_same c s a None xs [] so = refl
top_same c s a None xs (top ∷ below) so = refl
top_same c s a (Some o) xs [] so = refl
top_same c s a (Some o) xs (top ∷ below) so = progress_of a _ _ (phase_same c s a o xs top so)

pub due_same : (c : Program) (u : State) (a : ℕ) → Ruled u.after → small_progress (due_in c u a) ≡ small_progress (due_in c (small_state c u) a)
due_same c u a so = top_same c u.after a (op_at c a (u.going a).index) (u.going a).pages (u.going a).stack so
