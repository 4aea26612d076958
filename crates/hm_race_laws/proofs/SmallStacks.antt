-- Stacks after entries, where noted sequences are told apart only by what is asked of them.
use Rattle.std.proofs.Common.{◌≡◌, ℕ, ◌+◌, Bool, true, false, if◌then◌else◌, nat_lt, Option, Some, None, List, [], ◌∷◌, refl, ap, ◌∙◌, length}
use Rattle.std.specs.Prelude.{⊤}
use Rattle.hm_base.specs.Pages.{Pages}
use Rattle.hm_base.specs.declared.Frame.{Frame}
use Rattle.hm_base.specs.declared.Place.{Place}
use Rattle.hm_base.specs.declared.ops.Op.{Op}
use Rattle.hm_history.specs.Kernel.Operation.{is_evicting, is_remove, op_pieces}
use Rattle.hm_history.specs.declared.KeptWhy.{KeptWhy}
use Rattle.hm_history.specs.Memory.Sequences.{Sequences}
use Rattle.hm_history.specs.Kernel.Stacks.{body_of_fault, with_guard, next_cursor, after_begin, after_locked, after_ready, after_answer, after_pages, after_top, after_piece, after_fetched, after_decide, after_taken, after_guard, after_emptying, after_copy, after_finish, after_frames, after_moves, after_migration, after_give_up, below_next, caught_next, frames_past, with_one_more, gives_up, after_body, dropping, first_touch, after_walk, with_frame_taken, told_mirror, is_end, is_added, body_next, page_of_entry, is_place_of, piece_ends, piece_of, finishing, copying, freezing, catching, number_of}
use Rattle.hm_history.specs.declared.KeptAt.{KeptAt}
use Rattle.hm_history.specs.declared.Kind.{Kind}
use Rattle.hm_history.specs.declared.phases.Migrating.{Migrating}
use Rattle.hm_history.specs.declared.phases.MoveStep.{MoveStep}
use Rattle.hm_history.specs.declared.phases.Seen.{Seen}
use Rattle.hm_history.specs.declared.phases.Touch.{Touch}
use Rattle.hm_history.specs.declared.phases.Touch.TheVariants.{Cpu, Walk, Sole}
use Rattle.hm_history.specs.declared.phases.Body.{Body}
use Rattle.hm_history.specs.declared.phases.Phase.{Phase}
use Rattle.hm_race_laws.specs.Numbers.{small_noted, small_touch, small_option, small_phase, small_stack, small_kind}
use Rattle.hm_race_laws.proofs.Gone.{if_two, option_two}

-- what of the kind does not change with its sequence
told_kind : (e : Kind) → told_mirror e ≡ told_mirror (small_kind e)
told_kind (Kind.Told m r q) = refl
told_kind (Kind.Begin m q) = refl
told_kind (Kind.Start p r q) = refl
told_kind (Kind.End p r q) = refl
told_kind (Kind.Attached m d p r q) = refl
told_kind (Kind.Detaching m q) = refl
told_kind _ = refl

end_kind : (e : Kind) → is_end e ≡ is_end (small_kind e)
end_kind (Kind.End p r q) = refl
end_kind _ = refl

page_kind : (e : Kind) → page_of_entry e ≡ page_of_entry (small_kind e)
page_kind (Kind.Kept (KeptAt.Page v) why) = refl
page_kind (Kind.Kept (KeptAt.Frame v) why) = refl
page_kind _ = refl

place_kind : (e : Kind) (p : ℕ) → is_place_of e p ≡ is_place_of (small_kind e) p
place_kind (Kind.Place q v x) p = refl
place_kind _ p = refl

body_kind : (body : Body) (p : ℕ) (e : Kind) → body_next body p e ≡ body_next body p (small_kind e)
body_kind (Body.Zap v) p e = ap (λ u. Body.Zap (u + 1)) (page_kind e)
body_kind (Body.Narrow v) p e = ap (λ u. Body.Narrow (u + 1)) (page_kind e)
body_kind (Body.Select v) p e = ap (λ u. Body.Select (u + 1)) (page_kind e)
body_kind (Body.Fork v half) p e = ap (λ b. if b then Body.Fork (page_of_entry e) true else Body.Fork (page_of_entry e + 1) false) (place_kind e p) ∙ ap (λ u. if is_place_of (small_kind e) p then Body.Fork u true else Body.Fork (u + 1) false) (page_kind e)
body_kind _ p e = refl

-- parts of phases and stacks
abbrev touch_in : Phase → Touch
touch_in (Phase.Begun k at q) = Walk k at q
touch_in (Phase.Decide touch) = touch
touch_in (Phase.Taken touch g x) = touch
touch_in (Phase.Armed touch g x) = touch
touch_in _ = Sole

abbrev touch_at : List Phase → Touch
touch_at [] = Sole
touch_at (x ∷ l) = touch_in x

abbrev rest_of : List Phase → List Phase
rest_of [] = []
rest_of (x ∷ l) = l

abbrev seq_of : Touch → ℕ
seq_of (Walk k at q) = q
seq_of _ = 0

three : {A B C : Type 0} (a b : A) (c d : B) (e f : C) → a ≡ b → c ≡ d → e ≡ f → ◌≡◌ {A = A × B × C} (a, c, e) (b, d, f)
three {A} {B} {C} a b c d e f p q r = first p ∙ (second q ∙ third r)
  where
    first : a ≡ b → ◌≡◌ {A = A × B × C} (a, c, e) (b, c, e)
    first h = ap {B = A × B × C} (λ z. (z, c, e)) h

    second : c ≡ d → ◌≡◌ {A = A × B × C} (b, c, e) (b, d, e)
    second h = ap {B = A × B × C} (λ z. (b, z, e)) h

    third : e ≡ f → ◌≡◌ {A = A × B × C} (b, d, e) (b, d, f)
    third h = ap {B = A × B × C} (λ z. (b, d, z)) h

module _ (s0 s1 s2 : Sequences) (m : ℕ) where
  abbrev pub Like : List Phase → List Phase → Type 0
  Like x y = small_stack s1 m x ≡ small_stack s2 m y

  abbrev pub KeptTouch : Touch → Type 0
  KeptTouch x = small_touch s1 m x ≡ small_touch s2 m (small_touch s0 m x)

  abbrev pub KeptPhase : Phase → Type 0
  KeptPhase x = small_phase s1 m x ≡ small_phase s2 m (small_phase s0 m x)

  abbrev pub KeptStack : List Phase → Type 0
  KeptStack l = Like l (small_stack s0 m l)

  -- a look-up that begins notes what the interval has
  abbrev pub BeginsWell : Kind → Type 0
  BeginsWell (Kind.Begin n q) = small_noted s1 m q ≡ small_noted s2 m 1
  BeginsWell e = ⊤

  abbrev pub BeginsAt : Phase → Kind → Type 0
  BeginsAt (Phase.Piece n) e = BeginsWell e
  BeginsAt (Phase.Fetched n) e = BeginsWell e
  BeginsAt (Phase.Begun n at q) e = BeginsWell e
  BeginsAt x e = ⊤

  opened_like : (k : Kind) (seen : Seen) (body : Body) (l n : List Phase) → Like l n → Like (with_guard k seen body l) (with_guard (small_kind k) seen body n)
  opened_like (Kind.Start p r q) seen body l n h = ap (λ z. (Phase.Guard p r seen.overlapped None body) ∷ z) h
  opened_like _ seen body l n h = h

  ends_like : (o : Op) (k : ℕ) → Like (piece_ends o k) (piece_ends o k)
  ends_like o k = if_two (small_stack s1 m) (small_stack s2 m) (nat_lt (k + 1) (length (op_pieces o))) _ _ _ _ refl refl

  piece_like : (o : Op) (k : ℕ) (touch : Touch) (e : Kind) (seen : Seen) → KeptTouch touch → BeginsWell e → Like (after_piece o k touch e seen) (after_piece o k (small_touch s0 m touch) (small_kind e) seen)
  piece_like o k touch (Kind.Rlock p) seen h b = ap (λ z. Phase.Decide z ∷ []) h
  piece_like o k touch (Kind.Begin n q) seen h b = ap (λ z. Phase.Begun k seen.at z ∷ []) b
  piece_like o k touch (Kind.Loaded x a bs) seen h b = ends_like o k
  piece_like o k touch (Kind.Stored x a bs) seen h b = ends_like o k
  piece_like o k touch (Kind.Failed x a n c) seen h b = ends_like o k
  piece_like o k touch _ seen h b = refl

  first_kept : (o : Op) (k : ℕ) → KeptTouch (first_touch o k)
  first_kept (Op.Add n a v) k = refl
  first_kept _ k = refl

  first_same : (o : Op) (k : ℕ) → small_touch s0 m (first_touch o k) ≡ first_touch o k
  first_same (Op.Add n a v) k = refl
  first_same _ k = refl

  first_like : (o : Op) (k : ℕ) (e : Kind) (seen : Seen) → BeginsWell e → Like (after_piece o k (first_touch o k) e seen) (after_piece o k (first_touch o k) (small_kind e) seen)
  first_like o k e seen b = piece_like o k (first_touch o k) e seen (first_kept o k) b ∙ ap (λ t. small_stack s2 m (after_piece o k t (small_kind e) seen)) (first_same o k)

  added_kind : (e : Kind) → is_added e ≡ is_added (small_kind e)
  added_kind (Kind.Added n a w v) = refl
  added_kind _ = refl

  fetched_like : (o : Op) (e : Kind) (seen : Seen) → BeginsWell e → Like (after_fetched o e seen) (after_fetched o (small_kind e) seen)
  fetched_like o e seen b = if_two (small_stack s1 m) (small_stack s2 m) (is_added e) _ _ _ _ refl (piece_like o 0 Sole e seen refl b) ∙ ap (λ d. small_stack s2 m (if d then [] else after_piece o 0 Sole (small_kind e) seen)) (added_kind e)

  noted_like : (touch : Touch) (x : Place) → KeptTouch touch → Like (after_walk touch x ∷ []) (after_walk (small_touch s0 m touch) x ∷ [])
  noted_like (Cpu k) x h = refl
  noted_like (Walk k at q) x h = ap (λ z. Phase.Noted k at z x ∷ []) (ap seq_of h)
  noted_like Sole x h = refl

  taken_like : (touch : Touch) (g : Frame) (x : Place) → KeptTouch touch → Like (with_frame_taken touch g x ∷ []) (with_frame_taken (small_touch s0 m touch) g x ∷ [])
  taken_like touch g Place.Zero h = ap (λ z. Phase.Armed z g Place.Zero ∷ []) h
  taken_like touch g x h = ap (λ z. Phase.Taken z g x ∷ []) h

  piece_kept : (touch : Touch) → piece_of touch ≡ piece_of (small_touch s0 m touch)
  piece_kept (Cpu k) = refl
  piece_kept (Walk k at q) = refl
  piece_kept Sole = refl

  decide_like : (o : Op) (touch : Touch) (e : Kind) (seen : Seen) → KeptTouch touch → Like (after_decide o touch e seen) (after_decide o (small_touch s0 m touch) (small_kind e) seen)
  decide_like o touch (Kind.Failed x a n c) seen h = ends_like o (piece_of touch) ∙ ap (λ k. small_stack s2 m (piece_ends o k)) (piece_kept touch)
  decide_like o touch (Kind.Retry n) seen h = ap (λ k. Phase.Piece k ∷ []) (piece_kept touch)
  decide_like o touch (Kind.Runlock p) seen h = noted_like touch seen.place h
  decide_like o touch (Kind.Take g) seen h = taken_like touch g seen.place h
  decide_like o touch (Kind.Place p v x) seen h = ap (λ z. Phase.Decide z ∷ []) h
  decide_like o touch (Kind.Start p r q) seen h = ap (λ z. Phase.Guard p r seen.overlapped None (body_of_fault seen.place) ∷ Phase.Decide z ∷ []) h
  decide_like o touch _ seen h = refl

  taken_next : (touch : Touch) (g : Frame) (x : Place) (e : Kind) → KeptTouch touch → Like (after_taken touch g x e) (after_taken (small_touch s0 m touch) g x (small_kind e))
  taken_next touch g x (Kind.Copied f i k) h = ap (λ z. Phase.Armed z g x ∷ []) h
  taken_next touch g x _ h = ap (λ z. Phase.Decide z ∷ []) h

  past_like : (f : Frame) (l : List Phase) → KeptStack l → Like (frames_past f l) (frames_past f (small_stack s0 m l))
  past_like f [] h = refl
  past_like f (Phase.Frames v n ∷ l) h = ap (λ z. Phase.Frames (f.number + 1) n ∷ rest_of z) h
  past_like f (x ∷ l) h = h

  counted_like : (l : List Phase) → KeptStack l → Like (with_one_more l) (with_one_more (small_stack s0 m l))
  counted_like [] h = refl
  counted_like (Phase.Frames v n ∷ l) h = ap (λ z. Phase.Frames v (n + 1) ∷ rest_of z) h
  counted_like (x ∷ l) h = h

  caught_like : (o : Op) (f : Frame) (r : Pages) (l : List Phase) → KeptStack l → Like (caught_next o f r l) (caught_next o f r (small_stack s0 m l))
  caught_like o f r l h = if_two (small_stack s1 m) (small_stack s2 m) (is_evicting o) _ _ _ _ (ap (λ z. Phase.Emptying f (KeptAt.Frame f) ∷ z) (past_like f l h)) (ap (λ z. Phase.Emptying f (KeptAt.Page r.first) ∷ z) h)

  below_next_like : (o : Op) (body : Body) (r : Pages) (l : List Phase) → KeptStack l → Like (below_next o body r l) (below_next o body r (small_stack s0 m l))
  below_next_like o (Body.Catch f) r l h = caught_like o f r l h
  below_next_like o _ r l h = h

  ended_like : (body : Body) (r : Pages) (l : List Phase) → KeptStack l → Like (after_body body r l) (after_body body r (small_stack s0 m l))
  ended_like (Body.Replace over g) r l h = ap (λ z. Phase.Drop g ∷ z) h
  ended_like (Body.Fresh g) r l h = ap (λ z. Phase.Lost r.first g ∷ z) h
  ended_like _ r l h = h

  dropping_like : (x : Option Frame) (l n : List Phase) → Like l n → Like (dropping x l) (dropping x n)
  dropping_like None l n h = h
  dropping_like (Some f) l n h = ap (λ z. Phase.Drop f ∷ z) h

  guard_like : (o : Op) (p : ℕ) (r : Pages) (met : Bool) (told : Option ℕ) (body : Body) (l : List Phase) (e : Kind) (seen : Seen) → KeptStack l → Like (after_guard o p r met told body l e seen) (after_guard o p r met told body (small_stack s0 m l) (small_kind e) seen)
  guard_like o p r met told body l e seen h = option_two (small_stack s1 m) (small_stack s2 m) (told_mirror e) _ _ _ _
      (if_two (small_stack s1 m) (small_stack s2 m) (is_end e) _ _ _ _ (ended_like body r l h) (dropping_like seen.orphan _ _ (ap (λ z. Phase.Guard p r met told (body_next body p e) ∷ z) (below_next_like o body r l h))))
      (λ k. ap (λ z. Phase.Guard p r met (Some k) body ∷ z) h)
      ∙ ap (λ (d : Bool × Option ℕ × Body). small_stack s2 m (elim d.1 [ Some k ↦ Phase.Guard p r met (Some k) body ∷ small_stack s0 m l | None ↦ if d.0 then after_body body r (small_stack s0 m l) else dropping seen.orphan (Phase.Guard p r met told d.2 ∷ below_next o body r (small_stack s0 m l)) ])) (three _ _ _ _ _ _ (end_kind e) (told_kind e) (body_kind body p e))

  gives_up_like : (o : Op) (l : List Phase) → KeptStack l → Like (gives_up o l) (gives_up o (small_stack s0 m l))
  gives_up_like o [] h = refl
  gives_up_like o (Phase.Decide touch ∷ l) h = ap (λ z. Phase.GiveUp (Some (touch_at z)) ∷ []) h
  gives_up_like o (Phase.Frames v n ∷ l) h = by (is_remove o)
    where
      by : (b : Bool) → small_stack s1 m (elim (if b then Some (Phase.GiveUp None) else None) [ Some y ↦ y ∷ [] | None ↦ Phase.Frames v n ∷ l ]) ≡ small_stack s2 m (elim (if b then Some (Phase.GiveUp None) else None) [ Some y ↦ y ∷ [] | None ↦ Phase.Frames v n ∷ small_stack s0 m l ])
      by true = refl
      by false = h
  gives_up_like o (x ∷ l) h = h

  alone_like : (o : Op) (f : Frame) (at : KeptAt) (l : List Phase) (e : Kind) (seen : Seen) → KeptStack l → Like (after_emptying o f at l e seen) (after_emptying o f at (small_stack s0 m l) (small_kind e) seen)
  alone_like o f at l (Kind.Start p r q) seen h = ap (λ z. Phase.Guard p r seen.overlapped None (Body.Freeze f) ∷ Phase.Emptying f at ∷ z) h
  alone_like o f at l (Kind.Take g) seen h = ap (λ z. Phase.Copy f g 0 ∷ Phase.Copied f g ∷ z) h
  alone_like o f at l _ seen h = ap (λ z. Phase.Finish f None ∷ z) (gives_up_like o l h)

  copy_like : (f g : Frame) (k : ℕ) (l : List Phase) → KeptStack l → Like (after_copy f g k l) (after_copy f g k (small_stack s0 m l))
  copy_like f g k l h = if_two (small_stack s1 m) (small_stack s2 m) (nat_lt k 7) _ _ _ _ (ap (λ z. Phase.Copy f g (k + 1) ∷ z) h) h

  finish_like : (f : Frame) (to : Option Frame) (l n : List Phase) (e : Kind) → Like l n → Like (after_finish f to l e) (after_finish f to n (small_kind e))
  finish_like f to l n (Kind.Place p v x) h = ap (λ z. Phase.Finish f to ∷ z) h
  finish_like f None l n (Kind.Drop k) h = h
  finish_like f (Some g) l n (Kind.Drop k) h = ap (λ z. Phase.Settle g ∷ z) h
  finish_like f None l n _ h = h
  finish_like f (Some g) l n _ h = h

  give_up_like : (o : Op) (touch : Option Touch) (e : Kind) → Like (after_give_up o touch e) (after_give_up o (small_option s0 m touch) (small_kind e))
  give_up_like o None (Kind.Failed x a n c) = ends_like o 0
  give_up_like o (Some touch) (Kind.Failed x a n c) = ends_like o (piece_of touch) ∙ ap (λ k. small_stack s2 m (piece_ends o k)) (piece_kept touch)
  give_up_like o None _ = refl
  give_up_like o (Some touch) _ = refl

  begin_like : (o : Op) (e : Kind) → Like (after_begin o e) (after_begin o (small_kind e))
  begin_like (Op.Snap n r) (Kind.Rlock p) = refl
  begin_like (Op.Exclusive n v) (Kind.Rlock p) = refl
  begin_like _ (Kind.Rlock p) = refl
  begin_like o _ = refl

  body_of_like : (o : Op) (e : Kind) (seen : Seen) → Like (after_locked o e seen) (after_locked o (small_kind e) seen)
  body_of_like o (Kind.Start p r q) seen = refl
  body_of_like o _ seen = refl

  ready_like : (o : Op) (e : Kind) (seen : Seen) → Like (after_ready o e seen) (after_ready o (small_kind e) seen)
  ready_like (Op.Fork p c) e seen = opened_like e seen (Body.Fork 0 false) _ _ refl
  ready_like (Op.ToDevice n r) e seen = opened_like e seen (Body.Select r.first) _ _ refl
  ready_like (Op.ToSystem n r) e seen = opened_like e seen (Body.Select r.first) _ _ refl
  ready_like _ e seen = refl

  answer_like : (e : Kind) → Like (after_answer e) (after_answer (small_kind e))
  answer_like (Kind.Runlock p) = refl
  answer_like _ = refl

  pages_like : (e : Kind) → Like (after_pages e) (after_pages (small_kind e))
  pages_like (Kind.Seen n v c) = refl
  pages_like _ = refl

  finishing_like : (x : Migrating) (e : Kind) → Like (finishing x e) (finishing x (small_kind e))
  finishing_like x e = by x.source
    where
      by : (y : Option Frame) → small_stack s1 m (elim y [ None ↦ Phase.Moves MoveStep.Finish (x.page + 1) ∷ [] | Some f ↦ after_finish f (if x.moved then x.dest else None) (Phase.Moves MoveStep.Finish (x.page + 1) ∷ []) e ]) ≡ small_stack s2 m (elim y [ None ↦ Phase.Moves MoveStep.Finish (x.page + 1) ∷ [] | Some f ↦ after_finish f (if x.moved then x.dest else None) (Phase.Moves MoveStep.Finish (x.page + 1) ∷ []) (small_kind e) ])
      by None = refl
      by (Some f) = finish_like f (if x.moved then x.dest else None) _ _ e refl

  moves_like : (step : MoveStep) (x : Migrating) (e : Kind) (seen : Seen) → Like (after_moves step x e seen) (after_moves step x (small_kind e) seen)
  moves_like step x (Kind.Start p r q) seen = ap (λ z. Phase.Guard p r seen.overlapped None (freezing step x.source x.dest) ∷ z) (on_like step x.page)
    where
      on_like : (step : MoveStep) (v : ℕ) → Like (next_cursor step v ∷ []) (next_cursor step v ∷ [])
      on_like MoveStep.FreezeOthers v = refl
      on_like step v = refl
  moves_like step x (Kind.Take g) seen = by x.source
    where
      by : (y : Option Frame) → Like (copying y g (Phase.Moves MoveStep.TakeAndCopy (x.page + 1) ∷ [])) (copying y g (Phase.Moves MoveStep.TakeAndCopy (x.page + 1) ∷ []))
      by None = refl
      by (Some f) = refl
  moves_like step x (Kind.Kept at KeptWhy.Lost) seen = dropping_like x.dest _ _ refl
  moves_like step x (Kind.Kept at why) seen = refl
  moves_like step x (Kind.Committed f g) seen = refl
  moves_like step x (Kind.Set n v f w from) seen = refl
  moves_like step x e seen = finishing_like x e

  migration_like : (step : MoveStep) (x : Option Migrating) (e : Kind) (seen : Seen) → Like (after_migration step x e seen) (after_migration step x (small_kind e) seen)
  migration_like step None e seen = refl
  migration_like step (Some x) e seen = moves_like step x e seen

  catching_like : (x : Option Frame) (p : ℕ) (r : Pages) (b : Bool) (n : ℕ) → Like (Phase.Guard p r b None (catching x) ∷ Phase.Frames (number_of x) n ∷ []) (Phase.Guard p r b None (catching x) ∷ Phase.Frames (number_of x) n ∷ [])
  catching_like x p r b n = refl

  frames_like : (v n : ℕ) (e : Kind) (seen : Seen) → Like (after_frames v n e seen) (after_frames v n (small_kind e) seen)
  frames_like v n (Kind.Start p r q) seen = refl
  frames_like v n (Kind.Kept (KeptAt.Frame f) why) seen = refl
  frames_like v n (Kind.Kept (KeptAt.Page f) why) seen = refl
  frames_like v n (Kind.Withdrawn d) seen = refl
  frames_like v n _ seen = refl

  pub moved_like : (o : Op) (top : Phase) (l : List Phase) (e : Kind) (seen : Seen) → KeptPhase top → KeptStack l → BeginsAt top e → Like (after_top o top l e seen) (after_top o (small_phase s0 m top) (small_stack s0 m l) (small_kind e) seen)
  moved_like o Phase.Begin l e seen t h b = begin_like o e
  moved_like o Phase.Locked l e seen t h b = body_of_like o e seen
  moved_like o Phase.Ready l e seen t h b = ready_like o e seen
  moved_like o Phase.Answer l e seen t h b = answer_like e
  moved_like o (Phase.Detaching q) l e seen t h b = refl
  moved_like o (Phase.Pages v) l e seen t h b = pages_like e
  moved_like o (Phase.Piece n) l e seen t h b = first_like o n e seen b
  moved_like o (Phase.Fetched old) l e seen t h b = fetched_like o e seen b
  moved_like o (Phase.Begun n at q) l e seen t h b = piece_like o n (Walk n at q) e seen (ap touch_in t) b
  moved_like o (Phase.Decide touch) l e seen t h b = decide_like o touch e seen (ap touch_in t)
  moved_like o (Phase.Noted n at q x) l e seen t h b = refl
  moved_like o (Phase.Taken touch g x) l e seen t h b = taken_next touch g x e (ap touch_in t)
  moved_like o (Phase.Armed touch g x) l e seen t h b = opened_like e seen (Body.Replace x g) _ _ (ap (λ z. Phase.Decide (touch_in z) ∷ []) t)
  moved_like o (Phase.Guard p r met told body) l e seen t h b = guard_like o p r met told body l e seen h
  moved_like o (Phase.Drop f) l e seen t h b = h
  moved_like o (Phase.Emptying f at) l e seen t h b = alone_like o f at l e seen h
  moved_like o (Phase.Copy f g n) l e seen t h b = copy_like f g n l h
  moved_like o (Phase.Copied f g) l e seen t h b = ap (λ z. Phase.Finish f (Some g) ∷ z) (counted_like l h)
  moved_like o (Phase.Finish f to) l e seen t h b = finish_like f to l _ e h
  moved_like o (Phase.Settle g) l e seen t h b = h
  moved_like o (Phase.GiveUp touch) l e seen t h b = give_up_like o touch e
  moved_like o (Phase.Frames v n) l e seen t h b = frames_like v n e seen
  moved_like o (Phase.Moves step v) l e seen t h b = migration_like step seen.page e seen
  moved_like o (Phase.Lost v g) l e seen t h b = ap (λ z. Phase.Drop g ∷ z) h
