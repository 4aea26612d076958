-- A device frame brought home for a fault.
use Rattle.std.proofs.lemmas.Bool.{and_parts, eqb-true}
use Rattle.std.proofs.Common.{◌≡◌, ℕ, ◌+◌, ◌*◌, ◌-◌, ◌<◌, ◌≤◌, Bool, true, false, ◌==◌, ◌&&◌, not, nat_lt, if◌then◌else◌, Option, Some, None, List, [], ◌∷◌, refl, sym, ap, ◌∙◌, arith}
use Rattle.std.proofs.Math.Nat.{mul-le-mul_right}
use Rattle.std.proofs.lemmas.Bool.Decides.{nat_tests}
use Rattle.hm_base.specs.declared.cause.Cause.{Cause}
use Rattle.hm_base.specs.Pages.{one_page}
use Rattle.hm_base.specs.Program.{Program}
use Rattle.hm_base.specs.declared.Frame.{Frame}
use Rattle.hm_base.specs.declared.Place.{Place}
use Rattle.hm_base.specs.declared.PoolId.{PoolId}
use Rattle.hm_base.specs.declared.ops.Op.{Op}
use Rattle.hm_history.specs.Memory.Words.{names, names_directly, moving_frame, is_frame, is_empty_place, writable, place_in, same_pool}
use Rattle.hm_history.specs.Memory.Plain.{proc_of}
use Rattle.hm_history.specs.Memory.Places.{with_place, lowest, lowest_direct, lowest_moving, lowest_named, lowest_free}
use Rattle.hm_history.specs.Memory.Sequences.{some_overlap}
use Rattle.hm_history.specs.Memory.After.{After}
use Rattle.hm_history.specs.Kernel.Operation.{op_who, op_writes, is_exclusive_op}
use Rattle.hm_history.specs.Kernel.Quiet.{attaches, over_ops, guard_cost}
use Rattle.hm_history.specs.Kernel.Stacks.{piece_of}
use Rattle.hm_history.specs.Kernel.Going.{touch_page}
use Rattle.hm_history.specs.Kernel.Due.{start_entry, failed, due_emptying, settle, due_finish, due_give_up}
use Rattle.hm_history.specs.declared.KeptAt.{KeptAt}
use Rattle.hm_history.specs.declared.Kind.{Kind}
use Rattle.hm_history.specs.declared.phases.Migrating.{Migrating}
use Rattle.hm_history.specs.declared.phases.Touch.{Touch}
use Rattle.hm_history.specs.declared.phases.Touch.TheVariants.{Cpu, Walk, Sole}
use Rattle.hm_history.specs.declared.phases.Body.{Body}
use Rattle.hm_history.specs.declared.phases.Phase.{Phase}
use Rattle.hm_history.specs.declared.phases.Next.TheVariants.{Do}
use Rattle.hm_history.proofs.Tests.{true_false}
use Rattle.hm_history.proofs.Frames.{is_frame_from, is_frame_of}
use Rattle.hm_laws.specs.Past.{Past, past_next}
use Rattle.hm_laws.specs.Sound.{Sound}
use Rattle.hm_laws.specs.Allowed.{next}
use Rattle.hm_laws.specs.Shapes.{of_system}
use Rattle.hm_laws.proofs.State.Search.{lowest_none}
use Rattle.hm_laws.proofs.Kept.PlaceLocks.{lowest_passes}
use Rattle.hm_laws.proofs.Kept.Sound.{kept}
use Rattle.hm_laws.proofs.Due.Good.{Good, either, either_option}
use Rattle.hm_quiet_laws.proofs.measure.Left.{View, view, placed_view, left, told_left, direct_at, moving_at, frame_page, alone_left, later, tail, extra, ready, copies, is_over, is_ready, stage, stage_home, home_now, body_left}
use Rattle.hm_quiet_laws.proofs.measure.Left.{given_up as giving_left}
use Rattle.hm_quiet_laws.proofs.measure.Counts.{Few}
use Rattle.hm_quiet_laws.proofs.measure.Shapes.{is_access}
use Rattle.hm_quiet_laws.proofs.alone.Ends.{StepsTo}
use Rattle.hm_quiet_laws.proofs.counts.CountsBelow.{told_few, count_more}
use Rattle.hm_quiet_laws.proofs.counts.FewOfEach.{count_none}
use Rattle.hm_quiet_laws.proofs.counts.UsesOfAFrame.{direct_frozen, moving_frozen, moving_returned, page_is}
use Rattle.hm_quiet_laws.proofs.faults.StagesLeft.{stage_any, stage_mends, ends_left, home_most, decide_home}
use Rattle.hm_quiet_laws.proofs.faults.TakesFall.{Fits, if_true, if_false, later_less, tail_stage}
use Rattle.hm_quiet_laws.proofs.accesses.GuardsFall.{OnAccess}
use Rattle.hm_laws.proofs.Kept.Frames.{names_stays}

-- what is left below after a `place`, where that page's stage is no more
pub home_change : (c : Program) (y : View) (a : ℕ) (o : Op) (touch : Touch) (q u : ℕ) (x : Place) → stage_home c y a o touch x ≤ stage_home c y a o touch (y.place q u) → home_now c (placed_view y q u x) a o touch ≤ home_now c y a o touch
home_change c y a o touch q u x h = by (proc_of y.plain (op_who o)) (touch_page o touch)
  where
    by : (p v : ℕ) → extra touch + stage_home c y a o touch (with_place y.place q u x p v) ≤ extra touch + stage_home c y a o touch (y.place p v)
    by p v = at ((p == q) && (v == u)) refl
      where
        same : ((p == q) && (v == u)) ≡ true → stage_home c y a o touch (y.place q u) ≡ stage_home c y a o touch (y.place p v)
        same e = let b : ((p == q) ≡ true) × ((v == u) ≡ true) = and_parts (p == q) (v == u) e in
            ap (λ j. stage_home c y a o touch (y.place j u)) (sym (eqb-true p q b.0)) ∙ ap (λ j. stage_home c y a o touch (y.place p j)) (sym (eqb-true v u b.1))

        at : (b : Bool) → ((p == q) && (v == u)) ≡ b → extra touch + stage_home c y a o touch (if b then x else y.place p v) ≤ extra touch + stage_home c y a o touch (y.place p v)
        at true e = omega (arith, h, same e)
        at false e = omega arith

-- a page under way suits nobody
moving_over : (y : View) (a : ℕ) (o : Op) (touch : Touch) (f : Frame) (w : Bool) → is_over y a o touch (Place.Moving f w) ≡ false
moving_over y a o (Cpu k) f w = by (op_writes o)
  where
    by : (b : Bool) → (if b then false else false) ≡ false
    by true = refl
    by false = refl
moving_over y a o (Walk k at q) f w = by (op_writes o)
  where
    by : (b : Bool) → (if b then false else false) ≡ false
    by true = refl
    by false = refl
moving_over y a o Sole f w = refl

moving_ready : (touch : Touch) (f : Frame) (w : Bool) → is_ready touch (Place.Moving f w) ≡ false
moving_ready (Cpu k) f w = refl
moving_ready (Walk k at q) f w = refl
moving_ready Sole f w = refl

moving_stage : (c : Program) (y : View) (a : ℕ) (o : Op) (touch : Touch) (f : Frame) (w : Bool) → stage c y a o touch (Place.Moving f w) ≡ copies c o touch + ready c o touch
moving_stage c y a o touch f w = stage_mends c y a o touch (Place.Moving f w) (moving_over y a o touch f w) (moving_ready touch f w)

abbrev of_system_some : Option Frame → Bool
of_system_some None = false
of_system_some (Some f) = of_system f

-- a device page frozen, and a page returned to a system frame
frozen_stage : (c : Program) (y : View) (a : ℕ) (o : Op) (touch : Touch) (f : Frame) (w : Bool) (z : Place) → of_system f ≡ false → names_directly z ≡ Some f → stage_home c y a o touch (Place.Moving f w) ≤ stage_home c y a o touch z
frozen_stage c y a o touch f w (Place.Own d n x) s e = omega (arith, moving_stage c y a o touch f w)
frozen_stage c y a o touch f w (Place.Sys n x) s e = absurd (true_false (of_system f) (ap of_system_some (sym e)) s)
frozen_stage c y a o touch f w (Place.Exclusive n b) s e = absurd (true_false (of_system f) (ap of_system_some (sym e)) s)
frozen_stage c y a o touch f w (Place.Moving g x) s e = cc
frozen_stage c y a o touch f w Place.Empty s e = cc
frozen_stage c y a o touch f w Place.Zero s e = cc

pub returned_stage : (c : Program) (y : View) (a : ℕ) (o : Op) (touch : Touch) (g : Frame) (w : Bool) (z : Place) (f : Frame) → of_system g ≡ true → moving_frame z ≡ Some f → stage_home c y a o touch (place_in g w) ≤ stage_home c y a o touch z
returned_stage c y a o touch g w (Place.Moving k x) f s e = by g.pool s
  where
    by : (p : PoolId) → same_pool p PoolId.System ≡ true → stage_home c y a o touch (elim p as (λ z. Place) [ PoolId.System ↦ Place.Sys g.number w | PoolId.Device d ↦ Place.Own d g.number w ]) ≤ stage c y a o touch (Place.Moving k x)
    by PoolId.System e = omega (arith, moving_stage c y a o touch k x, stage_any c y a o touch (Place.Sys g.number w))
    by (PoolId.Device d) e = cc
returned_stage c y a o touch g w Place.Empty f s e = cc
returned_stage c y a o touch g w Place.Zero f s e = cc
returned_stage c y a o touch g w (Place.Sys n x) f s e = cc
returned_stage c y a o touch g w (Place.Own d n x) f s e = cc
returned_stage c y a o touch g w (Place.Exclusive n b) f s e = cc

-- other mappings
pub used_place : (z : Place) (f : Frame) → names_directly z ≡ Some f → is_empty_place z ≡ false
used_place z f e = grind arith

pub named_directly : (z : Place) (f : Frame) → names_directly z ≡ Some f → names z ≡ Some f
named_directly (Place.Sys n w) f e = e
named_directly (Place.Own d n w) f e = e
named_directly (Place.Exclusive n b) f e = e
named_directly (Place.Moving g w) f e = cc
named_directly Place.Empty f e = cc
named_directly Place.Zero f e = cc

pub others_fit : (t m g d e k l : ℕ) → t + 2 ≤ g → d + 1 ≤ e → k ≤ l + 1 → t + (2 + (d * (g + 1) + d + k + 12)) < e * (g + 1) + e + l + 12
others_fit t m g d e k l h i j = omega (arith, mul-le-mul_right (g + 1) i, one d g)
  where
    one : (d g : ℕ) → (d + 1) * (g + 1) ≡ d * (g + 1) + (g + 1)
    one d g = grind arith

pub alone_steps : (c : Program) (s : After) (t : Past) (a : ℕ) (o : Op) (xs : List Migrating) (f : Frame) (w : KeptAt) (touch : Touch) → Sound c s t → Few c s → Fits o touch → of_system f ≡ false → StepsTo c s a o xs (Phase.Emptying f w) (Phase.Decide touch ∷ []) OnAccess (Do (due_emptying c s f w))
alone_steps c s t a o xs f w touch so fw ft dev = either_option P (lowest_direct s.places f) _ _
    (λ e. either_option P (lowest_free c s.places PoolId.System) _ _ (λ i. (omega (arith, gives, later_less c o touch ft, home_tail), refl)) (λ g i. (omega arith, refl)))
    (λ x e. start_at x e)
  where
    P : Kind → Type 0
    P k = StepsTo c s a o xs (Phase.Emptying f w) (Phase.Decide touch ∷ []) OnAccess (Do k)

    gives : giving_left c o (Some touch) ≤ 1 + later c o (piece_of touch)
    gives = by (is_exclusive_op o)
      where
        by : (b : Bool) → 1 + (if b then 0 else later c o (piece_of touch)) ≤ 1 + later c o (piece_of touch)
        by true = omega arith
        by false = omega arith

    home_tail : tail c o touch ≤ home_now c (view s) a o touch
    home_tail = omega (arith, tail_stage c (view s) a o touch (s.places.place (proc_of s.plain (op_who o)) (touch_page o touch)), home_most c (view s) a o touch)

    start_at : (x : ℕ × ℕ) → lowest_direct s.places f ≡ Some x → P (start_entry s x.0 (one_page x.1))
    start_at x e = (less, ap not dev)
      where
        z : Place
        z = s.places.place x.0 x.1

        passes : is_frame (names_directly z) f ≡ true
        passes = lowest_passes (λ p v. is_frame (names_directly (s.places.place p v)) f) s.places.placed x e

        direct : names_directly z ≡ Some f
        direct = is_frame_from (names_directly z) f passes

        y : View
        y = placed_view (view s) x.0 x.1 (Place.Moving f (writable z))

        page : frame_page (view s) f ≡ x.1
        page = page_is c s t x.0 x.1 f so (named_directly z f direct)

        process : x.0 < 32
        process = fw.few_processes x.0 x.1 (used_place z f direct)

        told : ℕ
        told = told_left (next s a (start_entry s x.0 (one_page x.1))) x.0 (one_page x.1) (some_overlap s.sequences x.0 (one_page x.1)) None

        few : told ≤ over_ops attaches c
        few = told_few (next s a (start_entry s x.0 (one_page x.1))) x.0 (one_page x.1) (some_overlap s.sequences x.0 (one_page x.1)) None (over_ops attaches c) fw.mirrors

        body : body_left c (view s) s.locks.frame a o xs x.0 (one_page x.1) z (Body.Freeze f) (Phase.Emptying f w ∷ Phase.Decide touch ∷ []) ≡ 2 + (alone_left c y f x.1 + home_now c y a o touch)
        body = if_true (is_frame (names_directly z) f) (2 + (alone_left c y f x.1 + home_now c y a o touch)) (1 + (alone_left c (view s) f (frame_page (view s) f) + home_now c (view s) a o touch)) passes

        fits : told + (2 + alone_left c y f x.1) < alone_left c (view s) f x.1
        fits = others_fit told 0 (guard_cost c) (direct_at y f x.1) (direct_at (view s) f x.1) (moving_at y f x.1) (moving_at (view s) f x.1) (omega (arith, few)) (direct_frozen (view s) x.0 x.1 f (writable z) process passes) (moving_frozen (view s) x.0 x.1 f (Place.Moving f (writable z)))

        less : told + body_left c (view s) s.locks.frame a o xs x.0 (one_page x.1) z (Body.Freeze f) (Phase.Emptying f w ∷ Phase.Decide touch ∷ []) < alone_left c (view s) f (frame_page (view s) f) + home_now c (view s) a o touch
        less = omega (arith, body, fits, ap (alone_left c (view s) f) page, home_change c (view s) a o touch x.0 x.1 (Place.Moving f (writable z)) (frozen_stage c (view s) a o touch f (writable z) z dev direct))

-- the copy
pub copy_steps : (c : Program) (s : After) (a : ℕ) (o : Op) (xs : List Migrating) (f g i j : Frame) (k : ℕ) (touch : Touch) → k ≤ 7 → StepsTo c s a o xs (Phase.Copy f g k) (Phase.Copied i j ∷ Phase.Decide touch ∷ []) OnAccess (Do (Kind.Copied f g (Some k)))
copy_steps c s a o xs f g i j k touch h = by (nat_lt k 7) refl
  where
    less : (b : Bool) → nat_lt k 7 ≡ b → b ≡ true → k < 7
    less b e i = grind (arith, nat_tests)

    one : (n : ℕ) → k < 7 → (8 - (k + 1)) + n < (8 - k) + n
    one n l = omega arith

    last : (n : ℕ) → n < (8 - k) + n
    last n = omega arith

    by : (b : Bool) → nat_lt k 7 ≡ b → (left c (next s a (Kind.Copied f g (Some k))) a o xs (if b then Phase.Copy f g (k + 1) ∷ Phase.Copied i j ∷ Phase.Decide touch ∷ [] else (Phase.Copied i j ∷ Phase.Decide touch ∷ [])) < left c s a o xs (Phase.Copy f g k ∷ Phase.Copied i j ∷ Phase.Decide touch ∷ [])) × OnAccess (if b then Phase.Copy f g (k + 1) ∷ Phase.Copied i j ∷ Phase.Decide touch ∷ [] else (Phase.Copied i j ∷ Phase.Decide touch ∷ []))
    by true e = (one (moving_at (view s) i (frame_page (view s) i) + 3 + home_now c (view s) a o touch) (less true e refl), refl)
    by false e = (last (moving_at (view s) i (frame_page (view s) i) + 3 + home_now c (view s) a o touch), refl)

pub copied_steps : (c : Program) (s : After) (a : ℕ) (o : Op) (xs : List Migrating) (f g : Frame) (touch : Touch) → StepsTo c s a o xs (Phase.Copied f g) (Phase.Decide touch ∷ []) OnAccess (Do (Kind.Committed f g))
copied_steps c s a o xs f g touch = (omega arith, refl)

-- pages return
pub moving_names : (z : Place) (f : Frame) → moving_frame z ≡ Some f → names z ≡ Some f
moving_names (Place.Moving g w) f e = e
moving_names Place.Empty f e = cc
moving_names Place.Zero f e = cc
moving_names (Place.Sys n w) f e = cc
moving_names (Place.Own d n w) f e = cc
moving_names (Place.Exclusive n b) f e = cc

-- where all that name a frame are on one page, those under way are counted there
moving_page : (c : Program) (s : After) (t : Past) (f : Frame) (u : ℕ) → Sound c s t → ((q v : ℕ) → names (s.places.place q v) ≡ Some f → v ≡ u) → moving_at (view s) f (frame_page (view s) f) ≤ moving_at (view s) f u
moving_page c s t f u so on = by (lowest (λ p v. is_frame (names (s.places.place p v)) f) s.places.placed) refl
  where
    none : (v q : ℕ) → lowest (λ p v. is_frame (names (s.places.place p v)) f) s.places.placed ≡ None → is_frame (moving_frame (s.places.place q v)) f ≡ true → false ≡ true
    none v q i h = let e : names (s.places.place q v) ≡ Some f = moving_names (s.places.place q v) f (is_frame_from (moving_frame (s.places.place q v)) f h) in
        absurd (true_false (is_frame (names (s.places.place q v)) f) (is_frame_of (names (s.places.place q v)) f e) (lowest_none (λ p v. is_frame (names (s.places.place p v)) f) s.places.placed q v i (so.places.listed q v (names_stays (s.places.place q v) f e))))

    by : (x : Option (ℕ × ℕ)) → lowest (λ p v. is_frame (names (s.places.place p v)) f) s.places.placed ≡ x → moving_at (view s) f (elim x as (λ z. ℕ) [ None ↦ 0 | Some z ↦ z.1 ]) ≤ moving_at (view s) f u
    by None i = omega (arith, count_more (λ q. is_frame (moving_frame (s.places.place q 0)) f) (λ q. false) 32 (λ q l h. none 0 q i h), count_none 32)
    by (Some z) i = omega (arith, ap (moving_at (view s) f) (on z.0 z.1 (is_frame_from (names (s.places.place z.0 z.1)) f (lowest_passes (λ p v. is_frame (names (s.places.place p v)) f) s.places.placed z i))))

pub not_moving : (g : Frame) (w : Bool) (f : Frame) → is_frame (moving_frame (place_in g w)) f ≡ false
not_moving g w f = by g.pool
  where
    by : (p : PoolId) → is_frame (moving_frame (elim p as (λ z. Place) [ PoolId.System ↦ Place.Sys g.number w | PoolId.Device d ↦ Place.Own d g.number w ])) f ≡ false
    by PoolId.System = refl
    by (PoolId.Device d) = refl

-- one page returns: fewer are under way
pub fewer_moving : (c : Program) (s : After) (t : Past) (a : ℕ) (f g : Frame) (w : Bool) (x : ℕ × ℕ) → Sound c s t → Few c s → Sound c (next s a (Kind.Place x.0 x.1 (place_in g w))) (past_next t s.length a (Kind.Place x.0 x.1 (place_in g w))) → lowest_moving s.places f ≡ Some x →
    moving_at (placed_view (view s) x.0 x.1 (place_in g w)) f (frame_page (placed_view (view s) x.0 x.1 (place_in g w)) f) < moving_at (view s) f (frame_page (view s) f)
fewer_moving c s t a f g w x so fw so2 e = omega (arith, moving_page c (next s a (Kind.Place x.0 x.1 (place_in g w))) (past_next t s.length a (Kind.Place x.0 x.1 (place_in g w))) f x.1 so2 on, moving_returned (view s) x.0 x.1 f (place_in g w) process passes (not_moving g w f), ap (moving_at (view s) f) page)
  where
    passes : is_frame (moving_frame (s.places.place x.0 x.1)) f ≡ true
    passes = lowest_passes (λ p v. is_frame (moving_frame (s.places.place p v)) f) s.places.placed x e

    named : names (s.places.place x.0 x.1) ≡ Some f
    named = moving_names (s.places.place x.0 x.1) f (is_frame_from (moving_frame (s.places.place x.0 x.1)) f passes)

    page : frame_page (view s) f ≡ x.1
    page = page_is c s t x.0 x.1 f so named

    process : x.0 < 32
    process = fw.few_processes x.0 x.1 (names_stays (s.places.place x.0 x.1) f named)

    on : (q v : ℕ) → names (with_place s.places.place x.0 x.1 (place_in g w) q v) ≡ Some f → v ≡ x.1
    on q v h = at ((q == x.0) && (v == x.1)) refl h
      where
        at : (b : Bool) → ((q == x.0) && (v == x.1)) ≡ b → names (if b then place_in g w else s.places.place q v) ≡ Some f → v ≡ x.1
        at true i k = eqb-true v x.1 (and_parts (q == x.0) (v == x.1) i).1
        at false i k = so.frames.one_page x.0 x.1 q v f named k

pub finish_steps : (c : Program) (s : After) (t : Past) (a : ℕ) (o : Op) (xs : List Migrating) (f g : Frame) (touch : Touch) → Sound c s t → Few c s → of_system g ≡ true → Good c s t a o xs (Phase.Finish f (Some g)) (Phase.Decide touch ∷ []) (Do (due_finish s f (Some g))) → StepsTo c s a o xs (Phase.Finish f (Some g)) (Phase.Decide touch ∷ []) OnAccess (Do (due_finish s f (Some g)))
finish_steps c s t a o xs f g touch so fw sys = either_option P (lowest_moving s.places f) _ _ (λ e gd. (omega arith, refl)) (λ x e gd. (placed x e gd, refl))
  where
    P : Kind → Type 0
    P k = Good c s t a o xs (Phase.Finish f (Some g)) (Phase.Decide touch ∷ []) (Do k) → StepsTo c s a o xs (Phase.Finish f (Some g)) (Phase.Decide touch ∷ []) OnAccess (Do k)

    placed : (x : ℕ × ℕ) → lowest_moving s.places f ≡ Some x → Good c s t a o xs (Phase.Finish f (Some g)) (Phase.Decide touch ∷ []) (Do (Kind.Place x.0 x.1 (place_in g (writable (s.places.place x.0 x.1))))) →
        moving_at (placed_view (view s) x.0 x.1 (place_in g (writable (s.places.place x.0 x.1)))) f (frame_page (placed_view (view s) x.0 x.1 (place_in g (writable (s.places.place x.0 x.1)))) f) + 2 + home_now c (placed_view (view s) x.0 x.1 (place_in g (writable (s.places.place x.0 x.1)))) a o touch < moving_at (view s) f (frame_page (view s) f) + 2 + home_now c (view s) a o touch
    placed x e gd = omega (
      arith,
      fewer_moving c s t a f g (writable (s.places.place x.0 x.1)) x so fw (kept c s t a (Kind.Place x.0 x.1 (place_in g (writable (s.places.place x.0 x.1)))) so gd.0) e,
      home_change c (view s) a o touch x.0 x.1 (place_in g (writable (s.places.place x.0 x.1))) (returned_stage c (view s) a o touch g (writable (s.places.place x.0 x.1)) (s.places.place x.0 x.1) f sys (is_frame_from (moving_frame (s.places.place x.0 x.1)) f (lowest_passes (λ p v. is_frame (moving_frame (s.places.place p v)) f) s.places.placed x e))),
    )

-- no frame was free: the pages return to the device's
pub kept_steps : (c : Program) (s : After) (t : Past) (a : ℕ) (o : Op) (xs : List Migrating) (f : Frame) (touch : Touch) → Sound c s t → Few c s → Good c s t a o xs (Phase.Finish f None) (Phase.GiveUp (Some touch) ∷ []) (Do (due_finish s f None)) → StepsTo c s a o xs (Phase.Finish f None) (Phase.GiveUp (Some touch) ∷ []) OnAccess (Do (due_finish s f None))
kept_steps c s t a o xs f touch so fw = either_option P (lowest_moving s.places f) _ _ (λ e. either_option P (lowest_named s.places f) _ _ (λ i gd. (omega arith, refl)) (λ x i gd. (omega arith, refl)))
    (λ x e gd. (omega (arith, fewer_moving c s t a f f (writable (s.places.place x.0 x.1)) x so fw (kept c s t a (Kind.Place x.0 x.1 (place_in f (writable (s.places.place x.0 x.1)))) so gd.0) e), refl))
  where
    P : Kind → Type 0
    P k = Good c s t a o xs (Phase.Finish f None) (Phase.GiveUp (Some touch) ∷ []) (Do k) → StepsTo c s a o xs (Phase.Finish f None) (Phase.GiveUp (Some touch) ∷ []) OnAccess (Do k)

pub settle_steps : (c : Program) (s : After) (a : ℕ) (o : Op) (xs : List Migrating) (g : Frame) (touch : Touch) → StepsTo c s a o xs (Phase.Settle g) (Phase.Decide touch ∷ []) OnAccess (Do (settle s g))
settle_steps c s a o xs g touch = either_option (λ k. StepsTo c s a o xs (Phase.Settle g) (Phase.Decide touch ∷ []) OnAccess (Do k)) (lowest_named s.places g) _ _
    (λ e. (omega (arith, decide_home c (next s a (Kind.Drop g)) a o touch), refl)) (λ x e. (omega (arith, decide_home c (next s a (Kind.Done g)) a o touch), refl))

pub give_up_steps : (c : Program) (s : After) (a : ℕ) (o : Op) (xs : List Migrating) (touch : Touch) → is_access o ≡ true → StepsTo c s a o xs (Phase.GiveUp (Some touch)) [] OnAccess (Do (due_give_up o (Some touch)))
give_up_steps c s a o xs touch i = either (λ k. StepsTo c s a o xs (Phase.GiveUp (Some touch)) [] OnAccess (Do k)) (is_exclusive_op o) _ _ (λ e. (omega arith, refl))
    (λ e. (omega (arith, (ends_left c (next s a (failed o (piece_of touch) Cause.NoFrame)) a o xs (piece_of touch) i).0, if_false (is_exclusive_op o) 0 (later c o (piece_of touch)) e), (ends_left c s a o xs (piece_of touch) i).1))
