-- Guards that a fault's decision starts: an exclusive page given back, a device page brought home, a page taken alone.
use Rattle.std.proofs.lemmas.Bool.{and_from}
use Rattle.std.proofs.Common.{◌≡◌, ℕ, ◌+◌, ◌<◌, ◌≤◌, Bool, true, false, ◌&&◌, is_none, if◌then◌else◌, Option, None, List, [], ◌∷◌, refl, sym, ap, ◌∙◌, subst, arith}
use Rattle.hm_base.specs.Pages.{Pages, one_page}
use Rattle.hm_base.specs.Program.{Program}
use Rattle.hm_base.specs.declared.Frame.{Frame}
use Rattle.hm_base.specs.declared.Place.{Place}
use Rattle.hm_base.specs.declared.ops.Op.{Op}
use Rattle.hm_history.specs.Memory.Words.{dev_frame, is_frame, is_empty_place, names_directly}
use Rattle.hm_history.specs.Memory.Sequences.{some_overlap}
use Rattle.hm_history.specs.Memory.After.{After}
use Rattle.hm_history.specs.Kernel.Operation.{op_who, is_evicting}
use Rattle.hm_history.specs.Memory.Plain.{proc_of}
use Rattle.hm_history.specs.Kernel.Quiet.{attaches, over_ops, guard_cost, home_cost, process_count}
use Rattle.hm_history.specs.Kernel.Stacks.{body_of_fault, frames_past}
use Rattle.hm_history.specs.Kernel.Going.{touch_page, touch_proc}
use Rattle.hm_history.specs.Kernel.Due.{start_entry}
use Rattle.hm_history.specs.declared.phases.Migrating.{Migrating}
use Rattle.hm_history.specs.declared.phases.Touch.{Touch}
use Rattle.hm_history.specs.declared.phases.Body.{Body}
use Rattle.hm_history.specs.declared.phases.Phase.{Phase}
use Rattle.hm_history.proofs.Frames.{is_frame_of}
use Rattle.hm_laws.specs.Allowed.{next}
use Rattle.hm_quiet_laws.proofs.measure.Left.{View, view, placed_view, told_left, extra, ready, copies, is_over, is_ready, stage, home_now, under_left, caught_left, past_frame, body_left, direct_at, moving_at, alone_left}
use Rattle.hm_quiet_laws.proofs.measure.Counts.{Few}
use Rattle.hm_quiet_laws.proofs.measure.Shapes.{on_access}
use Rattle.hm_quiet_laws.proofs.counts.CountsBelow.{told_few}
use Rattle.hm_quiet_laws.proofs.counts.UsesOfAFrame.{direct_frozen, moving_frozen, home_fits}
use Rattle.hm_quiet_laws.proofs.faults.StagesLeft.{stage_mends, stage_any, stage_writable, home_placed}
use Rattle.hm_quiet_laws.proofs.faults.TakesFall.{Dec, if_true}

-- the guard over the page of a touch, by its place
abbrev pub StartsAt : Program → After → ℕ → Op → List Migrating → Touch → Place → Type 0
StartsAt c s a o xs touch z = body_left c (view s) s.locks.frame a o xs (touch_proc s o) (one_page (touch_page o touch)) z (body_of_fault z) (Phase.Decide touch ∷ []) + over_ops attaches c < stage c (view s) a o touch z

start_less : (m k n t : ℕ) → t ≤ m → k + m < n → t + k < n
start_less m k n t h i = omega arith

on_caught : (c : Program) (touch : Touch) (p : ℕ) (r : Pages) (met : Bool) (told : Option ℕ) (x : Place) → on_access (Phase.Guard p r met told (body_of_fault x) ∷ Phase.Decide touch ∷ []) ≡ true
on_caught c touch p r met told (Place.Own d n w) = refl
on_caught c touch p r met told (Place.Exclusive n b) = refl
on_caught c touch p r met told (Place.Sys n w) = refl
on_caught c touch p r met told (Place.Moving f w) = refl
on_caught c touch p r met told Place.Empty = refl
on_caught c touch p r met told Place.Zero = refl

pub start_dec : (c : Program) (s : After) (a : ℕ) (o : Op) (xs : List Migrating) (touch : Touch) (z : Place) → Few c s → s.places.place (touch_proc s o) (touch_page o touch) ≡ z → StartsAt c s a o xs touch z → Dec c s a o xs touch (start_entry s (touch_proc s o) (one_page (touch_page o touch)))
start_dec c s a o xs touch z f e h = (start_less (over_ops attaches c) _ _ (told_left (next s a (start_entry s p r)) p r met None) (told_few (next s a (start_entry s p r)) p r met None (over_ops attaches c) f.mirrors) (subst (StartsAt c s a o xs touch) (sym e) h), on_caught c touch p r met None (s.places.place p (touch_page o touch)))
  where
    p : ℕ
    p = touch_proc s o

    r : Pages
    r = one_page (touch_page o touch)

    met : Bool
    met = some_overlap s.sequences p r

-- an exclusive page is given back
home_writable : (c : Program) (y : View) (a : ℕ) (o : Op) (touch : Touch) (n : ℕ) → home_now c (placed_view y (proc_of y.plain (op_who o)) (touch_page o touch) (Place.Sys n true)) a o touch ≤ extra touch + ready c o touch
home_writable c y a o touch n = omega (arith, home_placed c y a o touch (Place.Sys n true), stage_writable c y a o touch n)

pub restore_dec : (c : Program) (s : After) (a : ℕ) (o : Op) (xs : List Migrating) (touch : Touch) (n b : ℕ) → Few c s → s.places.place (touch_proc s o) (touch_page o touch) ≡ Place.Exclusive n b → is_over (view s) a o touch (Place.Exclusive n b) ≡ false → is_ready touch (Place.Exclusive n b) ≡ false → Dec c s a o xs touch (start_entry s (touch_proc s o) (one_page (touch_page o touch)))
restore_dec c s a o xs touch n b f e v r = start_dec c s a o xs touch (Place.Exclusive n b) f e (omega (arith, home_writable c (view s) a o touch n, stage_mends c (view s) a o touch (Place.Exclusive n b) v r))

-- a device page is brought home
home_moving : (c : Program) (y : View) (a : ℕ) (o : Op) (touch : Touch) (g : Frame) (w : Bool) → home_now c (placed_view y (proc_of y.plain (op_who o)) (touch_page o touch) (Place.Moving g w)) a o touch ≤ extra touch + (copies c o touch + ready c o touch)
home_moving c y a o touch g w = omega (arith, home_placed c y a o touch (Place.Moving g w), stage_any c y a o touch (Place.Moving g w))

pub catch_dec : (c : Program) (s : After) (a : ℕ) (o : Op) (xs : List Migrating) (touch : Touch) (d n : ℕ) (w : Bool) → Few c s → s.places.place (touch_proc s o) (touch_page o touch) ≡ Place.Own d n w → s.locks.frame (dev_frame d n) ≡ None → is_evicting o ≡ false → is_over (view s) a o touch (Place.Own d n w) ≡ false → is_ready touch (Place.Own d n w) ≡ false → Dec c s a o xs touch (start_entry s (touch_proc s o) (one_page (touch_page o touch)))
catch_dec c s a o xs touch d n w f e lk ev v r = start_dec c s a o xs touch (Place.Own d n w) f e (omega (arith, body, stage_mends c (view s) a o touch (Place.Own d n w) v r, home_moving c (view s) a o touch k w, fits))
  where
    p : ℕ
    p = touch_proc s o

    u : ℕ
    u = touch_page o touch

    k : Frame
    k = dev_frame d n

    z : View
    z = placed_view (view s) p u (Place.Moving k w)

    direct : is_frame (names_directly (Place.Own d n w)) k ≡ true
    direct = is_frame_of (names_directly (Place.Own d n w)) k refl

    is_direct : is_frame (names_directly (s.places.place p u)) k ≡ true
    is_direct = ap (λ x. is_frame (names_directly x) k) e ∙ direct

    tests : (is_frame (names_directly (Place.Own d n w)) k && is_none (s.locks.frame k)) ≡ true
    tests = and_from (is_frame (names_directly (Place.Own d n w)) k) (is_none (s.locks.frame k)) direct (ap is_none lk)

    below : past_frame o k (Phase.Decide touch ∷ []) ≡ Phase.Decide touch ∷ []
    below = ap (λ b. if b then frames_past k (Phase.Decide touch ∷ []) else (Phase.Decide touch ∷ [])) ev

    body : body_left c (view s) s.locks.frame a o xs p (one_page u) (Place.Own d n w) (Body.Catch k) (Phase.Decide touch ∷ []) ≡ 2 + (alone_left c z k u + home_now c z a o touch)
    body = if_true (is_frame (names_directly (Place.Own d n w)) k && is_none (s.locks.frame k)) (2 + caught_left c z a o xs k u (past_frame o k (Phase.Decide touch ∷ []))) (1 + under_left c (view s) a o xs (Phase.Decide touch ∷ [])) tests
        ∙ ap (λ l. 2 + (alone_left c z k u + under_left c z a o xs l)) below

    process : p < 32
    process = f.few_processes p u (ap is_empty_place e)

    fits : over_ops attaches c + 2 + alone_left c z k u < home_cost c
    fits = home_fits (process_count c) (direct_at z k u) (moving_at z k u) (guard_cost c) (over_ops attaches c) (omega (arith, direct_frozen (view s) p u k w process is_direct, f.uses k u)) (omega (arith, direct_frozen (view s) p u k w process is_direct, moving_frozen (view s) p u k (Place.Moving k w), f.uses k u)) (omega arith)
