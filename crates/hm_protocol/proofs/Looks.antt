-- A look-up that has begun and has not walked is under way: what events and entries make of that.
use Rattle.std.proofs.Common.{refl, ap, sym, ◌∙◌}
use Rattle.std.proofs.lemmas.Bool.{true≢false, false≢true, and_parts, eqb-true}
use Rattle.std.specs.Prelude.{◌≡◌, ℕ, Bool, true, false, ◌&&◌, ◌==◌, if◌then◌else◌, Option, Some, None, List, [], ◌∷◌}
use Rattle.std.specs.Prelude.{◌++◌, fold}
use Rattle.hm_base.specs.declared.Frame.{Frame}
use Rattle.hm_base.specs.declared.Place.{Place}
use Rattle.hm_base.specs.declared.ops.Op.{Op}
use Rattle.hm_history.specs.Kernel.Operation.{op_mirror}
use Rattle.hm_history.specs.Kernel.Stacks.{stack_after, after_taken}
use Rattle.hm_history.specs.declared.TableRight.{TableRight}
use Rattle.hm_history.specs.declared.Kind.{Kind}
use Rattle.hm_history.specs.declared.phases.Seen.{Seen}
use Rattle.hm_history.specs.declared.phases.Touch.{Touch}
use Rattle.hm_history.specs.declared.phases.Body.{Body}
use Rattle.hm_history.specs.declared.phases.Phase.{Phase}
use Rattle.hm_laws.proofs.Migration.Setup.{at_itself}
use Rattle.hm_protocol.specs.declared.events.Event.{Event}
use Rattle.hm_protocol.specs.declared.events.Traced.{Traced}
use Rattle.hm_protocol.specs.Words.{device_of}
use Rattle.hm_protocol.specs.Known.{Stage, Look, Known}
use Rattle.hm_protocol.specs.Noted.{noted, known_next, is_begun}
use Rattle.hm_protocol.proofs.Fields.{at_set, at_end, at_refused, held_keeps, pass_keeps}
use Rattle.hm_protocol.proofs.Steps.{by}
use Rattle.hm_protocol.proofs.Stands.{of_touch, stand, is_walking, walks, passes}
use Rattle.hm_protocol.proofs.Leading.{guarded, framed}
use Rattle.hm_protocol.proofs.DueKinds.{may}

-- ---- what an event makes of stages

-- the event begins a look-up
abbrev pub is_begin : Event → Bool
is_begin (Event.Begin m q) = true
is_begin x = false

with_stage : (looks : ℕ → ℕ → Look) (t m : ℕ) (l : Look) (b n : ℕ) → l.stage ≡ (looks t m).stage
    → (if (b == t) && (n == m) then l else looks b n).stage ≡ (looks b n).stage
with_stage looks t m l b n h = by_bool ((b == t) && (n == m)) refl
  where
    by_bool : (d : Bool) → ((b == t) && (n == m)) ≡ d → (if d then l else looks b n).stage ≡ (looks b n).stage
    by_bool false e = refl
    by_bool true e = let p : ((b == t) ≡ true) × ((n == m) ≡ true) = and_parts (b == t) (n == m) e in
        h ∙ (ap (λ i. (looks i m).stage) (sym (eqb-true b t p.0))
        ∙ ap (λ i. (looks b i).stage) (sym (eqb-true n m p.1)))

-- but for a `Begin` no event makes a look-up one that has begun and not walked
pub begun_before : (k : Known) (t : ℕ) (x : Event) (b n : ℕ) → is_begin x ≡ false
    → is_begun ((noted k t x).looks b n).stage ≡ true → is_begun (k.looks b n).stage ≡ true
begun_before k t (Event.Begin m q) b n h g = absurd (true≢false h)
begun_before k t (Event.Insert m p r d) b n h g = by_bool (n == m) g
  where
    by_bool : (d : Bool) → is_begun (if d then record {
      stage = Stage.Unbegun;
      begun = None;
      seq = 0;
      itself = false;
      walked = None;
      found = [];
      set = false;
    } else k.looks b n).stage ≡ true → is_begun (k.looks b n).stage ≡ true
    by_bool true g = absurd (false≢true g)
    by_bool false g = g
begun_before k t (Event.Walk m r q locked d) b n h g = sym (ap is_begun (with_stage k.looks t m _ b n refl)) ∙ g
begun_before k t (Event.Found m v f w) b n h g = sym (ap is_begun (with_stage k.looks t m _ b n refl)) ∙ g
begun_before k t (Event.Walked m done) b n h g = by_bool ((b == t) && (n == m)) (record (k.looks t m) {
  stage = Stage.Walked;
  walked = if done then Some k.at else None;
}) refl g
  where
    by_bool : (d : Bool) (l : Look) → l.stage ≡ Stage.Walked → is_begun (if d then l else k.looks b n).stage ≡ true
        → is_begun (k.looks b n).stage ≡ true
    by_bool true l e g = absurd (false≢true (sym (ap is_begun e) ∙ g))
    by_bool false l e g = g
begun_before k t (Event.Set m v f w) b n h g = sym (ap is_begun
    (at_set (λ k. (k.looks b n).stage) (λ k t m. with_stage k.looks t m _ b n refl) (λ k t f. refl)
    (λ k ss xs. refl) k t m v f w)) ∙ g
begun_before k t (Event.End p r) b n h g = sym (at_end (λ k. is_begun (k.looks b n).stage) (λ k us xs. refl) k t p r)
    ∙ g
begun_before k t (Event.Told m q true) b n h g = g
begun_before k t (Event.Told m q false) b n h g = sym
    (at_refused (λ k. is_begun (k.looks b n).stage) (λ k us xs. refl) k t m q) ∙ g
begun_before k t (Event.Take f) b n h g = sym
    (held_keeps (λ k. is_begun (k.looks b n).stage) (λ k fs. refl) k f (device_of f)) ∙ g
begun_before k t (Event.Pass f) b n h g = sym
    (pass_keeps (λ k. is_begun (k.looks b n).stage) (λ k p. refl) k (device_of f)) ∙ g
begun_before k t x b n h g = g

-- a walk that is over has walked
pub last_walked : (k : Known) (ss : List Traced) (a m : ℕ) (d : Bool)
    → is_begun ((fold known_next k (ss ++ by a (Event.Walked m d) ∷ [])).looks a m).stage ≡ false
last_walked k [] a m d = ap (λ b. is_begun (if b && (m == m) then record (k.looks a m) {
  stage = Stage.Walked;
  walked = if d then Some k.at else None;
} else k.looks a m).stage) (at_itself a) ∙ ap (λ b. is_begun (if b then record (k.looks a m) {
  stage = Stage.Walked;
  walked = if d then Some k.at else None;
} else k.looks a m).stage) (at_itself m)
last_walked k (s ∷ ss) a m d = last_walked (known_next k s) ss a m d

-- ---- stacks

-- the entry ends a walk
abbrev pub ends_walk : Phase → Kind → Bool
ends_walk (Phase.Decide (Touch.Walk n since q)) (Kind.Failed x at len why) = true
ends_walk (Phase.Decide (Touch.Walk n since q)) (Kind.Retry m) = true
ends_walk (Phase.Decide (Touch.Walk n since q)) (Kind.Runlock p) = true
ends_walk (Phase.GiveUp (Some (Touch.Walk n since q))) (Kind.Failed x at len why) = true
ends_walk top k = false

takes_on : (touch : Touch) (g : Frame) (over : Place) (k : Kind) → stand (after_taken touch g over k) ≡ of_touch touch
takes_on touch g over (Kind.Copied f h n) = refl
takes_on touch g over k = refl

-- a walk goes on, if the entry does not end it
pub goes_on : (o : Op) (top : Phase) (below : List Phase) (k : Kind) (seen : Seen) → may o top k ≡ true
    → ends_walk top k ≡ false
    → walks (top ∷ below) ≡ true → walks (stack_after o (top ∷ below) k seen) ≡ true
goes_on o (Phase.Begun n since q) below (Kind.Rlock p) seen h e d = refl
goes_on o (Phase.Begun n since q) below k seen h e d = absurd (false≢true h)
goes_on o (Phase.Decide (Touch.Walk n since q)) below (Kind.Place p v x) seen h e d = refl
goes_on o (Phase.Decide (Touch.Walk n since q)) below (Kind.Take g) seen h e d =
    ap is_walking (framed (Touch.Walk n since q) g seen.place)
goes_on o (Phase.Decide (Touch.Walk n since q)) below (Kind.Start p r z) seen h e d = refl
goes_on o (Phase.Decide (Touch.Walk n since q)) below (Kind.Failed x at len why) seen h e d = absurd (true≢false e)
goes_on o (Phase.Decide (Touch.Walk n since q)) below (Kind.Retry m) seen h e d = absurd (true≢false e)
goes_on o (Phase.Decide (Touch.Walk n since q)) below (Kind.Runlock p) seen h e d = absurd (true≢false e)
goes_on o (Phase.Decide (Touch.Walk n since q)) below k seen h e d = absurd (false≢true h)
goes_on o (Phase.Taken touch g x) below k seen h e d = ap is_walking (takes_on touch g x k) ∙ d
goes_on o (Phase.Armed touch g x) below k seen h e d =
    ap is_walking (guarded k seen (Body.Replace x g) (Phase.Decide touch ∷ [])) ∙ d
goes_on o (Phase.GiveUp (Some (Touch.Walk n since q))) below (Kind.Failed x at len why) seen h e d = absurd
    (true≢false e)
goes_on o (Phase.GiveUp (Some (Touch.Walk n since q))) below k seen h e d = absurd (false≢true h)
goes_on o (Phase.Guard p r met told body) below k seen h e d =
    ap is_walking (passes o (Phase.Guard p r met told body) below k seen refl) ∙ d
goes_on o (Phase.Drop f) below k seen h e d = ap is_walking (passes o (Phase.Drop f) below k seen refl) ∙ d
goes_on o (Phase.Emptying f what) below k seen h e d =
    ap is_walking (passes o (Phase.Emptying f what) below k seen refl) ∙ d
goes_on o (Phase.Copy f g n) below k seen h e d = ap is_walking (passes o (Phase.Copy f g n) below k seen refl) ∙ d
goes_on o (Phase.Copied f g) below k seen h e d = ap is_walking (passes o (Phase.Copied f g) below k seen refl) ∙ d
goes_on o (Phase.Finish f to) below k seen h e d = ap is_walking (passes o (Phase.Finish f to) below k seen refl) ∙ d
goes_on o (Phase.Settle g) below k seen h e d = ap is_walking (passes o (Phase.Settle g) below k seen refl) ∙ d
goes_on o (Phase.Lost v g) below k seen h e d = ap is_walking (passes o (Phase.Lost v g) below k seen refl) ∙ d
goes_on o top below k seen h e d = absurd (false≢true d)

-- nothing is set while a walk goes on
pub sets_after : (o : Op) (top : Phase) (below : List Phase) (m v from : ℕ) (f : Option Frame) (w : TableRight)
    → may o top (Kind.Set m v f w from) ≡ true → walks (top ∷ below) ≡ true → ⊥
sets_after o (Phase.Moves step n) below m v from f w h d = false≢true d
sets_after o (Phase.Noted n since q x) below m v from f w h d = false≢true d
sets_after o (Phase.Decide (Touch.Cpu n)) below m v from f w h d = false≢true d
sets_after o (Phase.Decide (Touch.Walk n since q)) below m v from f w h d = false≢true h
sets_after o (Phase.Decide Touch.Sole) below m v from f w h d = false≢true d
sets_after o (Phase.GiveUp None) below m v from f w h d = false≢true h
sets_after o (Phase.GiveUp (Some (Touch.Cpu n))) below m v from f w h d = false≢true h
sets_after o (Phase.GiveUp (Some (Touch.Walk n since q))) below m v from f w h d = false≢true h
sets_after o (Phase.GiveUp (Some Touch.Sole)) below m v from f w h d = false≢true h
sets_after o top below m v from f w h d = false≢true h

-- a look-up begins in the mirror of its operation, and walks next
pub begins_now : (o : Op) (top : Phase) (below : List Phase) (m q : ℕ) (seen : Seen) → may o top (Kind.Begin m q) ≡ true
    → (m ≡ op_mirror o) × (walks (stack_after o (top ∷ below) (Kind.Begin m q) seen) ≡ true)
begins_now o (Phase.Piece n) below m q seen h = (eqb-true m (op_mirror o) h, refl)
begins_now o (Phase.Decide (Touch.Cpu n)) below m q seen h = absurd (false≢true h)
begins_now o (Phase.Decide (Touch.Walk n since z)) below m q seen h = absurd (false≢true h)
begins_now o (Phase.Decide Touch.Sole) below m q seen h = absurd (false≢true h)
begins_now o (Phase.GiveUp None) below m q seen h = absurd (false≢true h)
begins_now o (Phase.GiveUp (Some (Touch.Cpu n))) below m q seen h = absurd (false≢true h)
begins_now o (Phase.GiveUp (Some (Touch.Walk n since z))) below m q seen h = absurd (false≢true h)
begins_now o (Phase.GiveUp (Some Touch.Sole)) below m q seen h = absurd (false≢true h)
begins_now o top below m q seen h = absurd (false≢true h)
