-- No legal history breaks `set-moved` or `drop-lost`: a page that stayed was not moved, and its frame was dropped.
use Rattle.std.proofs.Common.{refl, ap, sym, subst, ◌∙◌}
use Rattle.std.proofs.lemmas.Bool.{true≢false, eqb-true, and_right}
use Rattle.std.specs.Prelude.{◌≡◌, ℕ, ◌+◌, Bool, true, false, not, ◌&&◌, ◌||◌, ◌==◌, Option, Some, None, List, []}
use Rattle.std.specs.Prelude.{◌∷◌, fold}
use Rattle.std.specs.List.{list_any}
use Rattle.hm_base.specs.Program.{Program, IsScript}
use Rattle.hm_base.specs.declared.ops.Op.{Op}
use Rattle.hm_history.specs.Kernel.Operation.{is_to_device}
use Rattle.hm_history.specs.Kernel.Stacks.{first_phase, after_top}
use Rattle.hm_history.specs.Kernel.Going.{State, Going, op_at, first_stack, going_from, going_on, going_next}
use Rattle.hm_history.specs.Kernel.Going.{recorded, seen_at, state_next}
use Rattle.hm_history.specs.Kernel.Legal.{Legal}
use Rattle.hm_history.specs.declared.TableRight.{TableRight}
use Rattle.hm_history.specs.declared.Entry.{Entry}
use Rattle.hm_history.specs.declared.phases.Migrating.{Migrating}
use Rattle.hm_history.specs.declared.phases.MoveStep.{MoveStep}
use Rattle.hm_history.specs.declared.phases.Phase.{Phase}
use Rattle.hm_laws.specs.Records.{Among}
use Rattle.hm_laws.specs.Facts.{Knows}
use Rattle.hm_laws.specs.Past.{past_next}
use Rattle.hm_laws.specs.Allowed.{next}
use Rattle.hm_laws.proofs.Histories.Sound.{Turn}
use Rattle.hm_protocol.specs.declared.events.Event.{Event}
use Rattle.hm_protocol.specs.declared.events.TraceFrame.{TraceFrame}
use Rattle.hm_protocol.specs.declared.rules.Rule.{Rule}
use Rattle.hm_protocol.specs.Words.{is_sole}
use Rattle.hm_protocol.specs.Known.{Known, known_start}
use Rattle.hm_protocol.specs.Noted.{known_next}
use Rattle.hm_protocol.specs.Tests.{set_moved, drop_lost, is_kept_back}
use Rattle.hm_protocol.specs.Projection.{project, events_in, events_of, top_of}
use Rattle.hm_protocol.specs.Laws.{IsKept}
use Rattle.hm_laws.proofs.Histories.Short.{going_is}
use Rattle.hm_protocol.proofs.Entries.{each_actor, events_at}
use Rattle.hm_protocol.proofs.Steps.{GoBy, Keeps, Step, never, watched, calm_left, calm_right}
use Rattle.hm_protocol.proofs.MigrationViews.{View, views, views_after, Went, went, move_wrong, moves_badly, moves_so}
use Rattle.hm_protocol.proofs.StillEvents.{Comes}
use Rattle.hm_protocol.proofs.Sitting.{Sits, Good, Stay, AllOf, AllPlain, plain_sits}
use Rattle.hm_protocol.proofs.Homing.{Judges, Leads, is_judged}
use Rattle.hm_protocol.proofs.EachMove.{sits_on}

-- ---- where an actor is

-- what is seen of an actor's migrations; one without an operation has none
abbrev pub SitsOf : Option Op → List Migrating → List Phase → List View → Type 0
SitsOf None xs stack vs = vs ≡ []
SitsOf (Some o) xs stack vs = Sits o xs stack vs

abbrev pub SitsAt : Program → ℕ → Going → List View → Type 0
SitsAt c a g vs = SitsOf (op_at c a g.index) g.pages g.stack vs

-- so it is of all actors
abbrev pub KnowsMoves : Program → Known → State → Type 0
KnowsMoves c k t = (a : ℕ) → SitsAt c a (t.going a) (views k a)

first_plain : (o : Op) → AllPlain (first_phase o ∷ [])
first_plain (Op.Load p at n) = (refl, tt)
first_plain (Op.Store p at bs) = (refl, tt)
first_plain (Op.DeviceLoad m at n) = (refl, tt)
first_plain (Op.DeviceStore m at bs) = (refl, tt)
first_plain (Op.Add m at k) = (refl, tt)
first_plain (Op.Evict d) = (refl, tt)
first_plain (Op.Remove d) = (refl, tt)
first_plain o = (refl, tt)

pub sits_from : (c : Program) (a i : ℕ) → SitsAt c a (going_from c a i) []
sits_from c a i = by_op (op_at c a i)
  where
    by_op : (x : Option Op) → SitsOf x [] (first_stack x) []
    by_op None = refl
    by_op (Some o) = plain_sits o [] (first_phase o ∷ []) (first_plain o)

sits_going : (c : Program) (a i : ℕ) (o : Op) (xs : List Migrating) (stack : List Phase) (vs : List View)
    → op_at c a i ≡ Some o
    → Sits o xs stack vs → SitsAt c a (going_on c a i stack xs) vs
sits_going c a i o xs [] vs e h = subst (SitsAt c a (going_from c a (i + 1))) (sym h) (sits_from c a (i + 1))
sits_going c a i o xs (top ∷ below) vs e h = subst (λ x. SitsOf x xs (top ∷ below) vs) (sym e) h

-- ---- an entry

pub entry_goes : (wrong : List View → Event → Bool) → Judges wrong → (c : Program) (t : State) (e : Entry) → Step c t e
    → (vs : List View) → SitsAt c e.actor (t.going e.actor) vs
    → (ws : List View) × Comes wrong vs (events_in t (state_next c t e) e.actor e.kind
    (op_at c e.actor (t.going e.actor).index)) ws
    × SitsAt c e.actor (going_next c t.after e.actor (t.going e.actor) e.kind) ws
entry_goes wrong j c t e s vs h = (
  led.0,
  subst (λ x. Comes wrong vs (events_in t (state_next c t e) e.actor e.kind x) led.0) (sym turn.is_op)
      (subst (λ st. Comes wrong vs (events_at t.after (state_next c t e).after e.actor turn.op g.pages st after e.kind)
      led.0) (sym turn.is_stack) led.1),
  subst (λ g. SitsAt c e.actor g led.0) (sym goes) (sits_going c e.actor g.index turn.op _ _ led.0 turn.is_op led.2),
)
  where
    g : Going
    g = t.going e.actor

    turn : Turn c t.after s.past e.actor e.kind (t.going e.actor) (going_next c t.after e.actor (t.going e.actor)
        e.kind)
    turn = s.turn

    after : Phase
    after = top_of ((state_next c t e).going e.actor).stack

    goes : going_next c t.after e.actor (t.going e.actor) e.kind
        ≡ going_on c e.actor (t.going e.actor).index
        (after_top s.turn.op s.turn.top s.turn.below e.kind (seen_at t.after s.turn.op (t.going e.actor).pages
        s.turn.top e.kind))
        (recorded s.turn.top (seen_at t.after s.turn.op (t.going e.actor).pages s.turn.top e.kind).page
        (t.going e.actor).pages e.kind)
    goes = going_is c t.after e.actor (t.going e.actor) e.kind s.turn.op s.turn.top s.turn.below s.turn.is_op
        s.turn.is_stack

    sits : Sits s.turn.op (t.going e.actor).pages (s.turn.top ∷ s.turn.below) vs
    sits = subst (λ st. Sits s.turn.op (t.going e.actor).pages st vs) s.turn.is_stack
        (subst (λ x. SitsOf x (t.going e.actor).pages (t.going e.actor).stack vs) s.turn.is_op h)

    led : Leads wrong t.after (state_next c t e).after e.actor s.turn.op (t.going e.actor).pages s.turn.top s.turn.below
        (top_of ((state_next c t e).going e.actor).stack) e.kind vs
    led = sits_on wrong j c t.after (state_next c t e).after (next t.after e.actor e.kind) s.past
        (past_next s.past t.after.length e.actor e.kind) e.actor (t.going e.actor).index s.turn.op
        (t.going e.actor).pages
        s.turn.top s.turn.below (top_of ((state_next c t e).going e.actor).stack) e.kind vs s.now.sound s.turn.is_op
        s.turn.known
        s.turn.is_due
        (subst (λ g. Knows c (next t.after e.actor e.kind) (past_next s.past t.after.length e.actor e.kind) e.actor g)
        goes s.turn.knows) sits

-- ---- what is wrong there

none_stays : (o : Op) (xs : List Migrating) (step : MoveStep) (v : ℕ) (frames : List TraceFrame)
    (us : List (ℕ × TraceFrame))
    (x : Migrating) → Among xs x → x.moved ≡ true → AllOf (Stay o xs step v frames) us
    → list_any (λ u. u.0 == x.page) us ≡ false
none_stays o xs step v frames [] x i m h = refl
none_stays o xs step v frames (u ∷ us) x i m h = by_page (u.0 == x.page) refl
    (none_stays o xs step v frames us x i m h.1)
  where
    by_page : (b : Bool) → (u.0 == x.page) ≡ b → list_any (λ u. u.0 == x.page) us ≡ false
        → (b || list_any (λ u. u.0 == x.page) us) ≡ false
    by_page true e more = absurd (h.0.unmoved x i m (sym (eqb-true u.0 x.page e)))
    by_page false e more = more

all_freed : (o : Op) (xs : List Migrating) (step : MoveStep) (v : ℕ) (frames : List TraceFrame)
    (us : List (ℕ × TraceFrame))
    → is_to_device o ≡ true → AllOf (Stay o xs step v frames) us → list_any (λ x. is_kept_back frames x.1) us ≡ false
all_freed o xs step v frames [] d h = refl
all_freed o xs step v frames (u ∷ us) d h =
    ap (λ b. not b || list_any (λ x. is_kept_back frames x.1) us) (h.0.freed d) ∙ all_freed o xs step v frames us d h.1

pub judged : Judges move_wrong
judged = record { none = none; only = only; home = home; ends = ends; sets = sets }
  where
    none : (x : Event) → move_wrong [] x ≡ false
    none (Event.Set m v f w) = and_right (not (is_sole w)) false refl
    none (Event.Finalize p) = refl
    none x = refl

    only : (vs : List View) (x : Event) → is_judged x ≡ false → move_wrong vs x ≡ false
    only vs (Event.Set m v f w) h = absurd (true≢false h)
    only vs (Event.Finalize p) h = absurd (true≢false h)
    only vs x h = refl

    home : (y : View) (p : ℕ) → y.to_device ≡ false → move_wrong (y ∷ []) (Event.Finalize p) ≡ false
    home y p h = ap (λ b. b && list_any (λ x. is_kept_back y.freed x.1) y.stayed) h

    ends : (o : Op) (xs : List Migrating) (y : View) (p : ℕ) → Good o xs MoveStep.Finish 0 [] y
        → move_wrong (y ∷ []) (Event.Finalize p) ≡ false
    ends o xs y p h = by_device y.to_device refl
      where
        by_device : (b : Bool) → y.to_device ≡ b → (b && list_any (λ x. is_kept_back y.freed x.1) y.stayed) ≡ false
        by_device true e = all_freed o xs MoveStep.Finish 0 y.freed y.stayed (sym h.0 ∙ e) h.1
        by_device false e = refl

    sets : (o : Op) (xs : List Migrating) (v : ℕ) (x : Migrating) (y : View) (m : ℕ) (f : TraceFrame) (w : TableRight)
        → Good o xs MoveStep.SetOwnTable v [] y → Among xs x → x.moved ≡ true
        → move_wrong (y ∷ []) (Event.Set m x.page f w) ≡ false
    sets o xs v x y m f w h i mo = ap (λ b. not (is_sole w) && b) (none_stays o xs MoveStep.SetOwnTable v y.freed
        y.stayed x i mo h.1)
        ∙ and_right (not (is_sole w)) false refl

-- each entry keeps what is seen of migrations
pub moves_next : (c : Program) (t : State) (e : Entry) (k l : Known) → Step c t e → KnowsMoves c k t
    → Went k l e.actor (views_after (views k e.actor)
    (events_in t (state_next c t e) e.actor e.kind (op_at c e.actor (t.going e.actor).index)))
    → KnowsMoves c l (state_next c t e)
moves_next c t e k l s kn gone = each_actor c t e (λ b g. SitsAt c b g (views l b))
    (subst (SitsAt c e.actor (going_next c t.after e.actor (t.going e.actor) e.kind))
    (sym (gone.here ∙ led.1.is)) led.2)
    (λ b ne. subst (SitsAt c b (t.going b)) (sym (gone.there b ne)) (kn b))
  where
    led : (ws : List View) × Comes move_wrong (views k e.actor) (events_in t (state_next c t e) e.actor e.kind
        (op_at c e.actor (t.going e.actor).index)) ws
        × SitsAt c e.actor (going_next c t.after e.actor (t.going e.actor) e.kind) ws
    led = entry_goes move_wrong judged c t e s (views k e.actor) (kn e.actor)

-- and breaks none of the two rules
moves_keep : (c : Program) → Keeps c moves_badly (KnowsMoves c)
moves_keep c t e k s kn = (
  gone.0,
  moves_next c t e k (fold known_next k (events_of c t (state_next c t e) e)) s kn
      gone.1,
)
  where
    led : (ws : List View) × Comes move_wrong (views k e.actor) (events_in t (state_next c t e) e.actor e.kind
        (op_at c e.actor (t.going e.actor).index)) ws
        × SitsAt c e.actor (going_next c t.after e.actor (t.going e.actor) e.kind) ws
    led = entry_goes move_wrong judged c t e s (views k e.actor) (kn e.actor)

    gone : GoBy moves_badly k (events_of c t (state_next c t e) e) (λ l. Went k l e.actor (views_after (views k e.actor)
        (events_in t (state_next c t e) e.actor e.kind (op_at c e.actor (t.going e.actor).index))))
    gone = went moves_badly move_wrong moves_so e.actor (events_in t (state_next c t e) e.actor e.kind
        (op_at c e.actor (t.going e.actor).index)) k (views k e.actor) refl led.1.calm

-- no legal history breaks one of the two
moves_watched : (c : Program) → IsScript c → (h : List Entry) → Legal c h
    → GoBy moves_badly known_start (project c h) (λ l. (u : State) × KnowsMoves c l u)
moves_watched c sc h legal = watched c moves_badly (KnowsMoves c) sc (moves_keep c)
    (λ a. sits_from c a 0) h legal

-- no legal history breaks `set-moved`
pub set_moved_kept : IsKept Rule.SetMoved
set_moved_kept c sc h legal = never set_moved known_start (project c h)
    (calm_left set_moved drop_lost known_start (project c h) (moves_watched c sc h legal).0)

-- nor `drop-lost`
pub drop_lost_kept : IsKept Rule.DropLost
drop_lost_kept c sc h legal = never drop_lost known_start (project c h)
    (calm_right set_moved drop_lost known_start (project c h) (moves_watched c sc h legal).0)
