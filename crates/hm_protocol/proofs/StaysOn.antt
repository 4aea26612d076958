-- What is seen of a migration goes on as its steps do, and a frame that becomes free is one more of it.
use Rattle.std.proofs.Common.{refl, ap, sym, subst, ◌∙◌}
use Rattle.std.proofs.lemmas.Bool.{false≢true}
use Rattle.std.specs.Prelude.{◌≡◌, ℕ, Bool, true, false, ◌&&◌, ◌||◌, ◌==◌, if◌then◌else◌}
use Rattle.std.specs.Prelude.{Option, Some, None, is_some, List, [], ◌∷◌, ◌++◌, map}
use Rattle.std.specs.List.{list_any}
use Rattle.hm_base.specs.declared.Frame.{Frame}
use Rattle.hm_base.specs.declared.PoolId.{PoolId}
use Rattle.hm_base.specs.declared.ops.Op.{Op}
use Rattle.hm_history.specs.Memory.Plain.{mirror_dev}
use Rattle.hm_history.specs.Memory.After.{After}
use Rattle.hm_history.specs.Kernel.Operation.{op_mirror, is_migration}
use Rattle.hm_history.specs.declared.phases.Migrating.{Migrating}
use Rattle.hm_history.specs.declared.phases.MoveStep.{MoveStep}
use Rattle.hm_laws.specs.Past.{Past}
use Rattle.hm_laws.specs.Facts.{Holds, Lands_on}
use Rattle.hm_laws.proofs.Migration.Setup.{at_itself}
use Rattle.hm_protocol.specs.declared.events.Event.{Event}
use Rattle.hm_protocol.specs.declared.events.TraceFrame.{TraceFrame}
use Rattle.hm_protocol.specs.Words.{is_same}
use Rattle.hm_protocol.specs.Projection.{in_trace, is_home}
use Rattle.hm_protocol.proofs.Entries.{not_home}
use Rattle.hm_protocol.proofs.MigrationViews.{View, freed_view}
use Rattle.hm_protocol.proofs.Sitting.{Good, One, Stay, AllOf, Given, Unmoved, Stays, all_more, gone_by, is_later}

-- ---- what is seen of a migration goes on

pub one_map : (P Q : View → Type 0) → ((y : View) → P y → Q y) → (vs : List View) → One P vs → One Q vs
one_map P Q f [] h = absurd h
one_map P Q f (y ∷ []) h = f y h
one_map P Q f (y ∷ z ∷ vs) h = absurd h

pub good_on : (o : Op) (xs zs : List Migrating) (step : MoveStep) (v : ℕ) (later : MoveStep) (w : ℕ)
    (pending more : List TraceFrame) (y z : View) → z.to_device ≡ y.to_device → z.stayed ≡ y.stayed
    → ((u : ℕ) → gone_by step v u ≡ true → (gone_by later w u ≡ true) × (Unmoved xs u → Unmoved zs u))
    → ((f : TraceFrame) → list_any (is_same f) (pending ++ y.freed) ≡ true
    → list_any (is_same f) (more ++ z.freed) ≡ true)
    → Good o xs step v pending y → Good o zs later w more z
good_on o xs zs step v later w pending more y z d e g f h = (
  d ∙ h.0,
  subst (AllOf (Stay o zs later w (more ++ z.freed))) (sym e)
      (all_more (Stay o xs step v (pending ++ y.freed)) (Stay o zs later w (more ++ z.freed)) (λ u k. record {
        past = (g u.0 k.past).0;
        unmoved = (g u.0 k.past).1 k.unmoved;
        freed = λ t. f u.1 (k.freed t);
      }) y.stayed h.1),
)

pub stays_one : (o : Op) (xs : List Migrating) (step : MoveStep) (v : ℕ) (vs : List View) → is_later step ≡ true
    → Stays o xs step v vs → One (Good o xs step v []) vs
stays_one o xs MoveStep.FreezeOthers v vs e h = absurd (false≢true e)
stays_one o xs MoveStep.TakeAndCopy v vs e h = h
stays_one o xs MoveStep.Commit v vs e h = h
stays_one o xs MoveStep.SetOwnTable v vs e h = h
stays_one o xs MoveStep.Finish v vs e h = h

pub one_stays : (o : Op) (xs : List Migrating) (step : MoveStep) (v : ℕ) (vs : List View) → is_later step ≡ true
    → One (Good o xs step v []) vs → Stays o xs step v vs
one_stays o xs MoveStep.FreezeOthers v vs e h = absurd (false≢true e)
one_stays o xs MoveStep.TakeAndCopy v vs e h = h
one_stays o xs MoveStep.Commit v vs e h = h
one_stays o xs MoveStep.SetOwnTable v vs e h = h
one_stays o xs MoveStep.Finish v vs e h = h

pub gone_later : (step : MoveStep) (v u : ℕ) → gone_by step v u ≡ true → is_later step ≡ true
gone_later MoveStep.FreezeOthers v u e = e
gone_later MoveStep.TakeAndCopy v u e = refl
gone_later MoveStep.Commit v u e = refl
gone_later MoveStep.SetOwnTable v u e = refl
gone_later MoveStep.Finish v u e = refl

pub any_later : (f g : TraceFrame) (fs : List TraceFrame) → list_any (is_same f) fs ≡ true
    → list_any (is_same f) (g ∷ fs) ≡ true
any_later f g fs h = ap (λ b. is_same f g || b) h ∙ by_bool (is_same f g)
  where
    by_bool : (b : Bool) → (b || true) ≡ true
    by_bool true = refl
    by_bool false = refl

-- a frame that becomes free is one more
pub stays_freed : (o : Op) (xs : List Migrating) (step : MoveStep) (v : ℕ) (f : TraceFrame) (vs : List View)
    → Stays o xs step v vs → Stays o xs step v (map (freed_view f) vs)
stays_freed o xs MoveStep.FreezeOthers v f vs h = ap (map (freed_view f)) h
stays_freed o xs step v f [] h = absurd h
stays_freed o xs step v f (y ∷ []) h =
    good_on o xs xs step v step v [] [] y (freed_view f y) refl refl (λ u e. (e, λ m. m))
    (λ g e. any_later g f y.freed e) h
stays_freed o xs step v f (y ∷ z ∷ vs) h = absurd h

pub same_frame_seen : (g : Frame) → is_same (in_trace g) (in_trace g) ≡ true
same_frame_seen g = by_pool g.pool
  where
    both : (b d : Bool) → b ≡ true → d ≡ true → (b && d) ≡ true
    both true d e h = h
    both false d e h = e

    by_pool : (p : PoolId) → is_same (elim p as (λ x. TraceFrame) [
      | PoolId.System ↦ TraceFrame.System g.number
      | PoolId.Device d ↦ TraceFrame.Private d g.number
    ]) (elim p as (λ x. TraceFrame) [
      | PoolId.System ↦ TraceFrame.System g.number
      | PoolId.Device d ↦ TraceFrame.Private d g.number
    ]) ≡ true
    by_pool PoolId.System = at_itself g.number
    by_pool (PoolId.Device d) = both (d == d) (g.number == g.number) (at_itself d) (at_itself g.number)

-- the frame of a migration to a device is the device's
pub given_by : (s : After) (t : Past) (a : ℕ) (o : Op) (g : Frame) → Holds s t a (Lands_on o g) → Given o g
given_by s t a o g h e = ap (λ (p : PoolId). is_some (elim p as (λ x. Option ℕ)
    [ PoolId.System ↦ None | PoolId.Device d ↦ Some d ]))
    (h.1 ∙ ap (λ b. elim b as (λ x. PoolId) [
      | true ↦ PoolId.Device (mirror_dev s.plain (op_mirror o))
      | false ↦
          PoolId.System
    ]) e)

-- nothing is finalized here
pub none_over : (o : Op) (p : ℕ) → is_migration o ≡ true
    → (if is_home o then Event.Finalize p ∷ [] else []) ≡ []
none_over o p h = ap (λ b. if b then Event.Finalize p ∷ [] else []) (not_home o h)
