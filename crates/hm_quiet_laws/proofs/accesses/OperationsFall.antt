-- Accesses, and operations that take a page alone, at all their stacks.
use Rattle.std.proofs.Common.{◌≡◌, ℕ, ◌+◌, ◌≤◌, ◌⊎◌, inl, inr, Bool, true, false, ◌&&◌, ◌||◌, not, nat_le, Option, Some, None, List, [], ◌∷◌, refl, ap, ◌∙◌, arith}
use Rattle.std.proofs.lemmas.Bool.Decides.{nat_tests}
use Rattle.std.proofs.lemmas.Bool.{cases_eq, and_parts}
use Rattle.hm_base.specs.Pages.{Pages, one_page}
use Rattle.hm_base.specs.Program.{Program}
use Rattle.hm_base.specs.declared.Frame.{Frame}
use Rattle.hm_base.specs.declared.Place.{Place}
use Rattle.hm_base.specs.declared.ops.Op.{Op}
use Rattle.hm_history.specs.Memory.Plain.{in_window, mirror_proc}
use Rattle.hm_history.specs.Memory.Locks.{writer}
use Rattle.hm_history.specs.Memory.After.{After}
use Rattle.hm_history.specs.Kernel.Operation.{op_mirror, is_evicting, is_migration}
use Rattle.hm_history.specs.Kernel.Going.{touch_page, touch_proc}
use Rattle.hm_history.specs.Kernel.Due.{due_begin, due_answer, due_guard, due_taken, due_decide, due_phase}
use Rattle.hm_history.specs.declared.Kind.{Kind}
use Rattle.hm_history.specs.declared.phases.Migrating.{Migrating}
use Rattle.hm_history.specs.declared.phases.Touch.{Touch}
use Rattle.hm_history.specs.declared.phases.Touch.TheVariants.{Cpu, Walk, Sole}
use Rattle.hm_history.specs.declared.phases.Body.{Body}
use Rattle.hm_history.specs.declared.phases.Phase.{Phase}
use Rattle.hm_history.specs.declared.phases.Next.{Next}
use Rattle.hm_history.specs.declared.phases.Next.TheVariants.{Do, Wait}
use Rattle.hm_history.proofs.Frames.{frame_same}
use Rattle.hm_laws.specs.Past.{Past}
use Rattle.hm_laws.specs.Sound.{Sound}
use Rattle.hm_laws.specs.Shapes.{of_system, begins}
use Rattle.hm_laws.specs.Facts.{Locks_only, answering, Touches, Holds, HoldsAll, facts}
use Rattle.hm_laws.specs.Records.{starts_empty}
use Rattle.hm_laws.proofs.Due.Good.{Good, either, either_option}
use Rattle.hm_quiet_laws.proofs.measure.Left.{view, stage_now}
use Rattle.hm_quiet_laws.proofs.measure.Counts.{Few}
use Rattle.hm_quiet_laws.proofs.measure.Shapes.{is_access, on_fault, on_drops, is_deciding, on_copied, on_finish, no_test}
use Rattle.hm_quiet_laws.proofs.alone.NeverWaits.{Alone}
use Rattle.hm_quiet_laws.proofs.alone.Ends.{StepsTo, EachFalls}
use Rattle.hm_quiet_laws.proofs.faults.TakesFall.{Fits, if_true, if_false}
use Rattle.hm_quiet_laws.proofs.faults.FaultsFall.{DecidesTo}
use Rattle.hm_quiet_laws.proofs.faults.DecisionsFall.{decide_to}
use Rattle.hm_quiet_laws.proofs.accesses.GuardsFall.{OnAccess, told_in, replace_in, restore_in, seize_in, catch_in, freeze_in, nothing_in, nothing_alone_in}
use Rattle.hm_quiet_laws.proofs.accesses.PiecesFall.{piece_steps, fetched_steps, begun_steps, noted_steps, drop_decide_steps, armed_steps, taken_steps}
use Rattle.hm_quiet_laws.proofs.accesses.HomeFalls.{alone_steps, copy_steps, copied_steps, finish_steps, kept_steps, settle_steps, give_up_steps}

-- an actor that is alone and has no frame locked finds none locked
pub unlocked : (s : After) (t : Past) (a : ℕ) → Alone s a → Holds s t a (Locks_only []) → (g : Frame) → s.locks.frame g ≡ None
unlocked s t a al h g = by (s.locks.frame g) refl
  where
    by : (x : Option ℕ) → s.locks.frame g ≡ x → x ≡ None
    by None e = refl
    by (Some b) e = own (cases_eq b a)
      where
        own : (b ≡ a) ⊎ (b ≡ a → ⊥) → Some b ≡ None
        own (inl i) = absurd (no_test (h g (e ∙ ap Some i)))
        own (inr ne) = absurd (al.busy b ne (inr (g, e)))

fits_of : (s : After) (t : Past) (a : ℕ) (o : Op) (touch : Touch) → Touches s t a o touch → Fits o touch
fits_of s t a o (Cpu k) h = (and_parts _ _ h).0
fits_of s t a o (Walk k at q) h = (and_parts _ _ h.0).0
fits_of s t a o Sole h = h.0

decided : (c : Program) (s : After) (a : ℕ) (o : Op) (xs : List Migrating) (touch : Touch) (n : Next) → DecidesTo c s a o xs touch n → StepsTo c s a o xs (Phase.Decide touch) [] OnAccess n
decided c s a o xs touch (Do k) h = h
decided c s a o xs touch (Wait y) h = tt

-- the first turn of an operation that takes a page alone, and its answers
begin_steps : (c : Program) (s : After) (a : ℕ) (o : Op) (xs : List Migrating) → is_access o ≡ true → (begins o && starts_empty o xs) ≡ true → StepsTo c s a o xs Phase.Begin [] OnAccess (due_begin s a o)
begin_steps c s a (Op.Exclusive m v) xs i h = either (StepsTo c s a (Op.Exclusive m v) xs Phase.Begin [] OnAccess) (in_window s.plain m (one_page v)) _ _
    (λ e. either_option (StepsTo c s a (Op.Exclusive m v) xs Phase.Begin [] OnAccess) (writer s.locks (mirror_proc s.plain m)) _ _ (λ w. (omega (arith, if_true (in_window s.plain m (one_page v)) (1 + stage_now c (view s) a (Op.Exclusive m v) Sole) 1 e), refl)) (λ b w. tt))
    (λ e. (omega (arith, if_false (in_window s.plain m (one_page v)) (1 + stage_now c (view s) a (Op.Exclusive m v) Sole) 1 e), refl))
begin_steps c s a (Op.Load p at n) xs i h = cc
begin_steps c s a (Op.Store p at n) xs i h = cc
begin_steps c s a (Op.DeviceLoad m at n) xs i h = cc
begin_steps c s a (Op.DeviceStore m at n) xs i h = cc
begin_steps c s a (Op.Add m at n) xs i h = cc
begin_steps c s a o xs i h = absurd (no_test i)

answer_steps : (c : Program) (s : After) (t : Past) (a : ℕ) (o : Op) (xs : List Migrating) → is_access o ≡ true → HoldsAll s t a (answering o) → StepsTo c s a o xs Phase.Answer [] OnAccess (Do (due_answer s o))
answer_steps c s t a (Op.Exclusive m v) xs i h = (omega arith, refl)
answer_steps c s t a (Op.Add m at n) xs i h = (omega arith, refl)
answer_steps c s t a (Op.Load p at n) xs i h = absurd h.0
answer_steps c s t a (Op.Store p at n) xs i h = absurd h.0
answer_steps c s t a (Op.DeviceLoad m at n) xs i h = absurd h.0
answer_steps c s t a (Op.DeviceStore m at n) xs i h = absurd h.0
answer_steps c s t a o xs i h = absurd (no_test i)

access_evicts : (o : Op) → is_access o ≡ true → (is_evicting o ≡ false) × (is_migration o ≡ false)
access_evicts (Op.Load p at n) i = (refl, refl)
access_evicts (Op.Store p at n) i = (refl, refl)
access_evicts (Op.DeviceLoad m at n) i = (refl, refl)
access_evicts (Op.DeviceStore m at n) i = (refl, refl)
access_evicts (Op.Exclusive m v) i = (refl, refl)
access_evicts (Op.Add m at n) i = (refl, refl)
access_evicts o i = absurd (no_test i)

-- a frame taken, by what it is for
taken_at : (c : Program) (s : After) (t : Past) (a : ℕ) (o : Op) (xs : List Migrating) (touch : Touch) (g : Frame) (x : Place) → HoldsAll s t a (facts o xs (Phase.Taken touch g x ∷ [])) → StepsTo c s a o xs (Phase.Taken touch g x) [] OnAccess (due_taken s g x (touch_proc s o) (touch_page o touch))
taken_at c s t a o xs touch g Place.Zero h = absurd h.0
taken_at c s t a o xs touch g Place.Empty h = taken_steps c s a o xs touch g Place.Empty h.1.1.1.1.1.1.1.0 refl (λ e. cc)
taken_at c s t a o xs touch g (Place.Sys n w) h = taken_steps c s a o xs touch g (Place.Sys n w) h.1.1.1.1.1.1.1.0 refl (λ e. cc)
taken_at c s t a o xs touch g (Place.Own d n w) h = absurd (no_test h.1.1.1.1.1.0)
taken_at c s t a o xs touch g (Place.Moving f w) h = absurd (no_test h.1.1.1.1.1.0)
taken_at c s t a o xs touch g (Place.Exclusive n b) h = absurd (no_test h.1.1.1.1.1.0)

dev_of : (x y : Bool) → (x && not y) ≡ true → y ≡ false
dev_of x y h = grind arith

guard_steps : (c : Program) (s : After) (t : Past) (a : ℕ) (o : Op) (xs : List Migrating) (p : ℕ) (r : Pages) (met : Bool) (told : Option ℕ) (body : Body) (below : List Phase) → is_access o ≡ true → Sound c s t → on_fault body below ≡ true → HoldsAll s t a (facts o xs (Phase.Guard p r met told body ∷ below)) → Good c s t a o xs (Phase.Guard p r met told body) below (Do (due_guard s a o p r met told body)) →
    StepsTo c s a o xs (Phase.Guard p r met told body) below OnAccess (Do (due_guard s a o p r met told body))
guard_steps c s t a o xs p r met told (Body.Replace over g) (Phase.Decide touch ∷ []) i so e h gd = told_in c s t a o xs p r met told (Body.Replace over g) (Phase.Decide touch ∷ []) so e (replace_in c s t a o xs p r met told over g touch) gd
guard_steps c s t a o xs p r met told Body.Restore (Phase.Decide touch ∷ []) i so e h gd = told_in c s t a o xs p r met told Body.Restore (Phase.Decide touch ∷ []) so e (restore_in c s t a o xs p r met told touch) gd
guard_steps c s t a o xs p r met told (Body.Seize f) (Phase.Decide touch ∷ []) i so e h gd = told_in c s t a o xs p r met told (Body.Seize f) (Phase.Decide touch ∷ []) so e (seize_in c s t a o xs p r met told f touch so) gd
guard_steps c s t a o xs p r met told (Body.Catch f) (Phase.Decide touch ∷ []) i so e h gd = told_in c s t a o xs p r met told (Body.Catch f) (Phase.Decide touch ∷ []) so e (catch_in c s t a o xs p r met told f touch so (access_evicts o i).0 (dev_of true (of_system f) e)) gd
guard_steps c s t a o xs p r met told (Body.Freeze f) (Phase.Emptying g w ∷ Phase.Decide touch ∷ []) i so e h gd = told_in c s t a o xs p r met told (Body.Freeze f) (Phase.Emptying g w ∷ Phase.Decide touch ∷ []) so e (freeze_in c s t a o xs p r met told f g w touch so (frame_same f g h.1.1.1.0) (dev_of true (of_system g) e)) gd
guard_steps c s t a o xs p r met told Body.Nothing (Phase.Decide touch ∷ []) i so e h gd = told_in c s t a o xs p r met told Body.Nothing (Phase.Decide touch ∷ []) so e (nothing_in c s t a o xs p r met told touch) gd
guard_steps c s t a o xs p r met told Body.Nothing (Phase.Emptying g w ∷ Phase.Decide touch ∷ []) i so e h gd = told_in c s t a o xs p r met told Body.Nothing (Phase.Emptying g w ∷ Phase.Decide touch ∷ []) so e (nothing_alone_in c s t a o xs p r met told g w touch (dev_of true (of_system g) e)) gd
guard_steps c s t a o xs p r met told body below i so e h gd = absurd (no_test e)

not_taken : (s : After) (t : Past) (a : ℕ) (o : Op) (xs : List Migrating) (touch : Touch) (k : Frame) (x : Place) (y : Phase) (ys : List Phase) → HoldsAll s t a (facts o xs (Phase.Taken touch k x ∷ y ∷ ys)) → ⊥
not_taken s t a o xs touch k Place.Zero y ys h = h.0
not_taken s t a o xs touch k Place.Empty y ys h = h.0
not_taken s t a o xs touch k (Place.Sys n w) y ys h = h.0
not_taken s t a o xs touch k (Place.Own d n w) y ys h = h.0
not_taken s t a o xs touch k (Place.Moving f w) y ys h = h.0
not_taken s t a o xs touch k (Place.Exclusive n b) y ys h = h.0

pub in_seven : (k : ℕ) → nat_le k 7 ≡ true → k ≤ 7
in_seven k h = grind (arith, nat_tests)

back_system : (o : Op) (g : Frame) → is_access o ≡ true → (of_system g || is_migration o) ≡ true → of_system g ≡ true
back_system o g i h = only (of_system g) (is_migration o) h (access_evicts o i).1
  where
    only : (x y : Bool) → (x || y) ≡ true → y ≡ false → x ≡ true
    only x y e f = grind arith

drop_steps : (c : Program) (s : After) (a : ℕ) (o : Op) (xs : List Migrating) (f : Frame) (below : List Phase) → on_drops below ≡ true → StepsTo c s a o xs (Phase.Drop f) below OnAccess (Do (Kind.Drop f))
drop_steps c s a o xs f (Phase.Decide touch ∷ []) e = drop_decide_steps c s a o xs touch f
drop_steps c s a o xs f (Phase.Guard p r met told Body.Nothing ∷ Phase.Decide touch ∷ []) e = (omega arith, refl)
drop_steps c s a o xs f below e = absurd (no_test e)

alone_at : (c : Program) (s : After) (t : Past) (a : ℕ) (o : Op) (xs : List Migrating) (f : Frame) (w : _) (below : List Phase) → Sound c s t → Few c s → (is_deciding below && not (of_system f)) ≡ true → HoldsAll s t a (facts o xs (Phase.Emptying f w ∷ below)) → StepsTo c s a o xs (Phase.Emptying f w) below OnAccess (due_phase c s a o xs (Phase.Emptying f w))
alone_at c s t a o xs f w (Phase.Decide touch ∷ []) so fw e h = alone_steps c s t a o xs f w touch so fw (fits_of s t a o touch h.1.1.1.0) (dev_of true (of_system f) e)
alone_at c s t a o xs f w below so fw e h = absurd (no_test e)

copy_at : (c : Program) (s : After) (t : Past) (a : ℕ) (o : Op) (xs : List Migrating) (f g : Frame) (k : ℕ) (below : List Phase) → on_copied below ≡ true → HoldsAll s t a (facts o xs (Phase.Copy f g k ∷ below)) → StepsTo c s a o xs (Phase.Copy f g k) below OnAccess (Do (Kind.Copied f g (Some k)))
copy_at c s t a o xs f g k (Phase.Copied i j ∷ Phase.Decide touch ∷ []) e h = copy_steps c s a o xs f g i j k touch (in_seven k h.1.1.0)
copy_at c s t a o xs f g k below e h = absurd (no_test e)

copied_at : (c : Program) (s : After) (a : ℕ) (o : Op) (xs : List Migrating) (f g : Frame) (below : List Phase) → is_deciding below ≡ true → StepsTo c s a o xs (Phase.Copied f g) below OnAccess (Do (Kind.Committed f g))
copied_at c s a o xs f g (Phase.Decide touch ∷ []) e = copied_steps c s a o xs f g touch
copied_at c s a o xs f g below e = absurd (no_test e)

finish_at : (c : Program) (s : After) (t : Past) (a : ℕ) (o : Op) (xs : List Migrating) (f : Frame) (to : Option Frame) (below : List Phase) → is_access o ≡ true → Sound c s t → Few c s → on_finish to below ≡ true → HoldsAll s t a (facts o xs (Phase.Finish f to ∷ below)) → Good c s t a o xs (Phase.Finish f to) below (due_phase c s a o xs (Phase.Finish f to)) →
    StepsTo c s a o xs (Phase.Finish f to) below OnAccess (due_phase c s a o xs (Phase.Finish f to))
finish_at c s t a o xs f (Some g) (Phase.Decide touch ∷ []) i so fw e h gd = finish_steps c s t a o xs f g touch so fw (back_system o g i h.1.1.1.0) gd
finish_at c s t a o xs f None (Phase.GiveUp (Some touch) ∷ []) i so fw e h gd = kept_steps c s t a o xs f touch so fw gd
finish_at c s t a o xs f to below i so fw e h gd = absurd (no_test e)

settle_at : (c : Program) (s : After) (a : ℕ) (o : Op) (xs : List Migrating) (g : Frame) (below : List Phase) → is_deciding below ≡ true → StepsTo c s a o xs (Phase.Settle g) below OnAccess (due_phase c s a o xs (Phase.Settle g))
settle_at c s a o xs g (Phase.Decide touch ∷ []) e = settle_steps c s a o xs g touch
settle_at c s a o xs g below e = absurd (no_test e)

pub access_falls : (c : Program) (o : Op) → is_access o ≡ true → EachFalls c o OnAccess
access_falls c o i s t a xs Phase.Begin [] so f al h e g = begin_steps c s a o xs i h.0
access_falls c o i s t a xs Phase.Begin (y ∷ ys) so f al h e g = absurd h.0
access_falls c o i s t a xs Phase.Answer [] so f al h e g = answer_steps c s t a o xs i h.1.1
access_falls c o i s t a xs Phase.Answer (y ∷ ys) so f al h e g = absurd h.0
access_falls c o i s t a xs (Phase.Piece k) [] so f al h e g = piece_steps c s a o xs k i h.0
access_falls c o i s t a xs (Phase.Piece k) (y ∷ ys) so f al h e g = absurd h.0
access_falls c o i s t a xs (Phase.Fetched old) [] so f al h e g = fetched_steps c s a o xs old h.0
access_falls c o i s t a xs (Phase.Fetched old) (y ∷ ys) so f al h e g = absurd h.0
access_falls c o i s t a xs (Phase.Begun k at q) [] so f al h e g = begun_steps c s a o xs k at q (mirror_proc s.plain (op_mirror o))
access_falls c o i s t a xs (Phase.Begun k at q) (y ∷ ys) so f al h e g = absurd h.0
access_falls c o i s t a xs (Phase.Decide touch) [] so f al h e g = decided c s a o xs touch (due_decide c s a o touch (touch_proc s o) (touch_page o touch)) (decide_to c s a o xs touch f i (fits_of s t a o touch h.0) (unlocked s t a al h.1.1.1.0))
access_falls c o i s t a xs (Phase.Decide touch) (y ∷ ys) so f al h e g = absurd h.0
access_falls c o i s t a xs (Phase.Noted k at q x) [] so f al h e g = noted_steps c s a o xs k at q x (and_parts _ _ h.0.0).0
access_falls c o i s t a xs (Phase.Noted k at q x) (y ∷ ys) so f al h e g = absurd h.0
access_falls c o i s t a xs (Phase.Taken touch k x) [] so f al h e g = taken_at c s t a o xs touch k x h
access_falls c o i s t a xs (Phase.Taken touch k x) (y ∷ ys) so f al h e g = absurd (not_taken s t a o xs touch k x y ys h)
access_falls c o i s t a xs (Phase.Armed touch k x) [] so f al h e g = armed_steps c s a o xs touch k x f h.1.1.1.1.1.1.1.0
access_falls c o i s t a xs (Phase.Armed touch k x) (y ∷ ys) so f al h e g = absurd h.0
access_falls c o i s t a xs (Phase.Guard p r met told body) below so f al h e g = guard_steps c s t a o xs p r met told body below i so e h g
access_falls c o i s t a xs (Phase.Drop k) below so f al h e g = drop_steps c s a o xs k below e
access_falls c o i s t a xs (Phase.Emptying k w) below so f al h e g = alone_at c s t a o xs k w below so f e h
access_falls c o i s t a xs (Phase.Copy k l n) below so f al h e g = copy_at c s t a o xs k l n below e h
access_falls c o i s t a xs (Phase.Copied k l) below so f al h e g = copied_at c s a o xs k l below e
access_falls c o i s t a xs (Phase.Finish k to) below so f al h e g = finish_at c s t a o xs k to below i so f e h g
access_falls c o i s t a xs (Phase.Settle k) below so f al h e g = settle_at c s a o xs k below e
access_falls c o i s t a xs (Phase.GiveUp (Some touch)) [] so f al h e g = give_up_steps c s a o xs touch i
access_falls c o i s t a xs top below so f al h e g = absurd (no_test e)
