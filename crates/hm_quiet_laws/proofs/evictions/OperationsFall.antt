-- Evictions and removals at all their stacks.
use Rattle.std.proofs.Common.{◌≡◌, ℕ, Bool, true, Option, Some, None, List, [], ◌∷◌, refl, arith}
use Rattle.hm_base.specs.Pages.{Pages}
use Rattle.hm_base.specs.Program.{Program}
use Rattle.hm_base.specs.declared.Frame.{Frame}
use Rattle.hm_base.specs.declared.ops.Op.{Op}
use Rattle.hm_history.specs.Memory.After.{After}
use Rattle.hm_history.specs.Kernel.Operation.{is_evicting}
use Rattle.hm_history.specs.Kernel.Due.{due_guard, due_phase}
use Rattle.hm_history.specs.declared.Kind.{Kind}
use Rattle.hm_history.specs.declared.phases.Migrating.{Migrating}
use Rattle.hm_history.specs.declared.phases.Body.{Body}
use Rattle.hm_history.specs.declared.phases.Phase.{Phase}
use Rattle.hm_history.specs.declared.phases.Next.TheVariants.{Do}
use Rattle.hm_laws.specs.Past.{Past}
use Rattle.hm_laws.specs.Sound.{Sound}
use Rattle.hm_laws.specs.Facts.{HoldsAll, facts}
use Rattle.hm_laws.proofs.Due.Good.{Good}
use Rattle.hm_quiet_laws.proofs.measure.Counts.{Few}
use Rattle.hm_quiet_laws.proofs.measure.Shapes.{on_frame_body, is_frames, on_copied_frames, no_test}
use Rattle.hm_quiet_laws.proofs.alone.Ends.{StepsTo, EachFalls}
use Rattle.hm_quiet_laws.proofs.accesses.OperationsFall.{unlocked, in_seven}
use Rattle.hm_quiet_laws.proofs.evictions.FramesFall.{OnFrames, told_in_frames, catch_in_frames, freeze_in_frames, nothing_in_frames, alone_in_frames, copy_in_frames, copied_in_frames, finish_in_frames, settle_in_frames, frames_steps}
use Rattle.hm_history.proofs.Frames.{frame_same}

guard_steps : (c : Program) (s : After) (t : Past) (a : ℕ) (o : Op) (xs : List Migrating) (p : ℕ) (r : Pages) (met : Bool) (told : Option ℕ) (body : Body) (below : List Phase) → is_evicting o ≡ true → Sound c s t → on_frame_body body below ≡ true → HoldsAll s t a (facts o xs (Phase.Guard p r met told body ∷ below)) → Good c s t a o xs (Phase.Guard p r met told body) below (Do (due_guard s a o p r met told body)) →
    StepsTo c s a o xs (Phase.Guard p r met told body) below OnFrames (Do (due_guard s a o p r met told body))
guard_steps c s t a o xs p r met told (Body.Catch f) (Phase.Frames v n ∷ []) i so e h gd = told_in_frames c s t a o xs p r met told (Body.Catch f) (Phase.Frames v n ∷ []) so e (catch_in_frames c s t a o xs p r met told f v n so i) gd
guard_steps c s t a o xs p r met told (Body.Freeze f) (Phase.Emptying g w ∷ Phase.Frames v n ∷ []) i so e h gd = told_in_frames c s t a o xs p r met told (Body.Freeze f) (Phase.Emptying g w ∷ Phase.Frames v n ∷ []) so e (freeze_in_frames c s t a o xs p r met told f g w v n so (frame_same f g h.1.1.1.0)) gd
guard_steps c s t a o xs p r met told Body.Nothing (Phase.Emptying g w ∷ Phase.Frames v n ∷ []) i so e h gd = told_in_frames c s t a o xs p r met told Body.Nothing (Phase.Emptying g w ∷ Phase.Frames v n ∷ []) so e (nothing_in_frames c s t a o xs p r met told g w v n) gd
guard_steps c s t a o xs p r met told body below i so e h gd = absurd (no_test e)

alone_at : (c : Program) (s : After) (t : Past) (a : ℕ) (o : Op) (xs : List Migrating) (f : Frame) (w : _) (below : List Phase) → Sound c s t → Few c s → is_frames below ≡ true → StepsTo c s a o xs (Phase.Emptying f w) below OnFrames (due_phase c s a o xs (Phase.Emptying f w))
alone_at c s t a o xs f w (Phase.Frames v n ∷ []) so fw e = alone_in_frames c s t a o xs f w v n so fw
alone_at c s t a o xs f w below so fw e = absurd (no_test e)

copy_at : (c : Program) (s : After) (t : Past) (a : ℕ) (o : Op) (xs : List Migrating) (f g : Frame) (k : ℕ) (below : List Phase) → on_copied_frames below ≡ true → HoldsAll s t a (facts o xs (Phase.Copy f g k ∷ below)) → StepsTo c s a o xs (Phase.Copy f g k) below OnFrames (Do (Kind.Copied f g (Some k)))
copy_at c s t a o xs f g k (Phase.Copied i j ∷ Phase.Frames v n ∷ []) e h = copy_in_frames c s a o xs f g i j k v n (in_seven k h.1.1.0)
copy_at c s t a o xs f g k below e h = absurd (no_test e)

copied_at : (c : Program) (s : After) (a : ℕ) (o : Op) (xs : List Migrating) (f g : Frame) (below : List Phase) → is_frames below ≡ true → StepsTo c s a o xs (Phase.Copied f g) below OnFrames (Do (Kind.Committed f g))
copied_at c s a o xs f g (Phase.Frames v n ∷ []) e = copied_in_frames c s a o xs f g v n
copied_at c s a o xs f g below e = absurd (no_test e)

settle_at : (c : Program) (s : After) (a : ℕ) (o : Op) (xs : List Migrating) (g : Frame) (below : List Phase) → is_frames below ≡ true → StepsTo c s a o xs (Phase.Settle g) below OnFrames (due_phase c s a o xs (Phase.Settle g))
settle_at c s a o xs g (Phase.Frames v n ∷ []) e = settle_in_frames c s a o xs g v n
settle_at c s a o xs g below e = absurd (no_test e)

pub frames_falls : (c : Program) (o : Op) → is_evicting o ≡ true → EachFalls c o OnFrames
frames_falls c o i s t a xs (Phase.Frames v n) [] so f al h e g = frames_steps c s t a o xs v n so f i (unlocked s t a al h.1.1.1.1.1.0)
frames_falls c o i s t a xs (Phase.Frames v n) (y ∷ ys) so f al h e g = absurd h.0
frames_falls c o i s t a xs (Phase.Guard p r met told body) below so f al h e g = guard_steps c s t a o xs p r met told body below i so e h g
frames_falls c o i s t a xs (Phase.Emptying k w) below so f al h e g = alone_at c s t a o xs k w below so f e
frames_falls c o i s t a xs (Phase.Copy k l n) below so f al h e g = copy_at c s t a o xs k l n below e h
frames_falls c o i s t a xs (Phase.Copied k l) below so f al h e g = copied_at c s a o xs k l below e
frames_falls c o i s t a xs (Phase.Finish k to) below so f al h e g = finish_in_frames c s t a o xs k to below so f e g
frames_falls c o i s t a xs (Phase.Settle k) below so f al h e g = settle_at c s a o xs k below e
frames_falls c o i s t a xs (Phase.GiveUp None) below so f al h e g = (omega arith, refl)
frames_falls c o i s t a xs top below so f al h e g = absurd (no_test e)
