-- The stacks of operations that move no frame.
use Rattle.std.specs.Prelude.{◌≡◌, Bool, true, false, not, ◌&&◌, Option, Some, None, List, [], ◌∷◌}
use Rattle.hm_base.specs.declared.Frame.{Frame}
use Rattle.hm_base.specs.declared.ops.Op.{Op}
use Rattle.hm_history.specs.declared.phases.Body.{Body}
use Rattle.hm_history.specs.declared.phases.Phase.{Phase}
use Rattle.hm_laws.specs.Shapes.{of_system}
use Rattle.std.proofs.Common.{refl}
use Rattle.hm_history.proofs.Tests.{true_false}

-- the answer stands below
abbrev pub is_answering : List Phase → Bool
is_answering (Phase.Answer ∷ []) = true
is_answering st = false

-- what stands below a guard over a span
abbrev pub on_span : Body → List Phase → Bool
on_span (Body.Zap v) st = is_answering st
on_span (Body.Narrow v) st = is_answering st
on_span (Body.Fork v half) st = is_answering st
on_span Body.Nothing st = is_answering st
on_span b st = false

-- what stands below the drop of an emptied page's frame
abbrev pub on_drop : List Phase → Bool
on_drop (Phase.Guard p r met told (Body.Zap v) ∷ below) = is_answering below
on_drop st = false

-- a stack of such an operation
abbrev pub on_simple : List Phase → Bool
on_simple [] = true
on_simple (Phase.Begin ∷ below) = true
on_simple (Phase.Locked ∷ below) = true
on_simple (Phase.Ready ∷ below) = true
on_simple (Phase.Answer ∷ below) = true
on_simple (Phase.Pages v ∷ below) = true
on_simple (Phase.Guard p r met told body ∷ below) = on_span body below
on_simple (Phase.Drop f ∷ below) = on_drop below
on_simple st = false

-- the operations that move no frame
abbrev pub is_simple : Op → Bool
is_simple (Op.Map p r w) = true
is_simple (Op.Unmap p r) = true
is_simple (Op.Protect p r w) = true
is_simple (Op.Exit p) = true
is_simple (Op.Fork p d) = true
is_simple (Op.Attach m d p r) = true
is_simple (Op.Detach m) = true
is_simple (Op.Snap m r) = true
is_simple o = false

-- the stacks of accesses, and of operations that take a page alone
abbrev pub is_deciding : List Phase → Bool
is_deciding (Phase.Decide touch ∷ []) = true
is_deciding st = false

-- the fault is given up below
abbrev pub is_giving : List Phase → Bool
is_giving (Phase.GiveUp (Some touch) ∷ []) = true
is_giving st = false

-- a device's frame is emptied for a fault
abbrev pub is_emptying : List Phase → Bool
is_emptying (Phase.Emptying f at ∷ below) = is_deciding below && not (of_system f)
is_emptying st = false

-- what stands below a guard that has placed its page
abbrev pub on_nothing : List Phase → Bool
on_nothing (Phase.Decide touch ∷ []) = true
on_nothing (Phase.Emptying f at ∷ below) = is_deciding below && not (of_system f)
on_nothing st = false

-- what stands below a guard of a fault
abbrev pub on_fault : Body → List Phase → Bool
on_fault (Body.Replace over g) st = is_deciding st
on_fault Body.Restore st = is_deciding st
on_fault (Body.Seize f) st = is_deciding st
on_fault (Body.Catch f) st = is_deciding st && not (of_system f)
on_fault (Body.Freeze f) st = is_emptying st
on_fault Body.Nothing st = on_nothing st
on_fault b st = false

-- what stands below the return of a frame's pages
abbrev pub on_finish : Option Frame → List Phase → Bool
on_finish None st = is_giving st
on_finish (Some g) st = is_deciding st

-- what stands below the drop of a frame that a fault has left over
abbrev pub on_drops : List Phase → Bool
on_drops (Phase.Decide touch ∷ []) = true
on_drops (Phase.Guard p r met told Body.Nothing ∷ Phase.Decide touch ∷ []) = true
on_drops st = false

-- what stands below the copy of a frame
abbrev pub on_copied : List Phase → Bool
on_copied (Phase.Copied f g ∷ below) = is_deciding below
on_copied st = false

-- a stack of such an operation
abbrev pub on_access : List Phase → Bool
on_access [] = true
on_access (Phase.Begin ∷ below) = true
on_access (Phase.Answer ∷ below) = true
on_access (Phase.Piece k ∷ below) = true
on_access (Phase.Fetched old ∷ below) = true
on_access (Phase.Begun k at q ∷ below) = true
on_access (Phase.Decide touch ∷ below) = true
on_access (Phase.Noted k at q x ∷ below) = true
on_access (Phase.Taken touch g x ∷ below) = true
on_access (Phase.Armed touch g x ∷ below) = true
on_access (Phase.Guard p r met told body ∷ below) = on_fault body below
on_access (Phase.Drop f ∷ below) = on_drops below
on_access (Phase.Emptying f at ∷ below) = is_deciding below && not (of_system f)
on_access (Phase.Copy f g k ∷ below) = on_copied below
on_access (Phase.Copied f g ∷ below) = is_deciding below
on_access (Phase.Finish f to ∷ below) = on_finish to below
on_access (Phase.Settle g ∷ below) = is_deciding below
on_access (Phase.GiveUp touch ∷ below) = is_giving (Phase.GiveUp touch ∷ below)
on_access st = false

-- the accesses, and the operations that take a page alone
abbrev pub is_access : Op → Bool
is_access (Op.Load p a n) = true
is_access (Op.Store p a bs) = true
is_access (Op.DeviceLoad m a n) = true
is_access (Op.DeviceStore m a bs) = true
is_access (Op.Exclusive m v) = true
is_access (Op.Add m a n) = true
is_access o = false

-- the stacks of evictions and removals
abbrev pub is_frames : List Phase → Bool
is_frames (Phase.Frames v n ∷ []) = true
is_frames st = false

-- a frame is emptied for it below
abbrev pub is_alone_frames : List Phase → Bool
is_alone_frames (Phase.Emptying f at ∷ below) = is_frames below
is_alone_frames st = false

-- what stands below a guard of it
abbrev pub on_frame_body : Body → List Phase → Bool
on_frame_body (Body.Catch f) st = is_frames st
on_frame_body (Body.Freeze f) st = is_alone_frames st
on_frame_body Body.Nothing st = is_alone_frames st
on_frame_body b st = false

-- what stands below the copy of a frame for it
abbrev pub on_copied_frames : List Phase → Bool
on_copied_frames (Phase.Copied f g ∷ below) = is_frames below
on_copied_frames st = false

-- what stands below the return of a frame's pages, or the end of a removal that has found no frame
abbrev pub on_left : Option Frame → List Phase → Bool
on_left to (Phase.Frames v n ∷ []) = true
on_left None (Phase.GiveUp None ∷ []) = true
on_left to st = false

-- a stack of such an operation
abbrev pub on_frames : List Phase → Bool
on_frames [] = true
on_frames (Phase.Frames v n ∷ below) = true
on_frames (Phase.Guard p r met told body ∷ below) = on_frame_body body below
on_frames (Phase.Emptying f at ∷ below) = is_frames below
on_frames (Phase.Copy f g k ∷ below) = on_copied_frames below
on_frames (Phase.Copied f g ∷ below) = is_frames below
on_frames (Phase.Finish f to ∷ below) = on_left to below
on_frames (Phase.Settle g ∷ below) = is_frames below
on_frames (Phase.GiveUp None ∷ below) = true
on_frames st = false

-- the stacks of migrations
abbrev pub is_moves : List Phase → Bool
is_moves (Phase.Moves step v ∷ []) = true
is_moves st = false

-- what stands below a guard of it
abbrev pub on_move_body : Body → List Phase → Bool
on_move_body (Body.Select n) st = is_moves st
on_move_body (Body.Freeze f) st = is_moves st
on_move_body (Body.Fresh g) st = is_moves st
on_move_body Body.Nothing st = is_moves st
on_move_body b st = false

-- a stack of such an operation
abbrev pub on_moves : List Phase → Bool
on_moves [] = true
on_moves (Phase.Begin ∷ below) = true
on_moves (Phase.Ready ∷ below) = true
on_moves (Phase.Moves step v ∷ below) = true
on_moves (Phase.Guard p r met told body ∷ below) = on_move_body body below
on_moves (Phase.Copy f g k ∷ below) = is_moves below
on_moves (Phase.Finish f to ∷ below) = is_moves below
on_moves (Phase.Settle g ∷ below) = is_moves below
on_moves (Phase.Lost v g ∷ below) = is_moves below
on_moves (Phase.Drop g ∷ below) = is_moves below
on_moves st = false

-- a test of a stack that fails does not stand
pub no_test : false ≡ true → ⊥
no_test h = true_false false h refl
