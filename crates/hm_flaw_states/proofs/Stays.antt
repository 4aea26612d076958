-- Phases of which a flaw says nothing.
use Rattle.std.proofs.Common.{◌≡◌, ℕ, zero, suc, ◌<◌, Bool, true, false, not, ◌||◌, ◌==◌, Option, List, refl, ap, arith}
use Rattle.std.proofs.lemmas.Bool.Decides.{nat_tests}
use Rattle.hm_base.specs.Pages.{Pages}
use Rattle.hm_base.specs.Program.{Program}
use Rattle.hm_base.specs.declared.Frame.{Frame}
use Rattle.hm_base.specs.declared.Place.{Place}
use Rattle.hm_base.specs.declared.ops.Op.{Op}
use Rattle.hm_history.specs.Memory.After.{After}
use Rattle.hm_history.specs.Memory.Sequences.{interval_seq}
use Rattle.hm_history.specs.Kernel.Operation.{op_mirror}
use Rattle.hm_history.specs.Kernel.Due.{due_phase, due_noted}
use Rattle.hm_history.specs.declared.phases.Body.{Body}
use Rattle.hm_history.specs.declared.phases.Migrating.{Migrating}
use Rattle.hm_history.specs.declared.phases.MoveStep.{MoveStep}
use Rattle.hm_history.specs.declared.phases.Touch.{Touch}
use Rattle.hm_history.specs.declared.phases.Phase.{Phase}
use Rattle.hm_history.specs.declared.phases.Next.{Next}
use Rattle.hm_flaws.specs.declared.flaws.Flaw.{Flaw}
use Rattle.hm_flaws.specs.Overrides.{due_flawed, retry_or_commit, is_left, begun_late}

pub not_compared : (c : Program) (s : After) (a : ℕ) (o : Op) (xs : List Migrating) (top : Phase) → ((k since q : ℕ) (x : Place) → top ≡ Phase.Noted k since q x → ⊥) → due_phase c s a o xs top ≡ due_flawed Flaw.NotCompared c s a o xs top
not_compared c s a o xs (Phase.Noted k since q x) h = absurd (h k since q x refl)
not_compared c s a o xs top h = refl

pub compared_now : (c : Program) (s : After) (a : ℕ) (o : Op) (xs : List Migrating) (top : Phase) → ((k since q : ℕ) (x : Place) → top ≡ Phase.Noted k since q x → ⊥) → due_phase c s a o xs top ≡ due_flawed Flaw.ComparedNow c s a o xs top
compared_now c s a o xs (Phase.Noted k since q x) h = absurd (h k since q x refl)
compared_now c s a o xs top h = refl

pub all_for_writes : (c : Program) (s : After) (a : ℕ) (o : Op) (xs : List Migrating) (top : Phase) → ((k since q : ℕ) (x : Place) → top ≡ Phase.Noted k since q x → ⊥) → due_phase c s a o xs top ≡ due_flawed Flaw.AllForWrites c s a o xs top
all_for_writes c s a o xs (Phase.Noted k since q x) h = absurd (h k since q x refl)
all_for_writes c s a o xs top h = refl

pub walks_unlocked : (c : Program) (s : After) (a : ℕ) (o : Op) (xs : List Migrating) (top : Phase) → ((k since q : ℕ) → top ≡ Phase.Begun k since q → ⊥) → due_phase c s a o xs top ≡ due_flawed Flaw.WalksUnlocked c s a o xs top
walks_unlocked c s a o xs (Phase.Begun k since q) h = absurd (h k since q refl)
walks_unlocked c s a o xs top h = refl

pub any_device : (c : Program) (s : After) (a : ℕ) (o : Op) (xs : List Migrating) (top : Phase) → ((touch : Touch) → top ≡ Phase.Decide touch → ⊥) → due_phase c s a o xs top ≡ due_flawed Flaw.AnyDevice c s a o xs top
any_device c s a o xs (Phase.Decide touch) h = absurd (h touch refl)
any_device c s a o xs top h = refl

pub begun_anyway : (c : Program) (s : After) (a : ℕ) (o : Op) (xs : List Migrating) (top : Phase) → ((k : ℕ) → top ≡ Phase.Piece k → ⊥) → due_phase c s a o xs top ≡ due_flawed Flaw.BegunAnyway c s a o xs top
begun_anyway c s a o xs (Phase.Piece k) h = absurd (h k refl)
begun_anyway c s a o xs top h = refl

pub begun_last : (c : Program) (s : After) (a : ℕ) (o : Op) (xs : List Migrating) (top : Phase) → ((k : ℕ) → top ≡ Phase.Piece k → ⊥) → ((touch : Touch) → top ≡ Phase.Decide touch → ⊥) → ((k since q : ℕ) (x : Place) → top ≡ Phase.Noted k since q x → ⊥) → due_phase c s a o xs top ≡ due_flawed Flaw.BegunLast c s a o xs top
begun_last c s a o xs (Phase.Piece k) h i j = absurd (h k refl)
begun_last c s a o xs (Phase.Decide touch) h i j = absurd (i touch refl)
begun_last c s a o xs (Phase.Noted k since q x) h i j = absurd (j k since q x refl)
begun_last c s a o xs top h i j = refl

pub detached_at_once : (c : Program) (s : After) (a : ℕ) (o : Op) (xs : List Migrating) (top : Phase) → (top ≡ Phase.Begin → ⊥) → due_phase c s a o xs top ≡ due_flawed Flaw.DetachedAtOnce c s a o xs top
detached_at_once c s a o xs Phase.Begin h = absurd (h refl)
detached_at_once c s a o xs top h = refl

pub used_detached : (c : Program) (s : After) (a : ℕ) (o : Op) (xs : List Migrating) (top : Phase) → ((k : ℕ) → top ≡ Phase.Piece k → ⊥) → due_phase c s a o xs top ≡ due_flawed Flaw.UsedDetached c s a o xs top
used_detached c s a o xs (Phase.Piece k) h = absurd (h k refl)
used_detached c s a o xs top h = refl

pub reads_written : (c : Program) (s : After) (a : ℕ) (o : Op) (xs : List Migrating) (top : Phase) → ((k : ℕ) → top ≡ Phase.Piece k → ⊥) → due_phase c s a o xs top ≡ due_flawed Flaw.ReadsWritten c s a o xs top
reads_written c s a o xs (Phase.Piece k) h = absurd (h k refl)
reads_written c s a o xs top h = refl

pub own_for_writes : (c : Program) (s : After) (a : ℕ) (o : Op) (xs : List Migrating) (top : Phase) → ((step : MoveStep) (v : ℕ) → top ≡ Phase.Moves step v → ⊥) → due_phase c s a o xs top ≡ due_flawed Flaw.OwnForWrites c s a o xs top
own_for_writes c s a o xs (Phase.Moves step v) h = absurd (h step v refl)
own_for_writes c s a o xs top h = refl

pub own_anyway : (c : Program) (s : After) (a : ℕ) (o : Op) (xs : List Migrating) (top : Phase) → ((step : MoveStep) (v : ℕ) → top ≡ Phase.Moves step v → ⊥) → due_phase c s a o xs top ≡ due_flawed Flaw.OwnAnyway c s a o xs top
own_anyway c s a o xs (Phase.Moves step v) h = absurd (h step v refl)
own_anyway c s a o xs top h = refl

pub withdrawn_taken : (c : Program) (s : After) (a : ℕ) (o : Op) (xs : List Migrating) (top : Phase) → ((step : MoveStep) (v : ℕ) → top ≡ Phase.Moves step v → ⊥) → due_phase c s a o xs top ≡ due_flawed Flaw.WithdrawnTaken c s a o xs top
withdrawn_taken c s a o xs (Phase.Moves step v) h = absurd (h step v refl)
withdrawn_taken c s a o xs top h = refl

pub removed_at_once : (c : Program) (s : After) (a : ℕ) (o : Op) (xs : List Migrating) (top : Phase) → ((v n : ℕ) → top ≡ Phase.Frames v n → ⊥) → due_phase c s a o xs top ≡ due_flawed Flaw.RemovedAtOnce c s a o xs top
removed_at_once c s a o xs (Phase.Frames v n) h = absurd (h v n refl)
removed_at_once c s a o xs top h = refl

pub not_withdrawn : (c : Program) (s : After) (a : ℕ) (o : Op) (xs : List Migrating) (top : Phase) → ((v n : ℕ) → top ≡ Phase.Frames v n → ⊥) → due_phase c s a o xs top ≡ due_flawed Flaw.NotWithdrawn c s a o xs top
not_withdrawn c s a o xs (Phase.Frames v n) h = absurd (h v n refl)
not_withdrawn c s a o xs top h = refl

pub locked_passed : (c : Program) (s : After) (a : ℕ) (o : Op) (xs : List Migrating) (top : Phase) → ((v n : ℕ) → top ≡ Phase.Frames v n → ⊥) → due_phase c s a o xs top ≡ due_flawed Flaw.LockedPassed c s a o xs top
locked_passed c s a o xs (Phase.Frames v n) h = absurd (h v n refl)
locked_passed c s a o xs top h = refl

pub sole_anyway : (c : Program) (s : After) (a : ℕ) (o : Op) (xs : List Migrating) (top : Phase) → ((touch : Touch) → top ≡ Phase.Decide touch → ⊥) → due_phase c s a o xs top ≡ due_flawed Flaw.SoleAnyway c s a o xs top
sole_anyway c s a o xs (Phase.Decide touch) h = absurd (h touch refl)
sole_anyway c s a o xs top h = refl

pub added_anyway : (c : Program) (s : After) (a : ℕ) (o : Op) (xs : List Migrating) (top : Phase) → ((old : ℕ) → top ≡ Phase.Fetched old → ⊥) → due_phase c s a o xs top ≡ due_flawed Flaw.AddedAnyway c s a o xs top
added_anyway c s a o xs (Phase.Fetched old) h = absurd (h old refl)
added_anyway c s a o xs top h = refl

pub told_last : (c : Program) (s : After) (a : ℕ) (o : Op) (xs : List Migrating) (top : Phase) → ((p : ℕ) (r : Pages) (met : Bool) (told : Option ℕ) (body : Body) → top ≡ Phase.Guard p r met told body → ⊥) → due_phase c s a o xs top ≡ due_flawed Flaw.ToldLast c s a o xs top
told_last c s a o xs (Phase.Guard p r met told body) h = absurd (h p r met told body refl)
told_last c s a o xs top h = refl

pub ended_at_once : (c : Program) (s : After) (a : ℕ) (o : Op) (xs : List Migrating) (top : Phase) → ((p : ℕ) (r : Pages) (met : Bool) (told : Option ℕ) (body : Body) → top ≡ Phase.Guard p r met told body → ⊥) → due_phase c s a o xs top ≡ due_flawed Flaw.EndedAtOnce c s a o xs top
ended_at_once c s a o xs (Phase.Guard p r met told body) h = absurd (h p r met told body refl)
ended_at_once c s a o xs top h = refl

pub forked_whole : (c : Program) (s : After) (a : ℕ) (o : Op) (xs : List Migrating) (top : Phase) → ((p : ℕ) (r : Pages) (met : Bool) (told : Option ℕ) (body : Body) → top ≡ Phase.Guard p r met told body → ⊥) → due_phase c s a o xs top ≡ due_flawed Flaw.ForkedWhole c s a o xs top
forked_whole c s a o xs (Phase.Guard p r met told body) h = absurd (h p r met told body refl)
forked_whole c s a o xs top h = refl

pub replaced_anyway : (c : Program) (s : After) (a : ℕ) (o : Op) (xs : List Migrating) (top : Phase) → ((p : ℕ) (r : Pages) (met : Bool) (told : Option ℕ) (body : Body) → top ≡ Phase.Guard p r met told body → ⊥) → due_phase c s a o xs top ≡ due_flawed Flaw.ReplacedAnyway c s a o xs top
replaced_anyway c s a o xs (Phase.Guard p r met told body) h = absurd (h p r met told body refl)
replaced_anyway c s a o xs top h = refl

pub device_accessed : (c : Program) (s : After) (a : ℕ) (o : Op) (xs : List Migrating) (top : Phase) → ((k : ℕ) → top ≡ Phase.Piece k → ⊥) → due_phase c s a o xs top ≡ due_flawed Flaw.DeviceAccessed c s a o xs top
device_accessed c s a o xs (Phase.Piece k) h = absurd (h k refl)
device_accessed c s a o xs top h = refl

pub frozen_late : (c : Program) (s : After) (a : ℕ) (o : Op) (xs : List Migrating) (top : Phase) → ((p : ℕ) (r : Pages) (met : Bool) (told : Option ℕ) (body : Body) → top ≡ Phase.Guard p r met told body → ⊥) → ((step : MoveStep) (v : ℕ) → top ≡ Phase.Moves step v → ⊥) → due_phase c s a o xs top ≡ due_flawed Flaw.FrozenLate c s a o xs top
frozen_late c s a o xs (Phase.Guard p r met told body) h i = absurd (h p r met told body refl)
frozen_late c s a o xs (Phase.Moves step v) h i = absurd (i step v refl)
frozen_late c s a o xs top h i = refl

pub fresh_anyway : (c : Program) (s : After) (a : ℕ) (o : Op) (xs : List Migrating) (top : Phase) → ((p : ℕ) (r : Pages) (met : Bool) (told : Option ℕ) (body : Body) → top ≡ Phase.Guard p r met told body → ⊥) → due_phase c s a o xs top ≡ due_flawed Flaw.FreshAnyway c s a o xs top
fresh_anyway c s a o xs (Phase.Guard p r met told body) h = absurd (h p r met told body refl)
fresh_anyway c s a o xs top h = refl

pub fresh_for_writes : (c : Program) (s : After) (a : ℕ) (o : Op) (xs : List Migrating) (top : Phase) → ((p : ℕ) (r : Pages) (met : Bool) (told : Option ℕ) (body : Body) → top ≡ Phase.Guard p r met told body → ⊥) → due_phase c s a o xs top ≡ due_flawed Flaw.FreshForWrites c s a o xs top
fresh_for_writes c s a o xs (Phase.Guard p r met told body) h = absurd (h p r met told body refl)
fresh_for_writes c s a o xs top h = refl

pub back_for_writes : (c : Program) (s : After) (a : ℕ) (o : Op) (xs : List Migrating) (top : Phase) → ((f : Frame) (to : Option Frame) → top ≡ Phase.Finish f to → ⊥) → ((step : MoveStep) (v : ℕ) → top ≡ Phase.Moves step v → ⊥) → due_phase c s a o xs top ≡ due_flawed Flaw.BackForWrites c s a o xs top
back_for_writes c s a o xs (Phase.Finish f to) h i = absurd (h f to refl)
back_for_writes c s a o xs (Phase.Moves step v) h i = absurd (i step v refl)
back_for_writes c s a o xs top h i = refl

pub locked_taken : (c : Program) (s : After) (a : ℕ) (o : Op) (xs : List Migrating) (top : Phase) → ((p : ℕ) (r : Pages) (met : Bool) (told : Option ℕ) (body : Body) → top ≡ Phase.Guard p r met told body → ⊥) → ((v n : ℕ) → top ≡ Phase.Frames v n → ⊥) → due_phase c s a o xs top ≡ due_flawed Flaw.LockedTaken c s a o xs top
locked_taken c s a o xs (Phase.Guard p r met told body) h i = absurd (h p r met told body refl)
locked_taken c s a o xs (Phase.Frames v n) h i = absurd (i v n refl)
locked_taken c s a o xs top h i = refl

-- a look-up that has begun does what is due
pub has_begun : (s : After) (o : Op) (since : ℕ) (n : Next) → 0 < since → n ≡ begun_late s o since n
has_begun s o zero n h = absurd (omega (arith, h))
has_begun s o (suc since) n h = refl

-- a sequence is itself
same_seq : (b : Bool) (q : ℕ) → (b || not (q == q)) ≡ b
same_seq true q = refl
same_seq false q = grind (arith, nat_tests)

pub uncompared : (s : After) (o : Op) (k since : ℕ) (x : Place) → due_noted s o k since (interval_seq s.sequences (op_mirror o)) x ≡ retry_or_commit (is_left s o) o k since x
uncompared s o k since x = ap (λ b. retry_or_commit b o k since x) (same_seq (is_left s o) (interval_seq s.sequences (op_mirror o)))
