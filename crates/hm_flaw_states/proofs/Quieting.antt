-- Guards that leave no frame without a name, whatever rule the driver leaves out.
use Rattle.std.proofs.Common.{◌≡◌, ℕ, Bool, true, false, Option, Some, None, List, [], ◌∷◌, refl, sym, ap, ◌∙◌, subst}
use Rattle.std.specs.Prelude.{⊤, ◌&&◌, is_none}
use Rattle.std.specs.List.{list_any}
use Rattle.std.proofs.lemmas.Bool.Decides.{nat_tests}
use Rattle.std.proofs.lemmas.Bool.{and_parts, false≢true}
use Rattle.std.proofs.Common.{arith}
use Rattle.hm_base.specs.Pages.{Pages}
use Rattle.hm_base.specs.Program.{Program}
use Rattle.hm_base.specs.declared.Frame.{Frame}
use Rattle.hm_base.specs.declared.Place.{Place}
use Rattle.hm_base.specs.declared.ops.Op.{Op}
use Rattle.hm_history.specs.Memory.Words.{is_frame, names, names_directly, writable}
use Rattle.hm_history.specs.Memory.Places.{is_page, with_page, with_place}
use Rattle.hm_history.specs.Memory.Locks.{orphan}
use Rattle.hm_history.specs.Memory.After.{After}
use Rattle.hm_history.specs.Kernel.Due.{body_or_end, due_guard, due_phase, if_so, progress, to_tell}
use Rattle.hm_history.specs.Kernel.Going.{Going, op_at}
use Rattle.hm_history.specs.declared.Entry.{Entry}
use Rattle.hm_history.specs.declared.Kind.{Kind}
use Rattle.hm_history.specs.declared.Progress.{Progress}
use Rattle.hm_history.specs.declared.Who.{Who}
use Rattle.hm_history.specs.declared.phases.Body.{Body}
use Rattle.hm_history.specs.declared.phases.Migrating.{Migrating}
use Rattle.hm_history.specs.declared.phases.Next.{Next}
use Rattle.hm_history.specs.declared.phases.Next.TheVariants.{Do, Wait}
use Rattle.hm_history.specs.declared.phases.Phase.{Phase}
use Rattle.hm_history.specs.declared.phases.Seen.{Seen}
use Rattle.hm_history.proofs.Frames.{is_frame_from, is_frame_of}
use Rattle.hm_laws.proofs.Due.Good.{either, either_option}
use Rattle.hm_laws.proofs.Due.LeftFrames.{left_says}
use Rattle.hm_laws.proofs.Kept.Frames.{direct_names}
use Rattle.hm_laws.proofs.State.Search.{lowest_none}
use Rattle.hm_flaws.specs.Drivers.{Driver}
use Rattle.hm_flaws.specs.Flawed.{Flawed, as_read, due_by, due_flawed_top, found, read_through, taken_for}
use Rattle.hm_flaws.specs.Overrides.{caught_anyway, due_flawed, ended_now, frozen, told_last}
use Rattle.hm_flaws.specs.declared.flaws.Flaw.{Flaw}
use Rattle.hm_actors.specs.Actors.{IsSeen}
use Rattle.hm_flaw_states.specs.Rooms.{IsQuietAt, is_quiet}

-- a page names the frame that it named
abbrev Keeps : After → Kind → Type 0
Keeps s (Kind.Place p v x) = names x ≡ names (s.places.place p v)
Keeps s k = ⊤

abbrev KeepsNext : After → Next → Type 0
KeepsNext s (Do k) = Keeps s k
KeepsNext s (Wait why) = ⊤

abbrev KeepsSome : After → Option Kind → Type 0
KeepsSome s None = ⊤
KeepsSome s (Some k) = Keeps s k

-- ---- the right driver

end_keeps : (s : After) (p : ℕ) (r : Pages) (x : Option Kind) → KeepsSome s x → Keeps s (body_or_end s p r x)
end_keeps s p r None h = tt
end_keeps s p r (Some k) h = h

-- a mapping of the frame is frozen
freezes : (s : After) (p : ℕ) (r : Pages) (f : Frame) (b : Bool) → (b ≡ true → is_frame (names_directly (s.places.place p r.first)) f ≡ true) → KeepsSome s (if_so b (Kind.Place p r.first (Place.Moving f (writable (s.places.place p r.first)))))
freezes s p r f b h = either (KeepsSome s) b _ _ (λ e. sym (direct_names (s.places.place p r.first) f (is_frame_from _ f (h e))).0) (λ e. tt)

guard_keeps : (s : After) (a : ℕ) (o : Op) (p : ℕ) (r : Pages) (met : Bool) (told : Option ℕ) (body : Body) → is_quiet (Phase.Guard p r met told body) ≡ true → Keeps s (due_guard s a o p r met told body)
guard_keeps s a o p r met told Body.Nothing q = either_option (Keeps s) (to_tell s p r met told) _ _ (λ e. tt) (λ m e. tt)
guard_keeps s a o p r met told (Body.Catch f) q = either_option (Keeps s) (to_tell s p r met told) _ _
    (λ e. end_keeps s p r _ (freezes s p r f (is_frame (names_directly (s.places.place p r.first)) f && is_none (s.locks.frame f)) (λ i. (and_parts (is_frame (names_directly (s.places.place p r.first)) f) (is_none (s.locks.frame f)) i).0))) (λ m e. tt)
guard_keeps s a o p r met told (Body.Freeze f) q = either_option (Keeps s) (to_tell s p r met told) _ _
    (λ e. end_keeps s p r _ (freezes s p r f (is_frame (names_directly (s.places.place p r.first)) f) (λ i. i))) (λ m e. tt)
guard_keeps s a o p r met told body q = cc

-- ---- all drivers

told_keeps : (s : After) (n m : Next) → KeepsNext s n → KeepsNext s m → KeepsNext s (told_last n m)
told_keeps s (Do (Kind.End p r q)) m h i = i
told_keeps s n m h i = h

ended_keeps : (s : After) (n : Next) → KeepsNext s n → KeepsNext s (ended_now s n)
ended_keeps s (Do (Kind.End p r q)) h = tt
ended_keeps s n h = h

frozen_names : (x : Place) → names (frozen x) ≡ names x
frozen_names Place.Empty = refl
frozen_names Place.Zero = refl
frozen_names (Place.Sys n w) = refl
frozen_names (Place.Own d n w) = refl
frozen_names (Place.Moving f w) = refl
frozen_names (Place.Exclusive n a) = refl

caught_keeps : (s : After) (p : ℕ) (r : Pages) (f : Frame) (n : Next) → KeepsNext s n → KeepsNext s (caught_anyway s p r f n)
caught_keeps s p r f (Do (Kind.End q e k)) h = either (KeepsNext s) (is_frame (names (s.places.place p r.first)) f) _ _ (λ i. frozen_names (s.places.place p r.first)) (λ i. tt)
caught_keeps s p r f n h = h

-- a guard whose body does nothing, catches a frame or freezes one
nothing_keeps : (l : Flaw) (c : Program) (s : After) (a : ℕ) (o : Op) (xs : List Migrating) (p : ℕ) (r : Pages) (met : Bool) (told : Option ℕ) → KeepsNext s (due_flawed l c s a o xs (Phase.Guard p r met told Body.Nothing))
nothing_keeps Flaw.ToldLast c s a o xs p r met told = told_keeps s (due_phase c s a o xs (Phase.Guard p r false told Body.Nothing)) (due_phase c s a o xs (Phase.Guard p r met told Body.Nothing)) (guard_keeps s a o p r false told Body.Nothing refl) (guard_keeps s a o p r met told Body.Nothing refl)
nothing_keeps Flaw.EndedAtOnce c s a o xs p r met told = ended_keeps s (due_phase c s a o xs (Phase.Guard p r met told Body.Nothing)) (guard_keeps s a o p r met told Body.Nothing refl)
nothing_keeps l c s a o xs p r met told = guard_keeps s a o p r met told Body.Nothing refl

catch_keeps : (l : Flaw) (c : Program) (s : After) (a : ℕ) (o : Op) (xs : List Migrating) (p : ℕ) (r : Pages) (met : Bool) (told : Option ℕ) (f : Frame) → KeepsNext s (due_flawed l c s a o xs (Phase.Guard p r met told (Body.Catch f)))
catch_keeps Flaw.ToldLast c s a o xs p r met told f = told_keeps s (due_phase c s a o xs (Phase.Guard p r false told (Body.Catch f))) (due_phase c s a o xs (Phase.Guard p r met told (Body.Catch f))) (guard_keeps s a o p r false told (Body.Catch f) refl) (guard_keeps s a o p r met told (Body.Catch f) refl)
catch_keeps Flaw.EndedAtOnce c s a o xs p r met told f = ended_keeps s (due_phase c s a o xs (Phase.Guard p r met told (Body.Catch f))) (guard_keeps s a o p r met told (Body.Catch f) refl)
catch_keeps Flaw.LockedTaken c s a o xs p r met told f = caught_keeps s p r f (due_phase c s a o xs (Phase.Guard p r met told (Body.Catch f))) (guard_keeps s a o p r met told (Body.Catch f) refl)
catch_keeps l c s a o xs p r met told f = guard_keeps s a o p r met told (Body.Catch f) refl

freeze_keeps : (l : Flaw) (c : Program) (s : After) (a : ℕ) (o : Op) (xs : List Migrating) (p : ℕ) (r : Pages) (met : Bool) (told : Option ℕ) (f : Frame) → KeepsNext s (due_flawed l c s a o xs (Phase.Guard p r met told (Body.Freeze f)))
freeze_keeps Flaw.ToldLast c s a o xs p r met told f = told_keeps s (due_phase c s a o xs (Phase.Guard p r false told (Body.Freeze f))) (due_phase c s a o xs (Phase.Guard p r met told (Body.Freeze f))) (guard_keeps s a o p r false told (Body.Freeze f) refl) (guard_keeps s a o p r met told (Body.Freeze f) refl)
freeze_keeps Flaw.EndedAtOnce c s a o xs p r met told f = ended_keeps s (due_phase c s a o xs (Phase.Guard p r met told (Body.Freeze f))) (guard_keeps s a o p r met told (Body.Freeze f) refl)
freeze_keeps l c s a o xs p r met told f = guard_keeps s a o p r met told (Body.Freeze f) refl

top_keeps : (l : Flaw) (c : Program) (s : After) (a : ℕ) (o : Op) (xs : List Migrating) (top : Phase) → is_quiet top ≡ true → KeepsNext s (due_flawed l c s a o xs top)
top_keeps l c s a o xs (Phase.Guard p r met told Body.Nothing) q = nothing_keeps l c s a o xs p r met told
top_keeps l c s a o xs (Phase.Guard p r met told (Body.Catch f)) q = catch_keeps l c s a o xs p r met told f
top_keeps l c s a o xs (Phase.Guard p r met told (Body.Freeze f)) q = freeze_keeps l c s a o xs p r met told f
top_keeps l c s a o xs top q = cc

through_keeps : (s : After) (x : Driver) (n : Next) → KeepsNext s n → KeepsNext s (read_through x n)
through_keeps s x (Do (Kind.Loaded (Who.Mirror m) at bs)) h = tt
through_keeps s x (Do (Kind.Fetched m at bs)) h = tt
through_keeps s x n h = h

read_keeps : (s : After) (l : Flaw) (x : Driver) (n : Next) → KeepsNext s n → KeepsNext s (as_read l x n)
read_keeps s Flaw.NoFlaw x n h = h
read_keeps s l x n h = through_keeps s x n h

-- ---- what is left behind

listed : (p v : ℕ) (xs : List (ℕ × ℕ)) → list_any (is_page p v) (with_page p v xs) ≡ true
listed p v xs = grind (arith, nat_tests)

unleft : (s : After) (p v : ℕ) (x : Place) → names x ≡ names (s.places.place p v) → orphan s.locks s.places (Kind.Place p v x) ≡ None
unleft s p v x e = by (orphan s.locks s.places (Kind.Place p v x)) refl
  where
    at_page : (s : After) → with_place s.places.place p v x p v ≡ x
    at_page s = grind (arith, nat_tests)

    by : (y : Option Frame) → orphan s.locks s.places (Kind.Place p v x) ≡ y → y ≡ None
    by None k = refl
    by (Some f) k =
        let says = left_says s p v x f k in
        let none = lowest_none (λ i j. is_frame (names (with_place s.places.place p v x i j)) f) (with_page p v s.places.placed) p v says.2 (listed p v s.places.placed) in
        absurd (false≢true (sym none ∙ is_frame_of (names (with_place s.places.place p v x p v)) f (ap names (at_page s) ∙ (e ∙ says.0))))

unleft_by : (s : After) (k : Kind) → Keeps s k → orphan s.locks s.places k ≡ None
unleft_by s (Kind.Place p v x) h = unleft s p v x h
unleft_by s k h = refl

did_keep : (s : After) (a : ℕ) (n : Next) (e : Entry) → KeepsNext s n → progress a n ≡ Progress.Did e → Keeps s e.kind
did_keep s a (Do k) e h is = let same : k ≡ e.kind = cc in subst (Keeps s) same h
did_keep s a (Wait why) e h is = cc

quiet_same : (l : Flaw) (top : Phase) (below : List Phase) (k : Kind) → is_quiet top ≡ true → k ≡ taken_for l (top ∷ below) k
quiet_same l (Phase.Guard p r met told Body.Nothing) below k q = same l k
  where
    same : (l : Flaw) (k : Kind) → k ≡ taken_for l (Phase.Guard p r met told Body.Nothing ∷ below) k
    same Flaw.FrozenLate k = refl
    same l k = refl
quiet_same l (Phase.Guard p r met told (Body.Catch f)) below k q = same l k
  where
    same : (l : Flaw) (k : Kind) → k ≡ taken_for l (Phase.Guard p r met told (Body.Catch f) ∷ below) k
    same Flaw.FrozenLate k = refl
    same l k = refl
quiet_same l (Phase.Guard p r met told (Body.Freeze f)) below k q = same l k
  where
    same : (l : Flaw) (k : Kind) → k ≡ taken_for l (Phase.Guard p r met told (Body.Freeze f) ∷ below) k
    same Flaw.FrozenLate k = refl
    same l k = refl
quiet_same l top below k q = cc

-- what an actor sees at an entry that is due leaves no frame without a name, if its guard does not
pub due_quiet : (l : Flaw) (c : Program) (t : Flawed) (a : ℕ) (e : Entry) (seen : Seen) → due_by l c t a ≡ Progress.Did e → IsSeen c (found l c t) a (t.state.going a) (taken_for l (t.state.going a).stack e.kind) seen → IsQuietAt (t.state.going a).stack seen
due_quiet l c t a e seen is sees = by (op_at c a g.index) g.stack refl refl is
  where
    g : Going
    g = t.state.going a

    s : After
    s = found l c t

    by : (o : Option Op) (st : List Phase) → op_at c a g.index ≡ o → g.stack ≡ st → due_flawed_top l c t.driver s a o g.pages st ≡ Progress.Did e → IsQuietAt st seen
    by (Some o) [] eo es d = tt
    by (Some o) (top ∷ below) eo es d = λ q.
        let k : Kind = taken_for l g.stack e.kind in
        let same : e.kind ≡ k = quiet_same l top below e.kind q ∙ ap (λ st. taken_for l st e.kind) (sym es) in
        let kept : Keeps s e.kind = did_keep s a _ e (read_keeps s l t.driver _ (top_keeps l c s a o g.pages top q)) d in
        ap (λ (x : Seen). x.orphan) (sees o top below eo es) ∙ unleft_by s k (subst (Keeps s) same kept)
    by None [] eo es d = tt
    by None (top ∷ below) eo es d = cc
