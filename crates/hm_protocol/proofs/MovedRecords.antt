-- What a thread's inner migration says of the records of its actor, at each step, and what an entry makes of both.
use Rattle.std.proofs.Common.{refl, ap, sym, subst, ◌∙◌, inl, inr}
use Rattle.std.proofs.lemmas.Bool.{true≢false, false≢true}
use Rattle.std.proofs.lemmas.List.Sums.{fold-append}
use Rattle.std.specs.Prelude.{◌≡◌, ℕ, ◌⊎◌, Bool, true, false, ◌||◌, ◌==◌, if◌then◌else◌, Option, Some}
use Rattle.std.specs.Prelude.{None}
use Rattle.std.specs.Prelude.{List, [], ◌∷◌, ◌++◌, map, fold}
use Rattle.std.specs.List.{list_any}
use Rattle.hm_base.specs.Pages.{Pages}
use Rattle.hm_base.specs.declared.Frame.{Frame}
use Rattle.hm_base.specs.declared.Place.{Place}
use Rattle.hm_base.specs.declared.ops.Op.{Op}
use Rattle.hm_history.specs.Memory.Plain.{mirror_proc, mirror_dev}
use Rattle.hm_history.specs.Memory.After.{After}
use Rattle.hm_history.specs.Kernel.Operation.{op_mirror, is_migration, is_to_device}
use Rattle.hm_history.specs.Kernel.Going.{coming, with_record, recorded_at}
use Rattle.hm_history.specs.Kernel.Going.{recorded_body}
use Rattle.hm_history.specs.declared.KeptWhy.{KeptWhy}
use Rattle.hm_history.specs.declared.Kind.{Kind}
use Rattle.hm_history.specs.declared.phases.Body.{Body}
use Rattle.hm_history.specs.declared.phases.Migrating.{Migrating}
use Rattle.hm_history.specs.declared.phases.MoveStep.{MoveStep}
use Rattle.hm_history.specs.declared.phases.Phase.{Phase}
use Rattle.hm_history.proofs.Updates.{here_at}
use Rattle.hm_laws.specs.Records.{Among}
use Rattle.hm_laws.proofs.Migration.Records.{with_among, among_on}
use Rattle.hm_laws.proofs.Migration.Setup.{at_itself}
use Rattle.hm_protocol.specs.declared.events.Event.{Event}
use Rattle.hm_protocol.specs.declared.events.TraceFrame.{TraceFrame}
use Rattle.hm_protocol.specs.Known.{Move, Known}
use Rattle.hm_protocol.specs.Noted.{noted, known_next, with_move}
use Rattle.hm_protocol.specs.Projection as project
use Rattle.hm_protocol.specs.Projection.{comes_to, is_start, is_past_commits, collected, pages_of}
use Rattle.hm_protocol.proofs.DueKinds.{is_set}
use Rattle.hm_protocol.proofs.Steps.{by, by_thread, apart}
use Rattle.hm_protocol.proofs.Stands.{turned}
use Rattle.hm_protocol.proofs.QuietEvents.{is_quiet, Quiet}
use Rattle.hm_protocol.proofs.StillEvents.{both_be, be_each, be_if}
use Rattle.hm_protocol.proofs.InnerMigration.{is_open, is_paged, has_moved, Grows, grows}

-- no record was moved
abbrev pub AllFresh : List Migrating → Type 0
AllFresh xs = (x : Migrating) → Among xs x → x.moved ≡ false

-- the inner migration is there, and says of each record that was moved that it has moved
abbrev pub AllMoved : List Move → List Migrating → Type 0
AllMoved ys xs = (is_open ys ≡ true) × ((x : Migrating) → Among xs x → x.moved ≡ true → has_moved ys x.page ≡ true)

-- what holds at a step
abbrev pub MoveOk : MoveStep → List Move → List Migrating → Type 0
MoveOk MoveStep.FreezeOthers ys xs = AllFresh xs
MoveOk MoveStep.SetOwnTable ys xs = AllMoved ys xs × (is_paged ys ≡ true)
MoveOk step ys xs = AllMoved ys xs

abbrev Either : Bool → Type 0 → Type 0 → Type 0
Either true A B = A
Either false A B = B

-- and there once all is said that the migration has come to: `start` tells whether the entry starts a guard, `past`
-- whether the step comes after the commits
abbrev pub Mid : MoveStep → Bool → Bool → List Move → List Migrating → Type 0
Mid MoveStep.FreezeOthers start past ys xs =
    Either start (AllFresh xs) (AllMoved ys xs × (past ≡ true → is_paged ys ≡ true))
Mid MoveStep.SetOwnTable start past ys xs = AllMoved ys xs × (is_paged ys ≡ true)
Mid MoveStep.Finish start past ys xs = AllMoved ys xs
Mid step start past ys xs = AllMoved ys xs × (past ≡ true → is_paged ys ≡ true)

pub grown : (ys zs : List Move) (xs : List Migrating) → Grows ys zs → AllMoved ys xs → AllMoved zs xs
grown ys zs xs g h = (g.stays h.0, λ x i e. g.moved x.page (h.1 x i e))

-- the events of one thread, and then more
pub in_turn : (a : ℕ) (xs ys : List Event) (k : Known)
    → fold known_next k (by_thread a (xs ++ ys)) ≡ fold known_next (fold known_next k (by_thread a xs)) (by_thread a ys)
in_turn a xs ys k = ap (fold known_next k) (apart a xs ys) ∙ fold-append known_next k (by_thread a xs) (by_thread a ys)

-- ---- what a migration has come to

paging : (k : Known) (a p : ℕ) (b : Bool) → is_open (k.moves a) ≡ true → b ≡ true
    → is_paged ((fold known_next k (by_thread a (if b then Event.Paged p ∷ [] else []))).moves a) ≡ true
paging k a p false h e = absurd (false≢true e)
paging k a p true h e = ap is_paged (here_at k.moves a (with_move (λ y. record y { paged = true }) (k.moves a)))
    ∙ pick (k.moves a) h
  where
    pick : (ys : List Move) → is_open ys ≡ true → is_paged (with_move (λ y. record y { paged = true }) ys) ≡ true
    pick [] i = absurd (false≢true i)
    pick (y ∷ ys) i = refl

-- pages that moved are known after the commits
after_paging : (k : Known) (a p : ℕ) (b : Bool) (xs : List Migrating) → AllMoved (k.moves a) xs
    → AllMoved ((fold known_next k (by_thread a (if b then Event.Paged p ∷ [] else []))).moves a) xs
    × (b ≡ true → is_paged ((fold known_next k (by_thread a (if b then Event.Paged p ∷ [] else []))).moves a) ≡ true)
after_paging k a p b xs h = (
  grown (k.moves a) _ xs (grows a (if b then Event.Paged p ∷ [] else []) (be_if is_quiet b _ _ (refl, tt) tt) k) h,
  paging k a p b h.0,
)

-- a migration is set up
opened : (k : Known) (a p : ℕ) (r : Pages) (to_device : Bool) (d : Option ℕ) (es : List Event) → Quiet es
    → is_open ((fold known_next k (by_thread a (Event.Setup p r to_device d ∷ es))).moves a) ≡ true
opened k a p r to_device d es q = let l : Known = known_next k (by a (Event.Setup p r to_device d)) in
    (grows a es q l).stays (ap is_open (here_at k.moves a _))

-- the rest of its set-up
abbrev collects : After → Op → List Migrating → List Event
collects s o xs = let p = mirror_proc s.plain (op_mirror o) in map (collected s p) xs ++ Event.Ready p ∷ []

-- all of it
abbrev sets_up : After → Op → List Migrating → List Event
sets_up s o xs =
    Event.Setup (mirror_proc s.plain (op_mirror o)) (pages_of o) (is_to_device o)
    (Some (mirror_dev s.plain (op_mirror o)))
    ∷ collects s o xs

set_up_moved : (s : After) (o : Op) (xs : List Migrating) (k : Known) (a p : ℕ) (start past : Bool) → AllFresh xs
    → Mid MoveStep.FreezeOthers start past ((fold known_next k (by_thread a
    ((if start then [] else sets_up s o xs) ++ (if past then Event.Paged p ∷ [] else [])))).moves a) xs
set_up_moved s o xs k a p true past h = h
set_up_moved s o xs k a p false past h =
    subst (λ l. AllMoved (l.moves a) xs × (past ≡ true → is_paged (l.moves a) ≡ true))
    (sym (in_turn a (sets_up s o xs) (if past then Event.Paged p ∷ [] else []) k))
    (after_paging (fold known_next k (by_thread a (sets_up s o xs))) a p past xs (
      opened k a (mirror_proc s.plain (op_mirror o)) (pages_of o) (is_to_device o)
          (Some (mirror_dev s.plain (op_mirror o))) (collects s o xs) quiet,
      λ x i e. absurd (false≢true (sym (h x i) ∙ e)),
    ))
  where
    quiet : Quiet (collects s o xs)
    quiet = let p : ℕ = mirror_proc s.plain (op_mirror o) in
        both_be is_quiet (map (collected s p) xs) (Event.Ready p ∷ []) (be_each is_quiet (collected s p) (λ x. refl) xs)
        (refl, tt)

-- what is known after that
pub mid : (s : After) (o : Op) (xs : List Migrating) (step : MoveStep) (n : ℕ) (j : Kind) (k : Known) (a : ℕ)
    → is_migration o ≡ true → MoveOk step (k.moves a) xs
    → Mid step (is_start j) (is_past_commits (coming s o xs (Phase.Moves step n)))
    ((fold known_next k (by_thread a (comes_to s o xs (Phase.Moves step n) j))).moves a) xs
mid s o xs step n j k a m ok = subst (λ b. Mid step (is_start j) (is_past_commits (coming s o xs (Phase.Moves step n)))
    ((fold known_next k (by_thread a (if b then project.set_up s o xs (Phase.Moves step n) j
    ++ project.paged s o xs (Phase.Moves step n) else []))).moves a) xs) (sym m) (pick step ok)
  where
    pick : (step : MoveStep) → MoveOk step (k.moves a) xs
        → Mid step (is_start j) (is_past_commits (coming s o xs (Phase.Moves step n)))
        ((fold known_next k (by_thread a (project.set_up s o xs (Phase.Moves step n) j
        ++ project.paged s o xs (Phase.Moves step n)))).moves a) xs
    pick MoveStep.FreezeOthers h = set_up_moved s o xs k a (mirror_proc s.plain (op_mirror o)) (is_start j)
        (is_past_commits (coming s o xs (Phase.Moves MoveStep.FreezeOthers n))) h
    pick MoveStep.TakeAndCopy h = after_paging k a (mirror_proc s.plain (op_mirror o))
        (is_past_commits (coming s o xs (Phase.Moves MoveStep.TakeAndCopy n))) xs h
    pick MoveStep.Commit h = after_paging k a (mirror_proc s.plain (op_mirror o))
        (is_past_commits (coming s o xs (Phase.Moves MoveStep.Commit n))) xs h
    pick MoveStep.SetOwnTable h = h
    pick MoveStep.Finish h = h

-- ---- an entry at a step

pub all_mid : (step : MoveStep) (past : Bool) (ys : List Move) (xs : List Migrating) → Mid step false past ys xs
    → AllMoved ys xs
all_mid MoveStep.FreezeOthers past ys xs h = h.0
all_mid MoveStep.TakeAndCopy past ys xs h = h.0
all_mid MoveStep.Commit past ys xs h = h.0
all_mid MoveStep.SetOwnTable past ys xs h = h.0
all_mid MoveStep.Finish past ys xs h = h

pub paged_mid : (step : MoveStep) (past : Bool) (ys : List Move) (xs : List Migrating) → past ≡ true
    → (step ≡ MoveStep.Finish → ⊥) → Mid step false past ys xs → is_paged ys ≡ true
paged_mid MoveStep.FreezeOthers past ys xs e ne h = h.1 e
paged_mid MoveStep.TakeAndCopy past ys xs e ne h = h.1 e
paged_mid MoveStep.Commit past ys xs e ne h = h.1 e
paged_mid MoveStep.SetOwnTable past ys xs e ne h = h.1
paged_mid MoveStep.Finish past ys xs e ne h = absurd (ne refl)

-- the step that follows
pub turned_ok : (step : MoveStep) (j : Kind) (past : Bool) (ys zs : List Move) (xs us : List Migrating)
    → (is_start j ≡ true → us ≡ xs) → (AllMoved ys xs → AllMoved zs us) → (is_paged ys ≡ true → is_paged zs ≡ true)
    → (is_set j ≡ true → past ≡ true) → (is_set j ≡ true → step ≡ MoveStep.Finish → ⊥)
    → Mid step (is_start j) past ys xs → MoveOk (turned step j) zs us
turned_ok MoveStep.FreezeOthers (Kind.Start p r q) past ys zs xs us e all pg st ne h = subst AllFresh (sym (e refl)) h
turned_ok MoveStep.TakeAndCopy (Kind.Start p r q) past ys zs xs us e all pg st ne h = all h.0
turned_ok MoveStep.Commit (Kind.Start p r q) past ys zs xs us e all pg st ne h = all h.0
turned_ok MoveStep.SetOwnTable (Kind.Start p r q) past ys zs xs us e all pg st ne h = all h.0
turned_ok MoveStep.Finish (Kind.Start p r q) past ys zs xs us e all pg st ne h = all h
turned_ok step (Kind.Set m v f w from) past ys zs xs us e all pg st ne h =
    (all (all_mid step past ys xs h), pg (paged_mid step past ys xs (st refl) (ne refl) h))
turned_ok step (Kind.Kept at KeptWhy.Lost) past ys zs xs us e all pg st ne h = all (all_mid step past ys xs h)
turned_ok step (Kind.Kept at why) past ys zs xs us e all pg st ne h = all (all_mid step past ys xs h)
turned_ok step j past ys zs xs us e all pg st ne h = all (all_mid step past ys xs h)

-- the records after it
pub recorded_same : (page : Option Migrating) (xs : List Migrating) (p q : ℕ) (r : Pages)
    → recorded_at page xs (Kind.Start p r q) ≡ xs
recorded_same None xs p q r = refl
recorded_same (Some x) xs p q r = refl

-- a record is another one, of which is said what was said of it
with_moved : (zs : List Move) (xs : List Migrating) (u : Migrating) → (u.moved ≡ true → has_moved zs u.page ≡ true)
    → AllMoved zs xs → AllMoved zs (with_record u xs)
with_moved zs xs u h g = (g.0, λ y i e. pick y (with_among u xs y i) e)
  where
    pick : (y : Migrating)
        → ((y ≡ u) × ((z : Migrating) × Among xs z × (z.page ≡ u.page))) ⊎ (Among xs y × (y.page ≡ u.page → ⊥))
        → y.moved ≡ true → has_moved zs y.page ≡ true
    pick y (inl i) e = ap (λ (w : Migrating). has_moved zs w.page) i.0
        ∙ h (sym (ap (λ (w : Migrating). w.moved) i.0) ∙ e)
    pick y (inr i) e = g.1 y i.0 e

pub recorded_moved : (page : Option Migrating) (xs : List Migrating) (j : Kind) (zs : List Move)
    → ((x : Migrating) → page ≡ Some x → Among xs x)
    → ((x : Migrating) (f g : Frame) → page ≡ Some x → j ≡ Kind.Committed f g → has_moved zs x.page ≡ true)
    → AllMoved zs xs → AllMoved zs (recorded_at page xs j)
recorded_moved (Some x) xs (Kind.Take g) zs i m h = with_moved zs xs (record x { dest = Some g }) (h.1 x (i x refl)) h
recorded_moved (Some x) xs (Kind.Committed f g) zs i m h = with_moved zs xs (record x { moved = true })
    (λ e. m x f g refl refl) h
recorded_moved None xs j zs i m h = h
recorded_moved (Some x) xs j zs i m h = h

-- a page that has moved is said to have
pub moved_now : (k : Known) (a v : ℕ) (f : TraceFrame) → is_open (k.moves a) ≡ true
    → has_moved ((noted k a (Event.Moved v f)).moves a) v ≡ true
moved_now k a v f h = ap (λ ys. has_moved ys v)
    (here_at k.moves a (with_move (λ y. record y { moved = v ∷ y.moved }) (k.moves a)))
    ∙ pick (k.moves a) h
  where
    pick : (ys : List Move) → is_open ys ≡ true
        → has_moved (with_move (λ y. record y { moved = v ∷ y.moved }) ys) v ≡ true
    pick [] i = absurd (false≢true i)
    pick (y ∷ ys) i = ap (λ b. b || list_any (λ u. u == v) y.moved) (at_itself v)

-- ---- the body of a guard

-- the body gives a fresh page its frame
abbrev pub is_fresh : Body → Bool
is_fresh (Body.Fresh g) = true
is_fresh body = false

-- one more record, of a page that has not moved
fresh_on : (xs : List Migrating) (x : Migrating) → x.moved ≡ false → AllFresh xs → AllFresh (xs ++ x ∷ [])
fresh_on xs x e h y i = pick (among_on xs x y i)
  where
    pick : Among xs y ⊎ (y ≡ x) → y.moved ≡ false
    pick (inl j) = h y j
    pick (inr j) = ap (λ (w : Migrating). w.moved) j ∙ e

moved_on : (zs : List Move) (xs : List Migrating) (x : Migrating) → x.moved ≡ false → AllMoved zs xs
    → AllMoved zs (xs ++ x ∷ [])
moved_on zs xs x e h = (h.0, λ y i m. pick y m (among_on xs x y i))
  where
    pick : (y : Migrating) → y.moved ≡ true → Among xs y ⊎ (y ≡ x) → has_moved zs y.page ≡ true
    pick y m (inl j) = h.1 y j m
    pick y m (inr j) = absurd (false≢true (sym (ap (λ (w : Migrating). w.moved) j ∙ e) ∙ m))

-- what it leaves of fresh records
pub body_fresh : (body : Body) (xs : List Migrating) (j : Kind) → is_fresh body ≡ false → AllFresh xs
    → AllFresh (recorded_body body xs j)
body_fresh (Body.Select n) xs (Kind.Fresh p v) e h = fresh_on xs _ refl h
body_fresh (Body.Select n) xs (Kind.Place p v x) e h = fresh_on xs _ refl h
body_fresh (Body.Fresh g) xs j e h = absurd (true≢false e)
body_fresh body xs j e h = h

-- and of moved ones
pub body_moved : (body : Body) (xs : List Migrating) (j : Kind) (zs : List Move)
    → ((g : Frame) (p v : ℕ) (x : Place) → body ≡ Body.Fresh g → j ≡ Kind.Place p v x → has_moved zs v ≡ true)
    → AllMoved zs xs → AllMoved zs (recorded_body body xs j)
body_moved (Body.Select n) xs (Kind.Fresh p v) zs m h = moved_on zs xs _ refl h
body_moved (Body.Select n) xs (Kind.Place p v x) zs m h = moved_on zs xs _ refl h
body_moved (Body.Fresh g) xs (Kind.Place p v x) zs m h = with_moved zs xs _ (λ e. m g p v x refl refl) h
body_moved body xs j zs m h = h
