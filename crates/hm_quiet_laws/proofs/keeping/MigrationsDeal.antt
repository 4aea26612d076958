-- A migration that meets nobody moves each page that it selected, or leaves it for one of two reasons: at all its stacks.
use Rattle.std.proofs.Common.{◌≡◌, ℕ, ◌+◌, ◌⊎◌, inl, inr, Bool, true, false, nat_lt, if◌then◌else◌, Option, Some, None, List, [], ◌∷◌, ◌++◌, refl}
use Rattle.std.specs.Prelude.{⊤}
use Rattle.hm_base.specs.Pages.{Pages}
use Rattle.hm_base.specs.Program.{Program}
use Rattle.hm_base.specs.declared.cause.Cause.{Cause}
use Rattle.hm_base.specs.declared.Frame.{Frame}
use Rattle.hm_base.specs.declared.Place.{Place}
use Rattle.hm_base.specs.declared.ops.Op.{Op}
use Rattle.hm_history.specs.declared.phases.MoveStep.{MoveStep}
use Rattle.hm_history.specs.declared.phases.MoveStep.TheVariants.{FreezeOthers}
use Rattle.hm_history.specs.Memory.Words.{place_in}
use Rattle.hm_history.specs.Memory.Plain.{in_window, mirror_proc, rights_of, is_read_write}
use Rattle.hm_history.specs.Memory.Places.{lowest_moving, lowest_named}
use Rattle.hm_history.specs.Memory.Locks.{writer, orphan}
use Rattle.hm_history.specs.Memory.After.{After}
use Rattle.hm_history.specs.Kernel.Operation.{is_migration}
use Rattle.hm_history.specs.Kernel.Stacks.{stack_after, told_mirror, is_end, dropping, page_of_entry}
use Rattle.hm_history.specs.Kernel.Going.{seen_at, recorded}
use Rattle.hm_history.specs.Kernel.Due.{to_tell, if_so, has_no_frame, body_or_end, due_guard, due_begin, due_ready, due_finish, settle, in_window_rlock, due_phase}
use Rattle.hm_history.specs.declared.Entry.{Entry}
use Rattle.hm_history.specs.declared.Kind.{Kind}
use Rattle.hm_history.specs.declared.phases.Migrating.{Migrating}
use Rattle.hm_history.specs.declared.phases.Body.{Body}
use Rattle.hm_history.specs.declared.phases.Phase.{Phase}
use Rattle.hm_history.specs.declared.phases.Next.{Next}
use Rattle.hm_history.specs.declared.phases.Next.TheVariants.{Do, Wait}
use Rattle.hm_laws.specs.Records.{same_step}
use Rattle.hm_laws.specs.Past.{Past}
use Rattle.hm_laws.specs.Sound.{Sound}
use Rattle.hm_laws.specs.Records.{Among}
use Rattle.hm_laws.specs.Facts.{HoldsAll, facts}
use Rattle.hm_laws.proofs.Due.Good.{either, either_option}
use Rattle.hm_quiet_laws.proofs.measure.Shapes.{on_moves, no_test}
use Rattle.hm_quiet_laws.proofs.keeping.FreshPages.{StaysFresh}
use Rattle.hm_quiet_laws.proofs.keeping.SelectedPages.{Dealt, Given, given_more, given_with, in_first_step}
use Rattle.hm_quiet_laws.proofs.keeping.MovesDeal.{Deals, DealsOn, moves_deal}

abbrev pub DealsNext : Program → After → ℕ → Op → List Migrating → Phase → List Phase → List Entry → Next → Type 0
DealsNext c s a o xs top below done (Do k) = DealsOn c o s a xs done k (recorded top (seen_at s o xs top k).page xs k) (stack_after o (top ∷ below) k (seen_at s o xs top k))
DealsNext c s a o xs top below done (Wait y) = ⊤

refused : (c : Program) (s : After) (a : ℕ) (o : Op) (done : List Entry) → DealsNext c s a o [] Phase.Begin [] done (Do (Kind.Refused Cause.Outside))
refused c s a o done = record { each = λ x i. absurd i; tells = inr refl }

begin_at : (c : Program) (s : After) (a : ℕ) (o : Op) (done : List Entry) (m : ℕ) (r : Pages) → DealsNext c s a o [] Phase.Begin [] done (Do (Kind.Rlock (mirror_proc s.plain m))) → DealsNext c s a o [] Phase.Begin [] done (in_window_rlock s m r)
begin_at c s a o done m r h = either (DealsNext c s a o [] Phase.Begin [] done) (in_window s.plain m r) _ _ (λ e. either_option (DealsNext c s a o [] Phase.Begin [] done) (writer s.locks (mirror_proc s.plain m)) _ _ (λ w. h) (λ b w. tt)) (λ e. refused c s a o done)

begin_deals : (c : Program) (s : After) (t : Past) (a : ℕ) (o : Op) (xs : List Migrating) (done : List Entry) → is_migration o ≡ true → HoldsAll s t a (facts o xs (Phase.Begin ∷ [])) → DealsNext c s a o xs Phase.Begin [] done (due_begin s a o)
begin_deals c s t a (Op.ToDevice m r) [] done i h = begin_at c s a (Op.ToDevice m r) done m r tt
begin_deals c s t a (Op.ToSystem m r) [] done i h = begin_at c s a (Op.ToSystem m r) done m r tt
begin_deals c s t a (Op.ToDevice m r) (x ∷ xs) done i h = absurd (no_test h.0)
begin_deals c s t a (Op.ToSystem m r) (x ∷ xs) done i h = absurd (no_test h.0)
begin_deals c s t a o xs done i h = absurd (no_test i)

ready_deals : (c : Program) (s : After) (a : ℕ) (o : Op) (xs : List Migrating) (done : List Entry) → is_migration o ≡ true → DealsNext c s a o xs Phase.Ready [] done (Do (due_ready s o))
ready_deals c s a (Op.ToDevice m r) xs done i = in_first_step c (Op.ToDevice m r) xs FreezeOthers r.first None _ refl
ready_deals c s a (Op.ToSystem m r) xs done i = in_first_step c (Op.ToSystem m r) xs FreezeOthers r.first None _ refl
ready_deals c s a o xs done i = absurd (no_test i)

-- a guard whose body leaves what stands below, whatever its entry
guard_on : (c : Program) (s : After) (a : ℕ) (o : Op) (xs ys : List Migrating) (p : ℕ) (r : Pages) (met : Bool) (told : Option ℕ) (old new : Body) (step : MoveStep) (v : ℕ) (done : List Entry) (k : Kind) (x : Option ℕ) (b : Bool) (z : Option Frame) →
    ((n : Option ℕ) → Deals c o s ys (Phase.Guard p r met n old ∷ Phase.Moves step v ∷ []) (done ++ record { actor = a; kind = k } ∷ [])) → ((n : Option ℕ) → Deals c o s ys (Phase.Guard p r met n new ∷ Phase.Moves step v ∷ []) (done ++ record { actor = a; kind = k } ∷ [])) → Given c o ys step v None (done ++ record { actor = a; kind = k } ∷ []) →
    DealsOn c o s a xs done k ys (elim x as (λ w. List Phase) [ Some m ↦ Phase.Guard p r met (Some m) old ∷ Phase.Moves step v ∷ [] | None ↦ if b then Phase.Moves step v ∷ [] else dropping z (Phase.Guard p r met told new ∷ Phase.Moves step v ∷ []) ])
guard_on c s a o xs ys p r met told old new step v done k (Some m) b z h g gv = h (Some m)
guard_on c s a o xs ys p r met told old new step v done k None true z h g gv = gv
guard_on c s a o xs ys p r met told old new step v done k None false None h g gv = g told
guard_on c s a o xs ys p r met told old new step v done k None false (Some f) h g gv = tt

select_deals : (c : Program) (s : After) (a : ℕ) (o : Op) (xs : List Migrating) (p : ℕ) (r : Pages) (met : Bool) (told : Option ℕ) (n : ℕ) (step : MoveStep) (v : ℕ) (done : List Entry) (k : Kind) → same_step step FreezeOthers ≡ true → DealsNext c s a o xs (Phase.Guard p r met told (Body.Select n)) (Phase.Moves step v ∷ []) done (Do k)
select_deals c s a o xs p r met told n step v done k e = guard_on c s a o xs ys p r met told (Body.Select n) (Body.Select (page_of_entry k + 1)) step v done k (told_mirror k) (is_end k) (orphan s.locks s.places k) (λ m. given) (λ m. given) given
  where
    ys : List Migrating
    ys = recorded (Phase.Guard p r met told (Body.Select n)) None xs k

    given : Given c o ys step v None (done ++ record { actor = a; kind = k } ∷ [])
    given = in_first_step c o ys step v None _ e

plain_deals : (c : Program) (s : After) (a : ℕ) (o : Op) (xs : List Migrating) (p : ℕ) (r : Pages) (met : Bool) (told : Option ℕ) (step : MoveStep) (v : ℕ) (done : List Entry) (k : Kind) → Given c o xs step v None done → DealsNext c s a o xs (Phase.Guard p r met told Body.Nothing) (Phase.Moves step v ∷ []) done (Do k)
plain_deals c s a o xs p r met told step v done k gv = guard_on c s a o xs xs p r met told Body.Nothing Body.Nothing step v done k (told_mirror k) (is_end k) (orphan s.locks s.places k) (λ m. given) (λ m. given) given
  where
    given : Given c o xs step v None (done ++ record { actor = a; kind = k } ∷ [])
    given = given_more c o xs step v None done (record { actor = a; kind = k }) gv

freeze_deals : (c : Program) (s : After) (a : ℕ) (o : Op) (xs : List Migrating) (p : ℕ) (r : Pages) (met : Bool) (told : Option ℕ) (f : Frame) (step : MoveStep) (v : ℕ) (done : List Entry) (k : Kind) → Given c o xs step v None done → DealsNext c s a o xs (Phase.Guard p r met told (Body.Freeze f)) (Phase.Moves step v ∷ []) done (Do k)
freeze_deals c s a o xs p r met told f step v done k gv = guard_on c s a o xs xs p r met told (Body.Freeze f) Body.Nothing step v done k (told_mirror k) (is_end k) (orphan s.locks s.places k) (λ m. given) (λ m. given) given
  where
    given : Given c o xs step v None (done ++ record { actor = a; kind = k } ∷ [])
    given = given_more c o xs step v None done (record { actor = a; kind = k }) gv

-- the taken frame under its fresh page
fresh_deals : (c : Program) (s : After) (a : ℕ) (o : Op) (xs : List Migrating) (p : ℕ) (r : Pages) (met : Bool) (told : Option ℕ) (g : Frame) (step : MoveStep) (v : ℕ) (done : List Entry) → has_no_frame (s.places.place p r.first) ≡ true → Given c o xs step v (Some r.first) done → DealsNext c s a o xs (Phase.Guard p r met told (Body.Fresh g)) (Phase.Moves step v ∷ []) done (Do (due_guard s a o p r met told (Body.Fresh g)))
fresh_deals c s a o xs p r met told g step v done un gv = either_option P (to_tell s p r met told) _ _ (λ e. by (has_no_frame (s.places.place p r.first)) un) (λ m e. given_more c o xs step v (Some r.first) done _ gv)
  where
    P : Kind → Type 0
    P k = DealsNext c s a o xs (Phase.Guard p r met told (Body.Fresh g)) (Phase.Moves step v ∷ []) done (Do k)

    x : Place
    x = place_in g (is_read_write (rights_of s.plain p r.first))

    new : Migrating
    new = record { page = r.first; source = None; dest = Some g; moved = true }

    e : Entry
    e = record { actor = a; kind = Kind.Place p r.first x }

    other : (y : Migrating) → Among xs y → (y.page ≡ r.first → ⊥) → Dealt c o step v None (done ++ e ∷ []) y
    other y i ne = record { taken = (given_more c o xs step v (Some r.first) done e gv y i).taken; moved = λ q d. on ((gv y i).moved q d) }
      where
        on : (y.page ≡ r.first) ⊎ (y.moved ≡ true) → ⊥ ⊎ (y.moved ≡ true)
        on (inl h) = absurd (ne h)
        on (inr h) = inr h

    placed : P (Kind.Place p r.first x)
    placed = at (orphan s.locks s.places (Kind.Place p r.first x))
      where
        ys : List Migrating
        ys = recorded (Phase.Guard p r met told (Body.Fresh g)) None xs (Kind.Place p r.first x)

        at : (z : Option Frame) → DealsOn c o s a xs done (Kind.Place p r.first x) ys (dropping z (Phase.Guard p r met told Body.Nothing ∷ Phase.Moves step v ∷ []))
        at None = given_with c o xs step v None (done ++ e ∷ []) new (record { taken = λ q. inl refl; moved = λ q d. inr refl }) other
        at (Some i) = tt

    by : (b : Bool) → b ≡ true → P (body_or_end s p r (if_so b (Kind.Place p r.first x)))
    by true i = placed
    by false i = absurd (no_test i)

guard_deals : (c : Program) (s : After) (t : Past) (a : ℕ) (o : Op) (xs : List Migrating) (p : ℕ) (r : Pages) (met : Bool) (told : Option ℕ) (body : Body) (below : List Phase) (done : List Entry) → HoldsAll s t a (facts o xs (Phase.Guard p r met told body ∷ below)) → on_moves (Phase.Guard p r met told body ∷ below) ≡ true → StaysFresh s o xs (Phase.Guard p r met told body ∷ below) → Deals c o s xs (Phase.Guard p r met told body ∷ below) done →
    DealsNext c s a o xs (Phase.Guard p r met told body) below done (Do (due_guard s a o p r met told body))
guard_deals c s t a o xs p r met told (Body.Select n) (Phase.Moves step v ∷ []) done h e w gv = select_deals c s a o xs p r met told n step v done _ h.1.1.1.0
guard_deals c s t a o xs p r met told (Body.Freeze f) (Phase.Moves step v ∷ []) done h e w gv = freeze_deals c s a o xs p r met told f step v done _ gv
guard_deals c s t a o xs p r met told (Body.Fresh g) (Phase.Moves step v ∷ []) done h e w gv = fresh_deals c s a o xs p r met told g step v done w.1 gv
guard_deals c s t a o xs p r met told Body.Nothing (Phase.Moves step v ∷ []) done h e w gv = plain_deals c s a o xs p r met told step v done _ gv
guard_deals c s t a o xs p r met told body below done h e w gv = absurd (no_test e)

copy_deals : (c : Program) (s : After) (a : ℕ) (o : Op) (xs : List Migrating) (f g : Frame) (k : ℕ) (below : List Phase) (done : List Entry) → on_moves (Phase.Copy f g k ∷ below) ≡ true → Deals c o s xs (Phase.Copy f g k ∷ below) done → DealsNext c s a o xs (Phase.Copy f g k) below done (Do (Kind.Copied f g (Some k)))
copy_deals c s a o xs f g k (Phase.Moves step v ∷ []) done e gv = by (nat_lt k 7)
  where
    by : (b : Bool) → DealsOn c o s a xs done (Kind.Copied f g (Some k)) xs (if b then Phase.Copy f g (k + 1) ∷ Phase.Moves step v ∷ [] else (Phase.Moves step v ∷ []))
    by true = given_more c o xs step v None done _ gv
    by false = given_more c o xs step v None done _ gv
copy_deals c s a o xs f g k below done e gv = absurd (no_test e)

finish_deals : (c : Program) (s : After) (a : ℕ) (o : Op) (xs : List Migrating) (f : Frame) (to : Option Frame) (below : List Phase) (done : List Entry) → on_moves (Phase.Finish f to ∷ below) ≡ true → Deals c o s xs (Phase.Finish f to ∷ below) done → DealsNext c s a o xs (Phase.Finish f to) below done (Do (due_finish s f to))
finish_deals c s a o xs f (Some g) (Phase.Moves step v ∷ []) done e gv = either_option (λ k. DealsNext c s a o xs (Phase.Finish f (Some g)) (Phase.Moves step v ∷ []) done (Do k)) (lowest_moving s.places f) _ _ (λ i. given_more c o xs step v None done _ gv) (λ x i. given_more c o xs step v None done _ gv)
finish_deals c s a o xs f None (Phase.Moves step v ∷ []) done e gv = either_option (λ k. DealsNext c s a o xs (Phase.Finish f None) (Phase.Moves step v ∷ []) done (Do k)) (lowest_moving s.places f) _ _ (λ i. either_option (λ k. DealsNext c s a o xs (Phase.Finish f None) (Phase.Moves step v ∷ []) done (Do k)) (lowest_named s.places f) _ _ (λ j. given_more c o xs step v None done _ gv) (λ x j. given_more c o xs step v None done _ gv)) (λ x i. given_more c o xs step v None done _ gv)
finish_deals c s a o xs f to below done e gv = absurd (no_test e)

settle_deals : (c : Program) (s : After) (a : ℕ) (o : Op) (xs : List Migrating) (g : Frame) (below : List Phase) (done : List Entry) → on_moves (Phase.Settle g ∷ below) ≡ true → Deals c o s xs (Phase.Settle g ∷ below) done → DealsNext c s a o xs (Phase.Settle g) below done (Do (settle s g))
settle_deals c s a o xs g (Phase.Moves step v ∷ []) done e gv = given_more c o xs step v None done _ gv
settle_deals c s a o xs g below done e gv = absurd (no_test e)

pub all_deal : (c : Program) (o : Op) → is_migration o ≡ true → (s : After) (t : Past) (a : ℕ) (xs : List Migrating) (top : Phase) (below : List Phase) (done : List Entry) → Sound c s t → HoldsAll s t a (facts o xs (top ∷ below)) → on_moves (top ∷ below) ≡ true → StaysFresh s o xs (top ∷ below) → Deals c o s xs (top ∷ below) done → DealsNext c s a o xs top below done (due_phase c s a o xs top)
all_deal c o i s t a xs Phase.Begin [] done so h e w gv = begin_deals c s t a o xs done i h
all_deal c o i s t a xs Phase.Begin (y ∷ ys) done so h e w gv = absurd h.0
all_deal c o i s t a xs Phase.Ready [] done so h e w gv = ready_deals c s a o xs done i
all_deal c o i s t a xs Phase.Ready (y ∷ ys) done so h e w gv = absurd h.0
all_deal c o i s t a xs (Phase.Moves step v) [] done so h e w gv = moves_deal c s t a o xs step v done so h w gv
all_deal c o i s t a xs (Phase.Moves step v) (y ∷ ys) done so h e w gv = absurd h.0
all_deal c o i s t a xs (Phase.Guard p r met told body) below done so h e w gv = guard_deals c s t a o xs p r met told body below done h e w gv
all_deal c o i s t a xs (Phase.Copy k l n) below done so h e w gv = copy_deals c s a o xs k l n below done e gv
all_deal c o i s t a xs (Phase.Finish k to) below done so h e w gv = finish_deals c s a o xs k to below done e gv
all_deal c o i s t a xs (Phase.Settle k) below done so h e w gv = settle_deals c s a o xs k below done e gv
all_deal c o i s t a xs (Phase.Lost u k) below done so h e w gv = absurd w
all_deal c o i s t a xs (Phase.Drop k) below done so h e w gv = absurd w
all_deal c o i s t a xs top below done so h e w gv = absurd (no_test e)
