-- A migration that meets nobody: at each entry what is left falls, nothing is kept for another's sake, each page that was
-- selected is moved or left for one of two reasons, and one that is moved is there at the end.
use Rattle.std.proofs.Common.{◌≡◌, ℕ, Bool, true, ◌&&◌, List, [], ◌∷◌, ◌++◌, ap, ◌∙◌}
use Rattle.std.specs.List.{list_all}
use Rattle.std.proofs.lemmas.List.Folds.{list_all-append}
use Rattle.hm_base.specs.Program.{Program}
use Rattle.hm_base.specs.declared.ops.Op.{Op}
use Rattle.hm_history.specs.Memory.After.{After}
use Rattle.hm_history.specs.Kernel.Operation.{is_migration}
use Rattle.hm_history.specs.Kernel.Stacks.{stack_after}
use Rattle.hm_history.specs.Kernel.Going.{seen_at, recorded}
use Rattle.hm_history.specs.Kernel.Due.{due_phase}
use Rattle.hm_history.specs.declared.Entry.{Entry}
use Rattle.hm_history.specs.declared.Kind.{Kind}
use Rattle.hm_history.specs.declared.phases.Migrating.{Migrating}
use Rattle.hm_history.specs.declared.phases.Phase.{Phase}
use Rattle.hm_history.specs.declared.phases.Next.{Next}
use Rattle.hm_history.specs.declared.phases.Next.TheVariants.{Do, Wait}
use Rattle.hm_laws.specs.Allowed.{next}
use Rattle.hm_quiet_laws.specs.Keeping.{keeps_well}
use Rattle.hm_quiet_laws.proofs.keeping.FreshPages.{StaysFresh}
use Rattle.hm_quiet_laws.proofs.alone.Ends.{StepsTo}
use Rattle.hm_quiet_laws.proofs.alone.EndsWell.{Onward, StepsWell, EachWell}
use Rattle.hm_quiet_laws.proofs.migrations.StepsFall.{OnMoves}
use Rattle.hm_quiet_laws.proofs.migrations.OperationsFall.{moves_falls}
use Rattle.hm_quiet_laws.proofs.keeping.FreshStays.{Keeps}
use Rattle.hm_quiet_laws.proofs.keeping.MigrationsKeepWell.{all_keep}
use Rattle.hm_quiet_laws.proofs.keeping.MovesDeal.{Deals, DealsOn, Answered}
use Rattle.hm_quiet_laws.proofs.keeping.MigrationsDeal.{DealsNext, all_deal}
use Rattle.hm_quiet_laws.proofs.keeping.PagesArrive.{Arrives, ArrivesOn, ArrivesNext, AllThere, all_arrive}

abbrev pub all_well : List Entry → Bool
all_well es = list_all (λ e. keeps_well e.kind) es

abbrev pub StaysWell : Program → Op → After → List Migrating → List Phase → List Entry → Type 0
StaysWell c o s xs st done = OnMoves st × StaysFresh s o xs st × Deals c o s xs st done × (all_well done ≡ true) × Arrives o s xs st done

abbrev pub LastWell : Program → Op → After → List Migrating → List Entry → Kind → Type 0
LastWell c o s xs done k = Answered c o xs done k × (all_well done ≡ true) × (keeps_well k ≡ true) × AllThere o s xs done k

pub well_more : (done : List Entry) (a : ℕ) (k : Kind) → all_well done ≡ true → keeps_well k ≡ true → all_well (done ++ record { actor = a; kind = k } ∷ []) ≡ true
well_more done a k h w = list_all-append (λ e. keeps_well e.kind) done (record { actor = a; kind = k } ∷ []) ∙ (ap (λ b. b && (keeps_well k && true)) h ∙ ap (λ b. b && true) w)

joined : (c : Program) (s : After) (a : ℕ) (o : Op) (xs : List Migrating) (top : Phase) (below : List Phase) (done : List Entry) (n : Next) → all_well done ≡ true → StepsTo c s a o xs top below OnMoves n → Keeps c s a o xs top below n → DealsNext c s a o xs top below done n → ArrivesNext c s a o xs top below done n → StepsWell c s a o xs top below done (StaysWell c o) (LastWell c o) n
joined c s a o xs top below done (Do k) wl h w d r = (h.0, on (stack_after o (top ∷ below) k (seen_at s o xs top k)) h.1 w.0 d r)
  where
    ys : List Migrating
    ys = recorded top (seen_at s o xs top k).page xs k

    on : (st : List Phase) → OnMoves st → StaysFresh (next s a k) o ys st → DealsOn c o s a xs done k ys st → ArrivesOn o s a xs done k ys st → Onward (StaysWell c o) (LastWell c o) s a xs done k ys st
    on [] m v g r = (g, wl, w.1, r)
    on (x ∷ l) m v g r = (m, v, g, well_more done a k wl w.1, r)
joined c s a o xs top below done (Wait y) wl h w d r = tt

pub migrations_end : (c : Program) (o : Op) → is_migration o ≡ true → EachWell c o (StaysWell c o) (LastWell c o)
migrations_end c o i s t a xs top below done so f al h st g =
    joined c s a o xs top below done (due_phase c s a o xs top) st.3 (moves_falls c o i s t a xs top below so f al h st.0 g) (all_keep c o i s t a xs top below so al h st.0 st.1 g) (all_deal c o i s t a xs top below done so h st.0 st.1 st.2) (all_arrive c o i s t a xs top below done so h st.0 st.1 st.4)
