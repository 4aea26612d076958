-- What an entry sets for writes a look-up has found for writes, or it is a migration's.
use Rattle.std.proofs.Common.{refl, ap, sym, subst, ◌∙◌}
use Rattle.std.proofs.lemmas.Bool.{true≢false, false≢true, and_right}
use Rattle.std.specs.Prelude.{◌≡◌, ℕ, Bool, true, false, ◌&&◌, Option, Some, ⊤, List, [], ◌∷◌}
use Rattle.std.specs.Prelude.{◌++◌}
use Rattle.hm_base.specs.Program.{Program}
use Rattle.hm_base.specs.declared.Frame.{Frame}
use Rattle.hm_base.specs.declared.Place.{Place}
use Rattle.hm_base.specs.declared.ops.Op.{Op}
use Rattle.hm_history.specs.Memory.Words.{page_of, writable}
use Rattle.hm_history.specs.Memory.After.{After}
use Rattle.hm_history.specs.Kernel.Operation.{op_piece, op_mirror}
use Rattle.hm_history.specs.Kernel.Due.{due_phase, repeats, right_of}
use Rattle.hm_history.specs.declared.TableRight.{TableRight}
use Rattle.hm_history.specs.declared.Kind.{Kind}
use Rattle.hm_history.specs.declared.phases.Migrating.{Migrating}
use Rattle.hm_history.specs.declared.phases.MoveStep.{MoveStep}
use Rattle.hm_history.specs.declared.phases.Phase.{Phase}
use Rattle.hm_history.specs.declared.phases.Next.TheVariants.{Do}
use Rattle.hm_laws.proofs.Due.Good.{either}
use Rattle.hm_protocol.specs.declared.events.Event.{Event}
use Rattle.hm_protocol.specs.Known.{Known, is_noted, is_look_up}
use Rattle.hm_protocol.specs.Tests.{entry_right}
use Rattle.hm_protocol.specs.Projection.{comes_to, entry_frame}
use Rattle.hm_protocol.proofs.Entries.{events_at, nothing_comes}
use Rattle.hm_protocol.proofs.Fits.{Fits, comes_ok}
use Rattle.hm_protocol.proofs.ComesFrom.{ComesFrom}
use Rattle.hm_protocol.proofs.Stands.{Stand, stand}
use Rattle.hm_protocol.proofs.RecordsKept.{Migrates}
use Rattle.hm_protocol.proofs.MigrationSets.{set_by_migration}
use Rattle.hm_protocol.proofs.FoundRights.{Right, noted_all}
use Rattle.hm_protocol.proofs.Steps.{Calm, by, by_thread, through, and_more}

-- ---- what is set

-- the entry sets a page for writes
abbrev pub is_write_set : Kind → Bool
is_write_set (Kind.Set m v f TableRight.Write from) = true
is_write_set j = false

pub harmless : (b : Bool) (j : Kind) (a : ℕ) → is_write_set j ≡ false → (k : Known) (x : Event) → Fits b j x → ⊤
    → (entry_right k (by a x) ≡ false) × ⊤
harmless b j a h k (Event.Set m v g TableRight.Write) fits n = absurd
    (true≢false (ap is_write_set (sym fits.1.1.1) ∙ h))
harmless b j a h k (Event.Set m v g TableRight.Read) fits n = (refl, tt)
harmless b j a h k (Event.Set m v g TableRight.Sole) fits n = (refl, tt)
harmless b j a h k x fits n = (refl, tt)

-- a noted place is set with its right
note_set : (c : Program) (s : After) (a : ℕ) (o : Op) (xs : List Migrating) (n since q m v from : ℕ) (x : Place)
    (f : Option Frame)
    → due_phase c s a o xs (Phase.Noted n since q x) ≡ Do (Kind.Set m v f TableRight.Write from)
    → (op_mirror o ≡ m) × (page_of (op_piece o n).0 ≡ v) × (writable x ≡ true)
note_set c s a o xs n since q m v from x f d =
    either (λ y. y ≡ Do (Kind.Set m v f TableRight.Write from) → (op_mirror o ≡ m) × (page_of (op_piece o n).0 ≡ v)
    × (writable x ≡ true))
    (repeats s (op_mirror o) q) _ _ (λ e h. absurd (no_retry h))
    (λ e h. (same_mirror h, same_page h, for_writes (writable x) (same_right h))) d
  where
    no_retry : Do (Kind.Retry (op_mirror o)) ≡ Do (Kind.Set m v f TableRight.Write from) → ⊥
    no_retry h = cc

    same_mirror : {i u z : ℕ} {g : Option Frame} {w : TableRight}
        → Do (Kind.Set i u g w z) ≡ Do (Kind.Set m v f TableRight.Write from) → i ≡ m
    same_mirror h = cc

    same_page : {i u z : ℕ} {g : Option Frame} {w : TableRight}
        → Do (Kind.Set i u g w z) ≡ Do (Kind.Set m v f TableRight.Write from) → u ≡ v
    same_page h = cc

    same_right : {i u z : ℕ} {g : Option Frame} {w : TableRight}
        → Do (Kind.Set i u g w z) ≡ Do (Kind.Set m v f TableRight.Write from)
        → w ≡ TableRight.Write
    same_right h = cc

    for_writes : (b : Bool) → right_of b ≡ TableRight.Write → b ≡ true
    for_writes true h = refl
    for_writes false h = cc

-- one event after those that break no rule
then_set : (k : Known) (s : After) (a : ℕ) (o : Op) (xs : List Migrating) (top : Phase) (j : Kind) (x : Event)
    → entry_right (noted_all k a (comes_to s o xs top j)) (by a x) ≡ false
    → Calm entry_right k (by_thread a (comes_to s o xs top j ++ x ∷ []))
then_set k s a o xs top j x h = (and_more entry_right (λ l. l ≡ noted_all k a (comes_to s o xs top j)) (λ l. ⊤) k a
    (comes_to s o xs top j) (x ∷ []) (
      (through entry_right (λ l. ⊤) false (Kind.Evicted 0) a (harmless false (Kind.Evicted 0) a refl)
          (comes_to s o xs top j) (comes_ok false (Kind.Evicted 0) s o xs top j) k tt).0,
      refl,
    )
    (λ l e. ((ap (λ l. entry_right l (by a x)) e ∙ h, tt), tt))).0

-- ---- an entry

pub calm : (c : Program) (k : Known) (s u : After) (a i : ℕ) (o : Op) (xs : List Migrating) (top : Phase)
    (below : List Phase) (after : Phase) (j : Kind) → due_phase c s a o xs top ≡ Do j → ComesFrom s o xs top j
    → ((step : MoveStep) → stand (top ∷ below) ≡ Stand.Moves step → Migrates o step (k.moves a) xs)
    → Right (k.looks a) (Some o) (record { index = i; stack = top ∷ below; pages = xs })
    → is_write_set j ≡ true → Calm entry_right k (by_thread a (events_at s u a o xs (top ∷ below) after j))
calm c k s u a i o xs (Phase.Noted n since q x) below after (Kind.Set m v f TableRight.Write from) d comes moves h e =
    let z : (op_mirror o ≡ m) × (page_of (op_piece o n).0 ≡ v)
    × (writable x ≡ true) = note_set c s a o xs n since q m v from x f d in
    subst (λ es. Calm entry_right k (by_thread a (es ++ Event.Set m v (entry_frame f) TableRight.Write ∷ [])))
    (sym (nothing_comes s o xs (Phase.Noted n since q x) (Kind.Set m v f TableRight.Write from) refl)) (
      ap (λ b. is_look_up k a v TableRight.Write && b) (ap (λ v. is_noted v false (k.looks a m).found) (sym z.1)
          ∙ (ap (λ m. is_noted (page_of (op_piece o n).0) false (k.looks a m).found) (sym z.0)
          ∙ (h.noted q n x refl).1 z.2))
          ∙ and_right (is_look_up k a v TableRight.Write) false refl,
      tt,
    )
calm c k s u a i o xs (Phase.Moves step n) below after (Kind.Set m v f TableRight.Write from) d comes moves h e =
    then_set k s a o xs (Phase.Moves step n) (Kind.Set m v f TableRight.Write from)
    (Event.Set m v (entry_frame f) TableRight.Write)
    (ap (λ b. b && is_noted v false
    ((noted_all k a (comes_to s o xs (Phase.Moves step n) (Kind.Set m v f TableRight.Write from))).looks a m).found)
    (set_by_migration s o xs step n m v from f TableRight.Write k a (moves step refl) comes))
calm c k s u a i o xs (Phase.Decide touch) below after (Kind.Set m v f TableRight.Write from) d comes moves h e =
    absurd (false≢true comes)
calm c k s u a i o xs top below after (Kind.Set m v f TableRight.Write from) d comes moves h e = absurd comes
calm c k s u a i o xs top below after j d comes moves h e = absurd (false≢true e)
