-- A frame that was taken for an untouched page is dropped where that was touched meanwhile (`migrate_vma_insert_page`,
-- mm/migrate_device.c).
use Rattle.std.proofs.Common.{◌≡◌, ℕ, true, not, None, List, [], ◌∷◌, refl, ap, subst}
use Rattle.std.specs.List.{list_any}
use Rattle.std.proofs.lemmas.Bool.{and_parts, and_from, not-true}
use Rattle.hm_base.specs.Program.{Program}
use Rattle.hm_base.specs.declared.Frame.{Frame}
use Rattle.hm_base.specs.declared.ops.Op.{Op}
use Rattle.hm_history.specs.Memory.Words.{same_frame}
use Rattle.hm_history.specs.Memory.Plain.{mirror_proc}
use Rattle.hm_history.specs.Memory.After.{After}
use Rattle.hm_history.specs.Kernel.Operation.{op_mirror}
use Rattle.hm_history.specs.Kernel.Legal.{was_fresh}
use Rattle.hm_history.specs.Kernel.Due.{has_no_frame}
use Rattle.hm_history.specs.declared.KeptAt.{KeptAt}
use Rattle.hm_history.specs.declared.KeptWhy.{KeptWhy}
use Rattle.hm_history.specs.declared.Kind.{Kind}
use Rattle.hm_history.specs.declared.phases.Migrating.{Migrating}
use Rattle.hm_history.specs.declared.phases.MoveStep.{MoveStep}
use Rattle.hm_history.specs.declared.phases.Phase.{Phase}
use Rattle.hm_history.specs.declared.phases.Next.TheVariants.{Do}
use Rattle.hm_laws.specs.Past.{Past}
use Rattle.hm_laws.specs.Sound.{Sound}
use Rattle.hm_laws.specs.Records.{apart_from}
use Rattle.hm_laws.specs.Facts.{held, facts, HoldsAll}
use Rattle.hm_laws.proofs.Due.Good.{Good}
use Rattle.hm_laws.proofs.Due.Returns.{freed_locks}
use Rattle.hm_laws.proofs.Own.Records.{migrating_on}
use Rattle.hm_history.proofs.Tests.{true_false}

-- the page is kept back as one that was lost
pub lost_moves_ok : (c : Program) (s : After) (t : Past) (a : ℕ) (o : Op) (xs : List Migrating) (u : ℕ) (g : Frame) (step : MoveStep) (v : ℕ) → Sound c s t → HoldsAll s t a (facts o xs (Phase.Lost u g ∷ Phase.Moves step v ∷ [])) → Good c s t a o xs (Phase.Lost u g) (Phase.Moves step v ∷ []) (Do (Kind.Kept (KeptAt.Page u) KeptWhy.Lost))
lost_moves_ok c s t a o xs u g step v so h = (
  tt,
  and_from (was_fresh u xs) (not (has_no_frame (s.places.place (mirror_proc s.plain (op_mirror o)) u))) h.1.1.1.0 (ap not h.1.1.1.1.0.2),
  (h.0, (h.1.0, (h.1.1.0, ((h.1.1.1.1.1.0.0, h.1.1.1.1.1.0.1), migrating_on c s t a (Kind.Kept (KeptAt.Page u) KeptWhy.Lost) so tt (record { map = refl; there = λ p. refl; areas = λ p. refl }) o xs step v None (λ f m. tt) h.1.1.1.1.1.1)))),
)

-- and the frame dropped, which is none of those that the migration has locked
none_of : (f g : Frame) (l : List Frame) → apart_from (g ∷ []) l ≡ true → list_any (same_frame f) l ≡ true → f ≡ g → ⊥
none_of f g l h m e = true_false (list_any (same_frame g) l) (subst (λ i. list_any (same_frame i) l ≡ true) e m) (not-true (list_any (same_frame g) l) (and_parts (not (list_any (same_frame g) l)) true h).0)

pub drop_moves_ok : (c : Program) (s : After) (t : Past) (a : ℕ) (o : Op) (xs : List Migrating) (g : Frame) (step : MoveStep) (v : ℕ) → Sound c s t → HoldsAll s t a (facts o xs (Phase.Drop g ∷ Phase.Moves step v ∷ [])) → Good c s t a o xs (Phase.Drop g) (Phase.Moves step v ∷ []) (Do (Kind.Drop g))
drop_moves_ok c s t a o xs g step v so h = (
  h.1.1.1.0.0,
  tt,
  (
    h.0,
    (
      freed_locks s a g (held o xs step v None) h.1.0,
      migrating_on c s t a (Kind.Drop g) so h.1.1.1.0.0 (record { map = refl; there = λ p. refl; areas = λ p. refl }) o xs step v None (λ f m. none_of f g (held o xs step v None) h.1.1.0 m) h.1.1.1.1,
    ),
  ),
)
