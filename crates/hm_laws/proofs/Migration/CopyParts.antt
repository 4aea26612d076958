-- Where a migration takes frames and copies: a page is copied, an eighth with each entry.
use Rattle.std.proofs.Common.{◌≡◌, ℕ, ◌+◌, ◌<◌, ◌⊎◌, inl, inr, Bool, true, false, nat_lt, nat_le, if◌then◌else◌, Option, Some, None, List, [], ◌∷◌, refl, sym, ap, ◌∙◌, subst, arith}
use Rattle.std.proofs.lemmas.Bool.Decides.{nat_tests}
use Rattle.std.proofs.lemmas.Bool.{cases_eq, or_right}
use Rattle.hm_base.specs.Program.{Program}
use Rattle.hm_base.specs.declared.Frame.{Frame}
use Rattle.hm_base.specs.declared.ops.Op.{Op}
use Rattle.hm_history.specs.Memory.Words.{is_frame}
use Rattle.hm_history.specs.Memory.After.{After}
use Rattle.hm_history.specs.Kernel.Operation.{op_mirror}
use Rattle.hm_history.specs.declared.Who.{Who}
use Rattle.hm_history.specs.declared.Kind.{Kind}
use Rattle.hm_history.specs.declared.phases.Migrating.{Migrating}
use Rattle.hm_history.specs.declared.phases.MoveStep.{MoveStep}
use Rattle.hm_history.specs.declared.phases.MoveStep.TheVariants.{TakeAndCopy}
use Rattle.hm_history.specs.declared.phases.Phase.{Phase}
use Rattle.hm_history.specs.declared.phases.Next.TheVariants.{Do}
use Rattle.hm_laws.specs.Past.{Past}
use Rattle.hm_laws.specs.Sound.{Sound}
use Rattle.hm_laws.specs.Allowed.{next, Allowed}
use Rattle.hm_laws.specs.Records.{Among, is_of, parts_of, has_pair}
use Rattle.hm_laws.specs.Facts.{Fact, Is, No_guard, Locks_only, Copying, Frozen_at, Lands_on, Holds, held, record_facts, records, migrating, facts, HoldsAll}
use Rattle.hm_laws.proofs.Own.Records.{record_on}
use Rattle.hm_laws.proofs.Due.Good.{Good}
use Rattle.hm_laws.proofs.Due.Empties.{copying_on}
use Rattle.hm_laws.proofs.Migration.Records.{records_each, records_all, frames_are, hand_same, hands_same, one_of_page, pair_found, step_says}
use Rattle.hm_laws.proofs.Migration.TakingFacts.{same_held, known_pair, parts_here}
use Rattle.hm_history.proofs.Frames.{is_frame_of}

-- the record of the page that is copied
record Pair (xs : List Migrating) (f g : Frame) (y : Migrating) : Type 0 where
  pub among : Among xs y
  pub source : y.source ≡ Some f
  pub dest : y.dest ≡ Some g
  pub still : y.moved ≡ false

pair_facts : (s : After) (t : Past) (a : ℕ) (o : Op) (xs : List Migrating) (v : ℕ) (f g : Frame) (k : ℕ) (y : Migrating) → Pair xs f g y → HoldsAll s t a (records o TakeAndCopy v (Some (g, k)) xs) → HoldsAll s t a (Copying f g k ∷ Frozen_at (Who.Mirror (op_mirror o)) y.page f ∷ Lands_on o g ∷ [])
pair_facts s t a o xs v f g k y i h = subst (HoldsAll s t a) (known_pair o y.page y.source y.dest y.moved f g (Some (g, k)) k i.source i.dest i.still (parts_here g k)) (records_each s t a o TakeAndCopy v (Some (g, k)) xs h y i.among).1.1

copied_pair : (s : After) (t : Past) (a : ℕ) (o : Op) (xs : List Migrating) (v : ℕ) (f g : Frame) (k : ℕ) (hand : Option (Frame × ℕ)) (y : Migrating) → Pair xs f g y → parts_of hand g ≡ k + 1 → HoldsAll s t a (records o TakeAndCopy v (Some (g, k)) xs) → HoldsAll (next s a (Kind.Copied f g (Some k))) t a (record_facts o TakeAndCopy v hand y)
copied_pair s t a o xs v f g k hand y i p h = (was.0, (was.1.0, subst (HoldsAll (next s a (Kind.Copied f g (Some k))) t a) (sym (known_pair o y.page y.source y.dest y.moved f g hand (k + 1) i.source i.dest i.still p)) (copying_on s t a f g k known.0, (known.1.0, (known.1.1.0, tt)))))
  where
    was : HoldsAll s t a (record_facts o TakeAndCopy v (Some (g, k)) y)
    was = records_each s t a o TakeAndCopy v (Some (g, k)) xs h y i.among

    known : HoldsAll s t a (Copying f g k ∷ Frozen_at (Who.Mirror (op_mirror o)) y.page f ∷ Lands_on o g ∷ [])
    known = pair_facts s t a o xs v f g k y i h

not_dest : (y : Migrating) (g : Frame) → (is_of y g ≡ true → ⊥) → is_frame y.dest g ≡ false
not_dest y g off = by (is_frame y.dest g) refl
  where
    by : (b : Bool) → is_frame y.dest g ≡ b → b ≡ false
    by true e = absurd (off (or_right (is_frame y.source g) (is_frame y.dest g) e))
    by false e = refl

-- how many parts are copied changes for that record alone
abbrev Follows : Op → ℕ → Frame → ℕ → Option (Frame × ℕ) → Type 0
Follows o v g k hand = (parts_of hand g ≡ k + 1) × ((y : Migrating) → is_frame y.dest g ≡ false → record_facts o TakeAndCopy v (Some (g, k)) y ≡ record_facts o TakeAndCopy v hand y)

copied_records : (c : Program) (s : After) (t : Past) (a : ℕ) (o : Op) (xs : List Migrating) (v : ℕ) (f g : Frame) (k : ℕ) (hand : Option (Frame × ℕ)) (y : Migrating) → Sound c s t → Allowed c s t a (Kind.Copied f g (Some k)) → Pair xs f g y → Follows o v g k hand → HoldsAll s t a (migrating o xs TakeAndCopy v (Some (g, k))) → HoldsAll (next s a (Kind.Copied f g (Some k))) t a (migrating o xs TakeAndCopy v hand)
copied_records c s t a o xs v f g k hand y so ok i p h = (h.0, (h.1.0, (h.1.1.0, records_all (next s a (Kind.Copied f g (Some k))) t a o TakeAndCopy v hand xs (λ z j. each z j (cases_eq z.page y.page)))))
  where
    each : (z : Migrating) → Among xs z → (z.page ≡ y.page) ⊎ (z.page ≡ y.page → ⊥) → HoldsAll (next s a (Kind.Copied f g (Some k))) t a (record_facts o TakeAndCopy v hand z)
    each z j (inl e) = subst (λ w. HoldsAll (next s a (Kind.Copied f g (Some k))) t a (record_facts o TakeAndCopy v hand w)) (one_of_page xs y z h.1.0 i.among j (sym e)) (copied_pair s t a o xs v f g k hand y i p.0 h.1.1.1)
    each z j (inr ne) = subst (HoldsAll (next s a (Kind.Copied f g (Some k))) t a) (p.1 z (not_dest z g off)) (record_on c s t a (Kind.Copied f g (Some k)) so ok (record { map = refl; there = λ q. refl; areas = λ q. refl }) o TakeAndCopy v (Some (g, k)) z (λ w m n. off (sym (ap (is_of z) n) ∙ frames_are o TakeAndCopy v (Some (g, k)) z w m)) (records_each s t a o TakeAndCopy v (Some (g, k)) xs h.1.1.1 z j))
      where
        off : is_of z g ≡ true → ⊥
        off m = ne (ap (λ (w : Migrating). w.page) (h.1.0.apart z y g j i.among m (or_right (is_frame y.source g) (is_frame y.dest g) (is_frame_of y.dest g i.dest))))

abbrev copying_facts : Op → List Migrating → Frame → Frame → ℕ → ℕ → List Fact
copying_facts o xs f g k v = No_guard ∷ Locks_only (held o xs TakeAndCopy v (Some (g, k))) ∷ Is true ∷ Is (nat_le k 7) ∷ Is (has_pair f g xs) ∷ migrating o xs TakeAndCopy v (Some (g, k))

copy_part : (c : Program) (s : After) (t : Past) (a : ℕ) (o : Op) (xs : List Migrating) (f g : Frame) (k v : ℕ) (y : Migrating) → Sound c s t → Pair xs f g y → HoldsAll s t a (copying_facts o xs f g k v) → Good c s t a o xs (Phase.Copy f g k) (Phase.Moves TakeAndCopy v ∷ []) (Do (Kind.Copied f g (Some k)))
copy_part c s t a o xs f g k v y so i h = (known.1.0, (so.frames.locked_held f a known.0.0.mine, known.3, few h.1.1.1.0), by (nat_lt k 7) refl)
  where
    known : Holds s t a (Copying f g k)
    known = (pair_facts s t a o xs v f g k y i h.1.1.1.1.1.1.1.1).0

    few : nat_le k 7 ≡ true → k < 8
    few e = grind (arith, nat_tests)

    more : nat_lt k 7 ≡ true → nat_le (k + 1) 7 ≡ true
    more e = grind (arith, nat_tests)

    last : nat_lt k 7 ≡ false → nat_le k 7 ≡ true → 8 ≡ k + 1
    last e l = grind (arith, nat_tests)

    by : (b : Bool) → nat_lt k 7 ≡ b → HoldsAll (next s a (Kind.Copied f g (Some k))) t a (facts o xs (if b then Phase.Copy f g (k + 1) ∷ Phase.Moves TakeAndCopy v ∷ [] else (Phase.Moves TakeAndCopy v ∷ [])))
    by true e = (h.0, (same_held s t a o v v (Some (g, k)) (Some (g, k + 1)) xs h.1.0, (refl, (more e, (h.1.1.1.1.0, copied_records c s t a o xs v f g k (Some (g, k + 1)) y so known.1.0 i (parts_here g (k + 1), λ z n. hands_same o TakeAndCopy v g k (k + 1) z n) h.1.1.1.1.1)))))
    by false e = (h.0, (same_held s t a o v v (Some (g, k)) None xs h.1.0, copied_records c s t a o xs v f g k None y so known.1.0 i (last e h.1.1.1.0, λ z n. hand_same o TakeAndCopy v g k z n) h.1.1.1.1.1))

pub copy_moves_ok : (c : Program) (s : After) (t : Past) (a : ℕ) (o : Op) (xs : List Migrating) (f g : Frame) (k : ℕ) (step : MoveStep) (v : ℕ) → Sound c s t → HoldsAll s t a (facts o xs (Phase.Copy f g k ∷ Phase.Moves step v ∷ [])) → Good c s t a o xs (Phase.Copy f g k) (Phase.Moves step v ∷ []) (Do (Kind.Copied f g (Some k)))
copy_moves_ok c s t a o xs f g k step v so h = subst (λ n. HoldsAll s t a (facts o xs (Phase.Copy f g k ∷ Phase.Moves n v ∷ [])) → Good c s t a o xs (Phase.Copy f g k) (Phase.Moves n v ∷ []) (Do (Kind.Copied f g (Some k)))) (sym (step_says step TakeAndCopy h.1.1.0)) (λ h. by h (pair_found f g xs h.1.1.1.1.0)) h
  where
    by : HoldsAll s t a (copying_facts o xs f g k v) → (y : Migrating) × Among xs y × (y.source ≡ Some f) × (y.dest ≡ Some g) × (y.moved ≡ false) → Good c s t a o xs (Phase.Copy f g k) (Phase.Moves TakeAndCopy v ∷ []) (Do (Kind.Copied f g (Some k)))
    by h y = copy_part c s t a o xs f g k v y.0 so (record { among = y.1; source = y.2; dest = y.3; still = y.4 }) h
