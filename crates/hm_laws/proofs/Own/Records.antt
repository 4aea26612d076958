-- What an actor knows of its migration's records stays so after its own entries about other frames.
use Rattle.std.proofs.Common.{◌≡◌, ℕ, Bool, true, false, ◌||◌, ◌⊎◌, inl, inr, refl, Option, Some, None, List, [], ◌∷◌, ◌++◌, arith}
use Rattle.std.specs.List.{list_any}
use Rattle.hm_base.specs.Program.{Program}
use Rattle.hm_base.specs.declared.Frame.{Frame}
use Rattle.hm_base.specs.declared.ops.Op.{Op}
use Rattle.hm_history.specs.Memory.Words.{same_frame}
use Rattle.hm_history.specs.Memory.After.{After}
use Rattle.hm_history.specs.declared.Kind.{Kind}
use Rattle.hm_history.specs.declared.phases.Migrating.{Migrating}
use Rattle.hm_history.specs.declared.phases.MoveStep.{MoveStep}
use Rattle.hm_history.specs.declared.phases.MoveStep.TheVariants.{FreezeOthers, Commit, Finish}
use Rattle.hm_laws.specs.Past.{Past, past_next}
use Rattle.hm_laws.specs.Sound.{Sound}
use Rattle.hm_laws.specs.Allowed.{next, Allowed}
use Rattle.hm_laws.specs.Spares.{Apart}
use Rattle.hm_laws.specs.Records.{is_past}
use Rattle.hm_laws.specs.Facts.{Fact, fact_frames, known_of, record_facts, records, frames_of, held, migrating, HoldsAll}
use Rattle.hm_laws.proofs.Own.Facts.{any_joined, SparedAll, Keeping, own_all}
use Rattle.hm_history.proofs.Frames.{frame_tells}

-- the entry is about none of the frames of a list
abbrev pub ApartAll : After → Kind → List Frame → Type 0
ApartAll s k l = (f : Frame) → list_any (same_frame f) l ≡ true → Apart s k f

first_in : (f : Frame) (l : List Frame) → list_any (same_frame f) (f ∷ l) ≡ true
first_in f l = grind (arith, frame_tells f f)

later_in : (f g : Frame) (l : List Frame) → list_any (same_frame f) l ≡ true → list_any (same_frame f) (g ∷ l) ≡ true
later_in f g l h = grind arith

spared_known : (s : After) (k : Kind) (o : Op) (v : ℕ) (source dest : Option Frame) (moved past_freezing past_commit past_finish : Bool) (hand : Option (Frame × ℕ)) → ApartAll s k (frames_of (known_of o v source dest moved past_freezing past_commit past_finish hand)) → SparedAll s k (known_of o v source dest moved past_freezing past_commit past_finish hand)
spared_known s k o v None None moved past_freezing past_commit past_finish hand h = (tt, tt)
spared_known s k o v None (Some g) false past_freezing true past_finish hand h = tt
spared_known s k o v None (Some g) false past_freezing false past_finish hand h = (h g (first_in g []), (tt, (tt, tt)))
spared_known s k o v None (Some g) true past_freezing past_commit true hand h = tt
spared_known s k o v None (Some g) true past_freezing past_commit false hand h = (h g (first_in g []), (h g (first_in g []), (tt, tt)))
spared_known s k o v (Some f) None moved past_freezing past_commit true hand h = tt
spared_known s k o v (Some f) None moved true past_commit false hand h = (h f (first_in f []), (h f (first_in f []), tt))
spared_known s k o v (Some f) None moved false past_commit false hand h = (h f (first_in f []), (h f (first_in f []), tt))
spared_known s k o v (Some f) (Some g) false past_freezing past_commit true hand h = tt
spared_known s k o v (Some f) (Some g) false past_freezing past_commit false hand h = ((h f (first_in f (g ∷ [])), h g (later_in g f (g ∷ []) (first_in g []))), (h f (first_in f (g ∷ [])), (tt, tt)))
spared_known s k o v (Some f) (Some g) true past_freezing past_commit true hand h = tt
spared_known s k o v (Some f) (Some g) true past_freezing past_commit false hand h = ((h f (first_in f (g ∷ [])), h g (later_in g f (g ∷ []) (first_in g []))), (h f (first_in f (g ∷ [])), (tt, tt)))

pub spared_record : (s : After) (k : Kind) (o : Op) (step : MoveStep) (v : ℕ) (hand : Option (Frame × ℕ)) (y : Migrating) → ApartAll s k (frames_of (record_facts o step v hand y)) → SparedAll s k (record_facts o step v hand y)
spared_record s k o step v hand y h = (tt, (tt, spared_known s k o y.page y.source y.dest y.moved (is_past step v FreezeOthers y.page) (is_past step v Commit y.page) (is_past step v Finish y.page) hand h))

-- of lists of facts
spared_both : (s : After) (k : Kind) (l m : List Fact) → SparedAll s k l → SparedAll s k m → SparedAll s k (l ++ m)
spared_both s k [] m g h = h
spared_both s k (x ∷ l) m g h = (g.0, spared_both s k l m g.1 h)

in_left : (f : Frame) (l m : List Frame) → list_any (same_frame f) l ≡ true → list_any (same_frame f) (l ++ m) ≡ true
in_left f [] m h = cc
in_left f (g ∷ l) m h = by (in_left f l m) (same_frame f g) h
  where
    by : (list_any (same_frame f) l ≡ true → list_any (same_frame f) (l ++ m) ≡ true) → (b : Bool) → (b || list_any (same_frame f) l) ≡ true → (b || list_any (same_frame f) (l ++ m)) ≡ true
    by rest true k = refl
    by rest false k = rest k

in_right : (f : Frame) (l m : List Frame) → list_any (same_frame f) m ≡ true → list_any (same_frame f) (l ++ m) ≡ true
in_right f [] m h = h
in_right f (g ∷ l) m h = by (in_right f l m h) (same_frame f g)
  where
    by : list_any (same_frame f) (l ++ m) ≡ true → (b : Bool) → (b || list_any (same_frame f) (l ++ m)) ≡ true
    by rest true = refl
    by rest false = rest

frames_left : (f : Frame) (l m : List Fact) → list_any (same_frame f) (frames_of l) ≡ true → list_any (same_frame f) (frames_of (l ++ m)) ≡ true
frames_left f [] m h = cc
frames_left f (x ∷ l) m h = by (frames_left f l m) (any_joined f (fact_frames x) (frames_of l) h)
  where
    by : (list_any (same_frame f) (frames_of l) ≡ true → list_any (same_frame f) (frames_of (l ++ m)) ≡ true) → (list_any (same_frame f) (fact_frames x) ≡ true) ⊎ (list_any (same_frame f) (frames_of l) ≡ true) → list_any (same_frame f) (fact_frames x ++ frames_of (l ++ m)) ≡ true
    by rest (inl k) = in_left f (fact_frames x) (frames_of (l ++ m)) k
    by rest (inr k) = in_right f (fact_frames x) (frames_of (l ++ m)) (rest k)

frames_right : (f : Frame) (l m : List Fact) → list_any (same_frame f) (frames_of m) ≡ true → list_any (same_frame f) (frames_of (l ++ m)) ≡ true
frames_right f [] m h = h
frames_right f (x ∷ l) m h = in_right f (fact_frames x) (frames_of (l ++ m)) (frames_right f l m h)

spared_records : (s : After) (k : Kind) (o : Op) (step : MoveStep) (v : ℕ) (hand : Option (Frame × ℕ)) (xs : List Migrating) → ApartAll s k (frames_of (records o step v hand xs)) → SparedAll s k (records o step v hand xs)
spared_records s k o step v hand [] h = tt
spared_records s k o step v hand (x ∷ xs) h = spared_both s k (record_facts o step v hand x) (records o step v hand xs)
    (spared_record s k o step v hand x (λ f m. h f (frames_left f (record_facts o step v hand x) (records o step v hand xs) m)))
    (spared_records s k o step v hand xs (λ f m. h f (frames_right f (record_facts o step v hand x) (records o step v hand xs) m)))

pub migrating_on : (c : Program) (s : After) (t : Past) (a : ℕ) (k : Kind) → Sound c s t → Allowed c s t a k → Keeping s a k → (o : Op) (xs : List Migrating) (step : MoveStep) (v : ℕ) (hand : Option (Frame × ℕ)) → ApartAll s k (held o xs step v hand) → HoldsAll s t a (migrating o xs step v hand) → HoldsAll (next s a k) (past_next t s.length a k) a (migrating o xs step v hand)
migrating_on c s t a k so ok st o xs step v hand apart h = own_all c s t a k so ok st (migrating o xs step v hand) (tt, (tt, (tt, spared_records s k o step v hand xs apart))) h

-- one record that has none of the frames that the entry is about
pub record_on : (c : Program) (s : After) (t : Past) (a : ℕ) (k : Kind) → Sound c s t → Allowed c s t a k → Keeping s a k → (o : Op) (step : MoveStep) (v : ℕ) (hand : Option (Frame × ℕ)) (y : Migrating) → ApartAll s k (frames_of (record_facts o step v hand y)) → HoldsAll s t a (record_facts o step v hand y) → HoldsAll (next s a k) (past_next t s.length a k) a (record_facts o step v hand y)
record_on c s t a k so ok st o step v hand y apart h = own_all c s t a k so ok st (record_facts o step v hand y) (spared_record s k o step v hand y apart) h
