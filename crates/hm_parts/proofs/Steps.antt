-- What is kept goes on by an entry that is allowed, or that leaves it as it is.
use Rattle.std.proofs.Common.{◌≡◌, ℕ, Bool, true, false, ◌||◌, Option, refl, sym, ap, ◌∙◌, subst}
use Rattle.std.specs.Prelude.{Result, Ok, Err, IfOk, OnOk, OnErr, is_ok}
use Rattle.std.proofs.Math.Path.{fun_ext}
use Rattle.std.proofs.lemmas.Bool.{and_parts}
use Rattle.hm_base.specs.Program.{Program}
use Rattle.hm_history.specs.Memory.Places.{Places, places_next}
use Rattle.hm_history.specs.Memory.Plain.{Plain, mirror_owner, plain_next}
use Rattle.hm_history.specs.Memory.Sequences.{Sequences, sequences_next}
use Rattle.hm_history.specs.declared.FoldError.{FoldError}
use Rattle.hm_history.specs.declared.Kind.{Kind}
use Rattle.hm_folds.specs.MirrorTables.{OwnersFollow, owner_next}
use Rattle.hm_folds.specs.Places.{ForShown, PlacesShown}
use Rattle.hm_folds.specs.declared.places.PlaceState.{PlaceState}
use Rattle.hm_parts.specs.Rules.{leads_on, leaves_places, leaves_plain, leaves_sequences}

-- ---- what is left as it is

plain_left : (s : Plain) (k : Kind) → leaves_plain k ≡ true → plain_next s k ≡ s
plain_left s (Kind.Loaded x at bs) h = refl
plain_left s (Kind.Failed x at n why) h = refl
plain_left s (Kind.Fetched m at bs) h = refl
plain_left s k h = absurd cc

places_left : (s : Places) (k : Kind) → leaves_places k ≡ true → places_next s k ≡ s
places_left s (Kind.Loaded x at bs) h = refl
places_left s (Kind.Stored x at bs) h = refl
places_left s (Kind.Fetched m at bs) h = refl
places_left s (Kind.Added m at was now) h = refl
places_left s k h = absurd cc

owners_left : (f : ℕ → Option ℕ) (k : Kind) → leaves_places k ≡ true → owner_next f k ≡ f
owners_left f (Kind.Loaded x at bs) h = refl
owners_left f (Kind.Stored x at bs) h = refl
owners_left f (Kind.Fetched m at bs) h = refl
owners_left f (Kind.Added m at was now) h = refl
owners_left f k h = absurd cc

sequences_left : (s : Sequences) (a : ℕ) (k : Kind) → leaves_sequences k ≡ true → sequences_next s a k ≡ s
sequences_left s a (Kind.Begin m q) h = refl
sequences_left s a k h = absurd cc

-- ---- the next state

-- an entry that was not allowed leaves the state
left : (b t : Bool) → b ≡ false → (b || t) ≡ true → t ≡ true
left true t f h = absurd cc
left false t f h = h

pub plain_on : (x : Result (Unit {0}) FoldError) (b : Bool) (k : Kind) (s old new : Plain) → b ≡ is_ok x → (b || leaves_plain k) ≡ true → old ≡ s → OnOk x (new ≡ plain_next old k) → OnErr x (new ≡ old) → new ≡ plain_next s k
plain_on (Ok x) b k s old new t on is ok err = ok ∙ ap (λ (z : Plain). plain_next z k) is
plain_on (Err x) b k s old new t on is ok err = err ∙ is ∙ sym (plain_left s k (left b (leaves_plain k) t on))

pub shown_on : (x : Result (Unit {0}) FoldError) (b : Bool) (k : Kind) (c : Program) (s : Places) (old new : PlaceState) → b ≡ is_ok x → (b || leaves_places k) ≡ true → PlacesShown c s old
    → OnOk x (ForShown old (λ c s. PlacesShown c (places_next s k) new)) → OnErr x (ForShown old (λ c s. PlacesShown c s new)) → PlacesShown c (places_next s k) new
shown_on (Ok x) b k c s old new t on is ok err = ok c s is
shown_on (Err x) b k c s old new t on is ok err = subst (λ (z : Places). PlacesShown c z new) (sym (places_left s k (left b (leaves_places k) t on))) (err c s is)

pub owners_on : (law : OwnersFollow) (x : Result (Unit {0}) FoldError) (b : Bool) (k : Kind) (s : Plain) (old new : ℕ → Option ℕ) → b ≡ is_ok x → (b || leaves_places k) ≡ true → ((m : ℕ) → old m ≡ mirror_owner s m)
    → OnOk x (new ≡ owner_next old k) → OnErr x (new ≡ old) → (m : ℕ) → new m ≡ mirror_owner (plain_next s k) m
owners_on law x b k s old new t on same ok err m =
    ap (λ (f : ℕ → Option ℕ). f m) (next x t ok err) ∙ ap (λ (f : ℕ → Option ℕ). owner_next f k m) (fun_ext same) ∙ law s k m
  where
    next : (x : Result (Unit {0}) FoldError) → b ≡ is_ok x → OnOk x (new ≡ owner_next old k) → OnErr x (new ≡ old) → new ≡ owner_next old k
    next (Ok x) t ok err = ok
    next (Err x) t ok err = err ∙ sym (owners_left old k (left b (leaves_places k) t on))

pub sequences_on : (x : Result (Unit {0}) FoldError) (b : Bool) (a : ℕ) (k : Kind) (s old new : Sequences) → b ≡ is_ok x → (b || leaves_sequences k) ≡ true → old ≡ s → IfOk x (λ y. new ≡ sequences_next old a k) → OnErr x (new ≡ old) → new ≡ sequences_next s a k
sequences_on (Ok x) b a k s old new t on is ok err = ok ∙ ap (λ (z : Sequences). sequences_next z a k) is
sequences_on (Err x) b a k s old new t on is ok err = err ∙ is ∙ sym (sequences_left s a k (left b (leaves_sequences k) t on))

-- ---- the parts of it

pub on_parts : (a p s : Bool) (k : Kind) → leads_on a p s k ≡ true → ((a || leaves_plain k) ≡ true) × ((p || leaves_places k) ≡ true) × ((s || leaves_sequences k) ≡ true)
on_parts a p s k h =
    let one = and_parts (a || leaves_plain k) _ h in
    let two = and_parts (p || leaves_places k) _ one.1 in
    (one.0, two.0, two.1)

-- an answer of a fold that is a test
pub errs_same : {X Y : Type 0} (f : X → Y) (x : Result (Unit {0}) FoldError) (old new : X) → OnErr x (new ≡ old) → OnErr x (f new ≡ f old)
errs_same f (Ok x) old new e = tt
errs_same f (Err x) old new e = ap f e
