-- The sources of a load, listed.
use Rattle.std.proofs.Common.{◌≡◌, ℕ, zero, suc, ◌+◌, ◌-◌, ◌<◌, ◌≤◌, ◌^◌, true, Option, Some, None, IsSome, List, [], ◌∷◌, ◌++◌, length, map, get_or, slice_index, refl, sym, ap, ◌∙◌, subst, arith}
use Rattle.std.specs.Prelude.{option_map, ⊤}
use Rattle.std.proofs.lemmas.List.{map-append}
use Rattle.std.proofs.lemmas.Option.{slice_get-get_or, same_Some}
use Rattle.hm_history.specs.Memory.Words.{numbers}
use Rattle.hm_history.specs.declared.Who.{Who}
use Rattle.hm_history.specs.declared.Kind.{Kind}
use Rattle.hm_history.specs.declared.Entry.{Entry}
use Rattle.hm_history.proofs.Numbers.{numbers_append}
use Rattle.hm_why.specs.Sources.{kind_at, source_of, GaveBy, ComesFrom}
use Rattle.hm_why.specs.Laws.{IsLegal, IsLoad, process_at, LoadsHaveSources, LoadsLieInAPage}
use Rattle.hm_why.specs.Writers.{source_in, process_in}
use Rattle.hm_why.specs.Follows.{Follows}
use Rattle.hm_why.specs.Loads.{is_load, IsLoadAt, sources_by, GaveEach, AreSources, AllFound}
use Rattle.hm_why.specs.declared.writers.Writers.{Writers}
use Rattle.hm_why.proofs.Following.{process_is}

-- one number more
pub numbers_more : (a n : ℕ) → numbers a (suc n) ≡ numbers a n ++ (a + n) ∷ []
numbers_more a n = ap (numbers a) one ∙ numbers_append a n 1
  where
    one : suc n ≡ n + 1
    one = omega arith

-- one source more
pub one_source : (f : ℕ → Option ℕ) (found more : List ℕ) (addr byte at : ℕ) → addr ≤ byte → map (λ (j : ℕ). Some j) found ≡ map f (numbers addr (byte - addr)) → Some at ≡ f byte → more ≡ found ++ at ∷ [] →
    map (λ (j : ℕ). Some j) more ≡ map f (numbers addr (byte + 1 - addr))
one_source f found more addr byte at low so is m =
    ap (map (λ (j : ℕ). Some j)) m ∙ map-append (λ (j : ℕ). Some j) found (at ∷ [])
    ∙ ap (λ (xs : List (Option ℕ)). xs ++ Some at ∷ []) so
    ∙ ap (λ (x : Option ℕ). map f (numbers addr (byte - addr)) ++ x ∷ []) (is ∙ ap f here)
    ∙ sym (map-append f (numbers addr (byte - addr)) ((addr + (byte - addr)) ∷ []))
    ∙ ap (map f) (sym (numbers_more addr (byte - addr)))
    ∙ ap (λ n. map f (numbers addr n)) next
  where
    here : byte ≡ addr + (byte - addr)
    here = omega arith

    next : suc (byte - addr) ≡ byte + 1 - addr
    next = omega arith

pub kind_is : (h : List Entry) (i : ℕ) (d : Entry) (k : Kind) → i < length h → (get_or h i d).kind ≡ k → kind_at h i ≡ Some k
kind_is h i d k below same = ap (option_map (λ (e : Entry). e.kind)) (slice_get-get_or h i d below) ∙ ap (λ (x : Kind). Some x) same

pub load_there : (h : List Entry) (i : ℕ) (d : Entry) → IsLoadAt h i → is_load (get_or h i d).kind ≡ true
load_there [] i d l = absurd l
load_there (e ∷ h) zero d l = l
load_there (e ∷ h) (suc i) d l = load_there h i d l

-- an entry that answers a load is one
pub some_load : (k : Kind) → is_load k ≡ true → ((x : Who) (at : ℕ) (bs : List ℕ) → k ≡ Kind.Loaded x at bs → ⊥) → ⊥
some_load (Kind.Loaded x at bs) l h = h x at bs refl
some_load k l h = cc

pub load_within : (h : List Entry) (i : ℕ) → IsLoadAt h i → i < length h
load_within [] i l = absurd l
load_within (e ∷ h) zero l = omega arith
load_within (e ∷ h) (suc i) l = omega (arith, load_within h i l)

-- two functions that agree on some numbers
pub map_numbers : {X : Type 0} (f g : ℕ → X) (a n : ℕ) → ((b : ℕ) → a ≤ b → b < a + n → f b ≡ g b) → map f (numbers a n) ≡ map g (numbers a n)
map_numbers f g a zero h = refl
map_numbers {X} f g a (suc n) h = ap (λ (x : X). x ∷ map f (numbers (a + 1) n)) (h a (omega arith) (omega arith)) ∙ ap (λ (xs : List X). g a ∷ xs) (map_numbers f g (a + 1) n (λ b low high. h b (omega arith) (omega arith)))

-- each of the list
nth_found : (f : ℕ → Option ℕ) (a n : ℕ) (found : List ℕ) (k : ℕ) → map (λ (j : ℕ). Some j) found ≡ map f (numbers a n) → k < n → f (a + k) ≡ Some (slice_index found k)
nth_found f a zero found k e below = absurd (omega arith)
nth_found f a (suc n) [] k e below = cc
nth_found f a (suc n) (j ∷ found) zero e below = ap f here ∙ head
  where
    here : a + 0 ≡ a
    here = omega arith

    head : f a ≡ Some j
    head = cc
nth_found f a (suc n) (j ∷ found) (suc k) e below = ap f here ∙ nth_found f (a + 1) n found k tail (omega arith)
  where
    here : a + suc k ≡ a + 1 + k
    here = omega arith

    tail : map (λ (j : ℕ). Some j) found ≡ map f (numbers (a + 1) n)
    tail = cc

-- what is kept where a load comes
pub record AtLoad (h : List Entry) (i at p : ℕ) (x : Who) (bs : List ℕ) (w : Writers) : Type 0 where
  pub legal : IsLegal h
  pub is : IsLoad h i x at bs
  pub follows : Follows w h i
  pub process : p ≡ process_in w x
  pub low : at + length bs ≤ 2 ^ 48

pub at_load : LoadsLieInAPage → (g h : List Entry) (i at p : ℕ) (x : Who) (bs : List ℕ) (w : Writers) (d : Entry) → h ≡ g → IsLegal g → IsLoadAt g i → (get_or h i d).kind ≡ Kind.Loaded x at bs → Follows w h i → p ≡ process_in w x → AtLoad h i at p x bs w
at_load law g h i at p x bs w d e legal load k f process = record { legal = l; is = is; follows = f; process = process; low = (law h l i at x bs is).0 }
  where
    l : IsLegal h
    l = subst IsLegal (sym e) legal

    is : IsLoad h i x at bs
    is = kind_is h i d (Kind.Loaded x at bs) (load_within h i (subst (λ y. IsLoadAt y i) (sym e) load)) k

-- what is kept agrees with the sources
pub agrees : (h : List Entry) (i at p : ℕ) (x : Who) (bs : List ℕ) (w : Writers) → AtLoad h i at p x bs w → (b : ℕ) → at ≤ b → b < at + length bs → source_in w p b ≡ source_of h i (process_at h i x) b
agrees h i at p x bs w a b low high = a.follows.sources p b (omega (arith, a.low)) ∙ ap (λ q. source_of h i q b) (a.process ∙ process_is h i w a.follows x)

pub all_found : LoadsHaveSources → (h : List Entry) (i at p : ℕ) (x : Who) (bs : List ℕ) (w : Writers) → AtLoad h i at p x bs w → AllFound (source_in w p) at (length bs)
all_found law h i at p x bs w a b low high = some (source_in w p b) o.0 (agrees h i at p x bs w a b low high ∙ ap (source_of h i (process_at h i x)) here ∙ o.1.source)
  where
    o : (j : ℕ) × ComesFrom h i (process_at h i x) (at + (b - at)) (slice_index bs (b - at)) j
    o = law h a.legal i at x bs a.is (b - at) (omega arith)

    here : b ≡ at + (b - at)
    here = omega arith

    some : (y : Option ℕ) (j : ℕ) → y ≡ Some j → IsSome y
    some None j e = cc
    some (Some y) j e = refl

pub are_sources : LoadsHaveSources → (h : List Entry) (i at p : ℕ) (x : Who) (bs : List ℕ) (w : Writers) → AtLoad h i at p x bs w → (found : List ℕ) → map (λ (j : ℕ). Some j) found ≡ map (source_in w p) (numbers at (length bs)) → AreSources h i found
are_sources law h i at p x bs w a found e = record {
  sources = same ∙ sym (ap (λ y. elim y as (λ _. List (Option ℕ)) [ None ↦ [] | Some k ↦ sources_by (process_at h i) (source_of h i) k ]) a.is);
  gave = let P : Option Kind → Type 0 = λ y. elim y [ None ↦ ⊤ | Some k ↦ GaveEach h found k ] in subst P (sym a.is) each;
}
  where
    f : ℕ → Option ℕ
    f = source_of h i (process_at h i x)

    same : map (λ (j : ℕ). Some j) found ≡ map f (numbers at (length bs))
    same = e ∙ map_numbers (source_in w p) f at (length bs) (agrees h i at p x bs w a)

    each : (k : ℕ) → k < length bs → GaveBy (kind_at h (slice_index found k)) (at + k) (slice_index bs k)
    each k below = let o : (j : ℕ) × ComesFrom h i (process_at h i x) (at + k) (slice_index bs k) j = law h a.legal i at x bs a.is k below in
        subst (λ j. GaveBy (kind_at h j) (at + k) (slice_index bs k)) (same_Some _ _ (sym o.1.source ∙ nth_found f at (length bs) found k same below)) o.1.gave
