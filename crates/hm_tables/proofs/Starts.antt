-- The tables of a script before its first entry.
use Rattle.std.proofs.Common.{◌≡◌, ℕ, zero, suc, ◌+◌, ◌-◌, ◌<◌, ◌≤◌, ◌⊎◌, inl, inr, false, eqb, List, [], ◌∷◌, ◌++◌, length, get_or, replicate, refl, sym, ap, ◌∙◌, subst, arith}
use Rattle.std.proofs.lemmas.Bool.{cases_lt}
use Rattle.std.proofs.lemmas.Bool.Decides.{nat_tests}
use Rattle.std.proofs.lemmas.List.{get_or_past}
use Rattle.hm_base.specs.Program.{Program, IsScript}
use Rattle.hm_base.specs.declared.PoolId.{PoolId}
use Rattle.hm_base.specs.declared.PoolId.TheVariants.{System, Device}
use Rattle.hm_base.specs.declared.Frame.{Frame}
use Rattle.hm_base.specs.declared.Place.TheVariants.{Empty}
use Rattle.entry_words.specs.Word.{pool_field}
use Rattle.radix_tables.specs.Maps.{Map}
use Rattle.rev_maps.specs.Uses.{Uses, unused, uses_of, is_rising}
use Rattle.hm_history.specs.Memory.Places.{pool_size}
use Rattle.hm_tables.specs.Values.{Tables, no_words, table_of, place_in_table, place_of, size_in, uses_in, mark_by, mark_of}
use Rattle.hm_tables.specs.Sound.{IsOrdered, IsTables}
use Rattle.hm_tables.specs.Shown.{TablesShown}
use Rattle.hm_tables.specs.Steps.{frames_of, first_pools, tables_start}
use Rattle.hm_tables.proofs.Words.{none_is_empty}

copies : {X : Type 0} (n i : ℕ) (x : X) → get_or (replicate n x) i x ≡ x
copies zero i x = refl
copies (suc n) zero x = refl
copies (suc n) (suc i) x = copies n i x

length_copies : {X : Type 0} (n : ℕ) (x : X) → length (replicate n x) ≡ n
length_copies zero x = refl
length_copies (suc n) x = ap suc (length_copies n x)

count_first : (c : Program) (n : ℕ) → length (first_pools c n) ≡ n
count_first c zero = refl
count_first c (suc n) = one_more (first_pools c n) (replicate (frames_of c n) unused) ∙ ap suc (count_first c n)
  where
    one_more : {X : Type 0} (xs : List X) (x : X) → length (xs ++ x ∷ []) ≡ suc (length xs)
    one_more [] x = refl
    one_more (y ∷ ys) x = ap suc (one_more ys x)

-- an element of a list with one more
get_front : {X : Type 0} (xs : List X) (x d : X) (i : ℕ) → i < length xs → get_or (xs ++ x ∷ []) i d ≡ get_or xs i d
get_front [] x d i l = absurd (omega arith)
get_front (y ∷ ys) x d zero l = refl
get_front (y ∷ ys) x d (suc i) l = get_front ys x d i (omega arith)

get_last : {X : Type 0} (xs : List X) (x d : X) → get_or (xs ++ x ∷ []) (length xs) d ≡ x
get_last [] x d = refl
get_last (y ∷ ys) x d = get_last ys x d

first_at : (c : Program) (n i : ℕ) → i < n → get_or (first_pools c n) i [] ≡ replicate (frames_of c i) unused
first_at c zero i l = absurd (omega arith)
first_at c (suc n) i l = by (cases_lt i n) (first_at c n i)
  where
    last : n ≡ i → get_or (first_pools c n ++ (replicate (frames_of c n) unused ∷ [])) i [] ≡ replicate (frames_of c i) unused
    last e =
        ap (λ k. get_or (first_pools c n ++ (replicate (frames_of c n) unused ∷ [])) k []) (sym e ∙ sym (count_first c n))
        ∙ get_last (first_pools c n) (replicate (frames_of c n) unused) []
        ∙ ap (λ k. replicate (frames_of c k) unused) e

    by : (i < n) ⊎ (n ≤ i) → (i < n → get_or (first_pools c n) i [] ≡ replicate (frames_of c i) unused) → get_or (first_pools c n ++ (replicate (frames_of c n) unused ∷ [])) i [] ≡ replicate (frames_of c i) unused
    by (inl h) r = get_front (first_pools c n) (replicate (frames_of c n) unused) [] i (subst (λ k. i < k) (sym (count_first c n)) h) ∙ r h
    by (inr h) r = last (omega arith)

none_used : (c : Program) (i j : ℕ) → uses_of (get_or (first_pools c 5) i []) j ≡ unused
none_used c i j = by (cases_lt i 5)
  where
    by : (i < 5) ⊎ (5 ≤ i) → uses_of (get_or (first_pools c 5) i []) j ≡ unused
    by (inl l) = ap (λ us. uses_of us j) (first_at c 5 i l) ∙ copies (frames_of c i) j unused
    by (inr l) = ap (λ us. uses_of us j) (get_or_past (first_pools c 5) i [] (subst (λ k. k ≤ i) (sym (count_first c 5)) l))

no_uses : (c : Program) (f : Frame) → uses_in (first_pools c 5) f ≡ unused
no_uses c f = none_used c (pool_field f.pool) f.number

no_table : (c : Program) (p : ℕ) → table_of (tables_start c) p ≡ no_words
no_table c p = copies 32 p no_words

no_place : (c : Program) (p v : ℕ) → place_of (tables_start c) p v ≡ Empty
no_place c p v = ap (λ m. place_in_table m v) (no_table c p) ∙ none_is_empty

pub start_sound : (c : Program) → IsTables (tables_start c)
start_sound c = record {
  processes = length_copies 32 no_words;
  pools = count_first c 5;
  ordered = λ p. subst IsOrdered (sym (no_table c p)) (record { sorted = refl; below = refl });
  rising = λ f. ap (λ (us : Uses). is_rising us.list) (no_uses c f);
  exact = λ p v f. ap (λ (us : Uses). mark_by p v us.list) (no_uses c f) ∙ ap (λ x. mark_of x f) (sym (no_place c p v));
}

device_frames : (c : Program) (d : ℕ) → frames_of c (1 + d) ≡ get_or c.devices d 0
device_frames c d = rw (test d, less d) refl
  where
    test : (d : ℕ) → eqb (1 + d) 0 ≡ false
    test d = grind (arith, nat_tests)

    less : (d : ℕ) → (1 + d) - 1 ≡ d
    less d = omega arith

start_sizes : (c : Program) → length c.devices ≤ 4 → (pool : PoolId) → size_in (first_pools c 5) pool ≡ pool_size c pool
start_sizes c few System = ap length (first_at c 5 0 (omega arith)) ∙ length_copies (frames_of c 0) unused
start_sizes c few (Device d) = by (cases_lt d 4)
  where
    by : (d < 4) ⊎ (4 ≤ d) → size_in (first_pools c 5) (Device d) ≡ pool_size c (Device d)
    by (inl l) = ap length (first_at c 5 (1 + d) (omega arith)) ∙ length_copies (frames_of c (1 + d)) unused ∙ device_frames c d
    by (inr l) =
        ap length (get_or_past (first_pools c 5) (1 + d) [] (subst (λ k. k ≤ 1 + d) (sym (count_first c 5)) (omega arith)))
        ∙ sym (get_or_past c.devices d 0 (omega arith))

pub tables_starts : (c : Program) → IsScript c → TablesShown c (λ p v. Empty) [] (tables_start c)
tables_starts c script = record {
  tables = start_sound c;
  sizes = start_sizes c script.few_devices;
  places = no_place c;
  listed = λ p v h. cc;
  once = refl;
}

pub started : (c : Program) (tables : List Map) (pools : List (List Uses)) → tables ≡ replicate 32 no_words → pools ≡ first_pools c 5 → IsTables (record { processes = tables; pools = pools })
started c tables pools e f = subst IsTables (sym both) (start_sound c)
  where
    both : ◌≡◌ {A = Tables} (record { processes = tables; pools = pools }) (tables_start c)
    both = ap (λ t. record { processes = t; pools = pools }) e ∙ ap (λ p. record { processes = replicate 32 no_words; pools = p }) f
