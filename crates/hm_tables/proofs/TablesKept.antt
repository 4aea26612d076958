-- The tables go on showing the places of the history.
use Rattle.std.proofs.Common.{◌≡◌, ℕ, ◌<◌, inl, inr, Bool, true, false, not, ◌&&◌, eqb, cond, Option, Some, None, List, ◌∷◌, set, refl, sym, ap, ◌∙◌, subst, ◌^◌, length-set}
use Rattle.std.specs.Prelude.{unwrap_or, nat_lt}
use Rattle.std.specs.List.{list_any, list_all}
use Rattle.std.specs.Ordering.{nat_cmp}
use Rattle.std.specs.FinMap.Entries as sorted
use Rattle.std.proofs.lemmas.Bool.{and_from, eqb-true}
use Rattle.hm_base.specs.Program.{Program}
use Rattle.hm_base.specs.declared.PoolId.{PoolId}
use Rattle.hm_base.specs.declared.Frame.{Frame}
use Rattle.hm_base.specs.declared.Place.{Place}
use Rattle.hm_base.specs.PlaceWords.{names, is_empty_place}
use Rattle.hm_history.specs.Memory.Places.{Places, is_page, with_page, with_place, places_next, pool_size}
use Rattle.hm_history.specs.declared.Kind.{Kind}
use Rattle.radix_tables.specs.Maps.{Map, given_back}
use Rattle.rev_maps.specs.Uses.{is_rising}
use Rattle.hm_tables.specs.Values.{Tables, no_words, table_of, place_of, place_of_word, size_in, mark_by, mark_of}
use Rattle.hm_tables.specs.Sound.{IsTables}
use Rattle.hm_tables.specs.Shown.{is_once, TablesShown}
use Rattle.hm_tables.specs.Steps.{tables_next, FrameFits, TablesFit, TablesRange, SameTables}
use Rattle.hm_tables.proofs.PoolUses.{get_set}
use Rattle.hm_tables.proofs.SoundKept.{place_next, sizes_next, tables_sound}
use Rattle.hm_history.proofs.Placed.{listed_more}

frame_shown : (c : Program) (x : Tables) → ((pool : PoolId) → size_in x.pools pool ≡ pool_size c pool) → (o : Option Frame) → FrameFits (pool_size c) o → FrameFits (size_in x.pools) o
frame_shown c x sizes None l = tt
frame_shown c x sizes (Some f) l = subst (λ n. f.number < n) (sym (sizes f.pool)) l

-- what the calls require, by what the script allows
pub fits_shown : (c : Program) (place : ℕ → ℕ → Place) (placed : List (ℕ × ℕ)) (x : Tables) → TablesShown c place placed x → (k : Kind) → TablesFit (pool_size c) k → TablesFit (size_in x.pools) k
fits_shown c place placed x h (Kind.Place p v y) fits = frame_shown c x h.sizes (names y) fits
fits_shown c place placed x h k fits = fits

-- the pages that were placed
pub listed_next : (place : ℕ → ℕ → Place) (placed : List (ℕ × ℕ)) → ((q u : ℕ) → is_empty_place (place q u) ≡ false → list_any (is_page q u) placed ≡ true) →
    (p v : ℕ) (y : Place) (q u : ℕ) → is_empty_place (with_place place p v y q u) ≡ false → list_any (is_page q u) (with_page p v placed) ≡ true
listed_next place placed listed p v y q u k = by (eqb q p && eqb u v) refl k
  where
    by : (b : Bool) → (eqb q p && eqb u v) ≡ b → is_empty_place (cond b y (place q u)) ≡ false → list_any (is_page q u) (with_page p v placed) ≡ true
    by true e k = listed_more p v q u placed (inl e)
    by false e k = listed_more p v q u placed (inr (listed q u k))

pub once_next : (p v : ℕ) (xs : List (ℕ × ℕ)) → is_once xs ≡ true → is_once (with_page p v xs) ≡ true
once_next p v xs h = by (list_any (is_page p v) xs) refl
  where
    by : (b : Bool) → list_any (is_page p v) xs ≡ b → is_once (cond b xs ((p, v) ∷ xs)) ≡ true
    by true e = h
    by false e = and_from (not (list_any (is_page p v) xs)) (is_once xs) (ap not e) h

-- room more or less
same_words : (x y : Tables) → SameTables x y → (p v : ℕ) → place_of y p v ≡ place_of x p v
same_words x y same p v = ap (λ es. place_of_word (unwrap_or (sorted.find nat_cmp v es) 0)) (same.words p)

pub same_sound : (x y : Tables) → SameTables x y → IsTables x → IsTables y
same_sound x y same h = record {
  processes = same.processes ∙ h.processes;
  pools = same.pools.count ∙ h.pools;
  ordered = λ p. record {
    sorted = ap (sorted.is_sorted nat_cmp) (same.words p) ∙ (h.ordered p).sorted;
    below = ap (list_all (λ e. nat_lt e.0 (2 ^ 36))) (same.words p) ∙ (h.ordered p).below;
  };
  rising = λ f. ap is_rising (same.pools.lists f) ∙ h.rising f;
  exact = λ p v f. ap (mark_by p v) (same.pools.lists f) ∙ h.exact p v f ∙ ap (λ z. mark_of z f) (sym (same_words x y same p v));
}

pub shown_same : (c : Program) (place : ℕ → ℕ → Place) (placed : List (ℕ × ℕ)) (x y : Tables) → SameTables x y → TablesShown c place placed x → TablesShown c place placed y
shown_same c place placed x y same h = record {
  tables = same_sound x y same h.tables;
  sizes = λ pool. same.pools.sizes pool ∙ h.sizes pool;
  places = λ p v. same_words x y same p v ∙ h.places p v;
  listed = h.listed;
  once = h.once;
}

-- the room of a process that has exited
pub same_given_back : (x : Tables) → IsTables x → (p : ℕ) → p < 32 → SameTables x (tables_next (Kind.Exited p) x)
same_given_back x h p l = record {
  processes = length-set x.processes p (given_back (table_of x p));
  words = λ q. ap (λ (m : Map). m.words) (get_set x.processes p (given_back (table_of x p)) q no_words (subst (λ n. p < n) (sym h.processes) l)) ∙ by q (eqb q p) refl;
  pools = record { count = refl; sizes = λ pool. refl; lists = λ f. refl };
}
  where
    by : (q : ℕ) (b : Bool) → eqb q p ≡ b → (cond b (given_back (table_of x p)) (table_of x q)).words ≡ (table_of x q).words
    by q true e = ap (λ r. (table_of x r).words) (sym (eqb-true q p e))
    by q false e = refl

pub still_sound : (x : Tables) (p : ℕ) (tables : List Map) → IsTables x → p < 32 → tables ≡ set x.processes p (given_back (table_of x p)) → IsTables (record x { processes = tables })
still_sound x p tables h l e = subst (λ (ts : List Map). IsTables (record x { processes = ts })) (sym e) (same_sound x (tables_next (Kind.Exited p) x) (same_given_back x h p l) h)

pub tables_kept : (c : Program) (s : Places) (k : Kind) (x : Tables) → TablesShown c s.place s.placed x → TablesFit (pool_size c) k → TablesRange k →
    TablesShown c (places_next s k).place (places_next s k).placed (tables_next k x)
tables_kept c s (Kind.Place p v y) x h fits range = record {
  tables = tables_sound x h.tables p v y range.0 range.1 range.2 (frame_shown c x h.sizes (names y) fits);
  sizes = λ pool. sizes_next x h.tables p v y (frame_shown c x h.sizes (names y) fits) pool ∙ h.sizes pool;
  places = λ q u. place_next x h.tables p v y range.0 range.2 q u ∙ ap (cond (eqb q p && eqb u v) y) (h.places q u);
  listed = listed_next s.place s.placed h.listed p v y;
  once = once_next p v s.placed h.once;
}
tables_kept c s (Kind.Exited p) x h fits range = shown_same c s.place s.placed x (tables_next (Kind.Exited p) x) (same_given_back x h.tables p range) h
tables_kept c s k x h fits range = h
