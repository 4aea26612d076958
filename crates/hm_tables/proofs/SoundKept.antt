-- The reverse maps go on saying what the tables say.
use Rattle.std.proofs.Common.{◌≡◌, ℕ, ◌^◌, ◌<◌, Bool, true, false, ◌&&◌, eqb, cond, length, refl, sym, ap, ◌∙◌, subst, length-set}
use Rattle.std.proofs.lemmas.Bool.{eqb-true}
use Rattle.hm_base.specs.declared.PoolId.{PoolId}
use Rattle.hm_base.specs.declared.Frame.{Frame}
use Rattle.hm_base.specs.declared.Place.{Place}
use Rattle.hm_base.specs.PlaceWords.{names}
use Rattle.entry_words.specs.Word.{has_word}
use Rattle.hm_history.specs.declared.Kind.{Kind}
use Rattle.hm_tables.specs.Values.{Tables, no_words, table_of, place_in_table, place_of, table_with, size_in, uses_in, mark_by, mark_of}
use Rattle.hm_tables.specs.Sound.{IsOrdered, IsTables}
use Rattle.hm_tables.specs.Steps.{tables_next, FrameFits}
use Rattle.hm_tables.proofs.Words.{place_with, ordered_with}
use Rattle.hm_tables.proofs.PoolUses.{get_set}
use Rattle.hm_tables.proofs.UsesNext.{exact_next, rising_next, size_next, count_next}

inside : (x : Tables) → IsTables x → (p : ℕ) → p < 32 → p < length x.processes
inside x h p l = subst (λ n. p < n) (sym h.processes) l

table_next : (x : Tables) → IsTables x → (p v : ℕ) (y : Place) → p < 32 → (q : ℕ) → table_of (tables_next (Kind.Place p v y) x) q ≡ cond (eqb q p) (table_with (table_of x p) v y) (table_of x q)
table_next x h p v y l q = get_set x.processes p (table_with (table_of x p) v y) q no_words (inside x h p l)

pub place_next : (x : Tables) → IsTables x → (p v : ℕ) (y : Place) → p < 32 → has_word y ≡ true → (q u : ℕ) →
    place_of (tables_next (Kind.Place p v y) x) q u ≡ cond (eqb q p && eqb u v) y (place_of x q u)
place_next x h p v y l w q u = ap (λ m. place_in_table m u) (table_next x h p v y l q) ∙ by (eqb q p) refl
  where
    by : (b : Bool) → eqb q p ≡ b → place_in_table (cond b (table_with (table_of x p) v y) (table_of x q)) u ≡ cond (b && eqb u v) y (place_of x q u)
    by true e = place_with (table_of x p) v y u w ∙ ap (λ r. cond (eqb u v) y (place_of x r u)) (sym (eqb-true q p e))
    by false e = refl

pub sizes_next : (x : Tables) → IsTables x → (p v : ℕ) (y : Place) → FrameFits (size_in x.pools) (names y) → (pool : PoolId) → size_in (tables_next (Kind.Place p v y) x).pools pool ≡ size_in x.pools pool
sizes_next x h p v y l pool = size_next x.pools p v (place_of x p v) y (h.exact p v) l pool

pub tables_sound : (x : Tables) → IsTables x → (p v : ℕ) (y : Place) → p < 32 → v < 2 ^ 36 → has_word y ≡ true → FrameFits (size_in x.pools) (names y) → IsTables (tables_next (Kind.Place p v y) x)
tables_sound x h p v y l m w fits = record {
  processes = length-set x.processes p (table_with (table_of x p) v y) ∙ h.processes;
  pools = count_next x.pools p v (place_of x p v) y ∙ h.pools;
  ordered = λ q. subst IsOrdered (sym (table_next x h p v y l q)) (ordered q (eqb q p));
  rising = rising_next x.pools p v (place_of x p v) y (h.exact p v) fits h.rising;
  exact = exact;
}
  where
    ordered : (q : ℕ) (b : Bool) → IsOrdered (cond b (table_with (table_of x p) v y) (table_of x q))
    ordered q true = ordered_with (table_of x p) v y m (h.ordered p)
    ordered q false = h.ordered q

    joined : (g : Frame) (q u : ℕ) (b : Bool) → cond b (mark_of y g) (mark_by q u (uses_in x.pools g).list) ≡ mark_of (cond b y (place_of x q u)) g
    joined g q u true = refl
    joined g q u false = h.exact q u g

    exact : (q u : ℕ) (g : Frame) → mark_by q u (uses_in (tables_next (Kind.Place p v y) x).pools g).list ≡ mark_of (place_of (tables_next (Kind.Place p v y) x) q u) g
    exact q u g =
        exact_next x.pools p v (place_of x p v) y (h.exact p v) fits q u g
        ∙ joined g q u (eqb q p && eqb u v)
        ∙ ap (λ z. mark_of z g) (sym (place_next x h p v y l w q u))
