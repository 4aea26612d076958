-- The words that rows keep, and what is done to a row.
use Rattle.std.proofs.Common.{◌≡◌, ◌≢◌, ℕ, ◌+◌, ◌-◌, ◌*◌, ◌/◌, ◌%◌, ◌<◌, ◌≤◌, List, ◌++◌, length, get_or, set, replicate, sym, ap, subst, ◌∙◌, arith, ◌⊎◌, inl, inr}
use Rattle.std.proofs.lemmas.Bool.{cases_eq, cases_lt}
use Rattle.std.proofs.lemmas.Grind.{same_number_lists}
use Rattle.std.proofs.lemmas.List.{get_or-set_same, get_or-set_other, length-set, get_or_past, length-append, length-replicate}
use Rattle.std.proofs.lemmas.List.FromFn.{get_or-map-range_with_len, length-map-range_with_len}
use Rattle.radix_tables.specs.Walks.{IsLonger}
use Rattle.radix_tables.specs.Rows.{AreRows, AreRowsAdded, IsRoomMade, IsRowAdded, IsRowCopied, over, row_at, word_in}
use Rattle.radix_tables.specs.Heads.{HasOne, IsSpread}
use Rattle.radix_tables.proofs.Tables.{longer, zeros_added}

pub over_length : (f : ℕ → ℕ) (rows : List ℕ) → length (over f rows) ≡ 8 * length rows
over_length f rows = length-map-range_with_len f 0 (8 * length rows)

pub over_at : (f : ℕ → ℕ) (rows : List ℕ) (k : ℕ) → (8 * length rows ≤ k → f k ≡ 0) → get_or (over f rows) k 0 ≡ f k
over_at f rows k none = by (cases_lt k (8 * length rows))
  where
    by : (k < 8 * length rows) ⊎ (8 * length rows ≤ k) → get_or (over f rows) k 0 ≡ f k
    by (inl l) = get_or-map-range_with_len f 0 (8 * length rows) k k 0 l (omega arith)
    by (inr l) = get_or_past (over f rows) k 0 (omega (arith, over_length f rows, l)) ∙ sym (none l)

row_past : (rows : List ℕ) (k : ℕ) → 8 * length rows ≤ k → row_at rows k ≡ 0
row_past rows k l = get_or_past rows (k / 8) 0 (omega arith)

-- what has no row is 0
pub unroomed : (rows words : List ℕ) (k : ℕ) → AreRows rows words → row_at rows k ≡ 0 → word_in rows words k ≡ 0
unroomed rows words k h e = ap (λ r. get_or words (r * 8 + k % 8) 0) e ∙ h.empty (0 * 8 + k % 8) (omega arith)

-- what is read of the rows' room and of their words
pub room_at : (rows : List ℕ) (k : ℕ) → get_or (over (row_at rows) rows) k 0 ≡ row_at rows k
room_at rows k = over_at (row_at rows) rows k (row_past rows k)

pub item_at : (rows words : List ℕ) (k : ℕ) → AreRows rows words → get_or (over (word_in rows words) rows) k 0 ≡ word_in rows words k
item_at rows words k h = over_at (word_in rows words) rows k (λ l. unroomed rows words k h (row_past rows k l))

pub longer_by : (xs ys : List ℕ) → length xs ≤ length ys → ((k : ℕ) → get_or ys k 0 ≡ get_or xs k 0) → IsLonger xs ys
longer_by xs ys l e = record {
  by = length ys - length xs;
  added = same_number_lists ys (xs ++ replicate (length ys - length xs) 0)
      (sym (length-append xs (replicate (length ys - length xs) 0) ∙ (ap (λ n. length xs + n) (length-replicate (length ys - length xs) 0) ∙ omega arith)))
      (λ k m. e k ∙ sym (zeros_added xs (length ys - length xs) k));
}

-- more rows, none of which has words yet
pub rows_longer : (rows now words : List ℕ) → AreRows rows words → IsLonger rows now → length now % 8 ≡ 0 → AreRows now words
rows_longer rows now words h l e = record {
  inside = λ i d. subst (λ k. k * 8 + 8 ≤ length words) (sym (longer l i)) (h.inside i (λ z. d (longer l i ∙ z)));
  apart = λ i j p d. h.apart i j (sym (longer l i) ∙ p ∙ longer l j) (λ z. d (longer l i ∙ z));
  empty = h.empty;
  whole = h.whole;
  tables = e;
}

pub room_longer : (rows now : List ℕ) → IsLonger rows now → length rows ≤ length now → IsLonger (over (row_at rows) rows) (over (row_at now) now)
room_longer rows now l m = longer_by (over (row_at rows) rows) (over (row_at now) now) (omega (arith, over_length (row_at rows) rows, over_length (row_at now) now, m))
    (λ k. room_at now k ∙ (longer l (k / 8) ∙ sym (room_at rows k)))

pub items_longer : (rows now words : List ℕ) → AreRows rows words → AreRows now words → IsLonger rows now → length rows ≤ length now → IsLonger (over (word_in rows words) rows) (over (word_in now words) now)
items_longer rows now words h n l m = longer_by (over (word_in rows words) rows) (over (word_in now words) now) (omega (arith, over_length (word_in rows words) rows, over_length (word_in now words) now, m))
    (λ k. item_at now words k n ∙ (ap (λ r. get_or words (r * 8 + k % 8) 0) (longer l (k / 8)) ∙ sym (item_at rows words k h)))

-- only what is there is not 0
pub within : (xs : List ℕ) (i : ℕ) → get_or xs i 0 ≢ 0 → i < length xs
within xs i d = by (cases_lt i (length xs))
  where
    by : (i < length xs) ⊎ (length xs ≤ i) → i < length xs
    by (inl l) = l
    by (inr l) = absurd (d (get_or_past xs i 0 l))

-- where a word of a row that is there stands
past_first : (r s : ℕ) → r ≢ 0 → 8 ≤ r * 8 + s
past_first r s d = omega arith

pub place_within : (rows words : List ℕ) (at : ℕ) → AreRows rows words → row_at rows at ≢ 0 → row_at rows at * 8 + at % 8 < length words
place_within rows words at h d = omega (arith, h.inside (at / 8) d)

-- a word is set
pub rows_set : (rows words : List ℕ) (at word : ℕ) → AreRows rows words → row_at rows at ≢ 0 → AreRows rows (set words (row_at rows at * 8 + at % 8) word)
rows_set rows words at word h d = record {
  inside = λ i e. omega (arith, length-set words place word, h.inside i e);
  apart = h.apart;
  empty = λ i b. get_or-set_other words place i word 0 (other i b) ∙ h.empty i b;
  whole = ap (λ n. n % 8) (length-set words place word) ∙ h.whole;
  tables = h.tables;
}
  where
    place : ℕ
    place = row_at rows at * 8 + at % 8

    other : (i : ℕ) → i < 8 → i ≢ place
    other i b e = absurd (omega (arith, past_first (row_at rows at) (at % 8) d, e, b))

pub items_set : (rows words : List ℕ) (at word : ℕ) → AreRows rows words → row_at rows at ≢ 0 →
    over (word_in rows (set words (row_at rows at * 8 + at % 8) word)) rows ≡ set (over (word_in rows words) rows) at word
items_set rows words at word h d = same_number_lists (over (word_in rows now) rows) (set old at word)
    (over_length (word_in rows now) rows ∙ sym (length-set old at word ∙ over_length (word_in rows words) rows))
    (λ k l. item_at rows now k (rows_set rows words at word h d) ∙ by k (cases_eq k at))
  where
    place : ℕ
    place = row_at rows at * 8 + at % 8

    now : List ℕ
    now = set words place word

    old : List ℕ
    old = over (word_in rows words) rows

    inside : at < length old
    inside = omega (arith, over_length (word_in rows words) rows, within rows (at / 8) d)

    split : (a b p q : ℕ) → a * 8 + p % 8 ≡ b * 8 + q % 8 → (a ≡ b) × (p % 8 ≡ q % 8)
    split a b p q e = (omega arith, omega arith)

    joined : (p q : ℕ) → p / 8 ≡ q / 8 → p % 8 ≡ q % 8 → p ≡ q
    joined p q a b = omega arith

    apart : (k : ℕ) → k ≢ at → row_at rows k * 8 + k % 8 ≢ place
    apart k n e = let s = split (row_at rows k) (row_at rows at) k at e in n (joined k at (h.apart (k / 8) (at / 8) s.0 (λ z. d (sym s.0 ∙ z))) s.1)

    by : (k : ℕ) → (k ≡ at) ⊎ (k ≢ at) → word_in rows now k ≡ get_or (set old at word) k 0
    by k (inl e) =
        ap (word_in rows now) e ∙ (get_or-set_same words place word 0 (place_within rows words at h d) ∙ sym (ap (λ i. get_or (set old at word) i 0) e ∙ get_or-set_same old at word 0 inside))
    by k (inr n) =
        get_or-set_other words place (row_at rows k * 8 + k % 8) word 0 (apart k n) ∙ (sym (item_at rows words k h) ∙ sym (get_or-set_other old at k word 0 n))

-- a row comes in
pub row_added : (rows words now : List ℕ) (e row : ℕ) → AreRows rows words → IsRowAdded words now row → e < length rows → get_or rows e 0 ≡ 0 → AreRows (set rows e row) now
row_added rows words now e row h a l none = record {
  inside = λ i. inside i (cases_eq i e);
  apart = λ i j. apart i j (cases_eq i e) (cases_eq j e);
  empty = λ i b. longer a.longer i ∙ h.empty i b;
  whole = omega (arith, a.last);
  tables = ap (λ n. n % 8) (length-set rows e row) ∙ h.tables;
}
  where
    here : (i : ℕ) → i ≡ e → get_or (set rows e row) i 0 ≡ row
    here i p = ap (λ k. get_or (set rows e row) k 0) p ∙ get_or-set_same rows e row 0 l

    there : (i : ℕ) → i ≢ e → get_or (set rows e row) i 0 ≡ get_or rows i 0
    there i d = get_or-set_other rows e i row 0 d

    inside : (i : ℕ) → (i ≡ e) ⊎ (i ≢ e) → get_or (set rows e row) i 0 ≢ 0 → get_or (set rows e row) i 0 * 8 + 8 ≤ length now
    inside i (inl p) d = omega (arith, here i p, a.last)
    inside i (inr n) d = omega (arith, there i n, a.last, a.after, h.inside i (λ z. d (there i n ∙ z)))

    new : (i : ℕ) → get_or rows i 0 ≢ 0 → get_or rows i 0 ≢ row
    new i d z = absurd (omega (arith, h.inside i d, a.after, z))

    some : row ≢ 0
    some z = absurd (omega (arith, a.some, z))

    apart : (i j : ℕ) → (i ≡ e) ⊎ (i ≢ e) → (j ≡ e) ⊎ (j ≢ e) → get_or (set rows e row) i 0 ≡ get_or (set rows e row) j 0 → get_or (set rows e row) i 0 ≢ 0 → i ≡ j
    apart i j (inl p) (inl q) s d = p ∙ sym q
    apart i j (inr p) (inr q) s d = h.apart i j (sym (there i p) ∙ (s ∙ there j q)) (λ z. d (there i p ∙ z))
    apart i j (inl p) (inr q) s d =
        let r : get_or rows j 0 ≡ row = sym (there j q) ∙ (sym s ∙ here i p) in
        absurd (new j (λ z. some (sym r ∙ z)) r)
    apart i j (inr p) (inl q) s d =
        let r : get_or rows i 0 ≡ row = sym (there i p) ∙ (s ∙ here j q) in
        absurd (new i (λ z. some (sym r ∙ z)) r)

pub items_added : (rows words now : List ℕ) (e row : ℕ) → AreRows rows words → IsRowAdded words now row → e < length rows → get_or rows e 0 ≡ 0 →
    over (word_in (set rows e row) now) (set rows e row) ≡ over (word_in rows words) rows
items_added rows words now e row h a l none = same_number_lists (over (word_in (set rows e row) now) (set rows e row)) (over (word_in rows words) rows)
    (over_length (word_in (set rows e row) now) (set rows e row) ∙ (ap (λ n. 8 * n) (length-set rows e row) ∙ sym (over_length (word_in rows words) rows)))
    (λ k m. item_at (set rows e row) now k (row_added rows words now e row h a l none) ∙ (by k (cases_eq (k / 8) e) ∙ sym (item_at rows words k h)))
  where
    by : (k : ℕ) → (k / 8 ≡ e) ⊎ (k / 8 ≢ e) → word_in (set rows e row) now k ≡ word_in rows words k
    by k (inl p) =
        let r : row_at (set rows e row) k ≡ row = ap (λ i. get_or (set rows e row) i 0) p ∙ get_or-set_same rows e row 0 l in
        let o : row_at rows k ≡ 0 = ap (λ i. get_or rows i 0) p ∙ none in
        ap (λ i. get_or now (i * 8 + k % 8) 0) r ∙ (longer a.longer (row * 8 + k % 8) ∙ (get_or_past words (row * 8 + k % 8) 0 (omega (arith, a.after))
        ∙ sym (ap (λ i. get_or words (i * 8 + k % 8) 0) o ∙ h.empty (0 * 8 + k % 8) (omega arith))))
    by k (inr n) = ap (λ i. get_or now (i * 8 + k % 8) 0) (get_or-set_other rows e (k / 8) row 0 n) ∙ longer a.longer (row_at rows k * 8 + k % 8)

pub room_added : (rows words now : List ℕ) (at row : ℕ) → IsRowAdded words now row → at / 8 < length rows → get_or rows (at / 8) 0 ≡ 0 →
    IsRoomMade (over (row_at rows) rows) (over (row_at (set rows (at / 8) row)) (set rows (at / 8) row)) at
room_added rows words now at row a l none = record {
  long = over_length (row_at (set rows (at / 8) row)) (set rows (at / 8) row) ∙ (ap (λ n. 8 * n) (length-set rows (at / 8) row) ∙ sym (over_length (row_at rows) rows));
  some = λ z. some (sym (get_or-set_same rows (at / 8) row 0 l) ∙ (sym (room_at (set rows (at / 8) row) at) ∙ z));
  kept = λ k d z. kept k (λ w. d (room_at rows k ∙ w)) (cases_eq (k / 8) (at / 8)) (sym (room_at (set rows (at / 8) row) k) ∙ z);
  others = λ k n. room_at (set rows (at / 8) row) k ∙ (get_or-set_other rows (at / 8) (k / 8) row 0 (λ z. n (omega (arith, z))) ∙ sym (room_at rows k));
}
  where
    some : row ≢ 0
    some z = absurd (omega (arith, a.some, z))

    kept : (k : ℕ) → row_at rows k ≢ 0 → (k / 8 ≡ at / 8) ⊎ (k / 8 ≢ at / 8) → row_at (set rows (at / 8) row) k ≢ 0
    kept k d (inl p) z = d (ap (λ i. get_or rows i 0) p ∙ none)
    kept k d (inr n) z = d (sym (get_or-set_other rows (at / 8) (k / 8) row 0 n) ∙ z)

-- ---- a table with one row gets eight

module _ (rows now words more copied : List ℕ) (table which row first : ℕ) (h : AreRows rows words) (one : HasOne rows table which row) (a : AreRowsAdded words more first) (cp : IsRowCopied more copied row (first + which)) (sp : IsSpread rows now table first) where
  -- a row that was there lies before the new ones
  before : (i : ℕ) → get_or rows i 0 ≢ 0 → get_or rows i 0 < first
  before i d = omega (arith, h.inside i d, a.after)

  -- the words of rows that were there
  kept_word : (r s : ℕ) → s < 8 → r < first → get_or copied (r * 8 + s) 0 ≡ get_or words (r * 8 + s) 0
  kept_word r s l b = cp.there (r * 8 + s) (λ z. absurd (omega (arith, z, l, b))) ∙ longer a.longer (r * 8 + s)

  pub spread_rows : AreRows now copied
  spread_rows = record {
    inside = λ i. inside i (cases_eq (i / 8) table);
    apart = λ i j. apart i j (cases_eq (i / 8) table) (cases_eq (j / 8) table);
    empty = λ i b. empty i b;
    whole = omega (arith, cp.long, a.last);
    tables = ap (λ n. n % 8) sp.long ∙ h.tables;
  }
    where
      inside : (i : ℕ) → (i / 8 ≡ table) ⊎ (i / 8 ≢ table) → get_or now i 0 ≢ 0 → get_or now i 0 * 8 + 8 ≤ length copied
      inside i (inl e) d = omega (arith, sp.here i e, cp.long, a.last)
      inside i (inr n) d = omega (arith, sp.there i n, h.inside i (λ z. d (sp.there i n ∙ z)), a.after, cp.long, a.last)

      empty : (i : ℕ) → i < 8 → get_or copied i 0 ≡ 0
      empty i b = cp.there i (λ z. absurd (omega (arith, z, b, a.some))) ∙ (longer a.longer i ∙ h.empty i b)

      joined : (p q : ℕ) → p / 8 ≡ q / 8 → p % 8 ≡ q % 8 → p ≡ q
      joined p q x y = omega arith

      apart : (i j : ℕ) → (i / 8 ≡ table) ⊎ (i / 8 ≢ table) → (j / 8 ≡ table) ⊎ (j / 8 ≢ table) → get_or now i 0 ≡ get_or now j 0 → get_or now i 0 ≢ 0 → i ≡ j
      apart i j (inl e) (inl f) s d = joined i j (e ∙ sym f) (omega (arith, sp.here i e, sp.here j f, s))
      apart i j (inr m) (inr n) s d = h.apart i j (sym (sp.there i m) ∙ (s ∙ sp.there j n)) (λ z. d (sp.there i m ∙ z))
      apart i j (inl e) (inr n) s d =
          let o : get_or rows j 0 ≡ first + i % 8 = sym (sp.there j n) ∙ (sym s ∙ sp.here i e) in
          absurd (omega (arith, before j (λ z. d (s ∙ (sp.there j n ∙ z))), o))
      apart i j (inr m) (inl f) s d =
          let o : get_or rows i 0 ≡ first + j % 8 = sym (sp.there i m) ∙ (s ∙ sp.here j f) in
          absurd (omega (arith, before i (λ z. d (sp.there i m ∙ z)), o))

  -- a word of the table
  word_there : (k : ℕ) → (k / 8) / 8 ≡ table → ((k / 8) % 8 ≡ which) ⊎ ((k / 8) % 8 ≢ which) → word_in now copied k ≡ word_in rows words k
  word_there k e (inl w) =
      let r : row_at now k ≡ first + (k / 8) % 8 = sp.here (k / 8) e in
      let o : row_at rows k ≡ row = ap (λ i. get_or rows i 0) (eight k e w) ∙ one.here in
      ap (λ i. get_or copied (i * 8 + k % 8) 0) (r ∙ ap (λ i. first + i) w)
      ∙ (cp.here ((first + which) * 8 + k % 8) (omega arith)
      ∙ (ap (λ i. get_or more (row * 8 + i) 0) (low (first + which) k) ∙ (longer a.longer (row * 8 + k % 8) ∙ sym (ap (λ i. get_or words (i * 8 + k % 8) 0) o))))
    where
      eight : (k : ℕ) → (k / 8) / 8 ≡ table → (k / 8) % 8 ≡ which → k / 8 ≡ table * 8 + which
      eight k e w = omega arith

      low : (n k : ℕ) → (n * 8 + k % 8) % 8 ≡ k % 8
      low n k = omega arith
  word_there k e (inr n) =
      let r : row_at now k ≡ first + (k / 8) % 8 = sp.here (k / 8) e in
      let o : row_at rows k ≡ 0 = one.others (k / 8) e n in
      ap (λ i. get_or copied (i * 8 + k % 8) 0) r
      ∙ (cp.there ((first + (k / 8) % 8) * 8 + k % 8) (λ z. n (omega (arith, z)))
      ∙ (longer a.longer ((first + (k / 8) % 8) * 8 + k % 8) ∙ (get_or_past words ((first + (k / 8) % 8) * 8 + k % 8) 0 (omega (arith, a.after))
      ∙ sym (unroomed rows words k h o))))

  -- a word of another table
  word_elsewhere : (k : ℕ) → (row_at rows k ≡ 0) ⊎ (row_at rows k ≢ 0) → get_or copied (row_at rows k * 8 + k % 8) 0 ≡ word_in rows words k
  word_elsewhere k (inl z) = kept_word (row_at rows k) (k % 8) (omega arith) (omega (arith, z, a.some))
  word_elsewhere k (inr d) = kept_word (row_at rows k) (k % 8) (omega arith) (before (k / 8) d)

  word_kept : (k : ℕ) → ((k / 8) / 8 ≡ table) ⊎ ((k / 8) / 8 ≢ table) → word_in now copied k ≡ word_in rows words k
  word_kept k (inl e) = word_there k e (cases_eq ((k / 8) % 8) which)
  word_kept k (inr n) = ap (λ i. get_or copied (i * 8 + k % 8) 0) (sp.there (k / 8) n) ∙ word_elsewhere k (cases_eq (row_at rows k) 0)

  pub spread_items : over (word_in now copied) now ≡ over (word_in rows words) rows
  spread_items = same_number_lists (over (word_in now copied) now) (over (word_in rows words) rows)
      (over_length (word_in now copied) now ∙ (ap (λ n. 8 * n) sp.long ∙ sym (over_length (word_in rows words) rows)))
      (λ k m. item_at now copied k spread_rows ∙ (word_kept k (cases_eq ((k / 8) / 8) table) ∙ sym (item_at rows words k h)))

  pub spread_room : (at : ℕ) → at / 64 ≡ table → IsRoomMade (over (row_at rows) rows) (over (row_at now) now) at
  spread_room at t = record {
    long = over_length (row_at now) now ∙ (ap (λ n. 8 * n) sp.long ∙ sym (over_length (row_at rows) rows));
    some = λ z. absurd (omega (arith, sp.here (at / 8) (omega (arith, t)), a.some, sym (room_at now at) ∙ z));
    kept = λ k d z. kept k (λ w. d (room_at rows k ∙ w)) (cases_eq ((k / 8) / 8) table) (sym (room_at now k) ∙ z);
    others = λ k n. room_at now k ∙ (sp.there (k / 8) (λ z. n (omega (arith, z, t))) ∙ sym (room_at rows k));
  }
    where
      kept : (k : ℕ) → row_at rows k ≢ 0 → ((k / 8) / 8 ≡ table) ⊎ ((k / 8) / 8 ≢ table) → row_at now k ≢ 0
      kept k d (inl e) z = absurd (omega (arith, sp.here (k / 8) e, a.some, z))
      kept k d (inr n) z = d (sym (sp.there (k / 8) n) ∙ z)
