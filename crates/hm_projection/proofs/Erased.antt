-- The pages of a window that a search goes over, and the driver after an entry.
use Rattle.std.proofs.Common.{◌≡◌, ◌⊎◌, inl, inr, ℕ, ◌+◌, ◌-◌, ◌<◌, ◌≤◌, max, min, Bool, true, false, Option, Some, None, List, [], ◌∷◌, ◌++◌, map, refl, sym, ap, ◌∙◌, append_assoc, arith}
use Rattle.std.specs.Prelude.{◌&&◌, nat_le, nat_lt, filter, is_some, option_map, unwrap_or}
use Rattle.std.proofs.Math.Path.{fun_ext}
use Rattle.std.proofs.lemmas.Bool.{cases_lt}
use Rattle.std.proofs.lemmas.Bool.Decides.{nat_tests}
use Rattle.std.proofs.lemmas.List.{append-nil, map-append}
use Rattle.std.proofs.lemmas.List.Elements.{filter-append}
use Rattle.hm_base.specs.Pages.{Pages}
use Rattle.hm_folds.specs.TableMap.{IsFirstAt}
use Rattle.hm_folds.proofs.Sets.{none_there, same_set}
use Rattle.hm_folds.specs.MirrorTables.{table_next, tables_of}
use Rattle.hm_history.proofs.Numbers.{numbers_append}
use Rattle.hm_history.proofs.Updates.{here_at, other_at, with_case}
use Rattle.hm_history.specs.Memory.After.{After, after_entry}
use Rattle.hm_history.specs.Memory.Places.{Places, TableEntry, places_next}
use Rattle.hm_history.specs.Memory.Plain.{Attachment, Attached, Detaching, Gone, MirrorState, Plain, plain_next, with_attachment}
use Rattle.hm_history.specs.Memory.Words.{numbers, with_at}
use Rattle.hm_history.specs.declared.Entry.{Entry}
use Rattle.hm_history.specs.declared.Kind.{Kind}
use Rattle.hm_projection.specs.Tables.{IsDriver, erased_between, erased_where, is_covered, window_next, windows_of}
use Rattle.hm_projection.specs.declared.tables.Driver.{Driver}
use Rattle.hm_protocol.specs.Projection.{window_of}
use Rattle.hm_protocol.specs.declared.events.Event.{Event}

-- ---- numbers that pass a test

-- so more numbers make no difference
pub none_more : (test : ℕ → Bool) (a k n : ℕ) → k ≤ n → ((v : ℕ) → a + k ≤ v → v < a + n → test v ≡ false) → filter test (numbers a n) ≡ filter test (numbers a k)
none_more test a k n le h =
    let split : k + (n - k) ≡ n = omega arith in
    ap (λ j. filter test (numbers a j)) (sym split)
    ∙ ap (filter test) (numbers_append a k (n - k))
    ∙ filter-append test (numbers a k) (numbers (a + k) (n - k))
    ∙ ap (λ vs. filter test (numbers a k) ++ vs) (none_there test (a + k) (n - k) (λ v l b. h v l (omega arith)))
    ∙ append-nil (filter test (numbers a k))

-- one more passes
pub one_more : (test : ℕ → Bool) (a k : ℕ) → test (a + k) ≡ true → filter test (numbers a (k + 1)) ≡ filter test (numbers a k) ++ (a + k) ∷ []
one_more test a k h =
    ap (filter test) (numbers_append a k 1)
    ∙ filter-append test (numbers a k) (numbers (a + k) 1)
    ∙ ap (λ vs. filter test (numbers a k) ++ vs) (rw (h, filter) refl)

-- ---- a search over a window

abbrev pub passes : (ℕ → Option TableEntry) → ℕ → ℕ → ℕ → Bool
passes f from end v = is_some (f v) && (nat_le from v && nat_lt v end)

-- the window's pages before `at` were gone over
pub record GoesOver (f : ℕ → Option TableEntry) (w : Pages) (from end stop at : ℕ) (old new : List Event) (m : ℕ) : Type 0 where
  pub low : w.first ≤ at
  pub high : at ≤ stop
  pub told : new ≡ old ++ map (λ v. Event.Erase m v) (filter (passes f from end) (numbers w.first (at - w.first)))

no_entry : (f : ℕ → Option TableEntry) (from end v : ℕ) → f v ≡ None → passes f from end v ≡ false
no_entry f from end v h = ap (λ (x : Option TableEntry). is_some x && (nat_le from v && nat_lt v end)) h

not_yet : (b : Bool) (from end v : ℕ) → v < from → (b && (nat_le from v && nat_lt v end)) ≡ false
not_yet true from end v h = grind (arith, nat_tests)
not_yet false from end v h = refl

too_late : (b : Bool) (from end v : ℕ) → end ≤ v → (b && (nat_le from v && nat_lt v end)) ≡ false
too_late true from end v h = grind (arith, nat_tests)
too_late false from end v h = refl

it_passes : (b : Bool) (from end v : ℕ) → b ≡ true → from ≤ v → v < end → (b && (nat_le from v && nat_lt v end)) ≡ true
it_passes b from end v h l k = grind (arith, nat_tests)

-- before the first page nothing is told
pub opens : (f : ℕ → Option TableEntry) (w : Pages) (from end stop at m : ℕ) (old : List Event) → w.first ≤ stop → at ≡ max w.first (min from stop) → GoesOver f w from end stop at old old m
opens f w from end stop at m old le e = record {
  low = omega arith;
  high = omega arith;
  told = sym (append-nil old) ∙ ap (λ vs. old ++ map (λ v. Event.Erase m v) vs) (sym none);
}
  where
    none : filter (passes f from end) (numbers w.first (at - w.first)) ≡ []
    none = none_more (passes f from end) w.first 0 (at - w.first) (omega arith) (λ v l b. not_yet (is_some (f v)) from end v (omega arith))

-- a page with an entry
pub goes_on : (f : ℕ → Option TableEntry) (w : Pages) (from end stop at next m : ℕ) (old new newer : List Event) → GoesOver f w from end stop at old new m
    → stop ≡ max w.first (min end (w.first + w.count)) → (at < stop → from ≤ at) → IsFirstAt f at next → next < stop → newer ≡ new ++ Event.Erase m next ∷ [] → GoesOver f w from end stop (next + 1) old newer m
goes_on f w from end stop at next m old new newer g ends past is below e = record {
  low = omega (arith, g.low, is.above);
  high = omega (arith, below);
  told = e ∙ ap (λ es. es ++ Event.Erase m next ∷ []) g.told ∙ append_assoc old _ _ ∙ ap (λ es. old ++ es) (sym (map-append (λ v. Event.Erase m v) (filter (passes f from end) (numbers w.first (at - w.first))) (next ∷ [])) ∙ ap (map (λ v. Event.Erase m v)) (sym more));
}
  where
    here : w.first + (next - w.first) ≡ next
    here = omega (arith, g.low, is.above)

    more : filter (passes f from end) (numbers w.first ((next + 1) - w.first)) ≡ filter (passes f from end) (numbers w.first (at - w.first)) ++ next ∷ []
    more =
        let count : (next + 1) - w.first ≡ (next - w.first) + 1 = omega (arith, g.low, is.above) in
        let short : at < stop = omega (arith, is.above, below) in
        ap (λ k. filter (passes f from end) (numbers w.first k)) count
        ∙ one_more (passes f from end) w.first (next - w.first) (ap (passes f from end) here ∙ it_passes (is_some (f next)) from end next is.there (omega (arith, past short, is.above)) (omega (arith, g.low, is.above, below, ends)))
        ∙ ap (λ vs. vs ++ (w.first + (next - w.first)) ∷ []) (none_more (passes f from end) w.first (at - w.first) (next - w.first) (omega (arith, is.above)) (λ v l b. no_entry f from end v (is.none v (omega (arith, g.low)) (omega (arith, g.low, is.above)))))
        ∙ ap (λ v. filter (passes f from end) (numbers w.first (at - w.first)) ++ v ∷ []) here

-- the rest of the window has no entry
pub closes : (f : ℕ → Option TableEntry) (w : Pages) (from end stop at m : ℕ) (old new : List Event) → GoesOver f w from end stop at old new m
    → stop ≡ max w.first (min end (w.first + w.count)) → ((v : ℕ) → at ≤ v → v < stop → f v ≡ None) → new ≡ old ++ map (λ v. Event.Erase m v) (erased_between f w from end)
closes f w from end stop at m old new g e none = g.told ∙ ap (λ vs. old ++ map (λ v. Event.Erase m v) vs) (sym all)
  where
    by : (v : ℕ) → at ≤ v → v < w.first + w.count → (v < stop) ⊎ (stop ≤ v) → passes f from end v ≡ false
    by v l b (inl c) = no_entry f from end v (none v l c)
    by v l b (inr c) = too_late (is_some (f v)) from end v (omega (arith, g.low))

    all : filter (passes f from end) (numbers w.first w.count) ≡ filter (passes f from end) (numbers w.first (at - w.first))
    all = none_more (passes f from end) w.first (at - w.first) w.count (omega (arith, g.low, g.high)) (λ v l b. by v (omega (arith, g.low)) b (cases_lt v stop))

-- ---- the driver after an entry

-- the tables after an entry do not depend on the rest of the state
tables_next : (s : Places) (k : Kind) → table_next s.table k ≡ (places_next s k).table
tables_next s (Kind.Set m v f w from) = refl
tables_next s (Kind.Told m r q) = refl
tables_next s (Kind.Detaching m q) = refl
tables_next s (Kind.Detached m) = refl
tables_next s k = refl

abbrev windows_in : Plain → ℕ → Option Pages
windows_in s m = option_map (λ y. y.window) (s.mirrors m)

-- a mirror that goes keeps its window
same_window : (s : Plain) (m k : ℕ) (t : Attachment) → windows_in s k ≡ option_map (λ y. y.window) (with_at s.mirrors m (with_attachment t (s.mirrors m)) k)
same_window s m k t = sym (with_case (λ j (o : Option MirrorState). option_map (λ y. y.window) o ≡ windows_in s j) s.mirrors m (with_attachment t (s.mirrors m)) k (λ _. by (s.mirrors m)) (λ _. refl))
  where
    by : (o : Option MirrorState) → option_map (λ y. y.window) (with_attachment t o) ≡ option_map (λ y. y.window) o
    by None = refl
    by (Some x) = refl

windows_next : (s : Plain) (k : Kind) (m : ℕ) → window_next (windows_in s) k m ≡ windows_in (plain_next s k) m
windows_next s (Kind.Attached m d p r q) k =
    let x : Option MirrorState = Some (record { dev = d; proc = p; window = r; stage = Attached }) in
    sym (with_case (λ j (o : Option MirrorState). option_map (λ y. y.window) o ≡ with_at (windows_in s) m (Some r) j) s.mirrors m x k (λ e. sym (here_at (windows_in s) m (Some r))) (λ ne. sym (other_at (windows_in s) m k (Some r) ne)))
windows_next s (Kind.Detaching m q) k = same_window s m k Detaching
windows_next s (Kind.Detached m) k = same_window s m k Gone
windows_next s k m = refl

pub driver_next : (s : After) (e : Entry) (k : Kind) (x y : Driver) → e.kind ≡ k → tables_of y.tables.tables.items ≡ table_next (tables_of x.tables.tables.items) k
    → windows_of y.windows ≡ window_next (windows_of x.windows) k → IsDriver s x → IsDriver (after_entry s e) y
driver_next s e k x y is tables windows d = record {
  tables = tables ∙ ap (λ (f : ℕ → ℕ → Option TableEntry). table_next f k) d.tables ∙ tables_next s.places k ∙ ap (λ (j : Kind). (places_next s.places j).table) (sym is);
  windows = λ m. ap (λ (f : ℕ → Option Pages). f m) windows
      ∙ ap (λ (f : ℕ → Option Pages). window_next f k m) (fun_ext (λ j. d.windows j))
      ∙ windows_next s.plain k m ∙ ap (λ (j : Kind). windows_in (plain_next s.plain j) m) (sym is);
}

-- ---- what it erases

-- the pages of a window that may not be there
abbrev pages_in : Option Pages → List ℕ
pages_in None = []
pages_in (Some r) = numbers r.first r.count

window_is : (s : After) (m : ℕ) → window_of s m ≡ pages_in (windows_in s.plain m)
window_is s m = by (s.plain.mirrors m)
  where
    by : (o : Option MirrorState) → elim o as (λ z. List ℕ) [ None ↦ [] | Some x ↦ numbers x.window.first x.window.count ] ≡ pages_in (option_map (λ y. y.window) o)
    by None = refl
    by (Some x) = refl

abbrev erased_in : (ℕ → Option TableEntry) → ℕ → Option Pages → Option Pages → List Event
erased_in f m span w = map (λ v. Event.Erase m v) (filter (λ v. is_some (f v) && is_covered span v) (pages_in w))

window_erased : (s : After) (m : ℕ) (x : Driver) (span : Option Pages) → IsDriver s x → erased_where s m span ≡ erased_in (tables_of x.tables.tables.items m) m span (windows_of x.windows m)
window_erased s m x span d =
    ap (λ vs. map (λ v. Event.Erase m v) (filter (λ v. is_some (s.places.table m v) && is_covered span v) vs)) (window_is s m ∙ ap pages_in (sym (d.windows m)))
    ∙ ap (λ (f : ℕ → ℕ → Option TableEntry). erased_in (f m) m span (windows_of x.windows m)) (sym d.tables)

-- with a window, what its pages have between two of them
pub in_window : (s : After) (m : ℕ) (x : Driver) (span : Option Pages) (w : Pages) → IsDriver s x → windows_of x.windows m ≡ Some w
    → map (λ v. Event.Erase m v) (erased_between (tables_of x.tables.tables.items m) w (unwrap_or span w).first ((unwrap_or span w).first + (unwrap_or span w).count)) ≡ erased_where s m span
in_window s m x span w d some = by span ∙ sym (window_erased s m x span d ∙ ap (erased_in (tables_of x.tables.tables.items m) m span) some)
  where
    inside : (b : Bool) (v : ℕ) → w.first ≤ v → v < w.first + w.count → (b && (nat_le w.first v && nat_lt v (w.first + w.count))) ≡ (b && true)
    inside true v l k = grind (arith, nat_tests)
    inside false v l k = refl

    by : (z : Option Pages) → map (λ v. Event.Erase m v) (erased_between (tables_of x.tables.tables.items m) w (unwrap_or z w).first ((unwrap_or z w).first + (unwrap_or z w).count)) ≡ erased_in (tables_of x.tables.tables.items m) m z (Some w)
    by None = ap (map (λ v. Event.Erase m v)) (same_set _ _ w.first w.count (λ v l k. inside (is_some (tables_of x.tables.tables.items m v)) v l k))
    by (Some r) = refl
