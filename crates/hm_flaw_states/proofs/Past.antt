-- Nothing lies past the last page.
use Rattle.std.proofs.Common.{◌≡◌, ℕ, ◌^◌, ◌≤◌, true, Option, Some, None, List, refl, sym, ap, ◌∙◌, nat_lt, arith}
use Rattle.std.specs.Prelude.{is_some, not, unwrap_or, ◌&&◌}
use Rattle.std.proofs.lemmas.Bool.{and_parts}
use Rattle.std.proofs.lemmas.Bool.Decides.{nat_tests}
use Rattle.hm_base.specs.PlaceWords.{is_empty_place}
use Rattle.hm_base.specs.declared.Frame.{Frame}
use Rattle.hm_base.specs.declared.Place.{Place}
use Rattle.hm_history.specs.Memory.Contents.{backing, shown_by}
use Rattle.hm_history.specs.Memory.Places.{Places}
use Rattle.hm_history.specs.Memory.Words.{page_of}
use Rattle.hm_history.proofs.Pages.{address_past}
use Rattle.hm_flaws.specs.Drivers.{Driver, target_at, target_in}
use Rattle.hm_race_keys.specs.PagePlaces.{IsPlaced, may_keep, places_in}
use Rattle.hm_race_keys.specs.Sparse.{found}
use Rattle.hm_race_keys.specs.declared.sparse.Item.{Item}
use Rattle.hm_flaw_states.specs.OwnTables.{AreOfPages, entry_of, table_in}
use Rattle.hm_flaw_states.specs.declared.own_tables.OwnEntry.{OwnEntry}

within : (v : ℕ) → nat_lt v (2 ^ 36) ≡ true → 2 ^ 36 ≤ v → ⊥
within v e l = grind (arith, nat_tests)

-- no place
pub place_past : (xs : List (Item Place)) → IsPlaced xs → (p v : ℕ) → 2 ^ 36 ≤ v → places_in xs p v ≡ Place.Empty
place_past xs h p v l = by (found xs p v) (h p v)
  where
    by : (o : Option Place) → may_keep p v o ≡ true → unwrap_or o Place.Empty ≡ Place.Empty
    by None e = refl
    by (Some x) e = absurd (within v (and_parts (nat_lt v (2 ^ 36)) (not (is_empty_place x)) (and_parts (nat_lt p 32) (nat_lt v (2 ^ 36) && not (is_empty_place x)) e).1).0 l)

-- no table entry
pub table_past : (xs : List (Item OwnEntry)) → AreOfPages xs → (m v : ℕ) → 2 ^ 36 ≤ v → table_in xs m v ≡ None
table_past xs h m v l = by (found xs m v) refl
  where
    by : (o : Option OwnEntry) → found xs m v ≡ o → entry_of o ≡ None
    by None e = refl
    by (Some x) e = absurd (omega (arith, l, h m v (ap is_some e)))

-- no frame
pub backing_past : (t : Places) (p at : ℕ) → ((q v : ℕ) → 2 ^ 36 ≤ v → t.place q v ≡ Place.Empty) → 2 ^ 48 ≤ at → None ≡ backing t (t.place p (page_of at))
backing_past t p at h l = sym (ap (backing t) (h p (page_of at) (address_past at l)))

pub target_past : (x : Driver) (xs : List (Item OwnEntry)) (m at : ℕ) → x.table ≡ table_in xs → AreOfPages xs → 2 ^ 48 ≤ at → None ≡ target_at x m at
target_past x xs m at e h l = sym (ap (λ o. target_in o) (ap (λ f. f m (page_of at)) e ∙ table_past xs h m (page_of at) (address_past at l)))

-- no byte but 0
pub byte_past : (f : Frame → ℕ → ℕ) (x : Option Frame) (o : ℕ) → None ≡ x → 0 ≡ shown_by f x o
byte_past f x o e = ap (λ y. shown_by f y o) e
