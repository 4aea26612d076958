-- No page past the last has a place.
use Rattle.std.proofs.Common.{◌≡◌, ℕ, ◌^◌, ◌≤◌, Bool, true, false, not, ◌==◌, ◌&&◌, nat_le, Option, Some, None, refl, sym, ap, ◌∙◌, subst, arith}
use Rattle.std.specs.Prelude.{option_map, if◌then◌else◌}
use Rattle.std.specs.List.{list_any}
use Rattle.std.proofs.lemmas.Bool.{and_parts}
use Rattle.std.proofs.lemmas.Bool.Decides.{nat_tests}
use Rattle.hm_base.specs.Program.{Program}
use Rattle.hm_base.specs.declared.Place.{Place}
use Rattle.hm_base.specs.PlaceWords.{is_empty_place, writable}
use Rattle.hm_history.specs.Memory.Places.{Places, is_page, lowest, next_page, is_used, table_reads, table_writes, table_sole, entry_passes, TableEntry, may_read, may_write, is_sole, is_target, is_exclusive, is_exclusive_of, stands_for}
use Rattle.hm_history.proofs.Tests.{true_false}
use Rattle.hm_tables.specs.Values.{Tables, place_of_word}
use Rattle.hm_tables.specs.Shown.{TablesShown}
use Rattle.hm_tables.specs.declared.places.PageTest.{PageTest}
use Rattle.hm_tables.proofs.ReadsShown.{next_page_shown}
use Rattle.hm_tables.proofs.Lowest.{IsLowest, lowest_is}
use Rattle.hm_history.proofs.Pages.{none_past, empty_is}

-- what a table allows on a page with that place
abbrev pub by_entry : Places → Option TableEntry → Place → Bool → Bool
by_entry s o x w =
    let reads = entry_passes (λ y. may_read y.right && (is_target (stands_for s x) y.target && not (is_exclusive x))) o in
    if w then reads && (entry_passes (λ y. may_write y.right) o && writable x) else reads

pub past_end : (c : Program) (s : Places) (x : Tables) (p from : ℕ) → TablesShown c s.place s.placed x → 2 ^ 36 ≤ from → None ≡ next_page s is_used p from
past_end c s x p from h l = sym (ap (option_map (λ e. e.0)) (none_past (λ e. is_used (place_of_word e.1)) from _ l (h.tables.ordered p).below)) ∙ next_page_shown c s x h PageTest.Used p from

from_here : (p v : ℕ) (b : Bool) → ((p == p) && (nat_le v v && not b)) ≡ false → b ≡ true
from_here p v true h = refl
from_here p v false h = absurd (true_false ((p == p) && (nat_le v v && true)) (grind (arith, nat_tests)) h)

pub past_place : (c : Program) (s : Places) (x : Tables) (p v : ℕ) → TablesShown c s.place s.placed x → 2 ^ 36 ≤ v → Place.Empty ≡ s.place p v
past_place c s x p v h l = by (lowest test s.placed) (past_end c s x p v h l) (lowest_is test s.placed listed)
  where
    test : ℕ → ℕ → Bool
    test q u = (q == p) && (nat_le v u && is_used (s.place q u))

    used : (b : Bool) → not b ≡ true → b ≡ false
    used true e = cc
    used false e = refl

    listed : (q u : ℕ) → test q u ≡ true → list_any (is_page q u) s.placed ≡ true
    listed q u k = h.listed q u (used (is_empty_place (s.place q u)) (and_parts (nat_le v u) (is_used (s.place q u)) (and_parts (q == p) (nat_le v u && is_used (s.place q u)) k).1).1)

    page : Option (ℕ × ℕ) → Option ℕ
    page o = elim o [ None ↦ None | Some z ↦ Some z.1 ]

    by : (o : Option (ℕ × ℕ)) → None ≡ page o → IsLowest test o → Place.Empty ≡ s.place p v
    by None e k = empty_is (s.place p v) (from_here p v (is_empty_place (s.place p v)) (k p v))
    by (Some z) e k = absurd (let b : ⊥ = cc in b)

-- nor does a table allow anything there
past_entry : (s : Places) (o : Option TableEntry) (w : Bool) (x : Place) → Place.Empty ≡ x → false ≡ by_entry s o x w
past_entry s o w x e = subst (λ y. false ≡ by_entry s o y w) e (by o w)
  where
    and_false : (b : Bool) → false ≡ (b && false)
    and_false true = refl
    and_false false = refl

    by : (o : Option TableEntry) (w : Bool) → false ≡ by_entry s o Place.Empty w
    by None true = refl
    by None false = refl
    by (Some y) true = ap (λ b. b && (may_write y.right && false)) (and_false (may_read y.right))
    by (Some y) false = and_false (may_read y.right)

pub past_table : (c : Program) (s : Places) (x : Tables) (m p v : ℕ) (w : Bool) → TablesShown c s.place s.placed x → 2 ^ 36 ≤ v → false ≡ (if w then table_writes s m p v else table_reads s m p v)
past_table c s x m p v w h l = past_entry s (s.table m v) w (s.place p v) (past_place c s x p v h l)

past_sole_entry : (a : ℕ) (o : Option TableEntry) (x : Place) → Place.Empty ≡ x → false ≡ entry_passes (λ y. is_sole y.right && is_exclusive_of x a y.target) o
past_sole_entry a o x e = subst (λ z. false ≡ entry_passes (λ y. is_sole y.right && is_exclusive_of z a y.target) o) e (by o)
  where
    and_false : (b : Bool) → false ≡ (b && false)
    and_false true = refl
    and_false false = refl

    by : (o : Option TableEntry) → false ≡ entry_passes (λ y. is_sole y.right && is_exclusive_of Place.Empty a y.target) o
    by None = refl
    by (Some y) = and_false (is_sole y.right)

pub past_sole : (c : Program) (s : Places) (x : Tables) (a m p v : ℕ) → TablesShown c s.place s.placed x → 2 ^ 36 ≤ v → false ≡ table_sole s a m p v
past_sole c s x a m p v h l = past_sole_entry a (s.table m v) (s.place p v) (past_place c s x p v h l)
