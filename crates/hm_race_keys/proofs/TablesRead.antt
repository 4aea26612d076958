-- Tables that are read alike have the same items.
use Rattle.std.proofs.Common.{◌≡◌, ℕ, List, Option, Some, None, refl, ap}
use Rattle.hm_history.specs.Memory.Places.{TableEntry}
use Rattle.hm_race_keys.specs.Sparse.{found}
use Rattle.hm_race_keys.specs.TableEntries.{table_in, entry_of}
use Rattle.hm_race_keys.specs.declared.sparse.Item.{Item}
use Rattle.hm_race_keys.specs.declared.table_entries.Mapping.{Mapping}

-- what is kept of an entry
abbrev kept_of : Option TableEntry → Option Mapping
kept_of None = None
kept_of (Some x) = Some (record { target = x.target; right = x.right })

same_entry : (a b : Option Mapping) → entry_of a ≡ entry_of b → a ≡ b
same_entry None None e = refl
same_entry None (Some y) e = ap kept_of e
same_entry (Some x) None e = ap kept_of e
same_entry (Some x) (Some y) e = ap kept_of e

pub table_found : (xs ys : List (Item Mapping)) → ((m v : ℕ) → table_in xs m v ≡ table_in ys m v) → (r k : ℕ) → found xs r k ≡ found ys r k
table_found xs ys e r k = same_entry (found xs r k) (found ys r k) (e r k)
