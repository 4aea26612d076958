-- What names a frame is erased, entry by entry from the last on; and what a driver has at the beginning.
use Rattle.std.proofs.Common.{◌≡◌, ℕ, zero, suc, ◌+◌, ◌-◌, ◌<◌, Bool, true, false, ◌&&◌, if◌then◌else◌, Option, Some, None, List, [], ◌∷◌, length, drop, refl, sym, ap, ◌∙◌, arith}
use Rattle.std.proofs.Math.Path.{fun_ext}
use Rattle.std.specs.Prelude.{is_some, slice_index_or, replicate, nat_lt}
use Rattle.hm_base.specs.Pages.{Pages}
use Rattle.hm_base.specs.declared.Frame.{Frame}
use Rattle.hm_history.specs.Memory.Places.{TableEntry}
use Rattle.hm_history.specs.Memory.Contents.{zeros}
use Rattle.hm_history.specs.Memory.After.{after_nothing}
use Rattle.hm_flaws.specs.Drivers.{Driver, names_frame, driver_of}
use Rattle.hm_race_keys.specs.Sparse.{found, stands_at}
use Rattle.hm_race_keys.specs.declared.sparse.Item.{Item}
use Rattle.hm_flaw_states.specs.FrameBytes.{contents_in}
use Rattle.hm_flaw_states.specs.OwnTables.{table_in}
use Rattle.hm_flaw_states.specs.Owns.{seq_in}
use Rattle.hm_flaw_states.specs.declared.own_tables.OwnEntry.{OwnEntry}
use Rattle.hm_race_states.specs.declared.memory.Written.{Written}

-- one entry more is looked at
looked : (f : Frame) (t old new : Option TableEntry) (a c : Bool) → old ≡ (if c && names_frame t f then None else t) → new ≡ (if a && names_frame old f then None else old) → new ≡ (if (if a then true else c) && names_frame t f then None else t)
looked f t old new false c e h = h ∙ e
looked f t old new true false e h = h ∙ ap (λ (x : Option TableEntry). if names_frame x f then None else x) e
looked f t old new true true e h = by (names_frame t f) refl
  where
    by : (b : Bool) → names_frame t f ≡ b → new ≡ (if b then None else t)
    by true q = let o : old ≡ None = e ∙ rw q refl in h ∙ rw o refl
    by false q = let o : old ≡ t = e ∙ rw q refl in h ∙ rw (o, q) refl

found_more : (x : Item OwnEntry) (xs : List (Item OwnEntry)) (m v : ℕ) → is_some (found (x ∷ xs) m v) ≡ (if stands_at m v x then true else is_some (found xs m v))
found_more x xs m v = by (stands_at m v x)
  where
    by : (b : Bool) → is_some (if b then Some x.value else found xs m v) ≡ (if b then true else is_some (found xs m v))
    by true = refl
    by false = refl

dropped : (xs : List (Item OwnEntry)) (n : ℕ) (x : Item OwnEntry) → n < length xs → x ≡ slice_index_or xs n x → drop n xs ≡ x ∷ drop (suc n) xs
dropped [] n x h e = absurd (omega arith)
dropped (y ∷ xs) zero x h e = ap (λ z. z ∷ xs) (sym e)
dropped (y ∷ xs) (suc n) x h e = dropped xs n x (omega arith) e

pub erased_on : (f : Frame) (xs : List (Item OwnEntry)) (d m v : ℕ) (x : Item OwnEntry) (t old new : Option TableEntry) → d < length xs → x ≡ slice_index_or xs (length xs - (d + 1)) x
    → old ≡ (if is_some (found (drop (length xs - d) xs) m v) && names_frame t f then None else t)
    → new ≡ (if stands_at m v x && names_frame old f then None else old)
    → new ≡ (if is_some (found (drop (length xs - (d + 1)) xs) m v) && names_frame t f then None else t)
erased_on f xs d m v x t old new l e h g =
    let n : suc (length xs - (d + 1)) ≡ length xs - d = omega (arith, l) in
    looked f t old new (stands_at m v x) (is_some (found (drop (length xs - d) xs) m v)) h g
    ∙ ap (λ (b : Bool). if b && names_frame t f then None else t)
    (sym (ap (λ ys. is_some (found ys m v)) (dropped xs (length xs - (d + 1)) x (omega (arith, l)) e) ∙ (found_more x (drop (suc (length xs - (d + 1))) xs) m v ∙ ap (λ (k : ℕ). if stands_at m v x then true else is_some (found (drop k xs) m v)) n)))

pub both_tests : (a b c : Bool) (x : Option TableEntry) → (if a && (b && c) then None else x) ≡ (if (a && b) && c then None else x)
both_tests true b c x = refl
both_tests false b c x = refl

-- before the first entry
driver_made : (t u : ℕ → ℕ → Option TableEntry) (s r : ℕ → ℕ) (l k : ℕ → List (ℕ × Pages)) (b c : Frame → ℕ → ℕ) → t ≡ u → s ≡ r → l ≡ k → b ≡ c
    → (let x : Driver = record { table = t; seq = s; late = l; contents = b } in x) ≡ (let y : Driver = record { table = u; seq = r; late = k; contents = c } in y)
driver_made t u s r l k b c e f g h =
    ap (λ z. let x : Driver = record { table = z; seq = s; late = l; contents = b } in x) e
    ∙ ap (λ z. let x : Driver = record { table = u; seq = z; late = l; contents = b } in x) f
    ∙ ap (λ z. let x : Driver = record { table = u; seq = r; late = z; contents = b } in x) g
    ∙ ap (λ z. let x : Driver = record { table = u; seq = r; late = k; contents = z } in x) h

no_seq : (n m : ℕ) → slice_index_or (replicate n zero) m zero ≡ zero
no_seq zero m = refl
no_seq (suc n) zero = refl
no_seq (suc n) (suc m) = no_seq n m

pub no_bytes : contents_in [] ≡ (λ f. zeros)
no_bytes = fun_ext (λ f. fun_ext (λ o. by (nat_lt o 4096)))
  where
    by : (b : Bool) → (if b then zero else zero) ≡ zero
    by true = refl
    by false = refl

pub begun : (t : List (Item OwnEntry)) (qs : List ℕ) (l : ℕ → List (ℕ × Pages)) (b : List (Item Written)) → t ≡ [] → qs ≡ replicate 32 zero → ((a : ℕ) → l a ≡ []) → b ≡ []
    → (let x : Driver = record { table = table_in t; seq = seq_in qs; late = l; contents = contents_in b } in x) ≡ driver_of after_nothing
begun t qs l b e f g h = driver_made (table_in t) (λ m v. None) (seq_in qs) (λ m. 0) l (λ a. []) (contents_in b) (λ k. zeros)
    (ap table_in e) (fun_ext (λ m. ap (λ ns. seq_in ns m) f ∙ no_seq 32 m)) (fun_ext g) (ap contents_in h ∙ no_bytes)
