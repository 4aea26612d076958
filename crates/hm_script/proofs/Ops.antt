-- The line of an operation is read exactly where it is the operation's text.
use Rattle.std.proofs.Common.{◌≡◌, ℕ, ◌^◌, ◌<◌, ◌≤◌, true, ◌&&◌, List, ◌∷◌, length, Ok, refl, sym, ap, subst, ◌∙◌, arith}
use Rattle.std.specs.Prelude.{codes, nat_lt}
use Rattle.std.specs.List.{list_all}
use Rattle.std.specs.Fmt.{decimal}
use Rattle.std.proofs.lemmas.Bool.Decides.{nat_tests}
use Rattle.std.proofs.lemmas.Bool.{and_parts}
use Rattle.hm_base.specs.Pages.{Pages, span}
use Rattle.hm_base.specs.Program.{op_of_version, op_in_range, op_declared, op_bytes, op_fits, span_in_range, access_in_range}
use Rattle.hm_base.specs.declared.ops.Op.{Op}
use Rattle.hm_base.specs.declared.ops.Version.{Version}
use Rattle.hm_base.specs.declared.ops.Op.TheVariants.{Map, Unmap, Protect, Load, Store, Fork, Exit, Attach, Detach, DeviceLoad, DeviceStore, ToDevice, ToSystem, Snap, Evict, Remove, Exclusive, Add}
use Rattle.hm_script.specs.declared.keyword.OpWord.{OpWord}
use Rattle.hm_script.specs.declared.keyword.OpWord.TheVariants as word_of
use Rattle.hm_script.specs.declared.reason.Reason.TheVariants.{Range, Undeclared}
use Rattle.hm_script.specs.Splitting.{word}
use Rattle.hm_script.specs.Spelling.{op_words, address_text, hex_text, right_text}
use Rattle.hm_script.specs.Keywords.{op_text}
use Rattle.hm_script.specs.Numerals.{number, address, hex, right}
use Rattle.hm_script.specs.Reading.{checked, op_at}
use Rattle.hm_script.specs.Built.{op_word, word_of_version}
use Rattle.hm_script.proofs.Pairs.{is_byte}
use Rattle.hm_script.proofs.Readers.{Fits64, FitsHex, FitsRight, numbers, addresses, hexes, rights}
use Rattle.hm_script.proofs.Steps.{demand_ok, ok_is, is_plain, one-takes, two-takes, three-takes, four-takes, five-takes, one-again, two-again, three-again, four-again, five-again, one-plain, two-plain, three-plain, four-plain, five-plain}

-- ---- the checks

pub fits_parts : (d : ℕ) (op : Op) → op_fits d op ≡ true → (op_in_range op ≡ true) × (op_declared d op ≡ true) × (list_all is_byte (op_bytes op) ≡ true)
fits_parts d op h =
    let r = (and_parts (op_in_range op) (op_declared d op && list_all is_byte (op_bytes op)) h).1 in
    ((and_parts (op_in_range op) (op_declared d op && list_all is_byte (op_bytes op)) h).0, (and_parts (op_declared d op) (list_all is_byte (op_bytes op)) r).0, (and_parts (op_declared d op) (list_all is_byte (op_bytes op)) r).1)

-- the line has the words of the operation, which passed its checks and has this word
pub record TakesOp (d : ℕ) (w : OpWord) (ws : List (List ℕ)) (op : Op) : Type 0 where
  pub words : ws ≡ op_words op
  pub fits : op_fits d op ≡ true
  pub word : op_word op ≡ w

closes : (d : ℕ) (w : OpWord) (o op : Op) (ws : List (List ℕ)) → checked d o ≡ Ok op → ws ≡ op_words o → list_all is_byte (op_bytes o) ≡ true → op_word o ≡ w → TakesOp d w ws op
closes d w o op ws e words bytes named =
    let r = demand_ok (op_in_range o) Range _ op e in
    let n = demand_ok (op_declared d o) Undeclared _ op r.1 in
    subst (TakesOp d w ws) (ok_is o op n.1) (record { words = words; fits = rw (r.0, n.0, bytes) refl; word = named })

passes : (d : ℕ) (op : Op) → op_fits d op ≡ true → checked d op ≡ Ok op
passes d op h = let f = fits_parts d op h in rw (f.0, f.1) refl

head_is : (ws rest : List (List ℕ)) (t : List ℕ) → ws ≡ word 0 ws ∷ rest → t ≡ word 0 ws → ws ≡ t ∷ rest
head_is ws rest t e h = e ∙ ap (λ (w : List ℕ). w ∷ rest) (sym h)

-- ---- numbers in range fit 64 bits

fits_32 : (n : ℕ) → nat_lt n 32 ≡ true → n < 2 ^ 64
fits_32 n h = grind (arith, nat_tests)

fits_below : (n limit : ℕ) → limit ≤ 2 ^ 64 → nat_lt n limit ≡ true → n < 2 ^ 64
fits_below n limit le h = grind (arith, nat_tests)

fits_device : (d n : ℕ) → d ≤ 4 → nat_lt n d ≡ true → n < 2 ^ 64
fits_device d n le h = grind (arith, nat_tests)

fits_span : (s : Pages) (most : ℕ) → span_in_range s most ≡ true → (s.first < 2 ^ 64) × (s.count < 2 ^ 64)
fits_span s most h = (grind (arith, nat_tests), grind (arith, nat_tests))

fits_access : (a n : ℕ) → access_in_range a n ≡ true → (a < 2 ^ 64) × (n < 2 ^ 64) × (0 < n)
fits_access a n h = (grind (arith, nat_tests), grind (arith, nat_tests), grind (arith, nat_tests))

-- ---- each operation

pub op-takes : (d : ℕ) (w : OpWord) (ws : List (List ℕ)) (op : Op) → op_at d w ws ≡ Ok op → op_text w ≡ word 0 ws → TakesOp d w ws op
unfolding op_at
op-takes devices word_of.Map ws op e t = let k = four-takes number decimal Fits64 numbers number decimal Fits64 numbers number decimal Fits64 numbers right right_text FitsRight rights (λ p v n r. checked devices (Map p (span v n) r)) ws op e in closes devices word_of.Map (Map k.a (span k.b k.c) k.d) op ws k.made (head_is ws _ (codes "map") k.words t) refl refl
op-takes devices word_of.Unmap ws op e t = let k = three-takes number decimal Fits64 numbers number decimal Fits64 numbers number decimal Fits64 numbers (λ p v n. checked devices (Unmap p (span v n))) ws op e in closes devices word_of.Unmap (Unmap k.a (span k.b k.c)) op ws k.made (head_is ws _ (codes "unmap") k.words t) refl refl
op-takes devices word_of.Protect ws op e t = let k = four-takes number decimal Fits64 numbers number decimal Fits64 numbers number decimal Fits64 numbers right right_text FitsRight rights (λ p v n r. checked devices (Protect p (span v n) r)) ws op e in closes devices word_of.Protect (Protect k.a (span k.b k.c) k.d) op ws k.made (head_is ws _ (codes "protect") k.words t) refl refl
op-takes devices word_of.Load ws op e t = let k = three-takes number decimal Fits64 numbers address address_text Fits64 addresses number decimal Fits64 numbers (λ p a n. checked devices (Load p a n)) ws op e in closes devices word_of.Load (Load k.a k.b k.c) op ws k.made (head_is ws _ (codes "load") k.words t) refl refl
op-takes devices word_of.Store ws op e t = let k = three-takes number decimal Fits64 numbers address address_text Fits64 addresses hex hex_text FitsHex hexes (λ p a b. checked devices (Store p a b)) ws op e in closes devices word_of.Store (Store k.a k.b k.c) op ws k.made (head_is ws _ (codes "store") k.words t) k.fits_c.1 refl
op-takes devices word_of.Fork ws op e t = let k = two-takes number decimal Fits64 numbers number decimal Fits64 numbers (λ p c. checked devices (Fork p c)) ws op e in closes devices word_of.Fork (Fork k.a k.b) op ws k.made (head_is ws _ (codes "fork") k.words t) refl refl
op-takes devices word_of.Exit ws op e t = let k = one-takes number decimal Fits64 numbers (λ p. checked devices (Exit p)) ws op e in closes devices word_of.Exit (Exit k.a) op ws k.made (head_is ws _ (codes "exit") k.words t) refl refl
op-takes devices word_of.Attach ws op e t = let k = five-takes number decimal Fits64 numbers number decimal Fits64 numbers number decimal Fits64 numbers number decimal Fits64 numbers number decimal Fits64 numbers (λ m d p v n. checked devices (Attach m d p (span v n))) ws op e in closes devices word_of.Attach (Attach k.a k.b k.c (span k.d k.e)) op ws k.made (head_is ws _ (codes "attach") k.words t) refl refl
op-takes devices word_of.Detach ws op e t = let k = one-takes number decimal Fits64 numbers (λ m. checked devices (Detach m)) ws op e in closes devices word_of.Detach (Detach k.a) op ws k.made (head_is ws _ (codes "detach") k.words t) refl refl
op-takes devices word_of.DeviceLoad ws op e t = let k = three-takes number decimal Fits64 numbers address address_text Fits64 addresses number decimal Fits64 numbers (λ m a n. checked devices (DeviceLoad m a n)) ws op e in closes devices word_of.DeviceLoad (DeviceLoad k.a k.b k.c) op ws k.made (head_is ws _ (codes "dload") k.words t) refl refl
op-takes devices word_of.DeviceStore ws op e t = let k = three-takes number decimal Fits64 numbers address address_text Fits64 addresses hex hex_text FitsHex hexes (λ m a b. checked devices (DeviceStore m a b)) ws op e in closes devices word_of.DeviceStore (DeviceStore k.a k.b k.c) op ws k.made (head_is ws _ (codes "dstore") k.words t) k.fits_c.1 refl
op-takes devices word_of.ToDevice ws op e t = let k = three-takes number decimal Fits64 numbers number decimal Fits64 numbers number decimal Fits64 numbers (λ m v n. checked devices (ToDevice m (span v n))) ws op e in closes devices word_of.ToDevice (ToDevice k.a (span k.b k.c)) op ws k.made (head_is ws _ (codes "todev") k.words t) refl refl
op-takes devices word_of.ToSystem ws op e t = let k = three-takes number decimal Fits64 numbers number decimal Fits64 numbers number decimal Fits64 numbers (λ m v n. checked devices (ToSystem m (span v n))) ws op e in closes devices word_of.ToSystem (ToSystem k.a (span k.b k.c)) op ws k.made (head_is ws _ (codes "tosys") k.words t) refl refl
op-takes devices word_of.Snap ws op e t = let k = three-takes number decimal Fits64 numbers number decimal Fits64 numbers number decimal Fits64 numbers (λ m v n. checked devices (Snap m (span v n))) ws op e in closes devices word_of.Snap (Snap k.a (span k.b k.c)) op ws k.made (head_is ws _ (codes "snap") k.words t) refl refl
op-takes devices word_of.Evict ws op e t = let k = one-takes number decimal Fits64 numbers (λ d. checked devices (Evict d)) ws op e in closes devices word_of.Evict (Evict k.a) op ws k.made (head_is ws _ (codes "evict") k.words t) refl refl
op-takes devices word_of.Remove ws op e t = let k = one-takes number decimal Fits64 numbers (λ d. checked devices (Remove d)) ws op e in closes devices word_of.Remove (Remove k.a) op ws k.made (head_is ws _ (codes "remove") k.words t) refl refl
op-takes devices word_of.Exclusive ws op e t = let k = two-takes number decimal Fits64 numbers number decimal Fits64 numbers (λ m v. checked devices (Exclusive m v)) ws op e in closes devices word_of.Exclusive (Exclusive k.a k.b) op ws k.made (head_is ws _ (codes "exclusive") k.words t) refl refl
op-takes devices word_of.Add ws op e t = let k = three-takes number decimal Fits64 numbers address address_text Fits64 addresses number decimal Fits64 numbers (λ m a k. checked devices (Add m a k)) ws op e in closes devices word_of.Add (Add k.a k.b k.c) op ws k.made (head_is ws _ (codes "dadd") k.words t) refl refl

pub op-word : (op : Op) → word 0 (op_words op) ≡ op_text (op_word op)
op-word (Map p s r) = refl
op-word (Unmap p s) = refl
op-word (Protect p s r) = refl
op-word (Load p a n) = refl
op-word (Store p a b) = refl
op-word (Fork p c) = refl
op-word (Exit p) = refl
op-word (Attach m d p s) = refl
op-word (Detach m) = refl
op-word (DeviceLoad m a n) = refl
op-word (DeviceStore m a b) = refl
op-word (ToDevice m s) = refl
op-word (ToSystem m s) = refl
op-word (Snap m s) = refl
op-word (Evict d) = refl
op-word (Remove d) = refl
op-word (Exclusive m v) = refl
op-word (Add m a k) = refl

-- an operation is new exactly where its word is
pub new-word : (v : Version) (op : Op) → op_of_version v op ≡ word_of_version v (op_word op)
new-word e (Map p s r) = refl
new-word e (Unmap p s) = refl
new-word e (Protect p s r) = refl
new-word e (Load p a n) = refl
new-word e (Store p a b) = refl
new-word e (Fork p c) = refl
new-word e (Exit p) = refl
new-word e (Attach m d p s) = refl
new-word e (Detach m) = refl
new-word e (DeviceLoad m a n) = refl
new-word e (DeviceStore m a b) = refl
new-word e (ToDevice m s) = refl
new-word e (ToSystem m s) = refl
new-word e (Snap m s) = refl
new-word e (Evict d) = refl
new-word e (Remove d) = refl
new-word e (Exclusive m v) = refl
new-word e (Add m a k) = refl

pub record IsAgain (d : ℕ) (op : Op) : Type 0 where
  pub reads : op_at d (op_word op) (op_words op) ≡ Ok op
  pub plain : list_all (list_all is_plain) (op_words op) ≡ true

pub op-again : (e : ℕ) (op : Op) → e ≤ 4 → op_fits e op ≡ true → IsAgain e op
unfolding op_at
op-again e (Map p s r) le h = let f = fits_parts e (Map p s r) h in let x = fits_32 p (and_parts (nat_lt p 32) (span_in_range s 65536) f.0).0 in let y = fits_span s 65536 (and_parts (nat_lt p 32) (span_in_range s 65536) f.0).1 in record { reads = four-again number decimal Fits64 numbers number decimal Fits64 numbers number decimal Fits64 numbers right right_text FitsRight rights (λ p v n r. checked e (Map p (span v n) r)) (codes "map") p s.first s.count r refl x y.0 y.1 tt ∙ passes e (Map p s r) h; plain = four-plain number decimal Fits64 numbers number decimal Fits64 numbers number decimal Fits64 numbers right right_text FitsRight rights (λ p v n r. checked e (Map p (span v n) r)) (codes "map") p s.first s.count r refl x y.0 y.1 tt }
op-again e (Unmap p s) le h = let f = fits_parts e (Unmap p s) h in let x = fits_32 p (and_parts (nat_lt p 32) (span_in_range s 65536) f.0).0 in let y = fits_span s 65536 (and_parts (nat_lt p 32) (span_in_range s 65536) f.0).1 in record { reads = three-again number decimal Fits64 numbers number decimal Fits64 numbers number decimal Fits64 numbers (λ p v n. checked e (Unmap p (span v n))) (codes "unmap") p s.first s.count refl x y.0 y.1 ∙ passes e (Unmap p s) h; plain = three-plain number decimal Fits64 numbers number decimal Fits64 numbers number decimal Fits64 numbers (λ p v n. checked e (Unmap p (span v n))) (codes "unmap") p s.first s.count refl x y.0 y.1 }
op-again e (Protect p s r) le h = let f = fits_parts e (Protect p s r) h in let x = fits_32 p (and_parts (nat_lt p 32) (span_in_range s 65536) f.0).0 in let y = fits_span s 65536 (and_parts (nat_lt p 32) (span_in_range s 65536) f.0).1 in record { reads = four-again number decimal Fits64 numbers number decimal Fits64 numbers number decimal Fits64 numbers right right_text FitsRight rights (λ p v n r. checked e (Protect p (span v n) r)) (codes "protect") p s.first s.count r refl x y.0 y.1 tt ∙ passes e (Protect p s r) h; plain = four-plain number decimal Fits64 numbers number decimal Fits64 numbers number decimal Fits64 numbers right right_text FitsRight rights (λ p v n r. checked e (Protect p (span v n) r)) (codes "protect") p s.first s.count r refl x y.0 y.1 tt }
op-again e (Load p a n) le h = let f = fits_parts e (Load p a n) h in let x = fits_32 p (and_parts (nat_lt p 32) (access_in_range a n) f.0).0 in let y = fits_access a n (and_parts (nat_lt p 32) (access_in_range a n) f.0).1 in record { reads = three-again number decimal Fits64 numbers address address_text Fits64 addresses number decimal Fits64 numbers (λ p a n. checked e (Load p a n)) (codes "load") p a n refl x y.0 y.1 ∙ passes e (Load p a n) h; plain = three-plain number decimal Fits64 numbers address address_text Fits64 addresses number decimal Fits64 numbers (λ p a n. checked e (Load p a n)) (codes "load") p a n refl x y.0 y.1 }
op-again e (Store p a b) le h = let f = fits_parts e (Store p a b) h in let x = fits_32 p (and_parts (nat_lt p 32) (access_in_range a (length b)) f.0).0 in let y = fits_access a (length b) (and_parts (nat_lt p 32) (access_in_range a (length b)) f.0).1 in record { reads = three-again number decimal Fits64 numbers address address_text Fits64 addresses hex hex_text FitsHex hexes (λ p a b. checked e (Store p a b)) (codes "store") p a b refl x y.0 (y.2, f.2) ∙ passes e (Store p a b) h; plain = three-plain number decimal Fits64 numbers address address_text Fits64 addresses hex hex_text FitsHex hexes (λ p a b. checked e (Store p a b)) (codes "store") p a b refl x y.0 (y.2, f.2) }
op-again e (Fork p c) le h = let f = fits_parts e (Fork p c) h in let x = fits_32 p (and_parts (nat_lt p 32) (nat_lt c 32) f.0).0 in let y = fits_32 c (and_parts (nat_lt p 32) (nat_lt c 32) f.0).1 in record { reads = two-again number decimal Fits64 numbers number decimal Fits64 numbers (λ p c. checked e (Fork p c)) (codes "fork") p c refl x y ∙ passes e (Fork p c) h; plain = two-plain number decimal Fits64 numbers number decimal Fits64 numbers (λ p c. checked e (Fork p c)) (codes "fork") p c refl x y }
op-again e (Exit p) le h = let f = fits_parts e (Exit p) h in record { reads = one-again number decimal Fits64 numbers (λ p. checked e (Exit p)) (codes "exit") p refl (fits_32 p f.0) ∙ passes e (Exit p) h; plain = one-plain number decimal Fits64 numbers (λ p. checked e (Exit p)) (codes "exit") p refl (fits_32 p f.0) }
op-again e (Attach m d p s) le h = let f = fits_parts e (Attach m d p s) h in let g = (and_parts (nat_lt m 32) (nat_lt p 32 && span_in_range s 65536) f.0).1 in let x = fits_32 m (and_parts (nat_lt m 32) (nat_lt p 32 && span_in_range s 65536) f.0).0 in let z = fits_32 p (and_parts (nat_lt p 32) (span_in_range s 65536) g).0 in let y = fits_span s 65536 (and_parts (nat_lt p 32) (span_in_range s 65536) g).1 in record { reads = five-again number decimal Fits64 numbers number decimal Fits64 numbers number decimal Fits64 numbers number decimal Fits64 numbers number decimal Fits64 numbers (λ m d p v n. checked e (Attach m d p (span v n))) (codes "attach") m d p s.first s.count refl x (fits_device e d le f.1) z y.0 y.1 ∙ passes e (Attach m d p s) h; plain = five-plain number decimal Fits64 numbers number decimal Fits64 numbers number decimal Fits64 numbers number decimal Fits64 numbers number decimal Fits64 numbers (λ m d p v n. checked e (Attach m d p (span v n))) (codes "attach") m d p s.first s.count refl x (fits_device e d le f.1) z y.0 y.1 }
op-again e (Detach m) le h = let f = fits_parts e (Detach m) h in record { reads = one-again number decimal Fits64 numbers (λ m. checked e (Detach m)) (codes "detach") m refl (fits_32 m f.0) ∙ passes e (Detach m) h; plain = one-plain number decimal Fits64 numbers (λ m. checked e (Detach m)) (codes "detach") m refl (fits_32 m f.0) }
op-again e (DeviceLoad m a n) le h = let f = fits_parts e (DeviceLoad m a n) h in let x = fits_32 m (and_parts (nat_lt m 32) (access_in_range a n) f.0).0 in let y = fits_access a n (and_parts (nat_lt m 32) (access_in_range a n) f.0).1 in record { reads = three-again number decimal Fits64 numbers address address_text Fits64 addresses number decimal Fits64 numbers (λ m a n. checked e (DeviceLoad m a n)) (codes "dload") m a n refl x y.0 y.1 ∙ passes e (DeviceLoad m a n) h; plain = three-plain number decimal Fits64 numbers address address_text Fits64 addresses number decimal Fits64 numbers (λ m a n. checked e (DeviceLoad m a n)) (codes "dload") m a n refl x y.0 y.1 }
op-again e (DeviceStore m a b) le h = let f = fits_parts e (DeviceStore m a b) h in let x = fits_32 m (and_parts (nat_lt m 32) (access_in_range a (length b)) f.0).0 in let y = fits_access a (length b) (and_parts (nat_lt m 32) (access_in_range a (length b)) f.0).1 in record { reads = three-again number decimal Fits64 numbers address address_text Fits64 addresses hex hex_text FitsHex hexes (λ m a b. checked e (DeviceStore m a b)) (codes "dstore") m a b refl x y.0 (y.2, f.2) ∙ passes e (DeviceStore m a b) h; plain = three-plain number decimal Fits64 numbers address address_text Fits64 addresses hex hex_text FitsHex hexes (λ m a b. checked e (DeviceStore m a b)) (codes "dstore") m a b refl x y.0 (y.2, f.2) }
op-again e (ToDevice m s) le h = let f = fits_parts e (ToDevice m s) h in let x = fits_32 m (and_parts (nat_lt m 32) (span_in_range s 64) f.0).0 in let y = fits_span s 64 (and_parts (nat_lt m 32) (span_in_range s 64) f.0).1 in record { reads = three-again number decimal Fits64 numbers number decimal Fits64 numbers number decimal Fits64 numbers (λ m v n. checked e (ToDevice m (span v n))) (codes "todev") m s.first s.count refl x y.0 y.1 ∙ passes e (ToDevice m s) h; plain = three-plain number decimal Fits64 numbers number decimal Fits64 numbers number decimal Fits64 numbers (λ m v n. checked e (ToDevice m (span v n))) (codes "todev") m s.first s.count refl x y.0 y.1 }
op-again e (ToSystem m s) le h = let f = fits_parts e (ToSystem m s) h in let x = fits_32 m (and_parts (nat_lt m 32) (span_in_range s 64) f.0).0 in let y = fits_span s 64 (and_parts (nat_lt m 32) (span_in_range s 64) f.0).1 in record { reads = three-again number decimal Fits64 numbers number decimal Fits64 numbers number decimal Fits64 numbers (λ m v n. checked e (ToSystem m (span v n))) (codes "tosys") m s.first s.count refl x y.0 y.1 ∙ passes e (ToSystem m s) h; plain = three-plain number decimal Fits64 numbers number decimal Fits64 numbers number decimal Fits64 numbers (λ m v n. checked e (ToSystem m (span v n))) (codes "tosys") m s.first s.count refl x y.0 y.1 }
op-again e (Snap m s) le h = let f = fits_parts e (Snap m s) h in let x = fits_32 m (and_parts (nat_lt m 32) (span_in_range s 64) f.0).0 in let y = fits_span s 64 (and_parts (nat_lt m 32) (span_in_range s 64) f.0).1 in record { reads = three-again number decimal Fits64 numbers number decimal Fits64 numbers number decimal Fits64 numbers (λ m v n. checked e (Snap m (span v n))) (codes "snap") m s.first s.count refl x y.0 y.1 ∙ passes e (Snap m s) h; plain = three-plain number decimal Fits64 numbers number decimal Fits64 numbers number decimal Fits64 numbers (λ m v n. checked e (Snap m (span v n))) (codes "snap") m s.first s.count refl x y.0 y.1 }
op-again e (Evict d) le h = let f = fits_parts e (Evict d) h in record { reads = one-again number decimal Fits64 numbers (λ d. checked e (Evict d)) (codes "evict") d refl (fits_device e d le f.1) ∙ passes e (Evict d) h; plain = one-plain number decimal Fits64 numbers (λ d. checked e (Evict d)) (codes "evict") d refl (fits_device e d le f.1) }
op-again e (Remove d) le h = let f = fits_parts e (Remove d) h in record { reads = one-again number decimal Fits64 numbers (λ d. checked e (Remove d)) (codes "remove") d refl (fits_device e d le f.1) ∙ passes e (Remove d) h; plain = one-plain number decimal Fits64 numbers (λ d. checked e (Remove d)) (codes "remove") d refl (fits_device e d le f.1) }
op-again e (Exclusive m v) le h = let f = fits_parts e (Exclusive m v) h in let x = fits_32 m (and_parts (nat_lt m 32) (nat_lt v (2 ^ 36)) f.0).0 in let y = fits_below v (2 ^ 36) (omega arith) (and_parts (nat_lt m 32) (nat_lt v (2 ^ 36)) f.0).1 in record { reads = two-again number decimal Fits64 numbers number decimal Fits64 numbers (λ m v. checked e (Exclusive m v)) (codes "exclusive") m v refl x y ∙ passes e (Exclusive m v) h; plain = two-plain number decimal Fits64 numbers number decimal Fits64 numbers (λ m v. checked e (Exclusive m v)) (codes "exclusive") m v refl x y }
op-again e (Add m a k) le h = let f = fits_parts e (Add m a k) h in let g = (and_parts (nat_lt m 32) (nat_lt a (2 ^ 48) && nat_lt k 256) f.0).1 in let x = fits_32 m (and_parts (nat_lt m 32) (nat_lt a (2 ^ 48) && nat_lt k 256) f.0).0 in let y = fits_below a (2 ^ 48) (omega arith) (and_parts (nat_lt a (2 ^ 48)) (nat_lt k 256) g).0 in let z = fits_below k 256 (omega arith) (and_parts (nat_lt a (2 ^ 48)) (nat_lt k 256) g).1 in record { reads = three-again number decimal Fits64 numbers address address_text Fits64 addresses number decimal Fits64 numbers (λ m a k. checked e (Add m a k)) (codes "dadd") m a k refl x y z ∙ passes e (Add m a k) h; plain = three-plain number decimal Fits64 numbers address address_text Fits64 addresses number decimal Fits64 numbers (λ m a k. checked e (Add m a k)) (codes "dadd") m a k refl x y z }
