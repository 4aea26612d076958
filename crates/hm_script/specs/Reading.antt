-- Reading a line, with the first reason that it is bad.
use Rattle.std.specs.Prelude.{ℕ, Bool, ◌&&◌, not, List, length, Result, Ok, Err, ◌==◌, if◌then◌else◌}
use Rattle.std.specs.List.{list_all}
use Rattle.hm_base.specs.Pages.{span}
use Rattle.hm_base.specs.Program.{op_in_range, op_declared}
use Rattle.hm_base.specs.declared.ops.Op.{Op}
use Rattle.hm_base.specs.declared.ops.Op.TheVariants.{Map, Unmap, Protect, Load, Store, Fork, Exit, Attach, Detach}
use Rattle.hm_base.specs.declared.ops.Op.TheVariants.{DeviceLoad, DeviceStore, ToDevice, ToSystem, Snap, Evict, Remove}
use Rattle.hm_base.specs.declared.ops.Op.TheVariants.{Exclusive, Add}
use Rattle.hm_script.specs.declared.keyword.OpWord.{OpWord}
use Rattle.hm_script.specs.declared.keyword.OpWord.TheVariants as word_of
use Rattle.hm_script.specs.declared.reason.Reason.{Reason}
use Rattle.hm_script.specs.declared.reason.Reason.TheVariants.{Shape, Range, Undeclared}
use Rattle.hm_script.specs.Gives.{◌>>=◌}
use Rattle.hm_script.specs.Splitting.{word}
use Rattle.hm_script.specs.Numerals.{number, address, hex, right}

-- nothing if the test holds, and else this reason
abbrev pub demand : Bool → Reason → Result (Unit {0}) Reason
demand test r = if test then Ok tt else Err r

-- ---- the words after the first

-- two spaces in a row leave an empty word between them, which no line may have
abbrev pub is_some_word : List ℕ → Bool
is_some_word w = not (length w == 0)

-- there are `count` words, none of them empty
unfoldable pub shape : ℕ → List (List ℕ) → Result (Unit {0}) Reason
shape count words = demand ((length words == count) && list_all is_some_word words) Shape

-- one word after the first, by its reader, and what is made of it
abbrev pub one : {A B : Type 0} → (List ℕ → Result A Reason) → (A → Result B Reason) → List (List ℕ) → Result B Reason
one f make words = do
  _ ← shape 2 words
  a ← f (word 1 words)
  make a

-- as `one`, with two words after the first
abbrev pub two : {A B C : Type 0} → (List ℕ → Result A Reason) → (List ℕ → Result B Reason)
    → (A → B → Result C Reason) → List (List ℕ) → Result C Reason
two f g make words = do
  _ ← shape 3 words
  a ← f (word 1 words)
  b ← g (word 2 words)
  make a b

-- as `one`, with three words after the first
abbrev pub three : {A B C D : Type 0} → (List ℕ → Result A Reason) → (List ℕ → Result B Reason)
    → (List ℕ → Result C Reason) → (A → B → C → Result D Reason) → List (List ℕ) → Result D Reason
three f g h make words = do
  _ ← shape 4 words
  a ← f (word 1 words)
  b ← g (word 2 words)
  c ← h (word 3 words)
  make a b c

-- as `one`, with four words after the first
abbrev pub four : {A B C D E : Type 0} → (List ℕ → Result A Reason) → (List ℕ → Result B Reason)
    → (List ℕ → Result C Reason) → (List ℕ → Result D Reason) → (A → B → C → D → Result E Reason) → List (List ℕ)
    → Result E Reason
four f g h i make words = do
  _ ← shape 5 words
  a ← f (word 1 words)
  b ← g (word 2 words)
  c ← h (word 3 words)
  d ← i (word 4 words)
  make a b c d

-- as `one`, with five words after the first
abbrev pub five : {A B C D E F : Type 0} → (List ℕ → Result A Reason) → (List ℕ → Result B Reason)
    → (List ℕ → Result C Reason) → (List ℕ → Result D Reason) → (List ℕ → Result E Reason)
    → (A → B → C → D → E → Result F Reason) → List (List ℕ) → Result F Reason
five f g h i j make words = do
  _ ← shape 6 words
  a ← f (word 1 words)
  b ← g (word 2 words)
  c ← h (word 3 words)
  d ← i (word 4 words)
  e ← j (word 5 words)
  make a b c d e

-- ---- operations

-- the operation, if its numbers are in range and its device is declared
abbrev pub checked : ℕ → Op → Result Op Reason
checked devices op = do
  _ ← demand (op_in_range op) Range
  _ ← demand (op_declared devices op) Undeclared
  Ok op

unfoldable pub op_at : ℕ → OpWord → List (List ℕ) → Result Op Reason
op_at devices word_of.Map = four number number number right (λ p v n r. checked devices (Map p (span v n) r))
op_at devices word_of.Unmap = three number number number (λ p v n. checked devices (Unmap p (span v n)))
op_at devices word_of.Protect = four number number number right (λ p v n r. checked devices (Protect p (span v n) r))
op_at devices word_of.Load = three number address number (λ p a n. checked devices (Load p a n))
op_at devices word_of.Store = three number address hex (λ p a b. checked devices (Store p a b))
op_at devices word_of.Fork = two number number (λ p c. checked devices (Fork p c))
op_at devices word_of.Exit = one number (λ p. checked devices (Exit p))
op_at devices word_of.Attach =
    five number number number number number (λ m d p v n. checked devices (Attach m d p (span v n)))
op_at devices word_of.Detach = one number (λ m. checked devices (Detach m))
op_at devices word_of.DeviceLoad = three number address number (λ m a n. checked devices (DeviceLoad m a n))
op_at devices word_of.DeviceStore = three number address hex (λ m a b. checked devices (DeviceStore m a b))
op_at devices word_of.ToDevice = three number number number (λ m v n. checked devices (ToDevice m (span v n)))
op_at devices word_of.ToSystem = three number number number (λ m v n. checked devices (ToSystem m (span v n)))
op_at devices word_of.Snap = three number number number (λ m v n. checked devices (Snap m (span v n)))
op_at devices word_of.Evict = one number (λ d. checked devices (Evict d))
op_at devices word_of.Remove = one number (λ d. checked devices (Remove d))
op_at devices word_of.Exclusive = two number number (λ m v. checked devices (Exclusive m v))
op_at devices word_of.Add = three number address number (λ m a k. checked devices (Add m a k))
