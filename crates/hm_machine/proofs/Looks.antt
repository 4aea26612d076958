-- What the pages of a process show is its plain bytes, where nobody has its mmap lock for writing.
use Rattle.std.proofs.Common.{◌≡◌, ℕ, zero, suc, ◌+◌, ◌%◌, ◌<◌, ◌≤◌, ◌==◌, ◌&&◌, Bool, true, false, if◌then◌else◌, Option, Some, None, List, [], ◌∷◌, length, get_or, ◌⊎◌, inl, inr, refl, sym, ap, ◌∙◌, arith}
use Rattle.std.specs.Prelude.{is_some}
use Rattle.std.specs.List.{list_all}
use Rattle.std.proofs.lemmas.Bool.{cases_lt}
use Rattle.std.proofs.lemmas.Bool.Decides.{nat_tests}
use Rattle.hm_base.specs.Areas.{rights_at}
use Rattle.hm_base.specs.Program.{Program}
use Rattle.hm_base.specs.declared.Place.{Place}
use Rattle.hm_history.specs.Memory.After.{After, after}
use Rattle.hm_history.specs.Memory.Locks.{lock_passes, writer}
use Rattle.hm_history.specs.Memory.Plain.{rights_of}
use Rattle.hm_history.specs.Memory.Words.{bytes_from, is_empty_place, numbers, page_of}
use Rattle.hm_history.specs.Memory.Contents.{contents_of}
use Rattle.hm_history.specs.declared.Entry.{Entry}
use Rattle.hm_history.specs.declared.locks.MapLock.{MapLock}
use Rattle.hm_laws.specs.Laws.{ReadsRight}
use Rattle.hm_laws.specs.Past.{Past}
use Rattle.hm_laws.specs.Sound.{LockRules, Sound}
use Rattle.hm_laws.specs.Stands.{Stands}
use Rattle.hm_laws.proofs.State.Search.{least_none}
use Rattle.hm_turns.specs.Looking.{ReadsAs, all_have_areas, looked_after}
use Rattle.hm_turns.specs.declared.looks.Looked.{Looked}
use Rattle.hm_world.specs.Bytes.{byte_shown}
use Rattle.hm_world.specs.WorldValue.{WorldValue, now}
use Rattle.hm_machine.specs.Showing.{shown_at}

-- a list that has at each place what a function gives there
pub bytes_are : (f : ℕ → ℕ) (at : ℕ) (xs : List ℕ) → ((k : ℕ) → k < length xs → get_or xs k 0 ≡ f (at + k)) → xs ≡ bytes_from f at (length xs)
bytes_are f at [] each = refl
bytes_are f at (x ∷ xs) each =
    let first : at + 0 ≡ at = omega arith in
    let head : x ≡ f at = each 0 (omega arith) ∙ ap f first in
    let tail = bytes_are f (at + 1) xs (λ k lt. let e : at + suc k ≡ at + 1 + k = omega arith in each (suc k) (omega (arith, lt)) ∙ ap f e) in
    λ j. head j ∷ tail j

pub same_bytes_from : (f g : ℕ → ℕ) (at n : ℕ) → ((k : ℕ) → k < n → f (at + k) ≡ g (at + k)) → bytes_from f at n ≡ bytes_from g at n
same_bytes_from f g at zero each = refl
same_bytes_from f g at (suc n) each =
    let first : at + 0 ≡ at = omega arith in
    let head : f at ≡ g at = sym (ap f first) ∙ each 0 (omega arith) ∙ ap g first in
    let tail = same_bytes_from f g (at + 1) n (λ k lt. let e : at + suc k ≡ at + 1 + k = omega arith in sym (ap f e) ∙ each (suc k) (omega (arith, lt)) ∙ ap g e) in
    λ j. head j ∷ tail j

-- a test of so many numbers
pub all_pass : (t : ℕ → Bool) (at n : ℕ) → ((k : ℕ) → k < n → t (at + k) ≡ true) → list_all t (numbers at n) ≡ true
all_pass t at zero each = refl
all_pass t at (suc n) each =
    let first : at + 0 ≡ at = omega arith in
    let head : t at ≡ true = sym (ap t first) ∙ each 0 (omega arith) in
    let tail = all_pass t (at + 1) n (λ k lt. let e : at + suc k ≡ at + 1 + k = omega arith in sym (ap t e) ∙ each (suc k) (omega (arith, lt))) in
    rw head tail

pub one_fails : (t : ℕ → Bool) (at n k : ℕ) → k < n → t (at + k) ≡ false → list_all t (numbers at n) ≡ false
one_fails t at zero k lt fails = absurd (omega (arith, lt))
one_fails t at (suc n) zero lt fails =
    let first : at + 0 ≡ at = omega arith in
    let head : t at ≡ false = sym (ap t first) ∙ fails in
    rw head refl
one_fails t at (suc n) (suc k) lt fails =
    let e : at + suc k ≡ at + 1 + k = omega arith in
    let tail = one_fails t (at + 1) n k (omega (arith, lt)) (sym (ap t e) ∙ fails) in
    by (t at) tail
  where
    by : (b : Bool) → list_all t (numbers (at + 1) n) ≡ false → (b && list_all t (numbers (at + 1) n)) ≡ false
    by true e = e
    by false e = refl

pub each_passes : (t : ℕ → Bool) (at n : ℕ) → list_all t (numbers at n) ≡ true → (k : ℕ) → k < n → t (at + k) ≡ true
each_passes t at n all k lt = by (t (at + k)) refl
  where
    by : (b : Bool) → t (at + k) ≡ b → b ≡ true
    by true e = refl
    by false e = let fails = one_fails t at n k lt e in cc

-- a place that is empty shows zeros
empty_shows : (s : After) (x : Place) (o : ℕ) → is_empty_place x ≡ true → contents_of s.places s.contents x o ≡ 0
empty_shows s Place.Empty o e = refl
empty_shows s Place.Zero o e = cc
empty_shows s (Place.Sys n w) o e = cc
empty_shows s (Place.Own d n w) o e = cc
empty_shows s (Place.Moving f w) o e = cc
empty_shows s (Place.Exclusive n a) o e = cc

-- a process that has an area is there
is_there : (s : After) (p v : ℕ) → (s.plain.there p ≡ false → s.plain.areas p ≡ []) → is_some (rights_of s.plain p v) ≡ true → s.plain.there p ≡ true
is_there s p v no_area has = by (s.plain.there p) refl
  where
    by : (b : Bool) → s.plain.there p ≡ b → b ≡ true
    by true e = refl
    by false e = let none = ap (λ as_. is_some (rights_at as_ v)) (no_area e) in cc

-- no actor has the process's lock for writing, where the search for one finds none
no_writer : (s : After) (p : ℕ) → LockRules s.locks.map → writer s.locks p ≡ None → (b : ℕ) → s.locks.map b ≡ Some (record { proc = p; writes = true }) → ⊥
no_writer s p rules none b has = by (cases_lt b 16)
  where
    passes : Option MapLock → Bool
    passes x = lock_passes (λ l. (l.proc == p) && l.writes) x

    by : (b < 16) ⊎ (16 ≤ b) → ⊥
    by (inl low) = let fails = least_none (λ a. passes (s.locks.map a)) 0 16 b none (omega arith) (omega (arith, low)) in let yes : passes (s.locks.map b) ≡ true = ap passes has ∙ grind (arith, nat_tests) in cc
    by (inr high) = let free = rules.free_above b high in cc

-- a byte of a page that has an area
pub shows_plain : (c : Program) (s : After) (t : Past) → Sound c s t → ReadsRight s → (p x : ℕ) → writer s.locks p ≡ None → is_some (rights_of s.plain p (page_of x)) ≡ true → shown_at s p x ≡ s.plain.bytes p x
shows_plain c s t so reads p x none has = by (is_empty_place place) refl
  where
    place : Place
    place = s.places.place p (page_of x)

    there : s.plain.there p ≡ true
    there = is_there s p (page_of x) (so.processes.no_area p) has

    by : (b : Bool) → is_empty_place place ≡ b → shown_at s p x ≡ s.plain.bytes p x
    by false e = reads.placed p x there e
    by true e = empty_shows s place (x % 4096) e ∙ sym (reads.untouched p x there (no_writer s p so.locks none) e has)

-- bytes that all have areas
pub all_show_plain : (c : Program) (s : After) (t : Past) → Sound c s t → ReadsRight s → (p at n : ℕ) → writer s.locks p ≡ None → all_have_areas s.plain p at n ≡ true → bytes_from (shown_at s p) at n ≡ bytes_from (s.plain.bytes p) at n
all_show_plain c s t so reads p at n none all = same_bytes_from _ _ at n (λ k lt. shows_plain c s t so reads p (at + k) none (each_passes _ at n all k lt))

-- what a page without an area shows, and one with an area
pub none_shown : (s : After) (p x : ℕ) → byte_shown s p x ≡ None → is_some (rights_of s.plain p (page_of x)) ≡ false
none_shown s p x e = by (is_some (rights_of s.plain p (page_of x))) refl e
  where
    by : (b : Bool) → is_some (rights_of s.plain p (page_of x)) ≡ b → ◌≡◌ {A = Option ℕ} (if b then Some (shown_at s p x) else None) None → is_some (rights_of s.plain p (page_of x)) ≡ false
    by true is e = cc
    by false is e = is

-- what a look finds after a history, by what was read of the state after it
pub after_now : (t : WorldValue) → Stands t.script t.history → (now t).after ≡ after t.history
unfolding now
after_now t st = st.same_after

pub finds_writer : (h : List Entry) (p at b : ℕ) (bytes : List ℕ) → writer (after h).locks p ≡ Some b → ReadsAs h p at (Looked.Locked b) bytes
finds_writer h p at b bytes e = record {
  found_is = sym (ap (λ w. elim w [ Some by ↦ Looked.Locked by | None ↦ if all_have_areas (after h).plain p at (length bytes) then Looked.Filled else Looked.Unmapped ]) e);
  bytes_are = tt;
}

finds : (h : List Entry) (p at n : ℕ) (b : Bool) → writer (after h).locks p ≡ None → all_have_areas (after h).plain p at n ≡ b → looked_after h p at n ≡ (if b then Looked.Filled else Looked.Unmapped)
finds h p at n b none e =
    ap (λ w. elim w [ Some by ↦ Looked.Locked by | None ↦ if all_have_areas (after h).plain p at n then Looked.Filled else Looked.Unmapped ]) none
    ∙ ap (λ x. if x then Looked.Filled else Looked.Unmapped) e

-- the same of a world, and of a room for so many bytes
module _ (t : WorldValue) (st : Stands t.script t.history) (p at n : ℕ) (bytes : List ℕ) (long : length bytes ≡ n) (none : writer (now t).after.locks p ≡ None) where
  no_one : writer (after t.history).locks p ≡ None
  no_one = sym (ap (λ s. writer s.locks p) (after_now t st)) ∙ none

  areas : (b : Bool) → b ≡ all_have_areas (now t).after.plain p at n → all_have_areas (after t.history).plain p at (length bytes) ≡ b
  areas b e = sym (ap (λ s. all_have_areas s.plain p at (length bytes)) (after_now t st)) ∙ ap (all_have_areas (now t).after.plain p at) long ∙ sym e

  pub finds_no_area : false ≡ all_have_areas (now t).after.plain p at n → ReadsAs t.history p at Looked.Unmapped bytes
  finds_no_area e = record { found_is = sym (finds t.history p at (length bytes) false no_one (areas false e)); bytes_are = tt }

  pub finds_bytes : ReadsRight (after t.history) → true ≡ all_have_areas (now t).after.plain p at n → bytes ≡ bytes_from (shown_at (now t).after p) at n → ReadsAs t.history p at Looked.Filled bytes
  finds_bytes reads e is = record {
    found_is = sym (finds t.history p at (length bytes) true no_one (areas true e));
    bytes_are =
        is
        ∙ ap (bytes_from (shown_at (now t).after p) at) (sym long)
        ∙ ap (λ s. bytes_from (shown_at s p) at (length bytes)) (after_now t st)
        ∙ all_show_plain t.script (after t.history) st.past st.rules reads p at (length bytes) no_one (areas true e);
  }
