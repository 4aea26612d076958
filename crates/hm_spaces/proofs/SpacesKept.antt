-- The processes and the mmap locks go on showing the state.
use Rattle.std.proofs.Common.{◌≡◌, ◌&&◌, is_none, ℕ, ◌<◌, Bool, true, false, Option, Some, None, List, [], length, replicate, refl, ap, ◌∙◌, arith, slice_set, slice_index_or, ◌⊎◌, inl, inr, ◌==◌}
use Rattle.std.specs.Bool.{if◌then◌else◌}
use Rattle.std.proofs.lemmas.Bool.{cases_eq}
use Rattle.std.proofs.lemmas.Bool.Decides.{nat_tests}
use Rattle.std.proofs.lemmas.List.{length-replicate, get_or-replicate}
use Rattle.std.proofs.lemmas.Grind.{elements}
use Rattle.hm_base.specs.declared.area.Area.{Area}
use Rattle.hm_base.specs.declared.ops.Op.{Op}
use Rattle.hm_history.specs.Memory.Words.{with_at}
use Rattle.hm_history.specs.Memory.Plain.{Plain, plain_start, plain_next, plain_accepts, area_refusal, without, with_rights, with_area}
use Rattle.hm_history.specs.Memory.Locks.{Locks, locks_start, map_next, releases}
use Rattle.hm_history.specs.Memory.After.{After, after_entry}
use Rattle.hm_history.specs.declared.locks.MapLock.{MapLock}
use Rattle.hm_history.specs.declared.Kind.{Kind}
use Rattle.hm_spaces.specs.Spaces.{SpacesValue, SpacesShown, SpacesFit, plain_of, spaces_start, spaces_next, there_next, named_next, areas_next, map_locks_next, HasParent}
use Rattle.hm_history.proofs.Updates.{len_set}

-- below n, a list has what a function gives
record Lists {X : Type 0} (d : X) (n : ℕ) (g : ℕ → X) (xs : List X) : Type 0 where
  pub len : length xs ≡ n
  pub at : (b : ℕ) → b < n → slice_index_or xs b d ≡ g b

-- one write of the list is one write of the function
set_here : {X : Type 0} (g : ℕ → X) (xs : List X) (a : ℕ) (x y d : X) (b : ℕ) → b < length xs → b ≡ a → x ≡ y → slice_index_or (slice_set xs a x) b d ≡ with_at g a y b
set_here g xs a x y d b l e q = grind (arith, nat_tests, elements)

set_there : {X : Type 0} (g : ℕ → X) (xs : List X) (a : ℕ) (x y d : X) (b : ℕ) → b < length xs → (b ≡ a → ⊥) → slice_index_or xs b d ≡ g b → slice_index_or (slice_set xs a x) b d ≡ with_at g a y b
set_there g xs a x y d b l e q = grind (arith, nat_tests, elements)

written : {X : Type 0} (d : X) (n : ℕ) (g : ℕ → X) (xs : List X) (a : ℕ) (x y : X) → (a < n → x ≡ y) → Lists d n g xs → Lists d n (with_at g a y) (slice_set xs a x)
written d n g xs a x y e h = record { len = len_set xs a x n h.len; at = λ b l. by b l (cases_eq b a) }
  where
    by : (b : ℕ) → b < n → (b ≡ a) ⊎ (b ≡ a → ⊥) → slice_index_or (slice_set xs a x) b d ≡ with_at g a y b
    by b l (inl q) = set_here g xs a x y d b (omega (arith, h.len)) q (e (omega arith))
    by b l (inr q) = set_there g xs a x y d b (omega (arith, h.len)) q (h.at b l)

written_or : {X : Type 0} (d : X) (n : ℕ) (g : ℕ → X) (xs : List X) (a : ℕ) (x : X) (r : Bool) → Lists d n g xs → Lists d n (if r then with_at g a x else g) (if r then slice_set xs a x else xs)
written_or d n g xs a x true h = written d n g xs a x x (λ l. refl) h
written_or d n g xs a x false h = h

-- each part
there_kept : (s : Plain) (k : Kind) (xs : List Bool) → Lists false 32 s.there xs → Lists false 32 (plain_next s k).there (there_next k xs)
there_kept s (Kind.Forked p c) xs h = written false 32 s.there xs c true true (λ l. refl) h
there_kept s (Kind.Exited p) xs h = written false 32 s.there xs p false false (λ l. refl) h
there_kept s k xs h = h

named_kept : (s : Plain) (k : Kind) (xs : List Bool) → Lists false 32 s.named xs → Lists false 32 (plain_next s k).named (named_next k xs)
named_kept s (Kind.Named p c) xs h = written false 32 s.named xs c true true (λ l. refl) h
named_kept s k xs h = h

areas_kept : (s : Plain) (k : Kind) (xs : List (List Area)) → HasParent k → Lists [] 32 s.areas xs → Lists [] 32 (plain_next s k).areas (areas_next k xs)
areas_kept s (Kind.Mapped p r w) xs b h = written [] 32 s.areas xs p _ _ (λ l. ap (with_area (record { span = r; rights = w })) (h.at p l)) h
areas_kept s (Kind.Unmapped p r) xs b h = written [] 32 s.areas xs p _ _ (λ l. ap (without r) (h.at p l)) h
areas_kept s (Kind.Protected p r w) xs b h = written [] 32 s.areas xs p _ _ (λ l. ap (with_rights r w) (h.at p l)) h
areas_kept s (Kind.Forked p c) xs b h = written [] 32 s.areas xs c _ _ (λ l. h.at p b) h
areas_kept s (Kind.Exited p) xs b h = written [] 32 s.areas xs p [] [] (λ l. refl) h
areas_kept s k xs b h = h

map_kept : (s : Locks) (a : ℕ) (k : Kind) (xs : List (Option MapLock)) → Lists None 16 s.map xs → Lists None 16 (map_next s a k) (map_locks_next a k xs)
map_kept s a (Kind.Rlock p) xs h = written None 16 s.map xs a _ _ (λ l. refl) h
map_kept s a (Kind.Wlock p) xs h = written None 16 s.map xs a _ _ (λ l. refl) h
map_kept s a k xs h = written_or None 16 s.map xs a None (releases k) h

together : (there named : ℕ → Bool) (areas : ℕ → List Area) (map : ℕ → Option MapLock) (x : SpacesValue) → Lists false 32 there x.there → Lists false 32 named x.named → Lists [] 32 areas x.areas → Lists None 16 map x.map_locks →
    SpacesShown there named areas map x
together there named areas map x t n r m = record {
  there_len = t.len;
  named_len = n.len;
  areas_len = r.len;
  map_len = m.len;
  there_at = t.at;
  named_at = n.at;
  areas_at = r.at;
  map_at = m.at;
}

pub spaces_kept : (s : After) (a : ℕ) (k : Kind) (x : SpacesValue) → HasParent k → SpacesShown s.plain.there s.plain.named s.plain.areas s.locks.map x →
    let t = after_entry s (record { actor = a; kind = k }) in SpacesShown t.plain.there t.plain.named t.plain.areas t.locks.map (spaces_next a k x)
spaces_kept s a k x b h = together (plain_next s.plain k).there (plain_next s.plain k).named (plain_next s.plain k).areas (map_next s.locks a k) (spaces_next a k x)
    (there_kept s.plain k x.there (record { len = h.there_len; at = h.there_at }))
    (named_kept s.plain k x.named (record { len = h.named_len; at = h.named_at }))
    (areas_kept s.plain k x.areas b (record { len = h.areas_len; at = h.areas_at }))
    (map_kept s.locks a k x.map_locks (record { len = h.map_len; at = h.map_at }))

-- the start
alike : {X : Type 0} (d : X) (n : ℕ) → Lists d n (λ p. d) (replicate n d)
alike d n = record { len = length-replicate n d; at = λ b l. get_or-replicate n b d d l }

same_test : (b : Bool) → (if b then true else false) ≡ b
same_test true = refl
same_test false = refl

there_start : Lists false 32 plain_start.there spaces_start.there
there_start = let h : Lists false 32 (with_at (λ p. false) 0 true) spaces_start.there = written false 32 (λ p. false) (replicate 32 false) 0 true true (λ l. refl) (alike false 32) in
    record { len = h.len; at = λ b l. h.at b l ∙ same_test (b == 0) }

pub spaces_starts : SpacesShown plain_start.there plain_start.named plain_start.areas locks_start.map spaces_start
spaces_starts = together plain_start.there plain_start.named plain_start.areas locks_start.map spaces_start there_start (alike false 32) (alike [] 32) (alike None 16)

-- what a step asks holds of what is shown
pub spaces_fit : (s : Plain) (map : ℕ → Option MapLock) (k : Kind) (x : SpacesValue) → SpacesShown s.there s.named s.areas map x → SpacesFit s k → SpacesFit (plain_of x) k
spaces_fit s map (Kind.Mapped p r w) x h f = λ l. rw (h.areas_at p l) (f l)
spaces_fit s map (Kind.Unmapped p r) x h f = λ l. rw (h.areas_at p l) (f l)
spaces_fit s map (Kind.Protected p r w) x h f = λ l. rw (h.areas_at p l) (f l)
spaces_fit s map k x h f = f

pub none_of : {X : Type 0} (b : Bool) (x : Option X) → (b && is_none x) ≡ true → x ≡ None
none_of true None e = refl
none_of true (Some n) e = cc
none_of false x e = cc

-- an entry that the plain state takes fits
pub taken_fits : (s : Plain) (k : Kind) → plain_accepts s k ≡ true → SpacesFit s k
taken_fits s (Kind.Mapped p r w) e = λ l. none_of (s.there p) (area_refusal s (Op.Map p r w)) e
taken_fits s (Kind.Unmapped p r) e = λ l. none_of (s.there p) (area_refusal s (Op.Unmap p r)) e
taken_fits s (Kind.Protected p r w) e = λ l. none_of (s.there p) (area_refusal s (Op.Protect p r w)) e
taken_fits s k e = tt
