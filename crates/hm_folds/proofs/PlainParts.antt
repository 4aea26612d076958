-- The parts of the plain state, at the start and after an entry.
use Rattle.std.proofs.Common.{◌≡◌, ℕ, Bool, true, false, ◌==◌, Option, None, List, [], length, replicate, slice_set, slice_index_or, refl, ap, ◌∙◌, arith}
use Rattle.std.proofs.Math.Path.{fun_ext}
use Rattle.std.proofs.lemmas.Bool.Decides.{nat_tests}
use Rattle.hm_base.specs.declared.area.Area.{Area}
use Rattle.hm_history.specs.Memory.Words.{with_at}
use Rattle.hm_history.specs.Memory.Plain.{Plain, MirrorState, plain_start, plain_next}
use Rattle.hm_history.specs.declared.Kind.{Kind}
use Rattle.hm_spaces.specs.Spaces.{SpacesValue, SpacesFit, spaces_start, spaces_next, there_next, named_next, areas_next}
use Rattle.hm_folds.specs.Ranges.{IsSized, InRange, end_below}
use Rattle.hm_folds.specs.Been.{been_of, been_next}
use Rattle.hm_folds.specs.Memory.{bytes_of}
use Rattle.hm_folds.specs.Windows.{mirror_of, mirrors_of, mirrors_next}
use Rattle.hm_folds.specs.Plain.{plain_made, with_plain_bytes}
use Rattle.hm_folds.specs.declared.stored.Stored.{Stored}
use Rattle.hm_folds.specs.declared.windows.KeptMirror.{KeptMirror}
use Rattle.hm_folds.proofs.Writes.{shown, set_at}
use Rattle.hm_folds.proofs.SeqSteps.{all_alike}

abbrev made : (ℕ → Bool) → (ℕ → Bool) → (ℕ → Bool) → (ℕ → List Area) → (ℕ → ℕ → ℕ) → (ℕ → Option MirrorState) → Plain
made t n b r y m = record { there = t; named = n; been = b; areas = r; bytes = y; mirrors = m }

-- two plain states with the same parts
pub same_plain : (s t : Plain) → s.there ≡ t.there → s.named ≡ t.named → s.been ≡ t.been → s.areas ≡ t.areas → s.bytes ≡ t.bytes → s.mirrors ≡ t.mirrors → s ≡ t
same_plain s t a b c d e f =
    ap (λ x. made x s.named s.been s.areas s.bytes s.mirrors) a ∙ ap (λ x. made t.there x s.been s.areas s.bytes s.mirrors) b
    ∙ ap (λ x. made t.there t.named x s.areas s.bytes s.mirrors) c ∙ ap (λ x. made t.there t.named t.been x s.bytes s.mirrors) d
    ∙ ap (λ x. made t.there t.named t.been t.areas x s.mirrors) e ∙ ap (λ x. made t.there t.named t.been t.areas t.bytes x) f

-- the start
first_there : been_of (slice_set (replicate 32 false) 0 true) ≡ plain_start.been
first_there = fun_ext (λ p. set_at (replicate 32 false) 0 true false p (omega arith) ∙ by p (all_alike false 32 p))
  where
    by : (p : ℕ) → slice_index_or (replicate 32 false) p false ≡ false → with_at (λ j. slice_index_or (replicate 32 false) j false) 0 true p ≡ (p == 0)
    by p e = grind (arith, nat_tests)

pub sized_start : IsSized spaces_start
sized_start = record {
  there = refl;
  named = refl;
  areas = refl;
  below = λ p. let none : List Area = [] in ap end_below (all_alike none 32 p);
}

pub plain_starts : (x : SpacesValue) (been : List Bool) (ys : List Stored) (ms : List (Option KeptMirror)) → x ≡ spaces_start → been ≡ slice_set (replicate 32 false) 0 true → ((p a : ℕ) → bytes_of ys p a ≡ 0) → ms ≡ replicate 32 None → plain_made x been ys ms ≡ plain_start
plain_starts x been ys ms s b y m =
    let none : List Area = [] in
    let gone : Option KeptMirror = None in
    same_plain (plain_made x been ys ms) plain_start (ap (λ (z : SpacesValue). been_of z.there) s ∙ first_there)
    (ap (λ (z : SpacesValue). been_of z.named) s ∙ fun_ext (λ p. all_alike false 32 p))
    (ap been_of b ∙ first_there)
    (fun_ext (λ p. ap (λ (z : SpacesValue). slice_index_or z.areas p []) s ∙ all_alike none 32 p))
    (fun_ext (λ p. fun_ext (λ a. y p a)))
    (fun_ext (λ k. ap (λ (z : List (Option KeptMirror)). mirrors_of z k) m ∙ ap mirror_of (all_alike gone 32 k)))

-- the parts of the processes after an entry
there_shown : (s : Plain) (k : Kind) (xs : List Bool) → InRange k → length xs ≡ 32 → been_of (there_next k xs) ≡ (plain_next (record s { there = been_of xs }) k).there
there_shown s (Kind.Forked p child) xs r l = shown (λ b. b) xs child true false (omega (arith, r.1, l))
there_shown s (Kind.Exited p) xs r l = shown (λ b. b) xs p false false (omega (arith, r, l))
there_shown s k xs r l = refl

named_shown : (s : Plain) (k : Kind) (xs : List Bool) → InRange k → length xs ≡ 32 → been_of (named_next k xs) ≡ (plain_next (record s { named = been_of xs }) k).named
named_shown s (Kind.Named p child) xs r l = shown (λ b. b) xs child true false (omega (arith, r, l))
named_shown s k xs r l = refl

abbrev areas_of : List (List Area) → ℕ → List Area
areas_of xs p = slice_index_or xs p []

areas_shown : (s : Plain) (k : Kind) (xs : List (List Area)) → InRange k → length xs ≡ 32 → areas_of (areas_next k xs) ≡ (plain_next (record s { areas = areas_of xs }) k).areas
areas_shown s (Kind.Mapped p r w) xs i l = shown (λ b. b) xs p _ [] (omega (arith, i.0, l))
areas_shown s (Kind.Unmapped p r) xs i l = shown (λ b. b) xs p _ [] (omega (arith, i, l))
areas_shown s (Kind.Protected p r w) xs i l = shown (λ b. b) xs p _ [] (omega (arith, i.0, l))
areas_shown s (Kind.Forked p child) xs i l = shown (λ b. b) xs child _ [] (omega (arith, i.1, l))
areas_shown s (Kind.Exited p) xs i l = shown (λ b. b) xs p _ [] (omega (arith, i, l))
areas_shown s k xs i l = refl

-- the others depend on nothing else
pub been_alone : (s : Plain) (k : Kind) → been_next s.been k ≡ (plain_next s k).been
been_alone s (Kind.Forked p child) = refl
been_alone s k = refl

pub mirrors_alone : (s : Plain) (k : Kind) → mirrors_next s.mirrors k ≡ (plain_next s k).mirrors
mirrors_alone s (Kind.Attached m d p r q) = refl
mirrors_alone s (Kind.Detaching m q) = refl
mirrors_alone s (Kind.Detached m) = refl
mirrors_alone s k = refl

pub plain_steps : (x : SpacesValue) (been next_been : List Bool) (ys : List Stored) (ms next_ms : List (Option KeptMirror)) (a : ℕ) (k : Kind) → IsSized x → InRange k
    → been_of next_been ≡ been_next (been_of been) k → mirrors_of next_ms ≡ mirrors_next (mirrors_of ms) k
    → plain_made (spaces_next a k x) next_been ys next_ms ≡ with_plain_bytes (plain_next (plain_made x been ys ms) k) (bytes_of ys)
plain_steps x been next_been ys ms next_ms a k h i b m =
    let s = plain_made x been ys ms in
    same_plain _ _ (there_shown s k x.there i h.there) (named_shown s k x.named i h.named) (b ∙ been_alone s k) (areas_shown s k x.areas i h.areas) refl (m ∙ mirrors_alone s k)

-- the bytes and then the rest is the whole
pub joined : (s : Plain) (k : Kind) → let f = (plain_next s k).bytes in with_plain_bytes (plain_next (with_plain_bytes s f) k) f ≡ plain_next s k
joined s (Kind.Mapped p r w) = refl
joined s (Kind.Stored x at bs) = refl
joined s (Kind.Added m at was now) = refl
joined s (Kind.Forked p child) = refl
joined s k = refl

-- what the processes ask of an entry has nothing to do with bytes
pub fits_after : (s : Plain) (f : ℕ → ℕ → ℕ) (k : Kind) → SpacesFit s k → SpacesFit (with_plain_bytes s f) k
fits_after s f (Kind.Mapped p r w) h = h
fits_after s f (Kind.Unmapped p r) h = h
fits_after s f (Kind.Protected p r w) h = h
fits_after s f k h = tt
