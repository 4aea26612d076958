-- From what the script allows to the numbers of mirrors, processes and pages.
use Rattle.std.proofs.lemmas.Bool.{eqb-true}
use Rattle.std.proofs.Common.{◌≡◌, ℕ, zero, suc, ◌+◌, ◌<◌, ◌≤◌, ◌⊎◌, inl, inr, min, Bool, true, false, ◌&&◌, ◌||◌, ◌==◌, if◌then◌else◌, not, is_some, Option, Some, None, List, [], ◌∷◌, refl, arith, length, take}
use Rattle.std.specs.Prelude.{sum_by, slice_get}
use Rattle.std.specs.List.{list_any, list_all}
use Rattle.std.proofs.lemmas.Bool.Decides.{nat_tests}
use Rattle.std.proofs.lemmas.List.Sums.{sum_by-cons}
use Rattle.hm_base.specs.Program.{Program, IsScript, op_fits}
use Rattle.hm_base.specs.declared.Frame.{Frame}
use Rattle.hm_base.specs.declared.Place.{Place}
use Rattle.hm_base.specs.declared.ops.Op.{Op}
use Rattle.hm_history.specs.Memory.Words.{names_directly, moving_frame, is_frame, is_empty_place}
use Rattle.hm_history.specs.Kernel.Quiet.{attaches, forks, mapped_pages, over_ops, process_count, page_count}
use Rattle.hm_history.specs.Memory.After.{After}
use Rattle.hm_history.specs.Kernel.Going.{State}
use Rattle.hm_history.proofs.Tests.{true_false}
use Rattle.hm_laws.specs.Past.{Past}
use Rattle.hm_laws.specs.Sound.{Sound}
use Rattle.hm_laws.specs.Stands.{Standing}
use Rattle.hm_quiet_laws.proofs.measure.Left.{count_upto, view, direct_at, moving_at}
use Rattle.hm_quiet_laws.proofs.measure.Counts.{is_attach_of, is_fork_to, some_op, sum_upto, mapped_by, mapped_so_far, Counted, Few}
use Rattle.hm_quiet_laws.proofs.counts.CountsBelow.{count_more}

-- counts of what some element passes
either_count : (m k l : ℕ) (b d : Bool) → m ≤ k + l → m + (if b || d then 1 else 0) ≤ (k + (if b then 1 else 0)) + (l + (if d then 1 else 0))
either_count m k l true true h = omega arith
either_count m k l true false h = omega arith
either_count m k l false true h = omega arith
either_count m k l false false h = omega arith

count_or : (t w : ℕ → Bool) (n : ℕ) → count_upto (λ q. t q || w q) n ≤ count_upto t n + count_upto w n
count_or t w zero = omega arith
count_or t w (suc n) = either_count (count_upto (λ q. t q || w q) n) (count_upto t n) (count_upto w n) (t n) (w n) (count_or t w n)

pub count_none : (n : ℕ) → count_upto (λ q. false) n ≤ 0
count_none zero = omega arith
count_none (suc n) = omega (arith, count_none n)

count_any : {X : Type 0} (t : ℕ → X → Bool) (f : X → ℕ) (n : ℕ) → ((x : X) → count_upto (λ q. t q x) n ≤ f x) → (xs : List X) → count_upto (λ q. list_any (t q) xs) n ≤ sum_by f xs
count_any t f n h [] = count_none n
count_any t f n h (x ∷ xs) = omega (arith, sum_by-cons f x xs, count_or (λ q. t q x) (λ q. list_any (t q) xs) n, h x, count_any t f n h xs)

count_below : (d n : ℕ) → n ≤ d → count_upto (λ q. d == q) n ≤ 0
count_below d zero h = omega arith
count_below d (suc n) h = no_more (count_upto (λ q. d == q) n) (d == n) (count_below d n (omega arith)) (grind (arith, nat_tests))
  where
    no_more : (m : ℕ) (b : Bool) → m ≤ 0 → b ≡ false → m + (if b then 1 else 0) ≤ 0
    no_more m true l e = cc
    no_more m false l e = omega arith

count_one : (d n : ℕ) → count_upto (λ q. d == q) n ≤ 1
count_one d zero = omega arith
count_one d (suc n) = by (count_one d n) (d == n) refl
  where
    at : d ≡ n → n ≤ d
    at e = omega (arith, e)

    by : count_upto (λ q. d == q) n ≤ 1 → (b : Bool) → (d == n) ≡ b → count_upto (λ q. d == q) n + (if b then 1 else 0) ≤ 1
    by ih true e = omega (arith, count_below d n (at (eqb-true d n e)))
    by ih false e = omega (arith, ih)

-- at most one for each operation
one_attach : (n : ℕ) (o : Op) → count_upto (λ m. is_attach_of m o) n ≤ attaches o
one_attach n (Op.Attach m d p r) = count_one m n
one_attach n o = count_none n

one_fork : (n : ℕ) (o : Op) → count_upto (λ q. is_fork_to q o) n ≤ forks o
one_fork n (Op.Fork p d) = count_one d n
one_fork n o = count_none n

count_ops : (t : ℕ → Op → Bool) (f : Op → ℕ) (c : Program) (n : ℕ) → ((o : Op) → count_upto (λ q. t q o) n ≤ f o) → count_upto (λ q. some_op (t q) c) n ≤ over_ops f c
count_ops t f c n h = count_any (λ q os. list_any (t q) os) (λ os. sum_by f os) n (λ os. count_any t f n h os) c.actors

-- the ended operations of each actor are some of all
sum_shift : (f : ℕ → ℕ) (n : ℕ) → sum_upto f (suc n) ≡ f 0 + sum_upto (λ k. f (suc k)) n
sum_shift f zero = omega arith
sum_shift f (suc n) = omega (arith, sum_shift f n)

sum_more : (f g : ℕ → ℕ) (n : ℕ) → ((k : ℕ) → f k ≤ g k) → sum_upto f n ≤ sum_upto g n
sum_more f g zero h = omega arith
sum_more f g (suc n) h = omega (arith, sum_more f g n h, h n)

abbrev sum_of : (Op → ℕ) → Option (List Op) → ℕ
sum_of f None = 0
sum_of f (Some os) = sum_by f os

sum_none : (n : ℕ) → sum_upto (λ k. 0) n ≤ 0
sum_none zero = omega arith
sum_none (suc n) = omega (arith, sum_none n)

sum_lists : (f : Op → ℕ) (ls : List (List Op)) (n : ℕ) → sum_upto (λ k. sum_of f (slice_get ls k)) n ≤ sum_by (λ os. sum_by f os) ls
sum_lists f [] n = sum_none n
sum_lists f (l ∷ ls) zero = omega arith
sum_lists f (l ∷ ls) (suc n) = omega (arith, sum_by-cons (λ os. sum_by f os) l ls, sum_shift (λ k. sum_of f (slice_get (l ∷ ls) k)) n, sum_lists f ls n)

taken_fewer : (f : Op → ℕ) (os : List Op) (i : ℕ) → sum_by f (take i os) ≤ sum_by f os
taken_fewer f [] zero = omega arith
taken_fewer f [] (suc i) = omega arith
taken_fewer f (o ∷ os) zero = omega arith
taken_fewer f (o ∷ os) (suc i) = omega (arith, sum_by-cons f o os, sum_by-cons f o (take i os), taken_fewer f os i)

mapped_fewer : (c : Program) (b i : ℕ) → mapped_by c b i ≤ sum_of mapped_pages (slice_get c.actors b)
mapped_fewer c b i = by (slice_get c.actors b)
  where
    by : (x : Option (List Op)) → sum_by mapped_pages (take i (elim x as (λ y. List Op) [ None ↦ [] | Some os ↦ os ])) ≤ sum_of mapped_pages x
    by None = taken_fewer mapped_pages [] i
    by (Some os) = taken_fewer mapped_pages os i

mapped_few : (c : Program) (u : State) → mapped_so_far c u ≤ page_count c
mapped_few c u = omega (arith, sum_more (λ b. mapped_by c b (u.going b).index) (λ b. sum_of mapped_pages (slice_get c.actors b)) 16 (λ b. mapped_fewer c b (u.going b).index), sum_lists mapped_pages c.actors 16)

-- a page with a place is process 0's or of one that was named
named_of : (c : Program) (s : After) (t : Past) (q v : ℕ) → Sound c s t → is_empty_place (s.places.place q v) ≡ false → (q ≡ 0) ⊎ (s.plain.named q ≡ true)
named_of c s t q v so e = by (s.plain.been q) refl (t.namer q) refl (s.plain.named q) refl
  where
    by : (b : Bool) → s.plain.been q ≡ b → (x : Option ℕ) → t.namer q ≡ x → (d : Bool) → s.plain.named q ≡ d → (q ≡ 0) ⊎ (s.plain.named q ≡ true)
    by b eb x ex true ed = inr ed
    by true eb x ex false ed = so.processes.been_named q eb
    by false eb x ex false ed = absurd (true_false (is_empty_place (s.places.place q v)) (so.areas.unborn q v (so.processes.namer_named q ed) eb) e)

-- a fork of the script names a number below 32
any_says : {X : Type 0} (t w : X → Bool) (P : Type 0) → ((x : X) → t x ≡ true → w x ≡ true → P) → (xs : List X) → list_any t xs ≡ true → list_all w xs ≡ true → P
any_says t w P h [] e k = cc
any_says t w P h (x ∷ xs) e k = by (t x) refl (w x) refl e k (any_says t w P h xs)
  where
    by : (b : Bool) → t x ≡ b → (d : Bool) → w x ≡ d → (b || list_any t xs) ≡ true → (d && list_all w xs) ≡ true → (list_any t xs ≡ true → list_all w xs ≡ true → P) → P
    by true eb true ed i j ih = h x eb ed
    by b eb false ed i j ih = cc
    by false eb true ed i j ih = ih i j

fork_small : (n q : ℕ) (o : Op) → is_fork_to q o ≡ true → op_fits n o ≡ true → q < 32
fork_small n q (Op.Fork p d) e h = grind (arith, nat_tests)
fork_small n q o e h = cc

named_small : (c : Program) (q : ℕ) → IsScript c → some_op (is_fork_to q) c ≡ true → q < 32
named_small c q sc e = any_says (λ os. list_any (is_fork_to q) os) (list_all (op_fits (length c.devices))) (q < 32) (λ os i j. any_says (is_fork_to q) (op_fits (length c.devices)) (q < 32) (fork_small (length c.devices) q) os i j) c.actors e sc.ops

-- processes that name a frame on a page
used_once : (x : Place) (f : Frame) → (if is_frame (names_directly x) f then 1 else 0) + (if is_frame (moving_frame x) f then 1 else 0) ≤ (if not (is_empty_place x) then 1 else 0)
used_once Place.Empty f = omega arith
used_once Place.Zero f = omega arith
used_once (Place.Sys n w) f = one (is_frame (names_directly (Place.Sys n w)) f)
  where
    one : (b : Bool) → (if b then 1 else 0) + 0 ≤ 1
    one true = omega arith
    one false = omega arith
used_once (Place.Own d n w) f = one (is_frame (names_directly (Place.Own d n w)) f)
  where
    one : (b : Bool) → (if b then 1 else 0) + 0 ≤ 1
    one true = omega arith
    one false = omega arith
used_once (Place.Moving g w) f = one (is_frame (moving_frame (Place.Moving g w)) f)
  where
    one : (b : Bool) → 0 + (if b then 1 else 0) ≤ 1
    one true = omega arith
    one false = omega arith
used_once (Place.Exclusive n b) f = one (is_frame (names_directly (Place.Exclusive n b)) f)
  where
    one : (b : Bool) → (if b then 1 else 0) + 0 ≤ 1
    one true = omega arith
    one false = omega arith

uses_used : (place : ℕ → ℕ → Place) (f : Frame) (v n : ℕ) → count_upto (λ q. is_frame (names_directly (place q v)) f) n + count_upto (λ q. is_frame (moving_frame (place q v)) f) n ≤ count_upto (λ q. not (is_empty_place (place q v))) n
uses_used place f v zero = omega arith
uses_used place f v (suc n) = omega (arith, uses_used place f v n, used_once (place n v) f)

count_all : (t : ℕ → Bool) (n : ℕ) → count_upto t n ≤ n
count_all t zero = omega arith
count_all t (suc n) = by (t n) (count_all t n)
  where
    by : (b : Bool) → count_upto t n ≤ n → count_upto t n + (if b then 1 else 0) ≤ suc n
    by true h = omega arith
    by false h = omega arith

both_few : (m k l n : ℕ) → m ≤ k + l → k ≤ 1 → l ≤ n → m ≤ 32 → m ≤ min (1 + n) 32
both_few m k l n h i j e = omega arith

pub few_of : (c : Program) (u : State) (t : Past) → IsScript c → Standing c u t → Counted c u → Few c u.after
few_of c u t sc sd cd = record {
  mirrors = omega (arith, count_more (λ m. is_some (u.after.sequences.interval m)) (λ m. some_op (is_attach_of m) c) 32 (λ k l e. cd.mirrors k e), count_ops is_attach_of attaches c 32 (one_attach 32));
  uses = λ f v. uses f v;
  pages = λ p. omega (arith, cd.pages p, mapped_few c u);
  few_processes = λ q v e. process q (named_of c u.after t q v sd.sound e);
}
  where
    process : (q : ℕ) → (q ≡ 0) ⊎ (u.after.plain.named q ≡ true) → q < 32
    process q (inl e) = omega (arith, e)
    process q (inr e) = named_small c q sc (cd.names q e)

    zero_or : (q v : ℕ) → not (is_empty_place (u.after.places.place q v)) ≡ true → ((0 == q) || some_op (is_fork_to q) c) ≡ true
    zero_or q v e = by (named_of c u.after t q v sd.sound (grind arith))
      where
        by : (q ≡ 0) ⊎ (u.after.plain.named q ≡ true) → ((0 == q) || some_op (is_fork_to q) c) ≡ true
        by (inl i) = grind (arith, nat_tests)
        by (inr i) = second (0 == q) (some_op (is_fork_to q) c) (cd.names q i)
          where
            second : (x y : Bool) → y ≡ true → (x || y) ≡ true
            second x y h = grind arith

    uses : (f : Frame) (v : ℕ) → direct_at (view u.after) f v + moving_at (view u.after) f v ≤ process_count c
    uses f v = both_few (direct_at (view u.after) f v + moving_at (view u.after) f v) (count_upto (λ q. 0 == q) 32) (count_upto (λ q. some_op (is_fork_to q) c) 32) (over_ops forks c)
        (omega (arith, uses_used u.after.places.place f v 32, count_more (λ q. not (is_empty_place (u.after.places.place q v))) (λ q. (0 == q) || some_op (is_fork_to q) c) 32 (λ k l e. zero_or k v e), count_or (λ q. 0 == q) (λ q. some_op (is_fork_to q) c) 32))
        (count_one 0 32) (count_ops is_fork_to forks c 32 (one_fork 32)) (omega (arith, uses_used u.after.places.place f v 32, count_all (λ q. not (is_empty_place (u.after.places.place q v))) 32))
