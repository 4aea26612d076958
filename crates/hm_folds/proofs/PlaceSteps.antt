-- What the fold keeps of the places, after a page has another place, a commit or a take.
use Rattle.std.proofs.Common.{◌≡◌, ℕ, ◌+◌, ◌-◌, ◌≤◌, Bool, true, false, ◌==◌, ◌&&◌, ◌||◌, nat_le, Option, Some, None, List, [], ◌∷◌, count_by, refl, sym, ap, ◌∙◌, subst, arith}
use Rattle.std.specs.Prelude.{unwrap_or, if◌then◌else◌, is_none}
use Rattle.std.specs.List.{list_any}
use Rattle.std.proofs.lemmas.Bool.Decides.{nat_tests}
use Rattle.hm_base.specs.declared.Frame.{Frame}
use Rattle.hm_base.specs.declared.Place.{Place}
use Rattle.hm_base.specs.declared.Place.TheVariants.{Empty, Zero, Sys, Own, Moving, Exclusive}
use Rattle.hm_base.specs.PlaceWords.{is_frame, same_frame, names, writable, is_empty_place}
use Rattle.hm_history.specs.Memory.Places.{Places, is_page, one_writer, places_next, holds_target, lowest_named}
use Rattle.hm_history.specs.Memory.Contents.{backing}
use Rattle.hm_history.specs.declared.Kind.{Kind}
use Rattle.hm_history.proofs.Tests.{true_false}
use Rattle.hm_history.proofs.Frames.{frame_same, is_frame_from}
use Rattle.hm_tables.proofs.Lowest.{IsLowest, lowest_is}
use Rattle.hm_tables.specs.Shown.{is_once}
use Rattle.hm_folds.specs.Shares.{plus, less, has_one_writer}
use Rattle.hm_folds.specs.Standing.{pages_where, shares_where, is_backed, is_moving_of, backing_by, share_of, one_writer_after}
use Rattle.hm_folds.specs.declared.shares.Shares.{Shares}
use Rattle.hm_folds.proofs.Counts.{one_if}
use Rattle.hm_folds.proofs.PlacedCounts.{count_alike, count_placed, count_two, count_and, count_cons}
use Rattle.hm_folds.proofs.OneWriter.{one_writer_at, one_writer_all, writer_of, one_decides}
use Rattle.std.proofs.Math.Bool.{and-true}
use Rattle.hm_tables.proofs.TablesKept.{once_next}

-- only where frames were committed to counts
pub backed_by : (to : Frame → Option Frame) (s : Places) → ((f : Frame) → to f ≡ s.committed_to f) → (x : Place) → backing_by to x ≡ backing s x
backed_by to s h Empty = refl
backed_by to s h Zero = refl
backed_by to s h (Sys n w) = refl
backed_by to s h (Own d n w) = refl
backed_by to s h (Moving f w) = ap (λ o. Some (unwrap_or o f)) (h f)
backed_by to s h (Exclusive n a) = refl

empty_is : (x : Place) → is_empty_place x ≡ true → x ≡ Empty
empty_is Empty e = refl
empty_is Zero e = cc
empty_is (Sys n w) e = cc
empty_is (Own d n w) e = cc
empty_is (Moving f w) e = cc
empty_is (Exclusive n a) e = cc

abbrev Listed : Places → Type 0
Listed s = (p v : ℕ) → is_empty_place (s.place p v) ≡ false → list_any (is_page p v) s.placed ≡ true

-- a page that was not placed has no place
not_placed : (s : Places) → Listed s → (test : Place → Bool) → test Empty ≡ false → (p v : ℕ) → list_any (is_page p v) s.placed ≡ false → test (s.place p v) ≡ false
not_placed s listed test none p v h = by (is_empty_place (s.place p v)) refl
  where
    by : (b : Bool) → is_empty_place (s.place p v) ≡ b → test (s.place p v) ≡ false
    by true e = ap test (empty_is (s.place p v) e) ∙ none
    by false e = absurd (true_false (list_any (is_page p v) s.placed) (listed p v e) h)

-- shares with the same parts
same_shares : (a b : Shares) → a.pages ≡ b.pages → a.writers ≡ b.writers → a ≡ b
same_shares a b p w = let made : ℕ → ℕ → Shares = λ n m. record { pages = n; writers = m } in ap (λ n. made n a.writers) p ∙ ap (made b.pages) w

abbrev after_more : Bool → Shares → Shares → Shares
after_more n a more = if n then plus a more else a

abbrev after_less : Bool → Shares → Shares → Shares
after_less o a fewer = if o then less a fewer else a

abbrev part : Bool → ℕ → ℕ
part b n = if b then n else 0

-- what came and what went
record Settled (a b more fewer : Shares) (n o : Bool) : Type 0 where
  pages : b.pages + part o fewer.pages ≡ a.pages + part n more.pages
  writers : b.writers + part o fewer.writers ≡ a.writers + part n more.writers
  had_pages : part o fewer.pages ≤ a.pages
  had_writers : part o fewer.writers ≤ a.writers

more_then_less : (a b more fewer : Shares) (n o : Bool) → Settled a b more fewer n o → after_less o (after_more n a more) fewer ≡ b
more_then_less a b more fewer true true h = same_shares _ b (omega (arith, h.pages)) (omega (arith, h.writers))
more_then_less a b more fewer true false h = same_shares _ b (omega (arith, h.pages)) (omega (arith, h.writers))
more_then_less a b more fewer false true h = same_shares _ b (omega (arith, h.pages)) (omega (arith, h.writers))
more_then_less a b more fewer false false h = same_shares _ b (omega (arith, h.pages)) (omega (arith, h.writers))

less_then_more : (a b more fewer : Shares) (n o : Bool) → Settled a b more fewer n o → after_more n (after_less o a fewer) more ≡ b
less_then_more a b more fewer true true h = same_shares _ b (omega (arith, h.pages, h.had_pages)) (omega (arith, h.writers, h.had_writers))
less_then_more a b more fewer true false h = same_shares _ b (omega (arith, h.pages)) (omega (arith, h.writers))
less_then_more a b more fewer false true h = same_shares _ b (omega (arith, h.pages)) (omega (arith, h.writers))
less_then_more a b more fewer false false h = same_shares _ b (omega (arith, h.pages)) (omega (arith, h.writers))

-- what came goes again
pub more_undone : (n : Bool) (a b d more : Shares) → b ≡ after_more n a more → d ≡ after_less n b more → d ≡ a
more_undone true a b d more e f = f ∙ ap (λ (z : Shares). less z more) e ∙ same_shares (less (plus a more) more) a (omega arith) (omega arith)
more_undone false a b d more e f = f ∙ e

-- a page has another place
one_part : (o w : Bool) → one_if (o && w) ≡ part o (if w then 1 else 0)
one_part true w = refl
one_part false w = refl

place_settled : (s : Places) → is_once s.placed ≡ true → Listed s → (test : Place → Bool) → test Empty ≡ false → (p v : ℕ) (x : Place) →
    Settled (shares_where s test) (shares_where (places_next s (Kind.Place p v x)) test) (share_of x) (share_of (s.place p v)) (test x) (test (s.place p v))
place_settled s once listed test none p v x = record {
  pages = moves test none x;
  writers = ap (λ n. pages_where (places_next s (Kind.Place p v x)) both + n) (sym (one_part (test (s.place p v)) (writable (s.place p v)))) ∙ moves both none_both x ∙ ap (λ n. pages_where s both + n) (one_part (test x) (writable x));
  had_pages = let e = moves test none Empty in let z : one_if (test Empty) ≡ 0 = ap one_if none in omega (arith, e, z);
  had_writers = let e = moves both none_both Empty in let z : one_if (both Empty) ≡ 0 = ap one_if none_both in let w = one_part (test (s.place p v)) (writable (s.place p v)) in omega (arith, e, z, w);
}
  where
    both : Place → Bool
    both y = test y && writable y

    none_both : (test Empty && false) ≡ false
    none_both = ap (λ b. b && false) none

    moves : (t : Place → Bool) → t Empty ≡ false → (y : Place) → pages_where (places_next s (Kind.Place p v y)) t + one_if (t (s.place p v)) ≡ pages_where s t + one_if (t y)
    moves t e y = count_placed t s.place p v y s.placed once (not_placed s listed t e p v)

pub place_stepped : (s : Places) → is_once s.placed ≡ true → Listed s → (test : Place → Bool) → test Empty ≡ false → (p v : ℕ) (x : Place) →
    after_less (test (s.place p v)) (after_more (test x) (shares_where s test) (share_of x)) (share_of (s.place p v)) ≡ shares_where (places_next s (Kind.Place p v x)) test
place_stepped s once listed test none p v x = more_then_less _ _ _ _ _ _ (place_settled s once listed test none p v x)

-- a frame is committed: its migration entries stand for another frame
abbrev target_of : Places → Frame → Frame
target_of s f = unwrap_or (s.committed_to f) f

abbrev committed : Places → Frame → Frame → Places
committed s f g = places_next s (Kind.Committed f g)

commit_moves : (s : Places) (f g t : Frame) (x : Place) (w : Bool) →
    one_if (is_backed (committed s f g) t x && w) + one_if ((is_moving_of f x && w) && same_frame (target_of s f) t) ≡ one_if (is_backed s t x && w) + one_if ((is_moving_of f x && w) && same_frame g t)
commit_moves s f g t Empty w = refl
commit_moves s f g t Zero w = refl
commit_moves s f g t (Sys n r) w = refl
commit_moves s f g t (Own d n r) w = refl
commit_moves s f g t (Exclusive n a) w = refl
commit_moves s f g t (Moving h r) w = by (same_frame h f) refl
  where
    flip : (a b w : Bool) → one_if (b && w) + one_if ((true && w) && a) ≡ one_if (a && w) + one_if ((true && w) && b)
    flip true true w = refl
    flip true false true = refl
    flip true false false = refl
    flip false true true = refl
    flip false true false = refl
    flip false false w = refl

    by : (b : Bool) → same_frame h f ≡ b →
        one_if (same_frame (unwrap_or (if b then Some g else s.committed_to h) h) t && w) + one_if ((b && w) && same_frame (target_of s f) t) ≡ one_if (same_frame (target_of s h) t && w) + one_if ((b && w) && same_frame g t)
    by true e = flip (same_frame (target_of s f) t) (same_frame g t) w ∙ ap (λ k. one_if (same_frame (target_of s k) t && w) + one_if ((true && w) && same_frame g t)) (sym (frame_same h f e))
    by false e = refl

commit_pages : (s : Places) (f g t : Frame) (x : Place) →
    one_if (is_backed (committed s f g) t x) + one_if (is_moving_of f x && same_frame (target_of s f) t) ≡ one_if (is_backed s t x) + one_if (is_moving_of f x && same_frame g t)
commit_pages s f g t x =
    ap (λ b. one_if b + one_if (is_moving_of f x && same_frame (target_of s f) t)) (sym (and-true (is_backed (committed s f g) t x)))
    ∙ ap (λ b. one_if (is_backed (committed s f g) t x && true) + one_if (b && same_frame (target_of s f) t)) (sym (and-true (is_moving_of f x)))
    ∙ commit_moves s f g t x true
    ∙ ap (λ b. one_if (is_backed s t x && true) + one_if (b && same_frame g t)) (and-true (is_moving_of f x))
    ∙ ap (λ b. one_if b + one_if (is_moving_of f x && same_frame g t)) (and-true (is_backed s t x))

-- a migration entry stands for its frame's target
moving_backs : (s : Places) (f t : Frame) (x : Place) (w : Bool) → one_if ((is_moving_of f x && w) && same_frame (target_of s f) t) ≤ one_if (is_backed s t x && w)
moving_backs s f t Empty w = omega arith
moving_backs s f t Zero w = omega arith
moving_backs s f t (Sys n r) w = least_none (is_backed s t (Sys n r) && w)
  where
    least_none : (b : Bool) → 0 ≤ one_if b
    least_none b = omega arith
moving_backs s f t (Own d n r) w = omega arith
moving_backs s f t (Exclusive n a) w = omega arith
moving_backs s f t (Moving h r) w = by (same_frame h f) refl
  where
    turned : (a w : Bool) → one_if ((true && w) && a) ≤ one_if (a && w)
    turned true true = omega arith
    turned true false = omega arith
    turned false true = omega arith
    turned false false = omega arith

    by : (b : Bool) → same_frame h f ≡ b → one_if ((b && w) && same_frame (target_of s f) t) ≤ one_if (same_frame (target_of s h) t && w)
    by true e = subst (λ k. one_if ((true && w) && same_frame (target_of s f) t) ≤ one_if (same_frame (target_of s k) t && w)) (sym (frame_same h f e)) (turned (same_frame (target_of s f) t) w)
    by false e = omega arith

count_le : (a t : ℕ × ℕ → Bool) (xs : List (ℕ × ℕ)) → ((y : ℕ × ℕ) → one_if (a y) ≤ one_if (t y)) → count_by a xs ≤ count_by t xs
count_le a t [] h = omega arith
count_le a t (y ∷ ys) h = let r = count_le a t ys h in let e = h y in omega (arith, r, e, count_cons a y ys, count_cons t y ys)

commit_settled : (s : Places) (f g t : Frame) → let m = shares_where s (is_moving_of f) in
    Settled (shares_where s (is_backed s t)) (shares_where (committed s f g) (is_backed (committed s f g) t)) m m (same_frame g t) (same_frame (target_of s f) t)
commit_settled s f g t = record {
  pages = ap (λ n. count_by (λ y. is_backed (committed s f g) t (at y)) s.placed + n) (sym (all_of (same_frame (target_of s f) t))) ∙ pages ∙ ap (λ n. count_by (λ y. is_backed s t (at y)) s.placed + n) (all_of (same_frame g t));
  writers = ap (λ n. count_by (λ y. is_backed (committed s f g) t (at y) && writable (at y)) s.placed + n) (sym (writing (same_frame (target_of s f) t))) ∙ writers ∙ ap (λ n. count_by (λ y. is_backed s t (at y) && writable (at y)) s.placed + n) (writing (same_frame g t));
  had_pages = subst (λ n. n ≤ count_by (λ y. is_backed s t (at y)) s.placed) (all_of (same_frame (target_of s f) t)) few;
  had_writers = subst (λ n. n ≤ count_by (λ y. is_backed s t (at y) && writable (at y)) s.placed) (writing (same_frame (target_of s f) t)) few_writers;
}
  where
    at : ℕ × ℕ → Place
    at y = s.place y.0 y.1

    all_of : (b : Bool) → count_by (λ y. is_moving_of f (at y) && b) s.placed ≡ part b (pages_where s (is_moving_of f))
    all_of b = count_and (λ y. is_moving_of f (at y)) b s.placed

    writing : (b : Bool) → count_by (λ y. (is_moving_of f (at y) && writable (at y)) && b) s.placed ≡ part b (pages_where s (λ x. is_moving_of f x && writable x))
    writing b = count_and (λ y. is_moving_of f (at y) && writable (at y)) b s.placed

    pages : count_by (λ y. is_backed (committed s f g) t (at y)) s.placed + count_by (λ y. is_moving_of f (at y) && same_frame (target_of s f) t) s.placed ≡ count_by (λ y. is_backed s t (at y)) s.placed + count_by (λ y. is_moving_of f (at y) && same_frame g t) s.placed
    pages = count_two (λ y. is_backed s t (at y)) (λ y. is_backed (committed s f g) t (at y)) (λ y. is_moving_of f (at y) && same_frame (target_of s f) t) (λ y. is_moving_of f (at y) && same_frame g t) s.placed (λ y. commit_pages s f g t (at y))

    writers : count_by (λ y. is_backed (committed s f g) t (at y) && writable (at y)) s.placed + count_by (λ y. (is_moving_of f (at y) && writable (at y)) && same_frame (target_of s f) t) s.placed ≡ count_by (λ y. is_backed s t (at y) && writable (at y)) s.placed + count_by (λ y. (is_moving_of f (at y) && writable (at y)) && same_frame g t) s.placed
    writers = count_two (λ y. is_backed s t (at y) && writable (at y)) (λ y. is_backed (committed s f g) t (at y) && writable (at y)) (λ y. (is_moving_of f (at y) && writable (at y)) && same_frame (target_of s f) t) (λ y. (is_moving_of f (at y) && writable (at y)) && same_frame g t) s.placed (λ y. commit_moves s f g t (at y) (writable (at y)))

    few_writers : count_by (λ y. (is_moving_of f (at y) && writable (at y)) && same_frame (target_of s f) t) s.placed ≤ count_by (λ y. is_backed s t (at y) && writable (at y)) s.placed
    few_writers = count_le _ _ s.placed (λ y. moving_backs s f t (at y) (writable (at y)))

    few_at : (x : Place) → one_if (is_moving_of f x && same_frame (target_of s f) t) ≤ one_if (is_backed s t x)
    few_at x = subst (λ b. one_if (is_moving_of f x && same_frame (target_of s f) t) ≤ one_if b) (and-true (is_backed s t x)) (subst (λ b. one_if (b && same_frame (target_of s f) t) ≤ one_if (is_backed s t x && true)) (and-true (is_moving_of f x)) (moving_backs s f t x true))

    few : count_by (λ y. is_moving_of f (at y) && same_frame (target_of s f) t) s.placed ≤ count_by (λ y. is_backed s t (at y)) s.placed
    few = count_le _ _ s.placed (λ y. few_at (at y))

pub commit_stepped : (s : Places) (f g t : Frame) → let m = shares_where s (is_moving_of f) in
    after_less (same_frame (target_of s f) t) (after_more (same_frame g t) (shares_where s (is_backed s t)) m) m ≡ shares_where (committed s f g) (is_backed (committed s f g) t)
commit_stepped s f g t = more_then_less _ _ _ _ _ _ (commit_settled s f g t)

-- the frame whose shares rise decides
one_writer_less : (a fewer : Shares) (o : Bool) → has_one_writer a ≡ true → has_one_writer (after_less o a fewer) ≡ true
one_writer_less a fewer false h = h
one_writer_less a fewer true h = lower a.pages a.writers fewer.pages fewer.writers h
  where
    lower : (p w x y : ℕ) → (nat_le p 1 || (w == 0)) ≡ true → (nat_le (p - x) 1 || (w - y == 0)) ≡ true
    lower p w x y h = grind (arith, nat_tests)

one_writer_here : (F : Frame → Shares) (o : Option Frame) (more : Shares) (from : Option Frame) (fewer : Shares) (f : Frame) → is_frame o f ≡ true →
    one_writer_after F o more from fewer ≡ has_one_writer (plus (after_less (is_frame from f) (F f) fewer) more)
one_writer_here F None more from fewer f e = cc
one_writer_here F (Some t) more from fewer f e = ap (λ k. has_one_writer (plus (after_less (is_frame from k) (F k) fewer) more)) (frame_same t f e)

decided : (s : Places) → is_once s.placed ≡ true → (F : Frame → Shares) → ((f : Frame) → has_one_writer (F f) ≡ true) → (o : Option Frame) (more : Shares) (from : Option Frame) (fewer : Shares) →
    ((f : Frame) → after_more (is_frame o f) (after_less (is_frame from f) (F f) fewer) more ≡ shares_where s (is_backed s f)) → one_writer_after F o more from fewer ≡ one_writer s
decided s once F alone o more from fewer h = one_decides s once o (one_writer_after F o more from fewer) others here none
  where
    others : (f : Frame) → is_frame o f ≡ false → one_writer_at s f ≡ true
    others f e = sym (ap has_one_writer (h f)) ∙ ap (λ b. has_one_writer (after_more b (after_less (is_frame from f) (F f) fewer) more)) e ∙ one_writer_less (F f) fewer (is_frame from f) (alone f)

    here : (f : Frame) → is_frame o f ≡ true → one_writer_at s f ≡ one_writer_after F o more from fewer
    here f e = sym (ap has_one_writer (h f)) ∙ ap (λ b. has_one_writer (after_more b (after_less (is_frame from f) (F f) fewer) more)) e ∙ sym (one_writer_here F o more from fewer f e)

    none : o ≡ None → one_writer_after F o more from fewer ≡ true
    none e = ap (λ p. one_writer_after F p more from fewer) e

abbrev Kept : Places → (Frame → Shares) → Type 0
Kept s F = (f : Frame) → F f ≡ shares_where s (is_backed s f)

all_one_writer : (s : Places) → is_once s.placed ≡ true → one_writer s ≡ true → (F : Frame → Shares) → Kept s F → (f : Frame) → has_one_writer (F f) ≡ true
all_one_writer s once one F k f = ap has_one_writer (k f) ∙ one_writer_all s once one f

pub place_decided : (s : Places) → is_once s.placed ≡ true → Listed s → one_writer s ≡ true → (F : Frame → Shares) → Kept s F → (to : Frame → Option Frame) → ((f : Frame) → to f ≡ s.committed_to f) → (p v : ℕ) (x : Place) →
    one_writer_after F (backing_by to x) (share_of x) (backing_by to (s.place p v)) (share_of (s.place p v)) ≡ one_writer (places_next s (Kind.Place p v x))
place_decided s once listed one F kept to same p v x =
    ap (λ o. one_writer_after F o (share_of x) (backing_by to (s.place p v)) (share_of (s.place p v))) (backed_by to s same x)
    ∙ ap (λ o. one_writer_after F (backing s x) (share_of x) o (share_of (s.place p v))) (backed_by to s same (s.place p v))
    ∙ decided (places_next s (Kind.Place p v x)) (once_next p v s.placed once) F (all_one_writer s once one F kept) (backing s x) (share_of x) (backing s (s.place p v)) (share_of (s.place p v))
    (λ f. ap (λ a. after_more (is_backed s f x) (after_less (is_backed s f (s.place p v)) a (share_of (s.place p v))) (share_of x)) (kept f) ∙ less_then_more _ _ _ _ _ _ (place_settled s once listed (is_backed s f) refl p v x))

pub commit_decided : (s : Places) → is_once s.placed ≡ true → one_writer s ≡ true → (F : Frame → Shares) → Kept s F → (to : Option Frame) (f g : Frame) (m : Shares) → to ≡ s.committed_to f → m ≡ shares_where s (is_moving_of f) →
    one_writer_after F (Some g) m (Some (unwrap_or to f)) m ≡ one_writer (committed s f g)
commit_decided s once one F kept to f g m e same =
    ap (λ o. one_writer_after F (Some g) m (Some (unwrap_or o f)) m) e
    ∙ ap (λ n. one_writer_after F (Some g) n (Some (target_of s f)) n) same
    ∙ decided (committed s f g) once F (all_one_writer s once one F kept) (Some g) (shares_where s (is_moving_of f)) (Some (target_of s f)) (shares_where s (is_moving_of f))
    (λ t. ap (λ a. after_more (same_frame g t) (after_less (same_frame (target_of s f) t) a (shares_where s (is_moving_of f))) (shares_where s (is_moving_of f))) (kept t) ∙ less_then_more _ _ _ _ _ _ (commit_settled s f g t))

-- a free frame is taken, that no place names
abbrev taken : Places → Frame → Places
taken s f = places_next s (Kind.Take f)

abbrev Named : Places → Type 0
Named s = (p v : ℕ) (f : Frame) → is_frame (names (s.place p v)) f ≡ true → s.held f ≡ true

still_backed : (s : Places) (f t : Frame) (x : Place) → is_frame (names x) f ≡ false → is_backed (taken s f) t x ≡ is_backed s t x
still_backed s f t Empty e = refl
still_backed s f t Zero e = refl
still_backed s f t (Sys n w) e = refl
still_backed s f t (Own d n w) e = refl
still_backed s f t (Exclusive n a) e = refl
still_backed s f t (Moving h w) e = ap (λ b. same_frame (unwrap_or (if b then None else s.committed_to h) h) t) e

not_named : (s : Places) → Named s → (f : Frame) → s.held f ≡ false → (p v : ℕ) → is_frame (names (s.place p v)) f ≡ false
not_named s named f free p v = by (is_frame (names (s.place p v)) f) refl
  where
    by : (b : Bool) → is_frame (names (s.place p v)) f ≡ b → b ≡ false
    by true e = absurd (true_false (s.held f) (named p v f e) free)
    by false e = refl

pub take_stepped : (s : Places) → Named s → (f : Frame) → s.held f ≡ false → (t : Frame) → shares_where s (is_backed s t) ≡ shares_where (taken s f) (is_backed (taken s f) t)
take_stepped s named f free t = same_shares _ _
    (count_alike (λ y. is_backed s t (s.place y.0 y.1)) (λ y. is_backed (taken s f) t (s.place y.0 y.1)) s.placed (λ y. sym (same y)))
    (count_alike (λ y. is_backed s t (s.place y.0 y.1) && writable (s.place y.0 y.1)) (λ y. is_backed (taken s f) t (s.place y.0 y.1) && writable (s.place y.0 y.1)) s.placed (λ y. ap (λ b. b && writable (s.place y.0 y.1)) (sym (same y))))
  where
    same : (y : ℕ × ℕ) → is_backed (taken s f) t (s.place y.0 y.1) ≡ is_backed s t (s.place y.0 y.1)
    same y = still_backed s f t (s.place y.0 y.1) (not_named s named f free y.0 y.1)

pub take_one_writer : (s : Places) → Named s → is_once s.placed ≡ true → one_writer s ≡ true → (f : Frame) → s.held f ≡ false → one_writer (taken s f) ≡ true
take_one_writer s named once one f free = writer_of (taken s f) (λ t. sym (ap has_one_writer (take_stepped s named f free t)) ∙ one_writer_all s once one t)

-- what is kept of the pages that pass a test, once a page has another place
pub kept_place : (s : Places) → is_once s.placed ≡ true → Listed s → (test : Place → Bool) → test Empty ≡ false → (p v : ℕ) (x old : Place) (a b d : Shares) (n o : Bool) → old ≡ s.place p v → n ≡ test x → o ≡ test old →
    a ≡ shares_where s test → b ≡ after_more n a (share_of x) → d ≡ after_less o b (share_of old) → d ≡ shares_where (places_next s (Kind.Place p v x)) test
kept_place s once listed test none p v x old a b d n o was en eo ea eb ed =
    ed ∙ ap (λ z. after_less o z (share_of old)) (eb ∙ ap (λ m. after_more m a (share_of x)) en ∙ ap (λ z. after_more (test x) z (share_of x)) ea)
    ∙ ap (λ m. after_less m more (share_of old)) (eo ∙ ap test was) ∙ ap (λ z. after_less (test (s.place p v)) more (share_of z)) was
    ∙ place_stepped s once listed test none p v x
  where
    more : Shares
    more = after_more (test x) (shares_where s test) (share_of x)

-- and once a frame is committed
pub kept_commit : (s : Places) (f g t target : Frame) (m a b d : Shares) → target ≡ target_of s f → m ≡ shares_where s (is_moving_of f) → a ≡ shares_where s (is_backed s t) →
    b ≡ after_more (same_frame g t) a m → d ≡ after_less (same_frame target t) b m → d ≡ shares_where (committed s f g) (is_backed (committed s f g) t)
kept_commit s f g t target m a b d et em ea eb ed =
    ed ∙ ap (λ z. after_less (same_frame target t) z m) (eb ∙ ap (λ z. after_more (same_frame g t) z m) ea)
    ∙ ap (λ k. after_less (same_frame k t) (after_more (same_frame g t) (shares_where s (is_backed s t)) m) m) et
    ∙ ap (λ k. after_less (same_frame (target_of s f) t) (after_more (same_frame g t) (shares_where s (is_backed s t)) k) k) em
    ∙ commit_stepped s f g t

-- what places name is held
pub named_placed : (s : Places) → Named s → (p v : ℕ) (x : Place) → holds_target s (names x) ≡ true → Named (places_next s (Kind.Place p v x))
named_placed s named p v x h q u f e = by ((q == p) && (u == v)) e
  where
    new : (o : Option Frame) → o ≡ Some f → holds_target s o ≡ true → s.held f ≡ true
    new o k l = ap (holds_target s) (sym k) ∙ l

    by : (b : Bool) → is_frame (names (if b then x else s.place q u)) f ≡ true → s.held f ≡ true
    by true k = new (names x) (is_frame_from (names x) f k) h
    by false k = named q u f k

pub named_taken : (s : Places) → Named s → (g : Frame) → Named (taken s g)
named_taken s named g q u f e = by (same_frame f g)
  where
    by : (b : Bool) → (if b then true else s.held f) ≡ true
    by true = refl
    by false = named q u f e

pub named_dropped : (s : Places) → Named s → (g : Frame) → ((q u : ℕ) → is_frame (names (s.place q u)) g ≡ false) → Named (places_next s (Kind.Drop g))
named_dropped s named g none q u f e = by (same_frame f g) refl
  where
    by : (b : Bool) → same_frame f g ≡ b → (if b then false else s.held f) ≡ true
    by true k = absurd (true_false (is_frame (names (s.place q u)) f) e (ap (is_frame (names (s.place q u))) (frame_same f g k) ∙ none q u))
    by false k = named q u f e

-- no place names the frame, where the lowest that does is none
pub none_names : (s : Places) → Listed s → (f : Frame) → is_none (lowest_named s f) ≡ true → (q u : ℕ) → is_frame (names (s.place q u)) f ≡ false
none_names s listed f h = by (lowest_named s f) h (lowest_is (λ q u. is_frame (names (s.place q u)) f) s.placed (λ q u k. listed q u (used (s.place q u) k)))
  where
    used : (x : Place) → is_frame (names x) f ≡ true → is_empty_place x ≡ false
    used Empty k = cc
    used Zero k = refl
    used (Sys n w) k = refl
    used (Own d n w) k = refl
    used (Moving g w) k = refl
    used (Exclusive n a) k = refl

    by : (o : Option (ℕ × ℕ)) → is_none o ≡ true → IsLowest (λ q u. is_frame (names (s.place q u)) f) o → (q u : ℕ) → is_frame (names (s.place q u)) f ≡ false
    by None e k = k
    by (Some z) e k = absurd (let b : ⊥ = cc in b)
