-- The blocks of ways: each is that of a way, each way is shown, and none twice.
use Rattle.std.proofs.Common.{◌≡◌, Bool, true, false, inl, inr, ℕ, List, [], ◌∷◌, ◌++◌, refl, sym, subst, fold}
use Rattle.std.specs.Prelude.{◌⊎◌, ◌||◌, if◌then◌else◌}
use Rattle.std.specs.Str.{bytes_eq}
use Rattle.std.proofs.lemmas.Bool.Decides.{not_from_Decides}
use Rattle.std.proofs.lemmas.List.{map-append}
use Rattle.std.proofs.lemmas.Slice.Eq.{bytes_eq-Decides}
use Rattle.hm_race_laws.specs.Closed.{IsListed, AreDistinct}
use Rattle.hm_race_laws.proofs.Searching.{listed_left, listed_right, listed_cases, distinct_more}
use Rattle.hm_race_lines.specs.Answers.{answer_lines}
use Rattle.hm_race_top.specs.Text.Text.{Way, block_of, has_lines, with_block}
use Rattle.hm_race_top.specs.Text.Laws.{IsFound, BlocksAreFound, lines_of, WaysAreShown, NoneTwice}
use Rattle.hm_race_top.specs.declared.text.block.OutcomeBlock.{OutcomeBlock}

has_listed : (xs : List ℕ) (bs : List OutcomeBlock) → has_lines xs bs ≡ true → IsListed (lines_of bs) xs
has_listed xs [] h = cc
has_listed xs (b ∷ bs) h = by (has_listed xs bs) (bytes_eq b.lines xs) refl h
  where
    by : (has_lines xs bs ≡ true → IsListed (lines_of bs) xs) → (t : Bool) → bytes_eq b.lines xs ≡ t → (t || has_lines xs bs) ≡ true → IsListed (lines_of (b ∷ bs)) xs
    by rest true e h = inl ((bytes_eq-Decides b.lines xs).0 e)
    by rest false e h = inr (rest h)

has_not : (xs : List ℕ) (bs : List OutcomeBlock) → has_lines xs bs ≡ false → IsListed (lines_of bs) xs → ⊥
has_not xs [] h l = l
has_not xs (b ∷ bs) h l = by (has_not xs bs) (bytes_eq b.lines xs) refl h l
  where
    by : (has_lines xs bs ≡ false → IsListed (lines_of bs) xs → ⊥) → (t : Bool) → bytes_eq b.lines xs ≡ t → (t || has_lines xs bs) ≡ false → IsListed (lines_of (b ∷ bs)) xs → ⊥
    by rest true e h l = cc
    by rest false e h (inl same) = not_from_Decides (bytes_eq b.lines xs) (bytes_eq-Decides b.lines xs) e same
    by rest false e h (inr l) = rest h l

-- ---- one more block

lines_more : (bs : List OutcomeBlock) (b : OutcomeBlock) → lines_of (bs ++ b ∷ []) ≡ lines_of bs ++ b.lines ∷ []
lines_more bs b = map-append (λ (x : OutcomeBlock). x.lines) bs (b ∷ [])

kept : (bs : List OutcomeBlock) (b : OutcomeBlock) (xs : List ℕ) → IsListed (lines_of bs) xs → IsListed (lines_of (with_block bs b)) xs
kept bs b xs l = by (has_lines b.lines bs)
  where
    by : (t : Bool) → IsListed (lines_of (if t then bs else bs ++ b ∷ [])) xs
    by true = l
    by false = subst (λ (ys : List (List ℕ)). IsListed ys xs) (sym (lines_more bs b)) (listed_left (lines_of bs) (b.lines ∷ []) xs l)

new_listed : (bs : List OutcomeBlock) (b : OutcomeBlock) → IsListed (lines_of (with_block bs b)) b.lines
new_listed bs b = by (has_lines b.lines bs) refl
  where
    by : (t : Bool) → has_lines b.lines bs ≡ t → IsListed (lines_of (if t then bs else bs ++ b ∷ [])) b.lines
    by true e = has_listed b.lines bs e
    by false e = subst (λ (ys : List (List ℕ)). IsListed ys b.lines) (sym (lines_more bs b)) (listed_right (lines_of bs) (b.lines ∷ []) b.lines (inl refl))

from_where : (bs : List OutcomeBlock) (b y : OutcomeBlock) → IsListed (with_block bs b) y → IsListed bs y ⊎ (b ≡ y)
from_where bs b y l = by (has_lines b.lines bs) l
  where
    last : IsListed bs y ⊎ IsListed (b ∷ []) y → IsListed bs y ⊎ (b ≡ y)
    last (inl m) = inl m
    last (inr (inl e)) = inr e
    last (inr (inr m)) = absurd m

    by : (t : Bool) → IsListed (if t then bs else bs ++ b ∷ []) y → IsListed bs y ⊎ (b ≡ y)
    by true m = inl m
    by false m = last (listed_cases bs (b ∷ []) y m)

still_distinct : (bs : List OutcomeBlock) (b : OutcomeBlock) → AreDistinct (lines_of bs) → AreDistinct (lines_of (with_block bs b))
still_distinct bs b d = by (has_lines b.lines bs) refl
  where
    by : (t : Bool) → has_lines b.lines bs ≡ t → AreDistinct (lines_of (if t then bs else bs ++ b ∷ []))
    by true e = d
    by false e = subst (λ (ys : List (List ℕ)). AreDistinct ys) (sym (lines_more bs b)) (distinct_more (lines_of bs) b.lines d (has_not b.lines bs e))

-- ---- all of them

all_kept : (bs : List OutcomeBlock) (ws : List Way) (xs : List ℕ) → IsListed (lines_of bs) xs → IsListed (lines_of (fold (λ cs w. with_block cs (block_of w)) bs ws)) xs
all_kept bs [] xs l = l
all_kept bs (w ∷ ws) xs l = all_kept (with_block bs (block_of w)) ws xs (kept bs (block_of w) xs l)

all_shown : (bs : List OutcomeBlock) (ws : List Way) (w : Way) → IsListed ws w → IsListed (lines_of (fold (λ cs v. with_block cs (block_of v)) bs ws)) (answer_lines w.answers)
all_shown bs [] w l = absurd l
all_shown bs (v ∷ ws) w (inl e) = all_kept (with_block bs (block_of v)) ws (answer_lines w.answers)
    (subst (λ (u : Way). IsListed (lines_of (with_block bs (block_of v))) (answer_lines u.answers)) e (new_listed bs (block_of v)))
all_shown bs (v ∷ ws) w (inr l) = all_shown (with_block bs (block_of v)) ws w l

pub ways_are_shown : WaysAreShown
ways_are_shown ws w l = all_shown [] ws w l

all_distinct : (bs : List OutcomeBlock) (ws : List Way) → AreDistinct (lines_of bs) → AreDistinct (lines_of (fold (λ cs w. with_block cs (block_of w)) bs ws))
all_distinct bs [] d = d
all_distinct bs (w ∷ ws) d = all_distinct (with_block bs (block_of w)) ws (still_distinct bs (block_of w) d)

pub none_twice : NoneTwice
none_twice ws = all_distinct [] ws tt

later : (v : Way) (ws : List Way) (b : OutcomeBlock) → IsFound ws b → IsFound (v ∷ ws) b
later v ws b f = record { way = f.way; listed = inr f.listed; block = f.block }

all_found : (bs : List OutcomeBlock) (ws : List Way) (b : OutcomeBlock) → IsListed (fold (λ cs w. with_block cs (block_of w)) bs ws) b → IsListed bs b ⊎ IsFound ws b
all_found bs [] b l = inl l
all_found bs (w ∷ ws) b l = by (all_found (with_block bs (block_of w)) ws b l)
  where
    here : IsListed bs b ⊎ (block_of w ≡ b) → IsListed bs b ⊎ IsFound (w ∷ ws) b
    here (inl m) = inl m
    here (inr e) = inr (record { way = w; listed = inl refl; block = e })

    by : IsListed (with_block bs (block_of w)) b ⊎ IsFound ws b → IsListed bs b ⊎ IsFound (w ∷ ws) b
    by (inl m) = here (from_where bs (block_of w) b m)
    by (inr f) = inr (later w ws b f)

pub blocks_are_found : BlocksAreFound
blocks_are_found ws b l = by (all_found [] ws b l)
  where
    by : IsListed [] b ⊎ IsFound ws b → IsFound ws b
    by (inl m) = absurd m
    by (inr f) = f
