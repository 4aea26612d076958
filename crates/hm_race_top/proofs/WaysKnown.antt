-- The ways that are written, and the outcomes that a search knows.
use Rattle.std.proofs.Common.{◌≡◌, ℕ, zero, suc, ◌≤◌, arith, ◌+◌, ◌<◌, Bool, true, false, inl, inr, List, [], ◌∷◌, ◌++◌, map, length, get_or, take, refl, sym, ap, ◌∙◌, subst}
use Rattle.std.specs.Prelude.{if◌then◌else◌}
use Rattle.std.proofs.lemmas.List.{take_more}
use Rattle.std.proofs.lemmas.List.Sums.{fold-append}
use Rattle.hm_history.specs.declared.Kind.{Kind}
use Rattle.hm_race_laws.specs.Closed.{IsListed}
use Rattle.hm_race_laws.specs.Outcomes.{outcome, answers_of}
use Rattle.hm_race_top.specs.Run.Known.{KnownValue, outcomes_of}
use Rattle.hm_race_lines.specs.Answers.{answer_lines}
use Rattle.hm_race_top.specs.Text.Laws.{lines_of, WaysAreShown}
use Rattle.hm_race_top.specs.Text.Text.{Way, block_of, with_block, blocks_of}
use Rattle.hm_race_top.specs.declared.text.block.OutcomeBlock.{OutcomeBlock}
use Rattle.hm_race_top.specs.Laws.{WaysAreOutcomes, CompleteIsAll}
use Rattle.hm_race_top.specs.Ways.{way_by, ways_by, ways_of, with_ways, blocks_known}

pub ways_are_outcomes : WaysAreOutcomes
ways_are_outcomes c [] = refl
ways_are_outcomes c (n ∷ ns) = by (ways_are_outcomes c ns) n.ended
  where
    by : map (λ (w : Way). w.answers) (ways_of c ns) ≡ outcomes_of c ns → (t : Bool)
        → map (λ (w : Way). w.answers) (if t then way_by (length c.actors) n ∷ ways_of c ns else ways_of c ns) ≡ (if t then outcome c n.form.answers ∷ outcomes_of c ns else outcomes_of c ns)
    by rest true = ap (λ (xs : List (List (List Kind))). outcome c n.form.answers ∷ xs) rest
    by rest false = rest

-- a way with these answers
pub record With (ws : List Way) (x : List (List Kind)) : Type 0 where
  pub way : Way
  pub listed : IsListed ws way
  pub answers : way.answers ≡ x

listed_with : (ws : List Way) (x : List (List Kind)) → IsListed (map (λ (w : Way). w.answers) ws) x → With ws x
listed_with [] x l = absurd l
listed_with (w ∷ ws) x (inl e) = record { way = w; listed = inl refl; answers = e }
listed_with (w ∷ ws) x (inr l) = let f = listed_with ws x l in record { way = f.way; listed = inr f.listed; answers = f.answers }

pub complete_is_all : WaysAreShown → CompleteIsAll
complete_is_all shown c ns all es due end =
    let x : List (List Kind) = outcome c (answers_of es) in
    let f = listed_with (ways_of c ns) x (subst (λ (xs : List (List (List Kind))). IsListed xs x) (sym (ways_are_outcomes c ns)) (all es due end)) in
    subst (λ (y : List (List Kind)). IsListed (lines_of (blocks_known c ns)) (answer_lines y)) f.answers (shown (ways_of c ns) f.way f.listed)

-- a state at which all operations have ended, whose way this is
pub record From (actors : ℕ) (ns : List KnownValue) (w : Way) : Type 0 where
  pub known : KnownValue
  pub listed : IsListed ns known
  pub ended : known.ended ≡ true
  pub way : way_by actors known ≡ w

pub came_from : (actors : ℕ) (ns : List KnownValue) (w : Way) → IsListed (ways_by actors ns) w → From actors ns w
came_from actors [] w l = absurd l
came_from actors (n ∷ ns) w l = by (came_from actors ns w) n.ended refl l
  where
    later : From actors ns w → From actors (n ∷ ns) w
    later f = record { known = f.known; listed = inr f.listed; ended = f.ended; way = f.way }

    by : (IsListed (ways_by actors ns) w → From actors ns w) → (t : Bool) → n.ended ≡ t
        → IsListed (if t then way_by actors n ∷ ways_by actors ns else ways_by actors ns) w → From actors (n ∷ ns) w
    by rest true e (inl here) = record { known = n; listed = inl refl; ended = e; way = here }
    by rest true e (inr l) = later (rest l)
    by rest false e l = later (rest l)

-- ---- one more state

pub ways_more : (actors : ℕ) (ns ms : List KnownValue) → ways_by actors (ns ++ ms) ≡ ways_by actors ns ++ ways_by actors ms
ways_more actors [] ms = refl
ways_more actors (m ∷ ns) ms = by (ways_more actors ns ms) m.ended
  where
    by : ways_by actors (ns ++ ms) ≡ ways_by actors ns ++ ways_by actors ms → (t : Bool)
        → (if t then way_by actors m ∷ ways_by actors (ns ++ ms) else ways_by actors (ns ++ ms))
        ≡ (if t then way_by actors m ∷ ways_by actors ns else ways_by actors ns) ++ ways_by actors ms
    by rest true = ap (λ (ws : List Way). way_by actors m ∷ ws) rest
    by rest false = rest

-- blocks of known states, and then of more
pub more_blocks : (actors : ℕ) (ns ms : List KnownValue) (bs new : List OutcomeBlock) → bs ≡ blocks_of (ways_by actors ns) → new ≡ with_ways bs (ways_by actors ms) → new ≡ blocks_of (ways_by actors (ns ++ ms))
more_blocks actors ns ms bs new so next =
    next ∙ ap (λ (cs : List OutcomeBlock). with_ways cs (ways_by actors ms)) so
    ∙ sym (ap blocks_of (ways_more actors ns ms) ∙ fold-append (λ (cs : List OutcomeBlock) (w : Way). with_block cs (block_of w)) [] (ways_by actors ns) (ways_by actors ms))

module _ (actors : ℕ) (ns : List KnownValue) (i : ℕ) (n : KnownValue) (lt : i < length ns) (is : get_or ns i n ≡ n) where
  grown : ways_by actors (take (i + 1) ns) ≡ ways_by actors (take i ns) ++ ways_by actors (n ∷ [])
  grown = ap (ways_by actors) (take_more ns i n lt ∙ ap (λ (x : KnownValue). take i ns ++ x ∷ []) is) ∙ ways_more actors (take i ns) (n ∷ [])

  pub one_ended : (start bs new : List OutcomeBlock) → n.ended ≡ true → bs ≡ with_ways start (ways_by actors (take i ns)) → new ≡ with_block bs (block_of (way_by actors n))
      → new ≡ with_ways start (ways_by actors (take (i + 1) ns))
  one_ended start bs new e so next =
      let one : ways_by actors (n ∷ []) ≡ way_by actors n ∷ [] =
      ap (λ (t : Bool). if t then way_by actors n ∷ [] else []) e in
      next ∙ ap (λ (cs : List OutcomeBlock). with_block cs (block_of (way_by actors n))) so
      ∙ sym (ap (with_ways start) (grown ∙ ap (λ (ws : List Way). ways_by actors (take i ns) ++ ws) one)
      ∙ fold-append (λ (cs : List OutcomeBlock) (w : Way). with_block cs (block_of w)) start (ways_by actors (take i ns)) (way_by actors n ∷ []))

  pub one_open : (start bs : List OutcomeBlock) → n.ended ≡ false → bs ≡ with_ways start (ways_by actors (take i ns))
      → bs ≡ with_ways start (ways_by actors (take (i + 1) ns))
  one_open start bs e so =
      let none : ways_by actors (n ∷ []) ≡ [] =
      ap (λ (t : Bool). if t then way_by actors n ∷ [] else []) e in
      so ∙ sym (ap (with_ways start) (grown ∙ ap (λ (ws : List Way). ways_by actors (take i ns) ++ ws) none)
      ∙ fold-append (λ (cs : List OutcomeBlock) (w : Way). with_block cs (block_of w)) start (ways_by actors (take i ns)) [])

-- all of them were taken
pub took_all : (ns : List KnownValue) (i : ℕ) → length ns ≤ i → take i ns ≡ ns
took_all [] zero l = refl
took_all [] (suc i) l = refl
took_all (n ∷ ns) zero l = absurd (omega (arith, l))
took_all (n ∷ ns) (suc i) l = ap (λ z. n ∷ z) (took_all ns i (omega (arith, l)))
