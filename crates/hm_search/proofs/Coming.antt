-- A search comes to its goal, or has missed it so far.
use Rattle.std.proofs.Common.{◌≡◌, ℕ, ◌≤◌, ◌⊎◌, inl, inr, Bool, true, false, List, [], ◌∷◌, ◌++◌, refl, sym, ap, ◌∙◌, subst, length, drop, arith}
use Rattle.std.proofs.Math.Seq.{drop-append_seam}
use Rattle.std.proofs.lemmas.Bool.{and_parts, false≢true, or_parts}
use Rattle.std.specs.Prelude.{◌&&◌, ◌||◌}
use Rattle.std.specs.List.{list_any}
use Rattle.hm_race_laws.specs.Closed.{IsListed}
use Rattle.hm_race_laws.proofs.Searching.{listed_cases, listed_right}
use Rattle.hm_search.specs.Goals.{AreMissed, IsSoon, Reaches}
use Rattle.hm_search.specs.Known.{KnownValue}
use Rattle.hm_search.specs.Values.{all_known, at_goal, HasGrown}
use Rattle.hm_search.specs.declared.known.Known.{Known}
use Rattle.hm_search.proofs.Exploring.{known_length, known_more, reaches}

-- ---- what the answers say of known states

missed_none : {F : Type 0} (goal : F → Bool) (ns : List (KnownValue F)) → list_any (reaches goal) ns ≡ false → AreMissed goal ns
missed_none goal [] none n l e = absurd l
missed_none goal (m ∷ ns) none n (inl same) e = sym (ap (λ b. b && goal n.form) e) ∙ (ap (reaches goal) (sym same) ∙ (or_parts (reaches goal m) (list_any (reaches goal) ns) none).0)
missed_none goal (m ∷ ns) none n (inr l) e = missed_none goal ns (or_parts (reaches goal m) (list_any (reaches goal) ns) none).1 n l e

reaches_some : {F : Type 0} (goal : F → Bool) (ns : List (KnownValue F)) → list_any (reaches goal) ns ≡ true → Reaches goal ns
reaches_some goal [] some = absurd (false≢true some)
reaches_some goal (m ∷ ns) some = by (reaches goal m) refl (λ t. reaches_some goal ns t) some
  where
    by : (b : Bool) → reaches goal m ≡ b → (list_any (reaches goal) ns ≡ true → Reaches goal ns) → (b || list_any (reaches goal) ns) ≡ true → Reaches goal (m ∷ ns)
    by true e later t = record { state = m; listed = inl refl; ended = (and_parts m.ended (goal m.form) e).0; reached = (and_parts m.ended (goal m.form) e).1 }
    by false e later t = let r = later t in record { state = r.state; listed = inr r.listed; ended = r.ended; reached = r.reached }

missed_more : {F : Type 0} (goal : F → Bool) (vs ws : List (KnownValue F)) → AreMissed goal vs → AreMissed goal ws → AreMissed goal (vs ++ ws)
missed_more goal vs ws before after n l e = by (listed_cases vs ws n l)
  where
    by : IsListed vs n ⊎ IsListed ws n → goal n.form ≡ false
    by (inl k) = before n k e
    by (inr k) = after n k e

reaches_right : {F : Type 0} (goal : F → Bool) (vs ws : List (KnownValue F)) → Reaches goal ws → Reaches goal (vs ++ ws)
reaches_right goal vs ws r = record { state = r.state; listed = listed_right vs ws r.state r.listed; ended = r.ended; reached = r.reached }

-- ---- after a step

pub grown_first : {K : Type 0} (ms : List (Known K)) → length ms ≡ 1 → HasGrown [] ms 1
grown_first ms one = record { more = ms; grown = refl; few = omega (arith, one) }

-- `b` is the answer for the states that were found since
module _ {K F : Type 0} (form : K → F) (goal : F → Bool) (ns ms : List (Known K)) (k from : ℕ) (b : Bool) (grown : HasGrown ns ms k) (at : from ≡ length ns) (asked : b ≡ list_any (at_goal form goal) (drop from ms)) where
  abbrev old : List (KnownValue F)
  old = all_known form ns

  abbrev last : List (KnownValue F)
  last = (known_more form ns grown.more).rest

  known : all_known form ms ≡ old ++ last
  known = ap (all_known form) grown.grown ∙ (known_more form ns grown.more).same

  more : drop from ms ≡ grown.more
  more = ap (λ z. drop z ms) at ∙ (ap (drop (length ns)) grown.grown ∙ drop-append_seam ns grown.more)

  told : b ≡ list_any (reaches goal) last
  told = asked ∙ (ap (list_any (at_goal form goal)) more ∙ sym ((known_more form ns grown.more).asked goal))

  pub missed_step : AreMissed goal old → b ≡ false → AreMissed goal (all_known form ms)
  missed_step before none = subst (AreMissed goal) (sym known) (missed_more goal old last before (missed_none goal last (sym told ∙ none)))

  pub reaches_step : b ≡ true → Reaches goal (all_known form ms)
  reaches_step some = subst (Reaches goal) (sym known) (reaches_right goal old last (reaches_some goal last (sym told ∙ some)))

  pub soon_step : (actors : ℕ) → AreMissed goal old → (k ≤ actors) ⊎ (length ms ≡ 1) → IsSoon actors goal (all_known form ms)
  soon_step actors before few = record { before = old; last = last; all = known; few = by few; missed = before }
    where
      by : (k ≤ actors) ⊎ (length ms ≡ 1) → (length last ≤ actors) ⊎ (length (all_known form ms) ≡ 1)
      by (inl l) = inl (omega (arith, l, grown.few, (known_more form ns grown.more).many))
      by (inr e) = inr (known_length form ms ∙ e)
