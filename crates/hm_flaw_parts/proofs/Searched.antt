-- What a search of the race of a driver with a flaw has shown.
use Rattle.std.proofs.Common.{◌≡◌, ℕ, ◌<◌, ◌≤◌, ◌⊎◌, inl, inr, suc, Bool, true, false, Option, Some, None, List, [], ◌∷◌, ◌++◌, length, refl, sym, ap, ◌∙◌, subst, arith}
use Rattle.std.specs.Prelude.{is_none, is_some}
use Rattle.std.proofs.lemmas.Bool.{and_parts, false≢true}
use Rattle.hm_base.specs.Program.{Program}
use Rattle.hm_history.specs.declared.Entry.{Entry}
use Rattle.hm_flaws.specs.declared.flaws.Flaw.{Flaw}
use Rattle.hm_flaws.specs.declared.parts.Part.{Part}
use Rattle.hm_flaws.specs.Races.{is_stuck}
use Rattle.hm_race_laws.specs.Closed.{IsListed}
use Rattle.hm_race_laws.proofs.Searching.{listed_cases, listed_right}
use Rattle.hm_search.specs.Goals.{AreMissed}
use Rattle.hm_search.specs.Known.{KnownValue, AreKnown, AreRising, HaveFewer, HaveForms, Within, turns_at}
use Rattle.hm_search.proofs.Exploring.{From, from_map, place_of}
use Rattle.hm_flaw_parts.specs.Races.Races.{FlawPoint, flaw_system}
use Rattle.hm_flaw_parts.specs.Races.Judging.{point_after, breaks_at, sticks_at, EachAdds}
use Rattle.hm_flaw_parts.specs.Races.Shortest.{BreaksSoonest, IsFirst}
use Rattle.hm_flaw_parts.specs.Races.Laws.{BrokenTurnsBreak, FirstBreaksSoonest, FirstSticksSoonest, StuckTurnsStick, WholeBreaksNone, WholeNeverSticks}
use Rattle.hm_flaw_parts.proofs.BrokenTurns.{unbroken_breaks_later, unbroken_breaks_none, unstuck_never_sticks, unstuck_sticks_later}

-- ---- all states

-- a goal that no known state reaches holds after no turns
unreached : (parts : List Part) (l : Flaw) (c : Program) (h : List Entry) (known : List (KnownValue FlawPoint)) → AreKnown (flaw_system parts l c h) known → HaveForms (flaw_system parts l c h) known
    → (goal : FlawPoint → Bool) → AreMissed goal known → (turns : List ℕ) → goal (point_after parts l c h turns) ≡ false
unreached parts l c h known each all goal missed turns = by (from_map (λ (n : KnownValue FlawPoint). n.form) known (point_after parts l c h turns) (all turns))
  where
    by : From (λ (n : KnownValue FlawPoint). n.form) known (point_after parts l c h turns) → goal (point_after parts l c h turns) ≡ false
    by z = sym (ap goal z.same) ∙ missed z.item z.listed (each z.item z.listed).ended

none_broken : (o : Option Part) → is_some o ≡ false → o ≡ None
none_broken None k = refl
none_broken (Some part) k = absurd (false≢true (sym k))

pub whole_breaks_none : WholeBreaksNone
whole_breaks_none parts l c h known each all missed = unbroken_breaks_none parts l c h (λ turns. none_broken (point_after parts l c h turns).broken (unreached parts l c h known each all breaks_at missed turns))

pub whole_never_sticks : WholeNeverSticks
whole_never_sticks parts l c h known each all missed = unstuck_never_sticks parts l c h (unreached parts l c h known each all (sticks_at l c) missed)

-- ---- the first that is found

rising_rest : {F : Type 0} (vs ws : List (KnownValue F)) → AreRising (vs ++ ws) → AreRising ws
rising_rest [] ws r = r
rising_rest (v ∷ vs) ws r = rising_rest vs ws (λ i j le l. r (suc i) (suc j) (omega (arith, le)) (omega (arith, l)))

-- more turns lead to what stands later
later : {F : Type 0} (n : KnownValue F) (rest : List (KnownValue F)) (m : KnownValue F) → AreRising (n ∷ rest) → IsListed (n ∷ rest) m → length n.turns ≤ length m.turns
later n rest m r k =
    let p = place_of (n ∷ rest) m k in
    let most : length n.turns ≤ length (turns_at (n ∷ rest) p.place) = r 0 p.place (omega arith) p.within in
    omega (arith, most, ap length p.same)

module _ (parts : List Part) (l : Flaw) (c : Program) (h : List Entry) (known : List (KnownValue FlawPoint)) (each : AreKnown (flaw_system parts l c h) known) (goal : FlawPoint → Bool) (n : KnownValue FlawPoint) (first : IsFirst goal known n) where
  there : IsListed known n
  there = subst (λ (z : List (KnownValue FlawPoint)). IsListed z n) (sym first.all) (listed_right first.before (n ∷ first.rest) n (inl refl))

  -- the goal holds after no fewer turns
  unreached_before : HaveFewer (flaw_system parts l c h) known → AreRising known → (turns : List ℕ) → length turns < length n.turns → goal (point_after parts l c h turns) ≡ false
  unreached_before fewer rising turns less = by (fewer n there turns less)
    where
      at_cases : (w : KnownValue FlawPoint) → IsListed known w → length w.turns ≤ length turns → IsListed first.before w ⊎ IsListed (n ∷ first.rest) w → goal w.form ≡ false
      at_cases w k few (inl z) = first.missed w z (each w k).ended
      at_cases w k few (inr z) = absurd (omega (arith, few, less, later n first.rest w (rising_rest first.before (n ∷ first.rest) (subst AreRising first.all rising)) z))

      by : Within known (point_after parts l c h turns) (length turns) → goal (point_after parts l c h turns) ≡ false
      by w = sym (ap goal w.form) ∙ at_cases w.state w.listed w.few (listed_cases first.before (n ∷ first.rest) w.state (subst (λ (z : List (KnownValue FlawPoint)). IsListed z w.state) first.all w.listed))

  adds : EachAdds parts l c h n.turns
  adds = (each n there).adds

  same : n.form ≡ point_after parts l c h n.turns
  same = (each n there).form

pub first_breaks_soonest : BrokenTurnsBreak → FirstBreaksSoonest
first_breaks_soonest law parts l c h known each fewer rising n first = by n.form.broken refl
  where
    by : (o : Option Part) → n.form.broken ≡ o → BreaksSoonest parts l c h n.turns
    by None b = absurd (false≢true (sym (ap is_some b) ∙ first.reached))
    by (Some part) b =
        let t = law parts l c h n.turns part (sym (ap (λ (x : FlawPoint). x.broken) (same parts l c h known each breaks_at n first)) ∙ b) in
        record {
          entry = t.entry;
          part = part;
          broken = t.broken;
          breaks = t.breaks;
          long = t.each (adds parts l c h known each breaks_at n first);
          later = unbroken_breaks_later parts l c h (length n.turns) (unreached_before parts l c h known each breaks_at n first fewer rising);
        }

none_is : (o : Option Part) → is_none o ≡ true → o ≡ None
none_is None k = refl
none_is (Some part) k = absurd (false≢true k)

pub first_sticks_soonest : StuckTurnsStick → FirstSticksSoonest
first_sticks_soonest law parts l c h known each fewer rising n first =
    let is = same parts l c h known each (sticks_at l c) n first in
    let both = and_parts (is_none n.form.broken) (is_stuck l c n.form.flawed) first.reached in
    let t = law parts l c h n.turns (sym (ap (λ (x : FlawPoint). x.broken) is) ∙ none_is n.form.broken both.0) (sym (ap (λ (x : FlawPoint). is_stuck l c x.flawed) is) ∙ both.1) in
    record {
      unbroken = t.unbroken;
      sticks = t.sticks;
      long = t.each (adds parts l c h known each (sticks_at l c) n first);
      later = unstuck_sticks_later parts l c h (length n.turns) (unreached_before parts l c h known each (sticks_at l c) n first fewer rising);
    }
