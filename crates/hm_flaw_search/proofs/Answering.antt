-- What was found is an answer.
use Rattle.std.proofs.Common.{◌≡◌, ℕ, ◌+◌, ◌≤◌, inl, Bool, true, Option, Some, None, List, [], ◌∷◌, length, map, refl, sym, ap, ◌∙◌, subst, arith}
use Rattle.std.specs.Prelude.{◌↔◌, is_none, is_some}
use Rattle.std.proofs.lemmas.Bool.{and_parts, false≢true, or_left, or_right}
use Rattle.hm_base.specs.Program.{Program, IsScript}
use Rattle.hm_history.specs.Kernel.Going.{state_start}
use Rattle.hm_history.specs.Laws.{DueFrom}
use Rattle.hm_history.specs.declared.Entry.{Entry}
use Rattle.hm_history.proofs.Going.{lengths}
use Rattle.hm_race_laws.specs.Closed.{AreDistinct, IsListed}
use Rattle.hm_race_laws.proofs.Searching.{listed_right}
use Rattle.hm_flaws.specs.declared.flaws.Flaw.{Flaw}
use Rattle.hm_flaws.specs.declared.parts.Part.{Part}
use Rattle.hm_flaws.specs.Judged.{judged}
use Rattle.hm_flaws.specs.Races.{is_stuck}
use Rattle.hm_search.specs.Goals.{AreMissed, IsSoon, Reaches}
use Rattle.hm_search.specs.Known.{KnownValue, AreKnown, AreRising, HaveFewer, HaveForms, IsCut, IsKnown, IsNear, forms}
use Rattle.hm_search.specs.declared.search.End.{End}
use Rattle.hm_search.proofs.Exploring.{reaches}
use Rattle.hm_flaw_parts.specs.Races.Races.{FlawPoint, flaw_system, is_found}
use Rattle.hm_flaw_parts.specs.Races.Judging.{point_after, breaks_at, sticks_at, NeverSticks}
use Rattle.hm_flaw_parts.specs.Races.Shortest.{BreakLater, IsFirst, StickLater}
use Rattle.hm_flaw_parts.specs.Races.Laws.{FirstBreaksSoonest, FirstSticksSoonest, RightTurnsFindNone, WholeBreaksNone, WholeNeverSticks}
use Rattle.hm_flaw_search.specs.Outcomes.{race_length}
use Rattle.hm_flaw_search.specs.declared.answer.Found.{Found}
use Rattle.hm_flaw_search.specs.Answers.{IsAnswer, IsFound, is_broken}
use Rattle.hm_flaw_search.specs.Finding.{IsFirstTrue, IsFoundFirst, found_at, goal_of}
use Rattle.hm_flaw_search.specs.Played.{found_by, found_with}
use Rattle.hm_flaw_search.specs.Owing.{IsOwed, race_entries}
use Rattle.hm_flaw_search.specs.Unused.{IsUnused}
use Rattle.hm_flaw_search.specs.declared.answer.Owed.{Owed}
use Rattle.hm_flaw_search.proofs.Reached.{first_known, none_known}

-- the laws
pub record Laws : Type 0 where
  pub first_breaks : FirstBreaksSoonest
  pub first_sticks : FirstSticksSoonest
  pub whole_breaks : WholeBreaksNone
  pub whole_sticks : WholeNeverSticks
  pub right : RightTurnsFindNone

-- what a search says of its states
pub record Searched (parts : List Part) (l : Flaw) (c : Program) (h : List Entry) (most : ℕ)
    (known : List (KnownValue FlawPoint)) (end : End) : Type 0 where
  pub each : AreKnown (flaw_system parts l c h) known
  pub once : AreDistinct (forms known)
  pub rising : AreRising known
  pub fewer : HaveFewer (flaw_system parts l c h) known
  pub all : end ≡ End.Whole → HaveForms (flaw_system parts l c h) known
  pub few : end ≡ End.Whole → length known ≤ most
  pub cut : end ≡ End.Cut → IsCut (length c.actors) most (length known)
  pub reached : end ≡ End.Reached → Reaches breaks_at known
  pub soon : end ≡ End.Reached → IsSoon (length c.actors) breaks_at known
  pub near : end ≡ End.Reached → IsNear (length c.actors) most (length known)
  pub missed : (end ≡ End.Reached → ⊥) → AreMissed breaks_at known

whole≢reached : End.Whole ≡ End.Reached → ⊥
whole≢reached e = cc

cut≢reached : End.Cut ≡ End.Reached → ⊥
cut≢reached e = cc

broken≢nothing : (es : List Entry) (e : Entry) (part : Part) → Found.Broken es e part ≡ Found.Nothing → ⊥
broken≢nothing es e part is = cc

stuck≢nothing : (es : List Entry) → Found.Stuck es ≡ Found.Nothing → ⊥
stuck≢nothing es is = cc

module _ (law : Laws) (parts : List Part) (l : Flaw) (c : Program) (sc : IsScript c) (h : List Entry) (d : DueFrom c [] h) (few : length h ≤ 2000000) (most : ℕ) (known : List (KnownValue FlawPoint)) (n : ℕ) (count : n ≡ length known) (u : Bool) (w : Option Owed) where
  -- ---- known states

  -- the entries of a known state, and those of the set-up, are not too many
  room : (v : KnownValue FlawPoint) → IsKnown (flaw_system parts l c h) v → length h + length v.turns ≤ 2000000
  room v k = omega (arith, k.adds, k.room, lengths c (state_start c) h)

  -- the right driver does not come to where something is found
  not_right : (v : KnownValue FlawPoint) → IsKnown (flaw_system parts l c h) v → is_found l c v.form ≡ true → l ≡ Flaw.NoFlaw → ⊥
  not_right v k found same = false≢true (sym (law.right parts c sc h d v.turns) ∙ there)
    where
      there : is_found Flaw.NoFlaw c (point_after parts Flaw.NoFlaw c h v.turns) ≡ true
      there = subst (λ (f : Flaw). is_found f c (point_after parts f c h v.turns) ≡ true) same (sym (ap (is_found l c) k.form) ∙ found)

  listed_first : (goal : FlawPoint → Bool) (v : KnownValue FlawPoint) → IsFirst goal known v → IsListed known v
  listed_first goal v first = subst (λ (z : List (KnownValue FlawPoint)). IsListed z v) (sym first.all) (listed_right first.before (v ∷ first.rest) v (inl refl))

  -- ---- answers

  answer : (end : End) (f : Found) → (u ≡ true) ↔ IsUnused parts l c h end f → IsOwed l c h (race_entries f) w → Searched parts l c h most known end → IsFound parts l c h f → length h + race_length f ≤ 2000000
      → (end ≡ End.Whole → f ≡ Found.Nothing → NeverSticks parts l c h) → (f ≡ Found.Nothing → AreMissed (sticks_at l c) known) → ((end ≡ End.Reached) ↔ (is_broken f ≡ true)) → (l ≡ Flaw.NoFlaw → f ≡ Found.Nothing)
      → IsAnswer parts l c h most (record { found = f; states = n; end = end; unused = u; owed = w })
  answer end f unused owed s found long never seen reached right = record {
    known = known;
    states = count;
    searched = s.each;
    once = s.once;
    found = found;
    long = long;
    whole = λ e. record {
      all = s.all e;
      none = law.whole_breaks parts l c h known s.each (s.all e) (s.missed (λ r. whole≢reached (sym e ∙ r)));
      few = s.few e;
    };
    never = never;
    cut = s.cut;
    stopped = λ e. record { came = s.reached e; soon = s.soon e; near = s.near e };
    missed = s.missed;
    seen = seen;
    reached = reached;
    right = right;
    unused = unused;
    owed = owed;
  }

  broken_answer : (f : Found) → (u ≡ true) ↔ IsUnused parts l c h End.Reached f → IsOwed l c h (race_entries f) w → Searched parts l c h most known End.Reached → (place : Option ℕ) → IsFirstTrue (map (reaches breaks_at) known) place → f ≡ found_at parts l c h known place
      → IsAnswer parts l c h most (record { found = f; states = n; end = End.Reached; unused = u; owed = w })
  broken_answer f unused owed s None first same =
      let r = s.reached refl in
      absurd (false≢true (sym (none_known breaks_at known first r.state r.listed r.ended) ∙ r.reached))
  broken_answer f unused owed s (Some at) first same =
      let z = first_known breaks_at known at first in
      let b = law.first_breaks parts l c h known s.each s.fewer s.rising z.state z.first in
      let k = s.each z.state (listed_first breaks_at z.state z.first) in
      let es : List Entry = (judged parts l c h z.state.turns).entries in
      let is : f ≡ Found.Broken es b.entry b.part = same ∙ (ap (λ (turns : List ℕ). found_by (judged parts l c h turns)) z.turns ∙ ap (found_with es) b.broken) in
      subst (λ (g : Found). IsAnswer parts l c h most (record { found = g; states = n; end = End.Reached; unused = u; owed = w })) (sym is)
      (answer End.Reached (Found.Broken es b.entry b.part) (subst (λ (g : Found). (u ≡ true) ↔ IsUnused parts l c h End.Reached g) is unused) (subst (λ (g : Found). IsOwed l c h (race_entries g) w) is owed) s (b.breaks, subst (BreakLater parts l c h) (sym b.long) b.later) (omega (arith, room z.state k, b.long))
      (λ e u. absurd (whole≢reached (sym e))) (λ u. absurd (broken≢nothing es b.entry b.part u)) (λ e. refl, λ e. refl)
      (λ right. absurd (not_right z.state k (or_left (is_some z.state.form.broken) (is_stuck l c z.state.form.flawed) z.first.reached) right)))

  unbroken_answer : (end : End) → (end ≡ End.Reached → ⊥) → (f : Found) → (u ≡ true) ↔ IsUnused parts l c h end f → IsOwed l c h (race_entries f) w → Searched parts l c h most known end → (place : Option ℕ) → IsFirstTrue (map (reaches (sticks_at l c)) known) place → f ≡ found_at parts l c h known place
      → IsAnswer parts l c h most (record { found = f; states = n; end = end; unused = u; owed = w })
  unbroken_answer end other f unused owed s None first same =
      subst (λ (g : Found). IsAnswer parts l c h most (record { found = g; states = n; end = end; unused = u; owed = w })) (sym same)
      (answer end Found.Nothing (subst (λ (g : Found). (u ≡ true) ↔ IsUnused parts l c h end g) same unused) (subst (λ (g : Found). IsOwed l c h (race_entries g) w) same owed) s tt (omega (arith, few)) (λ e u. law.whole_sticks parts l c h known s.each (s.all e) (none_known (sticks_at l c) known first))
      (λ u. none_known (sticks_at l c) known first) (λ e. absurd (other e), λ e. absurd (false≢true e)) (λ right. refl))
  unbroken_answer end other f unused owed s (Some at) first same =
      let z = first_known (sticks_at l c) known at first in
      let b = law.first_sticks parts l c h known s.each s.fewer s.rising z.state z.first in
      let k = s.each z.state (listed_first (sticks_at l c) z.state z.first) in
      let es : List Entry = (judged parts l c h z.state.turns).entries in
      let is : f ≡ Found.Stuck es = same ∙ (ap (λ (turns : List ℕ). found_by (judged parts l c h turns)) z.turns ∙ ap (found_with es) b.unbroken) in
      let stuck = (and_parts (is_none z.state.form.broken) (is_stuck l c z.state.form.flawed) z.first.reached).1 in
      subst (λ (g : Found). IsAnswer parts l c h most (record { found = g; states = n; end = end; unused = u; owed = w })) (sym is)
      (answer end (Found.Stuck es) (subst (λ (g : Found). (u ≡ true) ↔ IsUnused parts l c h end g) is unused) (subst (λ (g : Found). IsOwed l c h (race_entries g) w) is owed) s (b.sticks, subst (StickLater parts l c h) (sym b.long) b.later) (omega (arith, room z.state k, b.long))
      (λ e u. absurd (stuck≢nothing es u)) (λ u. absurd (stuck≢nothing es u)) (λ e. absurd (other e), λ e. absurd (false≢true e))
      (λ right. absurd (not_right z.state k (or_right (is_some z.state.form.broken) (is_stuck l c z.state.form.flawed) stuck) right)))

  pub answered : (end : End) (f : Found) → (u ≡ true) ↔ IsUnused parts l c h end f → IsOwed l c h (race_entries f) w → Searched parts l c h most known end → IsFoundFirst parts l c h known (map (reaches (goal_of l c end)) known) f
      → IsAnswer parts l c h most (record { found = f; states = n; end = end; unused = u; owed = w })
  answered End.Reached f unused owed s z = broken_answer f unused owed s z.place z.first z.same
  answered End.Whole f unused owed s z = unbroken_answer End.Whole whole≢reached f unused owed s z.place z.first z.same
  answered End.Cut f unused owed s z = unbroken_answer End.Cut cut≢reached f unused owed s z.place z.first z.same
