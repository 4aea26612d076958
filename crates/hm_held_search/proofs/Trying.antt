-- What a search of orders that keep holds has shown, by how it ended.
use Rattle.std.proofs.Common.{◌≡◌, ℕ, ◌<◌, ◌≤◌, Bool, true, None, List, [], length, get_or, refl, sym, ap, ◌∙◌, subst, arith}
use Rattle.std.proofs.lemmas.Bool.{false≢true}
use Rattle.std.proofs.lemmas.List.{get_or-map}
use Rattle.hm_base.specs.Program.{IsScript}
use Rattle.hm_flaw_parts.specs.Judged.{judged_parts}
use Rattle.hm_flaw_search.specs.Races.{FlawRaceValue}
use Rattle.hm_race_laws.specs.Closed.{AreDistinct}
use Rattle.hm_search.specs.Goals.{AreMissed, Reaches}
use Rattle.hm_search.specs.Known.{AreKnown, HaveForms, IsCut, KnownValue, forms, turns_at}
use Rattle.hm_search.specs.Values.{all_known, key_forms}
use Rattle.hm_search.specs.declared.known.Known.{Known}
use Rattle.hm_search.specs.declared.search.End.{End}
use Rattle.hm_search.proofs.Exploring.{known_forms, known_length, listed_item, placed_at}
use Rattle.hm_holds.specs.Held.{HeldPoint, held_from, is_dead}
use Rattle.hm_holds.specs.Laws.{ReachedFails, WholeIsSure}
use Rattle.hm_holds.specs.declared.holds.Hold.{Hold}
use Rattle.hm_held_search.specs.Keys.{held_form}
use Rattle.hm_held_search.specs.Races.{held_value}
use Rattle.hm_held_search.specs.Tried.{IsDeadAt, IsDeadBy, IsDeadPlace, IsSaid, IsSure, IsTried, FailBy}
use Rattle.hm_held_search.specs.declared.keys.HeldKey.{HeldKey}
use Rattle.hm_held_search.specs.declared.tried.Tried.{Tried}
use Rattle.hm_held_search.proofs.DeadEnds.{key_count}

-- what is found of a search that ended so
pub record Searched (r : FlawRaceValue) (ds : List Hold) (most : ℕ) (ns : List (Known HeldKey)) (end : End)
    : Type 0 where
  pub each : AreKnown (held_value r ds) (all_known held_form ns)
  pub once : AreDistinct (forms (all_known held_form ns))
  pub all : end ≡ End.Whole → HaveForms (held_value r ds) (all_known held_form ns)
  pub few : end ≡ End.Whole → length ns ≤ most
  pub cut : end ≡ End.Cut → IsCut (length r.script.actors) most (length ns)
  pub reached : end ≡ End.Reached → Reaches (is_dead r.flaw r.script) (all_known held_form ns)
  pub missed : ¬ (end ≡ End.Reached) → AreMissed (is_dead r.flaw r.script) (all_known held_form ns)

whole_is_none : End.Whole ≡ End.Reached → ⊥
whole_is_none e = cc

module _ (r : FlawRaceValue) (sc : IsScript r.script) (room : length r.set_up ≤ 2000000) (ds : List Hold) (most : ℕ) (ns : List (Known HeldKey)) where
  abbrev known : List (KnownValue HeldPoint)
  known = all_known held_form ns

  abbrev dead : HeldPoint → Bool
  dead = is_dead r.flaw r.script

  many : length ns ≡ length known
  many = sym (known_length held_form ns)

  whole : WholeIsSure → Searched r ds most ns End.Whole → IsSure r ds most (length ns)
  whole law z = record {
    wrong = law (judged_parts r.judging) r.flaw r.script sc r.set_up room ds known z.each (z.all refl) (z.missed whole_is_none);
    known = known;
    each = z.each;
    once = z.once;
    all = z.all refl;
    count = many;
    few = z.few refl;
  }

  fails : ReachedFails → AreKnown (held_value r ds) known → (turns : List ℕ) → IsDeadAt r ns turns → FailBy r ds turns
  fails law each turns at =
      let none : KnownValue HeldPoint = record { form = held_from r.script r.set_up ds; turns = []; ended = true } in
      let within : at.place < length known = omega (arith, at.dead.0, many, key_count ns) in
      let state : KnownValue HeldPoint = get_or known at.place none in
      let form : get_or (key_forms held_form ns) at.place none.form ≡ state.form = ap (λ (xs : List HeldPoint). get_or xs at.place none.form) (sym (known_forms held_form ns)) ∙ get_or-map (λ (n : KnownValue HeldPoint). n.form) known at.place none none.form within in
      let turned : turns_at known at.place ≡ state.turns = get_or-map (λ (n : KnownValue HeldPoint). n.turns) known at.place none [] within in
      subst (FailBy r ds) (sym (at.turns_are ∙ turned)) (law (judged_parts r.judging) r.flaw r.script sc r.set_up room ds known each state (listed_item known at.place none within) (ap dead (sym form) ∙ at.dead.1 none.form))

  not_none : Reaches dead known → IsDeadPlace r (key_forms held_form ns) None → ⊥
  not_none came none =
      let p = placed_at (λ (n : KnownValue HeldPoint). n.form) known came.state came.state.form came.listed in
      let within : p.place < length (key_forms held_form ns) = omega (arith, p.within, many, key_count ns) in
      let form : get_or (key_forms held_form ns) p.place came.state.form ≡ came.state.form = ap (λ (xs : List HeldPoint). get_or xs p.place came.state.form) (sym (known_forms held_form ns)) ∙ p.same in
      false≢true (sym (none p.place within came.state.form) ∙ (ap dead form ∙ came.reached))

  reached_so : ReachedFails → Searched r ds most ns End.Reached → (t : Tried) → IsDeadBy r ns t → IsTried r ds most t
  reached_so law z (Tried.Sure n) said = absurd said
  reached_so law z (Tried.Fails turns) said = fails law z.each turns.items said
  reached_so law z (Tried.Cut n) said = absurd (not_none (z.reached refl) said)

  pub tried_so : WholeIsSure → ReachedFails → (end : End) → Searched r ds most ns end → (t : Tried) → IsSaid r ns end t → IsTried r ds most t
  tried_so sure fail End.Whole z t said = subst (IsTried r ds most) (sym said) (whole sure z)
  tried_so sure fail End.Cut z t said = subst (IsTried r ds most) (sym said) ((z.cut refl).0, record { known = known; each = z.each; once = z.once; count = many })
  tried_so sure fail End.Reached z t said = reached_so fail z t said
