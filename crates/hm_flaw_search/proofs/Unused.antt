-- At all known states the driver does what the right one does if and only if it never differs from that.
use Rattle.std.proofs.Common.{◌≡◌, ℕ, ◌<◌, ◌≤◌, false, Option, Some, None, List, length, map, refl, sym, ap, ◌∙◌, subst, arith}
use Rattle.std.specs.Prelude.{◌↔◌, is_some}
use Rattle.std.proofs.lemmas.Bool.{false≢true}
use Rattle.std.proofs.lemmas.List.{length-map}
use Rattle.hm_base.specs.Program.{Program}
use Rattle.hm_history.specs.declared.Entry.{Entry}
use Rattle.hm_race_laws.specs.Closed.{IsListed}
use Rattle.hm_flaws.specs.declared.flaws.Flaw.{Flaw}
use Rattle.hm_flaws.specs.declared.parts.Part.{Part}
use Rattle.hm_search.specs.Goals.{AreMissed}
use Rattle.hm_search.specs.Known.{AreKnown, HaveForms, KnownValue}
use Rattle.hm_search.specs.Values.{all_known, key_forms}
use Rattle.hm_search.specs.declared.known.Known.{Known}
use Rattle.hm_search.proofs.Exploring.{From, from_map, known_forms, listed_item, placed_at}
use Rattle.hm_flaw_parts.specs.Judged.{judged_parts}
use Rattle.hm_flaw_parts.specs.declared.judged.Judging.{Judging}
use Rattle.hm_flaw_parts.specs.Races.Races.{FlawPoint, entries_at, flaw_system}
use Rattle.hm_flaw_parts.specs.Races.Judging.{NoTurnsBreak, breaks_at, point_after}
use Rattle.hm_search.specs.declared.search.End.{End}
use Rattle.hm_flaw_states.specs.Keyed.{form_in}
use Rattle.hm_flaw_states.specs.declared.key.FlawKey.{FlawKey}
use Rattle.hm_flaw_search.specs.Alike.{AllTurnAlike, NeverDiffers}
use Rattle.hm_flaw_search.specs.Unused.{HaveEntries, IsUnused, LooksUnused}
use Rattle.hm_flaw_search.specs.declared.answer.Found.{Found}
use Rattle.hm_flaw_search.proofs.Alike.{each_alike, never_differs}

module _ {K : Type 0} (form : K → FlawPoint) (ns : List (Known K)) where
  -- the form of a known key is listed
  listed_form : (n : Known K) → IsListed ns n → IsListed (key_forms form ns) (form n.key)
  listed_form n listed =
      let p = placed_at (λ (m : Known K). form m.key) ns n (form n.key) listed in
      let within : p.place < length (map (λ (m : Known K). form m.key) ns) = subst (λ (k : ℕ). p.place < k) (sym (length-map ns (λ (m : Known K). form m.key))) p.within in
      subst (IsListed (map (λ (m : Known K). form m.key) ns)) p.same (listed_item (map (λ (m : Known K). form m.key) ns) p.place (form n.key) within)

  -- what contracts see of a known key
  value_of : (n : Known K) → IsListed ns n → From (λ (v : KnownValue FlawPoint). v.form) (all_known form ns) (form n.key)
  value_of n listed = from_map (λ (v : KnownValue FlawPoint). v.form) (all_known form ns) (form n.key) (subst (λ (xs : List FlawPoint). IsListed xs (form n.key)) (sym (known_forms form ns)) (listed_form n listed))

  module _ (j : Judging) (l : Flaw) (c : Program) (h : List Entry) (each : AreKnown (flaw_system (judged_parts j) l c h) (all_known form ns)) where
    abbrev after_turns : List ℕ → FlawPoint
    after_turns turns = point_after (judged_parts j) l c h turns

    -- no known state has too many entries
    pub few_entries : (n : Known K) → IsListed ns n → entries_at (form n.key) ≤ 2000000
    few_entries n listed =
        let z = value_of n listed in
        let k = each z.item z.listed in
        subst (λ (x : FlawPoint). entries_at x ≤ 2000000) (sym k.form ∙ z.same) k.room

    module _ (all : HaveForms (flaw_system (judged_parts j) l c h) (all_known form ns)) (missed : AreMissed breaks_at (all_known form ns)) where
      unbroken : (o : Option Part) → is_some o ≡ false → o ≡ None
      unbroken None k = refl
      unbroken (Some part) k = absurd (false≢true (sym k))

      none_break : NoTurnsBreak (judged_parts j) l c h
      none_break turns = by (from_map (λ (v : KnownValue FlawPoint). v.form) (all_known form ns) (after_turns turns) (all turns))
        where
          by : From (λ (v : KnownValue FlawPoint). v.form) (all_known form ns) (after_turns turns) → (after_turns turns).broken ≡ None
          by z = unbroken (after_turns turns).broken (sym (ap breaks_at z.same) ∙ missed z.item z.listed (each z.item z.listed).ended)

      pub known_never : ((n : Known K) → IsListed ns n → AllTurnAlike l c (form n.key)) → NeverDiffers (judged_parts j) l c h
      known_never alike = never_differs j l c h none_break at
        where
          at : (turns : List ℕ) → AllTurnAlike l c (after_turns turns)
          at turns =
              let z = from_map (λ (n : Known K). form n.key) ns (after_turns turns) (subst (λ (xs : List FlawPoint). IsListed xs (after_turns turns)) (known_forms form ns) (all turns)) in
              subst (AllTurnAlike l c) z.same (alike z.item z.listed)

      pub never_known : NeverDiffers (judged_parts j) l c h → (n : Known K) → IsListed ns n → AllTurnAlike l c (form n.key)
      never_known never n listed =
          let z = value_of n listed in
          subst (AllTurnAlike l c) (sym (each z.item z.listed).form ∙ z.same) (each_alike j l c h none_break never z.item.turns)

-- ---- keys

pub have_entries : (j : Judging) (l : Flaw) (c : Program) (h : List Entry) (ns : List (Known FlawKey)) → AreKnown (flaw_system (judged_parts j) l c h) (all_known form_in ns) → HaveEntries ns
have_entries j l c h ns each n listed = omega (arith, few_entries form_in ns j l c h each n listed)

-- what looks unused by the states that are known is so in all turns
pub looks_right : (j : Judging) (l : Flaw) (c : Program) (h : List Entry) (ns : List (Known FlawKey)) (end : End) (f : Found) → AreKnown (flaw_system (judged_parts j) l c h) (all_known form_in ns)
    → (end ≡ End.Whole → HaveForms (flaw_system (judged_parts j) l c h) (all_known form_in ns)) → (¬ (end ≡ End.Reached) → AreMissed breaks_at (all_known form_in ns)) → LooksUnused l c ns end f ↔ IsUnused (judged_parts j) l c h end f
looks_right j l c h ns end f each all missed = (
  (λ x. record { may = x.may; never = known_never form_in ns j l c h each (all x.may.whole) (missed (not_reached x.may.whole)) x.alike }),
  (λ x. record { may = x.may; alike = never_known form_in ns j l c h each (all x.may.whole) (missed (not_reached x.may.whole)) x.never }),
)
  where
    not_reached : end ≡ End.Whole → end ≡ End.Reached → ⊥
    not_reached is other = cc

pub both_ways : {X Y Z : Type 0} → X ↔ Y → Y ↔ Z → X ↔ Z
both_ways p q = (λ x. q.0 (p.0 x), λ z. p.1 (q.1 z))
