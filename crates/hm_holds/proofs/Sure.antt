-- What a search of orders that keep holds has shown, and that some order goes wrong if each does.
use Rattle.std.proofs.Common.{◌≡◌, ℕ, ◌+◌, ◌<◌, ◌≤◌, ◌⊎◌, inl, inr, zero, suc, Bool, true, false, not, ◌&&◌, Option, Some, None, List, [], ◌∷◌, ◌++◌, length, refl, sym, ap, ◌∙◌, append_assoc, append-nil, arith}
use Rattle.std.specs.Prelude.{is_none}
use Rattle.std.specs.List.{list_all}
use Rattle.std.proofs.lemmas.Bool.{false≢true}
use Rattle.std.proofs.lemmas.List.{length-append}
use Rattle.hm_base.specs.Program.{Program, IsScript}
use Rattle.hm_history.specs.Kernel.Run.{actors_of}
use Rattle.hm_history.specs.declared.Entry.{Entry}
use Rattle.hm_flaws.specs.Judged.{judged}
use Rattle.hm_flaws.specs.Races.{part_in}
use Rattle.hm_flaws.specs.declared.flaws.Flaw.{Flaw}
use Rattle.hm_flaws.specs.declared.parts.Part.{Part}
use Rattle.hm_flaw_parts.specs.Races.Judging.{TurnsBreak}
use Rattle.hm_flaw_parts.specs.Races.Laws.{BrokenTurnsBreak, TurnsAreJudged}
use Rattle.hm_flaw_parts.specs.Races.Races.{FlawPoint, entries_at}
use Rattle.hm_search.proofs.Exploring.{From, from_map}
use Rattle.hm_search.specs.Known.{KnownValue}
use Rattle.hm_search.specs.Systems.{IsSystem, point_at}
use Rattle.hm_holds.specs.declared.holds.Hold.{Hold}
use Rattle.hm_holds.specs.Held.{HeldPoint, held_system, is_dead}
use Rattle.hm_holds.specs.Laws.{HeldRacesAreSystems, KeptTurnsBreak, ReachedFails, SureBreaks, WholeIsSure}
use Rattle.hm_holds.specs.Orders.{AreSure, Keeps, KeepsAfter, OrderBreaks, is_dead_end, may_go}
use Rattle.hm_holds.proofs.KeptTurns.{adding_keep, begins, dead_same, kept_add, kept_turns_are_judged}

-- ---- searches

pub whole_is_sure : TurnsAreJudged → HeldRacesAreSystems → WholeIsSure
whole_is_sure law systems parts l c sc h few ds known each all missed = record { goes_on = goes_on; most = 2000000; ends = ends }
  where
    y : IsSystem (held_system parts l c h ds)
    y = systems parts l c sc h few ds

    found : (turns : List ℕ) → From (λ (n : KnownValue HeldPoint). n.form) known (point_at (held_system parts l c h ds) turns)
    found turns = from_map (λ (n : KnownValue HeldPoint). n.form) known (point_at (held_system parts l c h ds) turns) (all turns)

    goes_on : (turns : List ℕ) → Keeps parts l c h ds turns → is_dead_end l c ds (judged parts l c h turns) ≡ false
    goes_on turns keeps =
        let z = found turns in
        sym (dead_same l c h ds (judged parts l c h turns))
        ∙ (sym (ap (is_dead l c) (z.same ∙ kept_turns_are_judged law parts l c h ds turns keeps))
        ∙ missed z.item z.listed (each z.item z.listed).ended)

    ends : (turns : List ℕ) → Keeps parts l c h ds turns → length turns ≤ 2000000
    ends turns keeps =
        let z = found turns in
        let k = each z.item z.listed in
        omega (
          arith,
          kept_add law parts l c h ds y [] turns (begins parts l c h ds) keeps,
          ap (λ (x : HeldPoint). entries_at x.point) (sym z.same ∙ k.form),
          k.room,
        )

pub reached_fails : TurnsAreJudged → HeldRacesAreSystems → ReachedFails
reached_fails law systems parts l c sc h few ds known each n listed dead = record {
  keeps = keeps;
  dead_end =
      sym (dead_same l c h ds (judged parts l c h n.turns))
      ∙ (ap (is_dead l c) (sym (kept_turns_are_judged law parts l c h ds n.turns keeps) ∙ sym (each n listed).form)
      ∙ dead);
}
  where
    keeps : Keeps parts l c h ds n.turns
    keeps = adding_keep law parts l c h ds (systems parts l c sc h few ds) [] n.turns (begins parts l c h ds) (each n listed).adds

-- ---- races

pub kept_turns_break : TurnsAreJudged → BrokenTurnsBreak → HeldRacesAreSystems → KeptTurnsBreak
kept_turns_break law breaks systems parts l c sc h few ds turns keeps part broken =
    let t : TurnsBreak parts l c h turns part = breaks parts l c h turns part (ap (λ (x : FlawPoint). x.broken) (law parts l c h turns) ∙ broken) in (
      t,
      t.each (omega (
        arith,
        ap entries_at (law parts l c h turns),
        ap (λ (x : HeldPoint). entries_at x.point) (kept_turns_are_judged law parts l c h ds turns keeps),
        kept_add law parts l c h ds (systems parts l c sc h few ds) [] turns (begins parts l c h ds) keeps,
      )),
    )

-- some actor may go, if not all may not
some_goes : (f : ℕ → Bool) (actors : List ℕ) → list_all (λ a. not (f a)) actors ≡ false → (a : ℕ) × (f a ≡ true)
some_goes f [] k = absurd (false≢true (sym k))
some_goes f (a ∷ actors) k = by (f a) refl (λ e. some_goes f actors (sym (ap (λ b. not b && list_all (λ d. not (f d)) actors) e) ∙ k))
  where
    by : (b : Bool) → f a ≡ b → (f a ≡ false → (d : ℕ) × (f d ≡ true)) → (d : ℕ) × (f d ≡ true)
    by true e on = (a, e)
    by false e on = on e

keeps_more : (parts : List Part) (l : Flaw) (c : Program) (h : List Entry) (ds : List Hold) (before turns : List ℕ) (a : ℕ) → KeepsAfter parts l c h ds before turns → may_go l c ds (judged parts l c h (before ++ turns)) a ≡ true → KeepsAfter parts l c h ds before (turns ++ a ∷ [])
keeps_more parts l c h ds before [] a keeps go = (ap (λ z. may_go l c ds (judged parts l c h z) a) (sym (append-nil before)) ∙ go, tt)
keeps_more parts l c h ds before (x ∷ turns) a keeps go = (keeps.0, keeps_more parts l c h ds (before ++ x ∷ []) turns a keeps.1 (ap (λ z. may_go l c ds (judged parts l c h z) a) (append_assoc before (x ∷ []) turns) ∙ go))

module _ (law : KeptTurnsBreak) (parts : List Part) (l : Flaw) (c : Program) (sc : IsScript c) (h : List Entry) (few : length h ≤ 2000000) (ds : List Hold) (sure : AreSure parts l c h ds) where
  -- it has gone wrong, or some actor may go
  further : (turns : List ℕ) → Keeps parts l c h ds turns → OrderBreaks parts l c h ds ⊎ ((a : ℕ) × Keeps parts l c h ds (turns ++ a ∷ []))
  further turns keeps = by (judged parts l c h turns).broken refl
    where
      by : (o : Option (Entry × Part)) → (judged parts l c h turns).broken ≡ o → OrderBreaks parts l c h ds ⊎ ((a : ℕ) × Keeps parts l c h ds (turns ++ a ∷ []))
      by (Some x) b =
          let t = law parts l c sc h few ds turns keeps x.1 (ap part_in b) in
          inl (record { turns = turns; keeps = keeps; part = x.1; breaks = t.0; long = t.1 })
      by None b =
          let some = some_goes (may_go l c ds (judged parts l c h turns)) (actors_of c) (sym (ap (λ (o : Option (Entry × Part)). is_none o && list_all (λ a. not (may_go l c ds (judged parts l c h turns) a)) (actors_of c)) b) ∙ sure.goes_on turns keeps) in
          inr (some.0, keeps_more parts l c h ds [] turns some.0 keeps some.1)

  goes_wrong : (n : ℕ) (turns : List ℕ) → Keeps parts l c h ds turns → sure.most < n + length turns → OrderBreaks parts l c h ds
  goes_wrong zero turns keeps more = absurd (omega (arith, more, sure.ends turns keeps))
  goes_wrong (suc n) turns keeps more = by (further turns keeps) (λ a on. goes_wrong n (turns ++ a ∷ []) on (omega (arith, more, length-append turns (a ∷ []))))
    where
      by : OrderBreaks parts l c h ds ⊎ ((a : ℕ) × Keeps parts l c h ds (turns ++ a ∷ [])) → ((a : ℕ) → Keeps parts l c h ds (turns ++ a ∷ []) → OrderBreaks parts l c h ds) → OrderBreaks parts l c h ds
      by (inl x) on = x
      by (inr y) on = on y.0 y.1

pub sure_breaks : KeptTurnsBreak → SureBreaks
sure_breaks law parts l c sc h few ds sure = goes_wrong law parts l c sc h few ds sure (sure.most + 1) [] tt (omega arith)
