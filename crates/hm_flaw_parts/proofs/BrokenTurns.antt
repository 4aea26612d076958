-- What the points of turns say of the races of a driver.
use Rattle.std.proofs.Common.{◌≡◌, ℕ, ◌+◌, ◌<◌, ◌≤◌, ◌⊎◌, inl, inr, Bool, true, false, Option, Some, None, List, length, refl, sym, ap, ◌∙◌, subst, arith}
use Rattle.std.specs.Prelude.{is_some}
use Rattle.std.proofs.lemmas.Bool.{cases_lt, false≢true}
use Rattle.std.proofs.lemmas.List.{length-map}
use Rattle.std.proofs.lemmas.Option.{none-some, same_Some}
use Rattle.hm_base.specs.Program.{Program}
use Rattle.hm_history.specs.Kernel.Going.{state_of}
use Rattle.hm_history.specs.declared.Entry.{Entry}
use Rattle.hm_flaws.specs.declared.flaws.Flaw.{Flaw}
use Rattle.hm_flaws.specs.declared.parts.Part.{Part}
use Rattle.hm_flaws.specs.Flawed.{Flawed, flawed_from, flawed_after}
use Rattle.hm_flaws.specs.Judged.{Breaks, broken_by, judged}
use Rattle.hm_flaws.specs.Laws.{JudgedBreaks}
use Rattle.hm_flaws.specs.Races.{is_stuck, part_in}
use Rattle.hm_flaw_parts.specs.Races.Races.{FlawPoint, broken_count, point_from, entries_at}
use Rattle.hm_flaw_parts.specs.Races.Judging.{point_after, sticks_at, Sticks, TurnsBreak}
use Rattle.hm_flaw_parts.specs.Races.Laws.{BrokenTurnsBreak, StuckTurnsStick, UnbrokenBreaksNone, UnbrokenBreaksLater, UnstuckNeverSticks, UnstuckSticksLater}
use Rattle.hm_flaw_parts.proofs.Turns.{flawed_lengths, turns_are_judged, turns_go}
use Rattle.hm_flaw_parts.proofs.Unbroken.{actors_in, breaks_point, turns_in, turns_long, unbroken_point}

-- ---- turns

-- how many entries led to the point after turns
entries_after : (parts : List Part) (l : Flaw) (c : Program) (h : List Entry) (turns : List ℕ) → entries_at (point_after parts l c h turns) ≡ entries_at (point_from c h) + (length (judged parts l c h turns).entries + broken_count (point_after parts l c h turns).broken)
entries_after parts l c h turns = omega (arith, ap (λ (x : FlawPoint). x.flawed.state.after.length) (turns_are_judged parts l c h turns), ap (λ (t : Flawed). t.state.after.length) (turns_go parts l c h turns).same, flawed_lengths l c (flawed_from (state_of c h)) (judged parts l c h turns).entries)

pub broken_turns_break : JudgedBreaks → BrokenTurnsBreak
broken_turns_break law parts l c h turns part b = by (judged parts l c h turns).broken refl (sym (ap (λ (x : FlawPoint). x.broken) (turns_are_judged parts l c h turns)) ∙ b)
  where
    by : (o : Option (Entry × Part)) → (judged parts l c h turns).broken ≡ o → part_in o ≡ Some part → TurnsBreak parts l c h turns part
    by None is k = absurd (none-some part k)
    by (Some y) is k = record {
      entry = y.0;
      broken = is ∙ ap (λ (p : Part). Some (y.0, p)) (same_Some y.1 part k);
      breaks = subst (Breaks parts l c h (judged parts l c h turns).entries y.0) (same_Some y.1 part k) (law parts l c h turns y.0 y.1 is);
      each = λ adds. omega (arith, adds, entries_after parts l c h turns, ap broken_count b);
    }

-- no entry breaks a part if none is broken
pub no_entry : (o : Option (Entry × Part)) → part_in o ≡ None → o ≡ None
no_entry None k = refl
no_entry (Some y) k = absurd (none-some y.1 (sym k))

pub stuck_turns_stick : StuckTurnsStick
stuck_turns_stick parts l c h turns none stuck = record {
  unbroken = no_entry (judged parts l c h turns).broken (sym (ap (λ (x : FlawPoint). x.broken) (turns_are_judged parts l c h turns)) ∙ none);
  sticks = record {
    unbroken = (turns_go parts l c h turns).unbroken;
    stuck = sym (ap (is_stuck l c) (ap (λ (x : FlawPoint). x.flawed) (turns_are_judged parts l c h turns) ∙ (turns_go parts l c h turns).same)) ∙ stuck;
  };
  each = λ adds. omega (arith, adds, entries_after parts l c h turns, ap broken_count none);
}

-- ---- all turns

pub unbroken_breaks_none : UnbrokenBreaksNone
unbroken_breaks_none parts l c h none es u e d = by (broken_by parts l c h es e) refl
  where
    by : (o : Option Part) → broken_by parts l c h es e ≡ o → broken_by parts l c h es e ≡ None
    by None b = b
    by (Some part) b = absurd (none-some part (sym (none (turns_in es e)) ∙ breaks_point parts l c h es e part (record { unbroken = u; is_due = d; broken = b })))

pub unbroken_breaks_later : UnbrokenBreaksLater
unbroken_breaks_later parts l c h n none es e part b = by (cases_lt (length es + 1) n)
  where
    by : (length es + 1 < n) ⊎ (n ≤ length es + 1) → n ≤ length es + 1
    by (inl k) = absurd (false≢true (sym (none (turns_in es e) (omega (arith, turns_long es e, k))) ∙ ap is_some (breaks_point parts l c h es e part b)))
    by (inr k) = k

-- nobody can go on at the point after the turns of entries after which that is so
stuck_point : (parts : List Part) (l : Flaw) (c : Program) (h es : List Entry) → Sticks parts l c h es → sticks_at l c (point_after parts l c h (actors_in es)) ≡ true
stuck_point parts l c h es s = ap (sticks_at l c) (unbroken_point parts l c h es s.unbroken) ∙ s.stuck

pub unstuck_never_sticks : UnstuckNeverSticks
unstuck_never_sticks parts l c h none es u = by (is_stuck l c (flawed_after l c h es)) refl
  where
    by : (b : Bool) → is_stuck l c (flawed_after l c h es) ≡ b → is_stuck l c (flawed_after l c h es) ≡ false
    by false k = k
    by true k = absurd (false≢true (sym (none (actors_in es)) ∙ stuck_point parts l c h es (record { unbroken = u; stuck = k })))

pub unstuck_sticks_later : UnstuckSticksLater
unstuck_sticks_later parts l c h n none es s = by (cases_lt (length es) n)
  where
    by : (length es < n) ⊎ (n ≤ length es) → n ≤ length es
    by (inl k) = absurd (false≢true (sym (none (actors_in es) (omega (arith, length-map es (λ (x : Entry). x.actor), k))) ∙ stuck_point parts l c h es s))
    by (inr k) = k
