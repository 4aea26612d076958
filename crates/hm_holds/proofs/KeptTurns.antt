-- Turns that keep holds: the point after them is that of what they are judged to come to.
use Rattle.std.proofs.Common.{◌≡◌, ℕ, ◌+◌, ◌≤◌, Bool, true, false, not, ◌&&◌, Option, Some, None, List, [], ◌∷◌, ◌++◌, length, map, fold, refl, sym, ap, ◌∙◌, subst, append_assoc, append-nil, arith}
use Rattle.std.specs.Prelude.{is_none}
use Rattle.std.specs.List.{list_all}
use Rattle.std.proofs.lemmas.Bool.{and_parts, false≢true}
use Rattle.std.proofs.lemmas.List.Sums.{fold-append}
use Rattle.hm_base.specs.Program.{Program}
use Rattle.hm_history.specs.Kernel.Going.{state_of}
use Rattle.hm_history.specs.Kernel.Run.{actors_of, is_entry}
use Rattle.hm_history.specs.declared.Entry.{Entry}
use Rattle.hm_history.specs.declared.Progress.{Progress}
use Rattle.hm_flaws.specs.declared.flaws.Flaw.{Flaw}
use Rattle.hm_flaws.specs.declared.parts.Part.{Part}
use Rattle.hm_flaws.specs.Flawed.{due_by, flawed_from}
use Rattle.hm_flaws.specs.Judged.{Judged, judged, judged_after, judged_entry, judged_from, judged_on, judged_turn}
use Rattle.hm_flaws.specs.Parts.{broken_part}
use Rattle.hm_flaws.specs.Races.{part_in}
use Rattle.hm_flaw_parts.specs.Races.Judging.{point_of}
use Rattle.hm_flaw_parts.specs.Races.Laws.{TurnsAreJudged}
use Rattle.hm_flaw_parts.specs.Races.Races.{FlawPoint, broken_at, entries_at, marked_of, point_from, point_turn}
use Rattle.hm_flaw_parts.proofs.MarkedTurns.{broken_same}
use Rattle.hm_flaw_parts.proofs.Turns.{in_step, turns_go}
use Rattle.hm_search.specs.Systems.{IsSystem, point_at}
use Rattle.hm_holds.specs.declared.holds.Hold.{Hold}
use Rattle.hm_holds.specs.declared.holds.HoldState.{HoldState}
use Rattle.hm_holds.specs.Held.{HeldPoint, held_from, held_go, held_of, held_on, held_system, held_turn, held_turned, hold_of, holds_after, is_dead}
use Rattle.hm_holds.specs.Holds.{hold_start, is_held}
use Rattle.hm_holds.specs.Laws.{KeptTurnsAreJudged}
use Rattle.hm_holds.specs.Orders.{KeepsAfter, is_dead_end, may_go}
use Rattle.hm_holds.proofs.HeldSystems.{gone_point}
use Rattle.hm_holds.proofs.HoldSteps.{held_same, holds_more}

-- ---- who may go

no_part : (o : Option (Entry × Part)) → is_none (part_in o) ≡ is_none o
no_part None = refl
no_part (Some x) = refl

-- an actor may go just if it may at the point
pub go_same : (l : Flaw) (c : Program) (h : List Entry) (ds : List Hold) (x : Judged) (a : ℕ) → held_go l c (held_of c h ds x) a ≡ may_go l c ds x a
go_same l c h ds x a =
    ap (λ b. (is_none (part_in x.broken) && is_entry (due_by l c x.flawed a)) && not b) (held_same ds x.entries a)
    ∙ ap (λ b. (b && is_entry (due_by l c x.flawed a)) && not (is_held ds x.entries a)) (no_part x.broken)

none_same : (f g : ℕ → Bool) → ((a : ℕ) → f a ≡ g a) → (actors : List ℕ) → list_all (λ a. not (f a)) actors ≡ list_all (λ a. not (g a)) actors
none_same f g same [] = refl
none_same f g same (a ∷ actors) =
    ap (λ b. not b && list_all (λ d. not (f d)) actors) (same a)
    ∙ ap (λ b. not (g a) && b) (none_same f g same actors)

-- it is a dead end just if the point is
pub dead_same : (l : Flaw) (c : Program) (h : List Entry) (ds : List Hold) (x : Judged) → is_dead l c (held_of c h ds x) ≡ is_dead_end l c ds x
dead_same l c h ds x =
    ap (λ b. b && list_all (λ a. not (held_go l c (held_of c h ds x) a)) (actors_of c)) (no_part x.broken)
    ∙ ap (λ b. is_none x.broken && b) (none_same (held_go l c (held_of c h ds x)) (may_go l c ds x) (go_same l c h ds x) (actors_of c))

-- ---- one turn

judged_along : (parts : List Part) (l : Flaw) (c : Program) (h : List Entry) (before turns : List ℕ) (x : Judged) → judged_after parts l c h (before ++ turns) x ≡ judged_after parts l c h turns (judged_after parts l c h before x)
judged_along parts l c h [] turns x = refl
judged_along parts l c h (a ∷ before) turns x = judged_along parts l c h before turns (judged_on parts l c h x.broken x a)

-- what turns and one more come to
pub judged_more : (parts : List Part) (l : Flaw) (c : Program) (h : List Entry) (before : List ℕ) (a : ℕ) → judged parts l c h (before ++ a ∷ []) ≡ judged_on parts l c h (judged parts l c h before).broken (judged parts l c h before) a
judged_more parts l c h before a = judged_along parts l c h before (a ∷ []) (judged_from c h)

abbrev with_both : FlawPoint → List HoldState → HeldPoint
with_both p ss = record { point = p; holds = ss }

none_in : (o : Option (Entry × Part)) → is_none o ≡ true → o ≡ None
none_in None k = refl
none_in (Some x) k = absurd (false≢true k)

module _ (parts : List Part) (l : Flaw) (c : Program) (h : List Entry) (ds : List Hold) (before : List ℕ) (a : ℕ) where
  -- what the turns before come to
  abbrev here : Judged
  here = judged parts l c h before

  holds_entry : (e : Entry) (o : Option Part) → broken_part parts c (h ++ here.entries) here.flawed.state.going e ≡ o → map (hold_of (judged_turn parts l c h here (Progress.Did e)).entries) ds ≡ holds_after (map (hold_of here.entries) ds) e o
  holds_entry e o k = ap (λ z. map (hold_of (judged_entry parts l c h here e z).entries) ds) k ∙ by o
    where
      by : (z : Option Part) → map (hold_of (judged_entry parts l c h here e z).entries) ds ≡ holds_after (map (hold_of here.entries) ds) e z
      by None = holds_more ds here.entries e
      by (Some part) = refl

  -- the holds after a turn
  holds_turn : (p : Progress) → map (hold_of (judged_turn parts l c h here p).entries) ds ≡ (held_turned parts l c (held_of c h ds here) p).holds
  holds_turn (Progress.Did e) = holds_entry e (broken_at parts c (point_of c h here) e) (sym (broken_same parts c (h ++ here.entries) here.flawed e (in_step parts l c h here (turns_go parts l c h before))))
  holds_turn (Progress.Waiting why) = refl
  holds_turn Progress.Idle = refl

  module _ (law : TurnsAreJudged) (go : may_go l c ds here a ≡ true) where
    goes : held_go l c (held_of c h ds here) a ≡ true
    goes = go_same l c h ds here a ∙ go

    point_step : (held_turn parts l c (held_of c h ds here) a).point ≡ point_of c h (judged parts l c h (before ++ a ∷ []))
    point_step =
        gone_point parts l c (held_of c h ds here) a goes
        ∙ (ap (λ (x : FlawPoint). point_turn parts l c x a) (sym (law parts l c h before))
        ∙ (sym (fold-append (point_turn parts l c) (point_from c h) before (a ∷ []))
        ∙ law parts l c h (before ++ a ∷ [])))

    unbroken : here.broken ≡ None
    unbroken = none_in here.broken (and_parts (is_none here.broken) (is_entry (due_by l c here.flawed a)) (and_parts (is_none here.broken && is_entry (due_by l c here.flawed a)) (not (is_held ds here.entries a)) go).0).0

    more_is : judged parts l c h (before ++ a ∷ []) ≡ judged_turn parts l c h here (due_by l c here.flawed a)
    more_is = judged_more parts l c h before a ∙ ap (λ o. judged_on parts l c h o here a) unbroken

    holds_step : (held_turn parts l c (held_of c h ds here) a).holds ≡ map (hold_of (judged parts l c h (before ++ a ∷ [])).entries) ds
    holds_step =
        ap (λ b. (held_on parts l c (held_of c h ds here) a b).holds) goes
        ∙ (sym (holds_turn (due_by l c here.flawed a))
        ∙ ap (λ (x : Judged). map (hold_of x.entries) ds) (sym more_is))

    -- a turn of an actor that may go
    pub one_step : held_turn parts l c (held_of c h ds here) a ≡ held_of c h ds (judged parts l c h (before ++ a ∷ []))
    one_step =
        ap (λ p. with_both p (held_turn parts l c (held_of c h ds here) a).holds) point_step
        ∙ ap (with_both (point_of c h (judged parts l c h (before ++ a ∷ [])))) holds_step

-- ---- all turns

abbrev point_by : List Part → Flaw → Program → List Entry → List Hold → List ℕ → HeldPoint
point_by parts l c h ds turns = point_at (held_system parts l c h ds) turns

-- a turn more
point_more : (parts : List Part) (l : Flaw) (c : Program) (h : List Entry) (ds : List Hold) (before : List ℕ) (a : ℕ) → point_by parts l c h ds (before ++ a ∷ []) ≡ held_turn parts l c (point_by parts l c h ds before) a
point_more parts l c h ds before a = fold-append (held_turn parts l c) (held_from c h ds) before (a ∷ [])

abbrev Judges : List Part → Flaw → Program → List Entry → List Hold → List ℕ → Type 0
Judges parts l c h ds turns = point_by parts l c h ds turns ≡ held_of c h ds (judged parts l c h turns)

more_judges : TurnsAreJudged → (parts : List Part) (l : Flaw) (c : Program) (h : List Entry) (ds : List Hold) (before : List ℕ) (a : ℕ) → Judges parts l c h ds before → may_go l c ds (judged parts l c h before) a ≡ true → Judges parts l c h ds (before ++ a ∷ [])
more_judges law parts l c h ds before a same go = point_more parts l c h ds before a ∙ (ap (λ x. held_turn parts l c x a) same ∙ one_step parts l c h ds before a law go)

all_judge : TurnsAreJudged → (parts : List Part) (l : Flaw) (c : Program) (h : List Entry) (ds : List Hold) (before turns : List ℕ) → Judges parts l c h ds before → KeepsAfter parts l c h ds before turns → Judges parts l c h ds (before ++ turns)
all_judge law parts l c h ds before [] same keeps = subst (Judges parts l c h ds) (sym (append-nil before)) same
all_judge law parts l c h ds before (a ∷ turns) same keeps =
    subst (Judges parts l c h ds) (append_assoc before (a ∷ []) turns)
    (all_judge law parts l c h ds (before ++ a ∷ []) turns (more_judges law parts l c h ds before a same keeps.0) keeps.1)

-- before the first turn
pub begins : (parts : List Part) (l : Flaw) (c : Program) (h : List Entry) (ds : List Hold) → Judges parts l c h ds []
begins parts l c h ds = ap (λ (g : List Entry). with_both (record { flawed = flawed_from (state_of c h); marked = marked_of c g; broken = None }) (map hold_start ds)) (sym (append-nil h))

pub kept_turns_are_judged : TurnsAreJudged → KeptTurnsAreJudged
kept_turns_are_judged law parts l c h ds turns keeps = all_judge law parts l c h ds [] turns (begins parts l c h ds) keeps

-- ---- turns that add an entry each

abbrev entries_by : List Part → Flaw → Program → List Entry → List Hold → List ℕ → ℕ
entries_by parts l c h ds turns = entries_at (point_by parts l c h ds turns).point

-- how many turns of these add one
adds_at_most : (parts : List Part) (l : Flaw) (c : Program) (h : List Entry) (ds : List Hold) → IsSystem (held_system parts l c h ds) → (turns : List ℕ) (x : HeldPoint) → entries_at (fold (held_turn parts l c) x turns).point ≤ entries_at x.point + length turns
adds_at_most parts l c h ds y [] x = omega arith
adds_at_most parts l c h ds y (a ∷ turns) x = omega (arith, adds_at_most parts l c h ds y turns (held_turn parts l c x a), one (held_go l c x a) refl)
  where
    one : (b : Bool) → held_go l c x a ≡ b → entries_at (held_turn parts l c x a).point ≤ entries_at x.point + 1
    one true go = omega (arith, y.adds x a go)
    one false held = omega (arith, ap (λ (z : HeldPoint). entries_at z.point) (y.stays x a held))

-- turns that keep the holds add one each
pub kept_add : TurnsAreJudged → (parts : List Part) (l : Flaw) (c : Program) (h : List Entry) (ds : List Hold) → IsSystem (held_system parts l c h ds) → (before turns : List ℕ) → Judges parts l c h ds before → KeepsAfter parts l c h ds before turns → entries_by parts l c h ds (before ++ turns) ≡ entries_by parts l c h ds before + length turns
kept_add law parts l c h ds y before [] same keeps = omega (arith, ap (entries_by parts l c h ds) (append-nil before))
kept_add law parts l c h ds y before (a ∷ turns) same keeps =
    omega (
      arith,
      ap (entries_by parts l c h ds) (append_assoc before (a ∷ []) turns),
      kept_add law parts l c h ds y (before ++ a ∷ []) turns (more_judges law parts l c h ds before a same keeps.0) keeps.1,
      ap (λ (x : HeldPoint). entries_at x.point) (point_more parts l c h ds before a),
      y.adds (point_by parts l c h ds before) a (ap (λ x. held_go l c x a) same ∙ (go_same l c h ds (judged parts l c h before) a ∙ keeps.0)),
    )

-- and turns that add one each keep them
pub adding_keep : TurnsAreJudged → (parts : List Part) (l : Flaw) (c : Program) (h : List Entry) (ds : List Hold) → IsSystem (held_system parts l c h ds) → (before turns : List ℕ) → Judges parts l c h ds before → entries_by parts l c h ds (before ++ turns) ≡ entries_by parts l c h ds before + length turns → KeepsAfter parts l c h ds before turns
adding_keep law parts l c h ds y before [] same adds = tt
adding_keep law parts l c h ds y before (a ∷ turns) same adds =
    by (held_go l c (point_by parts l c h ds before) a) refl (λ more may. adding_keep law parts l c h ds y (before ++ a ∷ []) turns (more_judges law parts l c h ds before a same may) (omega (arith, along, more)))
  where
    along : entries_by parts l c h ds ((before ++ a ∷ []) ++ turns) ≡ entries_by parts l c h ds before + length (a ∷ turns)
    along = ap (entries_by parts l c h ds) (append_assoc before (a ∷ []) turns) ∙ adds

    few : entries_by parts l c h ds ((before ++ a ∷ []) ++ turns) ≤ entries_by parts l c h ds (before ++ a ∷ []) + length turns
    few = omega (arith, ap (λ (x : HeldPoint). entries_at x.point) (fold-append (held_turn parts l c) (held_from c h ds) (before ++ a ∷ []) turns), adds_at_most parts l c h ds y turns (point_by parts l c h ds (before ++ a ∷ [])))

    entries_more : entries_by parts l c h ds (before ++ a ∷ []) ≡ entries_at (held_turn parts l c (point_by parts l c h ds before) a).point
    entries_more = ap (λ (x : HeldPoint). entries_at x.point) (point_more parts l c h ds before a)

    by : (b : Bool) → held_go l c (point_by parts l c h ds before) a ≡ b
        → (entries_by parts l c h ds (before ++ a ∷ []) ≡ entries_by parts l c h ds before + 1 → may_go l c ds (judged parts l c h before) a ≡ true → KeepsAfter parts l c h ds (before ++ a ∷ []) turns)
        → KeepsAfter parts l c h ds before (a ∷ turns)
    by true go on =
        let may : may_go l c ds (judged parts l c h before) a ≡ true = sym (go_same l c h ds (judged parts l c h before) a) ∙ (sym (ap (λ x. held_go l c x a) same) ∙ go) in
        (may, on (entries_more ∙ y.adds (point_by parts l c h ds before) a go) may)
    by false held on = absurd (omega (arith, along, few, entries_more, ap (λ (x : HeldPoint). entries_at x.point) (y.stays (point_by parts l c h ds before) a held)))
