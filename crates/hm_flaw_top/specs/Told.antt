-- What is written of drivers that leave a rule out, and how the call ends then.
use Rattle.std.specs.Prelude.{◌≡◌, ◌⊎◌, ℕ, List, [], ◌∷◌, ◌++◌, length, map}
use Rattle.hm_base.specs.Program.{Program}
use Rattle.hm_flaws.specs.declared.flaws.Flaw.{Flaw}
use Rattle.hm_flaws.specs.declared.parts.Part.{Part}
use Rattle.hm_flaw_parts.specs.Races.Races.{flaw_system}
use Rattle.hm_flaw_parts.specs.Judged.{judged_parts}
use Rattle.hm_flaw_search.specs.Answers.{IsAnswer}
use Rattle.hm_flaw_search.specs.Races.{FlawRaceValue}
use Rattle.hm_held_search.specs.Events.{event_of, first_of}
use Rattle.hm_held_search.specs.Finding.{IsFound}
use Rattle.hm_held_search.specs.Text.{found_text}
use Rattle.hm_held_search.specs.declared.finding.FoundHolds.{FoundHolds}
use Rattle.hm_holds.specs.Held.{held_system}
use Rattle.hm_holds.specs.declared.holds.Hold.{Hold}
use Rattle.hm_flaw_top.specs.Text.Lines.{answer_text}
use Rattle.hm_flaw_top.specs.Text.Names.{all_flaws}
use Rattle.hm_flaw_top.specs.Text.Table.{rules_text}
use Rattle.hm_flaw_search.specs.declared.answer.Answer.{Answer}
use Rattle.hm_flaw_search.specs.declared.answer.Found.{Found}
use Rattle.hm_flaw_top.specs.declared.text.table.RuleAnswer.{RuleAnswer}
use Rattle.hm_flaw_top.specs.declared.text.task.Which.{Which}
use Rattle.hm_history.specs.declared.Entry.{Entry}
use Rattle.hm_history.specs.declared.StepError.{StepError}
use Rattle.hm_race_laws.specs.Closed.{IsListed}
use Rattle.hm_race_top.specs.declared.telling.Telling.{Telling}
use Rattle.hm_search.specs.Known.{MayFail}
use Rattle.hm_flaw_top.specs.Endings.{ending_of, ending_of_all}

-- ---- one driver

-- the race that was found of one driver after a set-up of this length
abbrev pub told_one : ℕ → Answer → Telling
told_one start a = record { text = answer_text start a; ends = ending_of a }

-- this is written of the driver with this flaw, after the set-up h: what a search of its races has shown
pub record TellsOne (parts : List Part) (most : ℕ) (l : Flaw) (c : Program) (h : List Entry) (t : Telling)
    : Type 0 where
  pub answer : Answer
  pub is : IsAnswer parts l c h most answer
  pub told : t ≡ told_one (length h) answer

-- ---- one driver, and the holds of the race

-- a search for the holds of a race whose entries are these came to what this says
pub record ToldHolds (r : FlawRaceValue) (most : ℕ) (es : List Entry) (text : List ℕ) : Type 0 where
  pub found : FoundHolds
  pub is : IsFound r (first_of (map event_of es) (length r.script.actors)) most found
  pub text_is : text ≡ found_text found

-- what is written of the holds of what was found: nothing if no part is broken
abbrev pub TellsMore : FlawRaceValue → ℕ → Found → List ℕ → Type 0
TellsMore r most (Found.Broken es e part) text = ToldHolds r most (es ++ e ∷ []) text
TellsMore r most found text = text ≡ []

-- this was added to a text
pub record AddsMore (r : FlawRaceValue) (most : ℕ) (found : Found) (old new : List ℕ) : Type 0 where
  pub more : List ℕ
  pub tells : TellsMore r most found more
  pub added : new ≡ old ++ more

-- the race of the driver with this flaw, after the set-up h, if it is judged by these parts
pub record IsRaceOf (parts : List Part) (l : Flaw) (c : Program) (h : List Entry) (r : FlawRaceValue) : Type 0 where
  pub parts_are : judged_parts r.judging ≡ parts
  pub flaw : r.flaw ≡ l
  pub script : r.script ≡ c
  pub set_up : r.set_up ≡ h

-- the race that was found of one driver after a set-up of this length, and this after it
abbrev pub told_more : ℕ → Answer → List ℕ → Telling
told_more start a more = record { text = answer_text start a ++ more; ends = ending_of a }

-- this is written of the driver with this flaw, after the set-up h: what a search of its races has shown, and a search
-- for the holds of the race
pub record TellsHolds (parts : List Part) (most : ℕ) (l : Flaw) (c : Program) (h : List Entry) (t : Telling)
    : Type 0 where
  pub answer : Answer
  pub is : IsAnswer parts l c h most answer
  pub race : FlawRaceValue
  pub of_race : IsRaceOf parts l c h race
  pub more : List ℕ
  pub holds : TellsMore race most answer.found more
  pub told : t ≡ told_more (length h) answer more

-- why that fails: a search for the race does, or one for its holds
abbrev pub HoldsMayFail : List Part → Flaw → Program → List Entry → StepError → Type 0
HoldsMayFail parts l c h e = MayFail (flaw_system parts l c h) e
    ⊎ ((ds : List Hold) × MayFail (held_system parts l c h ds) e)

-- ---- all drivers

-- a line for each of these
abbrev pub told_all : List RuleAnswer → Telling
told_all rows = record { text = rules_text rows; ends = ending_of_all rows }

-- the drivers of the lines
abbrev pub rules_in : List RuleAnswer → List Flaw
rules_in rows = map (λ row. row.rule) rows

-- each line says what a search of its driver's races has shown
abbrev pub AreAnswers : List Part → ℕ → Program → List Entry → List RuleAnswer → Type 0
AreAnswers parts most c h rows =
    (row : RuleAnswer) → IsListed rows row → IsAnswer parts row.rule c h most row.answer

-- this is written of all drivers, after the set-up h: a line for each, in their order
pub record TellsAll (parts : List Part) (most : ℕ) (c : Program) (h : List Entry) (t : Telling) : Type 0 where
  pub rows : List RuleAnswer
  pub rules : rules_in rows ≡ all_flaws
  pub are : AreAnswers parts most c h rows
  pub told : t ≡ told_all rows

-- ---- what is asked for

-- this is written of the drivers that are asked for
abbrev pub Tells : Which → List Part → ℕ → Program → List Entry → Telling → Type 0
Tells (Which.One l) parts most c h t = TellsOne parts most l c h t
Tells (Which.Holds l) parts most c h t = TellsHolds parts most l c h t
Tells Which.All parts most c h t = TellsAll parts most c h t

-- why the search of some driver's races fails
pub record FailsAtSome (parts : List Part) (c : Program) (h : List Entry) (e : StepError) : Type 0 where
  pub flaw : Flaw
  pub fails : MayFail (flaw_system parts flaw c h) e

-- why a search of what is asked for fails
abbrev pub FlawsMayFail : Which → List Part → Program → List Entry → StepError → Type 0
FlawsMayFail (Which.One l) parts c h e = MayFail (flaw_system parts l c h) e
FlawsMayFail (Which.Holds l) parts c h e = HoldsMayFail parts l c h e
FlawsMayFail Which.All parts c h e = FailsAtSome parts c h e
