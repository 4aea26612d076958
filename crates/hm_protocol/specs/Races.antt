-- Races by their turns: the entries that are due, of a right driver, and of one with a flaw after a set-up; what the
-- rules say of their events.
use Rattle.std.specs.Prelude.{ℕ, ◌+◌, is_some, List, [], ◌∷◌, ◌++◌, fold, filter, filter_map, option_map, length}
use Rattle.std.specs.Prelude.{◌≡◌, map, flat_map, replicate}
use Rattle.hm_base.specs.Program.{Program}
use Rattle.hm_base.specs.declared.ops.Op.{Op}
use Rattle.hm_base.specs.declared.ops.Version.{Version}
use Rattle.hm_history.specs.declared.Entry.{Entry}
use Rattle.hm_history.specs.declared.Progress.{Progress}
use Rattle.hm_history.specs.Kernel.Due.{due_in}
use Rattle.hm_history.specs.Kernel.Going.{State, state_start, state_next, state_of}
use Rattle.hm_flaws.specs.declared.flaws.Flaw.{Flaw}
use Rattle.hm_flaws.specs.Flawed.{Flawed, flawed_from, flawed_next, due_by}
use Rattle.hm_protocol.specs.declared.events.Traced.{Traced}
use Rattle.hm_protocol.specs.declared.rules.Rule.{Rule}
use Rattle.hm_protocol.specs.declared.rules.Joint.{Joint}
use Rattle.hm_protocol.specs.Rules.{all_rules, all_joint, joint_test, fails, broken}
use Rattle.hm_protocol.specs.Projection.{project_by}

-- a turn of the right driver
abbrev pub right_turn : Program → State × List Entry → ℕ → State × List Entry
right_turn c x a = elim (due_in c x.0 a) [ Progress.Did e ↦ (state_next c x.0 e, x.1 ++ e ∷ []) | _ ↦ x ]

-- the entries of these turns
abbrev pub right_race : Program → List ℕ → List Entry
right_race c actors = (fold (right_turn c) (state_start c, []) actors).1

-- a turn of a driver with a flaw
abbrev pub flawed_turn : Flaw → Program → Flawed × List Entry → ℕ → Flawed × List Entry
flawed_turn l c x a = elim (due_by l c x.0 a) [ Progress.Did e ↦ (flawed_next l c x.0 e, x.1 ++ e ∷ []) | _ ↦ x ]

-- the entries of these turns after a set-up
abbrev pub flawed_race : Flaw → Program → List Entry → List ℕ → List Entry
flawed_race l c h actors = (fold (flawed_turn l c) (flawed_from (state_of c h), []) actors).1

-- the rules that are broken, each with the position
abbrev pub blamed : List Rule → List Traced → List (Rule × ℕ)
blamed rs es = filter_map (λ r. option_map (λ i. (r, i)) (broken r es)) rs

-- the joint ones
abbrev pub blamed_jointly : List Joint → List Traced → List Joint
blamed_jointly rs es = filter (λ r. is_some (fails (joint_test r) es)) rs

-- what is said of a race: how many entries and events it has, and which rules are broken
pub record Blame : Type 0 where
  pub entries : ℕ
  pub events : ℕ
  pub broken : List (Rule × ℕ)
  pub joint : List Joint

-- of these events
abbrev pub blame : ℕ → List Traced → Blame
blame n es = record {
  entries = n;
  events = length es;
  broken = blamed all_rules es;
  joint = blamed_jointly all_joint es;
}

-- of turns of the right driver, and then of one with a flaw
abbrev pub blame_of : Flaw → Program → List ℕ → List ℕ → Blame
blame_of l c before actors = let h = right_race c before in let es = flawed_race l c h actors in
    blame (length h + length es) (project_by l c h es)

-- ---- many races

-- turns: n of an actor, and so on
abbrev pub turns : List (ℕ × ℕ) → List ℕ
turns xs = flat_map (λ x. replicate x.0 x.1) xs

-- a script without a schedule
abbrev pub script : Version → ℕ → List ℕ → ℕ → List (List Op) → Program
script version frames devices skip actors = record {
  version = version;
  frames = frames;
  devices = devices;
  skip = skip;
  actors = actors;
  schedule = [];
}

-- a race of a script: the set-up and the turns, each as numbers of turns of an actor, and what it comes to
pub record Race : Type 0 where
  pub flaw : Flaw
  pub before : List (ℕ × ℕ)
  pub turns : List (ℕ × ℕ)
  pub blame : Blame

-- each race of a script comes to what it says
abbrev pub AllComeTo : Program → List Race → Type 0
AllComeTo c xs = map (λ x. blame_of x.flaw c (turns x.before) (turns x.turns)) xs ≡ map (λ x. x.blame) xs
