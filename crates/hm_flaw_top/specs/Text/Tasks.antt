-- What the words after the program's name ask for.
use Rattle.std.specs.Prelude.{◌≡◌, ◌⊎◌, ◌↔◌, ℕ, ◌+◌, if◌then◌else◌, List, [], ◌∷◌, Option, Some, None, Result, Ok, Err}
use Rattle.std.specs.Prelude.{codes}
use Rattle.std.specs.Str.{bytes_eq}
use Rattle.hm_flaws.specs.declared.flaws.Flaw.{Flaw}
use Rattle.hm_flaw_parts.specs.declared.judged.Judging.{Judging}
use Rattle.hm_script.specs.Numerals.{number}
use Rattle.hm_script.specs.declared.reason.Reason.{Reason}
use Rattle.hm_flaw_top.specs.Text.Names.{flaw_named, name_of}
use Rattle.hm_flaw_top.specs.declared.text.task.BadWord.{BadWord}
use Rattle.hm_flaw_top.specs.declared.text.task.Task.{Task}
use Rattle.hm_flaw_top.specs.declared.text.task.Which.{Which}
use Rattle.hm_flaw_top.specs.declared.text.task.WordFault.{WordFault}

-- ---- the words of a task

-- the first word, which says of which drivers: the rule that one leaves out, `right` of the right one, or all of them
abbrev pub which_word : Which → List ℕ
which_word (Which.One l) = name_of l
which_word (Which.Holds l) = name_of l
which_word Which.All = codes "--all"

-- the words after that, in any order: `--answers` if answers alone are judged, and `--most` with the number of states,
-- which is 1,000,000 without that
abbrev pub AreOptions : List (List ℕ) → Judging → ℕ → Type 0
AreOptions [] Judging.AllParts n = n ≡ 1000000
AreOptions (u ∷ []) Judging.AnswersAlone n = (u ≡ codes "--answers") × (n ≡ 1000000)
AreOptions (u ∷ v ∷ []) Judging.AllParts n = (u ≡ codes "--most") × (number v ≡ Ok n)
AreOptions (u ∷ v ∷ w ∷ []) Judging.AnswersAlone n =
    ((u ≡ codes "--answers") × (v ≡ codes "--most") × (number w ≡ Ok n))
    ⊎ ((u ≡ codes "--most") × (number v ≡ Ok n) × (w ≡ codes "--answers"))
AreOptions _ _ _ = ⊥

-- the words after the first: `--holds` comes before the others, if holds are asked for
abbrev pub AreWords : Which → List (List ℕ) → Judging → ℕ → Type 0
AreWords (Which.One l) ws judging n = AreOptions ws judging n
AreWords (Which.Holds l) [] judging n = ⊥
AreWords (Which.Holds l) (w ∷ ws) judging n = (w ≡ codes "--holds") × AreOptions ws judging n
AreWords Which.All ws judging n = AreOptions ws judging n

-- all words of a task
abbrev pub IsTask : List (List ℕ) → Task → Type 0
IsTask [] t = ⊥
IsTask (w ∷ ws) t = (w ≡ which_word t.which) × AreWords t.which ws t.judging t.most

-- ---- the same, word by word, with the first that is bad

-- the word of this number is bad
abbrev pub bad : ℕ → WordFault → Result Task BadWord
bad at why = Err (record { at = at; why = why })

-- the task, if no word comes after the others; it would have this number
abbrev pub ended : ℕ → Task → List (List ℕ) → Result Task BadWord
ended at t [] = Ok t
ended at t (w ∷ ws) = bad at WordFault.NoOption

-- after the number of `--answers --most N`
abbrev pub last_counted : Task → List (List ℕ) → Result ℕ Reason → Result Task BadWord
last_counted t ws (Ok n) = ended 5 (record t { most = n }) ws
last_counted t ws (Err why) = bad 4 WordFault.NoNumber

-- after `--answers --most`
abbrev pub last_number : Task → List (List ℕ) → Result Task BadWord
last_number t [] = bad 4 WordFault.Missing
last_number t (w ∷ ws) = last_counted t ws (number w)

-- after `--answers`
abbrev pub after_answers : Task → List (List ℕ) → Result Task BadWord
after_answers t [] = Ok t
after_answers t (w ∷ ws) = if bytes_eq w (codes "--most") then last_number t ws else bad 3 WordFault.NoOption

-- after `--most N`
abbrev pub after_number : Task → List (List ℕ) → Result Task BadWord
after_number t [] = Ok t
after_number t (w ∷ ws) =
    if bytes_eq w (codes "--answers") then ended 5 (record t { judging = Judging.AnswersAlone }) ws
    else bad 4 WordFault.NoOption

-- after the number of `--most N`
abbrev pub first_counted : Task → List (List ℕ) → Result ℕ Reason → Result Task BadWord
first_counted t ws (Ok n) = after_number (record t { most = n }) ws
first_counted t ws (Err why) = bad 3 WordFault.NoNumber

-- after `--most`
abbrev pub first_number : Task → List (List ℕ) → Result Task BadWord
first_number t [] = bad 3 WordFault.Missing
first_number t (w ∷ ws) = first_counted t ws (number w)

-- after the first word, and `--holds`
abbrev pub options_of : Task → List (List ℕ) → Result Task BadWord
options_of t [] = Ok t
options_of t (w ∷ ws) =
    if bytes_eq w (codes "--answers") then after_answers (record t { judging = Judging.AnswersAlone }) ws
    else if bytes_eq w (codes "--most") then first_number t ws else bad 2 WordFault.NoOption

-- the drivers that a word names which is a rule, or `--all`
abbrev pub which_by : List ℕ → Option Flaw → Option Which
which_by w (Some l) = Some (Which.One l)
which_by w None = if bytes_eq w (codes "--all") then Some Which.All else None

-- the drivers that a word names
abbrev pub which_of : List ℕ → Option Which
which_of w = which_by w (flaw_named w)

-- the task of these drivers, if no more words come
abbrev pub plain_task : Which → Task
plain_task x = record { which = x; judging = Judging.AllParts; most = 1000000 }

-- the same after one word more
abbrev pub later : Result Task BadWord → Result Task BadWord
later (Ok t) = Ok t
later (Err b) = Err (record { at = b.at + 1; why = b.why })

-- after the first word, which names these drivers; none names a driver whose holds are asked for
abbrev pub words_of : Which → List (List ℕ) → Result Task BadWord
words_of (Which.One l) [] = options_of (plain_task (Which.One l)) []
words_of (Which.One l) (w ∷ ws) =
    if bytes_eq w (codes "--holds") then later (options_of (plain_task (Which.Holds l)) ws)
    else options_of (plain_task (Which.One l)) (w ∷ ws)
words_of (Which.Holds l) ws = bad 1 WordFault.NoRule
words_of Which.All ws = options_of (plain_task Which.All) ws

-- by the drivers that the first word names
abbrev pub task_by : Option Which → List (List ℕ) → Result Task BadWord
task_by (Some x) ws = words_of x ws
task_by None ws = bad 1 WordFault.NoRule

-- what the words ask for, or the first that is bad
abbrev pub task_in : List (List ℕ) → Result Task BadWord
task_in [] = bad 1 WordFault.Missing
task_in (w ∷ ws) = task_by (which_of w) ws

-- words ask for a task if and only if they are words of it
abbrev pub WordsAreTasks : Type 0
WordsAreTasks = (ws : List (List ℕ)) (t : Task) → (task_in ws ≡ Ok t) ↔ IsTask ws t
