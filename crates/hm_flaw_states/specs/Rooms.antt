-- How high an actor's stack may be, whatever rule its driver leaves out.
use Rattle.std.specs.Prelude.{◌≡◌, ℕ, ◌+◌, ◌^◌, ◌<◌, ◌≤◌, Bool, true, false, ◌==◌, None, List, [], ◌∷◌, length, ⊤}
use Rattle.hm_history.specs.declared.Kind.{Kind}
use Rattle.hm_history.specs.declared.phases.Body.{Body}
use Rattle.hm_history.specs.declared.phases.Phase.{Phase}
use Rattle.hm_history.specs.declared.phases.Seen.{Seen}
use Rattle.hm_flaws.specs.declared.flaws.Flaw.{Flaw}

-- ---- stacks that stand

-- by how many phases a stack may rise by an entry of a guard with this body at its top
abbrev pub body_rises : Body → ℕ
body_rises Body.Nothing = 0
body_rises (Body.Catch f) = 1
body_rises (Body.Freeze f) = 0
body_rises body = 1

-- the same of any phase at the top
abbrev pub rises : Phase → ℕ
rises (Phase.Guard p r met told body) = body_rises body
rises (Phase.Emptying f what) = 1
rises x = 0

-- a fork between the two halves of a page is at a page
abbrev pub BodyStands : Body → Type 0
BodyStands (Body.Fork v true) = v < 2 ^ 36
BodyStands body = ⊤

-- after n entries a phase has counted no more frames, and its fork is at a page
abbrev pub PhaseStands : ℕ → Phase → Type 0
PhaseStands n (Phase.Guard p r met told body) = BodyStands body
PhaseStands n (Phase.Frames v m) = m ≤ n
PhaseStands n x = ⊤

-- so it is with each phase of a stack, and over each there is room for what an entry may put on it
abbrev pub StackStands : ℕ → List Phase → Type 0
StackStands n [] = ⊤
StackStands n (x ∷ xs) = (length xs + rises x ≤ 2) × PhaseStands n x × StackStands n xs

-- ---- entries

-- the guard's body leaves no frame without a name
abbrev pub is_quiet : Phase → Bool
is_quiet (Phase.Guard p r met told Body.Nothing) = true
is_quiet (Phase.Guard p r met told (Body.Catch f)) = true
is_quiet (Phase.Guard p r met told (Body.Freeze f)) = true
is_quiet x = false

-- an entry at the top of this stack leaves no frame without a name if the top is such a guard
abbrev pub IsQuietAt : List Phase → Seen → Type 0
IsQuietAt [] seen = ⊤
IsQuietAt (x ∷ xs) seen = is_quiet x ≡ true → seen.orphan ≡ None

-- it places a page
abbrev pub PlacesPage : Kind → Type 0
PlacesPage (Kind.Place p v x) = v < 2 ^ 36
PlacesPage k = ⊤

-- ---- what a flaw leaves out

-- the top is a step that the driver leaves out, with nothing in its place
abbrev pub leaves_out : Flaw → List Phase → Bool
leaves_out Flaw.PartCopied (Phase.Copy f g k ∷ below) = k == 7
leaves_out Flaw.LostHeld (Phase.Drop g ∷ Phase.Moves step v ∷ below) = true
leaves_out l stack = false

-- what stands below the top
abbrev pub without_top : List Phase → List Phase
without_top [] = []
without_top (top ∷ below) = below
