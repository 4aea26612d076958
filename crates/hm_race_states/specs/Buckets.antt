-- Numbers made of a state of a race, by which a search finds those that it knows. States of one form have one number.
use Rattle.std.specs.Prelude.{ℕ, zero, suc, ◌+◌, if◌then◌else◌, Option, Some, None, List, [], ◌∷◌, map}
use Rattle.std.specs.Rc.{rc_value}
use Rattle.hm_base.specs.declared.Frame.{Frame}
use Rattle.hm_history.specs.Kernel.Going.{Going}
use Rattle.hm_history.specs.declared.phases.Body.{Body}
use Rattle.hm_history.specs.declared.phases.Migrating.{Migrating}
use Rattle.hm_history.specs.declared.phases.Phase.{Phase}
use Rattle.hm_race_keys.specs.Answers.{mixed_lists}
use Rattle.hm_race_keys.specs.PagePlaces.{mixed_place}
use Rattle.hm_race_keys.specs.Sparse.{mixed, mixed_items}
use Rattle.hm_race_keys.specs.TableEntries.{mixed_mapping}
use Rattle.hm_race_states.specs.States.{goings_in}
use Rattle.hm_race_states.specs.declared.key.StateKey.{StateKey}

-- the page to which a guard has come
abbrev pub cursor_of : Body → ℕ
cursor_of (Body.Zap n) = n
cursor_of (Body.Narrow n) = n
cursor_of (Body.Fork n half) = n
cursor_of (Body.Select n) = n
cursor_of _ = 0

-- a mirror that may be none, as a word
abbrev pub told_word : Option ℕ → ℕ
told_word None = 0
told_word (Some m) = m + 1

-- a frame that may be none, as a word
abbrev pub frame_word : Option Frame → ℕ
frame_word None = 0
frame_word (Some f) = f.number + 1

-- another number for each kind of phase
abbrev pub phase_code : Phase → ℕ
phase_code Phase.Begin = 1
phase_code Phase.Locked = 2
phase_code Phase.Ready = 3
phase_code Phase.Answer = 4
phase_code (Phase.Detaching q) = 5
phase_code (Phase.Pages n) = 6
phase_code (Phase.Piece k) = 7
phase_code (Phase.Fetched b) = 8
phase_code (Phase.Begun k at q) = 9
phase_code (Phase.Decide t) = 10
phase_code (Phase.Noted k at q x) = 11
phase_code (Phase.Taken t g x) = 12
phase_code (Phase.Armed t g x) = 13
phase_code (Phase.Guard p r met told b) = 14
phase_code (Phase.Drop f) = 15
phase_code (Phase.Emptying f at) = 16
phase_code (Phase.Copy f g n) = 17
phase_code (Phase.Copied f g) = 18
phase_code (Phase.Finish f g) = 19
phase_code (Phase.Settle f) = 20
phase_code (Phase.GiveUp t) = 21
phase_code (Phase.Frames v n) = 22
phase_code (Phase.Moves s v) = 23
phase_code (Phase.Lost v g) = 24

-- how far a phase is: a cursor, a sequence, or a frame's number
abbrev pub phase_word : Phase → ℕ
phase_word (Phase.Pages n) = n
phase_word (Phase.Piece k) = k
phase_word (Phase.Fetched b) = b
phase_word (Phase.Begun k at q) = q
phase_word (Phase.Noted k at q x) = q
phase_word (Phase.Taken t g x) = g.number
phase_word (Phase.Armed t g x) = g.number
phase_word (Phase.Guard p r met told b) = mixed (told_word told) (cursor_of b)
phase_word (Phase.Drop f) = f.number
phase_word (Phase.Copy f g n) = n
phase_word (Phase.Finish f g) = f.number
phase_word (Phase.Frames v n) = v
phase_word (Phase.Moves s v) = v
phase_word _ = 0

-- a sum with a phase mixed in
abbrev pub mixed_phase : ℕ → Phase → ℕ
mixed_phase sum x = mixed (mixed sum (phase_code x)) (phase_word x)

-- a sum with phases mixed in
abbrev pub mixed_phases : ℕ → List Phase → ℕ
mixed_phases sum [] = sum
mixed_phases sum (x ∷ xs) = mixed_phases (mixed_phase sum x) xs

-- a sum with the record of a page mixed in: the frame that was taken for it, and whether it moved
abbrev pub mixed_record : ℕ → Migrating → ℕ
mixed_record sum x = mixed (mixed sum (frame_word x.dest)) (if x.moved then 1 else 0)

-- a sum with records mixed in
abbrev pub mixed_records : ℕ → List Migrating → ℕ
mixed_records sum [] = sum
mixed_records sum (x ∷ xs) = mixed_records (mixed_record sum x) xs

-- a sum with how far an actor is mixed in
abbrev pub mixed_going : ℕ → Going → ℕ
mixed_going sum g = mixed_records (mixed_phases (mixed sum g.index) g.stack) g.pages

-- a sum with how far the first actors are mixed in
unfoldable pub mixed_goings : ℕ → ℕ → (ℕ → Going) → ℕ
mixed_goings sum zero f = sum
mixed_goings sum (suc n) f = mixed_going (mixed_goings sum n f) (f n)

-- the number of a key: what actors were answered, how far they are, and the places and tables
abbrev pub key_number : StateKey → ℕ
key_number k =
    let said = mixed_lists 1 k.answers.value.lists.items in
    let far = mixed_goings said 16 (goings_in (map rc_value k.state.tasks.items)) in
    let placed = mixed_items mixed_place far k.state.places.value in
    mixed_items mixed_mapping placed k.state.tables.value
