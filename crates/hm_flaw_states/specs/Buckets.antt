-- Numbers made of a state, and of what a driver has of its own.
use Rattle.std.specs.Prelude.{ℕ, zero, suc, List, [], ◌∷◌}
use Rattle.entry_words.specs.Word.{word_of}
use Rattle.hm_base.specs.declared.Place.{Place}
use Rattle.hm_history.specs.Kernel.Going.{Going, State}
use Rattle.hm_history.specs.declared.phases.Phase.{Phase}
use Rattle.hm_flaws.specs.Drivers.{Driver}
use Rattle.hm_race_keys.specs.Sparse.{mixed}

-- another number for most phases: its kind, and how far it is
abbrev pub phase_word : Phase → ℕ
phase_word (Phase.Guard p r met told body) = mixed 1 r.first
phase_word (Phase.Pages n) = mixed 2 n
phase_word (Phase.Piece k) = mixed 3 k
phase_word (Phase.Begun k at q) = mixed 4 q
phase_word (Phase.Decide touch) = 5
phase_word (Phase.Noted k at q x) = mixed 6 q
phase_word (Phase.Taken touch g x) = mixed 7 g.number
phase_word (Phase.Armed touch g x) = mixed 8 g.number
phase_word (Phase.Copy f g n) = mixed 9 n
phase_word (Phase.Moves step v) = mixed 10 v
phase_word (Phase.Frames v n) = mixed 11 v
phase_word (Phase.Finish f to) = mixed 12 f.number
phase_word (Phase.Drop f) = mixed 13 f.number
phase_word Phase.Answer = 14
phase_word Phase.Locked = 15
phase_word (Phase.Emptying f at) = 16
phase_word (Phase.Settle f) = 17
phase_word _ = 0

-- a sum with the phase at the top mixed in
abbrev pub mixed_stack : ℕ → List Phase → ℕ
mixed_stack sum [] = sum
mixed_stack sum (top ∷ below) = mixed sum (phase_word top)

-- a sum with how far an actor is mixed in
abbrev pub mixed_top : ℕ → Going → ℕ
mixed_top sum g = mixed_stack (mixed sum g.index) g.stack

-- a sum with how far the first actors are mixed in
unfoldable pub mixed_tops : ℕ → ℕ → (ℕ → Going) → ℕ
mixed_tops sum zero f = sum
mixed_tops sum (suc n) f = mixed_top (mixed_tops sum n f) (f n)

-- a sum with the places of pages mixed in
abbrev pub mixed_places : ℕ → (ℕ → ℕ → Place) → List (ℕ × ℕ) → ℕ
mixed_places sum f [] = sum
mixed_places sum f (x ∷ xs) = mixed_places (mixed (mixed sum x.1) (word_of (f x.0 x.1))) f xs

-- the number of a state: how far actors are, and the places of the pages that were placed
abbrev pub state_number : State → ℕ
state_number u =
    mixed_places (mixed_tops (mixed 1 u.after.length) 16 u.going) u.after.places.place u.after.places.placed

-- a sum with the first numbers mixed in
unfoldable pub mixed_numbers : ℕ → ℕ → (ℕ → ℕ) → ℕ
mixed_numbers sum zero f = sum
mixed_numbers sum (suc n) f = mixed (mixed_numbers sum n f) (f n)

-- the number of what a driver has of its own: the sequences of its intervals
abbrev pub driver_number : Driver → ℕ
driver_number x = mixed_numbers 1 32 x.seq
