-- The bytes that frames hold. No entry is due, or refused, because of them: that they are the plain bytes is a law.
use Rattle.std.specs.Prelude.{ℕ, ◌+◌, ◌*◌, ◌&&◌, nat_le, nat_lt, if◌then◌else◌, Option, Some, None, unwrap_or, List, []}
use Rattle.std.specs.Prelude.{◌∷◌}
use Rattle.hm_base.specs.declared.Frame.{Frame}
use Rattle.hm_base.specs.declared.Place.{Place}
use Rattle.hm_history.specs.Memory.Words.{with_frame, page_of}
use Rattle.hm_history.specs.Memory.Plain.{Plain, owner, mirror_owner, with_bytes}
use Rattle.hm_history.specs.Memory.Places.{Places, stands_for}
use Rattle.hm_history.specs.declared.Kind.{Kind}

-- the contents of a frame that was just taken (`clear_highpage`)
abbrev pub zeros : ℕ → ℕ
zeros o = 0

-- the frame that a place stands for; none for the zero page and where nothing is mapped
abbrev pub backing : Places → Place → Option Frame
backing t x = unwrap_or (stands_for t x) None

-- the contents of a page, by offset
abbrev pub shown_by : (Frame → ℕ → ℕ) → Option Frame → ℕ → ℕ
shown_by f None = zeros
shown_by f (Some g) = f g

-- the contents that a place shows: those of the frame that it stands for, or zeros
abbrev pub contents_of : Places → (Frame → ℕ → ℕ) → Place → ℕ → ℕ
contents_of t f x = shown_by f (backing t x)

-- a frame after bytes were written at an address of its page
abbrev pub with_piece : (ℕ → ℕ) → ℕ → List ℕ → ℕ → ℕ
with_piece f at bs o = with_bytes (λ x. f o) at bs (page_of at * 4096 + o)

-- all contents after a store into the frame that a place stands for; without a frame nothing is stored
abbrev pub stored_in : (Frame → ℕ → ℕ) → Option Frame → ℕ → List ℕ → Frame → ℕ → ℕ
stored_in f None at bs = f
stored_in f (Some g) at bs = with_frame f g (with_piece (f g) at bs)

-- the place that an access is through; none if its mirror was never attached
abbrev pub place_for : Places → Option ℕ → ℕ → Place
place_for t None v = Place.Empty
place_for t (Some p) v = t.place p v

-- one eighth of a frame copied, or all of it
abbrev pub with_part_copied : (ℕ → ℕ) → (ℕ → ℕ) → Option ℕ → ℕ → ℕ
with_part_copied from to None = from
with_part_copied from to (Some k) = λ o. if nat_le (512 * k) o && nat_lt o (512 * k + 512) then from o else to o

-- the contents after an entry: `take` gives zeros, a store writes the frame that its page stands for, a copy copies
abbrev pub contents_next : Plain → Places → (Frame → ℕ → ℕ) → Kind → Frame → ℕ → ℕ
contents_next s t f (Kind.Take g) = with_frame f g zeros
contents_next s t f (Kind.Copied g h part) = with_frame f h (with_part_copied (f g) (f h) part)
contents_next s t f (Kind.Stored x at bs) = stored_in f (backing t (place_for t (owner s x) (page_of at))) at bs
contents_next s t f (Kind.Added m at was now) =
    stored_in f (backing t (place_for t (mirror_owner s m) (page_of at))) at (now ∷ [])
contents_next s t f _ = f
