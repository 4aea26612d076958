-- What the laws ask of the past and the state does not keep.
use Rattle.std.specs.Prelude.{ℕ, ◌+◌, Bool, false, ◌&&◌, ◌||◌, ◌==◌, if◌then◌else◌, Option, Some, None}
use Rattle.hm_base.specs.Pages.{Pages, covers}
use Rattle.hm_history.specs.Memory.Words.{with_at}
use Rattle.hm_history.specs.declared.Kind.{Kind}

-- who gave a process its number; who detaches a mirror; the first position from which a mirror has not been told of a
-- page; where an actor last began a look-up of a mirror; whether a table entry was set from there, or from its own
-- position
pub record Past : Type 0 where
  pub namer : ℕ → Option ℕ
  pub leaver : ℕ → Option ℕ
  pub told : ℕ → ℕ → ℕ
  pub begun : ℕ → ℕ → Option ℕ
  pub rightly : ℕ → ℕ → Bool

-- before the first entry nobody has forked, left, told or begun
abbrev pub past_start : Past
past_start =
    record { namer = λ c. None; leaver = λ m. None; told = λ m v. 0; begun = λ a m. None; rightly = λ m v. false }

-- the position is the one that was noted, if one was
abbrev pub is_position : Option ℕ → ℕ → Bool
is_position None i = false
is_position (Some j) i = i == j

-- after an entry with n entries up to it that tells a mirror of a span: its pages there were told last at n
abbrev pub told_next : (ℕ → ℕ → ℕ) → ℕ → Pages → ℕ → ℕ → ℕ → ℕ
told_next f m r n k u = if (k == m) && covers r u then n else f k u

-- a function of two numbers with one value changed
abbrev pub with_pair : {X : Type 0} → (ℕ → ℕ → X) → ℕ → ℕ → X → ℕ → ℕ → X
with_pair f m v x k u = if (k == m) && (u == v) then x else f k u

-- the past after an entry at position n
abbrev pub past_next : Past → ℕ → ℕ → Kind → Past
past_next t n a (Kind.Named p c) = record t { namer = with_at t.namer c (Some a) }
past_next t n a (Kind.Detaching m q) = record t { leaver = with_at t.leaver m (Some a) }
past_next t n a (Kind.Told m r q) = record t { told = told_next t.told m r (n + 1) }
past_next t n a (Kind.Begin m q) = record t { begun = with_pair t.begun a m (Some n) }
past_next t n a (Kind.Set m v f w from) =
    record t { rightly = with_pair t.rightly m v ((from == n) || is_position (t.begun a m) from) }
past_next t n a _ = t
