-- Holds: what they ask of the entries after the set-up, and what a search keeps of them.
use Rattle.std.specs.Prelude.{ℕ, ◌+◌, ◌-◌, ◌==◌, Bool, false, ◌&&◌, nat_lt, if◌then◌else◌, Option, Some, None}
use Rattle.std.specs.Prelude.{is_none, List, fold}
use Rattle.std.specs.List.{list_any}
use Rattle.hm_history.specs.declared.Entry.{Entry}
use Rattle.hm_holds.specs.declared.holds.Hold.{Hold}
use Rattle.hm_holds.specs.declared.holds.HoldState.{HoldState}
use Rattle.hm_holds.specs.declared.holds.Nth.{Nth}
use Rattle.hm_holds.specs.declared.words.Word.{Word}
use Rattle.hm_holds.specs.Words.{same_word, word_of}

-- ---- what they ask

-- the entry is one of the actor with this word
abbrev pub is_of : ℕ → Word → Entry → Bool
is_of a w e = (e.actor == a) && same_word w (word_of e.kind)

-- one more if it counts
abbrev pub count_next : Bool → ℕ → ℕ
count_next counts n = if counts then n + 1 else n

-- how many of these entries are of the actor and have this word
abbrev pub count_of : ℕ → Word → List Entry → ℕ
count_of a w es = fold (λ n e. count_next (is_of a w e) n) 0 es

-- the word of the last entry of the actor, if it is this one
abbrev pub last_next : ℕ → Option Word → Entry → Option Word
last_next a o e = if e.actor == a then Some (word_of e.kind) else o

-- the word of the last of these entries that is of the actor, if there is one
abbrev pub last_of : ℕ → List Entry → Option Word
last_of a es = fold (last_next a) None es

-- it has this word
abbrev pub is_last : Word → Option Word → Bool
is_last w None = false
is_last w (Some v) = same_word w v

-- the last of the actor's entries is this one; or it has made none
abbrev pub stands_at : ℕ → Option Nth → List Entry → Bool
stands_at a None es = is_none (last_of a es)
stands_at a (Some x) es = is_last x.word (last_of a es) && (count_of a x.word es == x.number)

-- after these entries the hold keeps the actor from making one: it is one that waits, and what it waits for has not
-- come
abbrev pub stops : Hold → List Entry → ℕ → Bool
stops d es a =
    (a == d.actor) && stands_at d.actor d.after es && nat_lt (count_of d.other d.until.word es) d.until.number

-- one of the holds does
abbrev pub is_held : List Hold → List Entry → ℕ → Bool
is_held ds es a = list_any (λ d. stops d es a) ds

-- ---- what a search keeps of them

-- one less if it counts, and there is one
abbrev pub left_next : Bool → ℕ → ℕ
left_next counts n = if counts then n - 1 else n

-- the number of the entry after which an actor waits; 0 if it waits at first
abbrev pub own_number : Option Nth → ℕ
own_number None = 0
own_number (Some x) = x.number

-- a hold before the first entry
abbrev pub hold_start : Hold → HoldState
hold_start d =
    record { hold = d; is_at = is_none d.after; own_left = own_number d.after; left = d.until.number }

-- an entry of the actor with this word is the one after which it waits, if so many with its word are left
abbrev pub is_at_own : Option Nth → ℕ → Word → Bool
is_at_own None n w = false
is_at_own (Some x) n w = same_word x.word w && (n == 1)

-- the hold's actor stands at it after an entry of its own with this word
abbrev pub is_now_at : HoldState → Word → Bool
is_now_at s w = is_at_own s.hold.after s.own_left w

-- how many are left then
abbrev pub left_own : Option Nth → ℕ → Word → ℕ
left_own None n w = n
left_own (Some x) n w = left_next (same_word x.word w) n

-- how many of its own entries the hold's actor has still to make then
abbrev pub own_next : HoldState → Word → ℕ
own_next s w = left_own s.hold.after s.own_left w

-- a hold after an entry
abbrev pub hold_next : HoldState → Entry → HoldState
hold_next s e = record {
  hold = s.hold;
  is_at = if e.actor == s.hold.actor then is_now_at s (word_of e.kind) else s.is_at;
  own_left = if e.actor == s.hold.actor then own_next s (word_of e.kind) else s.own_left;
  left = left_next (is_of s.hold.other s.hold.until.word e) s.left;
}

-- it keeps the actor from making an entry
abbrev pub stops_now : HoldState → ℕ → Bool
stops_now s a = (a == s.hold.actor) && s.is_at && nat_lt 0 s.left
