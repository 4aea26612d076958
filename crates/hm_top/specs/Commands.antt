-- What the words after the program's name ask for.
use Rattle.std.specs.Prelude.{ℕ, ◌-◌, List, [], ◌∷◌, Bool, true, false, Option, Some, None, Result, Ok, Err}
use Rattle.std.specs.Prelude.{if◌then◌else◌, nat_lt, nat_le, ◌&&◌, codes}
use Rattle.std.specs.Str.{bytes_eq}
use Rattle.hm_script.specs.Numerals.{address, number}
use Rattle.hm_script.specs.declared.reason.Reason.{Reason}
use Rattle.hm_turns.specs.Looking.{IsLook}
use Rattle.hm_top.specs.declared.command.Alone.{Alone}
use Rattle.hm_top.specs.declared.command.Begin.{Begin}
use Rattle.hm_top.specs.declared.command.Command.{Command}

-- the command that takes a number, if the word spells one: decimal, without leading zeros, below 2 ^ 64
abbrev pub numbered : (ℕ → Alone) → Result ℕ Reason → Option Command
numbered command (Ok n) = Some (Command.Alone (command n))
numbered command (Err why) = None

-- the command of one word
abbrev pub plain_command : List ℕ → Option Command
plain_command w = if bytes_eq w (codes "replay") then Some (Command.Alone Alone.Replay)
    else (if bytes_eq w (codes "threads") then Some (Command.Threads Begin.AtOnce)
    else (if bytes_eq w (codes "race") then Some (Command.Threads Begin.AfterSchedule)
    else (if bytes_eq w (codes "upgrade") then Some (Command.Alone Alone.Upgrade)
    else (if bytes_eq w (codes "check") then Some (Command.Alone Alone.Check)
    else (if bytes_eq w (codes "advise") then Some (Command.Alone Alone.Advise)
    else (if bytes_eq w (codes "why") then Some (Command.Alone Alone.Why) else None))))))

-- the command of a word and a number
abbrev pub numbered_command : List ℕ → List ℕ → Option Command
numbered_command w n = if bytes_eq w (codes "generate") then numbered Alone.Generate (number n)
    else (if bytes_eq w (codes "trial") then numbered Alone.Trial (number n) else None)

-- a peek of this many bytes of a process from an address on: 1 to 256 of them, that end at or below 2 ^ 48
abbrev pub peek_at : ℕ → ℕ → ℕ → Option Command
peek_at p at n =
    if nat_lt p 32 && (nat_lt 0 n && (nat_le n 256 && nat_le at (281474976710656 - n)))
    then Some (Command.Peek (record { proc = p; addr = at; len = n })) else None

-- so by the words of the three numbers, which are spelled as in scripts
abbrev pub peek_of : Result ℕ Reason → Result ℕ Reason → Result ℕ Reason → Option Command
peek_of (Ok p) (Ok at) (Ok n) = peek_at p at n
peek_of (Ok p) (Ok at) (Err why) = None
peek_of (Ok p) (Err why) n = None
peek_of (Err why) at n = None

-- the command of a word and three numbers
abbrev pub peek_command : List ℕ → List ℕ → List ℕ → List ℕ → Option Command
peek_command w p at n = if bytes_eq w (codes "peek") then peek_of (number p) (address at) (number n) else None

-- the command, if the calling thread does it alone
abbrev pub alone : Option Command → Option Command
alone (Some (Command.Alone x)) = Some (Command.Alone x)
alone _ = None

-- a peek is of 1 to 256 bytes that end at or below 2 ^ 48
abbrev pub Looks : Option Command → Type 0
Looks (Some (Command.Peek asked)) = IsLook asked.addr asked.len
Looks _ = Unit {0}

-- the command is no peek
abbrev pub IsNoPeek : Option Command → Type 0
IsNoPeek (Some (Command.Peek asked)) = ⊥
IsNoPeek _ = Unit {0}

-- what the words ask for; none if they are none of the forms
abbrev pub command_of : List (List ℕ) → Option Command
command_of (w ∷ []) = plain_command w
command_of (w ∷ n ∷ []) = numbered_command w n
command_of (w ∷ p ∷ at ∷ n ∷ []) = peek_command w p at n
command_of _ = None
