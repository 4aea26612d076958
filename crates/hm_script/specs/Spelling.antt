-- The one text of each script: its lines, and the words of each line.
use Rattle.std.specs.Prelude.{ℕ, false, ◌+◌, ◌/◌, ◌%◌, ◌==◌, if◌then◌else◌, List, [], ◌∷◌, ◌++◌, map, codes}
use Rattle.std.specs.List.{flat_map, join_with_byte}
use Rattle.std.specs.Fmt.{decimal, digits, digit_glyph}
use Rattle.hm_base.specs.Program.{Program}
use Rattle.hm_base.specs.declared.ops.Rights.{Rights}
use Rattle.hm_base.specs.declared.ops.Rights.TheVariants.{Read, ReadWrite}
use Rattle.hm_base.specs.declared.ops.Op.{Op}
use Rattle.hm_base.specs.declared.ops.Op.TheVariants.{Map, Unmap, Protect, Load, Store, Fork, Exit, Attach, Detach}
use Rattle.hm_base.specs.declared.ops.Op.TheVariants.{DeviceLoad, DeviceStore, ToDevice, ToSystem, Snap, Evict, Remove}
use Rattle.hm_base.specs.declared.ops.Op.TheVariants.{Exclusive, Add}
use Rattle.hm_base.specs.declared.ops.ScheduleLine.{ScheduleLine}
use Rattle.hm_base.specs.declared.ops.ScheduleLine.TheVariants.{Run, Drain}
use Rattle.hm_base.specs.declared.ops.Version.{Version}
use Rattle.hm_base.specs.declared.ops.Version.TheVariants.{One, Two}

-- ---- words

-- `0x` and hexadecimal digits without leading zeros
abbrev pub address_text : ℕ → List ℕ
address_text a = 48 ∷ 120 ∷ digits 16 false a

-- two digits for each byte
abbrev pub hex_text : List ℕ → List ℕ
hex_text bytes = flat_map (λ b. digit_glyph false (b / 16) ∷ digit_glyph false (b % 16) ∷ []) bytes

-- the word of a right
abbrev pub right_text : Rights → List ℕ
right_text Read = codes "r"
right_text ReadWrite = codes "rw"

-- the words of an operation's line: its keyword, then its numbers in the order of the type's fields
abbrev pub op_words : Op → List (List ℕ)
op_words (Map p s r) = codes "map" ∷ decimal p ∷ decimal s.first ∷ decimal s.count ∷ right_text r ∷ []
op_words (Unmap p s) = codes "unmap" ∷ decimal p ∷ decimal s.first ∷ decimal s.count ∷ []
op_words (Protect p s r) = codes "protect" ∷ decimal p ∷ decimal s.first ∷ decimal s.count ∷ right_text r ∷ []
op_words (Load p a n) = codes "load" ∷ decimal p ∷ address_text a ∷ decimal n ∷ []
op_words (Store p a b) = codes "store" ∷ decimal p ∷ address_text a ∷ hex_text b ∷ []
op_words (Fork p c) = codes "fork" ∷ decimal p ∷ decimal c ∷ []
op_words (Exit p) = codes "exit" ∷ decimal p ∷ []
op_words (Attach m d p s) =
    codes "attach" ∷ decimal m ∷ decimal d ∷ decimal p ∷ decimal s.first ∷ decimal s.count ∷ []
op_words (Detach m) = codes "detach" ∷ decimal m ∷ []
op_words (DeviceLoad m a n) = codes "dload" ∷ decimal m ∷ address_text a ∷ decimal n ∷ []
op_words (DeviceStore m a b) = codes "dstore" ∷ decimal m ∷ address_text a ∷ hex_text b ∷ []
op_words (ToDevice m s) = codes "todev" ∷ decimal m ∷ decimal s.first ∷ decimal s.count ∷ []
op_words (ToSystem m s) = codes "tosys" ∷ decimal m ∷ decimal s.first ∷ decimal s.count ∷ []
op_words (Snap m s) = codes "snap" ∷ decimal m ∷ decimal s.first ∷ decimal s.count ∷ []
op_words (Evict d) = codes "evict" ∷ decimal d ∷ []
op_words (Remove d) = codes "remove" ∷ decimal d ∷ []
op_words (Exclusive m v) = codes "exclusive" ∷ decimal m ∷ decimal v ∷ []
op_words (Add m a k) = codes "dadd" ∷ decimal m ∷ address_text a ∷ decimal k ∷ []

-- the words of a line of the schedule
abbrev pub schedule_words : ScheduleLine → List (List ℕ)
schedule_words (Run a k) = codes "turns" ∷ decimal a ∷ decimal k ∷ []
schedule_words Drain = codes "drain" ∷ []

-- ---- lines, each as the list of its words

-- the words of the first line, which tells the version
abbrev pub header_words : Version → List (List ℕ)
header_words One = codes "hmm" ∷ codes "1" ∷ []
header_words Two = codes "hmm" ∷ codes "2" ∷ []

-- the devices in order, from this number on
abbrev pub device_lines : ℕ → List ℕ → List (List (List ℕ))
device_lines d [] = []
device_lines d (n ∷ ns) = (codes "device" ∷ decimal d ∷ decimal n ∷ []) ∷ device_lines (d + 1) ns

-- the line of the skip number; a script whose number is 0 has none
abbrev pub skip_lines : ℕ → List (List (List ℕ))
skip_lines m = if m == 0 then [] else (codes "skip" ∷ decimal m ∷ []) ∷ []

-- the actors in order, from this number on, each with its operations
abbrev pub actor_lines : ℕ → List (List Op) → List (List (List ℕ))
actor_lines a [] = []
actor_lines a (ops ∷ actors) = (codes "actor" ∷ decimal a ∷ []) ∷ (map op_words ops ++ actor_lines (a + 1) actors)

-- the words of all lines of a script, in the order of the grammar's parts
abbrev pub script_lines : Program → List (List (List ℕ))
script_lines s = header_words s.version ∷ (codes "frames" ∷ decimal s.frames ∷ [])
    ∷ (device_lines 0 s.devices ++ (skip_lines s.skip ++ (actor_lines 0 s.actors ++ map schedule_words s.schedule)))

-- one space between words, and a line feed
abbrev pub line : List (List ℕ) → List ℕ
line words = join_with_byte 32 words ++ 10 ∷ []

-- the one text of a script, byte for byte
abbrev pub text : Program → List ℕ
text s = flat_map line (script_lines s)
