-- The first words of lines.
use Rattle.std.specs.Prelude.{ℕ, Bool, true, false, if◌then◌else◌, List, [], ◌∷◌, Option, Some, codes}
use Rattle.std.specs.Option.{option_map}
use Rattle.std.specs.List.{find}
use Rattle.std.specs.Str.{bytes_eq}
use Rattle.hm_script.specs.declared.keyword.OpWord.{OpWord}
use Rattle.hm_script.specs.declared.keyword.OpWord.TheVariants.{Map, Unmap, Protect, Load, Store, Fork, Exit, Attach}
use Rattle.hm_script.specs.declared.keyword.OpWord.TheVariants.{Detach, DeviceLoad, DeviceStore, ToDevice, ToSystem}
use Rattle.hm_script.specs.declared.keyword.OpWord.TheVariants.{Snap, Evict, Remove, Exclusive, Add}
use Rattle.hm_script.specs.declared.keyword.Keyword.{Keyword}
use Rattle.hm_script.specs.declared.keyword.Keyword.TheVariants.{Frames, Device, Skip, Actor, Turns, Drain, Op}

-- the word that a line of this operation begins with
abbrev pub op_text : OpWord → List ℕ
op_text Map = codes "map"
op_text Unmap = codes "unmap"
op_text Protect = codes "protect"
op_text Load = codes "load"
op_text Store = codes "store"
op_text Fork = codes "fork"
op_text Exit = codes "exit"
op_text Attach = codes "attach"
op_text Detach = codes "detach"
op_text DeviceLoad = codes "dload"
op_text DeviceStore = codes "dstore"
op_text ToDevice = codes "todev"
op_text ToSystem = codes "tosys"
op_text Snap = codes "snap"
op_text Evict = codes "evict"
op_text Remove = codes "remove"
op_text Exclusive = codes "exclusive"
op_text Add = codes "dadd"

-- every operation's word, in the order in which a keyword is looked for
abbrev pub all_ops : List OpWord
all_ops =
    Map
    ∷ Unmap
    ∷ Protect
    ∷ Load
    ∷ Store
    ∷ Fork
    ∷ Exit
    ∷ Attach
    ∷ Detach
    ∷ DeviceLoad
    ∷ DeviceStore
    ∷ ToDevice
    ∷ ToSystem
    ∷ Snap
    ∷ Evict
    ∷ Remove
    ∷ Exclusive
    ∷ Add
    ∷ []

-- the operation that the word names
unfoldable pub op_named : List ℕ → Option OpWord
op_named word = find (λ op. bytes_eq (op_text op) word) all_ops

unfoldable pub keyword_named : List ℕ → Option Keyword
keyword_named word = if bytes_eq word (codes "frames") then Some Frames
    else (if bytes_eq word (codes "device") then Some Device
    else (if bytes_eq word (codes "skip") then Some Skip
    else (if bytes_eq word (codes "actor") then Some Actor
    else (if bytes_eq word (codes "turns") then Some Turns
    else (if bytes_eq word (codes "drain") then Some Drain
    else option_map Op (op_named word))))))

-- an operation's line
abbrev pub is_op : Keyword → Bool
is_op (Op op) = true
is_op _ = false
