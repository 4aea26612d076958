-- Scripts that use only the words of a set.
use Rattle.std.specs.Prelude.{◌≡◌, Bool, true, false, ◌||◌, not, List, [], ◌∷◌, length, nat_le, ◌==◌}
use Rattle.std.specs.List.{list_all}
use Rattle.hm_base.specs.Program.{Program, run_lines, is_version_two}
use Rattle.hm_base.specs.declared.ops.Op.{Op}
use Rattle.hm_base.specs.declared.ops.Op.TheVariants.{Map, Unmap, Protect, Load, Store, Fork, Exit, Attach, Detach}
use Rattle.hm_base.specs.declared.ops.Op.TheVariants.{DeviceLoad, DeviceStore, ToDevice, ToSystem, Snap, Evict, Remove}
use Rattle.hm_base.specs.declared.ops.Op.TheVariants.{Exclusive, Add}
use Rattle.hm_base.specs.declared.ops.ScheduleLine.{ScheduleLine}
use Rattle.hm_base.specs.declared.ops.ScheduleLine.TheVariants.{Run, Drain}
use Rattle.hm_base.specs.declared.ops.Version.{Version}
use Rattle.hm_script.specs.declared.keyword.OpWord.{OpWord}
use Rattle.hm_script.specs.declared.keyword.OpWord.TheVariants as word_of
use Rattle.hm_script.specs.declared.words.Words.{Words}

-- the whole grammar, of both versions
abbrev pub every_word : Words
every_word = record {
  map = true;
  unmap = true;
  protect = true;
  load = true;
  store = true;
  fork = true;
  exit = true;
  attach = true;
  detach = true;
  device_load = true;
  device_store = true;
  to_device = true;
  to_system = true;
  snap = true;
  evict = true;
  remove = true;
  exclusive = true;
  add = true;
  skip = true;
  drain = true;
  version_two = true;
  several_actors = true;
  several_turns = true;
}

-- the word of an operation
abbrev pub op_word : Op → OpWord
op_word (Map p s r) = word_of.Map
op_word (Unmap p s) = word_of.Unmap
op_word (Protect p s r) = word_of.Protect
op_word (Load p a n) = word_of.Load
op_word (Store p a b) = word_of.Store
op_word (Fork p c) = word_of.Fork
op_word (Exit p) = word_of.Exit
op_word (Attach m d p s) = word_of.Attach
op_word (Detach m) = word_of.Detach
op_word (DeviceLoad m a n) = word_of.DeviceLoad
op_word (DeviceStore m a b) = word_of.DeviceStore
op_word (ToDevice m s) = word_of.ToDevice
op_word (ToSystem m s) = word_of.ToSystem
op_word (Snap m s) = word_of.Snap
op_word (Evict d) = word_of.Evict
op_word (Remove d) = word_of.Remove
op_word (Exclusive m v) = word_of.Exclusive
op_word (Add m a k) = word_of.Add

-- the set has the operation's word; reading a line asks it for the word that stands there
abbrev pub has_op : Words → OpWord → Bool
has_op w word_of.Map = w.map
has_op w word_of.Unmap = w.unmap
has_op w word_of.Protect = w.protect
has_op w word_of.Load = w.load
has_op w word_of.Store = w.store
has_op w word_of.Fork = w.fork
has_op w word_of.Exit = w.exit
has_op w word_of.Attach = w.attach
has_op w word_of.Detach = w.detach
has_op w word_of.DeviceLoad = w.device_load
has_op w word_of.DeviceStore = w.device_store
has_op w word_of.ToDevice = w.to_device
has_op w word_of.ToSystem = w.to_system
has_op w word_of.Snap = w.snap
has_op w word_of.Evict = w.evict
has_op w word_of.Remove = w.remove
has_op w word_of.Exclusive = w.exclusive
has_op w word_of.Add = w.add

-- the set has the word that the operation is written with
abbrev pub uses : Words → Op → Bool
uses w op = has_op w (op_word op)

-- the schedule has a `drain`, which a set of words may lack
abbrev pub has_drain : List ScheduleLine → Bool
has_drain [] = false
has_drain (Drain ∷ ls) = true
has_drain (Run a k ∷ ls) = has_drain ls

-- the operations that version 1 has not
abbrev pub is_new_word : OpWord → Bool
is_new_word word_of.Exclusive = true
is_new_word word_of.Add = true
is_new_word _ = false

-- version 2 has every word; version 1 lacks the later ones
abbrev pub word_of_version : Version → OpWord → Bool
word_of_version v op = is_version_two v || not (is_new_word op)

-- the script uses only the words of the set
pub record IsBuilt (w : Words) (s : Program) : Type 0 where
  pub ops : list_all (list_all (uses w)) s.actors ≡ true
  pub skip : (w.skip || (s.skip == 0)) ≡ true
  pub drain : (w.drain || not (has_drain s.schedule)) ≡ true
  pub version : (w.version_two || not (is_version_two s.version)) ≡ true
  pub actors : (w.several_actors || nat_le (length s.actors) 1) ≡ true
  pub turns : (w.several_turns || nat_le (run_lines s.schedule) 1) ≡ true
