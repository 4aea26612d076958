-- A script of version 2 with the same operations.
use Rattle.std.proofs.Common.{◌≡◌, ℕ, true, List, [], ◌∷◌, ◌++◌, drop, refl}
use Rattle.std.specs.List.{list_all}
use Rattle.hm_base.specs.Program.{Program, IsScript, op_of_version}
use Rattle.hm_base.specs.declared.ops.Op.{Op}
use Rattle.hm_base.specs.declared.ops.Version.{Version}
use Rattle.hm_base.specs.declared.ops.Version.TheVariants.{One, Two}
use Rattle.hm_script.specs.Spelling.{line, text, header_words}

all_of_two : (ops : List Op) → list_all (op_of_version Two) ops ≡ true
all_of_two [] = refl
all_of_two (op ∷ ops) = all_of_two ops

each_of_two : (actors : List (List Op)) → list_all (list_all (op_of_version Two)) actors ≡ true
each_of_two [] = refl
each_of_two (ops ∷ actors) = rw (all_of_two ops, each_of_two actors) refl

pub upgraded : (s : Program) → IsScript s → IsScript (record s { version = Two })
upgraded s h = record { frames = h.frames; devices = h.devices; few_devices = h.few_devices; skip = h.skip; few_actors = h.few_actors; ops = h.ops; few_ops = h.few_ops; schedule = h.schedule; few_lines = h.few_lines; version = each_of_two s.actors }

by_version : (v : Version) (rest : List ℕ) → line (header_words Two) ++ rest ≡ line (header_words Two) ++ drop 6 (line (header_words v) ++ rest)
by_version One rest = refl
by_version Two rest = refl

pub upgraded_text : (s : Program) → text (record s { version = Two }) ≡ line (header_words Two) ++ drop 6 (text s)
upgraded_text s = by_version s.version _
