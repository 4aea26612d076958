-- The lines of the texts that a report has: those of a script, and one of each entry.
use Rattle.std.proofs.Common.{◌≡◌, ℕ, suc, ◌+◌, Bool, true, false, cond, eqb, List, [], ◌∷◌, ◌++◌, length, map, refl, sym, ap, ◌∙◌, append_assoc, append-nil}
use Rattle.std.specs.Prelude.{codes}
use Rattle.std.specs.List.{list_all, flat_map, join_with_byte}
use Rattle.std.specs.Fmt.{decimal}
use Rattle.std.proofs.lemmas.Bool.{and_parts}
use Rattle.std.proofs.lemmas.List.Folds.{list_all-append, list_all-map}
use Rattle.hm_base.specs.Program.{Program}
use Rattle.hm_base.specs.declared.ops.Op.{Op}
use Rattle.hm_base.specs.declared.ops.Op.TheVariants.{Map, Unmap, Protect, Load, Store, Fork, Exit, Attach, Detach, DeviceLoad, DeviceStore, ToDevice, ToSystem, Snap, Evict, Remove, Exclusive, Add}
use Rattle.hm_base.specs.declared.ops.ScheduleLine.{ScheduleLine}
use Rattle.hm_base.specs.declared.ops.ScheduleLine.TheVariants.{Run, Drain}
use Rattle.hm_base.specs.declared.ops.Version.{Version}
use Rattle.hm_base.specs.declared.ops.Version.TheVariants.{One, Two}
use Rattle.hm_history.specs.declared.Entry.{Entry}
use Rattle.hm_script.specs.Automaton.{lines}
use Rattle.hm_script.specs.Spelling.{op_words, schedule_words, header_words, device_lines, skip_lines, actor_lines, script_lines, line, text}
use Rattle.hm_report.specs.Words.{actor_text, kind_words}
use Rattle.hm_report.specs.Report.{entry_line, entry_lines}
use Rattle.hm_report_front.specs.Parts.{is_script_line, entry_list}
use Rattle.hm_report_front.proofs.Cutting.{lines_whole}
use Rattle.hm_report_front.proofs.Words.{is_whole, are_whole, num, digits_whole, hex_whole, right_whole, kind_whole, join_whole}

pub lines_line : (ws : List (List ℕ)) (rest : List ℕ) → are_whole ws ≡ true → lines (line ws ++ rest) ≡ line ws ∷ lines rest
lines_line ws rest h = ap lines (append_assoc (join_with_byte 32 ws) (10 ∷ []) rest) ∙ lines_whole (join_with_byte 32 ws) rest (join_whole ws h)

-- ---- the script

-- what holds of every line that a script may have
pub record Each (p : List (List ℕ) → Bool) : Type 0 where
  pub header : (v : Version) → p (header_words v) ≡ true
  pub frames : (n : ℕ) → p (codes "frames" ∷ decimal n ∷ []) ≡ true
  pub device : (d n : ℕ) → p (codes "device" ∷ decimal d ∷ decimal n ∷ []) ≡ true
  pub skip : (m : ℕ) → p (codes "skip" ∷ decimal m ∷ []) ≡ true
  pub actor : (a : ℕ) → p (codes "actor" ∷ decimal a ∷ []) ≡ true
  pub op : (o : Op) → p (op_words o) ≡ true
  pub schedule : (l : ScheduleLine) → p (schedule_words l) ≡ true

module _ (p : List (List ℕ) → Bool) (each : Each p) where
  devices_all : (d : ℕ) (ns : List ℕ) → list_all p (device_lines d ns) ≡ true
  devices_all d [] = refl
  devices_all d (n ∷ ns) = rw (each.device d n, devices_all (d + 1) ns) refl

  skip_all : (m : ℕ) → list_all p (skip_lines m) ≡ true
  skip_all m = by (eqb m 0)
    where
      by : (t : Bool) → list_all p (cond t [] ((codes "skip" ∷ decimal m ∷ []) ∷ [])) ≡ true
      by true = refl
      by false = rw (each.skip m) refl

  ops_all : (os : List Op) → list_all p (map op_words os) ≡ true
  ops_all [] = refl
  ops_all (o ∷ os) = rw (each.op o, ops_all os) refl

  actors_all : (a : ℕ) (actors : List (List Op)) → list_all p (actor_lines a actors) ≡ true
  actors_all a [] = refl
  actors_all a (os ∷ actors) =
      let rest : list_all p (map op_words os ++ actor_lines (a + 1) actors) ≡ true = list_all-append p (map op_words os) (actor_lines (a + 1) actors) ∙ (rw (ops_all os, actors_all (a + 1) actors) refl) in
      rw (each.actor a, rest) refl

  schedule_all : (ls : List ScheduleLine) → list_all p (map schedule_words ls) ≡ true
  schedule_all [] = refl
  schedule_all (l ∷ ls) = rw (each.schedule l, schedule_all ls) refl

  pub script_all : (c : Program) → list_all p (script_lines c) ≡ true
  script_all c =
      let a = list_all-append p (actor_lines 0 c.actors) (map schedule_words c.schedule) ∙ (rw (actors_all 0 c.actors, schedule_all c.schedule) refl) in
      let s = list_all-append p (skip_lines c.skip) (actor_lines 0 c.actors ++ map schedule_words c.schedule) ∙ (rw (skip_all c.skip, a) refl) in
      let d = list_all-append p (device_lines 0 c.devices) (skip_lines c.skip ++ (actor_lines 0 c.actors ++ map schedule_words c.schedule)) ∙ (rw (devices_all 0 c.devices, s) refl) in
      rw (each.header c.version, each.frames c.frames, d) refl

op_whole : (o : Op) → are_whole (op_words o) ≡ true
op_whole (Map p s r) = rw (num p, num s.first, num s.count, right_whole r) refl
op_whole (Unmap p s) = rw (num p, num s.first, num s.count) refl
op_whole (Protect p s r) = rw (num p, num s.first, num s.count, right_whole r) refl
op_whole (Load p a n) = rw (num p, digits_whole 16 a, num n) refl
op_whole (Store p a b) = rw (num p, digits_whole 16 a, hex_whole b) refl
op_whole (Fork p c) = rw (num p, num c) refl
op_whole (Exit p) = rw (num p) refl
op_whole (Attach m d p s) = rw (num m, num d, num p, num s.first, num s.count) refl
op_whole (Detach m) = rw (num m) refl
op_whole (DeviceLoad m a n) = rw (num m, digits_whole 16 a, num n) refl
op_whole (DeviceStore m a b) = rw (num m, digits_whole 16 a, hex_whole b) refl
op_whole (ToDevice m s) = rw (num m, num s.first, num s.count) refl
op_whole (ToSystem m s) = rw (num m, num s.first, num s.count) refl
op_whole (Snap m s) = rw (num m, num s.first, num s.count) refl
op_whole (Evict d) = rw (num d) refl
op_whole (Remove d) = rw (num d) refl
op_whole (Exclusive m v) = rw (num m, num v) refl
op_whole (Add m a k) = rw (num m, digits_whole 16 a, num k) refl

header_whole : (v : Version) → are_whole (header_words v) ≡ true
header_whole One = refl
header_whole Two = refl

schedule_whole : (l : ScheduleLine) → are_whole (schedule_words l) ≡ true
schedule_whole (Run a k) = rw (num a, num k) refl
schedule_whole Drain = refl

each_whole : Each are_whole
each_whole = record {
  header = header_whole;
  frames = λ n. rw (num n) refl;
  device = λ d n. rw (num d, num n) refl;
  skip = λ m. rw (num m) refl;
  actor = λ a. rw (num a) refl;
  op = op_whole;
  schedule = schedule_whole;
}

-- the line is not `history`
abbrev is_other : List (List ℕ) → Bool
is_other ws = is_script_line (line ws)

op_other : (o : Op) → is_other (op_words o) ≡ true
op_other (Map p s r) = refl
op_other (Unmap p s) = refl
op_other (Protect p s r) = refl
op_other (Load p a n) = refl
op_other (Store p a b) = refl
op_other (Fork p c) = refl
op_other (Exit p) = refl
op_other (Attach m d p s) = refl
op_other (Detach m) = refl
op_other (DeviceLoad m a n) = refl
op_other (DeviceStore m a b) = refl
op_other (ToDevice m s) = refl
op_other (ToSystem m s) = refl
op_other (Snap m s) = refl
op_other (Evict d) = refl
op_other (Remove d) = refl
op_other (Exclusive m v) = refl
op_other (Add m a k) = refl

header_other : (v : Version) → is_other (header_words v) ≡ true
header_other One = refl
header_other Two = refl

schedule_other : (l : ScheduleLine) → is_other (schedule_words l) ≡ true
schedule_other (Run a k) = refl
schedule_other Drain = refl

each_other : Each is_other
each_other = record {
  header = header_other;
  frames = λ n. refl;
  device = λ d n. refl;
  skip = λ m. refl;
  actor = λ a. refl;
  op = op_other;
  schedule = schedule_other;
}

lines_of : (wss : List (List (List ℕ))) (rest : List ℕ) → list_all are_whole wss ≡ true → lines (flat_map line wss ++ rest) ≡ map line wss ++ lines rest
lines_of [] rest h = refl
lines_of (ws ∷ wss) rest h =
    let parts = and_parts (are_whole ws) (list_all are_whole wss) h in
    ap lines (append_assoc (line ws) (flat_map line wss) rest) ∙ lines_line ws (flat_map line wss ++ rest) parts.0 ∙ ap (λ (z : List (List ℕ)). line ws ∷ z) (lines_of wss rest parts.1)

script_lines_are : (c : Program) → lines (text c) ≡ map line (script_lines c)
script_lines_are c = ap lines (sym (append-nil (text c))) ∙ lines_of (script_lines c) [] (script_all are_whole each_whole c) ∙ append-nil (map line (script_lines c))

-- the lines of a script, and more
pub lines_text : (c : Program) (rest : List ℕ) → lines (text c ++ rest) ≡ lines (text c) ++ lines rest
lines_text c rest = lines_of (script_lines c) rest (script_all are_whole each_whole c) ∙ ap (λ (z : List (List ℕ)). z ++ lines rest) (sym (script_lines_are c))

-- no line of a script is `history`
pub script_none : (c : Program) → list_all is_script_line (lines (text c)) ≡ true
script_none c = ap (list_all is_script_line) (script_lines_are c) ∙ list_all-map is_script_line line (script_lines c) ∙ script_all is_other each_other c

-- ---- the entries

entry_whole : (at : ℕ) (e : Entry) → are_whole (decimal at ∷ actor_text e.actor ∷ kind_words e.kind) ≡ true
entry_whole at e = rw (num at, num e.actor, kind_whole e.kind) refl

pub lines_entries : (at : ℕ) (h : List Entry) (rest : List ℕ) → lines (entry_lines at h ++ rest) ≡ entry_list at h ++ lines rest
lines_entries at [] rest = refl
lines_entries at (e ∷ h) rest =
    ap lines (append_assoc (entry_line at e) (entry_lines (at + 1) h) rest) ∙ lines_line (decimal at ∷ actor_text e.actor ∷ kind_words e.kind) (entry_lines (at + 1) h ++ rest) (entry_whole at e)
    ∙ ap (λ (z : List (List ℕ)). entry_line at e ∷ z) (lines_entries (at + 1) h rest)

pub entry_list_length : (at : ℕ) (h : List Entry) → length (entry_list at h) ≡ length h
entry_list_length at [] = refl
entry_list_length at (e ∷ h) = ap suc (entry_list_length (at + 1) h)
