-- The text of a script is read as that script.
use Rattle.std.proofs.Common.{◌≡◌, ℕ, suc, ◌+◌, ◌^◌, ◌<◌, ◌≤◌, Bool, true, false, ◌&&◌, ◌||◌, not, cond, eqb, List, [], ◌∷◌, ◌++◌, length, map, Some, Result, Ok, refl, sym, ap, subst, ◌∙◌, arith, append_assoc, append-nil, length-append}
use Rattle.std.specs.Prelude.{codes, nat_lt, nat_le}
use Rattle.std.specs.List.{list_all, join_with_byte}
use Rattle.std.specs.Fmt.{decimal}
use Rattle.std.proofs.lemmas.Bool.{false≢true, lt-ltb, le-leb, eq-eqb, eqb-true, ltb-true, leb-true, and_parts}
use Rattle.std.proofs.lemmas.Bool.Decides.{nat_tests}
use Rattle.std.proofs.lemmas.List.{length_push}
use Rattle.hm_base.specs.Program.{Program, IsScript, op_fits, op_of_version, is_version_two, run_lines, operation_count, add_to_last, schedule_fits}
use Rattle.hm_base.specs.declared.ops.Op.{Op}
use Rattle.hm_base.specs.declared.ops.Version.{Version}
use Rattle.hm_base.specs.declared.ops.Version.TheVariants.{One, Two}
use Rattle.hm_base.specs.declared.ops.ScheduleLine.{ScheduleLine}
use Rattle.hm_base.specs.declared.ops.ScheduleLine.TheVariants.{Run}
use Rattle.hm_base.specs.declared.ops.ScheduleLine.TheVariants as schedule
use Rattle.hm_script.specs.declared.keyword.OpWord.{OpWord}
use Rattle.hm_script.specs.declared.keyword.OpWord.TheVariants as word_of
use Rattle.hm_script.specs.declared.keyword.Keyword.{Keyword}
use Rattle.hm_script.specs.declared.keyword.Keyword.TheVariants as keyword
use Rattle.hm_script.specs.declared.part.Part.{Part}
use Rattle.hm_script.specs.declared.part.Part.TheVariants.{Headed, Devices, Skipped, Actors, Turns, Drained}
use Rattle.hm_script.specs.declared.reason.Reason.{Reason}
use Rattle.hm_script.specs.declared.reason.Reason.TheVariants.{Range, Undeclared, Limit}
use Rattle.hm_script.specs.Gives.{◌>>=◌}
use Rattle.hm_script.specs.Splitting.{word}
use Rattle.hm_script.specs.Spelling.{line, text, header_words, op_words, schedule_words, device_lines, skip_lines, actor_lines, script_lines}
use Rattle.hm_script.specs.Keywords.{op_text, op_named, keyword_named}
use Rattle.hm_script.specs.Numerals.{number}
use Rattle.hm_script.specs.Reading.{demand}
use Rattle.hm_script.specs.declared.words.Words.{Words}
use Rattle.hm_script.specs.Built.{IsBuilt, op_word, uses, has_drain, word_of_version}
use Rattle.hm_script.specs.Automaton.{State, state, start, allows, permits, keyword_at, step, line_text, version_named, read_header, read_text, is_start, next, finish, run, reading}
use Rattle.hm_script.proofs.Counts.{run_lines_run}
use Rattle.hm_script.proofs.Readers.{Fits64, numbers}
use Rattle.hm_script.proofs.Steps.{shape_met, one-again, two-again, one-plain, two-plain}
use Rattle.hm_script.proofs.Ops.{op-again, op-word, new-word}
use Rattle.hm_script.proofs.Taken.{headed}
use Rattle.hm_script.proofs.LinesAgain.{AreWords, AreLines, split-join, printable-join, line_text-again, lines-text}

abbrev Line : Type 0
Line = List (List ℕ)

-- ---- keywords

keyword_again : (set : Words) (p : Part) (s : Program) (w : List ℕ) (k : Keyword) → keyword_named w ≡ Some k → allows p k ≡ true → permits set s k ≡ true → keyword_at set (state p s) w ≡ Ok k
unfolding keyword_at
keyword_again set p s w k n a m = rw (n, a, m) refl

frames_named : keyword_named (codes "frames") ≡ Some keyword.Frames
unfolding keyword_named
frames_named = refl

device_named : keyword_named (codes "device") ≡ Some keyword.Device
unfolding keyword_named
device_named = refl

skip_named : keyword_named (codes "skip") ≡ Some keyword.Skip
unfolding keyword_named
skip_named = refl

actor_named : keyword_named (codes "actor") ≡ Some keyword.Actor
unfolding keyword_named
actor_named = refl

turns_named : keyword_named (codes "turns") ≡ Some keyword.Turns
unfolding keyword_named
turns_named = refl

drain_named : keyword_named (codes "drain") ≡ Some keyword.Drain
unfolding keyword_named
drain_named = refl

op_named_again : (op : OpWord) → keyword_named (op_text op) ≡ Some (keyword.Op op)
unfolding keyword_named op_named
op_named_again word_of.Map = refl
op_named_again word_of.Unmap = refl
op_named_again word_of.Protect = refl
op_named_again word_of.Load = refl
op_named_again word_of.Store = refl
op_named_again word_of.Fork = refl
op_named_again word_of.Exit = refl
op_named_again word_of.Attach = refl
op_named_again word_of.Detach = refl
op_named_again word_of.DeviceLoad = refl
op_named_again word_of.DeviceStore = refl
op_named_again word_of.ToDevice = refl
op_named_again word_of.ToSystem = refl
op_named_again word_of.Snap = refl
op_named_again word_of.Evict = refl
op_named_again word_of.Remove = refl
op_named_again word_of.Exclusive = refl
op_named_again word_of.Add = refl

-- ---- lines that lead from one state to another

abbrev pub Leads : Words → State → List Line → State → Type 0
Leads set t [] u = t ≡ u
Leads set t (ws ∷ wss) u = (m : State) × AreWords ws × (next set t (line ws) ≡ Ok m) × Leads set m wss u

leads-append : (set : Words) (t m u : State) (xs ys : List Line) → Leads set t xs m → Leads set m ys u → Leads set t (xs ++ ys) u
leads-append set t m u [] ys h k = subst (λ (x : State). Leads set x ys u) (sym h) k
leads-append set t m u (ws ∷ xs) ys h k = (h.0, h.1, h.2, leads-append set h.0 m u xs ys h.3 k)

pub leads-lines : (set : Words) (t u : State) (wss : List Line) → Leads set t wss u → AreLines wss
leads-lines set t u [] h = tt
leads-lines set t u (ws ∷ wss) h = (h.1, leads-lines set h.0 u wss h.3)

run_leads : (set : Words) (n : ℕ) (t u : State) (wss : List Line) (x : Program) → Leads set t wss u → ((k : ℕ) → finish k u ≡ Ok x) → run set n t (map line wss) ≡ Ok x
unfolding run
run_leads set n t u [] x h f = rw h (f n)
run_leads set n t u (ws ∷ wss) x h f = rw h.2 (run_leads set (n + 1) h.0 u wss x h.3 f)

next_line : (set : Words) (p : Part) (s : Program) (ws : Line) (k : Keyword) (t : State) → is_start p ≡ false → AreWords ws → keyword_at set (state p s) (word 0 ws) ≡ Ok k → step k (state p s) ws ≡ Ok t → next set (state p s) (line ws) ≡ Ok t
unfolding next read_text
next_line set p s ws k t b h named e =
    rw (line_text-again (join_with_byte 32 ws) (printable-join ws h.1), b, split-join ws h, named, e) refl

leads_one : (set : Words) (p : Part) (s : Program) (ws : Line) (k : Keyword) (t : State) → is_start p ≡ false → AreWords ws → keyword_at set (state p s) (word 0 ws) ≡ Ok k → step k (state p s) ws ≡ Ok t → Leads set (state p s) (ws ∷ []) t
leads_one set p s ws k t b h named e = (t, h, next_line set p s ws k t b h named e, refl)

-- a part that actors, schedule lines and the end may follow
pub record IsOpen (p : Part) : Type 0 where
  pub actor : allows p keyword.Actor ≡ true
  pub turns : allows p keyword.Turns ≡ true
  pub drain : allows p keyword.Drain ≡ true
  pub begun : is_start p ≡ false
  pub ends : (k : ℕ) (s : Program) → finish k (state p s) ≡ Ok s

devices_open : IsOpen Devices
devices_open = record { actor = refl; turns = refl; drain = refl; begun = refl; ends = λ k s. refl }

skipped_open : IsOpen Skipped
skipped_open = record { actor = refl; turns = refl; drain = refl; begun = refl; ends = λ k s. refl }

actors_open : IsOpen Actors
actors_open = record { actor = refl; turns = refl; drain = refl; begun = refl; ends = λ k s. refl }

-- ---- devices

abbrev with_devices : Version → ℕ → List ℕ → Program
with_devices v f ds = record { version = v; frames = f; devices = ds; skip = 0; actors = []; schedule = [] }

eqb-self : (n : ℕ) → eqb n n ≡ true
eqb-self n = eq-eqb n n refl

device_again : (set : Words) (v : Version) (f : ℕ) (ds : List ℕ) (n : ℕ) → length ds < 4 → nat_le n 8192 ≡ true → Leads set (state Devices (with_devices v f ds)) ((codes "device" ∷ decimal (length ds) ∷ decimal n ∷ []) ∷ []) (state Devices (with_devices v f (ds ++ n ∷ [])))
unfolding step
device_again set v f ds n few small =
    let d : ℕ = length ds in
    let make : ℕ → ℕ → Result State Reason = λ d n. demand ((eqb d (length ds)) && (nat_lt d 4 && nat_le n 8192)) Range >>= λ _. Ok (state Devices (with_devices v f (ds ++ n ∷ []))) in
    let le : n ≤ 8192 = leb-true n 8192 small in
    leads_one set Devices (with_devices v f ds) _ keyword.Device _ refl (omega arith, two-plain number decimal Fits64 numbers number decimal Fits64 numbers make (codes "device") d n refl (omega arith) (omega arith)) (keyword_again set Devices (with_devices v f ds) (codes "device") keyword.Device device_named refl refl)
    (two-again number decimal Fits64 numbers number decimal Fits64 numbers make (codes "device") d n refl (omega arith) (omega arith) ∙ (let t = lt-ltb d 4 few in rw (eqb-self d, t, small) refl))

leads_devices : (set : Words) (v : Version) (f : ℕ) (ds ns : List ℕ) → length ds + length ns ≤ 4 → list_all (λ n. nat_le n 8192) ns ≡ true → Leads set (state Devices (with_devices v f ds)) (device_lines (length ds) ns) (state Devices (with_devices v f (ds ++ ns)))
leads_devices set v f ds [] few small = ap (λ (x : List ℕ). state Devices (with_devices v f x)) (sym (append-nil ds))
leads_devices set v f ds (n ∷ ns) few small =
    let rest = leads_devices set v f (ds ++ n ∷ []) ns (omega (arith, length-append ds (n ∷ []))) (and_parts (nat_le n 8192) (list_all (λ m. nat_le m 8192) ns) small).1 in
    let one = device_again set v f ds n (omega arith) (and_parts (nat_le n 8192) (list_all (λ m. nat_le m 8192) ns) small).0 in
    let at : length (ds ++ n ∷ []) ≡ length ds + 1 = length_push ds n in
    let end : (ds ++ n ∷ []) ++ ns ≡ ds ++ n ∷ ns = append_assoc ds (n ∷ []) ns in
    leads-append set _ (state Devices (with_devices v f (ds ++ n ∷ []))) _ ((codes "device" ∷ decimal (length ds) ∷ decimal n ∷ []) ∷ []) (device_lines (length ds + 1) ns) one
    (subst (λ (k : ℕ). Leads set (state Devices (with_devices v f (ds ++ n ∷ []))) (device_lines k ns) (state Devices (with_devices v f (ds ++ n ∷ ns)))) at (subst (λ (x : List ℕ). Leads set (state Devices (with_devices v f (ds ++ n ∷ []))) (device_lines (length (ds ++ n ∷ [])) ns) (state Devices (with_devices v f x))) end rest))

-- ---- skip

abbrev with_skip : Version → ℕ → List ℕ → ℕ → Program
with_skip v f ds m = record { version = v; frames = f; devices = ds; skip = m; actors = []; schedule = [] }

-- a part that stays open, and what leads there
pub record Opens (set : Words) (t : State) (wss : List Line) (s : Program) : Type 0 where
  pub part : Part
  pub is_open : IsOpen part
  pub leads : Leads set t wss (state part s)

skip_again : (set : Words) (v : Version) (f : ℕ) (ds : List ℕ) (m : ℕ) → set.skip ≡ true → 1 ≤ m → m ≤ 2 ^ 36 → Leads set (state Devices (with_devices v f ds)) ((codes "skip" ∷ decimal m ∷ []) ∷ []) (state Skipped (with_skip v f ds m))
unfolding step
skip_again set v f ds m has some small =
    let make : ℕ → Result State Reason = λ m. demand (nat_le 1 m && nat_le m (2 ^ 36)) Range >>= λ _. Ok (state Skipped (with_skip v f ds m)) in
    leads_one set Devices (with_devices v f ds) _ keyword.Skip _ refl (omega arith, one-plain number decimal Fits64 numbers make (codes "skip") m refl (omega arith)) (keyword_again set Devices (with_devices v f ds) (codes "skip") keyword.Skip skip_named refl has)
    (one-again number decimal Fits64 numbers make (codes "skip") m refl (omega arith) ∙ (let a = le-leb 1 m some in let b = le-leb m (2 ^ 36) small in rw (a, b) refl))

left_of : (a b : Bool) → b ≡ false → (a || b) ≡ true → a ≡ true
left_of true b e h = refl
left_of false b e h = absurd (false≢true (sym e ∙ h))

some_from : (m : ℕ) → eqb m 0 ≡ false → 1 ≤ m
some_from m e = grind (arith, nat_tests)

opens_skip : (set : Words) (v : Version) (f : ℕ) (ds : List ℕ) (m : ℕ) → (set.skip || eqb m 0) ≡ true → m ≤ 2 ^ 36 → Opens set (state Devices (with_devices v f ds)) (skip_lines m) (with_skip v f ds m)
opens_skip set v f ds m has small = by (eqb m 0) refl
  where
    by : (b : Bool) → eqb m 0 ≡ b → Opens set (state Devices (with_devices v f ds)) (cond b [] ((codes "skip" ∷ decimal m ∷ []) ∷ [])) (with_skip v f ds m)
    by true e = record { part = Devices; is_open = devices_open; leads = ap (λ (k : ℕ). state Devices (with_skip v f ds k)) (sym (eqb-true m 0 e)) }
    by false e = record { part = Skipped; is_open = skipped_open; leads = skip_again set v f ds m (left_of set.skip (eqb m 0) e has) (some_from m e) small }

-- ---- actors and operations

abbrev with_actors : Program → List (List Op) → Program
with_actors s ls = record s { actors = ls }

count-append : (xs ys : List (List Op)) → operation_count (xs ++ ys) ≡ operation_count xs + operation_count ys
count-append [] ys = omega arith
count-append (x ∷ xs) ys = omega (arith, count-append xs ys)

add_at_end : (xs : List (List Op)) (l : List Op) (op : Op) → add_to_last (xs ++ l ∷ []) op ≡ xs ++ (l ++ op ∷ []) ∷ []
add_at_end [] l op = refl
add_at_end (x ∷ []) l op = refl
add_at_end (x ∷ y ∷ xs) l op = ap (λ (t : List (List Op)). x ∷ t) (add_at_end (y ∷ xs) l op)

first_word : (ws : Line) (t : List ℕ) → word 0 ws ≡ t → 0 < length t → 0 < length ws
first_word [] t e some = absurd (omega (arith, ap length e))
first_word (w ∷ ws) t e some = omega arith

text_some : (w : OpWord) → 0 < length (op_text w)
text_some word_of.Map = omega arith
text_some word_of.Unmap = omega arith
text_some word_of.Protect = omega arith
text_some word_of.Load = omega arith
text_some word_of.Store = omega arith
text_some word_of.Fork = omega arith
text_some word_of.Exit = omega arith
text_some word_of.Attach = omega arith
text_some word_of.Detach = omega arith
text_some word_of.DeviceLoad = omega arith
text_some word_of.DeviceStore = omega arith
text_some word_of.ToDevice = omega arith
text_some word_of.ToSystem = omega arith
text_some word_of.Snap = omega arith
text_some word_of.Evict = omega arith
text_some word_of.Remove = omega arith
text_some word_of.Exclusive = omega arith
text_some word_of.Add = omega arith

some_words : (op : Op) → 0 < length (op_words op)
some_words op = first_word (op_words op) (op_text (op_word op)) (op-word op) (text_some (op_word op))

-- the operation fits the script and the set
abbrev pub may_stand : Words → Version → ℕ → Op → Bool
may_stand set v devices op = op_fits devices op && (uses set op && op_of_version v op)

both_all : {A : Type 0} (f g : A → Bool) (xs : List A) → list_all f xs ≡ true → list_all g xs ≡ true → list_all (λ x. f x && g x) xs ≡ true
both_all f g [] h k = refl
both_all f g (x ∷ xs) h k = rw ((and_parts (f x) (list_all f xs) h).0, (and_parts (g x) (list_all g xs) k).0, both_all f g xs (and_parts (f x) (list_all f xs) h).1 (and_parts (g x) (list_all g xs) k).1) refl

both_all_all : {A : Type 0} (f g : A → Bool) (xs : List (List A)) → list_all (list_all f) xs ≡ true → list_all (list_all g) xs ≡ true → list_all (list_all (λ x. f x && g x)) xs ≡ true
both_all_all f g [] h k = refl
both_all_all f g (x ∷ xs) h k = rw (both_all f g x (and_parts (list_all f x) (list_all (list_all f) xs) h).0 (and_parts (list_all g x) (list_all (list_all g) xs) k).0, both_all_all f g xs (and_parts (list_all f x) (list_all (list_all f) xs) h).1 (and_parts (list_all g x) (list_all (list_all g) xs) k).1) refl

op_permitted : (set : Words) (s : Program) (op : Op) → (uses set op && op_of_version s.version op) ≡ true → permits set s (keyword.Op (op_word op)) ≡ true
op_permitted set s op h =
    let new : word_of_version s.version (op_word op) ≡ true = sym (new-word s.version op) ∙ (and_parts (uses set op) (op_of_version s.version op) h).1 in
    rw ((and_parts (uses set op) (op_of_version s.version op) h).0, new) refl

op_line_again : (set : Words) (s : Program) (ls : List (List Op)) (op : Op) → length s.devices ≤ 4 → may_stand set s.version (length s.devices) op ≡ true → operation_count ls < 100000 → Leads set (state Actors (with_actors s ls)) (op_words op ∷ []) (state Actors (with_actors s (add_to_last ls op)))
unfolding step
op_line_again set s ls op few stands count =
    let fits = (and_parts (op_fits (length s.devices) op) (uses set op && op_of_version s.version op) stands).0 in
    let m = op_permitted set (with_actors s ls) op (and_parts (op_fits (length s.devices) op) (uses set op && op_of_version s.version op) stands).1 in
    let h = op-again (length s.devices) op few fits in
    leads_one set Actors (with_actors s ls) (op_words op) (keyword.Op (op_word op)) _ refl (some_words op, h.plain) (rw op-word (keyword_again set Actors (with_actors s ls) (op_text (op_word op)) (keyword.Op (op_word op)) (op_named_again (op_word op)) refl m))
    (let c = lt-ltb (operation_count ls) 100000 count in rw (h.reads, c) refl)

leads_ops : (set : Words) (s : Program) (before : List (List Op)) (l ops : List Op) → length s.devices ≤ 4 → list_all (may_stand set s.version (length s.devices)) ops ≡ true → operation_count (before ++ l ∷ []) + length ops ≤ 100000
    → Leads set (state Actors (with_actors s (before ++ l ∷ []))) (map op_words ops) (state Actors (with_actors s (before ++ (l ++ ops) ∷ [])))
leads_ops set s before l [] few fits count = ap (λ (x : List Op). state Actors (with_actors s (before ++ x ∷ []))) (sym (append-nil l))
leads_ops set s before l (op ∷ ops) few fits count =
    let stands = may_stand set s.version (length s.devices) in
    let one = op_line_again set s (before ++ l ∷ []) op few (and_parts (stands op) (list_all stands ops) fits).0 (omega arith) in
    let here = subst (λ (x : List (List Op)). Leads set (state Actors (with_actors s (before ++ l ∷ []))) (op_words op ∷ []) (state Actors (with_actors s x))) (add_at_end before l op) one in
    let rest = leads_ops set s before (l ++ op ∷ []) ops few (and_parts (stands op) (list_all stands ops) fits).1 (omega (arith, count-append before (l ∷ []), count-append before ((l ++ op ∷ []) ∷ []), length-append l (op ∷ []))) in
    leads-append set _ (state Actors (with_actors s (before ++ (l ++ op ∷ []) ∷ []))) _ (op_words op ∷ []) (map op_words ops) here
    (subst (λ (x : List Op). Leads set (state Actors (with_actors s (before ++ (l ++ op ∷ []) ∷ []))) (map op_words ops) (state Actors (with_actors s (before ++ x ∷ [])))) (append_assoc l (op ∷ []) ops) rest)

-- where all of them are one at most, the first comes first
first_of_one : (a : Bool) (n m : ℕ) → (a || nat_le (n + suc m) 1) ≡ true → (a || eqb n 0) ≡ true
first_of_one true n m h = refl
first_of_one false n m h = grind (arith, nat_tests)

actor_again : (set : Words) (p : Part) (s : Program) (ls : List (List Op)) → IsOpen p → length ls < 16 → (set.several_actors || eqb (length ls) 0) ≡ true → Leads set (state p (with_actors s ls)) ((codes "actor" ∷ decimal (length ls) ∷ []) ∷ []) (state Actors (with_actors s (ls ++ [] ∷ [])))
unfolding step
actor_again set p s ls o few one =
    let a : ℕ = length ls in
    let make : ℕ → Result State Reason = λ a. demand ((eqb a (length ls)) && nat_lt a 16) Range >>= λ _. Ok (state Actors (with_actors s (ls ++ [] ∷ []))) in
    leads_one set p (with_actors s ls) _ keyword.Actor _ o.begun (omega arith, one-plain number decimal Fits64 numbers make (codes "actor") a refl (omega arith)) (keyword_again set p (with_actors s ls) (codes "actor") keyword.Actor actor_named o.actor one)
    (one-again number decimal Fits64 numbers make (codes "actor") a refl (omega arith) ∙ (let t = lt-ltb a 16 few in rw (eqb-self a, t) refl))

opens_actors : (set : Words) (p : Part) (s : Program) (before ls : List (List Op)) → IsOpen p → length s.devices ≤ 4 → length before + length ls ≤ 16 → (set.several_actors || nat_le (length before + length ls) 1) ≡ true → list_all (list_all (may_stand set s.version (length s.devices))) ls ≡ true → operation_count before + operation_count ls ≤ 100000
    → Opens set (state p (with_actors s before)) (actor_lines (length before) ls) (with_actors s (before ++ ls))
opens_actors set p s before [] o few many several fits count = record { part = p; is_open = o; leads = ap (λ (x : List (List Op)). state p (with_actors s x)) (sym (append-nil before)) }
opens_actors set p s before (l ∷ ls) o few many several fits count =
    let stands = may_stand set s.version (length s.devices) in
    let at : length (before ++ l ∷ []) ≡ length before + 1 = length_push before l in
    let next_several : (set.several_actors || nat_le (length (before ++ l ∷ []) + length ls) 1) ≡ true = rw at (let same : (length before + 1) + length ls ≡ length before + suc (length ls) = omega arith in rw same several) in
    let one = actor_again set p s before o (omega arith) (first_of_one set.several_actors (length before) (length ls) several) in
    let ops = leads_ops set s before [] l few (and_parts (list_all stands l) (list_all (list_all stands) ls) fits).0 (omega (arith, count-append before ([] ∷ []))) in
    let rest = opens_actors set Actors s (before ++ l ∷ []) ls actors_open few (omega (arith, length-append before (l ∷ []))) next_several (and_parts (list_all stands l) (list_all (list_all stands) ls) fits).1 (omega (arith, count-append before (l ∷ []))) in
    let end : (before ++ l ∷ []) ++ ls ≡ before ++ l ∷ ls = append_assoc before (l ∷ []) ls in
    let then : Leads set (state Actors (with_actors s (before ++ l ∷ []))) (actor_lines (length before + 1) ls) (state rest.part (with_actors s (before ++ l ∷ ls))) =
    subst (λ (k : ℕ). Leads set (state Actors (with_actors s (before ++ l ∷ []))) (actor_lines k ls) (state rest.part (with_actors s (before ++ l ∷ ls)))) at
    (subst (λ (x : List (List Op)). Leads set (state Actors (with_actors s (before ++ l ∷ []))) (actor_lines (length (before ++ l ∷ [])) ls) (state rest.part (with_actors s x))) end rest.leads) in
    record {
      part = rest.part;
      is_open = rest.is_open;
      leads = leads-append set _ (state Actors (with_actors s (before ++ [] ∷ []))) _ ((codes "actor" ∷ decimal (length before) ∷ []) ∷ []) (map op_words l ++ actor_lines (length before + 1) ls) one
          (leads-append set _ (state Actors (with_actors s (before ++ l ∷ []))) _ (map op_words l) (actor_lines (length before + 1) ls) ops then);
    }

-- ---- the schedule

abbrev with_schedule : Program → List ScheduleLine → Program
with_schedule s ls = record s { schedule = ls }

pub record Ends (set : Words) (t : State) (wss : List Line) (s : Program) : Type 0 where
  pub part : Part
  pub leads : Leads set t wss (state part s)
  pub ends : (k : ℕ) → finish k (state part s) ≡ Ok s

-- a part that schedule lines and the end may follow
pub record MayRun (p : Part) : Type 0 where
  pub turns : allows p keyword.Turns ≡ true
  pub drain : allows p keyword.Drain ≡ true
  pub begun : is_start p ≡ false
  pub ends : (k : ℕ) (s : Program) → finish k (state p s) ≡ Ok s

turns_run : MayRun Turns
turns_run = record { turns = refl; drain = refl; begun = refl; ends = λ k s. refl }

turns_again : (set : Words) (p : Part) (s : Program) (ls : List ScheduleLine) (a k : ℕ) → MayRun p → (set.several_turns || eqb (run_lines ls) 0) ≡ true → (nat_le 1 k && nat_le k 1000000) ≡ true → nat_lt a (length s.actors) ≡ true → length s.actors ≤ 16 → run_lines ls < 100000
    → Leads set (state p (with_schedule s ls)) (schedule_words (Run a k) ∷ []) (state Turns (with_schedule s (ls ++ Run a k ∷ [])))
unfolding step
turns_again set p s ls a k o one range declared few count =
    let make : ℕ → ℕ → Result State Reason = λ a k. demand (nat_le 1 k && nat_le k 1000000) Range >>= λ _. demand (nat_lt a (length s.actors)) Undeclared >>= λ _. demand (nat_lt (run_lines ls) 100000) Limit >>= λ _. Ok (state Turns (with_schedule s (ls ++ Run a k ∷ []))) in
    let fits_a : a < 2 ^ 64 = omega (arith, ltb-true a (length s.actors) declared) in
    let fits_k : k < 2 ^ 64 = omega (arith, leb-true k 1000000 (and_parts (nat_le 1 k) (nat_le k 1000000) range).1) in
    leads_one set p (with_schedule s ls) (schedule_words (Run a k)) keyword.Turns _ o.begun (omega arith, two-plain number decimal Fits64 numbers number decimal Fits64 numbers make (codes "turns") a k refl fits_a fits_k) (keyword_again set p (with_schedule s ls) (codes "turns") keyword.Turns turns_named o.turns one)
    (two-again number decimal Fits64 numbers number decimal Fits64 numbers make (codes "turns") a k refl fits_a fits_k ∙ (let c = lt-ltb (run_lines ls) 100000 count in rw (range, declared, c) refl))

drain_again : (set : Words) (p : Part) (s : Program) (ls : List ScheduleLine) → MayRun p → set.drain ≡ true → Leads set (state p (with_schedule s ls)) (schedule_words schedule.Drain ∷ []) (state Drained (with_schedule s (ls ++ schedule.Drain ∷ [])))
unfolding step
drain_again set p s ls o has =
    leads_one set p (with_schedule s ls) (schedule_words schedule.Drain) keyword.Drain _ o.begun (omega arith, refl) (keyword_again set p (with_schedule s ls) (codes "drain") keyword.Drain drain_named o.drain has) (let h = shape_met 1 (schedule_words schedule.Drain) refl refl in rw h refl)

ends_schedule : (set : Words) (p : Part) (s : Program) (before ls : List ScheduleLine) → MayRun p → length s.actors ≤ 16 → (set.several_turns || nat_le (run_lines before + run_lines ls) 1) ≡ true → (set.drain || not (has_drain ls)) ≡ true → schedule_fits (length s.actors) ls ≡ true → run_lines before + run_lines ls ≤ 100000
    → Ends set (state p (with_schedule s before)) (map schedule_words ls) (with_schedule s (before ++ ls))
ends_schedule set p s before [] o few several drains fits count =
    let same : before ≡ before ++ [] = sym (append-nil before) in
    record { part = p; leads = ap (λ (x : List ScheduleLine). state p (with_schedule s x)) same; ends = λ k. o.ends k (with_schedule s (before ++ [])) }
ends_schedule set p s before (schedule.Drain ∷ []) o few several drains fits count = record { part = Drained; leads = drain_again set p s before o (left_of set.drain false refl drains); ends = λ k. refl }
ends_schedule set p s before (schedule.Drain ∷ l ∷ ls) o few several drains fits count = absurd (false≢true fits)
ends_schedule set p s before (Run a k ∷ ls) o few several drains fits count =
    let n = length s.actors in
    let range = (and_parts (nat_le 1 k && nat_le k 1000000) (nat_lt a n && schedule_fits n ls) fits).0 in
    let others = (and_parts (nat_le 1 k && nat_le k 1000000) (nat_lt a n && schedule_fits n ls) fits).1 in
    let one = turns_again set p s before a k o (first_of_one set.several_turns (run_lines before) (run_lines ls) (let same : run_lines before + (1 + run_lines ls) ≡ run_lines before + suc (run_lines ls) = omega arith in subst (λ (n : ℕ). (set.several_turns || nat_le n 1) ≡ true) same several)) range (and_parts (nat_lt a n) (schedule_fits n ls) others).0 few (omega arith) in
    let next_several : (set.several_turns || nat_le (run_lines (before ++ Run a k ∷ []) + run_lines ls) 1) ≡ true = rw (run_lines_run before a k) (let same : (run_lines before + 1) + run_lines ls ≡ run_lines before + (1 + run_lines ls) = omega arith in rw same several) in
    let rest = ends_schedule set Turns s (before ++ Run a k ∷ []) ls turns_run few next_several drains (and_parts (nat_lt a n) (schedule_fits n ls) others).1 (omega (arith, run_lines_run before a k)) in
    let end : (before ++ Run a k ∷ []) ++ ls ≡ before ++ Run a k ∷ ls = append_assoc before (Run a k ∷ []) ls in
    record {
      part = rest.part;
      leads = leads-append set _ (state Turns (with_schedule s (before ++ Run a k ∷ []))) _ (schedule_words (Run a k) ∷ []) (map schedule_words ls) one (subst (λ (x : List ScheduleLine). Leads set (state Turns (with_schedule s (before ++ Run a k ∷ []))) (map schedule_words ls) (state rest.part (with_schedule s x))) end rest.leads);
      ends = subst (λ (x : List ScheduleLine). (j : ℕ) → finish j (state rest.part (with_schedule s x)) ≡ Ok (with_schedule s x)) end rest.ends;
    }

-- ---- the whole text

header_again : (set : Words) (v : Version) → (set.version_two || not (is_version_two v)) ≡ true → next set start (line (header_words v)) ≡ Ok (state Headed (headed v))
unfolding next line_text read_header version_named
header_again set One h = refl
header_again set Two h = let has : set.version_two ≡ true = left_of set.version_two false refl h in rw has refl

header_are_words : (v : Version) → AreWords (header_words v)
header_are_words One = (omega arith, refl)
header_are_words Two = (omega arith, refl)

frames_again : (set : Words) (v : Version) (f : ℕ) → f ≤ 16384 → Leads set (state Headed (headed v)) ((codes "frames" ∷ decimal f ∷ []) ∷ []) (state Devices (with_devices v f []))
unfolding step
frames_again set v f small =
    let make : ℕ → Result State Reason = λ n. demand (nat_le n 16384) Range >>= λ _. Ok (state Devices (with_devices v n [])) in
    leads_one set Headed (headed v) _ keyword.Frames _ refl (omega arith, one-plain number decimal Fits64 numbers make (codes "frames") f refl (omega arith)) (keyword_again set Headed (headed v) (codes "frames") keyword.Frames frames_named refl refl)
    (one-again number decimal Fits64 numbers make (codes "frames") f refl (omega arith) ∙ (let t = le-leb f 16384 small in rw t refl))

open_runs : (p : Part) → IsOpen p → MayRun p
open_runs p o = record { turns = o.turns; drain = o.drain; begun = o.begun; ends = o.ends }

pub script_ends : (set : Words) (s : Program) → IsScript s → IsBuilt set s → Ends set start (script_lines s) s
script_ends set s h b =
    let f = frames_again set s.version s.frames h.frames in
    let d = leads_devices set s.version s.frames [] s.devices (omega (arith, h.few_devices)) h.devices in
    let k = opens_skip set s.version s.frames s.devices s.skip b.skip h.skip in
    let base : Program = with_skip s.version s.frames s.devices s.skip in
    let e = length s.devices in
    let stands = both_all_all (op_fits e) (λ op. uses set op && op_of_version s.version op) s.actors h.ops (both_all_all (uses set) (op_of_version s.version) s.actors b.ops h.version) in
    let few_actors : (set.several_actors || nat_le (0 + length s.actors) 1) ≡ true = let z : 0 + length s.actors ≡ length s.actors = omega arith in rw z b.actors in
    let few_turns : (set.several_turns || nat_le (0 + run_lines s.schedule) 1) ≡ true = let z : 0 + run_lines s.schedule ≡ run_lines s.schedule = omega arith in rw z b.turns in
    let a = opens_actors set k.part base [] s.actors k.is_open h.few_devices (omega (arith, h.few_actors)) few_actors stands (omega (arith, h.few_ops)) in
    let t = ends_schedule set a.part (with_actors base s.actors) [] s.schedule (open_runs a.part a.is_open) h.few_actors few_turns b.drain h.schedule (omega (arith, h.few_lines)) in
    record {
      part = t.part;
      leads = (
        state Headed (headed s.version),
        header_are_words s.version,
        header_again set s.version b.version,
        leads-append set _ (state Devices (with_devices s.version s.frames [])) _ ((codes "frames" ∷ decimal s.frames ∷ []) ∷ []) _ f
            (leads-append set _ (state Devices (with_devices s.version s.frames s.devices)) _ (device_lines 0 s.devices) _ d
            (leads-append set _ (state k.part base) _ (skip_lines s.skip) _ k.leads
            (leads-append set _ (state a.part (with_actors base s.actors)) _ (actor_lines 0 s.actors) (map schedule_words s.schedule) a.leads t.leads))),
      );
      ends = t.ends;
    }

-- what has the text of a script of the set is read as that script
pub reading_again : (set : Words) (s : Program) → IsScript s → IsBuilt set s → reading set (text s) ≡ Ok s
unfolding reading
reading_again set s h b =
    let e = script_ends set s h b in
    rw (lines-text (script_lines s) (leads-lines set start (state e.part s) (script_lines s) e.leads)) (run_leads set 1 start (state e.part s) (script_lines s) s e.leads e.ends)
