-- What was read so far is the text of the script so far, and the script is in range.
use Rattle.std.proofs.Common.{◌≡◌, ℕ, suc, ◌+◌, ◌^◌, ◌<◌, ◌≤◌, Bool, true, false, ◌&&◌, ◌||◌, not, eqb, List, [], ◌∷◌, ◌++◌, length, Result, Ok, refl, sym, ap, subst, ◌∙◌, arith, append_assoc, append-nil, length-append, map}
use Rattle.std.specs.Prelude.{codes, nat_lt, nat_le}
use Rattle.std.specs.List.{list_all}
use Rattle.std.specs.Fmt.{decimal}
use Rattle.std.proofs.lemmas.Bool.{false≢true, ltb-true, leb-true, eqb-true, and_parts, or_right, or_left}
use Rattle.std.proofs.lemmas.Bool.Decides.{nat_tests}
use Rattle.std.proofs.lemmas.List.{map_push}
use Rattle.std.proofs.lemmas.List.Folds.{list_all-append}
use Rattle.hm_base.specs.Program.{Program, IsScript, op_fits, op_of_version, run_lines, operation_count, add_to_last, schedule_fits}
use Rattle.hm_base.specs.declared.ops.Op.{Op}
use Rattle.hm_base.specs.declared.ops.Version.{Version}
use Rattle.hm_base.specs.declared.ops.ScheduleLine.{ScheduleLine}
use Rattle.hm_base.specs.declared.ops.ScheduleLine.TheVariants.{Run}
use Rattle.hm_base.specs.declared.ops.ScheduleLine.TheVariants as schedule
use Rattle.hm_script.specs.declared.keyword.OpWord.{OpWord}
use Rattle.hm_script.specs.declared.keyword.Keyword.TheVariants as keyword
use Rattle.hm_script.specs.declared.part.Part.{Part}
use Rattle.hm_script.specs.declared.part.Part.TheVariants.{Start, Headed, Devices, Skipped, Actors, Turns, Drained}
use Rattle.hm_script.specs.declared.reason.Reason.{Reason}
use Rattle.hm_script.specs.declared.reason.Reason.TheVariants.{Range, Undeclared, Limit}
use Rattle.hm_script.specs.Gives.{◌>>=◌}
use Rattle.hm_script.specs.Splitting.{word}
use Rattle.hm_script.specs.Spelling.{op_words, header_words, schedule_words, device_lines, skip_lines, actor_lines, script_lines}
use Rattle.hm_script.specs.Keywords.{op_text}
use Rattle.hm_script.specs.Numerals.{number}
use Rattle.hm_script.specs.Reading.{demand, op_at}
use Rattle.hm_script.specs.declared.words.Words.{Words}
use Rattle.hm_script.specs.Built.{IsBuilt, has_op, uses, has_drain, word_of_version}
use Rattle.hm_script.specs.Automaton.{State, state, empty, allows, permits, step}
use Rattle.hm_script.proofs.Counts.{run_lines_run, run_lines_drain, operations_added, actors_kept, no_operations}
use Rattle.hm_script.proofs.Readers.{Fits64, numbers}
use Rattle.hm_script.proofs.Steps.{bind_ok, demand_ok, shape_ok, done, ok_is, one-takes, two-takes}
use Rattle.hm_script.proofs.Ops.{op-takes, new-word}

-- ---- lists that grow at their end

pub device_lines-push : (d : ℕ) (ns : List ℕ) (n : ℕ) → device_lines d (ns ++ n ∷ []) ≡ device_lines d ns ++ (codes "device" ∷ decimal (d + length ns) ∷ decimal n ∷ []) ∷ []
device_lines-push d [] n = let z : d + 0 ≡ d = omega arith in ap (λ (k : ℕ). (codes "device" ∷ decimal k ∷ decimal n ∷ []) ∷ []) (sym z)
device_lines-push d (m ∷ ns) n =
    let s : (d + 1) + length ns ≡ d + suc (length ns) = omega arith in
    ap (λ (ls : List (List (List ℕ))). (codes "device" ∷ decimal d ∷ decimal m ∷ []) ∷ ls) (device_lines-push (d + 1) ns n ∙ ap (λ (k : ℕ). device_lines (d + 1) ns ++ (codes "device" ∷ decimal k ∷ decimal n ∷ []) ∷ []) s)

pub actor_lines-push : (a : ℕ) (ls : List (List Op)) → actor_lines a (ls ++ [] ∷ []) ≡ actor_lines a ls ++ (codes "actor" ∷ decimal (a + length ls) ∷ []) ∷ []
actor_lines-push a [] = let z : a + 0 ≡ a = omega arith in ap (λ (k : ℕ). (codes "actor" ∷ decimal k ∷ []) ∷ []) (sym z)
actor_lines-push a (l ∷ ls) =
    let s : (a + 1) + length ls ≡ a + suc (length ls) = omega arith in
    ap (λ (t : List (List (List ℕ))). (codes "actor" ∷ decimal a ∷ []) ∷ (map op_words l ++ t)) (actor_lines-push (a + 1) ls ∙ ap (λ (k : ℕ). actor_lines (a + 1) ls ++ (codes "actor" ∷ decimal k ∷ []) ∷ []) s)
    ∙ ap (λ (t : List (List (List ℕ))). (codes "actor" ∷ decimal a ∷ []) ∷ t) (sym (append_assoc (map op_words l) (actor_lines (a + 1) ls) ((codes "actor" ∷ decimal (a + suc (length ls)) ∷ []) ∷ [])))

pub actor_lines-add : (a : ℕ) (ls : List (List Op)) (op : Op) → 0 < length ls → actor_lines a (add_to_last ls op) ≡ actor_lines a ls ++ op_words op ∷ []
actor_lines-add a [] op some = absurd (omega arith)
actor_lines-add a (l ∷ []) op some =
    ap (λ (t : List (List (List ℕ))). (codes "actor" ∷ decimal a ∷ []) ∷ t) (append-nil (map op_words (l ++ op ∷ [])) ∙ map_push op_words l op ∙ ap (λ (t : List (List (List ℕ))). t ++ op_words op ∷ []) (sym (append-nil (map op_words l))))
actor_lines-add a (l ∷ m ∷ ls) op some =
    ap (λ (t : List (List (List ℕ))). (codes "actor" ∷ decimal a ∷ []) ∷ (map op_words l ++ t)) (actor_lines-add (a + 1) (m ∷ ls) op (omega arith))
    ∙ ap (λ (t : List (List (List ℕ))). (codes "actor" ∷ decimal a ∷ []) ∷ t) (sym (append_assoc (map op_words l) (actor_lines (a + 1) (m ∷ ls)) (op_words op ∷ [])))

-- ---- what holds at each part

abbrev is_run : ScheduleLine → Bool
is_run (Run a k) = true
is_run schedule.Drain = false

-- no more than the first line, of this version
abbrev pub headed : Version → Program
headed v = record { version = v; frames = 0; devices = []; skip = 0; actors = []; schedule = [] }

abbrev pub Reached : Part → Program → Type 0
Reached Start s = s ≡ empty
Reached Headed s = s ≡ headed s.version
Reached Devices s = IsScript s × (s.skip ≡ 0) × (s.actors ≡ []) × (s.schedule ≡ [])
Reached Skipped s = IsScript s × (s.actors ≡ []) × (s.schedule ≡ [])
Reached Actors s = IsScript s × (0 < length s.actors) × (s.schedule ≡ [])
Reached Turns s = IsScript s × (list_all is_run s.schedule ≡ true)
Reached Drained s = IsScript s

-- the lines that have been read
abbrev pub lines_read : Part → Program → List (List (List ℕ))
lines_read Start s = []
lines_read Headed s = header_words s.version ∷ []
lines_read _ s = script_lines s

-- the script stands, and has no schedule
pub record BeforeActor (p : Part) (s : Program) : Type 0 where
  pub script : IsScript s
  pub schedule : s.schedule ≡ []
  pub lines : lines_read p s ≡ script_lines s

before_actor : (p : Part) (s : Program) → allows p keyword.Actor ≡ true → Reached p s → BeforeActor p s
before_actor Start s a r = absurd (false≢true a)
before_actor Headed s a r = absurd (false≢true a)
before_actor Devices s a r = record { script = r.0; schedule = r.3; lines = refl }
before_actor Skipped s a r = record { script = r.0; schedule = r.2; lines = refl }
before_actor Actors s a r = record { script = r.0; schedule = r.2; lines = refl }
before_actor Turns s a r = absurd (false≢true a)
before_actor Drained s a r = absurd (false≢true a)

-- the script stands, and has no `drain`
pub record BeforeTurns (p : Part) (s : Program) : Type 0 where
  pub script : IsScript s
  pub runs : list_all is_run s.schedule ≡ true
  pub lines : lines_read p s ≡ script_lines s

no_lines : (ls : List ScheduleLine) → ls ≡ [] → list_all is_run ls ≡ true
no_lines ls e = rw e refl

before_turns : (p : Part) (s : Program) → allows p keyword.Turns ≡ true → Reached p s → BeforeTurns p s
before_turns Start s a r = absurd (false≢true a)
before_turns Headed s a r = absurd (false≢true a)
before_turns Devices s a r = record { script = r.0; runs = no_lines s.schedule r.3; lines = refl }
before_turns Skipped s a r = record { script = r.0; runs = no_lines s.schedule r.2; lines = refl }
before_turns Actors s a r = record { script = r.0; runs = no_lines s.schedule r.2; lines = refl }
before_turns Turns s a r = record { script = r.0; runs = r.1; lines = refl }
before_turns Drained s a r = absurd (false≢true a)

before_drain : (p : Part) (s : Program) → allows p keyword.Drain ≡ true → Reached p s → BeforeTurns p s
before_drain Start s a r = absurd (false≢true a)
before_drain Headed s a r = absurd (false≢true a)
before_drain Devices s a r = record { script = r.0; runs = no_lines s.schedule r.3; lines = refl }
before_drain Skipped s a r = record { script = r.0; runs = no_lines s.schedule r.2; lines = refl }
before_drain Actors s a r = record { script = r.0; runs = no_lines s.schedule r.2; lines = refl }
before_drain Turns s a r = record { script = r.0; runs = r.1; lines = refl }
before_drain Drained s a r = absurd (false≢true a)

-- ---- schedules

fits_run : (n : ℕ) (ls : List ScheduleLine) (a k : ℕ) → list_all is_run ls ≡ true → schedule_fits n ls ≡ true → (nat_le 1 k && nat_le k 1000000) ≡ true → nat_lt a n ≡ true → schedule_fits n (ls ++ Run a k ∷ []) ≡ true
fits_run n [] a k runs h range declared = rw (range, declared) refl
fits_run n (Run b j ∷ ls) a k runs h range declared =
    let first = nat_le 1 j && nat_le j 1000000 in
    let r = (and_parts first (nat_lt b n && schedule_fits n ls) h).1 in
    rw ((and_parts first (nat_lt b n && schedule_fits n ls) h).0, (and_parts (nat_lt b n) (schedule_fits n ls) r).0, fits_run n ls a k runs (and_parts (nat_lt b n) (schedule_fits n ls) r).1 range declared) refl
fits_run n (schedule.Drain ∷ ls) a k runs h range declared = absurd (false≢true runs)

fits_drain : (n : ℕ) (ls : List ScheduleLine) → list_all is_run ls ≡ true → schedule_fits n ls ≡ true → schedule_fits n (ls ++ schedule.Drain ∷ []) ≡ true
fits_drain n [] runs h = refl
fits_drain n (Run b j ∷ ls) runs h =
    let first = nat_le 1 j && nat_le j 1000000 in
    let r = (and_parts first (nat_lt b n && schedule_fits n ls) h).1 in
    rw ((and_parts first (nat_lt b n && schedule_fits n ls) h).0, (and_parts (nat_lt b n) (schedule_fits n ls) r).0, fits_drain n ls runs (and_parts (nat_lt b n) (schedule_fits n ls) r).1) refl
fits_drain n (schedule.Drain ∷ ls) runs h = absurd (false≢true runs)

runs-push : (ls : List ScheduleLine) (a k : ℕ) → list_all is_run ls ≡ true → list_all is_run (ls ++ Run a k ∷ []) ≡ true
runs-push ls a k h = rw (list_all-append is_run ls (Run a k ∷ []), h) refl

ops_added : (test : Op → Bool) (ls : List (List Op)) (op : Op) → list_all (list_all test) ls ≡ true → test op ≡ true → list_all (list_all test) (add_to_last ls op) ≡ true
ops_added test [] op h t = refl
ops_added test (l ∷ []) op h t = rw (list_all-append test l (op ∷ []), (and_parts (list_all test l) true h).0, t) refl
ops_added test (l ∷ m ∷ ls) op h t = rw ((and_parts (list_all test l) (list_all (list_all test) (m ∷ ls)) h).0, ops_added test (m ∷ ls) op (and_parts (list_all test l) (list_all (list_all test) (m ∷ ls)) h).1 t) refl

-- ---- the words of the set

one_more : (a : Bool) (n : ℕ) → (a || eqb n 0) ≡ true → (a || nat_le (n + 1) 1) ≡ true
one_more true n e = refl
one_more false n e = grind (arith, nat_tests)

runs_no_drain : (ls : List ScheduleLine) → list_all is_run ls ≡ true → not (has_drain ls) ≡ true
runs_no_drain [] h = refl
runs_no_drain (Run a k ∷ ls) h = runs_no_drain ls h
runs_no_drain (schedule.Drain ∷ ls) h = absurd (false≢true h)

-- ---- the lines of a script that goes no further

abbrev pub Line : Type 0
Line = List (List ℕ)

abbrev head_lines : Program → List Line → List Line
head_lines s rest = header_words s.version ∷ (codes "frames" ∷ decimal s.frames ∷ []) ∷ rest

upto_devices : (s : Program) → s.skip ≡ 0 → s.actors ≡ [] → s.schedule ≡ [] → script_lines s ≡ head_lines s (device_lines 0 s.devices)
upto_devices s skip actors lines = rw (skip, actors, lines) (ap (head_lines s) (append-nil (device_lines 0 s.devices)))

upto_skip : (s : Program) → s.actors ≡ [] → s.schedule ≡ [] → script_lines s ≡ head_lines s (device_lines 0 s.devices ++ skip_lines s.skip)
upto_skip s actors lines = rw (actors, lines) (ap (λ (x : List Line). head_lines s (device_lines 0 s.devices ++ x)) (append-nil (skip_lines s.skip)))

upto_actors : (s : Program) → s.schedule ≡ [] → script_lines s ≡ head_lines s (device_lines 0 s.devices ++ (skip_lines s.skip ++ actor_lines 0 s.actors))
upto_actors s lines = rw lines (ap (λ (x : List Line). head_lines s (device_lines 0 s.devices ++ (skip_lines s.skip ++ x))) (append-nil (actor_lines 0 s.actors)))

two_more : (a b c : List Line) (w : Line) → a ++ (b ++ (c ++ w ∷ [])) ≡ (a ++ (b ++ c)) ++ w ∷ []
two_more a b c w = simp append_assoc

three_more : (a b c d : List Line) (w : Line) → a ++ (b ++ (c ++ (d ++ w ∷ []))) ≡ (a ++ (b ++ (c ++ d))) ++ w ∷ []
three_more a b c d w = simp append_assoc

-- ---- one line further

pub record Goes (w : Words) (p : Part) (s : Program) (ws : Line) (t : State) : Type 0 where
  pub reached : Reached t.part t.script
  pub built : IsBuilt w t.script
  pub lines : lines_read t.part t.script ≡ lines_read p s ++ ws ∷ []

pub goes_to : (w : Words) (p : Part) (s : Program) (ws : Line) (made t : State) → done made ≡ done t → Goes w p s ws made → Goes w p s ws t
goes_to w p s ws made t e g = subst (Goes w p s ws) (ok_is made t e) g

pub frames_goes : (set : Words) (p : Part) (s : Program) (ws : Line) (t : State) → allows p keyword.Frames ≡ true → permits set s keyword.Frames ≡ true → Reached p s → IsBuilt set s → word 0 ws ≡ codes "frames" → step keyword.Frames (state p s) ws ≡ Ok t → Goes set p s ws t
unfolding step
frames_goes set Headed s ws t a m r b w e =
    let k = one-takes number decimal Fits64 numbers (λ n. demand (nat_le n 16384) Range >>= λ _. Ok (state Devices (record s { frames = n }))) ws t e in
    let d = demand_ok (nat_le k.a 16384) Range _ t k.made in
    let few : k.a ≤ 16384 = leb-true k.a 16384 d.0 in
    let words : ws ≡ codes "frames" ∷ decimal k.a ∷ [] = k.words ∙ ap (λ (x : List ℕ). x ∷ decimal k.a ∷ []) w in
    goes_to set Headed s ws _ t d.1 (made s k.a ws s.version r b few words)
  where
    made : (s : Program) (n : ℕ) (ws : Line) (v : Version) → s ≡ headed v → IsBuilt set s → n ≤ 16384 → ws ≡ codes "frames" ∷ decimal n ∷ [] → Goes set Headed s ws (state Devices (record s { frames = n }))
    made s n ws v e b few words = subst (λ (x : Program). IsBuilt set x → Goes set Headed x ws (state Devices (record x { frames = n }))) (sym e) (λ b. record {
      reached = (record { frames = few; devices = refl; few_devices = omega arith; skip = omega arith; few_actors = omega arith; ops = refl; few_ops = omega arith; schedule = refl; few_lines = omega arith; version = refl }, refl, refl, refl);
      built = record { ops = refl; skip = b.skip; drain = b.drain; version = b.version; actors = b.actors; turns = b.turns };
      lines = rw words refl;
    }) b
frames_goes set Start s ws t a m r b w e = absurd (false≢true a)
frames_goes set Devices s ws t a m r b w e = absurd (false≢true a)
frames_goes set Skipped s ws t a m r b w e = absurd (false≢true a)
frames_goes set Actors s ws t a m r b w e = absurd (false≢true a)
frames_goes set Turns s ws t a m r b w e = absurd (false≢true a)
frames_goes set Drained s ws t a m r b w e = absurd (false≢true a)

device_made : (set : Words) (s : Program) (d n : ℕ) (ws : Line) → Reached Devices s → IsBuilt set s → d ≡ length s.devices → d < 4 → nat_le n 8192 ≡ true → ws ≡ codes "device" ∷ decimal d ∷ decimal n ∷ [] → Goes set Devices s ws (state Devices (record s { devices = s.devices ++ n ∷ [] }))
device_made set s d n ws r b at few small words =
    let i = r.0 in
    let more : Program = record s { devices = s.devices ++ n ∷ [] } in
    record {
      reached = (
        record {
          frames = i.frames;
          devices = rw (list_all-append (λ (m : ℕ). nat_le m 8192) s.devices (n ∷ []), i.devices, small) refl;
          few_devices = omega (arith, length-append s.devices (n ∷ []));
          skip = i.skip;
          few_actors = i.few_actors;
          ops = rw r.2 refl;
          few_ops = i.few_ops;
          schedule = rw r.3 refl;
          few_lines = i.few_lines;
          version = i.version;
        },
        r.1,
        r.2,
        r.3,
      );
      built = record { ops = b.ops; skip = b.skip; drain = b.drain; version = b.version; actors = b.actors; turns = b.turns };
      lines = upto_devices more r.1 r.2 r.3 ∙ ap (head_lines s) (device_lines-push 0 s.devices n ∙ ap (λ (k : ℕ). device_lines 0 s.devices ++ (codes "device" ∷ decimal k ∷ decimal n ∷ []) ∷ []) (let z : 0 + length s.devices ≡ d = omega arith in z)) ∙ ap (λ (w : Line). head_lines s (device_lines 0 s.devices ++ w ∷ [])) (sym words) ∙ ap (λ (x : List Line). x ++ ws ∷ []) (sym (upto_devices s r.1 r.2 r.3));
    }

pub device_goes : (set : Words) (p : Part) (s : Program) (ws : Line) (t : State) → allows p keyword.Device ≡ true → permits set s keyword.Device ≡ true → Reached p s → IsBuilt set s → word 0 ws ≡ codes "device" → step keyword.Device (state p s) ws ≡ Ok t → Goes set p s ws t
unfolding step
device_goes set Devices s ws t a m r b w e =
    let make : ℕ → ℕ → Result State Reason = λ d n. demand ((eqb d (length s.devices)) && (nat_lt d 4 && nat_le n 8192)) Range >>= λ _. Ok (state Devices (record s { devices = s.devices ++ n ∷ [] })) in
    let k = two-takes number decimal Fits64 numbers number decimal Fits64 numbers make ws t e in
    let q = demand_ok ((eqb k.a (length s.devices)) && (nat_lt k.a 4 && nat_le k.b 8192)) Range _ t k.made in
    let rest = (and_parts (eqb k.a (length s.devices)) (nat_lt k.a 4 && nat_le k.b 8192) q.0).1 in
    goes_to set Devices s ws _ t q.1 (device_made set s k.a k.b ws r b (eqb-true _ _ (and_parts (eqb k.a (length s.devices)) (nat_lt k.a 4 && nat_le k.b 8192) q.0).0) (ltb-true k.a 4 (and_parts (nat_lt k.a 4) (nat_le k.b 8192) rest).0) (and_parts (nat_lt k.a 4) (nat_le k.b 8192) rest).1 (k.words ∙ ap (λ (x : List ℕ). x ∷ decimal k.a ∷ decimal k.b ∷ []) w))
device_goes set Start s ws t a m r b w e = absurd (false≢true a)
device_goes set Headed s ws t a m r b w e = absurd (false≢true a)
device_goes set Skipped s ws t a m r b w e = absurd (false≢true a)
device_goes set Actors s ws t a m r b w e = absurd (false≢true a)
device_goes set Turns s ws t a m r b w e = absurd (false≢true a)
device_goes set Drained s ws t a m r b w e = absurd (false≢true a)

skip_made : (set : Words) (s : Program) (m : ℕ) (ws : Line) → Reached Devices s → IsBuilt set s → set.skip ≡ true → 1 ≤ m → m ≤ 2 ^ 36 → ws ≡ codes "skip" ∷ decimal m ∷ [] → Goes set Devices s ws (state Skipped (record s { skip = m }))
skip_made set s m ws r b has some small words =
    let i = r.0 in
    let more : Program = record s { skip = m } in
    let not_zero : eqb m 0 ≡ false = grind (arith, nat_tests) in
    let one : skip_lines m ≡ ws ∷ [] = rw (not_zero, words) refl in
    record {
      reached = (record { frames = i.frames; devices = i.devices; few_devices = i.few_devices; skip = small; few_actors = i.few_actors; ops = i.ops; few_ops = i.few_ops; schedule = i.schedule; few_lines = i.few_lines; version = i.version }, r.2, r.3);
      built = record { ops = b.ops; skip = or_left set.skip (eqb m 0) has; drain = b.drain; version = b.version; actors = b.actors; turns = b.turns };
      lines = upto_skip more r.2 r.3 ∙ ap (λ (x : List Line). head_lines s (device_lines 0 s.devices ++ x)) one ∙ ap (λ (x : List Line). x ++ ws ∷ []) (sym (upto_devices s r.1 r.2 r.3));
    }

pub skip_goes : (set : Words) (p : Part) (s : Program) (ws : Line) (t : State) → allows p keyword.Skip ≡ true → permits set s keyword.Skip ≡ true → Reached p s → IsBuilt set s → word 0 ws ≡ codes "skip" → step keyword.Skip (state p s) ws ≡ Ok t → Goes set p s ws t
unfolding step
skip_goes set Devices s ws t a m r b w e =
    let k = one-takes number decimal Fits64 numbers (λ m. demand (nat_le 1 m && nat_le m (2 ^ 36)) Range >>= λ _. Ok (state Skipped (record s { skip = m }))) ws t e in
    let q = demand_ok (nat_le 1 k.a && nat_le k.a (2 ^ 36)) Range _ t k.made in
    goes_to set Devices s ws _ t q.1 (skip_made set s k.a ws r b m (leb-true 1 k.a (and_parts (nat_le 1 k.a) (nat_le k.a (2 ^ 36)) q.0).0) (leb-true k.a (2 ^ 36) (and_parts (nat_le 1 k.a) (nat_le k.a (2 ^ 36)) q.0).1) (k.words ∙ ap (λ (x : List ℕ). x ∷ decimal k.a ∷ []) w))
skip_goes set Start s ws t a m r b w e = absurd (false≢true a)
skip_goes set Headed s ws t a m r b w e = absurd (false≢true a)
skip_goes set Skipped s ws t a m r b w e = absurd (false≢true a)
skip_goes set Actors s ws t a m r b w e = absurd (false≢true a)
skip_goes set Turns s ws t a m r b w e = absurd (false≢true a)
skip_goes set Drained s ws t a m r b w e = absurd (false≢true a)

actor_made : (set : Words) (p : Part) (s : Program) (n : ℕ) (ws : Line) → BeforeActor p s → IsBuilt set s → (set.several_actors || eqb (length s.actors) 0) ≡ true → n ≡ length s.actors → n < 16 → ws ≡ codes "actor" ∷ decimal n ∷ [] → Goes set p s ws (state Actors (record s { actors = s.actors ++ [] ∷ [] }))
actor_made set p s n ws q b one at few words =
    let i = q.script in
    let more : Program = record s { actors = s.actors ++ [] ∷ [] } in
    record {
      reached = (
        record {
          frames = i.frames;
          devices = i.devices;
          few_devices = i.few_devices;
          skip = i.skip;
          few_actors = omega (arith, length-append s.actors ([] ∷ []));
          ops = rw (list_all-append (list_all (op_fits (length s.devices))) s.actors ([] ∷ []), i.ops) refl;
          few_ops = omega (arith, no_operations s.actors, i.few_ops);
          schedule = rw q.schedule refl;
          few_lines = i.few_lines;
          version = rw (list_all-append (list_all (op_of_version s.version)) s.actors ([] ∷ []), i.version) refl;
        },
        omega (arith, length-append s.actors ([] ∷ [])),
        q.schedule,
      );
      built = record { ops = rw (list_all-append (list_all (uses set)) s.actors ([] ∷ []), b.ops) refl; skip = b.skip; drain = b.drain; version = b.version; actors = rw (length-append s.actors ([] ∷ [])) (one_more set.several_actors (length s.actors) one); turns = b.turns };
      lines = upto_actors more q.schedule ∙ ap (λ (x : List Line). head_lines s (device_lines 0 s.devices ++ (skip_lines s.skip ++ x))) (actor_lines-push 0 s.actors ∙ ap (λ (k : ℕ). actor_lines 0 s.actors ++ (codes "actor" ∷ decimal k ∷ []) ∷ []) (let z : 0 + length s.actors ≡ n = omega arith in z) ∙ ap (λ (x : Line). actor_lines 0 s.actors ++ x ∷ []) (sym words)) ∙ ap (head_lines s) (two_more (device_lines 0 s.devices) (skip_lines s.skip) (actor_lines 0 s.actors) ws) ∙ ap (λ (x : List Line). x ++ ws ∷ []) (sym (upto_actors s q.schedule) ∙ sym q.lines);
    }

pub actor_goes : (set : Words) (p : Part) (s : Program) (ws : Line) (t : State) → allows p keyword.Actor ≡ true → permits set s keyword.Actor ≡ true → Reached p s → IsBuilt set s → word 0 ws ≡ codes "actor" → step keyword.Actor (state p s) ws ≡ Ok t → Goes set p s ws t
unfolding step
actor_goes set p s ws t a m r b w e =
    let k = one-takes number decimal Fits64 numbers (λ n. demand ((eqb n (length s.actors)) && nat_lt n 16) Range >>= λ _. Ok (state Actors (record s { actors = s.actors ++ [] ∷ [] }))) ws t e in
    let q = demand_ok ((eqb k.a (length s.actors)) && nat_lt k.a 16) Range _ t k.made in
    goes_to set p s ws _ t q.1 (actor_made set p s k.a ws (before_actor p s a r) b m (eqb-true _ _ (and_parts (eqb k.a (length s.actors)) (nat_lt k.a 16) q.0).0) (ltb-true k.a 16 (and_parts (eqb k.a (length s.actors)) (nat_lt k.a 16) q.0).1) (k.words ∙ ap (λ (x : List ℕ). x ∷ decimal k.a ∷ []) w))

op_made : (set : Words) (s : Program) (op : Op) (ws : Line) → Reached Actors s → IsBuilt set s → uses set op ≡ true → op_of_version s.version op ≡ true → op_fits (length s.devices) op ≡ true → operation_count s.actors < 100000 → ws ≡ op_words op → Goes set Actors s ws (state Actors (record s { actors = add_to_last s.actors op }))
op_made set s op ws r b has new fits few words =
    let i = r.0 in
    let more : Program = record s { actors = add_to_last s.actors op } in
    record {
      reached = (
        record {
          frames = i.frames;
          devices = i.devices;
          few_devices = i.few_devices;
          skip = i.skip;
          few_actors = omega (arith, actors_kept s.actors op, i.few_actors);
          ops = ops_added (op_fits (length s.devices)) s.actors op i.ops fits;
          few_ops = omega (arith, operations_added s.actors op r.1);
          schedule = rw r.2 refl;
          few_lines = i.few_lines;
          version = ops_added (op_of_version s.version) s.actors op i.version new;
        },
        omega (arith, actors_kept s.actors op, r.1),
        r.2,
      );
      built = record { ops = ops_added (uses set) s.actors op b.ops has; skip = b.skip; drain = b.drain; version = b.version; actors = rw (actors_kept s.actors op) b.actors; turns = b.turns };
      lines = upto_actors more r.2 ∙ ap (λ (x : List Line). head_lines s (device_lines 0 s.devices ++ (skip_lines s.skip ++ x))) (actor_lines-add 0 s.actors op r.1 ∙ ap (λ (x : Line). actor_lines 0 s.actors ++ x ∷ []) (sym words)) ∙ ap (head_lines s) (two_more (device_lines 0 s.devices) (skip_lines s.skip) (actor_lines 0 s.actors) ws) ∙ ap (λ (x : List Line). x ++ ws ∷ []) (sym (upto_actors s r.2));
    }

pub op_goes : (set : Words) (p : Part) (s : Program) (ws : Line) (t : State) (w : OpWord) → allows p (keyword.Op w) ≡ true → permits set s (keyword.Op w) ≡ true → Reached p s → IsBuilt set s → op_text w ≡ word 0 ws → step (keyword.Op w) (state p s) ws ≡ Ok t → Goes set p s ws t
unfolding step
op_goes set Actors s ws t w a m r b h e =
    let o = bind_ok (op_at (length s.devices) w ws) _ t e in
    let q = demand_ok (nat_lt (operation_count s.actors) 100000) Limit _ t o.2 in
    let x = op-takes (length s.devices) w ws o.0 o.1 h in
    let has : uses set o.0 ≡ true = ap (has_op set) x.word ∙ (and_parts (has_op set w) (word_of_version s.version w) m).0 in
    let new : op_of_version s.version o.0 ≡ true = new-word s.version o.0 ∙ ap (word_of_version s.version) x.word ∙ (and_parts (has_op set w) (word_of_version s.version w) m).1 in
    goes_to set Actors s ws _ t q.1 (op_made set s o.0 ws r b has new x.fits (ltb-true (operation_count s.actors) 100000 q.0) x.words)
op_goes set Start s ws t w a m r b h e = absurd (false≢true a)
op_goes set Headed s ws t w a m r b h e = absurd (false≢true a)
op_goes set Devices s ws t w a m r b h e = absurd (false≢true a)
op_goes set Skipped s ws t w a m r b h e = absurd (false≢true a)
op_goes set Turns s ws t w a m r b h e = absurd (false≢true a)
op_goes set Drained s ws t w a m r b h e = absurd (false≢true a)

schedule_made : (p : Part) (s : Program) (line : ScheduleLine) (ws : Line) → lines_read p s ≡ script_lines s → ws ≡ schedule_words line → script_lines (record s { schedule = s.schedule ++ line ∷ [] }) ≡ lines_read p s ++ ws ∷ []
schedule_made p s line ws lines words =
    ap (λ (x : List Line). head_lines s (device_lines 0 s.devices ++ (skip_lines s.skip ++ (actor_lines 0 s.actors ++ x)))) (map_push schedule_words s.schedule line ∙ ap (λ (x : Line). map schedule_words s.schedule ++ x ∷ []) (sym words))
    ∙ ap (head_lines s) (three_more (device_lines 0 s.devices) (skip_lines s.skip) (actor_lines 0 s.actors) (map schedule_words s.schedule) ws)
    ∙ ap (λ (x : List Line). x ++ ws ∷ []) (sym lines)

turns_made : (set : Words) (p : Part) (s : Program) (n k : ℕ) (ws : Line) → BeforeTurns p s → IsBuilt set s → (set.several_turns || eqb (run_lines s.schedule) 0) ≡ true → (nat_le 1 k && nat_le k 1000000) ≡ true → nat_lt n (length s.actors) ≡ true → run_lines s.schedule < 100000 → ws ≡ schedule_words (Run n k) → Goes set p s ws (state Turns (record s { schedule = s.schedule ++ Run n k ∷ [] }))
turns_made set p s n k ws q b one range declared few words =
    let i = q.script in
    record {
      reached = (
        record {
          frames = i.frames;
          devices = i.devices;
          few_devices = i.few_devices;
          skip = i.skip;
          few_actors = i.few_actors;
          ops = i.ops;
          few_ops = i.few_ops;
          schedule = fits_run (length s.actors) s.schedule n k q.runs i.schedule range declared;
          few_lines = omega (arith, run_lines_run s.schedule n k);
          version = i.version;
        },
        runs-push s.schedule n k q.runs,
      );
      built = record { ops = b.ops; skip = b.skip; drain = rw (runs_no_drain (s.schedule ++ Run n k ∷ []) (runs-push s.schedule n k q.runs)) (or_right set.drain true refl); version = b.version; actors = b.actors; turns = rw (run_lines_run s.schedule n k) (one_more set.several_turns (run_lines s.schedule) one) };
      lines = schedule_made p s (Run n k) ws q.lines words;
    }

pub turns_goes : (set : Words) (p : Part) (s : Program) (ws : Line) (t : State) → allows p keyword.Turns ≡ true → permits set s keyword.Turns ≡ true → Reached p s → IsBuilt set s → word 0 ws ≡ codes "turns" → step keyword.Turns (state p s) ws ≡ Ok t → Goes set p s ws t
unfolding step
turns_goes set p s ws t a m r b w e =
    let made : ℕ → ℕ → State = λ n k. state Turns (record s { schedule = s.schedule ++ Run n k ∷ [] }) in
    let make : ℕ → ℕ → Result State Reason = λ n k. demand (nat_le 1 k && nat_le k 1000000) Range >>= λ _. demand (nat_lt n (length s.actors)) Undeclared >>= λ _. demand (nat_lt (run_lines s.schedule) 100000) Limit >>= λ _. Ok (made n k) in
    let k = two-takes number decimal Fits64 numbers number decimal Fits64 numbers make ws t e in
    let q = demand_ok (nat_le 1 k.b && nat_le k.b 1000000) Range _ t k.made in
    let d = demand_ok (nat_lt k.a (length s.actors)) Undeclared _ t q.1 in
    let l = demand_ok (nat_lt (run_lines s.schedule) 100000) Limit _ t d.1 in
    goes_to set p s ws _ t l.1 (turns_made set p s k.a k.b ws (before_turns p s a r) b m q.0 d.0 (ltb-true (run_lines s.schedule) 100000 l.0) (k.words ∙ ap (λ (x : List ℕ). x ∷ decimal k.a ∷ decimal k.b ∷ []) w))

one_word : (ws : Line) → length ws ≡ 1 → ws ≡ word 0 ws ∷ []
one_word [] e = absurd (omega arith)
one_word (w ∷ []) e = refl
one_word (w ∷ x ∷ ws) e = absurd (omega arith)

drain_made : (set : Words) (p : Part) (s : Program) (ws : Line) → BeforeTurns p s → IsBuilt set s → set.drain ≡ true → ws ≡ schedule_words schedule.Drain → Goes set p s ws (state Drained (record s { schedule = s.schedule ++ schedule.Drain ∷ [] }))
drain_made set p s ws q b has words =
    let i = q.script in
    record {
      reached = record {
        frames = i.frames;
        devices = i.devices;
        few_devices = i.few_devices;
        skip = i.skip;
        few_actors = i.few_actors;
        ops = i.ops;
        few_ops = i.few_ops;
        schedule = fits_drain (length s.actors) s.schedule q.runs i.schedule;
        few_lines = omega (arith, run_lines_drain s.schedule, i.few_lines);
        version = i.version;
      };
      built = record { ops = b.ops; skip = b.skip; drain = or_left set.drain (not (has_drain (s.schedule ++ schedule.Drain ∷ []))) has; version = b.version; actors = b.actors; turns = rw (run_lines_drain s.schedule) b.turns };
      lines = schedule_made p s schedule.Drain ws q.lines words;
    }

pub drain_goes : (set : Words) (p : Part) (s : Program) (ws : Line) (t : State) → allows p keyword.Drain ≡ true → permits set s keyword.Drain ≡ true → Reached p s → IsBuilt set s → word 0 ws ≡ codes "drain" → step keyword.Drain (state p s) ws ≡ Ok t → Goes set p s ws t
unfolding step
drain_goes set p s ws t a m r b w e =
    let k = shape_ok 1 ws _ t e in
    goes_to set p s ws _ t k.2 (drain_made set p s ws (before_drain p s a r) b m (one_word ws k.0 ∙ ap (λ (x : List ℕ). x ∷ []) w))
