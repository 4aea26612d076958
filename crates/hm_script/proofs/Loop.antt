-- The loop over the lines.
use Rattle.std.proofs.Common.{◌≡◌, ℕ, ◌+◌, List, [], ◌∷◌, length, Result, Ok, Err, refl, sym, ap, ◌∙◌, arith}
use Rattle.std.specs.Prelude.{IfOk}
use Rattle.hm_base.specs.Program.{Program, IsScript}
use Rattle.hm_script.specs.declared.reason.Reason.{Reason}
use Rattle.hm_script.specs.declared.reason.Refused.{Refused}
use Rattle.hm_script.specs.declared.reason.ScriptError.{ScriptError}
use Rattle.hm_script.specs.declared.reason.ScriptError.TheVariants as errors
use Rattle.hm_script.specs.declared.reason.LineError.{LineError}
use Rattle.hm_script.specs.declared.reason.LineError.TheVariants as line_errors
use Rattle.hm_script.specs.Gives.{Fails}
use Rattle.hm_script.specs.declared.words.Words.{Words}
use Rattle.hm_script.specs.Built.{IsBuilt}
use Rattle.hm_script.specs.Spelling.{text}
use Rattle.hm_script.specs.Automaton.{State, lines, next, run, finish, refused, start, reading}
use Rattle.hm_script.specs.Reader.{Reads, OnRefused, error_at}
use Rattle.hm_script.specs.BadLine.{IsFirstBadOf}
use Rattle.hm_script.proofs.TextTaken.{reading_takes}
use Rattle.hm_script.proofs.Again.{reading_again}
use Rattle.hm_script.proofs.FirstBad.{first_bad}
use Rattle.hm_script.proofs.Whole.{whole, all_built}

pub begins : (set : Words) (bytes : List ℕ) (t : State) → t ≡ start → run set 1 t (lines bytes) ≡ reading set bytes
unfolding reading
begins set bytes t e = rw e refl

pub goes_on : (set : Words) (n : ℕ) (t u : State) (rest l after : List ℕ) → lines rest ≡ l ∷ lines after → next set t l ≡ Ok u → run set n t (lines rest) ≡ run set (n + 1) u (lines after)
unfolding run
goes_on set n t u rest l after cut e = rw (cut, e) refl

pub stops : (set : Words) (n : ℕ) (t : State) (rest l after : List ℕ) (r : Reason) → lines rest ≡ l ∷ lines after → next set t l ≡ Err r → run set n t (lines rest) ≡ Err (refused n r)
unfolding run
stops set n t rest l after r cut e = rw (cut, e) refl

pub stops_with : (set : Words) (n : ℕ) (t : State) (rest l after : List ℕ) (e : LineError) (total : Result Program Refused) → lines rest ≡ l ∷ lines after → Fails e (next set t l) → run set n t (lines rest) ≡ total → Reads (Err (error_at n e)) total
stops_with set n t rest l after (line_errors.Bad r) total cut e so_far = sym so_far ∙ stops set n t rest l after r cut e
stops_with set n t rest l after line_errors.NoMemory total cut e so_far = tt

pub ends : (set : Words) (n : ℕ) (t : State) (rest : List ℕ) → length rest ≡ 0 → run set n t (lines rest) ≡ finish n t
unfolding run
ends set n t [] e = refl
ends set n t (b ∷ rest) e = absurd (omega arith)

pub is_script : (set : Words) (bytes : List ℕ) (r : Result Program Refused) → r ≡ reading set bytes → IfOk r IsScript
is_script set bytes (Ok s) e = (reading_takes set bytes s (sym e)).0
is_script set bytes (Err e) h = tt

pub is_found : (set : Words) (bytes : List ℕ) (r : Result Program ScriptError) → Reads r (reading set bytes) → IfOk r (λ s. (text s ≡ bytes) × IsBuilt set s)
is_found set bytes (Ok s) h = let t = reading_takes set bytes s h in (t.1, t.2)
is_found set bytes (Err e) h = tt

pub is_only : (set : Words) (bytes : List ℕ) (r : Result Program ScriptError) → Reads r (reading set bytes) → (s : Program) → IsScript s → IsBuilt set s → text s ≡ bytes → Reads r (Ok s)
is_only set bytes (Ok x) h s fits built e = sym (reading_again set s fits built) ∙ ap (reading set) e ∙ h
is_only set bytes (Err errors.NoMemory) h s fits built e = tt
is_only set bytes (Err (errors.Refused r)) h s fits built e = sym (reading_again set s fits built) ∙ ap (reading set) e ∙ h

pub is_first : (set : Words) (bytes : List ℕ) (r : Result Program ScriptError) → Reads r (reading set bytes) → OnRefused r (λ q. IsFirstBadOf set bytes q.line)
is_first set bytes (Ok x) h = tt
is_first set bytes (Err errors.NoMemory) h = tt
is_first set bytes (Err (errors.Refused r)) h = first_bad set bytes r h

one_script : (s t : Program) (x y : Result Program Refused) → x ≡ Ok s → y ≡ Ok t → x ≡ y → s ≡ t
one_script s t x y a b e = cc

pub same_text : (s t : Program) → IsScript s → IsScript t → text s ≡ text t → s ≡ t
same_text s t a b e = one_script s t (reading whole (text s)) (reading whole (text t)) (reading_again whole s a (all_built s)) (reading_again whole t b (all_built t)) (ap (reading whole) e)
