-- Each script uses only words of the whole grammar.
use Rattle.std.proofs.Common.{◌≡◌, true, List, [], ◌∷◌, refl}
use Rattle.std.specs.List.{list_all}
use Rattle.std.specs.Prelude.{ℕ, Result, Ok, Err, IfOk}
use Rattle.hm_base.specs.Program.{Program, IsScript}
use Rattle.hm_base.specs.declared.ops.Op.{Op}
use Rattle.hm_base.specs.declared.ops.Op.TheVariants.{Map, Unmap, Protect, Load, Store, Fork, Exit, Attach, Detach, DeviceLoad, DeviceStore, ToDevice, ToSystem, Snap, Evict, Remove, Exclusive, Add}
use Rattle.hm_script.specs.declared.words.Words.{Words}
use Rattle.hm_script.specs.declared.words.TheConstants.{ALL_WORDS}
use Rattle.hm_script.specs.Built.{IsBuilt, uses}
use Rattle.hm_script.specs.Spelling.{text}
use Rattle.hm_script.specs.Reader.{Reads, OnRefused}
use Rattle.hm_script.specs.BadLine.{SharesLinesOf, IsFirstBadOf, IsFirstBad}
use Rattle.hm_script.specs.declared.reason.ScriptError.{ScriptError}
use Rattle.hm_script.specs.declared.reason.ScriptError.TheVariants as errors

abbrev pub whole : Words
whole = ALL_WORDS

used : (op : Op) → uses whole op ≡ true
used (Map p s r) = refl
used (Unmap p s) = refl
used (Protect p s r) = refl
used (Load p a n) = refl
used (Store p a b) = refl
used (Fork p c) = refl
used (Exit p) = refl
used (Attach m d p s) = refl
used (Detach m) = refl
used (DeviceLoad m a n) = refl
used (DeviceStore m a b) = refl
used (ToDevice m s) = refl
used (ToSystem m s) = refl
used (Snap m s) = refl
used (Evict d) = refl
used (Remove d) = refl
used (Exclusive m v) = refl
used (Add m a k) = refl

all_used : (ops : List Op) → list_all (uses whole) ops ≡ true
all_used [] = refl
all_used (op ∷ ops) = rw (used op, all_used ops) refl

each_used : (actors : List (List Op)) → list_all (list_all (uses whole)) actors ≡ true
each_used [] = refl
each_used (ops ∷ actors) = rw (all_used ops, each_used actors) refl

pub all_built : (s : Program) → IsBuilt whole s
all_built s = record { ops = each_used s.actors; skip = refl; drain = refl; version = refl; actors = refl; turns = refl }

-- so what is read of the whole grammar is of every script
pub whole_found : (bytes : List ℕ) (r : Result Program ScriptError) → IfOk r (λ s. (text s ≡ bytes) × IsBuilt whole s) → IfOk r (λ s. text s ≡ bytes)
whole_found bytes (Ok s) h = h.0
whole_found bytes (Err e) h = tt

pub whole_only : (bytes : List ℕ) (r : Result Program ScriptError) → ((s : Program) → IsScript s → IsBuilt whole s → text s ≡ bytes → Reads r (Ok s)) → (s : Program) → IsScript s → text s ≡ bytes → Reads r (Ok s)
whole_only bytes r h s is e = h s is (all_built s) e

first_bad : (bytes : List ℕ) (n : ℕ) → IsFirstBadOf whole bytes n → IsFirstBad bytes n
first_bad bytes n h = record {
  bad = λ s x. h.bad s (record { script = x.script; built = all_built s; shares = x.shares });
  before = λ k l. let x : (s : Program) × SharesLinesOf whole bytes k s = h.before k l in (x.0, record { script = x.1.script; shares = x.1.shares });
}

pub whole_first : (bytes : List ℕ) (r : Result Program ScriptError) → OnRefused r (λ q. IsFirstBadOf whole bytes q.line) → OnRefused r (λ q. IsFirstBad bytes q.line)
whole_first bytes (Ok s) h = tt
whole_first bytes (Err errors.NoMemory) h = tt
whole_first bytes (Err (errors.Refused q)) h = first_bad bytes q.line h
