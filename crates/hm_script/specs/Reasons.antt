-- The numbers and texts of the reasons, and what is said of a script that was not read.
use Rattle.std.specs.Prelude.{ℕ, List, ◌++◌, codes}
use Rattle.std.specs.Fmt.{decimal}
use Rattle.hm_script.specs.declared.reason.Reason.{Reason}
use Rattle.hm_script.specs.declared.reason.Refused.{Refused}
use Rattle.hm_script.specs.declared.reason.ScriptError.{ScriptError}
use Rattle.hm_script.specs.declared.reason.Reason.TheVariants.{LineEnd, Header, Word, Shape, Number, Range, Undeclared}
use Rattle.hm_script.specs.declared.reason.Reason.TheVariants.{Limit}

-- an order of the reasons, so that two of them can be compared
abbrev pub reason_number : Reason → ℕ
reason_number Header = 1
reason_number LineEnd = 2
reason_number Word = 3
reason_number Shape = 4
reason_number Number = 5
reason_number Range = 6
reason_number Limit = 7
reason_number Undeclared = 8

-- what standard error says of the reason
abbrev pub reason_text : Reason → List ℕ
reason_text LineEnd = codes "bad line end or byte"
reason_text Header = codes "bad header"
reason_text Word = codes "bad word"
reason_text Shape = codes "bad shape"
reason_text Number = codes "bad number"
reason_text Range = codes "out of range"
reason_text Undeclared = codes "not declared"
reason_text Limit = codes "too many"

-- the first bad line and its reason
abbrev pub refused_text : Refused → List ℕ
refused_text r = codes "script line " ++ (decimal r.line ++ (codes ": " ++ reason_text r.why))

-- why the bytes were not read
abbrev pub error_text : ScriptError → List ℕ
error_text (ScriptError.Refused r) = refused_text r
error_text ScriptError.NoMemory = codes "out of memory"
