use Rattle.std.proofs.Common.{◌≡◌, Ok, Err, ap, subst, ◌∙◌}
use Rattle.hm_base.specs.Program.{Program, IsScript}
use Rattle.hm_script.specs.Reader.{Reads}
use Rattle.hm_script.specs.Spelling.{text}
use Rattle.hm_script.specs.declared.reason.Refused.{Refused}
use Rattle.hm_script.specs.declared.reason.ScriptError.{ScriptError}
use Rattle.hm_judge.proofs.Heads.{none_reads, same_line}
use Rattle.hm_judge.proofs.head.head_fault.Goals as goal

pub returns-in-Err-Refused-clause-at_line : goal.returns-in-Err-Refused-clause-at_line
returns-in-Err-Refused-clause-at_line c =
    let bytes = c.args.bytes.now in
    ap (λ (r : Refused). r.line) c.in-Err-Refused.refused-is
    ∙ same_line bytes c.args.line _ c.requires (rw c.in-Err-Refused.field-0-is at c.in-Err-Refused.ensures.first)
    (none_reads bytes _ (subst (λ (e : ScriptError). (s : Program) → IsScript s → text s ≡ bytes → Reads (Err e) (Ok s)) c.in-Err-Refused.field-0-is c.in-Err-Refused.ensures.only))
