-- The laws, as statements.
use Rattle.std.specs.Prelude.{◌≡◌, Bool, true, false, None, List}
use Rattle.hm_base.specs.Program.{Program, IsScript}
use Rattle.hm_history.specs.declared.Entry.{Entry}
use Rattle.hm_history.specs.Kernel.Legal.{Legal}
use Rattle.hm_protocol.specs.declared.events.Recorded.{Recorded}
use Rattle.hm_protocol.specs.declared.rules.Rule.{Rule}
use Rattle.hm_protocol.specs.declared.rules.Joint.{Joint}
use Rattle.hm_protocol.specs.declared.rules.Verdict.{Verdict}
use Rattle.hm_protocol.specs.Rules.{broken, fails, joint_test}
use Rattle.hm_protocol.specs.Verdicts.{verdict}
use Rattle.hm_protocol.specs.Projection.{project}

-- no legal history of a script breaks the rule
abbrev pub IsKept : Rule → Type 0
IsKept r = (c : Program) → IsScript c → (h : List Entry) → Legal c h → broken r (project c h) ≡ None

-- none breaks the joint rule
abbrev pub IsJointKept : Joint → Type 0
IsJointKept r = (c : Program) → IsScript c → (h : List Entry) → Legal c h → fails (joint_test r) (project c h) ≡ None

-- the verdict blames: the rule is broken, or may be
abbrev pub is_blame : Verdict → Bool
is_blame (Verdict.Broken i) = true
is_blame (Verdict.Maybe i) = true
is_blame v = false

-- no legal history of a script is blamed for the rule, whatever was recorded of it
abbrev pub IsCleared : Rule → Type 0
IsCleared r =
    (c : Program) → IsScript c → (x : Recorded) (h : List Entry) → Legal c h
    → is_blame (verdict x r (project c h)) ≡ false
