-- The plain state that is kept.
use Rattle.std.specs.Prelude.{ℕ, Bool, true, false, not, ◌&&◌, nat_lt, is_none, Option, List, [], slice_index_or}
use Rattle.hm_base.specs.declared.ops.Op.{Op}
use Rattle.hm_history.specs.Memory.Plain.{Plain, area_refusal}
use Rattle.hm_history.specs.declared.Kind.{Kind}
use Rattle.hm_folds.specs.Been.{been_of}
use Rattle.hm_folds.specs.Memory.{bytes_of}
use Rattle.hm_folds.specs.Windows.{mirrors_of}
use Rattle.hm_spaces.specs.Spaces.{SpacesValue}
use Rattle.hm_folds.specs.declared.stored.Stored.{Stored}
use Rattle.hm_folds.specs.declared.windows.KeptMirror.{KeptMirror}
use Rattle.hm_folds.specs.declared.plain.PlainState.{PlainState}

-- of the parts that are kept
abbrev pub plain_made : SpacesValue → List Bool → List Stored → List (Option KeptMirror) → Plain
plain_made x been stored mirrors = record {
  there = λ p. slice_index_or x.there p false;
  named = λ p. slice_index_or x.named p false;
  been = been_of been;
  areas = λ p. slice_index_or x.areas p [];
  bytes = bytes_of stored;
  mirrors = mirrors_of mirrors;
}

-- the plain state of the definitions that the kept one stands for
abbrev pub plain_of : PlainState → Plain
plain_of x = plain_made x.spaces x.been x.memory.processes.items x.mirrors

-- the state with other bytes
abbrev pub with_plain_bytes : Plain → (ℕ → ℕ → ℕ) → Plain
with_plain_bytes s f = record s { bytes = f }

-- the test of an entry that changes processes or areas, as in the definition; others pass
abbrev pub accepts_process : Plain → Kind → Bool
accepts_process s (Kind.Mapped p r w) = s.there p && is_none (area_refusal s (Op.Map p r w))
accepts_process s (Kind.Unmapped p r) = s.there p && is_none (area_refusal s (Op.Unmap p r))
accepts_process s (Kind.Protected p r w) = s.there p && is_none (area_refusal s (Op.Protect p r w))
accepts_process s (Kind.Named p child) = s.there p && (nat_lt 0 child && not (s.named child))
accepts_process s (Kind.Forked p child) = s.there p && (s.named child && not (s.been child))
accepts_process s (Kind.Exited p) = s.there p
accepts_process s _ = true
