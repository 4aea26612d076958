use Rattle.std.proofs.Common.{◌≡◌, ℕ, ◌+◌, ◌-◌, List, ◌++◌, map}
use Rattle.std.specs.Prelude.{Option, None}
use Rattle.hm_history.specs.Memory.Words.{numbers}
use Rattle.hm_report.specs.Line.{spaced}
use Rattle.hm_why.specs.Changes.{last_change, pending, IsAhead}
use Rattle.hm_why.specs.Loads.{source_text}
use Rattle.hm_why.specs.Writers.{source_in}
use Rattle.hm_why.proofs.text.add_sources.Given as goal

-- the sources of the bytes so far were added; those of the bytes that follow are known from the changes to come
pub record SoFar (source : ℕ → Option ℕ) (first text : List ℕ) (addr byte end : ℕ) (held : Option ℕ) (ahead : List (ℕ × Option ℕ)) : Type 0 where
  pub change : ℕ → Option (Option ℕ)
  pub is : (b : ℕ) → source b ≡ last_change change b
  pub lines : text ≡ first ++ spaced (map source_text (map source (numbers addr (byte - addr))))
  pub entry : change byte ≡ None → last_change change byte ≡ held
  pub rest : IsAhead change ahead byte end

abbrev pub invariant-loop-byte : goal.invariant-loop-byte
invariant-loop-byte l = SoFar (source_in l.writers l.fn.proc) l.fn.text l.text l.addr l.byte (l.addr + l.len) l.source (pending l.next l.points)
