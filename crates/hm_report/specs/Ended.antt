-- How far actors are, from their entries alone.
use Rattle.std.specs.Prelude.{ℕ, ◌+◌, nat_lt, true, false, Option, Some, None, List, length, fold, slice_get}
use Rattle.hm_base.specs.Program.{Program}
use Rattle.hm_base.specs.declared.ops.Op.{Op}
use Rattle.hm_history.specs.Memory.Words.{with_at}
use Rattle.hm_history.specs.Kernel.Operation.{op_pieces}
use Rattle.hm_history.specs.Kernel.Going.{ops_of}
use Rattle.hm_history.specs.declared.Kind.{Kind}
use Rattle.hm_history.specs.declared.Entry.{Entry}
use Rattle.hm_report.specs.Kinds.{is_answer, finishes}
use Rattle.hm_report.specs.declared.ended.EndedOps.{EndedOps}

-- one operation more has ended, and no piece of the next one is answered yet
abbrev pub next_operation : EndedOps → EndedOps
next_operation n = record { operations = n.operations + 1; pieces = 0 }

-- a piece was answered; the last piece ends its operation
abbrev pub answered : Op → EndedOps → EndedOps
answered o n = elim (nat_lt (n.pieces + 1) (length (op_pieces o))) [
  | true ↦ record { operations = n.operations; pieces = n.pieces + 1 }
  | false ↦ next_operation n
]

-- in this operation, after an entry of its actor
abbrev pub ended_in : Op → EndedOps → Kind → EndedOps
ended_in o n k = elim (is_answer k) [
  | true ↦ answered o n
  | false ↦ elim (finishes o k) [ true ↦ next_operation n | false ↦ n ]
]

-- after an entry of an actor that is in this operation; an actor with no operation left stays as it is
abbrev pub ended_at : Option Op → EndedOps → Kind → EndedOps
ended_at None n k = n
ended_at (Some o) n k = ended_in o n k

-- how far an actor with these operations is after one entry more of its own
abbrev pub ended_next : List Op → EndedOps → Kind → EndedOps
ended_next ops n k = ended_at (slice_get ops n.operations) n k

-- all actors after a history
abbrev pub ended_start : EndedOps
ended_start = record { operations = 0; pieces = 0 }

-- how far all actors are after one entry more; only the one whose entry it is moves
abbrev pub all_next : Program → (ℕ → EndedOps) → Entry → ℕ → EndedOps
all_next c f e = with_at f e.actor (ended_next (ops_of c e.actor) (f e.actor) e.kind)

-- how far each actor is after a history, told by its entries alone, so that the report needs no machine
abbrev pub ended_after : Program → List Entry → ℕ → EndedOps
ended_after c h = fold (all_next c) (λ a. ended_start) h
