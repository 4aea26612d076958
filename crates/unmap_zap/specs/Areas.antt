-- The operations whose turn under the write lock this crate has.
use Rattle.std.specs.Prelude.{Bool, true, false}
use Rattle.hm_base.specs.declared.ops.Op.{Op}

-- a fork, whose turn under the mmap lock for writing is in cow_fork
abbrev pub is_fork : Op → Bool
is_fork (Op.Fork p c) = true
is_fork _ = false
