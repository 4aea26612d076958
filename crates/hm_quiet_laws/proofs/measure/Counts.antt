-- What the script allows: mirrors, processes and mapped pages.
use Rattle.std.specs.Prelude.{◌≡◌, ℕ, zero, suc, ◌+◌, ◌<◌, ◌≤◌, Bool, true, false, ◌==◌, is_some, sum_by, take}
use Rattle.std.specs.List.{list_any}
use Rattle.hm_base.specs.Program.{Program}
use Rattle.hm_base.specs.declared.Frame.{Frame}
use Rattle.hm_base.specs.declared.ops.Op.{Op}
use Rattle.hm_history.specs.Memory.Words.{is_empty_place}
use Rattle.hm_history.specs.Kernel.Quiet.{attaches, mapped_pages, over_ops, process_count, page_count}
use Rattle.hm_history.specs.Memory.After.{After}
use Rattle.hm_history.specs.Kernel.Going.{State, ops_of}
use Rattle.hm_quiet_laws.proofs.measure.Left.{count_upto, pages_from, view, direct_at, moving_at}

-- the operation attaches this mirror
abbrev pub is_attach_of : ℕ → Op → Bool
is_attach_of m (Op.Attach k d p r) = k == m
is_attach_of m o = false

-- the operation forks to this process
abbrev pub is_fork_to : ℕ → Op → Bool
is_fork_to q (Op.Fork p d) = d == q
is_fork_to q o = false

-- some actor of the script has such an operation
abbrev pub some_op : (Op → Bool) → Program → Bool
some_op t c = list_any (λ os. list_any t os) c.actors

-- the pages of the `map` operations that have ended
abbrev pub sum_upto : (ℕ → ℕ) → ℕ → ℕ
sum_upto f zero = 0
sum_upto f (suc n) = sum_upto f n + f n

-- of one actor's first so many operations
abbrev pub mapped_by : Program → ℕ → ℕ → ℕ
mapped_by c b i = sum_by mapped_pages (take i (ops_of c b))

-- of all actors' operations that have ended
abbrev pub mapped_so_far : Program → State → ℕ
mapped_so_far c u = sum_upto (λ b. mapped_by c b (u.going b).index) 16

-- each mirror that came is attached by an operation of the script, each named process is the child of one, and no process
-- has more mapped pages than were mapped
pub record Counted (c : Program) (u : State) : Type 0 where
  pub mirrors : (m : ℕ) → is_some (u.after.sequences.interval m) ≡ true → some_op (is_attach_of m) c ≡ true
  pub names : (q : ℕ) → u.after.plain.named q ≡ true → some_op (is_fork_to q) c ≡ true
  pub pages : (p : ℕ) → pages_from 0 (u.after.plain.areas p) ≤ mapped_so_far c u

-- so there are few of each
pub record Few (c : Program) (s : After) : Type 0 where
  pub mirrors : count_upto (λ m. is_some (s.sequences.interval m)) 32 ≤ over_ops attaches c
  pub uses : (f : Frame) (v : ℕ) → direct_at (view s) f v + moving_at (view s) f v ≤ process_count c
  pub pages : (p : ℕ) → pages_from 0 (s.plain.areas p) ≤ page_count c
  pub few_processes : (q v : ℕ) → is_empty_place (s.places.place q v) ≡ false → q < 32
