use Rattle.std.proofs.Common.{ℕ, ap, ◌∙◌, arith}
use Rattle.std.specs.Prelude.{◌+◌, ◌*◌, ◌&&◌, nat_le, nat_lt, if◌then◌else◌}
use Rattle.hm_folds.specs.Memory.{bytes_of}
use Rattle.hm_folds.proofs.Written.{process_set, zeros_same, read_byte}
use Rattle.hm_folds.proofs.memory.Memory.clear.Goals as goal

pub returns : goal.returns
returns c =
    let xs = c.args.self.now.processes.items in
    let p = c.args.proc in
    let from = c.number-from.result in
    let n = c.count.result in
    process_set xs c.number.result p c.clear.new.self _ c.number.ensures.same (omega arith)
    (λ a. c.clear.ensures a
    ∙ ap (λ (b : ℕ). if nat_le (from * 4096) a && nat_lt a (from * 4096 + n * 4096) then 0 else b) (read_byte xs c.number.result p c.index_mut-of_process.result.now _ a c.index_mut-of_process.ensures.value c.number.ensures.same (omega arith))
    ∙ zeros_same (bytes_of xs p) c.args.span a from n (c.number-from.ensures.same ∙ c.first.ensures.same) c.count.ensures.same)
