use Rattle.std.proofs.Common.{ap, sym, ◌∙◌, arith}
use Rattle.std.specs.Prelude.{if◌then◌else◌}
use Rattle.hm_history.specs.Memory.Words.{page_of}
use Rattle.hm_history.specs.Memory.Plain.{owned}
use Rattle.hm_history.specs.Memory.Places.{cpu_reads, cpu_writes, table_reads, table_writes}
use Rattle.hm_folds.specs.Standing.{may_access}
use Rattle.hm_folds.specs.Places.{owners_of}
use Rattle.hm_folds.proofs.Writes.{read_at}
use Rattle.hm_folds.proofs.places.PlaceState.may_access.Goals as goal

pub returns-in-Cpu : goal.returns-in-Cpu
returns-in-Cpu c = λ p s h.
    c.cpu_may.ensures ∙ ap (λ z. if c.args.writes then cpu_writes z else cpu_reads z) (c.place_at.ensures p s h)
    ∙ ap (λ x. may_access (owners_of c.args.self.now) s x c.args.addr c.args.writes) (sym c.in-Cpu.is)

pub returns-in-Some : goal.returns-in-Some
returns-in-Some c = λ p s h.
    let m = c.in-Mirror.mirror in
    let v = page_of c.args.addr in
    let owner = sym c.in-Some.is ∙ read_at (λ o. o) c.args.self.now.owners c.number.result m _ c.number.ensures.same (omega arith) in
    c.table_may.ensures p s h ∙ ap (λ o. owned o (λ q. if c.args.writes then table_writes s m q v else table_reads s m q v)) owner
    ∙ ap (λ x. may_access (owners_of c.args.self.now) s x c.args.addr c.args.writes) (sym c.in-Mirror.is)
