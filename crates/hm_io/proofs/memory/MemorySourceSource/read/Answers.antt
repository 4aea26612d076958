use Rattle.std.proofs.Common.{◌≡◌, ◌+◌, [], length, take, drop, Some, refl, sym, ap, ◌∙◌, arith}
use Rattle.std.proofs.lemmas.List.{nil_from_length}
use Rattle.hm_io.proofs.Fronts.{rest_of, front_copied}
use Rattle.hm_io.proofs.memory.MemorySourceSource.read.Goals as goal

pub returns-then-count-eq0-clause-bytes : goal.returns-then-count-eq0-clause-bytes
returns-then-count-eq0-clause-bytes c =
    let rest = rest_of c.self.inside.bytes _ c.self.inside.at c.as_slice.ensures in
    let none : drop c.self.inside.at c.self.inside.bytes ≡ [] = nil_from_length _ (omega (arith, ap length rest, c.min-count.ensures, c.min.ensures, c.if-count-eq0.true, c.self.invariant.some, c.requires)) in
    (sym (ap (λ s. s.left) c.self.view_is) ∙ none, ap Some none)

pub returns-clause-bytes : goal.returns-clause-bytes
returns-clause-bytes c =
    let bytes = c.self.inside.bytes in
    let at = c.self.inside.at in
    let n = c.min-count.result in
    let copied = c.copy_from_slice.ensures.after ∙ ap (take n) (rest_of bytes _ at c.as_slice.ensures) in
    (drop (at + n) bytes, sym (ap (λ s. s.left) c.self.view_is) ∙ front_copied bytes _ c.args.into.now at n (omega (arith, c.min-count.ensures, c.min.ensures)) c.copy_from_slice.ensures.len copied, refl)
