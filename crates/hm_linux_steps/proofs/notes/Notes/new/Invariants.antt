use Rattle.std.proofs.Common.{◌≡◌, [], map, replicate}
use Rattle.hm_linux_steps.proofs.notes.Notes.new.Given as goal

abbrev pub invariant-loop-at : goal.invariant-loop-at
invariant-loop-at l = map (λ v. v.items) l.references.items ≡ replicate l._at []
