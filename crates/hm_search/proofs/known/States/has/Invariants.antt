use Rattle.std.proofs.Common.{◌≡◌, ℕ, ◌+◌, ◌<◌, Some, None, length, get_or}
use Rattle.hm_search.specs.Buckets.{slot_in}
use Rattle.hm_search.specs.Values.{key_forms}
use Rattle.hm_search.proofs.Chains.{UpTo, StandsIn}
use Rattle.hm_search.proofs.known.States.has.Given as goal

-- the walk stands in the bucket's slot, and a state of the key's form is still to come
abbrev pub invariant-loop-next : goal.invariant-loop-next
invariant-loop-next g l =
    let forms = key_forms g.K.SearchKey.form l.self.known.items in
    let key = g.K.SearchKey.form l.key in
    record {
      stands : StandsIn l.self.buckets (length l.self.known.items) (slot_in l.self.buckets.slots l.bucket) l.next;
      left : (i : ℕ) → i < length l.self.known.items → get_or forms i key ≡ key → UpTo l.next i;
    }

abbrev pub decreases-loop-next : goal.decreases-loop-next
decreases-loop-next g l = elim l.next as (λ z. ℕ) [ None ↦ 0 | Some at ↦ at + 1 ]
