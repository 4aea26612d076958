use Rattle.std.proofs.Common.{◌≡◌, map, take}
use Rattle.hm_search.proofs.buckets.Buckets.doubled.Given as goal

-- the numbers of the links so far were taken over
abbrev pub invariant-loop-link : goal.invariant-loop-link
invariant-loop-link l = l.doubled.numbers ≡ map (λ k. k.number) (take l.link-index l.link-items)
