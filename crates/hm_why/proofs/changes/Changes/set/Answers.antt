use Rattle.std.proofs.Common.{◌≡◌, ℕ, ◌<◌, ◌==◌, if◌then◌else◌, Option, Some, arith}
use Rattle.std.proofs.lemmas.Bool.Decides.{nat_tests}
use Rattle.std.proofs.lemmas.Result.{on_ok_weaker}
use Rattle.hm_why.specs.Changes.{change_at, entry_for, IsCleared}
use Rattle.hm_why.specs.declared.changes.Changes.{Changes}
use Rattle.hm_why.proofs.LastChange.{IsReplaced, replaced}
use Rattle.hm_why.proofs.changes.Changes.set.Goals as goal

-- the two changes that are put, after those between were removed
all : (old cleared one new : Changes) (from to at : ℕ) (behind : Option ℕ) → from < to → behind ≡ entry_for old to → IsCleared old cleared from to →
    ((k : ℕ) → change_at one k ≡ (if k == to then Some behind else change_at cleared k)) →
    ((k : ℕ) → change_at new k ≡ (if k == from then Some (Some at) else change_at one k)) → IsReplaced (change_at old) (change_at new) from to at
all old cleared one new from to at behind l b c o n = record {
  first = grind (arith, nat_tests, n from);
  behind = grind (arith, nat_tests, n to, o to);
  inside = λ k h i. grind (arith, nat_tests, n k, o k, c.none k);
  low = λ k h. grind (arith, nat_tests, n k, o k, c.low k);
  high = λ k h. grind (arith, nat_tests, n k, o k, c.high k);
}

pub returns : goal.returns
returns c =
    on_ok_weaker c.put-2.result
    (λ n. replaced (change_at c.args.self.now) (change_at c.put-2.new.self) c.args.from c.args.to c.args.at c.requires
    (all c.args.self.now c.clear.new.self c.put.new.self c.put-2.new.self c.args.from c.args.to c.args.at c.get-behind.result c.requires c.get-behind.ensures c.clear.ensures c.in_ok-put.ensures n))
    c.put-2.ensures
