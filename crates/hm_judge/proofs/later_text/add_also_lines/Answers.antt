use Rattle.std.proofs.Common.{◌≡◌, ℕ, ◌<◌, ◌≤◌, zero, suc, false, List, [], ◌∷◌, length, get_or, refl, arith}
use Rattle.hm_parts.specs.declared.rules.Rules.{Rules}
use Rattle.hm_judge.proofs.LaterLines.{says_all, says_more}
use Rattle.hm_judge.proofs.later_text.add_also_lines.Goals as goal

-- what is read if nothing is there does not matter where something is
same_item : (xs : List Rules) (i : ℕ) (x y : Rules) → i < length xs → get_or xs i x ≡ get_or xs i y
same_item [] i x y l = absurd (omega (arith, l))
same_item (z ∷ xs) zero x y l = refl
same_item (z ∷ xs) (suc i) x y l = same_item xs i x y (omega (arith, l))

abbrev nothing : Rules
nothing = record {
  answers = false;
  places = false;
  frames = false;
  sequences = false;
  untold = false;
  guarded = false;
  goes_on = false;
}

pub loop-at-preserved : goal.loop-at-preserved
loop-at-preserved c =
    let at = c.loop-at.at in
    let rules = c.args.rules.now in
    let below : at < length c.args.entries.now = omega arith in
    says_more c.args.first c.args.bad at c.args.entries.now rules c.index-entries-at.result (get_or rules at nothing) c.args.text.now c.loop-at.text c.add_also_if.new.text
    below c.loop-at-test.true c.index-entries-at.is (same_item rules at nothing (get_or rules at nothing) c.loop-at-test.true) c.loop-at.invariant c.in_ok-add_also_if.ensures

pub returns : goal.returns
returns c =
    let le : length c.args.rules.now ≤ c.loop-at.at = omega arith in
    says_all c.args.first c.args.bad c.loop-at.at c.args.entries.now c.args.rules.now c.args.text.now c.loop-at.text le c.loop-at.invariant
