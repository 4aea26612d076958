-- The outcomes of a race, as conditions see them.
use Rattle.std.proofs.Common.{◌≡◌, ℕ, ◌++◌, inl, inr, List, [], ◌∷◌, refl, sym, ap, ◌∙◌}
use Rattle.hm_history.specs.Kernel.Run.{run}
use Rattle.hm_race_laws.specs.Closed.{IsListed}
use Rattle.hm_race_top.specs.Text.Conditions.Laws.{SameEnd}
use Rattle.hm_race_lines.specs.Answers.{answer_lines}
use Rattle.hm_race_top.specs.Text.Laws.{lines_of}
use Rattle.hm_race_top.specs.declared.text.block.OutcomeBlock.{OutcomeBlock}
use Rattle.hm_race_top.specs.Laws.{AllIsListed, TrueIsReal}
use Rattle.hm_race_top.specs.Ways.{IsTrueOf}

-- a block with these lines
record With (bs : List OutcomeBlock) (lines : List ℕ) : Type 0 where
  block : OutcomeBlock
  listed : IsListed bs block
  same : block.lines ≡ lines

with_lines : (bs : List OutcomeBlock) (lines : List ℕ) → IsListed (lines_of bs) lines → With bs lines
with_lines [] lines l = absurd l
with_lines (b ∷ bs) lines (inl e) = record { block = b; listed = inl refl; same = e }
with_lines (b ∷ bs) lines (inr l) = let f = with_lines bs lines l in record { block = f.block; listed = inr f.listed; same = f.same }

pub true_is_real : SameEnd → TrueIsReal
true_is_real same c bs are lines l = record {
  entries = t.ends.entries;
  ends = record { due = t.ends.due; ended = sym (same c t.way.turns (run c ++ t.ends.entries)) ∙ t.ends.ended };
  same = ap answer_lines t.ends.answers ∙ ap (λ (b : OutcomeBlock). b.lines) t.block ∙ f.same;
}
  where
    f : With bs lines
    f = with_lines bs lines l

    t : IsTrueOf c f.block
    t = are f.block f.listed

pub all_is_listed : AllIsListed
all_is_listed c bs all es ends = all es ends.due ends.ended
