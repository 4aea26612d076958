-- What the parts say together.
use Rattle.std.proofs.Common.{◌≡◌, true, List, sym, ◌∙◌}
use Rattle.std.proofs.lemmas.Bool.{and_parts, and_from}
use Rattle.hm_base.specs.Program.{Program}
use Rattle.hm_history.specs.Kernel.Due.{due}
use Rattle.hm_history.specs.Kernel.Legal.{MayFollow}
use Rattle.hm_history.specs.declared.Entry.{Entry}
use Rattle.hm_history.specs.declared.Progress.{Progress}
use Rattle.hm_parts.specs.Parts.{AreParts, AllPartsSay, parts_hold}
use Rattle.hm_parts.specs.declared.parts.Parts.{Parts}

holds_to : (c : Program) (h : List Entry) (e : Entry) (x : Parts) → AreParts c h e x → due c h e.actor ≡ Progress.Did e → parts_hold x ≡ true → MayFollow c h e
holds_to c h e x are is_due holds =
    let b = and_parts x.answers _ holds in
    let d = and_parts x.places _ b.1 in
    let f = and_parts x.frames _ d.1 in
    let g = and_parts x.sequences _ f.1 in
    let i = and_parts x.untold _ g.1 in
    let j = and_parts x.guarded x.kept i.1 in
    record {
      is_due = is_due;
      rules = record {
        answers = sym are.answers ∙ b.0;
        places = sym are.places ∙ d.0;
        frames = sym are.frames ∙ f.0;
        sequences = sym are.sequences ∙ g.0;
        untold = sym are.untold ∙ i.0;
        guarded = sym are.guarded ∙ j.0;
      };
      kept = sym are.kept ∙ j.1;
    }

holds_from : (c : Program) (h : List Entry) (e : Entry) (x : Parts) → AreParts c h e x → MayFollow c h e → parts_hold x ≡ true
holds_from c h e x are may =
    and_from x.answers _ (are.answers ∙ may.rules.answers)
    (and_from x.places _ (are.places ∙ may.rules.places)
    (and_from x.frames _ (are.frames ∙ may.rules.frames)
    (and_from x.sequences _ (are.sequences ∙ may.rules.sequences)
    (and_from x.untold _ (are.untold ∙ may.rules.untold)
    (and_from x.guarded x.kept (are.guarded ∙ may.rules.guarded) (are.kept ∙ may.kept))))))

pub all_parts_say : AllPartsSay
all_parts_say c h e x are = (λ both. holds_to c h e x are both.0 both.1, λ may. (may.is_due, holds_from c h e x are may))
