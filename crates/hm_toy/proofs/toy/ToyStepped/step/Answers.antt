use Rattle.std.proofs.Common.{◌∷◌, [], ◌++◌, length, not, if◌then◌else◌, ap, sym, ◌∙◌, arith}
use Rattle.hm_toy.specs.Toys.{decided}
use Rattle.hm_toy.proofs.Histories.{sound_more}
use Rattle.hm_toy.proofs.toy.ToyStepped.step.Goals as goal

pub invariant_of-self-else-is_err : goal.invariant_of-self-else-is_err
invariant_of-self-else-is_err c = let items = c.self.inside.history.items in
    let size = sym (ap length c.as_slice.ensures.value) ∙ c.as_slice.ensures.len in let len = c.len-length.ensures in let room = c.if-length-ge2000000.false in
    let add = sym c.in-Add.is ∙ (c.decide.ensures ∙ ap (λ h. decided c.self.inside.script h c.args.actor) c.as_slice.ensures.value) in
    let more = c.push.ensures.items ∙ (λ k. if (c.is_err.ensures.negation ∙ ap not c.if-is_err.false) k then items ++ c.made.ensures k ∷ [] else items) in
    sound_more c.self.inside.script items _ c.args.actor c.self.invariant (omega arith) add more

pub returns-clause-after : goal.returns-clause-after
returns-clause-after c = let items = c.self.inside.history.items in
    let size = sym (ap length c.as_slice.ensures.value) ∙ c.as_slice.ensures.len in let len = c.len-length.ensures in let room = c.if-length-ge2000000.false in
    let add = sym c.in-Add.is ∙ (c.decide.ensures ∙ ap (λ h. decided c.self.inside.script h c.args.actor) c.as_slice.ensures.value) in
    let more = c.push.ensures.items ∙ (λ k. if (c.is_err.ensures.negation ∙ ap not c.if-is_err.false) k then items ++ c.made.ensures k ∷ [] else items) in
    (sound_more c.self.inside.script items _ c.args.actor c.self.invariant (omega arith) add more).legal
