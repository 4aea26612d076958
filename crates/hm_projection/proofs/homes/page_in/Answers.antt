use Rattle.std.proofs.Common.{sym, ap, ◌∙◌, [], ◌∷◌}
use Rattle.hm_phases.specs.Items.{phases_of}
use Rattle.hm_phases.specs.declared.items.Items.{Items}
use Rattle.hm_protocol.specs.Projection.{page_in}
use Rattle.hm_projection.specs.Told.{page_or}
use Rattle.hm_projection.proofs.Parts.{first_decides}
use Rattle.hm_projection.proofs.homes.page_in.Goals as goal

pub returns-in-Two : goal.returns-in-Two
returns-in-Two c =
    let o = c.args.op.now in
    c.page_or-in-Two-2.ensures ∙ ap (page_or o c.in-Two.a) (c.page_or-in-Two.ensures ∙ ap (page_or o c.in-Two.b) c.new-none.ensures ∙ sym (first_decides o c.in-Two.b []))
    ∙ sym (first_decides o c.in-Two.a (c.in-Two.b ∷ [])) ∙ ap (λ (z : Items). page_in o (phases_of z)) (sym c.in-Two.is)

pub returns-in-Three : goal.returns-in-Three
returns-in-Three c =
    let o = c.args.op.now in
    c.page_or-in-Three-3.ensures
    ∙ ap (page_or o c.in-Three.a) (c.page_or-in-Three-2.ensures
    ∙ ap (page_or o c.in-Three.b) (c.page_or-in-Three.ensures ∙ ap (page_or o c.in-Three.c) c.new-none.ensures ∙ sym (first_decides o c.in-Three.c []))
    ∙ sym (first_decides o c.in-Three.b (c.in-Three.c ∷ [])))
    ∙ sym (first_decides o c.in-Three.a (c.in-Three.b ∷ c.in-Three.c ∷ [])) ∙ ap (λ (z : Items). page_in o (phases_of z)) (sym c.in-Three.is)
