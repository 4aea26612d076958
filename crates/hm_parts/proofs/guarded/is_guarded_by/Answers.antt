use Rattle.std.proofs.Common.{◌||◌, not, sym, ap, ◌∙◌}
use Rattle.hm_base.specs.declared.Place.{Place}
use Rattle.hm_folds.specs.Kept.{sequences_of}
use Rattle.hm_history.specs.Memory.Lookups.{is_guarded, loses, narrows_guarded}
use Rattle.hm_history.specs.declared.Kind.{Kind}
use Rattle.hm_parts.proofs.guarded.is_guarded_by.Goals as goal

pub returns-in-Place : goal.returns-in-Place
returns-in-Place c = λ script s shown.
    let t = sequences_of c.args.sequences.now in
    let a = c.args.entry.now.actor in
    c.is_page_guarded.ensures
    ∙ ap (λ (y : Place). not (loses y c.in-Place.place) || is_guarded t a c.in-Place.proc c.in-Place.page) (c.place-before.ensures script s shown)
    ∙ ap (λ (k : Kind). narrows_guarded t s.place a k) (sym c.in-Place.is)
