use Rattle.std.proofs.Common.{◌&&◌, not, Option, sym, ap, ◌∙◌}
use Rattle.hm_base.specs.declared.Frame.{Frame}
use Rattle.hm_base.specs.PlaceWords.{is_frame}
use Rattle.hm_history.specs.Memory.Places.{is_removed, lowest_free, one_writer, places_next}
use Rattle.hm_history.specs.declared.Kind.{Kind}
use Rattle.hm_folds.proofs.PlaceAccepts.{and_else, and_last, and_then}
use Rattle.hm_flaw_states.specs.States.{all_places}
use Rattle.hm_flaw_states.proofs.Tidying.{free_lowest, take_one}
use Rattle.hm_flaw_states.proofs.here.FlawHere.may_take.Goals as goal

pub returns-then-is_frame : goal.returns-then-is_frame
returns-then-is_frame c =
    let s = all_places c.args.self.now.state.now in
    let p = c.args.self.now.script.now in
    let f = c.args.frame.now in
    let next = sym (c.is_frame.ensures ∙ ap (λ (o : Option Frame). is_frame o f) c.lowest_free.ensures) ∙ c.if-is_frame.true in
    ap not c.is_of_removed.ensures
    ∙ (and_then (is_frame (lowest_free p s f.pool) f) (not (is_removed s f.pool)) next
    ∙ and_last _ _ (take_one s c.requires f (free_lowest p s f next)))

pub returns-else-is_frame : goal.returns-else-is_frame
returns-else-is_frame c =
    let s = all_places c.args.self.now.state.now in
    let p = c.args.self.now.script.now in
    let f = c.args.frame.now in
    c.if-is_frame.false
    ∙ ap (λ b. b && one_writer (places_next s (Kind.Take f))) (and_else (is_frame (lowest_free p s f.pool) f) (not (is_removed s f.pool)) (sym (c.is_frame.ensures ∙ ap (λ (o : Option Frame). is_frame o f) c.lowest_free.ensures) ∙ c.if-is_frame.false))
