use Rattle.std.proofs.Common.{◌≡◌, true, false, sym, ap, ◌∙◌}
use Rattle.std.specs.Prelude.{◌||◌}
use Rattle.std.specs.List.{list_any}
use Rattle.hm_base.specs.PlaceWords.{is_frame, names}
use Rattle.hm_race_keys.specs.Questions.{named_beside}
use Rattle.hm_race_keys.proofs.Naming.{named_after}
use Rattle.hm_race_keys.proofs.page_places.Places.is_named_after.Goals as goal

pub returns-then-is_frame : goal.returns-then-is_frame
returns-then-is_frame c =
    let beside = named_beside c.args.proc c.args.page c.args.frame.now in
    let yes : is_frame (names c.args.place.now) c.args.frame.now ≡ true = cc (c.names.ensures, c.is_frame.ensures, c.if-is_frame.true) in
    c.if-is_frame.true ∙ (ap (λ b. b || list_any beside c.args.self.now) (sym yes) ∙ sym (named_after c.args.proc c.args.page c.args.place.now c.args.frame.now c.args.self.now c.items-items.ensures.rising))

pub returns-else-is_frame : goal.returns-else-is_frame
returns-else-is_frame c =
    let beside = named_beside c.args.proc c.args.page c.args.frame.now in
    let no : is_frame (names c.args.place.now) c.args.frame.now ≡ false = cc (c.names.ensures, c.is_frame.ensures, c.if-is_frame.false) in
    let this : c.is_named_beside.result ≡ list_any beside c.args.self.now = cc (c.is_named_beside.ensures, c.items-items.ensures.same, c.number.ensures.same, c.number-else-is_frame.ensures.same) in
    this ∙ (ap (λ b. b || list_any beside c.args.self.now) (sym no) ∙ sym (named_after c.args.proc c.args.page c.args.place.now c.args.frame.now c.args.self.now c.items-items.ensures.rising))
