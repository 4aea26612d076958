use Rattle.std.proofs.Common.{sym, ap, ◌∙◌, count_by}
use Rattle.hm_base.specs.PlaceWords.{is_frame, names}
use Rattle.hm_base.specs.declared.Place.{Place}
use Rattle.hm_race_keys.specs.declared.sparse.Item.{Item}
use Rattle.hm_race_keys.proofs.Listing.{count_is}
use Rattle.hm_race_keys.proofs.page_places.Places.uses.Goals as goal

pub returns : goal.returns
returns c =
    c.count_named.ensures ∙ (ap (count_by (λ (x : Item Place). is_frame (names x.value) c.args.frame.now)) c.items.ensures.same ∙ sym (count_is (λ x. is_frame (names x) c.args.frame.now) c.args.self.now c.items.ensures.rising))
