use Rattle.std.proofs.Common.{◌≡◌, Some, None, sym, ap, ◌∙◌}
use Rattle.hm_base.specs.declared.Place.{Place}
use Rattle.hm_race_keys.specs.PagePlaces.{first_item}
use Rattle.hm_race_keys.specs.declared.sparse.Item.{Item}
use Rattle.hm_race_keys.specs.Questions.{names_so}
use Rattle.hm_race_keys.proofs.Listing.{lowest_is, found_in_range}
use Rattle.hm_race_keys.proofs.page_places.Places.lowest_naming.Goals as goal

pub new-requires : goal.new-requires
new-requires c =
    let t = λ (x : Item Place). names_so c.args.naming x.value c.args.frame.now in
    let at : first_item t c.args.self.now ≡ Some (c.in-Some.row, c.in-Some.number) = cc (c.in-Some.ensures, c.items.ensures.same) in
    (found_in_range t c.args.self.now c.in-Some.row c.in-Some.number c.items.ensures.placed c.items.ensures.rising at).0

pub new-requires-in-Some : goal.new-requires-in-Some
new-requires-in-Some c =
    let t = λ (x : Item Place). names_so c.args.naming x.value c.args.frame.now in
    let at : first_item t c.args.self.now ≡ Some (c.in-Some.row, c.in-Some.number) = cc (c.in-Some.ensures, c.items.ensures.same) in
    (found_in_range t c.args.self.now c.in-Some.row c.in-Some.number c.items.ensures.placed c.items.ensures.rising at).1

pub returns-in-None : goal.returns-in-None
returns-in-None c =
    let t = λ (x : Item Place). names_so c.args.naming x.value c.args.frame.now in
    let at : first_item t c.args.self.now ≡ None = cc (c.in-None.ensures, c.items.ensures.same) in
    sym (lowest_is (λ p v y. names_so c.args.naming y c.args.frame.now) c.args.self.now c.items.ensures.rising ∙ at)

pub returns-in-Some : goal.returns-in-Some
returns-in-Some c =
    let t = λ (x : Item Place). names_so c.args.naming x.value c.args.frame.now in
    let at : first_item t c.args.self.now ≡ Some (c.in-Some.row, c.in-Some.number) = cc (c.in-Some.ensures, c.items.ensures.same) in
    ap (λ p. Some (p, c.new-in-Some.result)) c.new.ensures ∙ (ap (λ v. Some (c.in-Some.row, v)) c.new-in-Some.ensures ∙ sym (lowest_is (λ p v y. names_so c.args.naming y c.args.frame.now) c.args.self.now c.items.ensures.rising ∙ at))
