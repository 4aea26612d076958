use Rattle.std.proofs.Common.{◌≡◌, ℕ, Some, None, sym, ap, ◌∙◌}
use Rattle.std.specs.Prelude.{◌==◌, ◌&&◌, nat_le}
use Rattle.hm_base.specs.declared.Place.{Place}
use Rattle.hm_reads.specs.Cursors.{page_before}
use Rattle.hm_race_keys.specs.PagePlaces.{first_item}
use Rattle.hm_race_keys.specs.Questions.{is_wanted}
use Rattle.hm_race_keys.specs.declared.sparse.Item.{Item}
use Rattle.hm_race_keys.proofs.Listing.{next_is, found_in_range, before_end, past_end}
use Rattle.hm_race_keys.proofs.page_places.Places.next_wanted.Goals as goal

pub returns-in-None : goal.returns-in-None
returns-in-None c =
    let t = λ (n : ℕ) (x : Item Place). (x.row == n) && (nat_le c.args.from x.number && is_wanted c.args.writes x.value) in
    let at : first_item (t c.args.proc) c.args.self.now ≡ None = ap (λ n. first_item (t n) c.args.self.now) (sym c.number.ensures.same) ∙ sym (c.in-None.ensures ∙ ap (first_item (t c.number.result)) c.items.ensures.same) in
    sym (ap (page_before c.args.end) (next_is (is_wanted c.args.writes) c.args.proc c.args.from c.args.self.now None c.items.ensures.rising at))

pub new-requires : goal.new-requires
new-requires c =
    let t = λ (n : ℕ) (x : Item Place). (x.row == n) && (nat_le c.args.from x.number && is_wanted c.args.writes x.value) in
    let at : first_item (t c.args.proc) c.args.self.now ≡ Some (c.in-Some.field-0-0, c.in-Some.number) = ap (λ n. first_item (t n) c.args.self.now) (sym c.number.ensures.same) ∙ sym (c.in-Some.ensures ∙ ap (first_item (t c.number.result)) c.items.ensures.same) in
    (found_in_range (t c.args.proc) c.args.self.now c.in-Some.field-0-0 c.in-Some.number c.items.ensures.placed c.items.ensures.rising at).1

pub returns-then-number-end : goal.returns-then-number-end
returns-then-number-end c =
    let t = λ (n : ℕ) (x : Item Place). (x.row == n) && (nat_le c.args.from x.number && is_wanted c.args.writes x.value) in
    let at : first_item (t c.args.proc) c.args.self.now ≡ Some (c.in-Some.field-0-0, c.in-Some.number) = ap (λ n. first_item (t n) c.args.self.now) (sym c.number.ensures.same) ∙ sym (c.in-Some.ensures ∙ ap (first_item (t c.number.result)) c.items.ensures.same) in
    ap Some c.new.ensures ∙ (before_end c.in-Some.number c.args.end c.if-number-end.true ∙ sym (ap (page_before c.args.end) (next_is (is_wanted c.args.writes) c.args.proc c.args.from c.args.self.now (Some (c.in-Some.field-0-0, c.in-Some.number)) c.items.ensures.rising at)))

pub returns-else-number-end : goal.returns-else-number-end
returns-else-number-end c =
    let t = λ (n : ℕ) (x : Item Place). (x.row == n) && (nat_le c.args.from x.number && is_wanted c.args.writes x.value) in
    let at : first_item (t c.args.proc) c.args.self.now ≡ Some (c.in-Some.field-0-0, c.in-Some.number) = ap (λ n. first_item (t n) c.args.self.now) (sym c.number.ensures.same) ∙ sym (c.in-Some.ensures ∙ ap (first_item (t c.number.result)) c.items.ensures.same) in
    past_end c.in-Some.number c.args.end c.if-number-end.false ∙ sym (ap (page_before c.args.end) (next_is (is_wanted c.args.writes) c.args.proc c.args.from c.args.self.now (Some (c.in-Some.field-0-0, c.in-Some.number)) c.items.ensures.rising at))
