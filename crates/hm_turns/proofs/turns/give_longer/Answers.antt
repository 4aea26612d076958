use Rattle.std.proofs.Common.{length, ap, sym, ◌∙◌, arith, refl, subst}
use Rattle.hm_turns.specs.Touching.{last_touched}
use Rattle.hm_turns.specs.Ruled.{IsAhead}
use Rattle.hm_turns.specs.Seats.{IsSized}
use Rattle.hm_turns.proofs.Hands.{put_now, noted_now, raised_now, published_now, given_now}
use Rattle.hm_turns.proofs.TurnKeeps.{note_ok, publish_ok, give_ok}
use Rattle.hm_turns.proofs.turns.give_longer.Goals as goal

pub load-requires : goal.load-requires
load-requires g c = let h = c.requires.givable in let t = c.requires.table in let w = t.1 in let words = w.0 in let same = ap (λ z. z.words) t.0 in
    let one = put_now g.S.Stepped.history g.S.Stepped.halt _ _ c.args.seat.now.me.0 c.args.stepped refl h.hand c.exchange.ensures.3 in
    (c.exchange.ensures.0 ∙ t.0, omega arith, note_ok _ _ _ _ _ _ _ c.args.seat.now.me.0 c.args.stepped c.args.entry.now one h.holds h.level c.requires.list)

pub raise-requires : goal.raise-requires
raise-requires g c = let h = c.requires.givable in let t = c.requires.table in
    let one = put_now g.S.Stepped.history g.S.Stepped.halt _ _ c.args.seat.now.me.0 c.args.stepped refl h.hand c.exchange.ensures.3 in
    let two = noted_now g.S.Stepped.history g.S.Stepped.halt _ _ _ _ c.args.entry.now one c.requires.list c.load.ensures.2.1 in
    let list = ap (λ m. m.0.list) two in
    record {
      table = (c.load.ensures.0 ∙ (c.exchange.ensures.0 ∙ t.0), subst IsSized (sym (c.load.ensures.0 ∙ c.exchange.ensures.0)) t.1);
      ahead = subst (λ m. IsAhead m.0) (sym two) record { holds = h.holds; ahead = refl; marked = refl };
      touched = c.touched-touched.ensures ∙ ap last_touched (sym list);
      length = c.length-length.ensures.length ∙ ap length (sym list);
    }

pub store-requires : goal.store-requires
store-requires g c = let h = c.requires.givable in let t = c.requires.table in let w = t.1 in let words = w.0 in let same = ap (λ z. z.words) t.0 in
    let one = put_now g.S.Stepped.history g.S.Stepped.halt _ _ c.args.seat.now.me.0 c.args.stepped refl h.hand c.exchange.ensures.3 in
    let two = noted_now g.S.Stepped.history g.S.Stepped.halt _ _ _ _ c.args.entry.now one c.requires.list c.load.ensures.2.1 in
    let three = raised_now g.S.Stepped.history g.S.Stepped.halt _ _ _ _ two c.raise.ensures.me_is in
    (c.raise.ensures.table_is ∙ (c.load.ensures.0 ∙ (c.exchange.ensures.0 ∙ t.0)), omega arith, publish_ok _ _ _ _ _ _ _ _ _ _ three h.holds refl c.length-length.ensures.length)

pub store-requires-2 : goal.store-requires-2
store-requires-2 g c = let h = c.requires.givable in let t = c.requires.table in let w = t.1 in let words = w.0 in let same = ap (λ z. z.words) t.0 in
    let one = put_now g.S.Stepped.history g.S.Stepped.halt _ _ c.args.seat.now.me.0 c.args.stepped refl h.hand c.exchange.ensures.3 in
    let two = noted_now g.S.Stepped.history g.S.Stepped.halt _ _ _ _ c.args.entry.now one c.requires.list c.load.ensures.2.1 in
    let three = raised_now g.S.Stepped.history g.S.Stepped.halt _ _ _ _ two c.raise.ensures.me_is in
    let four = published_now g.S.Stepped.history g.S.Stepped.halt _ _ _ _ three c.store.ensures.2 in (
      c.store.ensures.0 ∙ (c.raise.ensures.table_is ∙ (c.load.ensures.0 ∙ (c.exchange.ensures.0 ∙ t.0))),
      omega arith,
      give_ok _ _ _ _ _ _ _ _ c.args.stepped (sym (ap (λ z. z.slots) t.0) ∙ w.1) four h.holds refl h.script_is refl h.told,
    )

pub returns : goal.returns
returns g c = let h = c.requires.givable in
    let one = put_now g.S.Stepped.history g.S.Stepped.halt _ _ c.args.seat.now.me.0 c.args.stepped refl h.hand c.exchange.ensures.3 in
    let two = noted_now g.S.Stepped.history g.S.Stepped.halt _ _ _ _ c.args.entry.now one c.requires.list c.load.ensures.2.1 in
    let three = raised_now g.S.Stepped.history g.S.Stepped.halt _ _ _ _ two c.raise.ensures.me_is in
    let four = published_now g.S.Stepped.history g.S.Stepped.halt _ _ _ _ three c.store.ensures.2 in
    record {
      table_is = c.store-2.ensures.0 ∙ (c.store.ensures.0 ∙ (c.raise.ensures.table_is ∙ (c.load.ensures.0 ∙ c.exchange.ensures.0)));
      id_is = c.store-2.ensures.1 ∙ (c.store.ensures.1 ∙ (c.raise.ensures.id_is ∙ (c.load.ensures.1 ∙ c.exchange.ensures.1)));
      me_is = given_now g.S.Stepped.history g.S.Stepped.halt _ _ _ _ four c.store-2.ensures.2.1;
    }
