use Rattle.std.proofs.Common.{◌≡◌, ◌≤◌, ℕ, Bool, true, List, length, map, ap, sym, ◌∙◌, subst}
use Rattle.std.specs.Prelude.{◌↔◌}
use Rattle.hm_flaw_parts.specs.Judged.{judged_parts}
use Rattle.hm_search.specs.Known.{IsCut, IsNear}
use Rattle.hm_search.specs.Values.{all_known, at_goal}
use Rattle.hm_search.specs.declared.known.Known.{Known}
use Rattle.hm_search.proofs.Exploring.{known_length}
use Rattle.hm_flaw_states.specs.Keyed.{form_in}
use Rattle.hm_flaw_states.specs.declared.key.FlawKey.{FlawKey}
use Rattle.hm_search.specs.declared.search.End.{End}
use Rattle.hm_flaw_search.specs.Answers.{IsAnswer}
use Rattle.hm_flaw_search.specs.Finding.{HaveRoom, IsFoundFirst, goal_of}
use Rattle.hm_flaw_search.specs.Unused.{HaveEntries, IsUnused, LooksUnused}
use Rattle.hm_flaw_search.proofs.Answering.{Laws, Searched, answered}
use Rattle.hm_flaw_search.proofs.Reached.{same_answers}
use Rattle.hm_flaw_search.proofs.Rooms.{room_at}
use Rattle.hm_flaw_search.proofs.Unused.{both_ways, have_entries, looks_right}
use Rattle.hm_flaw_search.proofs.search.find_race.Goals as goal

pub answer_of-requires : goal.answer_of-requires
answer_of-requires c =
    let h = c.args.set_up.now in
    let parts = judged_parts c.args.judging in
    let ns = c.in_ok-explored.explored.known.items in
    record {
      room = subst (λ (xs : List (Known FlawKey)). HaveRoom h (all_known form_in xs)) (sym c.deref.ensures.value) (room_at parts c.args.flaw c.args.script.now h c.requires.few (all_known form_in ns) c.in_ok-explored.ensures.known);
      entries = subst HaveEntries (sym c.deref.ensures.value) (have_entries c.args.judging c.args.flaw c.args.script.now h ns c.in_ok-explored.ensures.known);
    }

pub returns-in-Ok-clause-answer : goal.returns-in-Ok-clause-answer
returns-in-Ok-clause-answer c =
    let parts = judged_parts c.args.judging in
    let l = c.args.flaw in
    let s = c.args.script.now in
    let h = c.args.set_up.now in
    let ns = c.in_ok-explored.explored.known.items in
    let known = all_known form_in ns in
    let end = c.in_ok-explored.explored.end in
    let found = c.in_ok-explored.ensures in
    let many : length ns ≡ length known = sym (known_length form_in ns) in
    let law : Laws = record {
      first_breaks = c.first_breaks_soonest.ensures;
      first_sticks = c.first_sticks_soonest.ensures;
      whole_breaks = c.whole_breaks_none.ensures;
      whole_sticks = c.whole_never_sticks.ensures;
      right = c.right_turns_find_none.ensures;
    } in
    let searched : Searched parts l s h c.args.most known end = record {
      each = found.known;
      once = found.distinct;
      rising = found.rising;
      fewer = found.below;
      all = found.all;
      few = λ e. subst (λ (n : ℕ). n ≤ c.args.most) many (found.few e);
      cut = λ e. subst (IsCut (length s.actors) c.args.most) many (found.cut e);
      reached = found.reached;
      soon = found.soon;
      near = λ e. subst (IsNear (length s.actors) c.args.most) many (found.near e);
      missed = found.missed;
    } in
    let a = c.in-Ok.answer in
    let says = c.in-Ok.ensures in
    let unused : (a.unused ≡ true) ↔ IsUnused parts l s h end a.found =
    both_ways (subst (λ (xs : List (Known FlawKey)). (a.unused ≡ true) ↔ LooksUnused l s xs end a.found) c.deref.ensures.value says.unused) (looks_right c.args.judging l s h ns end a.found found.known found.all found.missed) in
    subst (λ (z : End). IsAnswer parts l s h c.args.most (record { found = a.found; states = a.states; end = z; unused = a.unused; owed = a.owed })) (sym says.end)
    (answered law parts l s c.facts.ensures h c.requires.due c.requires.few c.args.most known a.states (says.states ∙ (ap (λ (xs : List (Known FlawKey)). length xs) c.deref.ensures.value ∙ many)) a.unused a.owed end a.found unused says.owed searched
    (subst (λ (bs : List Bool). IsFoundFirst parts l s h known bs a.found) (same_answers form_in (goal_of l s end) ns)
    (subst (λ (xs : List (Known FlawKey)). IsFoundFirst parts l s h (all_known form_in xs) (map (at_goal form_in (goal_of l s end)) xs) a.found) c.deref.ensures.value says.found)))
