-- A race is a system.
use Rattle.std.proofs.Common.{◌≡◌, ℕ, true, false, List, [], refl, sym, ap, ◌∙◌, arith}
use Rattle.hm_base.specs.Program.{Program, IsScript}
use Rattle.hm_history.specs.Kernel.Due.{due_in}
use Rattle.hm_history.specs.Kernel.Run.{is_entry}
use Rattle.hm_history.specs.Laws.{DueFrom}
use Rattle.hm_history.specs.declared.Entry.{Entry}
use Rattle.hm_history.specs.declared.Progress.{Progress}
use Rattle.hm_race_laws.specs.Blur.{form_of}
use Rattle.hm_race_laws.specs.Laws.{FormsGoAlike}
use Rattle.hm_race_laws.specs.Outcomes.{Point, Reached, point_turn, point_turned, point_at}
use Rattle.hm_race_laws.proofs.Searching.{is_actor}
use Rattle.hm_race_laws.proofs.Turned.{at_reached}
use Rattle.hm_search.specs.Systems.{GoAlike}
use Rattle.hm_race_top.specs.Run.Laws.{RacesAreSystems}
use Rattle.hm_race_top.proofs.Turns.{did, entries_from, never}
use Rattle.hm_race_top.specs.Run.Systems.{race_of}

-- a turn without an entry changes nothing
stays : (c : Program) (x : Point) (p : Progress) → is_entry p ≡ false → point_turned c x p ≡ x
stays c x (Progress.Did e) is = never is
stays c x (Progress.Waiting why) is = refl
stays c x Progress.Idle is = refl

module _ (law : FormsGoAlike) (c : Program) (sc : IsScript c) (h : List Entry) (dh : DueFrom c [] h) where
  -- the entry that is due at one point has one at the other, and the forms after them are the same
  entry_alike : (x y : Point) → Reached c h x → Reached c h y → form_of c x ≡ form_of c y → (a : ℕ) → is_entry (due_in c x.state a) ≡ true
      → (is_entry (due_in c y.state a) ≡ true) × (form_of c (point_turn c x a) ≡ form_of c (point_turn c y a))
  entry_alike x y rx ry same a is =
      let d = did (due_in c x.state a) is in
      let z = law c sc h dh x y rx ry same a d.entry d.same in
      (ap is_entry z.due, ap (λ p. form_of c (point_turned c x p)) d.same ∙ (z.holds ∙ sym (ap (λ p. form_of c (point_turned c y p)) z.due)))

  alike : GoAlike (race_of c h)
  alike these those same a = by (is_entry (due_in c x.state a)) refl (is_entry (due_in c y.state a)) refl
    where
      x : Point
      x = point_at c h these

      y : Point
      y = point_at c h those

      rx : Reached c h x
      rx = at_reached c h these

      ry : Reached c h y
      ry = at_reached c h those

      by : (b : _) → is_entry (due_in c x.state a) ≡ b → (d : _) → is_entry (due_in c y.state a) ≡ d
          → (is_entry (due_in c x.state a) ≡ is_entry (due_in c y.state a)) × (form_of c (point_turn c x a) ≡ form_of c (point_turn c y a))
      by true one d other = let z = entry_alike x y rx ry same a one in (one ∙ sym z.0, z.1)
      by false one true other = let z = entry_alike y x ry rx (sym same) a other in never (sym z.0 ∙ one)
      by false one false other = (one ∙ sym other, ap (form_of c) (stays c x (due_in c x.state a) one) ∙ (same ∙ sym (ap (form_of c) (stays c y (due_in c y.state a) other))))

pub races_are_systems : FormsGoAlike → RacesAreSystems
races_are_systems law c sc h dh few = record {
  few = sc.few_actors;
  alike = alike law c sc h dh;
  own = λ x a is. let d = did (due_in c x.state a) is in is_actor c x.state a d.entry d.same;
  adds = λ x a is. let d = did (due_in c x.state a) is in ap (λ p. (point_turned c x p).state.after.length) d.same;
  stays = λ x a is. stays c x (due_in c x.state a) is;
  room = omega (arith, entries_from c h, few);
}
