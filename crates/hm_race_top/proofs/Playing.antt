-- Orders of turns that are played to their end.
use Rattle.std.proofs.Common.{◌≡◌, inl, inr, ℕ, suc, ◌+◌, ◌<◌, arith, true, List, [], ◌∷◌, ◌++◌, length, refl, sym, ap, ◌∙◌, subst}
use Rattle.std.specs.Prelude.{fold, nat_lt, ◌&&◌}
use Rattle.std.specs.List.{list_all}
use Rattle.std.proofs.lemmas.List.{length-append, map-append}
use Rattle.std.proofs.lemmas.List.Folds.{list_all-append}
use Rattle.std.proofs.lemmas.List.Sums.{fold-append}
use Rattle.hm_race_laws.specs.Outcomes.{Point}
use Rattle.hm_race_states.specs.Keyed.{form_in}
use Rattle.hm_race_states.specs.declared.key.StateKey.{StateKey}
use Rattle.hm_search.specs.Systems.{IsSystem, Stands, SystemValue, form_after, point_at}
use Rattle.hm_race_top.specs.Run.Known.{AreKnown, IsKnown, KnownValue}
use Rattle.hm_race_top.specs.Run.Played.{all_played, played_of, AreOrders, HasGone, IsAt, IsOrder, IsTurnAt, Prefers, PrefersAll}
use Rattle.hm_race_top.specs.Run.Races.{IsRace, RaceValue}
use Rattle.hm_race_top.specs.Run.Systems.{race_of}
use Rattle.hm_race_top.specs.Run.Turns.{IsShown}
use Rattle.hm_race_top.specs.declared.run.played.Played.{Played}
use Rattle.hm_race_top.specs.declared.run.played.Turn.{Turn}
use Rattle.hm_race_top.proofs.Turns.{entries_from}

prefers_on : {X F : Type 0} (y : SystemValue X F) (a : ℕ) (x : X) (bs : List ℕ) (b : ℕ) → PrefersAll y a x bs → Prefers y a (fold y.turn x bs) b → PrefersAll y a x (bs ++ b ∷ [])
prefers_on y a x [] b all one = (one, tt)
prefers_on y a x (c ∷ bs) b all one = (all.0, prefers_on y a (y.turn x c) bs b all.1 one)

pub orders_on : {X : Type 0} (y : SystemValue X Point) (a : ℕ) (ns : List KnownValue) (n : KnownValue) → AreOrders y a ns → IsOrder y (a + length ns) n.turns → AreOrders y a (ns ++ n ∷ [])
orders_on y a [] n all one = (subst (λ (k : ℕ). IsOrder y k n.turns) (omega (arith)) one, tt)
orders_on y a (m ∷ ns) n all one = (all.0, orders_on y (a + 1) ns n all.1 (subst (λ (k : ℕ). IsOrder y k n.turns) (omega (arith)) one))

-- one order more
pub orders_more : (y : SystemValue Point Point) (ps : List Played) (p : Played) → AreOrders y 0 (all_played ps) → IsOrder y (length ps) p.turns → AreOrders y 0 (all_played (ps ++ p ∷ []))
orders_more y ps p all one = subst (AreOrders y 0) (sym (map-append played_of ps (p ∷ []))) (orders_on y 0 (all_played ps) (played_of p) all (subst (λ (k : ℕ). IsOrder y k p.turns) (omega (arith, length_played ps)) one))
  where
    length_played : (qs : List Played) → length (all_played qs) ≡ length qs
    length_played [] = refl
    length_played (q ∷ qs) = ap suc (length_played qs)

module _ (t : RaceValue) (race : IsRace t) (system : IsSystem (race_of t.script t.set_up)) where
  abbrev pub y : SystemValue Point Point
  y = race_of t.script t.set_up

  pub at_start : (k : StateKey) → form_in k ≡ form_after y [] → IsShown t.script k.state (y.entries y.start) → IsAt t k []
  at_start k form kept = record {
    form = form;
    kept = subst (IsShown t.script k.state) from kept;
    actors = refl;
    adds = from;
    room = omega (arith, race.few);
  }
    where
      from : y.entries y.start ≡ length t.set_up + 0
      from = omega (arith, entries_from t.script t.set_up)

  pub stands : (k : StateKey) (turns : List ℕ) → IsAt t k turns → Stands y (form_in k)
  stands k turns at = record { turns = turns; has_form = sym at.form }

  point_more : (turns : List ℕ) (b : ℕ) → point_at y (turns ++ b ∷ []) ≡ y.turn (point_at y turns) b
  point_more turns b = fold-append y.turn y.start turns (b ∷ [])

  pub at_next : (k : StateKey) (turns : List ℕ) (u : Turn) → IsAt t k turns → length t.set_up + length turns < 2000000 → IsTurnAt y (point_at y turns) u → IsShown t.script u.key.state (length t.set_up + length turns + 1)
      → IsAt t u.key (turns ++ u.actor ∷ [])
  at_next k turns u at room turn kept = record {
    form = turn.1 ∙ ap y.form (sym (point_more turns u.actor));
    kept = subst (IsShown t.script u.key.state) more kept;
    actors = list_all-append (λ a. nat_lt a (length t.script.actors)) turns (u.actor ∷ []) ∙ both;
    adds = ap y.entries (point_more turns u.actor) ∙ system.adds (point_at y turns) u.actor turn.0 ∙ ap (λ (n : ℕ). n + 1) at.adds ∙ more;
    room = omega (arith, room, long);
  }
    where
      long : length (turns ++ u.actor ∷ []) ≡ length turns + 1
      long = length-append turns (u.actor ∷ [])

      more : length t.set_up + length turns + 1 ≡ length t.set_up + length (turns ++ u.actor ∷ [])
      more = omega (arith, long)

      below : u.actor < length t.script.actors
      below = system.own (point_at y turns) u.actor turn.0

      both : (list_all (λ a. nat_lt a (length t.script.actors)) turns && list_all (λ a. nat_lt a (length t.script.actors)) (u.actor ∷ [])) ≡ true
      both = grind (arith, at.actors, below)

  pub prefers_more : (a : ℕ) (old new : List ℕ) → PrefersAll y a y.start old → HasGone y a old new true → PrefersAll y a y.start new
  prefers_more a old new all gone = subst (PrefersAll y a y.start) (sym gone.1) (prefers_on y a y.start old gone.0 all gone.2)

  pub longer : (a : ℕ) (old new : List ℕ) → HasGone y a old new true → length new ≡ length old + 1
  longer a old new gone = ap (λ (xs : List ℕ). length xs) gone.1 ∙ length-append old (gone.0 ∷ [])

  pub known_at : (p : Played) → IsAt t p.key p.turns → p.ended ≡ y.ended (point_at y p.turns) → IsKnown t.script t.set_up (played_of p)
  known_at p at ended = record {
    form = at.form;
    ended = ended;
    actors = at.actors;
    room = omega (arith, at.adds, at.room);
    adds = omega (arith, at.adds, entries_from t.script t.set_up);
  }

  pub known_more : (ps : List Played) (p : Played) → AreKnown t.script t.set_up (all_played ps) → IsKnown t.script t.set_up (played_of p) → AreKnown t.script t.set_up (all_played (ps ++ p ∷ []))
  known_more [] p all one n (inl e) = subst (IsKnown t.script t.set_up) e one
  known_more [] p all one n (inr l) = absurd l
  known_more (q ∷ ps) p all one n (inl e) = all n (inl e)
  known_more (q ∷ ps) p all one n (inr l) = known_more ps p (λ m k. all m (inr k)) one n l
