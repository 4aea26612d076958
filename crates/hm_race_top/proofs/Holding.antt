-- What holds of the states that a search knows.
use Rattle.std.proofs.Common.{◌≡◌, ◌⊎◌, inl, inr, ℕ, ◌≤◌, Bool, true, false, List, [], ◌++◌, length, refl, sym, ap, ◌∙◌, subst}
use Rattle.std.proofs.lemmas.List.{append-nil}
use Rattle.hm_race_laws.proofs.Searching.{listed_cases}
use Rattle.hm_race_top.specs.Run.Played.{HaveOrders}
use Rattle.hm_base.specs.Program.{Program, IsScript}
use Rattle.hm_edge.specs.declared.status.Status.{Status}
use Rattle.hm_race_top.specs.Text.Conditions.Absent.{SeenIsRight, StrictIsRight, have_absent}
use Rattle.hm_race_top.specs.Text.Conditions.Laws.{AllListed, AllReal}
use Rattle.hm_race_top.specs.Text.Conditions.Rulings.{RulingsAreRight, strictly, summary}
use Rattle.hm_race_top.specs.Text.Conditions.Texts.{is_whole}
use Rattle.hm_race_top.specs.declared.asked.Task.{Task}
use Rattle.hm_race_top.specs.declared.text.conditions.question.Question.{Question}
use Rattle.hm_race_top.specs.declared.text.conditions.rulings.Ruling.{Ruling}
use Rattle.hm_history.specs.Kernel.Run.{run}
use Rattle.hm_search.specs.Goals.{AreMissed, Reaches}
use Rattle.hm_race_top.specs.Run.Known.{KnownValue, AreFewest, AreKnown, HaveForms, IsComplete, IsCut, IsKnown, IsNear, IsSoon}
use Rattle.hm_search.specs.Known.{forms, AreRising}
use Rattle.hm_search.specs.declared.search.End.{End}
use Rattle.hm_race_laws.specs.Closed.{AreDistinct, IsListed}
use Rattle.hm_race_laws.specs.Outcomes.{Point}
use Rattle.hm_race_top.specs.Text.Laws.{lines_of, NoneTwice}
use Rattle.hm_script.specs.Built.{has_drain}
use Rattle.hm_race_top.specs.Asked.{goals_in}
use Rattle.hm_race_top.specs.Goals.{settled}
use Rattle.hm_race_top.specs.Laws.{AllIsListed, CompleteIsAll, KnownIsTrue, TrueIsReal}
use Rattle.hm_race_top.specs.Races.{Holds}
use Rattle.hm_race_top.specs.Telling.{IsStrict, ending_of, told}
use Rattle.hm_race_top.specs.Ways.{blocks_known, ways_of, AreTrue, HaveAll}

-- what a search of a script's race ensures that has this goal and knows so many states
pub record HasSearched (most : ℕ) (c : Program) (goal : Point → Bool) (count : ℕ) (known : List KnownValue) (end : End) : Type 0 where
  pub complete : end ≡ End.Whole → IsComplete c (run c) known
  pub all : end ≡ End.Whole → HaveForms c (run c) known
  pub few : end ≡ End.Whole → count ≤ most
  pub cut : end ≡ End.Cut → IsCut c most count
  pub reached : end ≡ End.Reached → Reaches goal known
  pub soon : end ≡ End.Reached → IsSoon c goal known
  pub near : end ≡ End.Reached → IsNear c most count
  pub missed : (end ≡ End.Reached → ⊥) → AreMissed goal known
  pub are_known : AreKnown c (run c) known
  pub distinct : AreDistinct (forms known)
  pub rising : AreRising known
  pub fewest : AreFewest c (run c) known

-- what the orders ensure that were played after a search that ended so
pub record HasPlayed (c : Program) (played : List KnownValue) (end : End) : Type 0 where
  pub orders : end ≡ End.Cut → HaveOrders c played
  pub led : AreKnown c (run c) played
  pub none : (end ≡ End.Cut → ⊥) → played ≡ []

-- the laws that this rests on
pub record Rests : Type 0 where
  pub are_true : KnownIsTrue
  pub are_all : CompleteIsAll
  pub are_real : TrueIsReal
  pub are_listed : AllIsListed
  pub twice : NoneTwice
  pub right : RulingsAreRight
  pub seen : SeenIsRight
  pub strict : StrictIsRight

whole_is : (end : End) → is_whole end ≡ true → end ≡ End.Whole
whole_is End.Whole e = refl
whole_is End.Cut e = cc
whole_is End.Reached e = cc

pub holds_by : Rests → (most : ℕ) (c : Program) → IsScript c → has_drain c.schedule ≡ false → (task : Task) (known played : List KnownValue) (end : End)
    → HasSearched most c (settled (goals_in task) (length c.actors)) (length known) known end → HasPlayed c played end → Holds most c task known played end
holds_by by most c script none task known played end s p = record {
  searched = s.are_known;
  real = real;
  orders = p.orders;
  led = p.led;
  no_order = p.none;
  distinct = by.twice (ways_of c (known ++ played));
  complete = complete;
  all = s.all;
  few = s.few;
  once = s.distinct;
  cut = s.cut;
  stopped = s.reached;
  soon = s.soon;
  near = s.near;
  missed = s.missed;
  right = λ q l. by.right c q.condition (lines_of (blocks_known c (known ++ played))) (is_whole end) are_outcomes are_listed;
  seen = by.seen c (lines_of (blocks_known c (known ++ played))) (is_whole end) are_outcomes are_listed;
  strict = strict task;
  rising = s.rising;
  fewest = s.fewest;
}
  where
    real : AreTrue c (blocks_known c (known ++ played))
    real = by.are_true c script none (known ++ played) each
      where
        each : AreKnown c (run c) (known ++ played)
        each n l = from (listed_cases known played n l)
          where
            from : IsListed known n ⊎ IsListed played n → IsKnown c (run c) n
            from (inl k) = s.are_known n k
            from (inr k) = p.led n k

    complete : end ≡ End.Whole → HaveAll c (blocks_known c (known ++ played))
    complete e = by.are_all c (known ++ played) (subst (λ (ns : List KnownValue). IsComplete c (run c) ns) (sym (ap (λ (ns : List KnownValue). known ++ ns) (p.none (not_cut e)) ∙ append-nil known)) (s.complete e))
      where
        not_cut : end ≡ End.Whole → end ≡ End.Cut → ⊥
        not_cut e k = no (sym e ∙ k)
          where
            no : End.Whole ≡ End.Cut → ⊥
            no e = cc

    are_outcomes : AllReal c (lines_of (blocks_known c (known ++ played)))
    are_outcomes = by.are_real c (blocks_known c (known ++ played)) real

    are_listed : is_whole end ≡ true → AllListed c (lines_of (blocks_known c (known ++ played)))
    are_listed w = by.are_listed c (blocks_known c (known ++ played)) (complete (whole_is end w))

    is_done : (r : Ruling) → ending_of r ≡ Status.Done → r ≡ Ruling.Holds
    is_done Ruling.Holds e = refl
    is_done Ruling.Fails e = cc
    is_done Ruling.Open e = cc

    strict_by : (qs : List Question) (status : Status) → (told c (Task.Strict qs) known played end).ends ≡ status → IsStrict c (Task.Strict qs) status
    strict_by qs Status.Done e = by.strict c qs (lines_of (blocks_known c (known ++ played))) (is_whole end) are_outcomes
        (is_done (strictly (summary qs (lines_of (blocks_known c (known ++ played))) (is_whole end)) (have_absent qs (lines_of (blocks_known c (known ++ played)))) (is_whole end)) e)
    strict_by qs (Status.NotLegal n) e = tt
    strict_by qs Status.Usage e = tt
    strict_by qs (Status.Refused r) e = tt
    strict_by qs Status.ReadFault e = tt
    strict_by qs Status.WriteFault e = tt
    strict_by qs Status.NoMemory e = tt
    strict_by qs Status.HistoryFull e = tt
    strict_by qs Status.ScriptTooLong e = tt
    strict_by qs Status.ReportTooLong e = tt
    strict_by qs Status.NoRows e = tt
    strict_by qs Status.TooManyRows e = tt
    strict_by qs (Status.Race r) e = tt

    strict : (t : Task) → IsStrict c t (told c t known played end).ends
    strict Task.Outcomes = tt
    strict Task.Table = tt
    strict (Task.Script n) = tt
    strict (Task.Expect qs) = tt
    strict (Task.Strict qs) = strict_by qs _ refl
