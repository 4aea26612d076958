-- Where the schedules lead that are written.
use Rattle.std.proofs.Common.{◌≡◌, ℕ, ◌≤◌, true, false, List, [], ◌++◌, length, refl, sym, ap, ◌∙◌, subst}
use Rattle.hm_base.specs.Program.{Program, IsScript, run_lines}
use Rattle.hm_history.specs.Laws.{RunsAreDue}
use Rattle.hm_history.specs.Kernel.Run.{run}
use Rattle.hm_laws.specs.Laws.{HistoryIsLegal}
use Rattle.hm_race_laws.specs.Outcomes.{Point, point_at, outcome, ended_in, raced}
use Rattle.hm_race_top.specs.Run.Known.{KnownValue, IsKnown}
use Rattle.hm_race_top.specs.Text.Laws.{TurnsLead, TurnsStand, SameLegal, LeadsTo, PointsAreLed, BlocksAreFound}
use Rattle.hm_race_top.specs.Text.Schedule.{with_turns}
use Rattle.hm_race_top.specs.Text.Text.{Way}
use Rattle.hm_script.specs.Built.{has_drain}
use Rattle.hm_race_top.specs.Laws.{KnownIsTrue}
use Rattle.hm_race_top.specs.Ways.{way_by, ways_of, EndsSo}
use Rattle.hm_race_top.proofs.WaysKnown.{came_from}
use Rattle.hm_history.proofs.RunLemmas.{DueFrom-join}

-- the laws that this rests on
pub record Rests : Type 0 where
  pub due : RunsAreDue
  pub legal : HistoryIsLegal
  pub lead : TurnsLead
  pub stand : TurnsStand
  pub same_legal : SameLegal
  pub led : PointsAreLed

ends_with : Rests → (c : Program) → IsScript c → (n : KnownValue) → IsKnown c (run c) n → n.ended ≡ true → (turns : List ℕ)
    → raced c (run c) turns ≡ raced c (run c) n.turns → (run_lines (with_turns c turns).schedule ≤ 100000 → IsScript (with_turns c turns))
    → EndsSo c (record { answers = outcome c n.form.answers; turns = turns })
ends_with by c script n k e turns same stands = record {
  entries = led.entries;
  run_is = by.lead c turns ∙ same ∙ led.same;
  due = led.due;
  legal = (by.same_legal c turns (run c ++ led.entries)).1 (by.legal c script (run c ++ led.entries) (DueFrom-join c [] (run c) led.entries (by.due c) led.due));
  ended = ap (ended_in c) led.state ∙ sym k.ended ∙ e;
  answers = ap (outcome c) (led.answers ∙ ap (λ (x : Point). x.answers) (sym k.form));
  script = stands;
}
  where
    led : LeadsTo c (run c) n.turns (point_at c (run c) n.turns)
    led = by.led c (run c) n.turns k.room

ends_so : Rests → (c : Program) → IsScript c → has_drain c.schedule ≡ false → (n : KnownValue) → IsKnown c (run c) n → n.ended ≡ true → EndsSo c (way_by (length c.actors) n)
ends_so by c script none n k e =
    ends_with by c script n k e n.turns refl (λ few. by.stand c n.turns script (record { goes_on = none; actors = k.actors; few_lines = few }))

pub known_is_true : Rests → BlocksAreFound → KnownIsTrue
known_is_true by found c script none ns known b l =
    let f = found (ways_of c ns) b l in
    let m = came_from (length c.actors) ns f.way f.listed in
    record {
      way = f.way;
      block = f.block;
      ends = subst (λ (w : Way). EndsSo c w) m.way (ends_so by c script none m.known (known m.known m.listed) m.ended);
    }
