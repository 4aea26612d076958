use Rattle.hm_race_top.proofs.Led.{points_are_led}
use Rattle.hm_race_top.proofs.text.laws.points_are_led.Goals as goal

pub returns : goal.returns
returns c = points_are_led
