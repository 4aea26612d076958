use Rattle.hm_turns.proofs.AfterLooks.{owns_looked}
use Rattle.hm_turns.proofs.turns.Turns.try_look.Goals as goal

pub badge_of-requires : goal.badge_of-requires
badge_of-requires g c = (c.look_at-look.ensures.seat.1, owns_looked _ _ _ _ _ _ _ c.seat_of-seat.ensures.idle.1 c.look_at-look.ensures.look)
