use Rattle.std.proofs.Common.{refl}
use Rattle.anon_fault.proofs.decide.Goals as goal

pub returns : goal.returns
returns g c = rw (c.fault.ensures, c.suits-suited.ensures, c.place.ensures, c.op_writes.ensures) refl
