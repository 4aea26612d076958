use Rattle.std.proofs.lemmas.Bool.Decides.{Decides-eqb}
use Rattle.std.proofs.lemmas.Map.Lookups.{btree_map_eq-Decides}
use Rattle.hm_folds.proofs.SameBytes.{same_bytes}
use Rattle.hm_folds.proofs.stored.Stored.same.Goals as goal

pub returns : goal.returns
returns c e = same_bytes c.args.self.now c.args.other.now ((btree_map_eq-Decides Decides-eqb Decides-eqb c.args.self.now.bytes c.args.other.now.bytes c.eq.result c.eq.ensures).0 e)
