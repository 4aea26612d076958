-- An entry that is allowed leaves a sound state sound.
use Rattle.std.proofs.Common.{ℕ}
use Rattle.hm_base.specs.Program.{Program}
use Rattle.hm_history.specs.Memory.After.{After}
use Rattle.hm_history.specs.declared.Kind.{Kind}
use Rattle.hm_laws.specs.Past.{Past, past_next}
use Rattle.hm_laws.specs.Sound.{Sound}
use Rattle.hm_laws.specs.Allowed.{next, Allowed}
use Rattle.hm_laws.proofs.Kept.Locks.{locks_kept}
use Rattle.hm_laws.proofs.Kept.Pools.{pools_kept, processes_kept}
use Rattle.hm_laws.proofs.Kept.Areas.{areas_kept, places_kept}
use Rattle.hm_laws.proofs.Kept.Contents.{reads_kept}
use Rattle.hm_laws.proofs.Kept.Untouched.{untouched_kept}
use Rattle.hm_laws.proofs.Kept.Frames.{frames_kept}
use Rattle.hm_laws.proofs.Kept.Mirrors.{mirrors_kept, arrivals_kept, past_kept, untold_kept}
use Rattle.hm_laws.proofs.Kept.Tables.{tables_kept}
use Rattle.hm_laws.proofs.Kept.Attached.{sequences_kept}
use Rattle.hm_laws.proofs.Kept.Guards.{guards_kept}

pub kept : (c : Program) (s : After) (t : Past) (a : ℕ) (k : Kind) → Sound c s t → Allowed c s t a k → Sound c (next s a k) (past_next t s.length a k)
kept c s t a k so ok = record {
  locks = locks_kept c s t a so k ok;
  places = places_kept c s t a so k ok;
  frames = frames_kept c s t a so k ok;
  pools = pools_kept c s t a so k ok;
  processes = processes_kept c s t a so k ok;
  areas = areas_kept c s t a so k ok;
  reads = reads_kept c s t a so k ok;
  untouched = untouched_kept c s t a so k ok;
  mirrors = mirrors_kept c s t a so k ok;
  arrivals = arrivals_kept c s t a so k ok;
  sequences = sequences_kept c s t a so k ok;
  guards = guards_kept c s t a so k ok;
  tables = tables_kept c s t a so k ok;
  past = past_kept c s t a so k ok;
  untold = untold_kept c s t a so k ok;
}
