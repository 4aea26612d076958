-- The worked script empty_script: its run, and that it is legal.
use Rattle.std.specs.Prelude.{◌≡◌, List, [], refl}
use Rattle.hm_base.specs.Program.{Program}
use Rattle.hm_base.specs.declared.ops.Version.{Version}
use Rattle.hm_history.specs.declared.Entry.{Entry}
use Rattle.hm_history.specs.Kernel.Run.{run}
use Rattle.hm_history.specs.Kernel.Legal.{Legal}

abbrev script : Program
script = record {
  version = Version.One;
  frames = 0;
  devices = [];
  skip = 0;
  actors = [];
  schedule = [];
}

abbrev history : List Entry
history = []

runs : run script ≡ history
runs = refl

legal : Legal script history
legal = tt
