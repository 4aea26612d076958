-- How a list of references changes by an entry.
use Rattle.std.specs.Prelude.{List, [], ◌++◌}
use Rattle.hm_base.specs.declared.Frame.{Frame}
use Rattle.hm_linux.specs.HeldPage.{frames_of, without_frame}
use Rattle.hm_linux_steps.specs.declared.changes.Change.{Change}

-- the references after the change
abbrev pub changed : Change → List Frame → List Frame
changed Change.Keep fs = fs
changed Change.Clear fs = []
changed (Change.Only x) fs = frames_of x
changed (Change.With x) fs = frames_of x ++ fs
changed (Change.Without f) fs = without_frame fs f
