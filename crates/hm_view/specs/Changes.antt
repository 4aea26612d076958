-- The lines of changes.
use Rattle.std.specs.Prelude.{ℕ, true, false, if◌then◌else◌, Some, None, List, [], ◌∷◌, ◌++◌, codes}
use Rattle.std.specs.List.{flat_map}
use Rattle.std.specs.Fmt.{decimal}
use Rattle.hm_base.specs.Program.{Program}
use Rattle.hm_history.specs.Memory.Plain.{Attachment}
use Rattle.hm_history.specs.declared.Entry.{Entry}
use Rattle.hm_report.specs.Line.{spaced}
use Rattle.hm_report.specs.Words.{proc_text, mirror_text, device_text, actor_text, frame_text, target_text}
use Rattle.hm_report.specs.Words.{table_right_text, place_words, interval_words}
use Rattle.hm_script.specs.Spelling.{hex_text, right_text}
use Rattle.hm_view.specs.Shown.{Change, entry_changes, first_changes}

-- how a mirror is
abbrev pub stage_text : Attachment → List ℕ
stage_text Attachment.Attached = codes "attached"
stage_text Attachment.Detaching = codes "detaching"
stage_text Attachment.Gone = codes "gone"

-- the words of a change. Two changes never have the same words
abbrev pub change_words : Change → List (List ℕ)
change_words (Change.Lock a None) = codes "unlock" ∷ actor_text a ∷ []
change_words (Change.Lock a (Some x)) =
    (if x.writes then codes "writes" else codes "reads") ∷ actor_text a ∷ proc_text x.proc ∷ []
change_words (Change.Held f true) = codes "held" ∷ frame_text f ∷ []
change_words (Change.Held f false) = codes "free" ∷ frame_text f ∷ []
change_words (Change.Locker f None) = codes "loose" ∷ frame_text f ∷ []
change_words (Change.Locker f (Some a)) = codes "locked" ∷ frame_text f ∷ actor_text a ∷ []
change_words (Change.There p true) = codes "there" ∷ proc_text p ∷ []
change_words (Change.There p false) = codes "left" ∷ proc_text p ∷ []
change_words (Change.NewArea p r w) =
    codes "area" ∷ proc_text p ∷ decimal r.first ∷ decimal r.count ∷ right_text w ∷ []
change_words (Change.Cut p r) = codes "cut" ∷ proc_text p ∷ decimal r.first ∷ decimal r.count ∷ []
change_words (Change.Right p r w) =
    codes "right" ∷ proc_text p ∷ decimal r.first ∷ decimal r.count ∷ right_text w ∷ []
change_words (Change.Bare p) = codes "bare" ∷ proc_text p ∷ []
change_words (Change.Copy p c) = codes "copy" ∷ proc_text p ∷ proc_text c ∷ []
change_words (Change.Bytes p at bs) = codes "bytes" ∷ proc_text p ∷ decimal at ∷ hex_text bs ∷ []
change_words (Change.Zeros p r) = codes "zeros" ∷ proc_text p ∷ decimal r.first ∷ decimal r.count ∷ []
change_words (Change.Placed p v x) = codes "place" ∷ proc_text p ∷ decimal v ∷ place_words x
change_words (Change.Seq p n) = codes "sequence" ∷ proc_text p ∷ decimal n ∷ []
change_words (Change.Guard a None) = codes "unguard" ∷ actor_text a ∷ []
change_words (Change.Guard a (Some x)) =
    codes "guard" ∷ actor_text a ∷ proc_text x.0 ∷ decimal x.1.first ∷ decimal x.1.count ∷ []
change_words (Change.Mirror m d p r) = interval_words m d p r
change_words (Change.Stage m t) = codes "stage" ∷ mirror_text m ∷ stage_text t ∷ []
change_words (Change.Interval m n) = codes "interval" ∷ mirror_text m ∷ decimal n ∷ []
change_words (Change.Set m v x) =
    codes "set" ∷ mirror_text m ∷ decimal v ∷ target_text x.target ∷ table_right_text x.right ∷ decimal x.from ∷ []
change_words (Change.Erase m r) = codes "erase" ∷ mirror_text m ∷ decimal r.first ∷ decimal r.count ∷ []
change_words (Change.Clear m) = codes "clear" ∷ mirror_text m ∷ []
change_words (Change.Withdrawn d) = codes "withdrawn" ∷ device_text d ∷ []
change_words (Change.Removed d) = codes "removed" ∷ device_text d ∷ []

-- the line of a change
abbrev pub change_line : Change → List ℕ
change_line x = codes "=" ++ (spaced (change_words x) ++ 10 ∷ [])

-- the lines of changes, in their order
abbrev pub change_lines : List Change → List ℕ
change_lines xs = flat_map change_line xs

-- the lines before the rows: what holds before the first entry
abbrev pub first_lines : List ℕ
first_lines = change_lines first_changes

-- the lines of an entry's changes
abbrev pub entry_change_lines : Program → List Entry → Entry → List ℕ
entry_change_lines c h e = change_lines (entry_changes c h e)
