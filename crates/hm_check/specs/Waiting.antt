-- Why an actor waits, as words.
use Rattle.std.specs.Prelude.{ℕ, List, ◌++◌, codes}
use Rattle.std.specs.Fmt.{decimal}
use Rattle.hm_history.specs.declared.Why.{Why}
use Rattle.hm_report.specs.Words.{actor_text, frame_text, mirror_text, proc_text}

-- why an actor waits: for an mmap lock that an actor has, for a page under migration, for a frame that an actor has
-- locked, or for the end of invalidations of a mirror's interval at a sequence; with these bytes between the words
abbrev pub why_text : List ℕ → Why → List ℕ
why_text between (Why.MapLock p b) = codes "lock" ++ (between ++ (proc_text p ++ (between ++ actor_text b)))
why_text between (Why.Moving p v) = codes "moving" ++ (between ++ (proc_text p ++ (between ++ decimal v)))
why_text between (Why.FrameLocked f b) = codes "frame" ++ (between ++ (frame_text f ++ (between ++ actor_text b)))
why_text between (Why.Invalidating m q) = codes "told" ++ (between ++ (mirror_text m ++ (between ++ decimal q)))
