-- Each kind's words are read back, and each is printable and has no space.
use Rattle.std.proofs.Common.{◌≡◌, ℕ, true, List, ◌∷◌, Some, Ok, refl}
use Rattle.std.specs.List.{list_all}
use Rattle.hm_history.specs.declared.Kind.{Kind}
use Rattle.hm_report.specs.Words.{kind_words}
use Rattle.hm_script.specs.Splitting.{word}
use Rattle.hm_script.proofs.Readers.{numbers, addresses}
use Rattle.hm_script.proofs.Steps.{is_plain}
use Rattle.hm_report_reading.specs.Fits.{FitsKind}
use Rattle.hm_report_reading.specs.KindWords.{kind_named, kind_word}
use Rattle.hm_report_reading.specs.Kinds.{kind_at}
use Rattle.hm_report_reading.proofs.WordsAgain.{byte_again, byte_plain, bytes_again, hex_plain, cause_again, cause_plain, frame_again, frame_plain, kept_again, kept_plain, mirror_again, mirror_plain, device_again, device_plain, proc_again, proc_plain, page_again, page_plain, part_again, part_plain, place_again, place_plain, right_again, right_plain, span_again, span_plain, table_right_again, table_right_plain, target_again, target_plain, who_again, who_plain, why_again, why_plain}

-- the word of each kind names it
pub named-again : (k : Kind) → kind_named (word 0 (kind_words k)) ≡ Some (kind_word k)
unfolding kind_named
named-again (Kind.Loaded x a bs) = refl
named-again (Kind.Stored x a bs) = refl
named-again (Kind.Failed x a n why) = refl
named-again (Kind.Mapped p r w) = refl
named-again (Kind.Unmapped p r) = refl
named-again (Kind.Protected p r w) = refl
named-again (Kind.Forked p c) = refl
named-again (Kind.Exited p) = refl
named-again (Kind.Attached m d p r q) = refl
named-again (Kind.Detaching m q) = refl
named-again (Kind.Detached m) = refl
named-again (Kind.Refused why) = refl
named-again (Kind.Migrated n) = refl
named-again (Kind.Seen m v c) = refl
named-again (Kind.Evicted n) = refl
named-again (Kind.Removed d) = refl
named-again (Kind.Rlock p) = refl
named-again (Kind.Runlock p) = refl
named-again (Kind.Wlock p) = refl
named-again (Kind.Named p c) = refl
named-again (Kind.Take f) = refl
named-again (Kind.Drop f) = refl
named-again (Kind.Place p v x) = refl
named-again (Kind.Start p r q) = refl
named-again (Kind.Told m r q) = refl
named-again (Kind.End p r q) = refl
named-again (Kind.Begin m q) = refl
named-again (Kind.Retry m) = refl
named-again (Kind.Set m v f w from) = refl
named-again (Kind.Fresh p v) = refl
named-again (Kind.Copied f g k) = refl
named-again (Kind.Committed f g) = refl
named-again (Kind.Kept at why) = refl
named-again (Kind.Done f) = refl
named-again (Kind.Withdrawn d) = refl
named-again (Kind.Excluded m v) = refl
named-again (Kind.Fetched m a bs) = refl
named-again (Kind.Added m a was now) = refl

pub kind-again : (pos act : List ℕ) (k : Kind) → FitsKind k → kind_at (kind_word k) (pos ∷ act ∷ kind_words k) ≡ Ok k
unfolding kind_at
kind-again pos act (Kind.Loaded x a bs) h = rw (who_again x h.0, addresses.again a h.1, bytes_again bs h.2) refl
kind-again pos act (Kind.Stored x a bs) h = rw (who_again x h.0, addresses.again a h.1, bytes_again bs h.2) refl
kind-again pos act (Kind.Failed x a n why) h = rw (who_again x h.0, addresses.again a h.1, numbers.again n h.2, cause_again why) refl
kind-again pos act (Kind.Mapped p r w) h = rw (proc_again p h.0, span_again r h.1, right_again w) refl
kind-again pos act (Kind.Unmapped p r) h = rw (proc_again p h.0, span_again r h.1) refl
kind-again pos act (Kind.Protected p r w) h = rw (proc_again p h.0, span_again r h.1, right_again w) refl
kind-again pos act (Kind.Forked p c) h = rw (proc_again p h.0, proc_again c h.1) refl
kind-again pos act (Kind.Exited p) h = rw (proc_again p h) refl
kind-again pos act (Kind.Attached m d p r q) h = rw (mirror_again m h.0, device_again d h.1, proc_again p h.2, span_again r h.3, numbers.again q h.4) refl
kind-again pos act (Kind.Detaching m q) h = rw (mirror_again m h.0, numbers.again q h.1) refl
kind-again pos act (Kind.Detached m) h = rw (mirror_again m h) refl
kind-again pos act (Kind.Refused why) h = rw (cause_again why) refl
kind-again pos act (Kind.Migrated n) h = rw (numbers.again n h) refl
kind-again pos act (Kind.Seen m v c) h = rw (mirror_again m h.0, page_again v h.1, byte_again c h.2) refl
kind-again pos act (Kind.Evicted n) h = rw (numbers.again n h) refl
kind-again pos act (Kind.Removed d) h = rw (device_again d h) refl
kind-again pos act (Kind.Rlock p) h = rw (proc_again p h) refl
kind-again pos act (Kind.Runlock p) h = rw (proc_again p h) refl
kind-again pos act (Kind.Wlock p) h = rw (proc_again p h) refl
kind-again pos act (Kind.Named p c) h = rw (proc_again p h.0, proc_again c h.1) refl
kind-again pos act (Kind.Take f) h = rw (frame_again f h) refl
kind-again pos act (Kind.Drop f) h = rw (frame_again f h) refl
kind-again pos act (Kind.Place p v x) h = rw (proc_again p h.0, page_again v h.1, place_again pos act p v x h.2) refl
kind-again pos act (Kind.Start p r q) h = rw (proc_again p h.0, span_again r h.1, numbers.again q h.2) refl
kind-again pos act (Kind.Told m r q) h = rw (mirror_again m h.0, span_again r h.1, numbers.again q h.2) refl
kind-again pos act (Kind.End p r q) h = rw (proc_again p h.0, span_again r h.1, numbers.again q h.2) refl
kind-again pos act (Kind.Begin m q) h = rw (mirror_again m h.0, numbers.again q h.1) refl
kind-again pos act (Kind.Retry m) h = rw (mirror_again m h) refl
kind-again pos act (Kind.Set m v f w from) h = rw (mirror_again m h.0, page_again v h.1, target_again f h.2, table_right_again w, numbers.again from h.3) refl
kind-again pos act (Kind.Fresh p v) h = rw (proc_again p h.0, page_again v h.1) refl
kind-again pos act (Kind.Copied f g k) h = rw (frame_again f h.0, frame_again g h.1, part_again k h.2) refl
kind-again pos act (Kind.Committed f g) h = rw (frame_again f h.0, frame_again g h.1) refl
kind-again pos act (Kind.Kept at why) h = rw (kept_again at h.0, why_again pos act at why h.1) refl
kind-again pos act (Kind.Done f) h = rw (frame_again f h) refl
kind-again pos act (Kind.Withdrawn d) h = rw (device_again d h) refl
kind-again pos act (Kind.Excluded m v) h = rw (mirror_again m h.0, page_again v h.1) refl
kind-again pos act (Kind.Fetched m a bs) h = rw (mirror_again m h.0, addresses.again a h.1, bytes_again bs h.2) refl
kind-again pos act (Kind.Added m a was now) h = rw (mirror_again m h.0, addresses.again a h.1, byte_again was h.2, byte_again now h.3) refl

pub kind-plain : (k : Kind) → FitsKind k → list_all (list_all is_plain) (kind_words k) ≡ true
kind-plain (Kind.Loaded x a bs) h = rw (who_plain x h.0, addresses.plain a h.1, hex_plain bs h.2) refl
kind-plain (Kind.Stored x a bs) h = rw (who_plain x h.0, addresses.plain a h.1, hex_plain bs h.2) refl
kind-plain (Kind.Failed x a n why) h = rw (who_plain x h.0, addresses.plain a h.1, numbers.plain n h.2, cause_plain why) refl
kind-plain (Kind.Mapped p r w) h = rw (proc_plain p h.0, (span_plain r h.1).0, (span_plain r h.1).1, right_plain w) refl
kind-plain (Kind.Unmapped p r) h = rw (proc_plain p h.0, (span_plain r h.1).0, (span_plain r h.1).1) refl
kind-plain (Kind.Protected p r w) h = rw (proc_plain p h.0, (span_plain r h.1).0, (span_plain r h.1).1, right_plain w) refl
kind-plain (Kind.Forked p c) h = rw (proc_plain p h.0, proc_plain c h.1) refl
kind-plain (Kind.Exited p) h = rw (proc_plain p h) refl
kind-plain (Kind.Attached m d p r q) h = rw (mirror_plain m h.0, device_plain d h.1, proc_plain p h.2, (span_plain r h.3).0, (span_plain r h.3).1, numbers.plain q h.4) refl
kind-plain (Kind.Detaching m q) h = rw (mirror_plain m h.0, numbers.plain q h.1) refl
kind-plain (Kind.Detached m) h = rw (mirror_plain m h) refl
kind-plain (Kind.Refused why) h = rw (cause_plain why) refl
kind-plain (Kind.Migrated n) h = rw (numbers.plain n h) refl
kind-plain (Kind.Seen m v c) h = rw (mirror_plain m h.0, page_plain v h.1, byte_plain c h.2) refl
kind-plain (Kind.Evicted n) h = rw (numbers.plain n h) refl
kind-plain (Kind.Removed d) h = rw (device_plain d h) refl
kind-plain (Kind.Rlock p) h = rw (proc_plain p h) refl
kind-plain (Kind.Runlock p) h = rw (proc_plain p h) refl
kind-plain (Kind.Wlock p) h = rw (proc_plain p h) refl
kind-plain (Kind.Named p c) h = rw (proc_plain p h.0, proc_plain c h.1) refl
kind-plain (Kind.Take f) h = rw (frame_plain f h) refl
kind-plain (Kind.Drop f) h = rw (frame_plain f h) refl
kind-plain (Kind.Place p v x) h = rw (proc_plain p h.0, page_plain v h.1, place_plain x h.2) refl
kind-plain (Kind.Start p r q) h = rw (proc_plain p h.0, (span_plain r h.1).0, (span_plain r h.1).1, numbers.plain q h.2) refl
kind-plain (Kind.Told m r q) h = rw (mirror_plain m h.0, (span_plain r h.1).0, (span_plain r h.1).1, numbers.plain q h.2) refl
kind-plain (Kind.End p r q) h = rw (proc_plain p h.0, (span_plain r h.1).0, (span_plain r h.1).1, numbers.plain q h.2) refl
kind-plain (Kind.Begin m q) h = rw (mirror_plain m h.0, numbers.plain q h.1) refl
kind-plain (Kind.Retry m) h = rw (mirror_plain m h) refl
kind-plain (Kind.Set m v f w from) h = rw (mirror_plain m h.0, page_plain v h.1, target_plain f h.2, table_right_plain w, numbers.plain from h.3) refl
kind-plain (Kind.Fresh p v) h = rw (proc_plain p h.0, page_plain v h.1) refl
kind-plain (Kind.Copied f g k) h = rw (frame_plain f h.0, frame_plain g h.1, part_plain k h.2) refl
kind-plain (Kind.Committed f g) h = rw (frame_plain f h.0, frame_plain g h.1) refl
kind-plain (Kind.Kept at why) h = rw (kept_plain at h.0, why_plain why h.1) refl
kind-plain (Kind.Done f) h = rw (frame_plain f h) refl
kind-plain (Kind.Withdrawn d) h = rw (device_plain d h) refl
kind-plain (Kind.Excluded m v) h = rw (mirror_plain m h.0, page_plain v h.1) refl
kind-plain (Kind.Fetched m a bs) h = rw (mirror_plain m h.0, addresses.plain a h.1, hex_plain bs h.2) refl
kind-plain (Kind.Added m a was now) h = rw (mirror_plain m h.0, addresses.plain a h.1, byte_plain was h.2, byte_plain now h.3) refl
