-- The rules in words, one plain sentence each; docs/BROKEN.md says more.
use Rattle.std.specs.Prelude.{ℕ, List, codes}
use Rattle.hm_protocol.specs.declared.rules.Rule.{Rule}

-- what the rule says
abbrev pub sentence : Rule → List ℕ
sentence Rule.Compare = codes "the driver compares sequences before it commits a look-up"
sentence Rule.CompareSequence = codes "what it compares is sequences, and not whether the interval is being invalidated at that moment"
sentence Rule.EntryRight = codes "the driver sets an entry for writes only if its look-up has found the page for writes"
sentence Rule.MmapLock = codes "the driver holds the mmap lock while it walks"
sentence Rule.OwnDevice = codes "the driver does not take another device's memory for its own"
sentence Rule.BeginWaits = codes "the driver begins no look-up while its interval is being invalidated"
sentence Rule.BeginFirst = codes "the driver reads the sequence before it walks, and not after"
sentence Rule.SetSequence = codes "the callback sets the sequence that it is given, of every invalidation"
sentence Rule.Erase = codes "the callback erases the entries of the span that it is told of"
sentence Rule.EraseAll = codes "the callback erases all entries of the span, and not some"
sentence Rule.EraseInTime = codes "the callback has erased the entries when it returns"
sentence Rule.OwnEvents = codes "the driver does not ignore the invalidations of its own device's migrations"
sentence Rule.OwnSequence = codes "the callback sets the sequence of its own device's migrations, too"
sentence Rule.OwnEntries = codes "the callback erases the entries of its own device's migrations, too"
sentence Rule.StopAtDetach = codes "the driver does not use its table after it is detached"
sentence Rule.WriteEntry = codes "the device does not write through an entry for reads"
sentence Rule.DetachWaits = codes "the driver is not detached while its mirror is being invalidated"
sentence Rule.SetMoved = codes "the driver sets entries of the pages that have moved, and not of one that stayed"
sentence Rule.SetRight = codes "the driver sets a page that it moved for writes only if the migration has found it for writes"
sentence Rule.SetUnlessInvalidated = codes "the driver sets no entry of a page that it moved while its interval is being invalidated"
sentence Rule.DropLost = codes "the driver frees the frame that it gave to a page which did not move"
sentence Rule.TakeFromThere = codes "no frame is taken of a device that is withdrawn"
sentence Rule.EvictFirst = codes "a device is not removed while frames of it are held"
sentence Rule.WithdrawFirst = codes "a device is withdrawn before it is removed"
sentence Rule.WaitForLocked = codes "a removal waits for frames that another thread has locked, and does not pass over them"
sentence Rule.ExclusiveWaits = codes "the driver sets no page that an actor has alone while its interval is being invalidated"
sentence Rule.LookAgain = codes "the driver looks a second time before it adds to an exclusive page"
