-- A machine may go from thread to thread: so may each of its parts.
use denote.Param.Send.{IsSend, sendable}
use Rattle.std.proofs.Crossing.{crosses}
use Rattle.hm_frames.specs.contracts.pools.FramePools as FramePools
use Rattle.hm_notifiers.specs.contracts.AllNotifiers as AllNotifiers
use Rattle.hm_spaces.specs.contracts.Spaces as Spaces
use Rattle.hm_tables.specs.contracts.tables.PageTables as PageTables
use Rattle.hm_world.specs.contracts.World as World
use Rattle.interval_tree.specs.contracts.IntervalTree as IntervalTree
use Rattle.hm_top.proofs.SentParts.{script, history, actors, mirrors}
use Rattle.hm_top.proofs.SentTree.{tree}

pub frames : IsSend FramePools.the_row
frames = search (sendable, crosses) depth 40 fits 4000

pub tables : IsSend PageTables.the_row
tables = search (sendable, crosses) depth 40 fits 4000

pub spaces : IsSend Spaces.the_row
spaces = search (sendable, crosses) depth 40 fits 4000

pub intervals : IsSend IntervalTree.the_row
intervals = search (tree, sendable, crosses) depth 40 fits 4000

pub notifiers : IsSend AllNotifiers.the_row
notifiers = search (intervals, sendable, crosses) depth 40 fits 4000

pub world : IsSend World.the_row
world = search (script, history, frames, tables, spaces, notifiers, mirrors, actors, sendable, crosses) depth 40 fits 4000
