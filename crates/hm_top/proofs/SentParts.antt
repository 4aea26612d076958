-- The parts of a machine that may go from thread to thread: scripts, histories, actors and mirrors.
use denote.Param.Send.{IsSend, EachSend, recorded_send, struct_send, enum_send, sendable}
use denote.Enum.Declared.{shape}
use denote.Struct.Declared.{shape as fields_of}
use Rattle.std.proofs.Crossing.{crosses}
use Rattle.hm_base.specs.contracts.ops.Op as Op
use Rattle.hm_base.specs.contracts.ops.ScheduleLine as ScheduleLine
use Rattle.hm_base.specs.contracts.ops.Script as Script
use Rattle.hm_history.specs.contracts.Entry as Entry
use Rattle.hm_history.specs.contracts.Kind as Kind
use Rattle.hm_history.specs.contracts.history.History as History
use Rattle.hm_history.specs.contracts.phases.Phase as Phase
use Rattle.hm_history.specs.contracts.phases.Migrating as Migrating
use Rattle.hm_history.specs.contracts.phases.Touch as Touch
use Rattle.hm_history.specs.contracts.phases.Seen as Seen
use Rattle.hm_actors.specs.contracts.actors.Actors as Actors
use Rattle.hm_actors.specs.contracts.tasks.Task as Task
use Rattle.hm_actors.specs.contracts.records.Records as Records
use Rattle.hm_phases.specs.contracts.Stack as Stack
use Rattle.hm_phases.specs.contracts.Stack.TheInside as StackInside
use Rattle.hm_phases.specs.contracts.Depth as Depth
use Rattle.mirror_tables.specs.contracts.table.MirrorTable as MirrorTable
use Rattle.mirror_tables.specs.contracts.block.Block as Block
use Rattle.mirror_tables.specs.contracts.entry.MirrorEntry as MirrorEntry
use Rattle.hm_mirrors.specs.contracts.mirrors.Mirrors as Mirrors
use Rattle.hm_base.specs.contracts.Page as Page
use Rattle.hm_base.specs.contracts.Proc as Proc
use Rattle.hm_base.specs.contracts.Dev as Dev
use Rattle.hm_base.specs.contracts.MirrorId as MirrorId
use Rattle.hm_base.specs.contracts.Actor as Actor
use Rattle.hm_base.specs.contracts.Span as Span
use Rattle.hm_base.specs.contracts.Frame as Frame
use Rattle.hm_base.specs.contracts.Place as Place
use Rattle.hm_base.specs.contracts.cause.Cause as Cause
use Rattle.hm_base.specs.contracts.ops.Rights as Rights
use Rattle.hm_history.specs.contracts.Who as Who
use Rattle.hm_history.specs.contracts.TableRight as TableRight
use Rattle.hm_history.specs.contracts.KeptAt as KeptAt
use Rattle.hm_history.specs.contracts.KeptWhy as KeptWhy

pub page : IsSend Page.the_row
page = search (sendable, crosses) depth 40 fits 4000

pub proc : IsSend Proc.the_row
proc = search (sendable, crosses) depth 40 fits 4000

pub dev : IsSend Dev.the_row
dev = search (sendable, crosses) depth 40 fits 4000

pub mirror : IsSend MirrorId.the_row
mirror = search (sendable, crosses) depth 40 fits 4000

pub actor : IsSend Actor.the_row
actor = search (sendable, crosses) depth 40 fits 4000

pub span : IsSend Span.the_row
span = search (sendable, crosses) depth 40 fits 4000

pub frame : IsSend Frame.the_row
frame = search (dev, sendable, crosses) depth 40 fits 4000

pub place : IsSend Place.the_row
place = search (dev, actor, sendable, crosses) depth 40 fits 4000

pub cause : IsSend Cause.the_row
cause = search (sendable, crosses) depth 40 fits 4000

pub rights : IsSend Rights.the_row
rights = search (sendable, crosses) depth 40 fits 4000

pub who : IsSend Who.the_row
who = search (proc, mirror, sendable, crosses) depth 40 fits 4000

pub table_right : IsSend TableRight.the_row
table_right = search (sendable, crosses) depth 40 fits 4000

pub kept_at : IsSend KeptAt.the_row
kept_at = search (page, dev, sendable, crosses) depth 40 fits 4000

pub kept_why : IsSend KeptWhy.the_row
kept_why = search (actor, sendable, crosses) depth 40 fits 4000

pub line : IsSend ScheduleLine.the_row
line = search (sendable, crosses) depth 40 fits 4000

pub op : IsSend Op.the_row
op = search (span, sendable, crosses) depth 60 fits 8000

pub script : IsSend Script.the_row
script = search (op, line, sendable, crosses) depth 60 fits 8000

ruleset known = (page, proc, dev, mirror, actor, span, frame, place, cause, rights, who, table_right, kept_at, kept_why, sendable, crosses)

-- each kind of entry, by its fields
each_kind : EachSend (shape Kind.the_type).variants
each_kind = (
  search known depth 30,
  (
    search known depth 30,
    (
      search known depth 30,
      (
        search known depth 30,
        (
          search known depth 30,
          (
            search known depth 30,
            (
              search known depth 30,
              (
                search known depth 30,
                (
                  search known depth 30,
                  (
                    search known depth 30,
                    (
                      search known depth 30,
                      (
                        search known depth 30,
                        (
                          search known depth 30,
                          (
                            search known depth 30,
                            (
                              search known depth 30,
                              (
                                search known depth 30,
                                (
                                  search known depth 30,
                                  (
                                    search known depth 30,
                                    (
                                      search known depth 30,
                                      (
                                        search known depth 30,
                                        (
                                          search known depth 30,
                                          (
                                            search known depth 30,
                                            (
                                              search known depth 30,
                                              (
                                                search known depth 30,
                                                (
                                                  search known depth 30,
                                                  (
                                                    search known depth 30,
                                                    (
                                                      search known depth 30,
                                                      (
                                                        search known depth 30,
                                                        (
                                                          search known depth 30,
                                                          (
                                                            search known depth 30,
                                                            (
                                                              search known depth 30,
                                                              (
                                                                search known depth 30,
                                                                (
                                                                  search known depth 30,
                                                                  (
                                                                    search known depth 30,
                                                                    (
                                                                      search known depth 30,
                                                                      (
                                                                        search known depth 30,
                                                                        (
                                                                          search known depth 30,
                                                                          (
                                                                            search known depth 30,
                                                                            tt,
                                                                          ),
                                                                        ),
                                                                      ),
                                                                    ),
                                                                  ),
                                                                ),
                                                              ),
                                                            ),
                                                          ),
                                                        ),
                                                      ),
                                                    ),
                                                  ),
                                                ),
                                              ),
                                            ),
                                          ),
                                        ),
                                      ),
                                    ),
                                  ),
                                ),
                              ),
                            ),
                          ),
                        ),
                      ),
                    ),
                  ),
                ),
              ),
            ),
          ),
        ),
      ),
    ),
  ),
)

kind : IsSend (Kind.the_field).row
kind = enum_send (shape Kind.the_type) each_kind

pub entry : IsSend Entry.the_row
entry = recorded_send _ _ _ (Entry.the_type).to_one (struct_send (fields_of Entry.the_type) (search (actor, sendable, crosses), (kind, tt)))

pub history : IsSend History.the_row
history = search (entry, sendable, crosses) depth 40 fits 4000

touch : IsSend Touch.the_row
touch = search (sendable, crosses) depth 60 fits 8000

seen : IsSend Seen.the_row
seen = search (page, sendable, crosses) depth 60 fits 8000

ruleset known_of_phases = (page, proc, dev, mirror, actor, span, frame, place, cause, touch, seen, sendable, crosses)

-- each phase, by its fields
each_phase : EachSend (shape Phase.the_type).variants
each_phase = (
  search known_of_phases depth 40,
  (
    search known_of_phases depth 40,
    (
      search known_of_phases depth 40,
      (
        search known_of_phases depth 40,
        (
          search known_of_phases depth 40,
          (
            search known_of_phases depth 40,
            (
              search known_of_phases depth 40,
              (
                search known_of_phases depth 40,
                (
                  search known_of_phases depth 40,
                  (
                    search known_of_phases depth 40,
                    (
                      search known_of_phases depth 40,
                      (
                        search known_of_phases depth 40,
                        (
                          search known_of_phases depth 40,
                          (
                            search known_of_phases depth 40,
                            (
                              search known_of_phases depth 40,
                              (
                                search known_of_phases depth 40,
                                (
                                  search known_of_phases depth 40,
                                  (
                                    search known_of_phases depth 40,
                                    (
                                      search known_of_phases depth 40,
                                      (
                                        search known_of_phases depth 40,
                                        (
                                          search known_of_phases depth 40,
                                          (
                                            search known_of_phases depth 40,
                                            (
                                              search known_of_phases depth 40,
                                              (
                                                search known_of_phases depth 40,
                                                tt,
                                              ),
                                            ),
                                          ),
                                        ),
                                      ),
                                    ),
                                  ),
                                ),
                              ),
                            ),
                          ),
                        ),
                      ),
                    ),
                  ),
                ),
              ),
            ),
          ),
        ),
      ),
    ),
  ),
)

pub migrating : IsSend Migrating.the_row
migrating = search (page, frame, sendable, crosses) depth 60 fits 8000

phase_field : IsSend (Phase.the_field).row
phase_field = enum_send (shape Phase.the_type) each_phase

each_depth : EachSend (shape Depth.the_type).variants
each_depth = (tt, (tt, (tt, (tt, tt))))

depth_field : IsSend (Depth.the_field).row
depth_field = enum_send (shape Depth.the_type) each_depth

stack_inside : IsSend StackInside.the_row
stack_inside = recorded_send _ _ _ (StackInside.the_type).to_one
    (struct_send (fields_of StackInside.the_type) (depth_field, (phase_field, (phase_field, (phase_field, tt)))))

pub stack : IsSend Stack.the_row
stack = search (stack_inside, sendable, crosses) depth 60 fits 8000

pub records : IsSend Records.the_row
records = search (migrating, sendable, crosses) depth 60 fits 8000

pub task : IsSend Task.the_row
task = search (stack, sendable, crosses) depth 60 fits 8000

pub actors : IsSend Actors.the_row
actors = search (task, records, sendable, crosses) depth 60 fits 8000

pub mirror_entry : IsSend MirrorEntry.the_row
mirror_entry = search (sendable, crosses) depth 60 fits 8000

pub block : IsSend Block.the_row
block = search (mirror_entry, page, sendable, crosses) depth 60 fits 8000

pub mirrors_table : IsSend MirrorTable.the_row
mirrors_table = search (block, span, sendable, crosses) depth 60 fits 8000

pub mirrors : IsSend Mirrors.the_row
mirrors = search (mirrors_table, span, sendable, crosses) depth 60 fits 8000
