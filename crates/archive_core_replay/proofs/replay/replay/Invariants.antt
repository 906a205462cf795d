use Rattle.std.proofs.Common.{◌≤◌, ◌+◌, take, map, length}
use Rattle.smo_ops_types.specs.Commands.{command_of}
use Rattle.smo_ops_spec.specs.Past.{Past}
use Rattle.archive_core_state.specs.ArchiveContents.{RepresentsPast}
use Rattle.archive_core_replay.specs.Replaying.{IsReplayed}
use Rattle.archive_core_replay.proofs.replay.replay.Given as goal

abbrev pub invariant-loop-command : goal.invariant-loop-command
invariant-loop-command g l = record {
  replayed : (past : Past) → RepresentsPast l.initial.state past
      → IsReplayed past (take (length l.yielded) (map command_of l.fn.commands.items)) l.state;
  cost : l.steps ≤ l.fn.steps + length l.yielded;
}
