use Rattle.command_codec.specs.Answers.{takes}
use Rattle.command_codec.proofs.ReadSteps.{SoFar}
use Rattle.command_codec.proofs.reader.Reader.run.Given as goal

abbrev pub invariant-loop-left : goal.invariant-loop-left
invariant-loop-left l = SoFar (takes l.alphabet) l.count l.left l.fn.self.rest.now l.self.rest.now

abbrev pub decreases-loop-left : goal.decreases-loop-left
decreases-loop-left l = l.left
