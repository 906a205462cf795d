-- What a question of the code asks.
use Rattle.cond_expr.specs.Seen.{test}
use Rattle.plain_answers_spec.specs.Reading.{Read}
use Rattle.piece_ir_spec.specs.Beginnings.{asking}
use Rattle.query_exec.specs.declared.question.Question.{Question}

abbrev pub read_asked : Question → Read
read_asked q = asking (test q.cond) q.names.items
