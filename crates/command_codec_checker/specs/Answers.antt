-- What is answered to bytes.
use Rattle.std.specs.Prelude.{List, ℕ, Result, Ok, Err}
use Rattle.smo_ops_types.specs.Commands.{PlainCommand}
use Rattle.command_codec_spec.specs.Found.{Encodes, Decoding, whole, bad_at, rest_at, IsDecoding}
use Rattle.command_codec_checker.specs.declared.fault.CheckFault.{CheckFault}
use Rattle.command_codec_checker.specs.declared.fault.CheckFault.TheVariants.{BadAt, Rest}

-- the answer to bytes that are this
abbrev pub answer_to : Decoding → Result (Unit {0}) CheckFault
answer_to (whole command) = Ok tt
answer_to (bad_at place) = Err (BadAt place)
answer_to (rest_at place) = Err (Rest place)

-- the bytes are what the answer says: some command's spelling, or none, with the same fault as in
-- reading one
abbrev pub AreAnswered : List ℕ → Result (Unit {0}) CheckFault → Type 0
AreAnswered bytes (Ok done) = (command : PlainCommand) × Encodes command bytes
AreAnswered bytes (Err (BadAt place)) = IsDecoding bytes (bad_at place)
AreAnswered bytes (Err (Rest place)) = IsDecoding bytes (rest_at place)
