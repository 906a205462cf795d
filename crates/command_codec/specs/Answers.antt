-- What the functions that read answer.
use Rattle.std.specs.Prelude.{ℕ, Bool, Option, Some, None, Result, Ok, Err}
use Rattle.prima_base.specs.Bytes.{is_name_byte, is_text_byte}
use Rattle.smo_ops_types.specs.Commands.{command_of}
use Rattle.smo_ops_types.specs.declared.command.Body.{Body}
use Rattle.command_codec_spec.specs.Found.{Decoding, whole, bad_at, rest_at, Part, part, no_part}
use Rattle.command_codec_spec.specs.Found.{more}
use Rattle.command_codec.specs.declared.fault.CodecFault.{CodecFault}
use Rattle.command_codec.specs.declared.fault.CodecFault.TheVariants.{BadAt, Rest, NoMemory}
use Rattle.command_codec.specs.declared.reader.Alphabet.{Alphabet}
use Rattle.command_codec.specs.declared.reader.Alphabet.TheVariants.{Named, Printed}

-- which bytes may stand
abbrev pub takes : Alphabet → ℕ → Bool
takes Named b = is_name_byte b
takes Printed b = is_text_byte b

-- what was found out of whole bytes; nothing where memory ran out
abbrev pub decoding_of : Result (ℕ × Body) CodecFault → Option Decoding
decoding_of (Ok c) = Some (whole (command_of c))
decoding_of (Err (BadAt place)) = Some (bad_at place)
decoding_of (Err (Rest place)) = Some (rest_at place)
decoding_of (Err NoMemory) = None

-- and of a part
abbrev pub part_of : {A X : Type 0} → (X → A) → Result (X × ℕ) CodecFault → Option (Part A)
part_of view (Ok r) = Some (part (view r.0) r.1)
part_of view (Err (BadAt place)) = Some (no_part place)
part_of view (Err (Rest place)) = Some (more place)
part_of view (Err NoMemory) = None
