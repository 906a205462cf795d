-- What `decode` answers is what the bytes are, and nothing else is.
use Rattle.std.proofs.Common.{◌≡◌, ℕ, ◌-◌, ◌<◌, ◌≤◌, List, [], length, refl, sym, ap, ◌∙◌, subst}
use Rattle.std.proofs.Common.{Option, Some, Result, Ok, Err}
use Rattle.std.specs.Prelude.{IfOk, IfErr, IfSome}
use Rattle.smo_ops_types.specs.Commands.{PlainCommand, command_of}
use Rattle.smo_ops_types.specs.declared.command.Body.{Body}
use Rattle.command_codec_spec.specs.Reading.{Parsed, Unexpected}
use Rattle.command_codec_spec.specs.Encoding.{command_bytes}
use Rattle.command_codec_spec.specs.Valid.{IsCommand}
use Rattle.command_codec_spec.specs.Reader.{command}
use Rattle.command_codec_spec.specs.Found.{Decoding, whole, bad_at, rest_at, IsDecoding}
use Rattle.command_codec_spec.proofs.CommandFormats.{command_correct}
use Rattle.command_codec_spec.proofs.Deciding.{got_prefix, got_command, got_more, stuck_command}
use Rattle.command_codec_spec.proofs.Deciding.{decoding_once}
use Rattle.command_codec.specs.declared.fault.CodecFault.{CodecFault}
use Rattle.command_codec.specs.declared.fault.CodecFault.TheVariants.{BadAt, Rest, NoMemory}
use Rattle.command_codec.specs.Answers.{decoding_of}

-- right, and nothing else
abbrev pub Answers : List ℕ → Result (ℕ × Body) CodecFault → Type 0
Answers bytes result = IfSome (decoding_of result) (IsDecoding bytes)
    × ((x : Decoding) → IsDecoding bytes x → IfSome (decoding_of result) (λ answer. answer ≡ x))

answers : (bytes : List ℕ) (result : Result (ℕ × Body) CodecFault) (d : Decoding)
    → decoding_of result ≡ Some d → IsDecoding bytes d → Answers bytes result
answers bytes result d e h =
    let P : Option Decoding → Type 0 = λ o. IfSome o (IsDecoding bytes)
    × ((x : Decoding) → IsDecoding bytes x → IfSome o (λ answer. answer ≡ x)) in
    subst P (sym e) (h, λ x k. decoding_once bytes d x h k)

fits_after : (c : PlainCommand) (bytes rest : List ℕ) → command bytes ≡ Parsed c rest
    → length rest ≤ length bytes
fits_after c bytes rest e = (got_prefix command IsCommand command_bytes command_correct c bytes rest
    e).0

pub command_fits : (c : ℕ × Body) (bytes rest : List ℕ) → command bytes ≡ Parsed (command_of c) rest
    → length rest ≤ length bytes
command_fits c bytes rest e = fits_after (command_of c) bytes rest e

pub alone_answers : (c : ℕ × Body) (bytes rest : List ℕ) (result : Result (ℕ × Body) CodecFault)
    → command bytes ≡ Parsed (command_of c) rest
    → IfOk result (λ d. (d ≡ c) × (rest ≡ []))
    → IfErr result (λ e. (0 < length rest) × (e ≡ Rest (length bytes - length rest)))
    → Answers bytes result
alone_answers c bytes rest (Ok d) e h k =
    answers bytes (Ok d) (whole (command_of c)) (ap (λ x. Some (whole (command_of x))) h.0)
    (got_command (command_of c) bytes (e ∙ ap (λ l. Parsed (command_of c) l) h.1))
alone_answers c bytes rest (Err NoMemory) e h k = absurd (let z = k.1 in cc)
alone_answers c bytes rest (Err (BadAt place)) e h k = absurd (let z = k.1 in cc)
alone_answers c bytes rest (Err (Rest place)) e h k =
    let z = k.1 in
    let same : place ≡ length bytes - length rest = cc in
    answers bytes (Err (Rest place)) (rest_at (length bytes - length rest))
    (ap (λ p. Some (rest_at p)) same) (got_more (command_of c) bytes rest e k.0).1

pub stuck_answers : (bytes rest : List ℕ) → command bytes ≡ Unexpected rest
    → (length rest ≤ length bytes) × Answers bytes (Err (BadAt (length bytes - length rest)))
stuck_answers bytes rest e = let g = stuck_command bytes rest e in (
  g.0,
  answers bytes (Err (BadAt (length bytes - length rest)))
      (bad_at (length bytes - length rest)) refl g.1,
)
