-- What `check` answers is what the bytes are, and nothing else is.
use Rattle.std.proofs.Common.{◌≡◌, ℕ, ◌-◌, ◌<◌, ◌≤◌, List, [], length, refl, sym, ap, ◌∙◌, subst}
use Rattle.std.proofs.Common.{Result, Ok, Err}
use Rattle.std.specs.Prelude.{OnOk, IfErr}
use Rattle.command_codec_spec.specs.Reading.{Parsed, Unexpected}
use Rattle.command_codec_spec.specs.Encoding.{command_bytes}
use Rattle.command_codec_spec.specs.Valid.{IsCommand}
use Rattle.command_codec_spec.specs.Reader.{command}
use Rattle.command_codec_spec.specs.Found.{Decoding, whole, bad_at, rest_at, IsDecoding}
use Rattle.command_codec_spec.proofs.CommandFormats.{command_correct}
use Rattle.command_codec_spec.proofs.Deciding.{got_prefix, got_command, got_more, stuck_command}
use Rattle.command_codec_spec.proofs.Deciding.{decoding_once}
use Rattle.command_codec.specs.Reads.{Passes}
use Rattle.command_codec_checker.specs.declared.fault.CheckFault.{CheckFault}
use Rattle.command_codec_checker.specs.declared.fault.CheckFault.TheVariants.{BadAt, Rest}
use Rattle.command_codec_checker.specs.Answers.{answer_to, AreAnswered}

pub record Answers (bytes : List ℕ) (result : Result (Unit {0}) CheckFault) : Type 0 where
  pub right : AreAnswered bytes result
  pub exact : (decoding : Decoding) → IsDecoding bytes decoding → result ≡ answer_to decoding

are_answered : (bytes : List ℕ) (d : Decoding) → IsDecoding bytes d
    → AreAnswered bytes (answer_to d)
are_answered bytes (whole c) h = (c, h)
are_answered bytes (bad_at place) h = h
are_answered bytes (rest_at place) h = h

answers : (bytes : List ℕ) (result : Result (Unit {0}) CheckFault) (d : Decoding)
    → IsDecoding bytes d → result ≡ answer_to d → Answers bytes result
answers bytes result d h e = record {
  right =
      subst (AreAnswered bytes) (sym e) (are_answered bytes d h);
  exact = λ x k. e
      ∙ ap answer_to (decoding_once bytes d x h k);
}

pub command_fits : (bytes rest : List ℕ) → Passes (command bytes) rest → length rest ≤ length bytes
command_fits bytes rest p = (got_prefix command IsCommand command_bytes command_correct p.read bytes
    rest p.got).0

pub alone_answers : (bytes rest : List ℕ) (result : Result (Unit {0}) CheckFault)
    → Passes (command bytes) rest
    → OnOk result (rest ≡ []) → IfErr result (λ e. (0 < length rest)
    × (e ≡ Rest (length bytes - length rest))) → Answers bytes result
alone_answers bytes rest (Ok tt) p h k = answers bytes (Ok tt) (whole p.read)
    (got_command p.read bytes (p.got ∙ ap (Parsed p.read) h)) refl
alone_answers bytes rest (Err e) p h k = answers bytes (Err e)
    (rest_at (length bytes - length rest)) (got_more p.read bytes rest p.got k.0).1 (ap Err k.1)

pub stuck_answers : (bytes rest : List ℕ) → command bytes ≡ Unexpected rest
    → (length rest ≤ length bytes) × Answers bytes (Err (BadAt (length bytes - length rest)))
stuck_answers bytes rest e = let g = stuck_command bytes rest e in (
  g.0,
  answers bytes (Err (BadAt (length bytes - length rest)))
      (bad_at (length bytes - length rest)) g.1 refl,
)
