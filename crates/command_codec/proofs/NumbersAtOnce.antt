-- A number whose eight bytes are taken at once is the one that is read byte by byte.
use Rattle.std.proofs.Common.{◌≡◌, ℕ, ◌<◌, ◌^◌, List, ◌++◌, length, get_or, sym, ap, ◌∙◌, arith}
use Rattle.std.specs.Int.{w64, from_be_bytes, bytes_high_first}
use Rattle.std.proofs.lemmas.Nat.{be_bytes_8}
use Rattle.command_codec_spec.specs.Reading.{Parsed, digits}
use Rattle.command_codec_spec.specs.Encoding.{number}
use Rattle.command_codec_spec.proofs.Numbers.{number_correct}

pub read_at_once : (bs : List ℕ) → length bs ≡ 8 → ((i : ℕ) → get_or bs i 0 < 256) → (n : ℕ)
    → n < 2 ^ 64 → n ≡ from_be_bytes w64 bs → (rest : List ℕ)
    → digits 18446744073709551615 8 0 (bs ++ rest) ≡ Parsed n rest
unfolding number
read_at_once bs eight small n few is rest =
    let bytes : bytes_high_first 8 n ≡ bs = be_bytes_8 bs n eight small is in
    ap (λ l. digits 18446744073709551615 8 0 (l ++ rest)) (sym bytes)
    ∙ (number_correct 18446744073709551615 8 (omega arith)).complete n (omega (arith, few)) rest
