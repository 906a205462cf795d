-- The steps of reading names and texts.
use Rattle.std.proofs.Common.{◌≡◌, ℕ, suc, ◌-◌, ◌*◌, ◌^◌, ◌<◌, ◌≤◌, true, nat_lt, nat_le, List, []}
use Rattle.std.proofs.Common.{◌∷◌, length, take, refl, sym, ap, ◌∙◌, arith}
use Rattle.std.proofs.lemmas.Bool.{ltb-true}
use Rattle.std.proofs.lemmas.List.{take_at, length-append}
use Rattle.prima_base.specs.Bytes.{is_name_byte, is_text_byte, IsName, IsTxt}
use Rattle.command_codec_spec.specs.Reading.{Parsed, Unexpected, and_then, pure, map_to, byte, run}
use Rattle.command_codec_spec.specs.Reading.{digits}
use Rattle.command_codec_spec.specs.Reader.{is_name_start, is_name_length, name_text}
use Rattle.command_codec_spec.proofs.Correctness.{is_read, byte_correct, run_correct}
use Rattle.command_codec_spec.proofs.Numbers.{of_both, number_correct}
use Rattle.command_codec_spec.proofs.PartFormats.{name_text_correct, are_text}

from_length : (n : ℕ) → is_name_length n ≡ true → suc (n - 1) ≡ n
from_length n h = let k = ltb-true 0 n (of_both (nat_lt 0 n) (nat_le n 63) h).0 in omega (arith, k)

by_start : (k : ℕ) (ts : List ℕ) → name_text (suc k) ts
    ≡ and_then (byte is_name_start ts) (λ b. map_to (λ l. b ∷ l) (run is_name_byte k))
unfolding name_text
by_start k ts = refl

whole : (n : ℕ) (ts : List ℕ) → is_name_length n ≡ true
    → name_text n ts ≡ and_then (byte is_name_start ts)
    (λ b. map_to (λ l. b ∷ l) (run is_name_byte (n - 1)))
whole n ts h = ap (λ k. name_text k ts) (sym (from_length n h)) ∙ by_start (n - 1) ts

pub no_start : (n : ℕ) (ts new : List ℕ) → is_name_length n ≡ true
    → byte is_name_start ts ≡ Unexpected new → name_text n ts ≡ Unexpected new
no_start n ts new h f = whole n ts h
    ∙ ap (λ o. and_then o (λ b. map_to (λ l. b ∷ l) (run is_name_byte (n - 1)))) f

pub no_run : (n b : ℕ) (ts us new : List ℕ) → is_name_length n ≡ true
    → byte is_name_start ts ≡ Parsed b us → run is_name_byte (n - 1) us ≡ Unexpected new
    → name_text n ts ≡ Unexpected new
no_run n b ts us new h g f = whole n ts h
    ∙ ap (λ o. and_then o (λ b. map_to (λ l. b ∷ l) (run is_name_byte (n - 1)))) g
    ∙ ap (λ o. and_then o (λ l. pure (b ∷ l))) f

-- the bytes that were read are the prefix of those that stood there
pub name_prefix : (n b : ℕ) (ts us l rest : List ℕ) → is_name_length n ≡ true
    → byte is_name_start ts ≡ Parsed b us → run is_name_byte (n - 1) us ≡ Parsed l rest
    → (n ≤ length ts) × (name_text n ts ≡ Parsed (take n ts) rest)
name_prefix n b ts us l rest h g f =
    let got : name_text n ts ≡ Parsed (b ∷ l) rest = whole n ts h
    ∙ ap (λ o. and_then o (λ b. map_to (λ l. b ∷ l) (run is_name_byte (n - 1)))) g
    ∙ ap (λ o. and_then o (λ m. pure (b ∷ m))) f in
    let is = is_read (name_text n) (λ l. (length l ≡ n) × IsName l) (λ l. l) (name_text_correct n h)
    (b ∷ l) ts rest got in
    let prefix : take n ts ≡ b ∷ l = ap (take n) is.1 ∙ take_at (b ∷ l) rest n is.0.0 in (
      (let e = ap length is.1 in omega (arith, e, is.0.0, length-append (b ∷ l) rest)),
      got
          ∙ ap (λ m. Parsed m rest) (sym prefix),
    )

pub length_taken : (n : ℕ) (ts rest : List ℕ) → byte is_name_length ts ≡ Parsed n rest
    → is_name_length n ≡ true
length_taken n ts rest e = (is_read (byte is_name_length) (λ b. is_name_length b ≡ true)
    (λ b. b ∷ []) (byte_correct is_name_length 1 refl) n ts rest e).0

pub name_valid : (n : ℕ) (ts us l rest : List ℕ) → byte is_name_length ts ≡ Parsed n us
    → name_text n us ≡ Parsed l rest → IsName l
name_valid n ts us l rest e f = (is_read (name_text n) (λ l. (length l ≡ n) × IsName l) (λ l. l)
    (name_text_correct n (length_taken n ts us e)) l us rest f).0.1

pub text_valid : (n : ℕ) (ts us l rest : List ℕ) → digits 4096 2 0 ts ≡ Parsed n us
    → run is_text_byte n us ≡ Parsed l rest → IsTxt l
text_valid n ts us l rest e f =
    let small = (is_read (digits 4096 2 0) (λ n. n ≤ 4096) _ (number_correct 4096 2 (omega arith)) n
    ts us e).0 in
    are_text n l small (is_read (run is_text_byte n) _ (λ l. l) (run_correct is_text_byte 97 refl n)
    l us rest f).0

-- a number that was read is at most the greatest that may stand there
pub number_small : (most k n : ℕ) (ts rest : List ℕ) → most < 2 ^ (8 * k)
    → digits most k 0 ts ≡ Parsed n rest → n ≤ most
number_small most k n ts rest h e = (is_read (digits most k 0) (λ n. n ≤ most) _
    (number_correct most k h) n ts rest e).0
