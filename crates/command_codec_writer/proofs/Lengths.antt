-- How many bytes spellings have.
use Rattle.std.proofs.Common.{◌≡◌, ℕ, zero, suc, ◌+◌, ◌≤◌, List, [], ◌∷◌, ◌++◌, length, min, refl}
use Rattle.std.proofs.Common.{ap, ◌∙◌, arith, add-one, length-append}
use Rattle.std.specs.Prelude.{ℤ}
use Rattle.std.specs.Int.{w64, cast_unsigned, bytes_high_first}
use Rattle.prima_base.specs.declared.value.Value.TheVariants.{Int, Text}
use Rattle.cond_expr.proofs.SeenLaws.{count_is_length, tree_of_concat, tree_of_case, test_of_and}
use Rattle.cond_expr.proofs.SeenLaws.{test_of_or, test_of_cmp}
use Rattle.command_codec_spec.specs.Encoding.{number, value_bytes}
use Rattle.command_codec_writer.proofs.After.{number_is_length, test_of_not}

high_first_length : (k n : ℕ) → length (bytes_high_first k n) ≡ k
high_first_length zero n = refl
high_first_length (suc k) n = ap suc (high_first_length k n)

pub number_length : (k n : ℕ) → length (number k n) ≡ k
unfolding number
number_length k n = high_first_length k n

pub int_length : (z : ℤ) → length (value_bytes (Int z)) ≡ 9
int_length z = ap suc (number_length 8 (cast_unsigned w64 z))

pub text_length : (t : List ℕ) → length (value_bytes (Text t)) ≡ length t + 3
text_length t =
    let e = length-append (1 ∷ number 2 (length t)) t in
    let f = number_length 2 (length t) in
    omega (arith, e, f)

-- one item more
pub one_counted : (all size a b most : ℕ) → min all most ≡ min (size + (a + b)) most
    → min all most ≡ min (min (size + min a most) most + b) most
one_counted all size a b most e = omega (arith, e)

pub ruleset lengths = (
  length-append,
  number_length,
  int_length,
  text_length,
  count_is_length,
  number_is_length,
  tree_of_concat,
  tree_of_case,
  test_of_and,
  test_of_or,
  test_of_cmp,
  test_of_not,
)
