-- What the reader of std makes of a text of digits is the number of the definition.
use Rattle.std.proofs.Common.{◌≡◌, ℕ, ◌^◌, ◌<◌, ◌≤◌, Bool, true, false, List, length, rules, arith}
use Rattle.std.proofs.Common.{Some, None, ap, sym, ◌∙◌, lt-ltb, ltb-true, le-leb}
use Rattle.std.specs.Prelude.{Result, Ok, Err, nat_le, nat_lt, if◌then◌else◌}
use Rattle.std.proofs.lemmas.Bool.{false_from_ne_true}
use Rattle.script_cli_arguments.specs.Arguments.{number_of}
use Rattle.std.specs.Char.{is_ascii_digit}
use Rattle.std.specs.List.{list_all}
use Rattle.std.specs.Str.Parse.{digits_value, digits_value_after, ParsesUnsigned}
use Rattle.std.specs.Result.{OkIff, result_ok}
use Rattle.std.proofs.lemmas.Str.Parse.{IsNumeralModel, numerals_by_fold, parse_digits}

own : IsNumeralModel (λ ds. list_all is_ascii_digit ds ≡ true) (digits_value 10)
own = numerals_by_fold _ (search rules) (digits_value_after 10) (search rules)

read_digits : {E : Type 0} (text : List ℕ) (r : Result ℕ E) → ParsesUnsigned 64 10 text r
    → list_all is_ascii_digit text ≡ true
    → OkIff r ((0 < length text) × (digits_value 10 text < 2 ^ 64)) (digits_value 10 text)
read_digits text r h digits = parse_digits own 64 text r h digits

number_below : (text : List ℕ) → list_all is_ascii_digit text ≡ true → 0 < length text
    → length text ≤ 20 → (b : Bool)
    → nat_lt (digits_value 10 text) (2 ^ 64) ≡ b
    → number_of text ≡ (if b then Some (digits_value 10 text) else None)
number_below text digits some few b below =
    let one : nat_le 1 (length text) ≡ true = le-leb 1 (length text) (omega arith) in
    let most : nat_le (length text) 20 ≡ true = le-leb (length text) 20 few in
    rw (one, most, digits, below)

by_result : {E : Type 0} (text : List ℕ) (r : Result ℕ E) → list_all is_ascii_digit text ≡ true
    → 0 < length text → length text ≤ 20
    → OkIff r ((0 < length text) × (digits_value 10 text < 2 ^ 64)) (digits_value 10 text)
    → result_ok r ≡ number_of text
by_result text (Ok n) digits some few h =
    ap (λ (k : ℕ). Some k) h.1 ∙ sym (number_below text digits some few true (lt-ltb _ _ h.0.1))
by_result text (Err e) digits some few h =
    sym (number_below text digits some few false
    (false_from_ne_true _ (λ below. h (some, ltb-true _ _ below))))

pub number_read : {E : Type 0} (text : List ℕ) (r : Result ℕ E) → ParsesUnsigned 64 10 text r
    → list_all is_ascii_digit text ≡ true
    → 0 < length text → length text ≤ 20 → result_ok r ≡ number_of text
number_read text r h digits some few = by_result text r digits some few
    (read_digits text r h digits)
