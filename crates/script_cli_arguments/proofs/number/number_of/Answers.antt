use Rattle.std.proofs.Common.{◌≡◌, ◌<◌, ◌≤◌, ◌∙◌, length, true, sym, subst, rules, List, ℕ}
use Rattle.std.specs.Char.{is_ascii_digit}
use Rattle.std.specs.List.{list_all}
use Rattle.script_cli_arguments.proofs.Numerals.{number_read}
use Rattle.script_cli_arguments.proofs.number.number_of.Goals as goal

pub returns : goal.returns
returns c =
    let digits : list_all is_ascii_digit c.args.text.now ≡ true =
    subst (λ (bytes : List ℕ). list_all is_ascii_digit bytes ≡ true) c.as_bytes.ensures.value
    (sym c.are_digits.ensures ∙ c.if-not-are_digits.false) in
    let some : 0 < length c.args.text.now = search rules in
    let few : length c.args.text.now ≤ 20 = search rules in
    c.ok.ensures.value ∙ number_read c.args.text.now c.parse.result c.parse.ensures.value.0 digits
    some few
