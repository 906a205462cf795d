-- How clap reads the words, and what it then found.
use Rattle.std.specs.Prelude.{true, List, [], ◌∷◌, Option, Some, None, codes, unwrap_or}
use Rattle.std.specs.Prelude.{if◌then◌else◌}
use Rattle.clap.specs.Faults.{fault_of}
use Rattle.clap.specs.Simple.{App, matches_of, new_rule, new_shape}
use Rattle.clap.specs.Walk.{Row, Rule, all_of, first_of, is_empty}
use Rattle.clap.specs.declared.builder.action.ArgAction.TheVariants.{Append}
use Rattle.script_cli_arguments.specs.Arguments.{Word, Parts}

abbrev pub limit_rule : Rule
limit_rule = record (new_rule (codes "journal-limit")) {
  long = Some (codes "journal-limit");
  action = Some Append;
}

abbrev pub size_rule : Rule
size_rule = record (new_rule (codes "size")) {
  long = Some (codes "size");
  action = Some Append;
}

-- two options, each of which may come more than once as far as clap is concerned, and one other
-- word
abbrev pub program : App
program = record {
  top = record (new_shape (codes "prima")) {
    rules = limit_rule ∷ size_rule ∷ new_rule (codes "word") ∷ [];
    no_binary_name = true;
    disable_help_flag = true;
  };
  subs = [];
}

abbrev pub parts_in : List Row → Parts
parts_in rows = record {
  limits = unwrap_or (all_of (codes "journal-limit") rows) [];
  sizes = unwrap_or (all_of (codes "size") rows) [];
  other = first_of (codes "word") rows;
}

-- what clap makes of the words, where it takes them
abbrev pub parsed_words : List Word → Option Parts
parsed_words arguments =
    if is_empty (fault_of program arguments) then Some (parts_in (matches_of program arguments))
    else None
