use Rattle.std.proofs.Common.{◌≡◌, ◌∙◌, rules, ap, ap₂, subst, codes, true, map, string_bytes}
use Rattle.std.proofs.lemmas.Result.{IfOk-weaker}
use Rattle.clap.specs.Faults.{fault_of, is_simple_and_free}
use Rattle.clap.specs.Kinds.{FailsBy}
use Rattle.clap.specs.Simple.{app_of, app_of_fields, is_simple, matches_of, new_rule}
use Rattle.clap.specs.Simple.{on_top, with_rule}
use Rattle.clap.specs.Walk.{rule_of}
use Rattle.script_cli_arguments.specs.Reading.{program, limit_rule, size_rule}
use Rattle.script_cli_arguments.proofs.parser.parse.Goals as goal

pub returns-clause-rows : goal.returns-clause-rows
returns-clause-rows c =
    let limit_is : rule_of c.action-limit.result ≡ limit_rule = search rules in
    let size_is : rule_of c.action-size.result ≡ size_rule = search rules in
    let word_is : rule_of c.new-word.result ≡ new_rule (codes "word") = search rules in
    let base_is = ap app_of_fields c.disable_help_flag.ensures
    ∙ ap (λ f. app_of_fields (record f { disable_help_flag = true })) c.no_binary_name.ensures
    ∙ ap (on_top (λ s. record s { no_binary_name = true; disable_help_flag = true }))
    c.new-3.ensures.app in
    let program_is : app_of c.in_ok-command.command ≡ program =
    c.in_ok-command.ensures.shape (search rules)
    ∙ ap₂ with_rule (c.in_ok-arg-2.ensures.shape (search rules)
    ∙ ap₂ with_rule (c.in_ok-arg.ensures.shape (search rules) ∙ ap₂ with_rule base_is limit_is)
    size_is)
    word_is in
    let parse = c.try_get_matches_from in
    IfOk-weaker parse.result _ _ (λ m h. (h (ap is_simple program_is)).0
    ∙ ap (λ a. matches_of a (map string_bytes c.args.arguments.now)) program_is)
    parse.ensures.matches

pub returns-clause-fails : goal.returns-clause-fails
returns-clause-fails c =
    let limit_is : rule_of c.action-limit.result ≡ limit_rule = search rules in
    let size_is : rule_of c.action-size.result ≡ size_rule = search rules in
    let word_is : rule_of c.new-word.result ≡ new_rule (codes "word") = search rules in
    let base_is = ap app_of_fields c.disable_help_flag.ensures
    ∙ ap (λ f. app_of_fields (record f { disable_help_flag = true })) c.no_binary_name.ensures
    ∙ ap (on_top (λ s. record s { no_binary_name = true; disable_help_flag = true }))
    c.new-3.ensures.app in
    let program_is : app_of c.in_ok-command.command ≡ program =
    c.in_ok-command.ensures.shape (search rules)
    ∙ ap₂ with_rule (c.in_ok-arg-2.ensures.shape (search rules)
    ∙ ap₂ with_rule (c.in_ok-arg.ensures.shape (search rules) ∙ ap₂ with_rule base_is limit_is)
    size_is)
    word_is in
    let parse = c.try_get_matches_from in
    subst (λ a. FailsBy (fault_of a (map string_bytes c.args.arguments.now)) parse.result)
    program_is
    (parse.ensures.kinds (ap is_simple_and_free program_is))
