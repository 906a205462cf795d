use Rattle.std.proofs.Common.{◌++◌, take, sym, ap, ◌∙◌}
use Rattle.std.proofs.lemmas.List.{take-append-drop}
use Rattle.command_codec_spec.specs.Reading.{digits}
use Rattle.command_codec.proofs.reader.Reader.number_64.Goals as goal

pub returns-in-Some : goal.returns-in-Some
returns-in-Some c =
    let ts = c.args.self.now.rest.now in
    let parts = c.in-Some.ensures.cases in
    sym (ap (digits 18446744073709551615 8 0)
    (ap (λ l. l ++ c.in-Some.rest.now) parts.0 ∙ ap (λ l. take 8 ts ++ l) parts.1
    ∙ take-append-drop 8 ts)) ∙ c.number_of.ensures c.in-Some.rest.now
