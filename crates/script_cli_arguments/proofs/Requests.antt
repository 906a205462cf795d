-- What is asked for by equal values is equal.
use Rattle.std.proofs.Common.{◌≡◌, ap, ◌∙◌, List, [], Option, unwrap_or}
use Rattle.script_cli_arguments.specs.declared.request.Request.{Request}
use Rattle.script_cli_arguments.specs.Arguments.{Word, asked_with, limit_of, size_of}

abbrev pub by_values : Option (List Word) → Option (List Word) → Option Word → Option Request
by_values limits sizes other = asked_with (limit_of (unwrap_or limits []))
    (size_of (unwrap_or sizes [])) other

pub same_request : {l k s t : Option (List Word)} {o u : Option Word} → l ≡ k → s ≡ t → o ≡ u
    → by_values l s o ≡ by_values k t u
same_request {l} {k} {s} {t} {o} {u} e f g =
    ap (λ (x : Option (List Word)). by_values x s o) e
    ∙ ap (λ (x : Option (List Word)). by_values k x o) f
    ∙ ap (λ (x : Option Word). by_values k t x) g
