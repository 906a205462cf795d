use Rattle.std.proofs.Common.{◌≡◌, ap, ◌∙◌, rules}
use Rattle.std.specs.Vec.Iter.{into_iter_items, into_iter_len}
use Rattle.std.proofs.lemmas.Iterator.{YieldsList-from_zip, items_from_collect}
use Rattle.std.proofs.lemmas.Iterator.Adapters.{YieldsList-from_vec}
use Rattle.script_parse.proofs.change_reader.paired.Goals as goal

pub returns : goal.returns
returns c =
    let first : c.zip.result.a ≡ c.into_iter.result = cc in
    let second : c.zip.result.b ≡ c.into_iter-2.result = cc in
    items_from_collect _ c.collect.ensures.ran (YieldsList-from_zip
    (YieldsList-from_vec c.args.names.items (ap into_iter_items first ∙ search rules)
    (ap into_iter_len first ∙ search rules))
    (YieldsList-from_vec c.args.values.items (ap into_iter_items second ∙ search rules)
    (ap into_iter_len second ∙ search rules)))
