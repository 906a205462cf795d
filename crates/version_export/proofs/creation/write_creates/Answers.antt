use Rattle.std.proofs.lemmas.Result.{on_ok_weaker}
use Rattle.version_export.proofs.PartTexts.{list_created}
use Rattle.version_export.proofs.creation.write_creates.Goals as goal

pub returns-in-len1-up : goal.returns-in-len1-up
returns-in-len1-up c = on_ok_weaker c.write_list.result (list_created c.args.tables.now
    c.first-item.result c.args.out.now.items c.write_list.new.out.items c.in-len1-up.len_at_least
    c.first-item.is) c.write_list.ensures
