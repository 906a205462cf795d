use Rattle.std.specs.Prelude.{codes}
use Rattle.std.proofs.lemmas.Result.{on_ok_weaker}
use Rattle.version_export.specs.Statements.{create_text, then_creates}
use Rattle.version_export.specs.Written.{tables_seen}
use Rattle.version_export.proofs.PartTexts.{four}
use Rattle.version_export.proofs.creation.write_list.Goals as goal

pub returns : goal.returns
returns c = on_ok_weaker c.put-2.result (four c.args.out.now.items c.put.new.out.items
    c.write_create.new.out.items c.write_more_creates.new.out.items c.put-2.new.out.items
    (codes "(") (create_text c.args.first.now) (then_creates (tables_seen c.args.more.now))
    (codes ")") c.in_ok-put.ensures.ok c.in_ok-write_create.ensures
    c.in_ok-write_more_creates.ensures) c.put-2.ensures.ok
