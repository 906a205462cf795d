use Rattle.std.proofs.Common.{◌≡◌, map, length, sym, ap, ◌∙◌}
use Rattle.smo_ops_types.specs.Commands.{version_of}
use Rattle.smo_ops_spec.specs.Past.{no_tables, newest_from}
use Rattle.command_codec_spec.specs.Reading.{Parsed, and_then, pure, pair}
use Rattle.command_codec_spec.specs.Reader.{number_64, operator, operators}
use Rattle.store_image_spec.specs.ItemChecks.{is_version}
use Rattle.store_image_spec.specs.Reader.{version, evolution, version_after}
use Rattle.store_image_reader.specs.NextVersion.{newest_stamp, version_read}
use Rattle.store_image_reader.proofs.ItemSteps.{checked_got, checked_wrong, checked_fails}
use Rattle.store_image_reader.proofs.ItemSteps.{counted_fails}
use Rattle.store_image_reader.proofs.version.version.Goals as goal

pub returns-in-Some : goal.returns-in-Some
unfolding version
returns-in-Some c =
    let vs = map version_of c.args.versions.now in
    let tables = newest_from no_tables vs in
    let rest = c.evolution.new.reader.rest.now in
    let ts = c.args.reader.now.rest.now in
    let accepted = rw c.in-Some.is at c.in_ok-version-in-Ok.ensures in
    let got : evolution tables ts ≡ Parsed (version_read tables c.in-Ok.read) rest =
    ap (λ o. and_then o (λ x. pure (version_after tables x))) c.in-Ok.ensures in
    checked_got (evolution tables) (is_version c.args.last (length c.args.versions.now)
    (newest_stamp vs) tables) (version_read tables c.in-Ok.read) ts rest got accepted.0
    ∙ ap (λ v. Parsed v rest) (sym accepted.1)

pub returns-in-None : goal.returns-in-None
unfolding version
returns-in-None c =
    let vs = map version_of c.args.versions.now in
    let tables = newest_from no_tables vs in
    let rest = c.evolution.new.reader.rest.now in
    let ts = c.args.reader.now.rest.now in
    let refused = rw c.in-None.is at c.in_ok-version-in-Ok.ensures in
    let got : evolution tables ts ≡ Parsed (version_read tables c.in-Ok.read) rest =
    ap (λ o. and_then o (λ x. pure (version_after tables x))) c.in-Ok.ensures in
    checked_wrong (evolution tables) (is_version c.args.last (length c.args.versions.now)
    (newest_stamp vs) tables) (version_read tables c.in-Ok.read) ts rest got refused

pub returns-in-Err : goal.returns-in-Err
unfolding version
returns-in-Err c =
    let vs = map version_of c.args.versions.now in
    let tables = newest_from no_tables vs in
    let rest = c.evolution.new.reader.rest.now in
    let ts = c.args.reader.now.rest.now in
    checked_fails (evolution tables) (is_version c.args.last (length c.args.versions.now)
    (newest_stamp vs) tables) c.in-Err.stop ts rest
    (counted_fails (pair number_64 (pair operator operators)) (λ x. pure (version_after tables x))
    ts c.in-Err.stop rest c.in-Err.ensures)
