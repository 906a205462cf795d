use Rattle.std.proofs.Common.{◌≡◌, refl, subst, arith, Err, nat_le}
use Rattle.std.proofs.lemmas.Bool.Decides.{nat_tests}
use Rattle.std.proofs.lemmas.Result.{err_from_is_err_and}
use Rattle.journal.specs.Records.{IsKnown}
use Rattle.journal.specs.Reading.{record_of}
use Rattle.archive_core_replay.specs.Reading.{IsRefusedIn, IsRead}
use Rattle.archive_core_replay.specs.declared.fault.RestoreFault.TheVariants.{Damaged}
use Rattle.archive_core_replay.proofs.ReadRecords.{none_read, one_more_read, all_read, not_read}
use Rattle.archive_core_replay.proofs.record_reader.read_all.Goals as goal

pub returns-in_err-read-clause-damaged : goal.returns-in_err-read-clause-damaged
returns-in_err-read-clause-damaged c place is =
    let p = err_from_is_err_and c.from_residual.result c.from_residual.ensures.1 in
    let same : Err c.in_err-read.field-0.0 ≡ Err (Damaged place) = cc (p.1, p.2, is) in
    not_read c.args.recs.now c.loop-index.index c.index-recs-index.result c.loop-index.kept.count
    place c.loop-index-test.true c.loop-index.invariant.read.checked
    (subst (λ r. IsKnown r.kind → IsRefusedIn r.at (record_of r) place) c.index-recs-index.is
    (c.in_err-read.ensures.damaged place same)) c.requires

pub loop-index-init : goal.loop-index-init
loop-index-init c = record {
  read = none_read c.args.recs.now c.before_last_image-before.result
      (record { state = c.new.result; commands = c.new-2.result; count = 0 }) c.new.ensures
      c.new-2.ensures.items refl;
  few = omega arith;
  count = omega arith;
}

pub loop-index-preserved : goal.loop-index-preserved
loop-index-preserved c = record {
  read = one_more_read c.args.recs.now c.before_last_image-before.result
      c.loop-index.index c.index-recs-index.result c.loop-index.kept c.read.new.self
      (nat_le c.before_last_image-before.result c.loop-index.index) c.loop-index-test.true
      (λ le. grind (arith, nat_tests, le)) c.before_last_image-before.ensures.image
      (subst (λ r. IsRead r (nat_le c.before_last_image-before.result c.loop-index.index)
      c.loop-index.kept c.read.new.self) c.index-recs-index.is c.in_ok-read.ensures.read) c.requires
      c.loop-index.invariant.read;
  few = omega (arith, c.in_ok-read.ensures.few, c.loop-index.invariant.few);
  count = omega (arith, c.in_ok-read.ensures.count, c.loop-index.invariant.count);
}

pub returns-clause-kept : goal.returns-clause-kept
returns-clause-kept c = all_read c.args.recs.now c.before_last_image-before.result
    c.loop-index.index c.loop-index.kept c.loop-index-test.false
    c.before_last_image-before.ensures.image c.loop-index.invariant.read
