use Rattle.std.proofs.Common.{◌≡◌, ◌+◌, List, ◌∷◌, [], ◌++◌, sym, subst, refl, arith}
use Rattle.smo_ops_types.specs.Commands.{command_of}
use Rattle.store_image_spec.specs.ShownPast.{image_past}
use Rattle.journal.specs.Records.{Record}
use Rattle.journal.specs.Reading.{record_of}
use Rattle.archive_core_state.specs.ArchiveContents.{RepresentsPast}
use Rattle.archive_core_replay.specs.declared.record_reader.ReadRecords.{ReadRecords}
use Rattle.archive_core_replay.specs.Reading.{AreChecked, AreKept}
use Rattle.archive_core_replay.proofs.ReadRecords.{command_checked, kept_checked, command_kept}
use Rattle.archive_core_replay.proofs.ReadRecords.{image_checked, image_kept}
use Rattle.archive_core_replay.proofs.ReadRecords.{other_kind}
use Rattle.archive_core_replay.proofs.record_reader.ReadRecords.read.Goals as goal

pub restored-requires : goal.restored-requires
restored-requires c =
    let it = c.in_ok-groups.ensures.image in (
      image_past 0 it.0,
      record { groups = it.4 0; last = it.3 },
    )

pub returns-then-rec-eq-CHECKPOINT-clause-read : goal.returns-then-rec-eq-CHECKPOINT-clause-read
returns-then-rec-eq-CHECKPOINT-clause-read c =
    let it = c.in_ok-groups.ensures.image in
    let kind : c.args.rec.now.kind ≡ 2 = grind (arith, c.if-rec-eq-CHECKPOINT.true) in
    let new : ReadRecords = record {
      state = c.restored.result;
      commands = c.new.result;
      count =
          c.args.self.now.count;
    } in
    let kept : (records : List Record) → AreChecked records c.args.self.now.count
    → AreKept (records ++ record_of c.args.rec.now ∷ []) new = λ records checked.
    image_kept records c.args.self.now.count checked new (record_of c.args.rec.now) it.0
    (λ i. (kind i, it.2 i)) it.1
    (λ n. subst (λ s. RepresentsPast s (image_past n it.0)) (sym c.restored.ensures)
    (record { groups = it.4 n; last = it.3 })) c.new.ensures.items refl in
    record {
      checked = λ known records checked. kept_checked (records ++ record_of c.args.rec.now ∷ []) new
          (kept records checked);
      image = λ after is records checked. kept records checked;
      kept = λ after known records is. kept records (kept_checked records c.args.self.now is);
    }

pub returns-then-not-is_after-clause-read : goal.returns-then-not-is_after-clause-read
returns-then-not-is_after-clause-read c =
    let is_image : c.args.rec.now.kind ≡ 2 = grind (arith, c.if-rec-eq-CHECKPOINT.true) in
    record {
      checked = λ known records checked.
          let it = c.in_ok-check_checkpoint.ensures.image in
          image_checked records c.args.self.now.count checked (record_of c.args.rec.now) it.0
          (λ i. (is_image i, it.2 i)) it.1;
      image = λ after is records checked. absurd (cc (after, c.if-not-is_after.true));
      kept = λ after known records is. absurd (cc (after, c.if-not-is_after.true));
    }

pub returns-then-not-is_after-2-clause-read : goal.returns-then-not-is_after-2-clause-read
returns-then-not-is_after-2-clause-read c =
    let encodes = c.in_ok-check_command.ensures.command in
    let no_image : c.args.rec.now.kind ≡ 2 → ⊥ = λ is.
    grind (arith, c.if-rec-eq-CHECKPOINT.false, is) in
    record {
      checked = λ known records checked.
          let kind : c.args.rec.now.kind ≡ 1 = other_kind c.args.rec.now.kind known no_image in
          command_checked records c.args.self.now.count checked (record_of c.args.rec.now) encodes.0
          (λ i. (kind i, encodes.1.1 i)) encodes.1.0;
      image = λ after is records checked. absurd (no_image is);
      kept = λ after known records is. absurd (cc (after, c.if-not-is_after-2.true));
    }

pub returns-clause-read : goal.returns-clause-read
returns-clause-read c =
    let encodes = c.in_ok-command.ensures.command in
    let no_image : c.args.rec.now.kind ≡ 2 → ⊥ = λ is.
    grind (arith, c.if-rec-eq-CHECKPOINT.false, is) in
    let new : ReadRecords = record {
      state = c.args.self.now.state;
      commands = c.push.new.self;
      count = c.args.self.now.count + 1;
    } in
    record {
      checked = λ known records checked.
          let kind : c.args.rec.now.kind ≡ 1 = other_kind c.args.rec.now.kind known no_image in
          command_checked records c.args.self.now.count checked (record_of c.args.rec.now)
          (command_of c.in_ok-command.command) (λ i. (kind i, encodes.1 i)) encodes.0;
      image = λ after is records checked. absurd (no_image is);
      kept = λ after known records kept.
          let kind : c.args.rec.now.kind ≡ 1 = other_kind c.args.rec.now.kind known no_image in
          command_kept records c.args.self.now new kept (record_of c.args.rec.now)
          c.in_ok-command.command (λ i. (kind i, encodes.1 i)) encodes.0 refl
          c.in_ok-push.ensures.items refl;
    }
