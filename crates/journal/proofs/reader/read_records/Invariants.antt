use Rattle.std.proofs.Common.{◌≡◌, ◌-◌, ◌^◌, ◌<◌, length}
use Rattle.disk_model.specs.Meaning.{IfKnown}
use Rattle.disk_model.specs.DeviceCalls.{Reads}
use Rattle.journal.proofs.Walked.{IsWalked, IsPlaced}
use Rattle.journal.proofs.reader.read_records.Given as goal

abbrev pub invariant-records : goal.invariant-records
invariant-records g l =
    let M = g.D.Disk.meaning in
    let before = M l.initial.disk in
    record {
      reads : Reads before (M l.disk);
      unfailed : (M l.disk).faults ≡ before.faults;
      below : l.end < 2 ^ 64 - 1;
      end : IfKnown before.seen (λ file. l.end ≡ length file);
      inside : l.at < l.end;
      placed : IsPlaced l.recs.items l.at;
      walked : IfKnown before.seen (λ file. IsWalked file l.recs.items l.at l.gate);
    }

abbrev pub decreases-records : goal.decreases-records
decreases-records g l = 2 ^ 64 - l.at
