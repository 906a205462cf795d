use Rattle.std.proofs.Common.{◌≡◌, ◌≤◌, IsTrue, List, length, take, drop}
use Rattle.disk_model.specs.Moments.{GoesOn}
use Rattle.journal.specs.Fields.{below, place_of, limit_of}
use Rattle.journal.specs.PutLists.{records_of, fitting}
use Rattle.journal.specs.Puts.{HavePut}
use Rattle.journal.specs.Records.{Record}
use Rattle.journal.specs.JournalFiles.{Stands, HasGate}
use Rattle.journal.proofs.put_list.put_each.Given as goal

abbrev pub invariant-loop-sealed : goal.invariant-loop-sealed
invariant-loop-sealed g l =
    let start = below l.initial.journal in
    let now = below l.journal in
    let at = place_of l.initial.journal in
    let whole = fitting (limit_of l.initial.journal) at (records_of l.list) in
    record {
      ready : HasGate now (place_of l.journal);
      limit : limit_of l.journal ≡ limit_of l.initial.journal;
      goes : GoesOn start now;
      unfailed : now.faults ≡ start.faults;
      rest : drop l.put whole
          ≡ fitting (limit_of l.initial.journal) (place_of l.journal)
          (records_of (drop l.sealed-index l.list));
      within : l.put ≤ length whole;
      counted : l.put ≤ l.sealed-index;
      have : (opening : List Record) → IsTrue start.is_honest → Stands start at opening
          → HavePut start now (place_of l.journal) opening (take l.put whole);
    }
