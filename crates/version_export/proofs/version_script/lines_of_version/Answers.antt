use Rattle.version_export.proofs.ExportLaws.{no_version_fault, seen_fault_told, is_export}
use Rattle.version_export.proofs.version_script.lines_of_version.Goals as goal

pub returns-in-None : goal.returns-in-None
returns-in-None g c = record {
  is = λ past shows. no_version_fault past c.args.version c.newest-newest.result
      (c.newest-newest.ensures.count past shows) (c.in-None.ensures past shows);
}

pub returns-in-Ok : goal.returns-in-Ok
returns-in-Ok g c = record {
  is = λ past shows. is_export past c.args.version (c.in-Some.ensures past shows).0
      (c.newest-newest.ensures.valid past shows) (c.newest-newest.ensures.ends past shows)
      c.in-Ok.tables.items (c.in-Ok.ensures.are past shows) c.stamp_of_first.result
      c.lines_of_tables.result (c.stamp_of_first.ensures past shows)
      (rw c.deref.ensures.value at c.lines_of_tables.ensures);
}

pub returns-in-Err : goal.returns-in-Err
returns-in-Err g c = record {
  is = λ past shows. seen_fault_told past c.args.version (c.in-Some.ensures past shows).0
      c.in-Err.fault c.fault_of_seen.result c.fault_of_seen.ensures
      (c.in-Err.ensures.are past shows);
}
