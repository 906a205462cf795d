-- Kept rows, as entries of an answer.
use Rattle.std.specs.Prelude.{List, map}
use Rattle.relations_spec.specs.Timed.{Entry}
use Rattle.smo_ops_spec.specs.OneRow.{Row}
use Rattle.sessions.specs.declared.vault.KeptRow.{KeptRow}

abbrev pub kept_entry : KeptRow → Entry Row
kept_entry k = record { item = k.values; period = k.period }

abbrev pub kept_entries : List KeptRow → List (Entry Row)
kept_entries rows = map kept_entry rows
