-- Nothing is put, or one record.
use Rattle.std.proofs.Common.{ℕ, List, [], ◌∷◌, ◌++◌, sym, subst}
use Rattle.std.proofs.lemmas.List.{append-nil, map-append}
use Rattle.disk_model.specs.Meaning.{Meaning, IsValid}
use Rattle.disk_model.specs.declared.disk.Disk.{Ghosts}
use Rattle.disk_model.specs.MomentLaws.{goes_refl}
use Rattle.journal.specs.Records.{Record}
use Rattle.journal.specs.Puts.{Puts, Acknowledges}
use Rattle.journal.specs.PutLaws.{have_none, have_more}
use Rattle.archive_core_file_spec.specs.LogRecords.{LogRecord, record_of, records_of, IsEncoded}
use Rattle.script_cli_vault.specs.ArchiveOnDisk.{HoldsAt, Archive, below, place_of}
use Rattle.script_cli_statement.specs.Putting.{HasPut}
use Rattle.script_cli_statement.specs.Responses.{PutBetween}

-- nothing is put
pub put_nothing : (d : Meaning) (at : ℕ) → IsValid d → HasPut d d at at []
put_nothing d at law = record {
  encoded = tt;
  goes = goes_refl d law;
  holds = λ opening held. subst (λ (l : List LogRecord). HoldsAt d at (records_of l))
      (sym (append-nil opening)) held;
  have = λ opening honest stands. have_none d at (records_of opening) law stands;
}

-- one is put
pub put_one : (old new : Meaning) (at next : ℕ) (c : LogRecord) → IsValid old → IsEncoded c
    → ((rs : List Record) → HoldsAt old at rs → HoldsAt new next (rs ++ record_of c ∷ []))
    → Puts old new at (record_of c) → Acknowledges old new at next (record_of c)
    → HasPut old new at next (c ∷ [])
put_one old new at next c law is holds puts acknowledges = record {
  encoded = (is, tt);
  goes = puts.goes;
  holds = λ opening held. subst (HoldsAt new next) (sym (map-append record_of opening (c ∷ [])))
      (holds (records_of opening) held);
  have = λ opening honest stands.
      have_more old old at (records_of opening) [] honest
      (have_none old at (records_of opening) law stands) new next (record_of c) puts
      acknowledges;
}

module _ {D : Type 0} {g : Ghosts D} where
  -- nothing was put
  pub nothing_between : (a : Archive D g) → IsValid (below a) → PutBetween a a []
  nothing_between a law = ([], tt, put_nothing (below a) (place_of a) law)
