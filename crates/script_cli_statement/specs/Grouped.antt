-- What an archive answers to the query of an aggregate.
use Rattle.std.specs.Prelude.{◌≡◌, ℕ, List, [], ◌∷◌, None, Err}
use Rattle.prima_base.specs.Faults.{IsTested}
use Rattle.prima_base.specs.Timed.{entries_of}
use Rattle.prima_base.specs.declared.fault.CallFault.{CallFault}
use Rattle.prima_base.specs.declared.refusal.Refusal.{Refusal}
use Rattle.answer_text.specs.declared.listing.Listing.{Listing}
use Rattle.smo_ops_spec.specs.First.{first_refusal}
use Rattle.smo_ops_spec.specs.Past.{Past}
use Rattle.temporal_lang_types.specs.declared.agg_item.AggItem.{AggItem}
use Rattle.temporal_lang_types.specs.Queries.{PlainQuery}
use Rattle.temporal_lang_spec.specs.Accepted.{version_fault}
use Rattle.temporal_lang_spec.specs.Checking.{excess_of, excess_fault}
use Rattle.temporal_lang_spec.specs.AggregateFaults.{fault_of_aggregate}
use Rattle.temporal_lang_spec.specs.Answers.{answer}
use Rattle.script_cli_vault.specs.ArchiveOnDisk.{tells_periods}

-- its listing, where the aggregate is not refused
pub record IsListedWhole (past : Past) (query : PlainQuery) (items : List AggItem) (group : ℕ)
    (listing : Listing) : Type 0 where
  pub accepted : fault_of_aggregate past items group query ≡ None
  pub rows : entries_of listing.rows.items ≡ answer past query
  pub periods : listing.periods ≡ tells_periods query.when

-- why it is not answered; that memory runs out is free
abbrev pub IsWrongAggregate : Past → PlainQuery → List AggItem → ℕ → CallFault Refusal → Type 0
IsWrongAggregate past query items group fault =
    IsTested {A = Listing} (fault_of_aggregate past items group query) (Err fault)

-- there is too much of something, or the version is not there
abbrev pub IsUnnamed : Past → PlainQuery → CallFault Refusal → Type 0
IsUnnamed past query fault = IsTested {A = Listing} (first_refusal
    (excess_fault (excess_of query) ∷ version_fault past query.version ∷ [])) (Err fault)
