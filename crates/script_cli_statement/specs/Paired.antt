-- What an archive answers to two paired queries.
use Rattle.std.specs.Prelude.{◌≡◌, None, Err}
use Rattle.prima_base.specs.Faults.{IsTested}
use Rattle.prima_base.specs.Timed.{entries_of}
use Rattle.prima_base.specs.declared.fault.CallFault.{CallFault}
use Rattle.prima_base.specs.declared.refusal.Refusal.{Refusal}
use Rattle.answer_text.specs.declared.listing.Listing.{Listing}
use Rattle.smo_ops_spec.specs.Past.{Past}
use Rattle.temporal_lang_types.specs.Queries.{PlainQuery}
use Rattle.temporal_lang_spec.specs.Answers.{answer}
use Rattle.temporal_lang_spec.specs.PairFaults.{fault_of_pairs}

-- the listings of both, where neither is refused
pub record AreListed (past : Past) (left right : PlainQuery) (first second : Listing) : Type 0 where
  pub accepted : fault_of_pairs past left right ≡ None
  pub first_is : entries_of first.rows.items ≡ answer past left
  pub second_is : entries_of second.rows.items ≡ answer past right

-- why they are not answered; that memory runs out is free
abbrev pub IsWrongPair : Past → PlainQuery → PlainQuery → CallFault Refusal → Type 0
IsWrongPair past left right fault =
    IsTested {A = Listing} (fault_of_pairs past left right) (Err fault)
