-- Whether a query is accepted after a past: the first refusal in the one order.
use Rattle.std.specs.Prelude.{◌≡◌, ℕ, ◌+◌, ◌-◌, ◌<◌, ◌≤◌, List, [], ◌∷◌, ◌++◌, length, nat_le}
use Rattle.std.specs.Prelude.{Option, Some, None, slice_get}
use Rattle.std.specs.Option.{option_map}
use Rattle.relations_spec.specs.Sets.{In}
use Rattle.prima_base.specs.declared.refusal.OpKind.{OpKind}
use Rattle.prima_base.specs.declared.refusal.OpKind.TheVariants.{Nop}
use Rattle.prima_base.specs.declared.refusal.Refusal.{Refusal}
use Rattle.prima_base.specs.declared.refusal.Refusal.TheVariants.{NoVersion, NoInverse}
use Rattle.smo_ops_types.specs.Operators.{Operator}
use Rattle.smo_ops_types.specs.Commands.{PlainVersion}
use Rattle.smo_ops_spec.specs.First.{unless, first_refusal}
use Rattle.smo_ops_spec.specs.Checks.{Fault}
use Rattle.smo_ops_spec.specs.Past.{Past, tables_of, version_at}
use Rattle.smo_ops_spec.specs.Losses.{Loss}
use Rattle.smo_ops_spec.specs.OperatorKinds.{operator_kind}
use Rattle.smo_ops_spec.specs.WaysBack.{way_back_over}
use Rattle.smo_ops_spec.specs.Evolutions.{schema_after_each}
use Rattle.smo_ops_versions_spec.specs.LostNames.{lost_names, Loses}
use Rattle.plain_answers_spec.specs.Branches.{Item, PlainBranch}
use Rattle.temporal_lang_types.specs.Queries.{PlainQuery, slice_of}
use Rattle.temporal_lang_spec.specs.Checking.{excess_of, excess_fault, query_tests}
use Rattle.temporal_lang_spec.specs.Losing.{item_loss, loss_at, first_lost, query_asked}

abbrev pub member_kind : Option Operator → OpKind
member_kind None = Nop
member_kind (Some op) = operator_kind op

-- the kind of the member with this number, the first of which is 1, of a version's operator
abbrev pub version_kind : Option PlainVersion → ℕ → OpKind
version_kind None i = Nop
version_kind (Some v) i = member_kind (slice_get v.op (i - 1))

-- the version that names no inverse, and the kind of the member of its operator that has no derived
-- one either
abbrev pub no_way_back : List PlainVersion → Loss → Refusal
no_way_back versions loss = NoInverse loss.0
    (version_kind (slice_get versions (loss.0 - 1)) loss.1)

abbrev pub loss_fault : List PlainVersion → Option Loss → Fault
loss_fault versions loss = option_map (no_way_back versions) loss

abbrev pub version_fault : Past → ℕ → Fault
version_fault past version = unless (nat_le version (length past.versions))
    (NoVersion version (length past.versions))

-- counts, the version, and then names, types and periods over its tables; last the first loss
abbrev pub tests_of_query : Past → PlainQuery → List Fault
tests_of_query past query = excess_fault (excess_of query) ∷ version_fault past query.version
    ∷ (query_tests (tables_of past query.version) query
    ++ loss_fault past.versions (first_lost past query) ∷ [])

-- the refusal of a query; none where it is accepted
abbrev pub fault_of_query : Past → PlainQuery → Fault
fault_of_query past query = first_refusal (tests_of_query past query)

-- No way back over version k gives back what the query names: at a moment of the query's slice an
-- item of the query is lost, by names alone, on the way from the version in force back to the
-- query's one, by version k, which names no inverse: by a member of its operator that is of this
-- kind and has no derived one (the filling of a dropped column is none). At no earlier moment of
-- the slice is an item of the query lost.
pub record HasNoWayBack (past : Past) (query : PlainQuery) (k : ℕ) (kind : OpKind) : Type 0 where
  pub moment : ℕ
  pub after : (slice_of query.when).start ≤ moment
  pub until : moment < (slice_of query.when).end
  pub branch : PlainBranch
  pub asked : In branch (query_asked past query).branches
  pub number : ℕ
  pub item : Item
  pub there : slice_get branch.from number ≡ Some item
  pub first : (m : ℕ) → (slice_of query.when).start ≤ m → m < moment → loss_at past query m ≡ None
  pub by : PlainVersion
  pub is : slice_get past.versions (k - 1) ≡ Some by
  pub unnamed : by.inverse ≡ []
  pub earlier : List Operator
  pub member : Operator
  pub behind : List Operator
  pub members : by.op ≡ earlier ++ member ∷ behind
  pub underived : Loses (way_back_over (schema_after_each (tables_of past (k - 1)) earlier) member)
  pub of_kind : operator_kind member ≡ kind
  pub lost : item_loss (lost_names past.versions (version_at past moment) query.version) branch
      number item.0
      ≡ Some (k, length earlier + 1)
  pub later : query.version < k
  pub reached : k ≤ version_at past moment
