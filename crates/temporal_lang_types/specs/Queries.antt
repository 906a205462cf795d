-- Queries as plain data, and the moments that they ask of.
use Rattle.std.specs.Prelude.{ℕ, ◌+◌, ◌<◌, List}
use Rattle.relations_spec.specs.Spans.{Span, span, always}
use Rattle.prima_base.specs.declared.keep.Keep.{Keep}
use Rattle.temporal_lang_types.specs.declared.query.Query.{Query}
use Rattle.temporal_lang_types.specs.declared.when.When.{When}
use Rattle.temporal_lang_types.specs.declared.when.When.TheVariants.{Always, AsOf, During}
use Rattle.plain_answers_spec.specs.Branches.{PlainBranch}
use Rattle.temporal_lang_types.specs.Branches.{branches_of}

pub record PlainQuery : Type 0 where
  pub version : ℕ
  pub branches : List PlainBranch
  pub when : When
  pub keep : List Keep

abbrev pub a_query : ℕ → List PlainBranch → When → List Keep → PlainQuery
a_query version branches when keep = record {
  version = version;
  branches = branches;
  when = when;
  keep = keep;
}

abbrev pub query_of : Query → PlainQuery
query_of q = a_query q.version (branches_of q.branches.items) q.when q.keep.items

-- the moments that are asked of
abbrev pub slice_of : When → Span
slice_of Always = always
slice_of (AsOf m) = span m (m + 1)
slice_of (During a b) = span a b

-- there are some
abbrev pub IsLasting : When → Type 0
IsLasting when = (slice_of when).start < (slice_of when).end
