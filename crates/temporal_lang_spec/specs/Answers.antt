-- What a query lists: at each moment its plain answer over the database of that moment, migrated to
-- the query's version.
use Rattle.std.specs.Prelude.{ℕ, ◌&&◌, ◌==◌, Bool, List, [], ◌∷◌, ◌++◌, map, nat_lt, if◌then◌else◌}
use Rattle.std.specs.List.{filter}
use Rattle.relations_spec.specs.Sets.{In}
use Rattle.relations_spec.specs.Spans.{Span, forever}
use Rattle.relations_spec.specs.Timed.{Entry}
use Rattle.relations_spec.specs.Listing.{IsListing}
use Rattle.relations_spec.specs.Timeline.{Stage, listing_of}
use Rattle.prima_base.specs.Order.{row_cmp}
use Rattle.prima_base.specs.Keeping.{kept}
use Rattle.smo_ops_spec.specs.OneRow.{Row, Relation}
use Rattle.smo_ops_spec.specs.Past.{State, Past, tables_of}
use Rattle.smo_ops_versions_spec.specs.Migration.{migrated}
use Rattle.temporal_lang_types.specs.Queries.{PlainQuery, slice_of}
use Rattle.temporal_lang_spec.specs.Atoms.{branches_with_atoms}
use Rattle.plain_answers_spec.specs.Branches.{plain}

-- what is asked of a moment; each reference, as it is written, is to an atom of its branch
abbrev pub asked_at : Past → PlainQuery → ℕ → Relation
asked_at past query m = plain (tables_of past query.version)
    (branches_with_atoms (tables_of past query.version) query.branches)
    (migrated past m query.version)

-- the row holds at the moment
abbrev pub Holds : Past → PlainQuery → Row → ℕ → Type 0
Holds past query row m = In row (asked_at past query m)

-- the one list of what holds in the query's slice: each entry's row holds at each of its moments,
-- which lie in the slice; its period is as long as it can be; each row that holds at a moment has
-- an entry there; entries ascend by row, then start
abbrev pub IsListingOf : Past → PlainQuery → List (Entry Row) → Type 0
IsListingOf past query entries = IsListing row_cmp (asked_at past query) (slice_of query.when)
    entries

-- ---- the listing, by the stages of what is asked

-- the stage that begins at a moment
abbrev pub stage_at : Past → PlainQuery → ℕ → Stage Row
stage_at past query m = record { start = m; items = asked_at past query m }

-- the slice's start, and each later moment of the slice at which a state begins
abbrev pub is_inside : Span → ℕ → Bool
is_inside slice m = nat_lt slice.start m && nat_lt m slice.end

abbrev pub beginnings : Span → List State → List ℕ
beginnings slice states = slice.start ∷ filter (is_inside slice)
    (map (λ (s : State). s.stamp) states)

-- nothing is asked after the slice
abbrev pub after_slice : Span → List (Stage Row)
after_slice slice = if slice.end == forever then []
    else record { start = slice.end; items = [] } ∷ []

abbrev pub stages : Past → PlainQuery → List (Stage Row)
stages past query = map (stage_at past query) (beginnings (slice_of query.when) past.states)
    ++ after_slice (slice_of query.when)

-- each row that is asked of a moment of the slice, with its longest periods in it
abbrev pub listing : Past → PlainQuery → List (Entry Row)
listing past query = listing_of row_cmp (stages past query)

-- the entries of the listing that meet every condition of KEEP
abbrev pub answer : Past → PlainQuery → List (Entry Row)
answer past query = kept query.keep (listing past query)
