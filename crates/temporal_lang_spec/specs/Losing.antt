-- Which item of a query is lost first.
use Rattle.std.specs.Prelude.{ℕ, zero, suc, ◌+◌, ◌-◌, List, [], ◌∷◌, Option, None}
use Rattle.std.specs.List.{filter, flat_map}
use Rattle.std.specs.Option.{option_or}
use Rattle.relations_spec.specs.Spans.{Span}
use Rattle.cond_expr.specs.References.{is_to}
use Rattle.smo_ops_types.specs.Commands.{PlainVersion}
use Rattle.smo_ops_spec.specs.First.{first_refusal as first_there}
use Rattle.smo_ops_spec.specs.Past.{Past, version_at, tables_of}
use Rattle.smo_ops_spec.specs.Losses.{Loss}
use Rattle.smo_ops_versions_spec.specs.ColumnLosses.{Losses, table_loss, column_loss}
use Rattle.smo_ops_versions_spec.specs.LostNames.{first_named, lost_names}
use Rattle.plain_answers_spec.specs.Branches.{Item, PlainBranch}
use Rattle.plain_answers_spec.specs.Naming.{all_references}
use Rattle.temporal_lang_types.specs.Queries.{PlainQuery, slice_of}
use Rattle.temporal_lang_spec.specs.Atoms.{with_atoms}

-- the item with this number in a branch whose references are to items: it is lost where its table
-- is, or where the branch names a lost column of it, by the first such column in written order
abbrev pub item_loss : Losses → PlainBranch → ℕ → List ℕ → Option Loss
item_loss losses b i table = option_or (table_loss losses table)
    (first_named (column_loss losses table) (filter (is_to i) (all_references b.outs b.cond)))

-- of each item, the first of which has this number
abbrev pub items_from : Losses → PlainBranch → ℕ → List Item → List (Option Loss)
items_from losses b i [] = []
items_from losses b i (item ∷ from) = item_loss losses b i item.0
    ∷ items_from losses b (i + 1) from

abbrev pub branch_losses : Losses → PlainBranch → List (Option Loss)
branch_losses losses b = items_from losses b 0 b.from

-- the loss of the first lost item, in text order
abbrev pub items_loss : Losses → List PlainBranch → Option Loss
items_loss losses branches = first_there (flat_map (branch_losses losses) branches)

-- the same of a query whose references are to items, on the way from a version
abbrev pub loss_from : List PlainVersion → ℕ → PlainQuery → Option Loss
loss_from versions v query = items_loss (lost_names versions v query.version) query.branches

-- what there is at the first of so many moments, from m on, at which there is something
unfoldable pub first_from : {X : Type 0} → (ℕ → Option X) → ℕ → ℕ → Option X
first_from at m zero = None
first_from at m (suc n) = option_or (at m) (first_from at (m + 1) n)

abbrev pub first_in : {X : Type 0} → (ℕ → Option X) → Span → Option X
first_in at slice = first_from at slice.start (slice.end - slice.start)

-- the loss at a moment, on the way from the version then in force, and at the first moment of the
-- slice at which an item is lost; the references of the query are to items
abbrev pub loss_then : Past → PlainQuery → ℕ → Option Loss
loss_then past query m = loss_from past.versions (version_at past m) query

abbrev pub first_loss_of : Past → PlainQuery → Option Loss
first_loss_of past query = first_in (loss_then past query) (slice_of query.when)

-- the query with each reference made one to an item
abbrev pub query_asked : Past → PlainQuery → PlainQuery
query_asked past query = with_atoms (tables_of past query.version) query

-- the same of any query
abbrev pub loss_at : Past → PlainQuery → ℕ → Option Loss
loss_at past query m = loss_then past (query_asked past query) m

abbrev pub first_lost : Past → PlainQuery → Option Loss
first_lost past query = first_loss_of past (query_asked past query)
