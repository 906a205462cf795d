-- A query that is not refused, and what is read for it.
use Rattle.std.specs.Prelude.{◌≡◌, ℕ, ◌+◌, ◌≤◌, true, List, [], ◌∷◌, length, None, ⊤}
use Rattle.relations_spec.specs.Spans.{covers}
use Rattle.prima_base.specs.Timed.{rows_at}
use Rattle.prima_base.specs.Limits.{max_branch_tables}
use Rattle.cond_expr.specs.declared.expr.ColRef.{ColRef}
use Rattle.cond_expr.specs.Trees.{Test}
use Rattle.smo_ops_types.specs.Commands.{PlainVersion}
use Rattle.smo_ops_spec.specs.Effects.{columns_of}
use Rattle.smo_ops_spec.specs.Making.{named}
use Rattle.smo_ops_spec.specs.Past.{Past, tables_of}
use Rattle.cond_expr.specs.AtomColumns.{columns_at}
use Rattle.plain_answers_spec.specs.Branches.{Item, PlainBranch}
use Rattle.plain_answers_spec.specs.Naming.{all_references}
use Rattle.plain_answers_spec.specs.Reading.{Read}
use Rattle.temporal_lang_types.specs.Queries.{PlainQuery}
use Rattle.temporal_lang_spec.specs.Atoms.{with_atoms}
use Rattle.temporal_lang_spec.specs.Accepted.{fault_of_query}
use Rattle.version_groups.specs.Groups.{Kept}
use Rattle.version_groups.specs.Representation.{Represents}
use Rattle.join_exec_engine.specs.declared.atom.Atom.{Atom}
use Rattle.query_exec.specs.declared.route.Route.{Route}
use Rattle.query_exec.specs.Questions.{own_read, table_read}
use Rattle.query_exec.specs.Routes.{MayBeRead}

-- the query is not refused, and this is the one with each reference made one to an atom
pub record IsQueryAccepted (past : Past) (asked query : PlainQuery) : Type 0 where
  pub accepted : fault_of_query past asked ≡ None
  pub atoms : query ≡ with_atoms (tables_of past asked.version) asked

-- what is asked of the table of each item, the first of which has this place, may be read
abbrev pub MayItems : List PlainVersion → Route → List ColRef → Test → ℕ → List Item → Type 0
MayItems versions route references cond i [] = ⊤
MayItems versions route references cond i (x ∷ from) =
    MayBeRead versions route x.0 (own_read i references cond)
    × MayItems versions route references cond (i + 1) from

-- so may those of the items of a branch, and there are no more of them than a branch may have
pub record MayBranch (versions : List PlainVersion) (route : Route) (b : PlainBranch) :
    Type 0 where
  pub items : MayItems versions route (all_references b.outs b.cond) b.cond 0 b.from
  pub few : length b.from ≤ max_branch_tables

abbrev pub MayBranches : List PlainVersion → Route → List PlainBranch → Type 0
MayBranches versions route [] = ⊤
MayBranches versions route (b ∷ branches) = MayBranch versions route b
    × MayBranches versions route branches

-- the groups represent a past after which such a query is not refused
pub record IsAnswerable (kept : Kept) (query : PlainQuery) : Type 0 where
  pub past : Past
  pub asked : PlainQuery
  pub represents : Represents kept past
  pub accepted : IsQueryAccepted past asked query

-- the atom has this number, the columns that are asked for, and at each moment of the slice what is
-- read of the table
pub record IsRead (past : Past) (route : Route) (place : ℕ) (table : List ℕ) (r : Read) (a : Atom) :
    Type 0 where
  pub number : a.number ≡ place
  pub columns : a.columns.items ≡ columns_at place
      (named r.names (columns_of (tables_of past route.asked) table))
  pub rows : (m : ℕ) → covers route.slice m ≡ true
      → rows_at a.rows.items m ≡ table_read past route.asked table r m

-- there is such an atom for each item, the first of which has this place
abbrev pub AreRead : Past → Route → List ColRef → Test → ℕ → List Item → List Atom → Type 0
AreRead past route references cond i [] [] = ⊤
AreRead past route references cond i [] (a ∷ atoms) = ⊥
AreRead past route references cond i (x ∷ from) [] = ⊥
AreRead past route references cond i (x ∷ from) (a ∷ atoms) =
    IsRead past route i x.0 (own_read i references cond) a
    × AreRead past route references cond (i + 1) from atoms
