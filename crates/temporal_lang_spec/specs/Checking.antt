-- What is wrong with a query: the first of its tests, in the one order, that is not met. A place
-- counts nodes through all branches, each with its outputs and then its condition.
use Rattle.std.specs.Prelude.{◌≡◌, ℕ, ◌+◌, List, [], ◌∷◌, ◌++◌, Bool, true, false, ◌&&◌, map}
use Rattle.std.specs.Prelude.{length, take, nat_le, nat_lt, Option, Some, None, Result}
use Rattle.std.specs.List.{filter, find, flat_map}
use Rattle.std.specs.Option.{option_map}
use Rattle.std.specs.FinMap.{contains_key}
use Rattle.prima_base.specs.declared.value.ColType.{ColType}
use Rattle.prima_base.specs.declared.keep.Keep.{Keep}
use Rattle.prima_base.specs.declared.keep.Keep.TheVariants.{Starting, Ending, Lasting, Covering}
use Rattle.prima_base.specs.declared.keep.Keep.TheVariants.{Overlapping}
use Rattle.prima_base.specs.declared.refusal.What.TheVariants.{Outputs, Tables as TABLES, Branches}
use Rattle.prima_base.specs.declared.refusal.What.TheVariants.{Keeps}
use Rattle.prima_base.specs.declared.refusal.Refusal.TheVariants.{NoTable, NoColumn, Ambiguous}
use Rattle.prima_base.specs.declared.refusal.Refusal.TheVariants.{WrongType, Arity, EmptyPeriod}
use Rattle.prima_base.specs.declared.refusal.Refusal.TheVariants.{TooMany}
use Rattle.schema_catalog.specs.Tables.{Tables}
use Rattle.cond_expr.specs.declared.expr.ColRef.{ColRef}
use Rattle.cond_expr.specs.declared.expr.Whose.{Whose}
use Rattle.cond_expr.specs.declared.expr.Whose.TheVariants.{Free, Alias, Atom}
use Rattle.cond_expr.specs.Trees.{Tree}
use Rattle.cond_expr.specs.Sizes.{nodes_of, test_nodes}
use Rattle.cond_expr.specs.Kinds.{Kinds, kind_of, same_kind}
use Rattle.cond_expr.specs.Faults.{untyped, test_untyped, first_of}
use Rattle.smo_ops_spec.specs.First.{unless, where_so, first_refusal}
use Rattle.smo_ops_spec.specs.Checks.{Fault}
use Rattle.smo_ops_spec.specs.Counts.{Excess, at_most, tree_counts, test_counts}
use Rattle.smo_ops_spec.specs.Preconditions.{among}
use Rattle.temporal_lang_types.specs.declared.when.When.{When}
use Rattle.temporal_lang_types.specs.declared.when.When.TheVariants.{Always, AsOf, During}
use Rattle.prima_base.specs.declared.refusal.Refusal.{Refusal}
use Rattle.prima_base.specs.declared.fault.CallFault.{CallFault}
use Rattle.prima_base.specs.Faults.{IsTestedAs}
use Rattle.prima_base.specs.Limits.{max_branch_tables, max_outputs, max_branches, max_keeps}
use Rattle.plain_answers_spec.specs.Branches.{Item, PlainBranch}
use Rattle.plain_answers_spec.specs.Naming.{all_references}
use Rattle.temporal_lang_types.specs.declared.query.Query.{Query}
use Rattle.temporal_lang_types.specs.Queries.{PlainQuery, query_of}
use Rattle.temporal_lang_spec.specs.Atoms.{Source, sources_of, has_column, has_alias}
use Rattle.temporal_lang_spec.specs.Atoms.{branches_with_atoms, with_atoms, atom_kinds}

-- ---- counts, in written order: what is too many stands where it begins, after those before it

abbrev pub output_counts : List Tree → List Excess
output_counts outs = flat_map tree_counts (take max_outputs outs)
    ++ at_most Outputs max_outputs (length outs) ∷ []

abbrev pub branch_counts : PlainBranch → List Excess
branch_counts b = output_counts b.outs
    ++ (at_most TABLES max_branch_tables (length b.from) ∷ test_counts b.cond)

abbrev pub branches_counts : List PlainBranch → List Excess
branches_counts branches = flat_map branch_counts (take max_branches branches)
    ++ at_most Branches max_branches (length branches) ∷ []

abbrev pub query_counts : PlainQuery → List Excess
query_counts query = branches_counts query.branches
    ++ at_most Keeps max_keeps (length query.keep) ∷ []

abbrev pub excess_of : PlainQuery → Excess
excess_of query = first_refusal (query_counts query)

-- ---- names, branch after branch

-- of each item its table, and then its alias where that stood before
abbrev pub items_after : Tables → List (List ℕ) → List Item → List Fault
items_after tables before [] = []
items_after tables before (i ∷ from) =
    unless (contains_key tables i.0) (NoTable i.0) ∷ where_so (among i.1 before) (Ambiguous i.1)
    ∷ items_after tables (before ++ i.1 ∷ []) from

abbrev pub item_tests : Tables → List Item → List Fault
item_tests tables from = items_after tables [] from

-- how many items have the column
abbrev pub holders : List Source → List ℕ → ℕ
holders sources name = length (filter (has_column name) sources)

-- the item has the column
abbrev pub column_fault : Option Source → List ℕ → List ℕ → Fault
column_fault None alias name = Some (NoTable alias)
column_fault (Some s) alias name = unless (has_column name s) (NoColumn name)

-- a reference: an alias that is not there, a column that is not there, a column that several items
-- have; a query as written has no reference to an atom
abbrev pub whose_fault : List Source → Whose → List ℕ → Fault
whose_fault sources Free name = first_refusal
    (unless (nat_le 1 (holders sources name)) (NoColumn name)
    ∷ unless (nat_le (holders sources name) 1) (Ambiguous name) ∷ [])
whose_fault sources (Alias alias) name = column_fault (find (has_alias alias) sources) alias name
whose_fault sources (Atom i) name = Some (NoColumn name)

abbrev pub reference_test : List Source → ColRef → Fault
reference_test sources r = whose_fault sources r.whose r.name

abbrev pub branch_references : PlainBranch → List ColRef
branch_references b = all_references b.outs b.cond

abbrev pub branch_names : Tables → PlainBranch → List Fault
branch_names tables b = item_tests tables b.from
    ++ map (reference_test (sources_of tables b.from)) (branch_references b)

-- ---- types, with each reference made one to an atom

abbrev pub trees_types : Kinds → ℕ → List Tree → List Fault
trees_types of at [] = []
trees_types of at (t ∷ ts) = option_map (λ place. WrongType (at + place))
    (first_of (untyped of 0 t)) ∷ trees_types of (at + nodes_of t) ts

abbrev pub outputs_nodes : List Tree → ℕ
outputs_nodes [] = 0
outputs_nodes (t ∷ ts) = nodes_of t + outputs_nodes ts

abbrev pub branch_types : Kinds → ℕ → PlainBranch → List Fault
branch_types of at b = trees_types of at b.outs
    ++ option_map (λ place. WrongType (at + outputs_nodes b.outs + place))
    (first_of (test_untyped of 0 b.cond)) ∷ []

abbrev pub branch_nodes : PlainBranch → ℕ
branch_nodes b = outputs_nodes b.outs + test_nodes b.cond

abbrev pub types_from : Tables → ℕ → List PlainBranch → List Fault
types_from tables at [] = []
types_from tables at (b ∷ branches) = branch_types (atom_kinds tables b.from) at b
    ++ types_from tables (at + branch_nodes b) branches

-- ---- the outputs of each branch have the number and the types of the first's

abbrev pub output_kinds : Tables → PlainBranch → List (Option ColType)
output_kinds tables b = map (kind_of (atom_kinds tables b.from)) b.outs

abbrev pub alike : List (Option ColType) → List (Option ColType) → Bool
alike [] [] = true
alike [] (y ∷ ys) = false
alike (x ∷ xs) [] = false
alike (x ∷ xs) (y ∷ ys) = same_kind x y && alike xs ys

-- of the branches, the first of which has this number, by the types of their outputs
abbrev pub arities_from : List (Option ColType) → ℕ → List (List (Option ColType)) → List Fault
arities_from first i [] = []
arities_from first i (kinds ∷ others) = unless (alike first kinds) (Arity i)
    ∷ arities_from first (i + 1) others

abbrev pub arities : List (List (Option ColType)) → List Fault
arities [] = []
arities (first ∷ others) = arities_from first 2 others

-- ---- periods without a moment: the slice, then the conditions of KEEP

abbrev pub bounds_fault : ℕ → ℕ → Fault
bounds_fault a b = unless (nat_lt a b) (EmptyPeriod a b)

abbrev pub when_fault : When → Fault
when_fault Always = None
when_fault (AsOf m) = None
when_fault (During a b) = bounds_fault a b

abbrev pub keep_fault : Keep → Fault
keep_fault (Starting a b) = bounds_fault a b
keep_fault (Ending a b) = bounds_fault a b
keep_fault (Lasting a b) = bounds_fault a b
keep_fault (Covering m) = None
keep_fault (Overlapping a b) = bounds_fault a b

-- ---- all of them, over the tables of the query's version

abbrev pub names_tests : Tables → List PlainBranch → List Fault
names_tests tables branches = flat_map (branch_names tables) branches

-- types and arities, of branches whose references are to atoms
abbrev pub typing_tests : Tables → List PlainBranch → List Fault
typing_tests tables branches = types_from tables 0 branches
    ++ arities (map (output_kinds tables) branches)

abbrev pub period_tests : When → List Keep → List Fault
period_tests when keep = when_fault when ∷ map keep_fault keep

abbrev pub query_tests : Tables → PlainQuery → List Fault
query_tests tables query = names_tests tables query.branches
    ++ (typing_tests tables (branches_with_atoms tables query.branches)
    ++ period_tests query.when query.keep)

abbrev pub excess_fault : Excess → Fault
excess_fault excess = option_map (λ e. TooMany e.0 e.1) excess

-- the refusal of a query over the tables of its version
abbrev pub query_fault : Tables → PlainQuery → Fault
query_fault tables query = first_refusal (excess_fault (excess_of query) ∷ query_tests tables query)

-- what the check answers: the query with each reference made one to an atom, or its refusal
abbrev pub IsQueryChecked : Tables → PlainQuery → Result Query (CallFault Refusal) → Type 0
IsQueryChecked tables query answer =
    IsTestedAs (λ q. query_of q ≡ with_atoms tables query) (query_fault tables query) answer
