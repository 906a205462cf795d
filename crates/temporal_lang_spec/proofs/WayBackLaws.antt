-- A query is refused for want of a way back only where at a moment of its slice an item of it is
-- lost by a version that is gone back over and names no inverse, by a member of its operator that
-- has none that is derived.
use Rattle.std.specs.Prelude.{◌≡◌, ℕ, zero, suc, ◌+◌, ◌-◌, ◌<◌, ◌≤◌, List, [], ◌∷◌, ◌++◌, Bool}
use Rattle.std.specs.Prelude.{true, false, map, length, nat_le, nat_lt, Option, Some, None}
use Rattle.std.specs.Prelude.{slice_get, ⊤}
use Rattle.std.specs.List.{filter, flat_map, find}
use Rattle.std.specs.FinMap.{contains_key}
use Rattle.std.specs.Option.{option_or, option_map}
use Rattle.std.proofs.Common.{refl, sym, ap, subst, ◌∙◌, ◌⊎◌, arith, inl, inr}
use Rattle.std.proofs.lemmas.Option.{same_Some}
use Rattle.relations_spec.specs.Sets.{In}
use Rattle.prima_base.specs.declared.value.ColType.{ColType}
use Rattle.prima_base.specs.declared.keep.Keep.{Keep}
use Rattle.prima_base.specs.declared.keep.Keep.TheVariants.{Starting, Ending, Lasting, Covering}
use Rattle.prima_base.specs.declared.keep.Keep.TheVariants.{Overlapping}
use Rattle.prima_base.specs.declared.refusal.OpKind.{OpKind}
use Rattle.prima_base.specs.declared.refusal.Refusal.{Refusal}
use Rattle.prima_base.specs.declared.refusal.Refusal.TheVariants.{NoVersion, NoTable, NoColumn}
use Rattle.prima_base.specs.declared.refusal.Refusal.TheVariants.{Ambiguous, WrongType, Arity}
use Rattle.prima_base.specs.declared.refusal.Refusal.TheVariants.{EmptyPeriod, NoInverse}
use Rattle.schema_catalog.specs.Tables.{Tables}
use Rattle.cond_expr.specs.declared.expr.ColRef.{ColRef}
use Rattle.cond_expr.specs.declared.expr.Whose.{Whose}
use Rattle.cond_expr.specs.declared.expr.Whose.TheVariants.{Free, Alias, Atom}
use Rattle.cond_expr.specs.References.{is_to, written_names}
use Rattle.cond_expr.specs.Trees.{Tree}
use Rattle.cond_expr.specs.Kinds.{Kinds}
use Rattle.cond_expr.specs.Sizes.{nodes_of}
use Rattle.cond_expr.specs.Faults.{untyped, test_untyped, first_of}
use Rattle.smo_ops_spec.specs.First.{unless, where_so, first_refusal}
use Rattle.smo_ops_spec.specs.Checks.{Fault}
use Rattle.smo_ops_spec.specs.Counts.{Excess}
use Rattle.smo_ops_spec.specs.Preconditions.{among}
use Rattle.smo_ops_spec.specs.Past.{Past, version_at, tables_of}
use Rattle.smo_ops_types.specs.Operators.{Operator}
use Rattle.smo_ops_types.specs.Commands.{PlainVersion}
use Rattle.smo_ops_spec.specs.Losses.{Loss}
use Rattle.smo_ops_spec.specs.OperatorKinds.{operator_kind}
use Rattle.smo_ops_spec.specs.Evolutions.{schema_after_each}
use Rattle.smo_ops_spec.specs.WaysBack.{way_back_over}
use Rattle.smo_ops_spec.proofs.Firsts.{first_after, first_before}
use Rattle.smo_ops_versions_spec.specs.ColumnLosses.{Losses, table_loss, column_loss}
use Rattle.smo_ops_versions_spec.specs.LostNames.{first_named, lost_names, Loses, IsUnnamed}
use Rattle.smo_ops_versions_spec.proofs.LossCauses.{one_is_first, table_cause, column_cause}
use Rattle.plain_answers_spec.specs.Branches.{Item, PlainBranch}
use Rattle.plain_answers_spec.specs.Naming.{all_references}
use Rattle.temporal_lang_types.specs.declared.when.When.{When}
use Rattle.temporal_lang_types.specs.declared.when.When.TheVariants.{Always, AsOf, During}
use Rattle.temporal_lang_spec.specs.Atoms.{Source, sources_of, has_column, has_alias, atom_kinds}
use Rattle.temporal_lang_spec.specs.Atoms.{branches_with_atoms}
use Rattle.temporal_lang_types.specs.Queries.{PlainQuery, slice_of}
use Rattle.temporal_lang_spec.specs.Checking.{items_after, holders, column_fault, whose_fault}
use Rattle.temporal_lang_spec.specs.Checking.{reference_test, branch_references, branch_names}
use Rattle.temporal_lang_spec.specs.Checking.{trees_types, outputs_nodes, branch_types}
use Rattle.temporal_lang_spec.specs.Checking.{branch_nodes}
use Rattle.temporal_lang_spec.specs.Checking.{types_from, output_kinds, alike, arities_from}
use Rattle.temporal_lang_spec.specs.Checking.{arities}
use Rattle.temporal_lang_spec.specs.Checking.{when_fault, keep_fault, query_tests}
use Rattle.temporal_lang_spec.specs.Checking.{excess_fault, excess_of}
use Rattle.temporal_lang_spec.specs.Losing.{item_loss, items_from, branch_losses, items_loss}
use Rattle.temporal_lang_spec.specs.Losing.{loss_at, first_from, first_lost, query_asked}
use Rattle.temporal_lang_spec.specs.Accepted.{member_kind, version_kind, no_way_back, loss_fault}
use Rattle.temporal_lang_spec.specs.Accepted.{version_fault, fault_of_query, HasNoWayBack}

-- ---- no other test refuses for want of a way back

abbrev is_other : Fault → Bool
is_other None = true
is_other (Some (NoInverse k kind)) = false
is_other (Some r) = true

abbrev AllOther : List Fault → Type 0
AllOther [] = ⊤
AllOther (f ∷ faults) = (is_other f ≡ true) × AllOther faults

both_other : (fs gs : List Fault) → AllOther fs → AllOther gs → AllOther (fs ++ gs)
both_other [] gs h k = k
both_other (f ∷ fs) gs h k = (h.0, both_other fs gs h.1 k)

each_other : {X : Type 0} (test : X → Fault) → ((x : X) → is_other (test x) ≡ true) → (xs : List X)
    → AllOther (map test xs)
each_other test h [] = tt
each_other test h (x ∷ xs) = (h x, each_other test h xs)

all_other : {X : Type 0} (tests : X → List Fault) → ((x : X) → AllOther (tests x)) → (xs : List X)
    → AllOther (flat_map tests xs)
all_other tests h [] = tt
all_other tests h (x ∷ xs) = both_other (tests x) (flat_map tests xs) (h x) (all_other tests h xs)

unless_other : (b : Bool) (r : Refusal) → is_other (Some r) ≡ true → is_other (unless b r) ≡ true
unless_other true r h = refl
unless_other false r h = h

where_other : (b : Bool) (r : Refusal) → is_other (Some r) ≡ true → is_other (where_so b r) ≡ true
where_other true r h = h
where_other false r h = refl

first_other : (faults : List Fault) → AllOther faults → is_other (first_refusal faults) ≡ true
first_other [] h = refl
first_other (None ∷ faults) h = first_other faults h.1
first_other (Some r ∷ faults) h = h.0

excess_other : (excess : Excess) → is_other (excess_fault excess) ≡ true
excess_other None = refl
excess_other (Some e) = refl

place_other : (at : ℕ) (place : Option ℕ) → is_other (option_map (λ p. WrongType (at + p)) place)
    ≡ true
place_other at None = refl
place_other at (Some p) = refl

items_other : (tables : Tables) (before : List (List ℕ)) (from : List Item)
    → AllOther (items_after tables before from)
items_other tables before [] = tt
items_other tables before (i ∷ from) = (
  unless_other (contains_key tables i.0) (NoTable i.0) refl,
  (
    where_other (among i.1 before) (Ambiguous i.1) refl,
    items_other tables (before ++ i.1 ∷ []) from,
  ),
)

column_other : (s : Option Source) (alias name : List ℕ)
    → is_other (column_fault s alias name) ≡ true
column_other None alias name = refl
column_other (Some s) alias name = unless_other (has_column name s) (NoColumn name) refl

whose_other : (sources : List Source) (w : Whose) (name : List ℕ)
    → is_other (whose_fault sources w name) ≡ true
whose_other sources Free name =
    first_other (unless (nat_le 1 (holders sources name)) (NoColumn name)
    ∷ unless (nat_le (holders sources name) 1) (Ambiguous name) ∷ []) (
      unless_other (nat_le 1 (holders sources name)) (NoColumn name) refl,
      (unless_other (nat_le (holders sources name) 1) (Ambiguous name) refl, tt),
    )
whose_other sources (Alias alias) name = column_other (find (has_alias alias) sources) alias name
whose_other sources (Atom i) name = refl

names_other : (tables : Tables) (b : PlainBranch) → AllOther (branch_names tables b)
names_other tables b =
    both_other (items_after tables [] b.from)
    (map (reference_test (sources_of tables b.from)) (branch_references b))
    (items_other tables [] b.from)
    (each_other (reference_test (sources_of tables b.from))
    (λ (r : ColRef). whose_other (sources_of tables b.from) r.whose r.name)
    (branch_references b))

trees_other : (of : Kinds) (at : ℕ) (ts : List Tree) → AllOther (trees_types of at ts)
trees_other of at [] = tt
trees_other of at (t ∷ ts) = (
  place_other at (first_of (untyped of 0 t)),
  trees_other of (at + nodes_of t) ts,
)

types_other : (of : Kinds) (at : ℕ) (b : PlainBranch) → AllOther (branch_types of at b)
types_other of at b =
    both_other (trees_types of at b.outs) (option_map
    (λ place. WrongType (at + outputs_nodes b.outs + place))
    (first_of (test_untyped of 0 b.cond)) ∷ [])
    (trees_other of at b.outs) (
      place_other (at + outputs_nodes b.outs)
          (first_of (test_untyped of 0 b.cond)),
      tt,
    )

all_types_other : (tables : Tables) (at : ℕ) (branches : List PlainBranch)
    → AllOther (types_from tables at branches)
all_types_other tables at [] = tt
all_types_other tables at (b ∷ branches) =
    both_other (branch_types (atom_kinds tables b.from) at b)
    (types_from tables (at + branch_nodes b) branches)
    (types_other (atom_kinds tables b.from) at b)
    (all_types_other tables (at + branch_nodes b) branches)

arities_other_from : (first : List (Option ColType)) (i : ℕ) (others : List (List (Option ColType)))
    → AllOther (arities_from first i others)
arities_other_from first i [] = tt
arities_other_from first i (kinds ∷ others) =
    (unless_other (alike first kinds) (Arity i) refl, arities_other_from first (i + 1) others)

arities_other : (all : List (List (Option ColType))) → AllOther (arities all)
arities_other [] = tt
arities_other (first ∷ others) = arities_other_from first 2 others

when_other : (when : When) → is_other (when_fault when) ≡ true
when_other Always = refl
when_other (AsOf m) = refl
when_other (During a b) = unless_other (nat_lt a b) (EmptyPeriod a b) refl

keep_other : (keep : Keep) → is_other (keep_fault keep) ≡ true
keep_other (Starting a b) = unless_other (nat_lt a b) (EmptyPeriod a b) refl
keep_other (Ending a b) = unless_other (nat_lt a b) (EmptyPeriod a b) refl
keep_other (Lasting a b) = unless_other (nat_lt a b) (EmptyPeriod a b) refl
keep_other (Covering m) = refl
keep_other (Overlapping a b) = unless_other (nat_lt a b) (EmptyPeriod a b) refl

tests_other : (tables : Tables) (query : PlainQuery) → AllOther (query_tests tables query)
tests_other tables query =
    let branches : List PlainBranch = branches_with_atoms tables query.branches in
    both_other (flat_map (branch_names tables) query.branches) _
    (all_other (branch_names tables) (names_other tables) query.branches)
    (
    both_other (types_from tables 0 branches ++ arities (map (output_kinds tables) branches))
    (when_fault query.when ∷ map keep_fault query.keep)
    (both_other (types_from tables 0 branches) (arities (map (output_kinds tables) branches))
    (all_types_other tables 0 branches) (arities_other (map (output_kinds tables) branches)))
    (when_other query.when, each_other keep_fault keep_other query.keep)
    )

-- so the last one decides where the refusal is not theirs
last_decides : (faults : List Fault) (last : Fault) (r : Refusal) → AllOther faults
    → is_other (Some r) ≡ false → first_refusal (faults ++ last ∷ []) ≡ Some r → last ≡ Some r
last_decides [] None r h o e = absurd (cc)
last_decides [] (Some x) r h o e = e
last_decides (None ∷ faults) last r h o e = last_decides faults last r h.1 o e
last_decides (Some x ∷ faults) last r h o e =
    absurd (let s : is_other (Some x) ≡ is_other (Some r) = ap is_other e in let t = h.0 in cc)

loss_decides : (past : Past) (query : PlainQuery) (k : ℕ) (kind : OpKind)
    → fault_of_query past query ≡ Some (NoInverse k kind)
    → loss_fault past.versions (first_lost past query) ≡ Some (NoInverse k kind)
loss_decides past query k kind e =
    last_decides (excess_fault (excess_of query) ∷ version_fault past query.version
    ∷ query_tests (tables_of past query.version) query)
    (loss_fault past.versions (first_lost past query)) (NoInverse k kind) (
      excess_other (excess_of query),
      (
        unless_other (nat_le query.version (length past.versions))
            (NoVersion query.version (length past.versions)) refl,
        tests_other (tables_of past query.version) query,
      ),
    ) refl e

-- ---- what is first of the moments stands at one of them, and at none before

abbrev IsFirst : {X : Type 0} → (ℕ → Option X) → ℕ → ℕ → X → Type 0
IsFirst at m n x = (i : ℕ) × (m ≤ i) × (i < m + n) × (at i ≡ Some x)
    × ((j : ℕ) → m ≤ j → j < i → at j ≡ None)

same_or_later : (m j : ℕ) → m ≤ j → (m ≡ j) ⊎ (m + 1 ≤ j)
same_or_later zero zero l = inl refl
same_or_later zero (suc j) l = inr (omega arith)
same_or_later (suc m) zero l = absurd (omega (arith, l))
same_or_later (suc m) (suc j) l = elim (same_or_later m j (omega (arith, l)))
    [ inl e ↦ inl (ap suc e) | inr h ↦ inr (omega (arith, h)) ]

module _ {X : Type 0} (at : ℕ → Option X) where
  none_before : (m i : ℕ) → at m ≡ None → ((j : ℕ) → m + 1 ≤ j → j < i → at j ≡ None) → (j : ℕ)
      → m ≤ j → j < i → at j ≡ None
  none_before m i p rest j a b = elim (same_or_later m j a) [
    | inl e ↦ ap at (sym e) ∙ p
    | inr h ↦ rest j h b
  ]

  here_or_later : (m n : ℕ) (x : X) (o : Option X) → at m ≡ o
      → (first_from at (m + 1) n ≡ Some x → IsFirst at (m + 1) n x)
      → option_or o (first_from at (m + 1) n) ≡ Some x → IsFirst at m (suc n) x
  here_or_later m n x None p rest e =
      let r = rest e in
      let a = r.1 in
      let b = r.2 in (r.0, omega (arith, a), omega (arith, b), r.3, none_before m r.0 p r.4)
  here_or_later m n x (Some y) p rest e = (
    m,
    omega arith,
    omega arith,
    p ∙ e,
    λ j a b.
        absurd (omega (arith, a, b)),
  )

  is_first : (m n : ℕ) (x : X) → first_from at m n ≡ Some x → IsFirst at m n x
  unfolding first_from
  is_first m zero x e = absurd (cc)
  is_first m (suc n) x e = here_or_later m n x (at m) refl (is_first (m + 1) n x) e

-- ---- the loss of a query is that of one of its items

-- one of the items of a branch, which has this loss
abbrev IsItem : Losses → PlainBranch → ℕ → List Item → Loss → Type 0
IsItem losses b n from l = (i : ℕ) × (item : Item) × (slice_get from i ≡ Some item)
    × (item_loss losses b (n + i) item.0 ≡ Some l)

later_item : (losses : Losses) (b : PlainBranch) (n : ℕ) (x : Item) (from : List Item) (l : Loss)
    → IsItem losses b (n + 1) from l → IsItem losses b n (x ∷ from) l
later_item losses b n x from l h = (
  suc h.0,
  h.1,
  h.2,
  ap (λ k. item_loss losses b k h.1.0) (let e : n + suc h.0 ≡ n + 1 + h.0 = omega arith in e) ∙ h.3,
)

item_of : (losses : Losses) (b : PlainBranch) (n : ℕ) (from : List Item) (l : Loss)
    → first_refusal (items_from losses b n from) ≡ Some l → IsItem losses b n from l
item_of losses b n [] l e = absurd (cc)
item_of losses b n (x ∷ from) l e = step (item_loss losses b n x.0) refl
    (item_of losses b (n + 1) from l) e
  where
    step : (o : Option Loss) → item_loss losses b n x.0 ≡ o
        → (first_refusal (items_from losses b (n + 1) from) ≡ Some l
        → IsItem losses b (n + 1) from l)
        → first_refusal (o ∷ items_from losses b (n + 1) from) ≡ Some l
        → IsItem losses b n (x ∷ from) l
    step None p more q = later_item losses b n x from l (more q)
    step (Some k) p more q = (
      0,
      x,
      refl,
      ap (λ m. item_loss losses b m x.0) (let z : n + 0 ≡ n = omega arith in z) ∙ p ∙ q,
    )

-- one of the branches, and an item of it
abbrev IsItemOf : Losses → List PlainBranch → Loss → Type 0
IsItemOf losses branches l = (b : PlainBranch) × In b branches × (i : ℕ) × (item : Item)
    × (slice_get b.from i ≡ Some item) × (item_loss losses b i item.0 ≡ Some l)

from_nought : (i : ℕ) → i ≡ 0 + i
from_nought i = omega arith

branch_of_loss : (losses : Losses) (branches : List PlainBranch) (l : Loss)
    → items_loss losses branches ≡ Some l → IsItemOf losses branches l
branch_of_loss losses [] l e = absurd (cc)
branch_of_loss losses (b ∷ branches) l e =
    step (first_refusal (branch_losses losses b)) refl (branch_of_loss losses branches l)
  where
    step : (o : Option Loss) → first_refusal (branch_losses losses b) ≡ o
        → (items_loss losses branches ≡ Some l → IsItemOf losses branches l)
        → IsItemOf losses (b ∷ branches) l
    step None p more =
        let r = more (sym (first_after (branch_losses losses b)
        (flat_map (branch_losses losses) branches) p) ∙ e) in
        (r.0, inr r.1, r.2, r.3, r.4, r.5)
    step (Some k) p more =
        let s : Some k ≡ Some l = sym (first_before (branch_losses losses b)
        (flat_map (branch_losses losses) branches) k p) ∙ e in
        let h = item_of losses b 0 b.from l (p ∙ s) in (
          b,
          inl refl,
          h.0,
          h.1,
          h.2,
          ap (λ m. item_loss losses b m h.1.0) (from_nought h.0) ∙ h.3,
        )

-- and that item's loss is that of its table or of a column
item_cause : (versions : List PlainVersion) (v q : ℕ) (b : PlainBranch) (i : ℕ) (table : List ℕ)
    (l : Loss) → item_loss (lost_names versions v q) b i table ≡ Some l → IsUnnamed versions v q l
item_cause versions v q b i table l e = step (table_loss (lost_names versions v q) table) refl e
  where
    named : List ColRef
    named = filter (is_to i) (all_references b.outs b.cond)

    step : (o : Option Loss) → table_loss (lost_names versions v q) table ≡ o
        → option_or o (first_named (column_loss (lost_names versions v q) table) named) ≡ Some l
        → IsUnnamed versions v q l
    step None p f =
        let c = one_is_first (column_loss (lost_names versions v q) table) (written_names named) l f in
        column_cause versions v q table c.0 l c.1
    step (Some k) p f = table_cause versions v q table l (p ∙ f)

-- ---- the refusal

abbrev number_of : Refusal → ℕ
number_of (NoInverse k kind) = k
number_of r = 0

abbrev kind_in : OpKind → Refusal → OpKind
kind_in other (NoInverse k kind) = kind
kind_in other r = other

-- the member behind so many others
member_at : (a b : List Operator) (op : Operator) → slice_get (a ++ op ∷ b) (length a) ≡ Some op
member_at [] b op = refl
member_at (x ∷ a) b op = member_at a b op

kind_there : (ops a : List Operator) (op : Operator) (b : List Operator) (i : ℕ)
    → ops ≡ a ++ op ∷ b → i ≡ length a + 1 → member_kind (slice_get ops (i - 1)) ≡ operator_kind op
kind_there ops a op b i e n =
    let place : i - 1 ≡ length a = omega (arith, n) in
    ap (λ (xs : List Operator). member_kind (slice_get xs (i - 1))) e
    ∙ ap (λ k. member_kind (slice_get (a ++ op ∷ b) k)) place ∙ ap member_kind (member_at a b op)

module _ (past : Past) (query : PlainQuery) where
  lasts : (a b m : ℕ) → a ≤ m → m < a + (b - a) → m < b
  lasts a b m l h = omega (arith, l, h)

  abbrev asked_query : PlainQuery
  asked_query = query_asked past query

  from_loss : (loss : Loss) (k : ℕ) (kind : OpKind) → first_lost past query ≡ Some loss
      → no_way_back past.versions loss ≡ NoInverse k kind → HasNoWayBack past query k kind
  from_loss loss k kind f e =
      let slice = slice_of query.when in
      let first = is_first (loss_at past query) slice.start (slice.end - slice.start) loss f in
      let losses : Losses = lost_names past.versions (version_at past first.0) query.version in
      let found = branch_of_loss losses asked_query.branches loss first.3 in
      let cause = item_cause past.versions (version_at past first.0) query.version found.0 found.2
      found.3.0 loss found.5 in
      let number : loss.0 ≡ k = ap number_of e in
      let following : cause.before + 1 ≡ k = sym (ap (λ (l : Loss). l.0) cause.lost) ∙ number in
      let place : k - 1 ≡ cause.before = omega (arith, following) in
      let here : slice_get past.versions (loss.0 - 1) ≡ Some cause.by =
      ap (λ n. slice_get past.versions (n - 1)) number ∙ ap (slice_get past.versions) place
      ∙ cause.is in
      let spot : loss.1 ≡ length cause.earlier + 1 = ap (λ (l : Loss). l.1) cause.lost in
      let named : version_kind (slice_get past.versions (loss.0 - 1)) loss.1
      ≡ operator_kind cause.member =
      ap (λ o. version_kind o loss.1) here
      ∙ kind_there cause.by.op cause.earlier cause.member cause.later loss.1 cause.members spot in
      let from = cause.from in
      let to = cause.to in
      record {
        moment = first.0;
        after = first.1;
        until = lasts slice.start slice.end first.0 first.1 first.2;
        branch = found.0;
        asked = found.1;
        number = found.2;
        item = found.3;
        there = found.4;
        first = first.4;
        by = cause.by;
        is = ap (slice_get past.versions) place ∙ cause.is;
        unnamed = cause.unnamed;
        earlier = cause.earlier;
        member = cause.member;
        behind = cause.later;
        members = cause.members;
        underived = subst (λ n. Loses (way_back_over
            (schema_after_each (tables_of past n) cause.earlier) cause.member)) (sym place)
            cause.underived;
        of_kind = sym named ∙ ap (kind_in kind) e;
        lost = found.5 ∙ ap (λ (l : Loss). Some l)
            (cause.lost ∙ ap (λ n. (n, length cause.earlier + 1)) following);
        later = omega (arith, from, following);
        reached = omega (arith, to, following);
      }

  of_fault : (o : Option Loss) (k : ℕ) (kind : OpKind) → first_lost past query ≡ o
      → loss_fault past.versions o ≡ Some (NoInverse k kind) → HasNoWayBack past query k kind
  of_fault None k kind f e = absurd (cc)
  of_fault (Some loss) k kind f e = from_loss loss k kind f
      (same_Some (no_way_back past.versions loss) (NoInverse k kind) e)

  pub no_way_back_is : (k : ℕ) (kind : OpKind) → fault_of_query past query ≡ Some (NoInverse k kind)
      → HasNoWayBack past query k kind
  no_way_back_is k kind e = of_fault (first_lost past query) k kind refl
      (loss_decides past query k kind e)
