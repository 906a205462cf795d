-- No answer shows a filling: where no item of a query is lost, what is asked of a moment is the
-- same whatever constants dropped columns are filled with.
use Rattle.std.proofs.Common.{◌≡◌, ◌+◌, ◌-◌, ◌<◌, ◌≤◌, ℕ, zero, suc, refl, sym, ap, ◌∙◌, List}
use Rattle.std.proofs.Common.{arith}
use Rattle.std.specs.Prelude.{Option, Some, None}
use Rattle.std.specs.Option.{option_or}
use Rattle.std.specs.FinMap.{empty}
use Rattle.prima_base.specs.declared.value.Value.{Value}
use Rattle.prima_base.specs.declared.value.ColType.{ColType}
use Rattle.schema_catalog.specs.Databases.{Database, IsDatabase}
use Rattle.cond_expr.specs.Kinds.{value_kind}
use Rattle.smo_ops_types.specs.Commands.{PlainVersion}
use Rattle.smo_ops_spec.specs.Past.{Past, no_tables, tables_from, version_at, database_at}
use Rattle.smo_ops_spec.specs.ValidPast.{AreVersions, IsPast}
use Rattle.plain_answers_spec.specs.Branches.{PlainBranch, plain}
use Rattle.temporal_lang_types.specs.Queries.{PlainQuery, slice_of}
use Rattle.temporal_lang_spec.specs.Losing.{first_from}
use Rattle.smo_ops_versions_spec.specs.LostNames.{lost_names}
use Rattle.temporal_lang_spec.specs.Losing.{items_loss, loss_at, first_lost, query_asked}
use Rattle.temporal_lang_losses_spec.specs.Filled.{migrated_with, asked_with}
use Rattle.temporal_lang_losses_spec.proofs.PlainAlike.{plain_alike}
use Rattle.temporal_lang_losses_spec.proofs.WholeWays.{agrees_itself, way_is_told}

-- of the moments from m on there is something at none, where there is nothing at the first
none_later : {X : Type 0} (at : ℕ → Option X) (m n : ℕ) → first_from at m n ≡ None → (i : ℕ)
    → i < n → at (m + i) ≡ None
unfolding first_from
none_later at m zero e i l = absurd (omega arith)
none_later {X} at m (suc n) e zero l = ap at here ∙ first (at m) (first_from at (m + 1) n) e
  where
    here : m + 0 ≡ m
    here = omega arith

    first : (o p : Option X) → option_or o p ≡ None → o ≡ None
    first None p h = refl
    first (Some x) p h = absurd (cc)
none_later {X} at m (suc n) e (suc i) l =
    ap at further ∙ none_later at (m + 1) n (second (at m) (first_from at (m + 1) n) e) i
    (omega (arith, l))
  where
    further : m + suc i ≡ m + 1 + i
    further = omega arith

    second : (o p : Option X) → option_or o p ≡ None → p ≡ None
    second None p h = h
    second (Some x) p h = absurd (cc)

pub none_in_slice : (past : Past) (query : PlainQuery) → first_lost past query ≡ None → (m : ℕ)
    → (slice_of query.when).start ≤ m → m < (slice_of query.when).end → loss_at past query m ≡ None
none_in_slice past query e m a b =
    ap (loss_at past query) (sym here)
    ∙ none_later (loss_at past query) (slice_of query.when).start
    ((slice_of query.when).end - (slice_of query.when).start) e (m - (slice_of query.when).start)
    (omega (arith, a, b))
  where
    here : (slice_of query.when).start + (m - (slice_of query.when).start) ≡ m
    here = omega (arith, a)

module _ (v w : ColType → Value) (of_v : (k : ColType) → value_kind (v k) ≡ k)
    (of_w : (k : ColType) → value_kind (w k) ≡ k) where
  pub no_filling : (versions : List PlainVersion) → AreVersions None no_tables versions
      → (x q : ℕ) (db : Database) (branches : List PlainBranch)
      → IsDatabase (tables_from no_tables versions x) db
      → items_loss (lost_names versions x q) branches ≡ None
      → plain (tables_from no_tables versions q) branches
      (migrated_with v versions x q db)
      ≡ plain (tables_from no_tables versions q) branches
      (migrated_with w versions x q db)
  no_filling versions are x q db branches h e =
      plain_alike (tables_from no_tables versions q) (lost_names versions x q) branches e _ _
      (way_is_told v w of_v of_w versions are x q empty db db
      (agrees_itself (tables_from no_tables versions x) empty db h))

  pub none_shows : (past : Past) (query : PlainQuery) → IsPast past → first_lost past query ≡ None
      → (m : ℕ) → (slice_of query.when).start ≤ m → m < (slice_of query.when).end
      → asked_with v past query m ≡ asked_with w past query m
  none_shows past query is e m a b =
      no_filling past.versions is.evolved (version_at past m) query.version (database_at past m)
      (query_asked past query).branches (is.each m)
      (none_in_slice past query e m a b)
