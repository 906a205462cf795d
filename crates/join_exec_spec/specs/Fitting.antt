-- Rows of so many valid values each. That they are is no data: there is at most one proof of it.
use Rattle.std.specs.Prelude.{◌≡◌, ℕ, List, [], ◌∷◌, length, ⊤}
use Rattle.cond_expr.specs.declared.expr.Column.{Column}
use Rattle.std.proofs.Props.{props}
use Rattle.relations_spec.specs.Sets.{In}
use Rattle.relations_spec.specs.Timed.{Entry}
use Rattle.prima_base.specs.declared.value.Value.{Value}
use Rattle.prima_base.specs.declared.value.Value.TheVariants.{Int, Text}
use Rattle.prima_base.specs.Columns.{IsValid}
use Rattle.join_exec_spec.specs.Keeping.{IsValidRow}

abbrev pub Fit : ℕ → List (Entry (List Value)) → Type 0
Fit n entries = (e : Entry (List Value)) → In e entries → (length e.item ≡ n) × IsValidRow e.item

pub valid_once : (v : Value) → IsProp (IsValid v)
valid_once (Int n) = hlevel props
valid_once (Text t) = hlevel props

row_once : (row : List Value) → IsProp (IsValidRow row)
row_once [] = hlevel props
row_once (v ∷ row) = hlevel (props, valid_once v, row_once row)

pub fit_once : (n : ℕ) (entries : List (Entry (List Value))) → IsProp (Fit n entries)
fit_once n entries = hlevel (props, row_once)

-- the columns are of the atom with this number
abbrev pub AreOwn : ℕ → List Column → Type 0
AreOwn k [] = ⊤
AreOwn k (c ∷ cs) = (c.atom ≡ k) × AreOwn k cs

pub own_once : (k : ℕ) (cs : List Column) → IsProp (AreOwn k cs)
own_once k [] = hlevel props
own_once k (c ∷ cs) = hlevel (props, own_once k cs)
