-- A book of rules, one for each kind of operator, as one function.
use Rattle.std.specs.Prelude.{◌≡◌, ℕ, ◌==◌, List, [], ◌∷◌, ◌++◌, Bool, false, not, ◌||◌, ◌⊎◌}
use Rattle.std.specs.Prelude.{Option, Some, None, if◌then◌else◌, ⊤}
use Rattle.std.specs.List.{find}
use Rattle.prima_base.specs.declared.refusal.OpKind.{OpKind}
use Rattle.prima_base.specs.declared.refusal.OpKind.TheVariants.{Nop, CreateTable, DropTable}
use Rattle.prima_base.specs.declared.refusal.OpKind.TheVariants.{RenameTable, CopyTable, MergeTable}
use Rattle.prima_base.specs.declared.refusal.OpKind.TheVariants.{PartitionTable, DecomposeTable}
use Rattle.prima_base.specs.declared.refusal.OpKind.TheVariants.{JoinTable, AddColumn, DropColumn}
use Rattle.prima_base.specs.declared.refusal.OpKind.TheVariants.{RenameColumn}
use Rattle.smo_ops_spec.specs.OperatorKinds.{operator_kind}
use Rattle.piece_ir_spec.specs.Rules.{Book, IsValidRule}

-- the kinds, in the order of the table of operators
abbrev pub every_kind : List OpKind
every_kind =
    Nop ∷ CreateTable ∷ DropTable ∷ RenameTable ∷ CopyTable ∷ MergeTable ∷ PartitionTable
    ∷ DecomposeTable ∷ JoinTable ∷ AddColumn ∷ DropColumn ∷ RenameColumn
    ∷ []

-- the place of a kind among them
abbrev pub place_of : OpKind → ℕ
place_of Nop = 0
place_of CreateTable = 1
place_of DropTable = 2
place_of RenameTable = 3
place_of CopyTable = 4
place_of MergeTable = 5
place_of PartitionTable = 6
place_of DecomposeTable = 7
place_of JoinTable = 8
place_of AddColumn = 9
place_of DropColumn = 10
place_of RenameColumn = 11

-- two kinds are one
abbrev pub is_kind : OpKind → OpKind → Bool
is_kind a b = place_of a == place_of b

-- what the first rule of the operator's kind answers; where there is none, no piece
abbrev pub book_of : {D : Type 0} → (D → OpKind) → (D → Book) → List D → Book
book_of handles answers [] op tables p = []
book_of handles answers (r ∷ rules) op tables p =
    if is_kind (handles r) (operator_kind op) then answers r op tables p
    else book_of handles answers rules op tables p

-- each rule is valid
abbrev pub AreValidRules : {D : Type 0} → (D → OpKind) → (D → Book) → List D → Type 0
AreValidRules handles answers [] = ⊤
AreValidRules handles answers (r ∷ rules) = IsValidRule (handles r) (answers r)
    × AreValidRules handles answers rules

-- a rule of the kind is there
abbrev pub HasKind : {D : Type 0} → (D → OpKind) → List D → OpKind → Type 0
HasKind handles [] kind = ⊥
HasKind handles (r ∷ rules) kind = (handles r ≡ kind) ⊎ HasKind handles rules kind

-- a rule of each kind is there
abbrev pub HasEachKind : {D : Type 0} → (D → OpKind) → List D → Type 0
HasEachKind handles rules = (kind : OpKind) → HasKind handles rules kind

-- ---- what makes a list of rules a book

-- the kind stands among these
abbrev pub stands : OpKind → List OpKind → Bool
stands kind [] = false
stands kind (k ∷ kinds) = is_kind kind k || stands kind kinds

-- the first kind that stood before, where these stand in prefix
abbrev pub twice_after : List OpKind → List OpKind → Option OpKind
twice_after before [] = None
twice_after before (k ∷ kinds) = if stands k before then Some k
    else twice_after (before ++ k ∷ []) kinds

abbrev pub first_twice : List OpKind → Option OpKind
first_twice kinds = twice_after [] kinds

-- the first kind, in the order of the table of operators, that is not among these
abbrev pub first_missing : List OpKind → Option OpKind
first_missing kinds = find (λ k. not (stands k kinds)) every_kind
