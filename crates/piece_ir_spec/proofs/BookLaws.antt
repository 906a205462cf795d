-- A book with a valid rule of each kind is valid; and of each kind there is a rule where none is
-- missing.
use Rattle.std.proofs.Common.{◌≡◌, ℕ, Bool, true, false, List, [], ◌∷◌, map, refl, sym, ap, ◌∙◌}
use Rattle.std.proofs.Common.{inl, inr, arith}
use Rattle.std.specs.Prelude.{◌==◌, ◌||◌, not, Some, None, if◌then◌else◌}
use Rattle.std.specs.List.{find}
use Rattle.relations_spec.specs.Sets.{In}
use Rattle.prima_base.specs.declared.refusal.OpKind.{OpKind}
use Rattle.prima_base.specs.declared.refusal.OpKind.TheVariants.{Nop, CreateTable, DropTable}
use Rattle.prima_base.specs.declared.refusal.OpKind.TheVariants.{RenameTable, CopyTable, MergeTable}
use Rattle.prima_base.specs.declared.refusal.OpKind.TheVariants.{PartitionTable, DecomposeTable}
use Rattle.prima_base.specs.declared.refusal.OpKind.TheVariants.{JoinTable, AddColumn, DropColumn}
use Rattle.prima_base.specs.declared.refusal.OpKind.TheVariants.{RenameColumn}
use Rattle.schema_catalog.specs.Tables.{Tables}
use Rattle.smo_ops_types.specs.Operators.{Operator}
use Rattle.smo_ops_spec.specs.OperatorKinds.{operator_kind}
use Rattle.smo_ops_spec.specs.After.{op_fault, schema_after, IsValid}
use Rattle.piece_ir_spec.specs.Pieces.{PlainPiece}
use Rattle.piece_ir_spec.specs.Typed.{IsTyped}
use Rattle.piece_ir_spec.specs.Rules.{Book, KeepsMeaning, IsValidBook}
use Rattle.piece_ir_spec.specs.Books.{every_kind, place_of, is_kind, book_of, AreValidRules}
use Rattle.piece_ir_spec.specs.Books.{HasKind, HasEachKind, stands, first_missing}

-- ---- kinds

-- the first of these kinds at the place
at_place : ℕ → List OpKind → OpKind
at_place n [] = Nop
at_place n (k ∷ kinds) = if place_of k == n then k else at_place n kinds

placed_again : (k : OpKind) → at_place (place_of k) every_kind ≡ k
unfolding at_place
placed_again Nop = refl
placed_again CreateTable = refl
placed_again DropTable = refl
placed_again RenameTable = refl
placed_again CopyTable = refl
placed_again MergeTable = refl
placed_again PartitionTable = refl
placed_again DecomposeTable = refl
placed_again JoinTable = refl
placed_again AddColumn = refl
placed_again DropColumn = refl
placed_again RenameColumn = refl

both_are : (a b : ℕ) → (a == b) ≡ true → a ≡ b
both_are a b e = grind (arith, e)

pub one_kind : (a b : OpKind) → is_kind a b ≡ true → a ≡ b
one_kind a b e = sym (placed_again a) ∙ ap (λ n. at_place n every_kind)
    (both_are (place_of a) (place_of b) e) ∙ placed_again b

pub is_itself : (a : OpKind) → is_kind a a ≡ true
is_itself Nop = refl
is_itself CreateTable = refl
is_itself DropTable = refl
is_itself RenameTable = refl
is_itself CopyTable = refl
is_itself MergeTable = refl
is_itself PartitionTable = refl
is_itself DecomposeTable = refl
is_itself JoinTable = refl
is_itself AddColumn = refl
is_itself DropColumn = refl
is_itself RenameColumn = refl

each_kind : (k : OpKind) → In k every_kind
each_kind Nop = inl refl
each_kind CreateTable = inr (inl refl)
each_kind DropTable = inr (inr (inl refl))
each_kind RenameTable = inr (inr (inr (inl refl)))
each_kind CopyTable = inr (inr (inr (inr (inl refl))))
each_kind MergeTable = inr (inr (inr (inr (inr (inl refl)))))
each_kind PartitionTable = inr (inr (inr (inr (inr (inr (inl refl))))))
each_kind DecomposeTable = inr (inr (inr (inr (inr (inr (inr (inl refl)))))))
each_kind JoinTable = inr (inr (inr (inr (inr (inr (inr (inr (inl refl))))))))
each_kind AddColumn = inr (inr (inr (inr (inr (inr (inr (inr (inr (inl refl)))))))))
each_kind DropColumn = inr (inr (inr (inr (inr (inr (inr (inr (inr (inr (inl refl))))))))))
each_kind RenameColumn = inr (inr (inr (inr (inr (inr (inr (inr (inr (inr (inr (inl refl)))))))))))

apart : {b : Bool} → b ≡ false → b ≡ true → ⊥
apart e f = absurd (cc)

-- ---- the first that is found

none_found : (p : OpKind → Bool) (xs : List OpKind) → find p xs ≡ None → (k : OpKind) → In k xs
    → p k ≡ false
none_found p [] e k m = absurd m
none_found p (x ∷ xs) e k m = step (p x) refl e (none_found p xs) m
  where
    step : (b : Bool) → p x ≡ b → (if b then Some x else find p xs) ≡ None
        → (find p xs ≡ None → (j : OpKind) → In j xs → p j ≡ false)
        → In k (x ∷ xs) → p k ≡ false
    step true q f more i = absurd (cc)
    step false q f more (inl s) = ap p (sym s) ∙ q
    step false q f more (inr i) = more f k i

not_false : (b : Bool) → not b ≡ false → b ≡ true
not_false true e = refl
not_false false e = absurd (cc)

module _ {D : Type 0} (handles : D → OpKind) where
  has_kind : (rules : List D) (kind : OpKind) → stands kind (map handles rules) ≡ true
      → HasKind handles rules kind
  has_kind [] kind e = absurd (cc)
  has_kind (r ∷ rules) kind e = step (is_kind kind (handles r)) refl e (has_kind rules kind)
    where
      step : (b : Bool) → is_kind kind (handles r) ≡ b
          → (b || stands kind (map handles rules)) ≡ true
          → (stands kind (map handles rules) ≡ true → HasKind handles rules kind)
          → HasKind handles (r ∷ rules) kind
      step true q f more = inl (sym (one_kind kind (handles r) q))
      step false q f more = inr (more f)

  -- where no kind is missing there is a rule of each
  pub has_each : (rules : List D) → first_missing (map handles rules) ≡ None
      → HasEachKind handles rules
  has_each rules e = λ kind. has_kind rules kind
      (not_false (stands kind (map handles rules))
      (none_found (λ k. not (stands k (map handles rules))) every_kind e kind (each_kind kind)))

module _ {D : Type 0} (handles : D → OpKind) (answers : D → Book) where
  at_op : (rules : List D) (tables : Tables) (op : Operator) (p : PlainPiece) → IsValid tables
      → op_fault tables op ≡ None → IsTyped (schema_after tables op) p
      → AreValidRules handles answers rules → HasKind handles rules (operator_kind op)
      → KeepsMeaning tables op p (book_of handles answers rules op tables p)
  at_op [] tables op p good accepted typed l h = absurd h
  at_op (r ∷ rules) tables op p good accepted typed l h =
      step (at_op rules tables op p good accepted typed l.1)
      (is_kind (handles r) (operator_kind op)) refl h
    where
      step : (HasKind handles rules (operator_kind op)
          → KeepsMeaning tables op p (book_of handles answers rules op tables p)) → (b : Bool)
          → is_kind (handles r) (operator_kind op) ≡ b
          → HasKind handles (r ∷ rules) (operator_kind op)
          → KeepsMeaning tables op p (if b then answers r op tables p
          else book_of handles answers rules op tables p)
      step more true q k = l.0.keeps tables op p (sym (one_kind (handles r) (operator_kind op) q))
          good accepted typed
      step more false q (inl e) = absurd (apart q
          (ap (is_kind (handles r)) (sym e) ∙ is_itself (handles r)))
      step more false q (inr k) = more k

  -- a book with a valid rule of each kind is valid
  pub valid_book : (rules : List D) → AreValidRules handles answers rules
      → HasEachKind handles rules → IsValidBook (book_of handles answers rules)
  valid_book rules valid has = record {
    keeps = λ tables op p good accepted typed.
        at_op rules tables op p good accepted typed valid (has (operator_kind op));
  }
