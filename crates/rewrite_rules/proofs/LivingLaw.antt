-- A piece that is not dead over some tables is not dead over any: where it is compared with a
-- constant, the constant tells the type of a column.
use Rattle.std.proofs.Common.{◌≡◌, ℕ, Bool, true, false, List, [], ◌∷◌, refl, sym, ap, subst, ◌∙◌}
use Rattle.std.proofs.Common.{inl, inr}
use Rattle.std.specs.Prelude.{Option, Some, None}
use Rattle.std.specs.List.{list_any, list_all}
use Rattle.std.proofs.lemmas.Bool.{cases_Bool, and_from, false_from_ne_true}
use Rattle.relations_spec.specs.Sets.{In}
use Rattle.prima_base.specs.declared.value.ColType.{ColType}
use Rattle.schema_catalog.specs.Tables.{Tables}
use Rattle.cond_expr.specs.declared.expr.Whose.TheVariants.{Atom}
use Rattle.cond_expr.specs.Trees.{Test}
use Rattle.cond_expr.specs.Kinds.{Kinds, is_typed}
use Rattle.cond_expr.specs.Parts.{parts, Bound, bound_of, is_on, compares_just, lets, HasEmpty}
use Rattle.cond_expr.specs.Parts.{IsDead}
use Rattle.cond_expr_dead.specs.Steps.{least}
use Rattle.cond_expr_dead.proofs.BoundLaws.{bound_is, bound_kind, on_column, lets_other}
use Rattle.cond_expr_dead.proofs.DeadLaws.{any_from, any_of, part_typed}
use Rattle.cond_expr_dead.proofs.NextValue.{least_of}
use Rattle.piece_ir_spec.specs.Pieces.{PlainPiece}
use Rattle.piece_ir_spec.specs.Typed.{IsTyped, AllTyped, atom_kinds}
use Rattle.piece_prune.specs.DeadPieces.{IsDeadPiece, LeavesLiving, none_left, a_dead_one}
use Rattle.piece_prune.specs.DeadPieces.{a_living_one}
use Rattle.rewrite_rules_book.specs.LivingPieces.{AllLiving}

-- ---- a condition over columns of these types, and of those

all_from : {X : Type 0} (p : X → Bool) (xs : List X) → ((x : X) → In x xs → p x ≡ true)
    → list_all p xs ≡ true
all_from p [] h = refl
all_from p (y ∷ ys) h = and_from (p y) (list_all p ys) (h y (inl refl))
    (all_from p ys (λ x m. h x (inr m)))

module _ (of others : Kinds) (c : Test) (typed : is_typed of c ≡ true)
    (also : is_typed others c ≡ true) where
  -- a column that a part compares with a constant has one type in both
  same_kind : (i : ℕ) (n : List ℕ) (k : ColType) → of (Atom i) n ≡ Some k → (t : Test)
      → In t (parts c) → (b : Bound) → bound_of t ≡ Some b → is_on i n (Some b) ≡ true
      → others (Atom i) n ≡ Some k
  same_kind i n k there t m b e o =
      let on = on_column i n b o in
      let own = bound_kind of t b (bound_is t b e) (part_typed of c t typed m) in
      let second = bound_kind others t b (bound_is t b e) (part_typed others c t also m) in
      sym (ap (λ (j : ℕ). others (Atom j) b.name) on.0 ∙ ap (others (Atom i)) on.1) ∙ second
      ∙ sym own ∙ ap (λ (j : ℕ). of (Atom j) b.name) on.0 ∙ ap (of (Atom i)) on.1 ∙ there

  empty_too : HasEmpty of (parts c) → HasEmpty others (parts c)
  empty_too e = elim (cases_Bool (list_any (compares_just e.atom e.name) (parts c))) [
    | inl s ↦ let r = any_of (compares_just e.atom e.name) (parts c) s in
        at_part r.0 r.1 (bound_of r.0) refl r.2
    | inr s ↦ absurd (let z : true ≡ false =
        sym (all_from (lets e.atom e.name (least e.kind)) (parts c)
        (λ t m. lets_other e.atom e.name (least e.kind) t
        (false_from_ne_true (compares_just e.atom e.name t)
        (λ q. let y : true ≡ false = sym (any_from (compares_just e.atom e.name) t (parts c) m q)
        ∙ s in cc))))
        ∙ e.none (least e.kind) (least_of e.kind) in cc)
  ]
    where
      at_part : (t : Test) → In t (parts c) → (x : Option Bound) → bound_of t ≡ x
          → compares_just e.atom e.name t ≡ true → HasEmpty others (parts c)
      at_part t m None q h =
          absurd (let z : false ≡ true = sym (ap (is_on e.atom e.name) q) ∙ h in cc)
      at_part t m (Some b) q h = record {
        atom = e.atom;
        name = e.name;
        kind = e.kind;
        there = same_kind e.atom e.name e.kind e.there t m b q
            (sym (ap (is_on e.atom e.name) q) ∙ h);
        none = e.none;
      }

  dead_too : IsDead of c → IsDead others c
  dead_too (inl m) = inl m
  dead_too (inr e) = inr (empty_too e)

-- ---- pieces

alive_everywhere : (tables : Tables) (p : PlainPiece) → IsTyped tables p → ¬ IsDeadPiece tables p
    → (others : Tables) → IsTyped others p → ¬ IsDeadPiece others p
alive_everywhere tables p typed alive others also dead =
    alive (dead_too (atom_kinds others p.atoms) (atom_kinds tables p.atoms) p.cond also.cond
    typed.cond dead)

one_left : (tables : Tables) (ps left : List PlainPiece) → LeavesLiving tables ps left
    → AllTyped tables ps → (p : PlainPiece) → In p left → IsTyped tables p × ¬ IsDeadPiece tables p
one_left tables ps left none_left typed p m = absurd m
one_left tables ps left (a_dead_one q rest living d h) typed p m =
    one_left tables rest living h (λ x k. typed x (inr k)) p m
one_left tables ps left (a_living_one q rest living n h) typed p (inl e) =
    subst (λ (x : PlainPiece). IsTyped tables x × ¬ IsDeadPiece tables x) e (typed q (inl refl), n)
one_left tables ps left (a_living_one q rest living n h) typed p (inr m) =
    one_left tables rest living h (λ x k. typed x (inr k)) p m

-- what is left of pieces without the dead lives
pub left_live : (tables : Tables) (ps left : List PlainPiece) → AllTyped tables ps
    → LeavesLiving tables ps left → AllLiving left
left_live tables ps left typed are p m =
    let here = one_left tables ps left are typed p m in
    alive_everywhere tables p here.0 here.1
