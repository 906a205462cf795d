-- To look at each column once, at the first of its parts, finds what to look at it at each part
-- does.
use Rattle.std.proofs.Common.{◌≡◌, ℕ, Bool, true, false, List, [], ◌∷◌, ◌++◌, map}
use Rattle.std.proofs.Common.{Bor, refl, sym, ap, ◌∙◌, inl, inr, rules}
use Rattle.std.specs.Prelude.{◌||◌, ◌&&◌, not, Option, Some, None}
use Rattle.std.specs.List.{list_any}
use Rattle.std.proofs.lemmas.Bool.{cases_Bool, and_parts, and_right, or_left}
use Rattle.std.proofs.lemmas.Bool.{or_right, false_from_ne_true}
use Rattle.relations_spec.specs.Sets.{In}
use Rattle.relations_spec.proofs.SetLaws.{in_append}
use Rattle.prima_base.specs.declared.value.ColType.{ColType}
use Rattle.prima_base.specs.declared.value.ColType.TheVariants.{Int as INT, Text as TEXT}
use Rattle.cond_expr.specs.declared.expr.Cond.{Cond}
use Rattle.cond_expr.specs.Trees.{Test}
use Rattle.cond_expr.specs.Seen.{test, tests_of}
use Rattle.cond_expr.specs.Kinds.{value_kind, same_type}
use Rattle.cond_expr.specs.Parts.{Bound, all_parts, bound_of, is_on}
use Rattle.cond_expr_dead.specs.Tried.{is_never, empties, kills, one_is_let}
use Rattle.cond_expr_dead.specs.declared.earlier.Before.{Before, Nothing, Members, the_lemmas}
use Rattle.cond_expr_dead.specs.Earlier.{parts_before, is_alike, some_alike, kills_first}
use Rattle.cond_expr_dead.specs.Earlier.{some_kills}
use Rattle.cond_expr_dead.proofs.BoundLaws.{on_column}
use Rattle.cond_expr_dead.proofs.DeadLaws.{any_of}

same_types : (k l : ColType) → same_type k l ≡ true → k ≡ l
same_types INT INT h = refl
same_types INT TEXT h = absurd (cc)
same_types TEXT INT h = absurd (cc)
same_types TEXT TEXT h = refl

append_one : (xs : List Test) (y : Test) (ys : List Test)
    → (xs ++ y ∷ []) ++ ys ≡ xs ++ y ∷ ys
append_one [] y ys = refl
append_one (x ∷ xs) y ys = ap (λ (l : List Test). x ∷ l) (append_one xs y ys)

or_assoc : (a b c : Bool) → (a || (b || c)) ≡ ((a || b) || c)
or_assoc true b c = refl
or_assoc false b c = refl

pub nothing_before : parts_before Nothing ≡ []
nothing_before = search (rules, the_lemmas)

pub members_before : (earlier : Bor Before) (members : Bor (List Cond))
    → parts_before (Members earlier members)
    ≡ parts_before earlier.now ++ all_parts (tests_of (map test members.now))
members_before earlier members = search (rules, the_lemmas)

module _ (all : List Test) where
  -- a part that is alike empties where the other does
  alike_empties : (b : Bound) (x : Option Bound)
      → is_alike b.atom b.name (value_kind b.limit) x ≡ true
      → empties all (Some b) ≡ true → empties all x ≡ true
  alike_empties b None a h = absurd (cc)
  alike_empties b (Some c) a h =
      let p = and_parts (is_on b.atom b.name (Some c)) (same_type (value_kind c.limit)
      (value_kind b.limit)) a in
      let on = on_column b.atom b.name c p.0 in
      ap (λ (j : ℕ). not (one_is_let j c.name (value_kind c.limit) all)) on.0
      ∙ ap (λ (m : List ℕ). not (one_is_let b.atom m (value_kind c.limit) all)) on.1
      ∙ ap (λ (k : ColType). not (one_is_let b.atom b.name k all))
      (same_types (value_kind c.limit) (value_kind b.limit) p.1)
      ∙ h

  -- so where none of those before kills, and the part does, none of them is alike
  none_alike : (before : List Test) → ((s : Test) → In s before → kills all s ≡ false)
      → (x : Option Bound) → empties all x ≡ true → some_alike before x ≡ false
  none_alike before h None e = refl
  none_alike before h (Some b) e = false_from_ne_true (some_alike before (Some b)) (λ a.
      let r = any_of (λ t. is_alike b.atom b.name (value_kind b.limit) (bound_of t)) before a in
      let z : true ≡ false =
      sym (or_right (is_never r.0) (empties all (bound_of r.0))
      (alike_empties b (bound_of r.0) r.2 e)) ∙ h r.0 r.1 in cc)

  first_kills : (before : List Test) → ((s : Test) → In s before → kills all s ≡ false)
      → (t : Test) → kills_first all before t ≡ kills all t
  first_kills before h t = elim (cases_Bool (empties all (bound_of t))) [
    | inl e ↦ ap (λ b. is_never t || (not b && empties all (bound_of t)))
        (none_alike before h (bound_of t) e)
    | inr e ↦ ap (λ b. is_never t || b)
        (and_right (not (some_alike before (bound_of t))) (empties all (bound_of t)) e ∙ sym e)
  ]

  from_first : (before ts : List Test) → ((s : Test) → In s before → kills all s ≡ false)
      → some_kills all before ts ≡ list_any (kills all) ts
  from_first before [] h = refl
  from_first before (t ∷ ts) h = elim (cases_Bool (kills all t)) [
    | inl k ↦ or_left (kills_first all before t) (some_kills all (before ++ t ∷ []) ts)
        (first_kills before h t ∙ k)
        ∙ sym (or_left (kills all t) (list_any (kills all) ts) k)
    | inr k ↦ ap (λ b. b || some_kills all (before ++ t ∷ []) ts) (first_kills before h t)
        ∙ ap (λ b. kills all t || b) (from_first (before ++ t ∷ []) ts (λ s m.
        elim (in_append s before (t ∷ []) m) [
          | inl x ↦ h s x
          | inr (inl e) ↦ ap (kills all) (sym e) ∙ k
          | inr (inr x) ↦ absurd x
        ]))
  ]

  pub each_once : (ts : List Test) → some_kills all [] ts ≡ list_any (kills all) ts
  each_once ts = from_first [] ts (λ s m. absurd m)

  pub some_kills_append : (before xs ys : List Test) → some_kills all before (xs ++ ys)
      ≡ (some_kills all before xs || some_kills all (before ++ xs) ys)
  some_kills_append before [] ys = ap (λ (l : List Test). some_kills all l ys)
      (sym (append_nil before))
    where
      append_nil : (l : List Test) → l ++ [] ≡ l
      append_nil [] = refl
      append_nil (x ∷ l) = ap (λ (m : List Test). x ∷ m) (append_nil l)
  some_kills_append before (x ∷ xs) ys =
      ap (λ b. kills_first all before x || b) (some_kills_append (before ++ x ∷ []) xs ys
      ∙ ap (λ (l : List Test). some_kills all (before ++ x ∷ []) xs || some_kills all l ys)
      (append_one before x xs))
      ∙ or_assoc (kills_first all before x) (some_kills all (before ++ x ∷ []) xs)
      (some_kills all (before ++ x ∷ xs) ys)

  pub some_kills_one : (before : List Test) (t : Test)
      → some_kills all before (t ∷ []) ≡ kills_first all before t
  some_kills_one before t = or_none (kills_first all before t)
    where
      or_none : (b : Bool) → (b || false) ≡ b
      or_none true = refl
      or_none false = refl
