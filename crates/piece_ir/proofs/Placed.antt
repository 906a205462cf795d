-- What stands for a column of an atom, by the place of its view among the views and the place where
-- the view's atoms begin.
use Rattle.std.specs.Prelude.{◌≡◌, ℕ, zero, suc, ◌+◌, ◌-◌, ◌<◌, ◌≤◌, List, [], ◌∷◌, ◌++◌, length}
use Rattle.std.specs.Prelude.{map}
use Rattle.std.specs.Borrow.{Bor}
use Rattle.std.proofs.Common.{refl, sym, ap, ◌∙◌, arith, get_or, drop, append_assoc, length-append}
use Rattle.std.proofs.lemmas.List.{at_drop_more}
use Rattle.cond_expr.specs.declared.expr.Cond.{Cond}
use Rattle.cond_expr.specs.Seen.{test}
use Rattle.cond_expr.specs.declared.expr.Whose.TheVariants.{Atom}
use Rattle.cond_expr.specs.Trees.{Test, column, fill, fill_test}
use Rattle.piece_ir_spec.specs.Views.{PlainView, out_of}
use Rattle.piece_ir_spec.specs.Unfolding.{moved_on, put_from, atoms_of, parts_from}
use Rattle.piece_ir.specs.declared.view.View.{View}
use Rattle.piece_ir.specs.Shown.{view_of, borrowed_views}
use Rattle.piece_ir.specs.Placing.{places_from}

pub places_many : (off : ℕ) (views : List PlainView) → length (places_from off views) ≡ length views
places_many off [] = refl
places_many off (v ∷ views) = let e = places_many (off + length v.atoms) views in omega arith

pub borrowed_many : (views : List (Bor View)) → length (borrowed_views views) ≡ length views
borrowed_many [] = refl
borrowed_many (v ∷ views) = let e = borrowed_many views in omega arith

inside : (off : ℕ) (views : List (Bor View)) (i : ℕ) (n : List ℕ) (d : Bor View) → i < length views
    → fill (moved_on (get_or (places_from off (borrowed_views views)) i 0))
    (out_of (view_of (get_or views i d).now).outs n) ≡ put_from off (borrowed_views views) i n
inside off [] i n d l = absurd (omega arith)
inside off (w ∷ views) zero n d l = refl
inside off (w ∷ views) (suc i) n d l = inside (off + length (view_of w.now).atoms) views i n d
    (omega arith)

pub put_inside : (views : List (Bor View)) (places : List ℕ) (i : ℕ) (n : List ℕ) (d : Bor View)
    → places ≡ places_from 0 (borrowed_views views)
    → i < length views → fill (moved_on (get_or places i 0))
    (out_of (view_of (get_or views i d).now).outs n) ≡ put_from 0 (borrowed_views views) i n
put_inside views places i n d s l =
    ap (λ (ks : List ℕ). fill (moved_on (get_or ks i 0))
    (out_of (view_of (get_or views i d).now).outs n)) s ∙ inside 0 views i n d l

outside : (off : ℕ) (views : List PlainView) (i : ℕ) (n : List ℕ) → length views ≤ i
    → column (Atom (i - length views)) n ≡ put_from off views i n
outside off [] i n l = let z : i - 0 ≡ i = omega arith in ap (λ (k : ℕ). column (Atom k) n) z
outside off (v ∷ views) zero n l = absurd (omega arith)
outside off (v ∷ views) (suc i) n l =
    let m : length views ≤ i = omega arith in
    let z : suc i - length (v ∷ views) ≡ i - length views = omega arith in
    ap (λ (k : ℕ). column (Atom k) n) z ∙ outside (off + length v.atoms) views i n m

pub put_outside : (views : List (Bor View)) (i : ℕ) (n : List ℕ) → length views ≤ i
    → column (Atom (i - length views)) n ≡ put_from 0 (borrowed_views views) i n
put_outside views i n l =
    let m : length (borrowed_views views) ≤ i = (let e = borrowed_many views in omega arith) in
    ap (λ (k : ℕ). column (Atom (i - k)) n) (sym (borrowed_many views))
    ∙ outside 0 (borrowed_views views) i n m

-- one view more is placed
module _ (views : List (Bor View)) (i : ℕ) (v : Bor View) (l : i < length views)
    (e : v ≡ get_or views i v) where
  left : drop i views ≡ v ∷ drop (i + 1) views
  left = at_drop_more (λ (ws : List (Bor View)). ws) views i v l
      ∙ ap (λ (w : Bor View). w ∷ drop (i + 1) views) (sym e)

  abbrev rest : List PlainView
  rest = borrowed_views (drop (i + 1) views)

  pub next_place : (atoms names new : List (List ℕ)) → new ≡ atoms ++ names
      → names ≡ v.now.atoms.items → length new ≡ length atoms + length v.now.atoms.items
  next_place atoms names new made is =
      let y = ap length (made ∙ ap (λ (ns : List (List ℕ)). atoms ++ ns) is) in
      let z = length-append atoms v.now.atoms.items in
      y ∙ z

  pub atoms_placed : (atoms names new all : List (List ℕ))
      → atoms ++ atoms_of (borrowed_views (drop i views)) ≡ all → new ≡ atoms ++ names
      → names ≡ v.now.atoms.items → new ++ atoms_of rest ≡ all
  atoms_placed atoms names new all so made is =
      ap (λ (xs : List (List ℕ)). xs ++ atoms_of rest)
      (made ∙ ap (λ (ns : List (List ℕ)). atoms ++ ns) is)
      ∙ append_assoc atoms v.now.atoms.items (atoms_of rest)
      ∙ ap (λ (ws : List (Bor View)). atoms ++ atoms_of (borrowed_views ws)) (sym left) ∙ so

  module _ (place old next : ℕ) (at : place ≡ old)
      (on : next ≡ old + length v.now.atoms.items) where
    pub places_placed : (places new all : List ℕ)
        → places ++ places_from old (borrowed_views (drop i views)) ≡ all
        → new ≡ places ++ place ∷ [] → new ++ places_from next rest ≡ all
    places_placed places new all so made =
        ap (λ (xs : List ℕ). xs ++ places_from next rest) made
        ∙ append_assoc places (place ∷ []) (places_from next rest)
        ∙ ap (λ (k : ℕ). places ++ k ∷ places_from next rest) at
        ∙ ap (λ (k : ℕ). places ++ old ∷ places_from k rest) on
        ∙ ap (λ (ws : List (Bor View)). places ++ places_from old (borrowed_views ws)) (sym left)
        ∙ so

    abbrev own_parts : ℕ → List Cond → List Test
    own_parts k conds = map (fill_test (moved_on k)) (map test conds)

    pub parts_placed : (parts new all : List Test) (added : List Cond)
        → parts ++ parts_from old (borrowed_views (drop i views)) ≡ all
        → new ≡ parts ++ map (fill_test (moved_on place)) (map test added)
        → added ≡ v.now.parts.items → new ++ parts_from next rest ≡ all
    parts_placed parts new all added so made is =
        ap (λ (xs : List Test). xs ++ parts_from next rest)
        (made ∙ ap (λ (cs : List Cond). parts ++ own_parts place cs) is
        ∙ ap (λ (k : ℕ). parts ++ own_parts k v.now.parts.items) at)
        ∙ append_assoc parts (own_parts old v.now.parts.items) (parts_from next rest)
        ∙ ap (λ (k : ℕ). parts ++ (own_parts old v.now.parts.items ++ parts_from k rest)) on
        ∙ ap (λ (ws : List (Bor View)). parts ++ parts_from old (borrowed_views ws)) (sym left)
        ∙ so
