-- Choices made list by list are the choices of one row of each list.
use Rattle.std.proofs.Common.{◌≡◌, ℕ, Bool, List, [], ◌∷◌, ◌++◌, append_assoc, map, refl, sym, ap}
use Rattle.std.proofs.Common.{◌∙◌, subst}
use Rattle.std.specs.List.{flat_map, filter}
use Rattle.std.proofs.lemmas.List.{append-nil, map-append}
use Rattle.std.proofs.lemmas.List.Concat.{flat_map-append}
use Rattle.relations_spec.specs.Sets.{In, set_of}
use Rattle.relations_spec.specs.Choices.{choices}
use Rattle.relations_spec.specs.Timed.{at}
use Rattle.relations_spec.proofs.SetLaws.{in_map, from_map, in_filter, from_filter, in_flat_map}
use Rattle.relations_spec.proofs.SetLaws.{from_flat_map, in_set, from_set, set_same}
use Rattle.prima_base.specs.declared.value.Value.{Value}
use Rattle.prima_base.specs.Order.{row_cmp}
use Rattle.prima_base.specs.OrderLaws.{row_exact}
use Rattle.prima_base.specs.Timed.{rows_at}
use Rattle.join_exec_levels.specs.declared.source.Source.{Source}
use Rattle.join_exec_spec.specs.Choosing.{with_each, extend_choices, complete_choices}
use Rattle.join_exec_spec.specs.Answering.{one_row}
use Rattle.join_exec_levels.specs.Sources.{held, held_of, relations_of}

flat_like : {X Y : Type 0} (f g : X → List Y) (xs : List X) → ((x : X) → f x ≡ g x)
    → flat_map f xs ≡ flat_map g xs
flat_like f g [] h = refl
flat_like {X} {Y} f g (x ∷ xs) h = ap (λ (ys : List Y). ys ++ flat_map f xs) (h x)
    ∙ ap (λ (ys : List Y). g x ++ ys) (flat_like f g xs h)

pub flat_flat : {X Y Z : Type 0} (g : Y → List Z) (f : X → List Y) (xs : List X)
    → flat_map g (flat_map f xs) ≡ flat_map (λ x. flat_map g (f x)) xs
flat_flat g f [] = refl
flat_flat {X} {Y} {Z} g f (x ∷ xs) = flat_map-append g (f x) (flat_map f xs)
    ∙ ap (λ (zs : List Z). flat_map g (f x) ++ zs) (flat_flat g f xs)

map_flat : {X Y Z : Type 0} (g : Y → Z) (f : X → List Y) (xs : List X)
    → map g (flat_map f xs) ≡ flat_map (λ x. map g (f x)) xs
map_flat g f [] = refl
map_flat {X} {Y} {Z} g f (x ∷ xs) = map-append g (f x) (flat_map f xs)
    ∙ ap (λ (zs : List Z). map g (f x) ++ zs) (map_flat g f xs)

flat_of_map : {X Y Z : Type 0} (g : Y → List Z) (f : X → Y) (xs : List X)
    → flat_map g (map f xs) ≡ flat_map (λ x. g (f x)) xs
flat_of_map g f [] = refl
flat_of_map {X} {Y} {Z} g f (x ∷ xs) = ap (λ (zs : List Z). g (f x) ++ zs) (flat_of_map g f xs)

module _ {V : Type 0} where
  -- each choice of the rest after a choice
  abbrev after : List (List (List V)) → List V → List (List V)
  after rest p = map (λ (c : List (List V)). p ++ one_row c) (choices rest)

  -- one row after a choice, and then the rest
  one_after : (p : List V) (rest : List (List (List V))) (y : List V)
      → after rest (p ++ y) ≡ map (λ (c : List (List V)). p ++ one_row c)
      (map (λ (c : List (List V)). y ∷ c) (choices rest))
  one_after p rest y = all (choices rest)
    where
      all : (cs : List (List (List V))) → map (λ (c : List (List V)). (p ++ y) ++ one_row c) cs
          ≡ map (λ (c : List (List V)). p ++ one_row c) (map (λ (c : List (List V)). y ∷ c) cs)
      all [] = refl
      all (c ∷ cs) = ap (λ (r : List V). r ∷ map (λ (d : List (List V)). (p ++ y) ++ one_row d) cs)
          (append_assoc p y (one_row c)) ∙ ap (λ (l : List (List V)). (p ++ (y ++ one_row c)) ∷ l)
          (all cs)

  nothing_after : (ps : List (List V)) → ps ≡ flat_map (after []) ps
  nothing_after [] = refl
  nothing_after (p ∷ ps) = ap (λ (r : List V). r ∷ ps) (sym (append-nil p))
      ∙ ap (λ (l : List (List V)). (p ++ []) ∷ l) (nothing_after ps)

  completed_is : (ps : List (List V)) (rest : List (List (List V)))
      → complete_choices ps rest ≡ flat_map (after rest) ps
  completed_is ps [] = nothing_after ps
  completed_is ps (ys ∷ rest) =
      completed_is (extend_choices ps ys) rest
      ∙ flat_flat (after rest) (λ (p : List V). with_each p ys) ps
      ∙ flat_like (λ (p : List V). flat_map (after rest) (with_each p ys)) (after (ys ∷ rest)) ps
      (λ p. flat_of_map (after rest) (λ (y : List V). p ++ y) ys
      ∙ flat_like (λ (y : List V). after rest (p ++ y))
      (λ (y : List V). map (λ (c : List (List V)). p ++ one_row c)
      (map (λ (c : List (List V)). y ∷ c) (choices rest))) ys (one_after p rest)
      ∙ sym (map_flat (λ (c : List (List V)). p ++ one_row c)
      (λ (y : List V). map (λ (c : List (List V)). y ∷ c) (choices rest)) ys))

  pub all_choices : (rest : List (List (List V)))
      → complete_choices ([] ∷ []) rest ≡ map one_row (choices rest)
  all_choices rest = completed_is ([] ∷ []) rest ∙ append-nil (map one_row (choices rest))

-- lists with the same members have the same choices
same_choices : {X : Type 0} (f g : Source → List X) (sources : List Source)
    → ((s : Source) (x : X) → In x (f s) → In x (g s)) → (c : List X)
    → In c (choices (map f sources)) → In c (choices (map g sources))
same_choices f g [] h c i = i
same_choices {X} f g (s ∷ sources) h c i =
    let r = from_flat_map (λ (x : X). map (λ (d : List X). x ∷ d) (choices (map f sources))) c (f s)
    i in
    let q = from_map (λ (d : List X). r.0 ∷ d) c (choices (map f sources)) r.2 in
    in_flat_map (λ (x : X). map (λ (d : List X). x ∷ d) (choices (map g sources))) r.0 c (g s)
    (h s r.0 r.1)
    (subst (λ (e : List X). In e (map (λ (d : List X). r.0 ∷ d) (choices (map g sources)))) q.2
    (in_map (λ (d : List X). r.0 ∷ d) q.0 (choices (map g sources))
    (same_choices f g sources h q.0 q.1)))

-- what is made of the choices that pass
module _ (sources : List Source) (m : ℕ) (met : List Value → Bool) (make : List Value
    → List Value) where
  abbrev made_of : List (List (List Value)) → List (List Value)
  made_of cs = map make (filter met (map one_row cs))

  there : (es bs : List (List (List Value))) → ((c : List (List Value)) → In c es → In c bs)
      → (x : List Value) → In x (made_of es) → In x (made_of bs)
  there es bs h x i =
      let r = from_map make x (filter met (map one_row es)) i in
      let f = from_filter met r.0 (map one_row es) r.1 in
      let c = from_map one_row r.0 es f.0 in
      subst (λ (y : List Value). In y (made_of bs)) r.2
      (in_map make r.0 (filter met (map one_row bs))
      (in_filter met r.0 (map one_row bs)
      (subst (λ (y : List Value). In y (map one_row bs)) c.2
      (in_map one_row c.0 bs (h c.0 c.1))) f.1))

  -- of the rows that hold, and of their relations
  pub of_relations : set_of row_cmp (made_of (choices (held_of sources m)))
      ≡ set_of row_cmp (made_of (choices (relations_of sources m)))
  unfolding at
  of_relations = set_same row_cmp row_exact (made_of (choices (held_of sources m)))
      (made_of (choices (relations_of sources m))) (record {
        there = there (choices (held_of sources m)) (choices (relations_of sources m))
            (same_choices (λ (s : Source). held s m) (λ (s : Source). rows_at s.rows.items m)
            sources
            (λ s x h. in_set row_cmp row_exact x (held s m) h));
        back = there (choices (relations_of sources m)) (choices (held_of sources m))
            (same_choices (λ (s : Source). rows_at s.rows.items m) (λ (s : Source). held s m)
            sources
            (λ s x h. from_set row_cmp row_exact x (held s m) h));
      })
