-- What leads to nothing that passes can be left out.
use Rattle.std.proofs.Common.{◌≡◌, ℕ, Bool, true, false, cond, List, [], ◌∷◌, ◌++◌, append_assoc}
use Rattle.std.proofs.Common.{length, refl, sym, ap, ◌∙◌, inl, inr}
use Rattle.std.specs.List.{filter}
use Rattle.std.proofs.lemmas.List.{append-nil}
use Rattle.std.proofs.lemmas.List.Elements.{filter-append}
use Rattle.std.proofs.lemmas.List.Concat.{flat_map-append}
use Rattle.relations_spec.specs.Sets.{In}
use Rattle.join_exec_spec.specs.Choosing.{with_each, extend_choices, extended_where}
use Rattle.join_exec_spec.specs.Choosing.{complete_choices, Hopeless}
use Rattle.join_exec_spec.specs.Choosing.{Wide, IsSound}

module _ {V : Type 0} (met : List V → Bool) where
  completed_append : (ps qs : List (List V)) (rest : List (List (List V)))
      → complete_choices (ps ++ qs) rest ≡ complete_choices ps rest ++ complete_choices qs rest
  completed_append ps qs [] = refl
  completed_append ps qs (ys ∷ rest) = ap (λ (l : List (List V)). complete_choices l rest)
      (flat_map-append (λ (p : List V). with_each p ys) ps qs)
      ∙ completed_append (extend_choices ps ys) (extend_choices qs ys) rest

  passing_append : (ps qs : List (List V)) (rest : List (List (List V)))
      → filter met (complete_choices (ps ++ qs) rest) ≡ filter met (complete_choices ps rest)
      ++ filter met (complete_choices qs rest)
  passing_append ps qs rest = ap (filter met) (completed_append ps qs rest)
      ∙ filter-append met (complete_choices ps rest) (complete_choices qs rest)

  abbrev AllHopeless : List (List V) → Type 0
  AllHopeless ps = (p : List V) → In p ps → Hopeless met p

  none_pass : (ps : List (List V)) → AllHopeless ps → filter met ps ≡ []
  none_pass [] h = refl
  none_pass (p ∷ ps) h = let e : met p ≡ false = ap met (sym (append-nil p)) ∙ h p (inl refl) [] in
      rw e (none_pass ps (λ q k. h q (inr k)))

  each_hopeless : (p : List V) (ys : List (List V)) → Hopeless met p → AllHopeless (with_each p ys)
  each_hopeless p [] h = λ q k. absurd k
  each_hopeless p (y ∷ ys) h = λ q k. elim k [
    | inl e ↦ λ c. ap (λ (r : List V). met (r ++ c)) (sym e) ∙ ap met (append_assoc p y c)
        ∙ h (y ++ c)
    | inr n ↦ each_hopeless p ys h q n
  ]

  in_either : (q : List V) (xs ys : List (List V)) → AllHopeless xs → AllHopeless ys
      → In q (xs ++ ys) → Hopeless met q
  in_either q [] ys f g k = g q k
  in_either q (x ∷ xs) ys f g (inl e) = f q (inl e)
  in_either q (x ∷ xs) ys f g (inr n) = in_either q xs ys (λ r k. f r (inr k)) g n

  still_hopeless : (ps ys : List (List V)) → AllHopeless ps → AllHopeless (extend_choices ps ys)
  still_hopeless [] ys h = λ q k. absurd k
  still_hopeless (p ∷ ps) ys h = λ q k. in_either q (with_each p ys) (extend_choices ps ys)
      (each_hopeless p ys (h p (inl refl))) (still_hopeless ps ys (λ r n. h r (inr n))) k

  none_complete : (ps : List (List V)) (rest : List (List (List V))) → AllHopeless ps
      → filter met (complete_choices ps rest) ≡ []
  none_complete ps [] h = none_pass ps h
  none_complete ps (ys ∷ rest) h = none_complete (extend_choices ps ys) rest
      (still_hopeless ps ys h)

  module _ (n w : ℕ) (keep : List V → List V → Bool) (sound : IsSound met n w keep) where
    pruned_row : (p : List V) (ys : List (List V)) (rest : List (List (List V))) → length p ≡ n
        → Wide w ys → filter met (complete_choices (with_each p (filter (keep p) ys)) rest)
        ≡ filter met (complete_choices (with_each p ys) rest)
    pruned_row p [] rest lp wide = refl
    pruned_row p (y ∷ ys) rest lp wide = step (pruned_row p ys rest lp (λ x k. wide x (inr k)))
        (keep p y) refl
      where
        step : filter met (complete_choices (with_each p (filter (keep p) ys)) rest)
            ≡ filter met (complete_choices (with_each p ys) rest) → (b : Bool) → keep p y ≡ b
            → filter met (complete_choices (with_each p
            (cond b (y ∷ filter (keep p) ys) (filter (keep p) ys))) rest)
            ≡ filter met (complete_choices ((p ++ y) ∷ with_each p ys) rest)
        step h true e = passing_append ((p ++ y) ∷ []) (with_each p (filter (keep p) ys)) rest
            ∙ ap (λ (l : List (List V)). filter met (complete_choices ((p ++ y) ∷ []) rest) ++ l) h
            ∙ sym (passing_append ((p ++ y) ∷ []) (with_each p ys) rest)
        step h false e = h ∙ ap (λ (l : List (List V)).
            l ++ filter met (complete_choices (with_each p ys) rest))
            (sym (none_complete ((p ++ y) ∷ []) rest (λ q k. elim k [
              | inl i ↦ λ c. ap (λ (r : List V). met (r ++ c)) (sym i)
                  ∙ sound p y lp (wide y (inl refl)) e c
              | inr i ↦ absurd i
            ]))) ∙ sym (passing_append ((p ++ y) ∷ []) (with_each p ys) rest)

    pub pruned : (ps ys : List (List V)) (rest : List (List (List V))) → Wide n ps → Wide w ys
        → filter met (complete_choices (extended_where keep ps ys) rest)
        ≡ filter met (complete_choices (extend_choices ps ys) rest)
    pruned [] ys rest wp wy = refl
    pruned (p ∷ ps) ys rest wp wy =
        passing_append (with_each p (filter (keep p) ys)) (extended_where keep ps ys) rest
        ∙ ap (λ (l : List (List V)). l ++ filter met
        (complete_choices (extended_where keep ps ys) rest))
        (pruned_row p ys rest (wp p (inl refl)) wy)
        ∙ ap (λ (l : List (List V)). filter met (complete_choices (with_each p ys) rest) ++ l)
        (pruned ps ys rest (λ x k. wp x (inr k)) wy)
        ∙ sym (passing_append (with_each p ys) (extend_choices ps ys) rest)
