-- One more list joined, row by row.
use Rattle.std.proofs.Common.{◌≡◌, ◌<◌, ◌+◌, ℕ, Bool, true, false, cond, List, [], ◌∷◌, ◌++◌}
use Rattle.std.proofs.Common.{append_assoc, map, take, length, get_or, refl, sym, ap, ◌∙◌}
use Rattle.std.specs.Prelude.{◌&&◌}
use Rattle.std.specs.List.{filter, flat_map}
use Rattle.std.proofs.lemmas.List.{take_more, append-nil, map-append}
use Rattle.std.proofs.lemmas.List.Concat.{flat_map-append}
use Rattle.relations_spec.specs.Timed.{Entry}
use Rattle.prima_base.specs.declared.value.Value.{Value}
use Rattle.prima_base.specs.declared.value.Val.{Val}
use Rattle.prima_base.specs.Order.{shown}
use Rattle.join_exec_spec.specs.Choosing.{pair, paired, pairs}

-- what the members give, one after the other
pub flat_step : {R X Y : Type 0} (f : X → List Y) (g : R → X) (rows : List R) (i : ℕ) (row : R)
    (items more : List Y) → i < length rows → row ≡ get_or rows i row
    → items ≡ flat_map f (map g (take i rows)) → more ≡ items ++ f (g row)
    → more ≡ flat_map f (map g (take (i + 1) rows))
flat_step {R} {X} {Y} f g rows i row items more l e k m =
    m ∙ ap (λ (ys : List Y). ys ++ f (g row)) k
    ∙ sym (ap (λ (rs : List R). flat_map f (map g rs))
    (take_more rows i row l ∙ ap (λ d. take i rows ++ d ∷ []) (sym e))
    ∙ ap (flat_map f) (map-append g (take i rows) (row ∷ []))
    ∙ flat_map-append f (map g (take i rows)) (g row ∷ [])
    ∙ ap (λ (ys : List Y). flat_map f (map g (take i rows)) ++ ys) (append-nil (f (g row))))

flat_like : {X Y : Type 0} (f g : X → List Y) (xs : List X) → ((x : X) → f x ≡ g x)
    → flat_map f xs ≡ flat_map g xs
flat_like f g [] h = refl
flat_like {X} {Y} f g (x ∷ xs) h = ap (λ (ys : List Y). ys ++ flat_map f xs) (h x)
    ∙ ap (λ (ys : List Y). g x ++ ys) (flat_like f g xs h)

-- what does not agree is not paired
agreeing : {V : Type 0} (agree keep : List V → List V → Bool) (p : Entry (List V))
    (es : List (Entry (List V)))
    → flat_map (paired keep p) (filter (λ (e : Entry (List V)). agree p.item e.item) es)
    ≡ flat_map (paired (λ x y. agree x y && keep x y) p) es
agreeing agree keep p [] = refl
agreeing {V} agree keep p (e ∷ es) = step (agreeing agree keep p es) (agree p.item e.item)
  where
    step : flat_map (paired keep p) (filter (λ (x : Entry (List V)). agree p.item x.item) es)
        ≡ flat_map (paired (λ x y. agree x y && keep x y) p) es → (b : Bool)
        → flat_map (paired keep p) (cond b (e
        ∷ filter (λ (x : Entry (List V)). agree p.item x.item) es)
        (filter (λ (x : Entry (List V)). agree p.item x.item) es))
        ≡ cond (b && keep p.item e.item) (pair p e) []
        ++ flat_map (paired (λ x y. agree x y && keep x y) p) es
    step h true = ap (λ (ys : List (Entry (List V))). paired keep p e ++ ys) h
    step h false = h

pub all_pairs : {V : Type 0} (agree keep : List V → List V → Bool) (group : Entry (List V)
    → List (Entry (List V))) (ps es : List (Entry (List V)))
    → ((p : Entry (List V)) → group p ≡ filter (λ (e : Entry (List V)). agree p.item e.item) es)
    → flat_map (λ (p : Entry (List V)). flat_map (paired keep p) (group p)) ps
    ≡ pairs (λ x y. agree x y && keep x y) ps es
all_pairs {V} agree keep group ps es h =
    flat_like (λ (p : Entry (List V)). flat_map (paired keep p) (group p))
    (λ (p : Entry (List V)). flat_map (paired (λ x y. agree x y && keep x y) p) es) ps
    (λ p. ap (flat_map (paired keep p)) (h p) ∙ agreeing agree keep p es)

-- one more value, that shows what the member gives
pub map_step : {R : Type 0} (f : R → Value) (outs : List R) (i : ℕ) (out : R) (row more : List Val)
    (v : Val) → i < length outs → out ≡ get_or outs i out
    → map shown row ≡ map f (take i outs) → shown v ≡ f out → more ≡ row ++ v ∷ []
    → map shown more ≡ map f (take (i + 1) outs)
map_step {R} f outs i out row more v l e h k m =
    ap (map shown) m ∙ map-append shown row (v ∷ [])
    ∙ ap (λ (xs : List Value). xs ++ shown v ∷ []) h
    ∙ ap (λ (x : Value). map f (take i outs) ++ x ∷ []) k
    ∙ sym (ap (map f) (take_more outs i out l ∙ ap (λ d. take i outs ++ d ∷ []) (sym e))
    ∙ map-append f (take i outs) (out ∷ []))

-- after what was there before
pub flat_more : {R X Y : Type 0} (f : X → List Y) (g : R → X) (rows : List R) (i : ℕ) (row : R)
    (start items more : List Y) → i < length rows → row ≡ get_or rows i row
    → items ≡ start ++ flat_map f (map g (take i rows)) → more ≡ items ++ f (g row)
    → more ≡ start ++ flat_map f (map g (take (i + 1) rows))
flat_more {R} {X} {Y} f g rows i row start items more l e k m =
    m ∙ ap (λ (ys : List Y). ys ++ f (g row)) k
    ∙ append_assoc start (flat_map f (map g (take i rows))) (f (g row))
    ∙ ap (λ (ys : List Y). start ++ ys) (flat_step f g rows i row (flat_map f (map g (take i rows)))
    (flat_map f (map g (take i rows)) ++ f (g row)) l e refl refl)
