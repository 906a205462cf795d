-- One more cell at the end of its id's chain.
use Rattle.std.proofs.Common.{◌≡◌, ◌≢◌, ◌⊎◌, ℕ, suc, zero, ◌+◌, ◌<◌, ◌≤◌, true, false, List, []}
use Rattle.std.proofs.Common.{◌∷◌, ◌++◌, length, get_or, drop, set, refl, sym, ap, ◌∙◌, subst}
use Rattle.std.proofs.Common.{arith, if◌then◌else◌, inl, inr, length-append, ◌==◌}
use Rattle.std.proofs.lemmas.Bool.Decides.{nat_tests, eqb_tells}
use Rattle.std.proofs.lemmas.Bool.{cases_lt}
use Rattle.std.proofs.lemmas.List.{get_or-set_same, get_or-set_other}
use Rattle.std.proofs.Math.ListN.{length-set, get_or-append, drop_of_length-le}
use Rattle.std.proofs.Math.Seq.{get_or-append_seam}
use Rattle.history_store_columns.specs.Log.{Write}
use Rattle.history_store_columns.specs.Chains.{of_id, ids_of, id_at, IsLinked}

pub of_id-append : (id : ℕ) (cells others : List Write)
    → of_id id (cells ++ others) ≡ of_id id cells ++ of_id id others
of_id-append id [] others = refl
of_id-append id (c ∷ cells) others =
    let e = of_id-append id cells others in
    elim (c.id == id) as (λ b. (if b then c ∷ of_id id (cells ++ others)
    else of_id id (cells ++ others)) ≡ (if b then c ∷ of_id id cells else of_id id cells)
    ++ of_id id others)
    [ true ↦ ap (λ cs. c ∷ cs) e | false ↦ e ]

pub drop-prefix : (n : ℕ) (cells others : List Write) → n ≤ length cells
    → drop n (cells ++ others) ≡ drop n cells ++ others
drop-prefix zero cells others h = refl
drop-prefix (suc n) [] others h = absurd (omega arith)
drop-prefix (suc n) (c ∷ cells) others h = drop-prefix n cells others (omega arith)

pub ids_of-append : (cells others : List Write)
    → ids_of (cells ++ others) ≡ ids_of cells ++ ids_of others
ids_of-append [] others = refl
ids_of-append (c ∷ cells) others = ap (λ ids. c.id ∷ ids) (ids_of-append cells others)

pub length-ids_of : (cells : List Write) → length (ids_of cells) ≡ length cells
length-ids_of [] = refl
length-ids_of (c ∷ cells) = let e = length-ids_of cells in grind arith

-- after a place, with one more
pub after : (id n : ℕ) (cells : List Write) (c : Write) → n ≤ length cells
    → of_id id (drop n (cells ++ c ∷ [])) ≡ of_id id (drop n cells) ++ of_id id (c ∷ [])
after id n cells c h = ap (of_id id) (drop-prefix n cells (c ∷ []) h)
    ∙ of_id-append id (drop n cells) (c ∷ [])

pub id_prefix : (cells : List Write) (c : Write) (p : ℕ) → p < length cells
    → id_at (cells ++ c ∷ []) p ≡ id_at cells p
id_prefix cells c p h = ap (λ ids. get_or ids p 0) (ids_of-append cells (c ∷ []))
    ∙ get_or-append (ids_of cells) (c.id ∷ []) 0 p (rw (length-ids_of cells) h)

pub id_end : (cells : List Write) (c : Write) → id_at (cells ++ c ∷ []) (length cells) ≡ c.id
id_end cells c = ap (λ ids. get_or ids (length cells) 0) (ids_of-append cells (c ∷ []))
    ∙ ap (λ n. get_or (ids_of cells ++ c.id ∷ []) n 0) (sym (length-ids_of cells))
    ∙ get_or-append_seam (ids_of cells) c.id [] 0

pub other_id : (id : ℕ) (c : Write) → c.id ≢ id → of_id id (c ∷ []) ≡ []
other_id id c n = grind (arith, nat_tests)

pub same_id : (id : ℕ) (c : Write) → c.id ≡ id → of_id id (c ∷ []) ≡ c ∷ []
same_id id c e = grind (arith, nat_tests)

-- the links with the new cell after the last of its id
module _ (first next last : List ℕ) (cells : List Write) (c : Write)
    (k : IsLinked first next last cells) (h : c.id < length last) where
  q : ℕ
  q = get_or last c.id 0

  pub linked_next : (p : ℕ) → p < length cells → p ≢ get_or last c.id 0
      → get_or (set next (get_or last c.id 0) (length cells) ++ 0 ∷ []) p 0 ≡ get_or next p 0
  linked_next p b n =
      get_or-append (set next (get_or last c.id 0) (length cells)) (0 ∷ []) 0 p
      (rw (length-set next (get_or last c.id 0) (length cells), k.long) b)
      ∙ get_or-set_other next (get_or last c.id 0) p (length cells) 0 n

  pub goes_on : (p : ℕ) → p < length cells → p ≢ get_or last c.id 0 → get_or next p 0 ≢ 0
      → (get_or next p 0 < length (cells ++ c ∷ []))
      × (of_id (id_at (cells ++ c ∷ []) p) (drop (p + 1) (cells ++ c ∷ []))
      ≡ of_id (id_at (cells ++ c ∷ []) p) (drop (get_or next p 0) (cells ++ c ∷ [])))
      × (id_at (cells ++ c ∷ []) (get_or next p 0) ≡ id_at (cells ++ c ∷ []) p)
  goes_on p b n z =
      let g = k.goes p b z in
      let i = id_prefix cells c p b in
      let inside : get_or next p 0 < length cells = g.0 in (
        rw (length-append cells (c ∷ [])) (omega arith),
        rw (
          i,
          after (id_at cells p) (p + 1) cells c (omega arith),
          after (id_at cells p) (get_or next p 0) cells c (omega arith),
        )
            (ap (λ cs. cs ++ of_id (id_at cells p) (c ∷ [])) g.1),
        id_prefix cells c (get_or next p 0) inside ∙ g.2 ∙ sym i,
      )

  pub ends_there : (p : ℕ) → p < length cells → p ≢ get_or last c.id 0 → get_or next p 0 ≡ 0
      → (get_or (set last c.id (length cells)) (id_at (cells ++ c ∷ []) p) 0 ≡ p)
      × (of_id (id_at (cells ++ c ∷ []) p) (drop (p + 1) (cells ++ c ∷ [])) ≡ [])
  ends_there p b n z =
      let g = k.ends p b z in
      let i = id_prefix cells c p b in
      let d : id_at cells p ≢ c.id = (λ e. n (sym (ap (λ m. get_or last m 0) (sym e) ∙ g.0))) in (
        rw i (get_or-set_other last c.id (id_at cells p) (length cells) 0 d ∙ g.0),
        rw (i, after (id_at cells p) (p + 1) cells c (omega arith), g.1)
            (other_id (id_at cells p) c (λ e. d (sym e))),
      )

  -- the last one goes on to the new cell
  pub last_goes : of_id c.id (drop (get_or last c.id 0 + 1) (cells ++ c ∷ []))
      ≡ of_id c.id (drop (length cells) (cells ++ c ∷ []))
  last_goes =
      let l = k.last_in c.id h in
      let b : get_or last c.id 0 < length cells = l.0 in
      let none : of_id c.id (drop (get_or last c.id 0 + 1) cells) ≡ [] =
      subst (λ id. of_id id (drop (get_or last c.id 0 + 1) cells) ≡ []) l.2
      (k.ends (get_or last c.id 0) l.0 l.1).1 in
      after c.id (get_or last c.id 0 + 1) cells c (omega arith)
      ∙ ap (λ cs. cs ++ of_id c.id (c ∷ [])) none
      ∙ sym (after c.id (length cells) cells c (omega arith)
      ∙ ap (λ cs. of_id c.id cs ++ of_id c.id (c ∷ [])) (drop_of_length-le cells (omega arith)))

at_end : (cells : List Write) (c : Write) (p : ℕ) → p < length (cells ++ c ∷ [])
    → (p < length cells) ⊎ (p ≡ length cells)
at_end cells c p h =
    let b : p < length cells + 1 = subst (λ n. p < n) (length-append cells (c ∷ [])) h in
    elim (cases_lt p (length cells)) [ inl l ↦ inl l | inr l ↦ inr (omega arith) ]

inside : (cells : List Write) (c : Write) (p : ℕ) → p < length cells → p < length (cells ++ c ∷ [])
inside cells c p h = subst (λ n. p < n) (sym (length-append cells (c ∷ []))) (omega arith)

the_end : (cells : List Write) (c : Write) → length cells < length (cells ++ c ∷ [])
the_end cells c = subst (λ n. length cells < n) (sym (length-append cells (c ∷ []))) (omega arith)

none_after : (id : ℕ) (cells : List Write) (c : Write)
    → of_id id (drop (length cells + 1) (cells ++ c ∷ [])) ≡ []
none_after id cells c =
    let l : length (cells ++ c ∷ []) ≤ length cells + 1 =
    subst (λ n. n ≤ length cells + 1) (sym (length-append cells (c ∷ []))) (omega arith) in
    ap (of_id id) (drop_of_length-le (cells ++ c ∷ []) l)

starts_still : (id at : ℕ) (cells : List Write) (c : Write) → (at < length cells)
    × (of_id id cells ≡ of_id id (drop at cells)) × (id_at cells at ≡ id)
    → (at < length (cells ++ c ∷ [])) × (of_id id (cells ++ c ∷ [])
    ≡ of_id id (drop at (cells ++ c ∷ []))) × (id_at (cells ++ c ∷ []) at ≡ id)
starts_still id at cells c g =
    let b : at < length cells = g.0 in (
      inside cells c at b,
      of_id-append id cells (c ∷ []) ∙ ap (λ cs. cs ++ of_id id (c ∷ [])) g.1
          ∙ sym (after id at cells c (omega arith)),
      id_prefix cells c at b ∙ g.2,
    )

module _ (first next last : List ℕ) (cells : List Write) (c : Write)
    (k : IsLinked first next last cells) (h : c.id < length last) where
  new_next : get_or (set next (get_or last c.id 0) (length cells) ++ 0 ∷ []) (length cells) 0 ≡ 0
  new_next =
      let e : length (set next (get_or last c.id 0) (length cells)) ≡ length cells =
      length-set next (get_or last c.id 0) (length cells) ∙ k.long in
      ap (λ n. get_or (set next (get_or last c.id 0) (length cells) ++ 0 ∷ []) n 0) (sym e)
      ∙ get_or-append_seam (set next (get_or last c.id 0) (length cells)) 0 [] 0

  last_next : get_or (set next (get_or last c.id 0) (length cells) ++ 0 ∷ []) (get_or last c.id 0) 0
      ≡ length cells
  last_next =
      let b : get_or last c.id 0 < length next =
      subst (λ n. get_or last c.id 0 < n) (sym k.long) (k.last_in c.id h).0 in
      get_or-append (set next (get_or last c.id 0) (length cells)) (0 ∷ []) 0 (get_or last c.id 0)
      (subst (λ n. get_or last c.id 0 < n)
      (sym (length-set next (get_or last c.id 0) (length cells))) b)
      ∙ get_or-set_same next (get_or last c.id 0) (length cells) 0 b

  goes' : (p : ℕ) → p < length (cells ++ c ∷ [])
      → get_or (set next (get_or last c.id 0) (length cells) ++ 0 ∷ []) p 0 ≢ 0
      → (get_or (set next (get_or last c.id 0) (length cells) ++ 0 ∷ []) p 0 < length
      (cells ++ c ∷ [])) × (of_id (id_at (cells ++ c ∷ []) p) (drop (p + 1) (cells ++ c ∷ []))
      ≡ of_id (id_at (cells ++ c ∷ []) p)
      (drop (get_or (set next (get_or last c.id 0) (length cells) ++ 0 ∷ []) p 0)
      (cells ++ c ∷ []))) × (id_at (cells ++ c ∷ [])
      (get_or (set next (get_or last c.id 0) (length cells) ++ 0 ∷ []) p 0)
      ≡ id_at (cells ++ c ∷ []) p)
  goes' p b n = elim (at_end cells c p b) [
    | inr e ↦ absurd (n (ap (λ m. get_or (set next (get_or last c.id 0) (length cells) ++ 0 ∷ []) m
        0) e ∙ new_next))
    | inl l ↦ elim (eqb_tells p (get_or last c.id 0)) [
      | inl e ↦
          let i : id_at (cells ++ c ∷ []) p ≡ c.id = id_prefix cells c p l ∙ ap (id_at cells) e.1
          ∙ (k.last_in c.id h).2 in
          let t : get_or (set next (get_or last c.id 0) (length cells) ++ 0 ∷ []) p 0
          ≡ length cells = ap (λ m. get_or
          (set next (get_or last c.id 0) (length cells) ++ 0 ∷ []) m 0) e.1 ∙ last_next in
          let there : of_id c.id (drop (p + 1) (cells ++ c ∷ []))
          ≡ of_id c.id (drop (length cells) (cells ++ c ∷ [])) =
          ap (λ m. of_id c.id (drop (m + 1) (cells ++ c ∷ []))) e.1
          ∙ last_goes first next last cells c k h in
          rw (t, i) (the_end cells c, there, id_end cells c)
      | inr d ↦
          let t = linked_next first next last cells c k h p l d.1 in
          rw t (goes_on first next last cells c k h p l d.1 (λ z. n (t ∙ z)))
    ]
  ]

  ends' : (p : ℕ) → p < length (cells ++ c ∷ [])
      → get_or (set next (get_or last c.id 0) (length cells) ++ 0 ∷ []) p 0 ≡ 0
      → (get_or (set last c.id (length cells)) (id_at (cells ++ c ∷ []) p) 0 ≡ p)
      × (of_id (id_at (cells ++ c ∷ []) p) (drop (p + 1) (cells ++ c ∷ [])) ≡ [])
  ends' p b z = elim (at_end cells c p b) [
    | inr e ↦
        let i : id_at (cells ++ c ∷ []) p ≡ c.id = ap (id_at (cells ++ c ∷ [])) e
        ∙ id_end cells c in
        rw (i, e) (get_or-set_same last c.id (length cells) 0 h, none_after c.id cells c)
    | inl l ↦ elim (eqb_tells p (get_or last c.id 0)) [
      | inl e ↦
          let t : get_or (set next (get_or last c.id 0) (length cells) ++ 0 ∷ []) p 0
          ≡ length cells = ap (λ m. get_or
          (set next (get_or last c.id 0) (length cells) ++ 0 ∷ []) m 0) e.1 ∙ last_next in
          absurd (omega (arith, t, z))
      | inr d ↦ ends_there first next last cells c k h p l d.1
          (sym (linked_next first next last cells c k h p l d.1) ∙ z)
    ]
  ]

  pub changed_links : IsLinked first (set next (get_or last c.id 0) (length cells) ++ 0 ∷ [])
      (set last c.id (length cells)) (cells ++ c ∷ [])
  changed_links = record {
    long = length-append (set next (get_or last c.id 0) (length cells)) (0 ∷ [])
        ∙ ap (λ n. n + 1) (length-set next (get_or last c.id 0) (length cells) ∙ k.long)
        ∙ sym (length-append cells (c ∷ []));
    each = k.each ∙ sym (length-set last c.id (length cells));
    starts = λ id b. starts_still id (get_or first id 0) cells c (k.starts id b);
    goes = goes';
    ends = ends';
    known = λ p b. subst (λ n. id_at (cells ++ c ∷ []) p < n)
        (sym (length-set last c.id (length cells))) (elim (at_end cells c p b) [
          | inl l ↦ subst (λ n. n < length last) (sym (id_prefix cells c p l)) (k.known p l)
          | inr e ↦ subst (λ n. n < length last)
              (sym (ap (id_at (cells ++ c ∷ [])) e ∙ id_end cells c)) h
        ]);
    last_in = last_in';
  }
    where
      last_in' : (id : ℕ) → id < length (set last c.id (length cells))
          → (get_or (set last c.id (length cells)) id 0 < length (cells ++ c ∷ []))
          × (get_or (set next (get_or last c.id 0) (length cells) ++ 0 ∷ [])
          (get_or (set last c.id (length cells)) id 0) 0 ≡ 0)
          × (id_at (cells ++ c ∷ []) (get_or (set last c.id (length cells)) id 0) ≡ id)
      last_in' id b = elim (eqb_tells id c.id) [
        | inl e ↦
            let t : get_or (set last c.id (length cells)) id 0 ≡ length cells =
            ap (λ m. get_or (set last c.id (length cells)) m 0) e.1
            ∙ get_or-set_same last c.id (length cells) 0 h in
            rw t (the_end cells c, new_next, id_end cells c ∙ sym e.1)
        | inr d ↦
            let t : get_or (set last c.id (length cells)) id 0 ≡ get_or last id 0 =
            get_or-set_other last c.id id (length cells) 0 d.1 in
            let g = k.last_in id (subst (λ n. id < n) (length-set last c.id (length cells)) b) in
            let n : get_or last id 0 ≢ get_or last c.id 0 = λ e.
            d.1 (sym g.2 ∙ ap (id_at cells) e ∙ (k.last_in c.id h).2) in
            rw t (
              inside cells c (get_or last id 0) g.0,
              linked_next first next last cells c k h (get_or last id 0) g.0 n ∙ g.1,
              id_prefix cells c (get_or last id 0) g.0 ∙ g.2,
            )
      ]

none_of : (k : ℕ) (cells : List Write) → ((p : ℕ) → p < length cells → id_at cells p < k)
    → of_id k cells ≡ []
none_of k [] f = refl
none_of k (c ∷ cells) f =
    let n : c.id < k = f 0 (omega arith) in
    let t : (c.id == k) ≡ false = grind (arith, nat_tests) in
    rw t (none_of k cells (λ p b. f (suc p) (omega arith)))

-- a new id
module _ (first next last : List ℕ) (cells : List Write) (c : Write)
    (k : IsLinked first next last cells) (h : c.id ≡ length last) where
  next_old : (p : ℕ) → p < length cells → get_or (next ++ 0 ∷ []) p 0 ≡ get_or next p 0
  next_old p b = get_or-append next (0 ∷ []) 0 p (subst (λ n. p < n) (sym k.long) b)

  next_new : get_or (next ++ 0 ∷ []) (length cells) 0 ≡ 0
  next_new = ap (λ n. get_or (next ++ 0 ∷ []) n 0) (sym k.long) ∙ get_or-append_seam next 0 [] 0

  apart : (p : ℕ) → p < length cells → c.id ≢ id_at cells p
  apart p b = λ e. (let l = k.known p b in omega (arith, l, e, h))

  last_old : (id : ℕ) → id < length last → get_or (last ++ length cells ∷ []) id 0
      ≡ get_or last id 0
  last_old id b = get_or-append last (length cells ∷ []) 0 id b

  last_new : get_or (last ++ length cells ∷ []) c.id 0 ≡ length cells
  last_new = ap (λ n. get_or (last ++ length cells ∷ []) n 0) h
      ∙ get_or-append_seam last (length cells) [] 0

  pub grown_links : IsLinked (first ++ length cells ∷ []) (next ++ 0 ∷ [])
      (last ++ length cells ∷ []) (cells ++ c ∷ [])
  grown_links = record {
    long = length-append next (0 ∷ []) ∙ ap (λ n. n + 1) k.long
        ∙ sym (length-append cells (c ∷ []));
    each = length-append first (length cells ∷ []) ∙ ap (λ n. n + 1) k.each
        ∙ sym (length-append last (length cells ∷ []));
    starts = starts';
    goes = goes';
    ends = ends';
    known = known';
    last_in = last_in';
  }
    where
      long' : length (last ++ length cells ∷ []) ≡ length last + 1
      long' = length-append last (length cells ∷ [])

      starts' : (id : ℕ) → id < length (first ++ length cells ∷ [])
          → (get_or (first ++ length cells ∷ []) id 0 < length (cells ++ c ∷ []))
          × (of_id id (cells ++ c ∷ []) ≡ of_id id
          (drop (get_or (first ++ length cells ∷ []) id 0) (cells ++ c ∷ [])))
          × (id_at (cells ++ c ∷ []) (get_or (first ++ length cells ∷ []) id 0) ≡ id)
      starts' id b =
          let b' : id < length first + 1 = subst (λ n. id < n)
          (length-append first (length cells ∷ [])) b in
          elim (cases_lt id (length first)) [
            | inl l ↦ rw (get_or-append first (length cells ∷ []) 0 id l)
                (starts_still id (get_or first id 0) cells c (k.starts id l))
            | inr l ↦
                let e : id ≡ length first = omega arith in
                let i : c.id ≡ id = h ∙ sym k.each ∙ sym e in
                let t : get_or (first ++ length cells ∷ []) id 0 ≡ length cells =
                ap (λ n. get_or (first ++ length cells ∷ []) n 0) e
                ∙ get_or-append_seam first (length cells) [] 0 in
                let none : of_id id cells ≡ [] =
                none_of id cells (λ p q. subst (λ n. id_at cells p < n) (sym h ∙ i)
                (k.known p q)) in
                let here : of_id id (cells ++ c ∷ []) ≡ of_id id (c ∷ []) =
                of_id-append id cells (c ∷ []) ∙ ap (λ cs. cs ++ of_id id (c ∷ [])) none in
                let there : of_id id (drop (length cells) (cells ++ c ∷ [])) ≡ of_id id (c ∷ []) =
                after id (length cells) cells c (omega arith)
                ∙ ap (λ cs. of_id id cs ++ of_id id (c ∷ []))
                (drop_of_length-le cells (omega arith)) in
                rw t (the_end cells c, here ∙ sym there, id_end cells c ∙ i)
          ]

      goes' : (p : ℕ) → p < length (cells ++ c ∷ []) → get_or (next ++ 0 ∷ []) p 0 ≢ 0
          → (get_or (next ++ 0 ∷ []) p 0 < length (cells ++ c ∷ []))
          × (of_id (id_at (cells ++ c ∷ []) p) (drop (p + 1) (cells ++ c ∷ []))
          ≡ of_id (id_at (cells ++ c ∷ []) p)
          (drop (get_or (next ++ 0 ∷ []) p 0) (cells ++ c ∷ [])))
          × (id_at (cells ++ c ∷ []) (get_or (next ++ 0 ∷ []) p 0) ≡ id_at (cells ++ c ∷ []) p)
      goes' p b n = elim (at_end cells c p b) [
        | inr e ↦ absurd (n (ap (λ m. get_or (next ++ 0 ∷ []) m 0) e ∙ next_new))
        | inl l ↦
            let t = next_old p l in
            let g = k.goes p l (λ z. n (t ∙ z)) in
            let i = id_prefix cells c p l in
            let into : get_or next p 0 < length cells = g.0 in
            rw t (
              inside cells c (get_or next p 0) into,
              rw (
                i,
                after (id_at cells p) (p + 1) cells c (omega arith),
                after (id_at cells p) (get_or next p 0) cells c (omega arith),
              )
                  (ap (λ cs. cs ++ of_id (id_at cells p) (c ∷ [])) g.1),
              id_prefix cells c (get_or next p 0) into ∙ g.2 ∙ sym i,
            )
      ]

      ends' : (p : ℕ) → p < length (cells ++ c ∷ []) → get_or (next ++ 0 ∷ []) p 0 ≡ 0
          → (get_or (last ++ length cells ∷ []) (id_at (cells ++ c ∷ []) p) 0 ≡ p)
          × (of_id (id_at (cells ++ c ∷ []) p) (drop (p + 1) (cells ++ c ∷ [])) ≡ [])
      ends' p b z = elim (at_end cells c p b) [
        | inr e ↦
            let i : id_at (cells ++ c ∷ []) p ≡ c.id = ap (id_at (cells ++ c ∷ [])) e
            ∙ id_end cells c in
            rw (i, e) (last_new, none_after c.id cells c)
        | inl l ↦
            let g = k.ends p l (sym (next_old p l) ∙ z) in
            let i = id_prefix cells c p l in
            rw i (
              last_old (id_at cells p) (k.known p l) ∙ g.0,
              after (id_at cells p) (p + 1) cells c (omega arith)
                  ∙ ap (λ cs. cs ++ of_id (id_at cells p) (c ∷ [])) g.1
                  ∙ other_id (id_at cells p) c (apart p l),
            )
      ]

      known' : (p : ℕ) → p < length (cells ++ c ∷ [])
          → id_at (cells ++ c ∷ []) p < length (last ++ length cells ∷ [])
      known' p b = subst (λ n. id_at (cells ++ c ∷ []) p < n) (sym long')
          (elim (at_end cells c p b) [
            | inl l ↦ let q = k.known p l in subst (λ n. n < length last + 1)
                (sym (id_prefix cells c p l)) (omega (arith, q))
            | inr e ↦ subst (λ n. n < length last + 1)
                (sym (ap (id_at (cells ++ c ∷ [])) e ∙ id_end cells c)) (omega (arith, h))
          ])

      last_in' : (id : ℕ) → id < length (last ++ length cells ∷ [])
          → (get_or (last ++ length cells ∷ []) id 0 < length (cells ++ c ∷ []))
          × (get_or (next ++ 0 ∷ []) (get_or (last ++ length cells ∷ []) id 0) 0 ≡ 0)
          × (id_at (cells ++ c ∷ []) (get_or (last ++ length cells ∷ []) id 0) ≡ id)
      last_in' id b =
          let b' : id < length last + 1 = subst (λ n. id < n) long' b in
          elim (cases_lt id (length last)) [
            | inl l ↦
                let g = k.last_in id l in
                rw (last_old id l) (
                  inside cells c (get_or last id 0) g.0,
                  next_old (get_or last id 0) g.0 ∙ g.1,
                  id_prefix cells c (get_or last id 0) g.0
                      ∙ g.2,
                )
            | inr l ↦
                let e : id ≡ c.id = omega (arith, h) in
                let t : get_or (last ++ length cells ∷ []) id 0 ≡ length cells =
                ap (λ n. get_or (last ++ length cells ∷ []) n 0) e ∙ last_new in
                rw t (the_end cells c, next_new, id_end cells c ∙ sym e)
          ]
