-- Rows that are kept in place: those that pass move down, in their order.
use Rattle.std.proofs.Common.{◌≡◌, ◌<◌, ◌≤◌, ◌+◌, ℕ, Bool, true, false, cond, List, [], ◌∷◌, ◌++◌}
use Rattle.std.proofs.Common.{length, take, drop, get_or, refl, sym, ap, ◌∙◌, append_assoc}
use Rattle.std.proofs.Common.{append-nil, map, subst, inl, inr, arith}
use Rattle.std.proofs.Math.ListN.{set, drop_of_length-le}
use Rattle.std.specs.List.{swap, filter}
use Rattle.std.proofs.lemmas.List.{take-set-le, take_more, drop_more, drop-set-lt}
use Rattle.std.proofs.lemmas.List.Edits.{swap_is, length-swap}
use Rattle.std.proofs.lemmas.Grind.{common_steps}
use Rattle.relations_spec.specs.Sets.{In}
use Rattle.prima_base.specs.declared.timed_row.TimedRow.{TimedRow}
use Rattle.prima_base.specs.Order.{shown}
use Rattle.prima_base.specs.Timed.{entry_of, entries_of}
use Rattle.join_exec_spec.specs.Keeping.{IsValidRow, AllValid}

module _ {X : Type 0} (p : X → Bool) where
  -- what the list stands for: what is kept, and those of the rest that pass
  abbrev pub left : ℕ → ℕ → List X → List X
  left kept next rows = take kept rows ++ filter p (drop next rows)

  put_down : (xs : List X) (k n : ℕ) (d : X) → k ≤ n → n < length xs
      → get_or (set (set xs k (get_or xs n d)) n (get_or xs k d)) k d ≡ get_or xs n d
  put_down xs k n d kn nl = grind (arith, common_steps)

  -- the rows after both are as they were
  pub rest_same : (xs ys : List X) (k n : ℕ) (d : X) → k ≤ n → n < length xs → ys ≡ swap xs k n
      → drop (n + 1) ys ≡ drop (n + 1) xs
  rest_same xs ys k n d kn nl is =
      let x = get_or xs n d in
      let y = get_or xs k d in
      ap (drop (n + 1)) (is ∙ sym (swap_is xs k n d (omega (arith, kn, nl)) nl))
      ∙ drop-set-lt (n + 1) (set xs k x) n y (omega arith)
      ∙ drop-set-lt (n + 1) xs k x (omega (arith, kn))

  -- and there are as many
  pub as_many : (xs ys : List X) (k n : ℕ) → n < length xs → ys ≡ swap xs k n → n + 1 ≤ length ys
  as_many xs ys k n nl is = rw (ap length is ∙ length-swap xs k n) (omega arith)

  pub kept_one : (xs ys : List X) (k n : ℕ) (d : X) → k ≤ n → n < length xs
      → p (get_or xs n d) ≡ true → ys ≡ swap xs k n
      → left k n xs ≡ left (k + 1) (n + 1) ys
  kept_one xs ys k n d kn nl passes is =
      let x = get_or xs n d in
      let y = get_or xs k d in
      let kl : k < length xs = omega (arith, kn, nl) in
      let ys_is : ys ≡ set (set xs k x) n y = is ∙ sym (swap_is xs k n d kl nl) in
      let long : k < length ys = rw (ap length is ∙ length-swap xs k n) kl in
      let prefix : take k ys ≡ take k xs = ap (take k) ys_is
      ∙ take-set-le k (set xs k x) n y kn ∙ take-set-le k xs k x (omega arith) in
      let last : get_or ys k d ≡ x = ap (λ l. get_or l k d) ys_is ∙ put_down xs k n d kn nl in
      ap (λ l. take k xs ++ filter p l) (drop_more xs n d nl)
      ∙ ap (λ b. take k xs ++ cond b (x ∷ filter p (drop (n + 1) xs)) (filter p (drop (n + 1) xs)))
      passes
      ∙ sym (append_assoc (take k xs) (x ∷ []) (filter p (drop (n + 1) xs)))
      ∙ sym (rw (take_more ys k d long, prefix, last, rest_same xs ys k n d kn nl is) refl)

  pub dropped_one : (xs : List X) (k n : ℕ) (d : X) → n < length xs → p (get_or xs n d) ≡ false
      → left k n xs ≡ left k (n + 1) xs
  dropped_one xs k n d nl fails =
      ap (λ l. take k xs ++ filter p l) (drop_more xs n d nl)
      ∙ ap (λ b. take k xs ++ cond b (get_or xs n d ∷ filter p (drop (n + 1) xs))
      (filter p (drop (n + 1) xs))) fails

  pub ended : (xs : List X) (k n : ℕ) → length xs ≤ n → left k n xs ≡ take k xs
  ended xs k n e =
      let all : drop n xs ≡ [] = drop_of_length-le xs e in
      rw all (append-nil (take k xs))

-- ---- valid rows

pub next_valid : (xs : List TimedRow) (n : ℕ) (x d : TimedRow) → AllValid (entries_of (drop n xs))
    → n < length xs → x ≡ get_or xs n d → IsValidRow (map shown x.values.items)
next_valid xs n x d valid nl is =
    let y = get_or xs n d in
    subst (λ (r : TimedRow). IsValidRow (map shown r.values.items)) (sym is)
    (valid (entry_of y) (subst (λ (l : List TimedRow). In (entry_of y) (entries_of l))
    (sym (drop_more xs n d nl)) (inl refl)))

pub rest_valid : (xs ys : List TimedRow) (n : ℕ) (d : TimedRow)
    → AllValid (entries_of (drop n xs)) → n < length xs → drop (n + 1) ys ≡ drop (n + 1) xs
    → AllValid (entries_of (drop (n + 1) ys))
rest_valid xs ys n d valid nl same = λ e i.
    valid e (subst (λ (l : List TimedRow). In e (entries_of l)) (sym (drop_more xs n d nl))
    (inr (subst (λ (l : List TimedRow). In e (entries_of l)) same i)))
