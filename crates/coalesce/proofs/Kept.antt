-- Places of a list whose members are cut or dropped in place.
use Rattle.std.proofs.Common.{◌≡◌, ◌<◌, ◌≤◌, ◌+◌, ℕ, List, [], ◌∷◌, ◌++◌, length, take, drop}
use Rattle.std.proofs.Common.{get_or, refl, sym, ap, ◌∙◌, append_assoc, append-nil, arith}
use Rattle.std.specs.Prelude.{Option, Some, None}
use Rattle.std.proofs.Math.ListN.{set, drop_of_length-le}
use Rattle.std.specs.List.{swap, filter_map, cons_option}
use Rattle.std.proofs.lemmas.List.{take-set-le, take_more, drop_more, drop-set-lt, get_or-set_same}
use Rattle.std.proofs.lemmas.List.{set-get_or}
use Rattle.std.proofs.lemmas.List.Edits.{swap_is, length-swap}
use Rattle.std.proofs.lemmas.Grind.{common_steps}
use Rattle.coalesce.specs.Cutting.{left}

module _ {E : Type 0} (f : E → Option E) where
  swapped : (xs : List E) (i n : ℕ) (d g : E) → i ≤ n → n < length xs
      → get_or (set (set (set xs n g) i g) n (get_or (set xs n g) i d)) i d ≡ g
  swapped xs i n d g le nl = grind (arith, common_steps)

  pub kept_one : (xs ys : List E) (k n : ℕ) (d g : E) → k ≤ n → n < length xs
      → f (get_or xs n d) ≡ Some g → ys ≡ swap (set xs n g) k n
      → left f k n xs ≡ left f (k + 1) (n + 1) ys
  unfolding left
  kept_one xs ys k n d g kn nl cut ys_swap =
      let xl : length (set xs n g) ≡ length xs = grind (arith, common_steps) in
      let kl : k < length (set xs n g) = omega arith in
      let nl2 : n < length (set xs n g) = omega arith in
      let h = get_or (set xs n g) k d in
      let here : get_or (set xs n g) n d ≡ g = get_or-set_same xs n g d nl in
      let ys_is : ys ≡ set (set (set xs n g) k g) n h = ys_swap
      ∙ sym (swap_is (set xs n g) k n d kl nl2)
      ∙ ap (λ v. set (set (set xs n g) k v) n h) here in
      let long : k < length ys = rw (ap length ys_swap ∙ length-swap (set xs n g) k n) kl in
      let prefix : take k ys ≡ take k xs =
      ap (take k) ys_is ∙ take-set-le k (set (set xs n g) k g) n h (omega arith)
      ∙ take-set-le k (set xs n g) k g (omega arith) ∙ take-set-le k xs n g (omega arith) in
      let last : get_or ys k d ≡ g = ap (λ l. get_or l k d) ys_is ∙ swapped xs k n d g kn nl in
      let back : drop (n + 1) ys ≡ drop (n + 1) xs =
      ap (drop (n + 1)) ys_is ∙ drop-set-lt (n + 1) (set (set xs n g) k g) n h (omega arith)
      ∙ drop-set-lt (n + 1) (set xs n g) k g (omega arith)
      ∙ drop-set-lt (n + 1) xs n g (omega arith) in
      ap (λ l. take k xs ++ filter_map f l) (drop_more xs n d nl)
      ∙ ap (λ o. take k xs ++ cons_option o (filter_map f (drop (n + 1) xs))) cut
      ∙ sym (append_assoc (take k xs) (g ∷ []) (filter_map f (drop (n + 1) xs)))
      ∙ sym (rw (take_more ys k d long, prefix, last, back) refl)

  -- one that stays as it is
  pub kept_whole : (xs ys : List E) (k n : ℕ) (d : E) → k ≤ n → n < length xs
      → f (get_or xs n d) ≡ Some (get_or xs n d) → ys ≡ swap xs k n
      → left f k n xs ≡ left f (k + 1) (n + 1) ys
  kept_whole xs ys k n d kn nl same is =
      kept_one xs ys k n d (get_or xs n d) kn nl same
      (is ∙ ap (λ (l : List E). swap l k n) (sym (set-get_or xs n d)))

  pub dropped_one : (xs : List E) (k n : ℕ) (d : E) → n < length xs → f (get_or xs n d) ≡ None
      → left f k n xs ≡ left f k (n + 1) xs
  unfolding left
  dropped_one xs k n d nl cut =
      ap (λ l. take k xs ++ filter_map f l) (drop_more xs n d nl)
      ∙ ap (λ o. take k xs ++ cons_option o (filter_map f (drop (n + 1) xs))) cut

  pub starts : (xs : List E) → filter_map f xs ≡ left f 0 0 xs
  unfolding left
  starts xs = refl

  pub ended : (xs : List E) (k n : ℕ) → n ≡ length xs → left f k n xs ≡ take k xs
  unfolding left
  ended xs k n e =
      let all : drop n xs ≡ [] = drop_of_length-le xs (omega arith) in
      rw all (append-nil (take k xs))
