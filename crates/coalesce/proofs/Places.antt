-- Places of a list that is joined in place.
use Rattle.std.proofs.Common.{◌≡◌, ◌<◌, ◌+◌, ℕ, Bool, true, false, List, [], ◌∷◌, ◌++◌, length}
use Rattle.std.proofs.Common.{take, drop, get_or, refl, sym, ap, ◌∙◌, append_assoc, arith, subst}
use Rattle.std.proofs.Math.ListN.{set, drop_of_length-le}
use Rattle.std.specs.List.{swap}
use Rattle.std.proofs.lemmas.List.{take-set, take-set-le, take_more, drop_more, drop-set-lt}
use Rattle.std.proofs.lemmas.List.{get_or-set_same}
use Rattle.std.proofs.lemmas.List.Edits.{swap_is, length-swap}
use Rattle.std.proofs.lemmas.Grind.{common_steps}
use Rattle.coalesce.specs.Joining.{into, merged, goes_on, standing}

module _ {E : Type 0} (touch : E → E → Bool) (join : E → E → E) where
  into_touching : (e f : E) (suffix : List E) → touch e f ≡ true
      → into touch join e (f ∷ suffix) ≡ into touch join (join e f) suffix
  into_touching e f suffix t = rw t refl

  into_apart : (e f : E) (suffix : List E) → touch e f ≡ false
      → into touch join e (f ∷ suffix) ≡ e ∷ into touch join f suffix
  into_apart e f suffix t = rw t refl

  -- what stands, by the two entries
  standing_is : (xs : List E) (k n : ℕ) (d : E) → k < length xs
      → standing touch join k n xs ≡ take k xs ++ into touch join (get_or xs k d) (drop n xs)
  unfolding standing
  standing_is xs k n d kl = ap (λ l. take k xs ++ goes_on touch join l (drop n xs))
      (drop_more xs k d kl)

  pub kept_join : (xs : List E) (k n : ℕ) (d e : E) → k < n → n < length xs
      → touch (get_or xs k d) (get_or xs n d) ≡ true → e ≡ join (get_or xs k d) (get_or xs n d)
      → standing touch join k n xs ≡ standing touch join k (n + 1) (set xs k e)
  kept_join xs k n d e kn nl t is =
      let kl : k < length xs = omega arith in
      let kn1 : k < n + 1 = omega arith in
      let kls : k < length (set xs k e) = grind (arith, common_steps) in
      standing_is xs k n d kl
      ∙ ap (λ l. take k xs ++ into touch join (get_or xs k d) l) (drop_more xs n d nl)
      ∙ ap (λ l. take k xs ++ l) (into_touching (get_or xs k d) (get_or xs n d) (drop (n + 1) xs) t
      ∙ ap (λ j. into touch join j (drop (n + 1) xs)) (sym is))
      ∙ sym (standing_is (set xs k e) k (n + 1) d kls
      ∙ rw (take-set xs k e, get_or-set_same xs k e d kl, drop-set-lt (n + 1) xs k e kn1) refl)

  swapped_here : (xs : List E) (i n : ℕ) (d : E) → i < length xs → n < length xs
      → get_or (set (set xs i (get_or xs n d)) n (get_or xs i d)) i d ≡ get_or xs n d
  swapped_here xs i n d il nl = grind (arith, common_steps)

  pub kept_swap : (xs ys : List E) (k n : ℕ) (d : E) → k < n → n < length xs
      → touch (get_or xs k d) (get_or xs n d) ≡ false → ys ≡ swap xs (k + 1) n
      → standing touch join k n xs ≡ standing touch join (k + 1) (n + 1) ys
  kept_swap xs ys k n d kn nl t is =
      let kl : k < length xs = omega arith in
      let k1 : k + 1 < length xs = omega arith in
      let f = get_or xs n d in
      let g = get_or xs (k + 1) d in
      let ys_is : ys ≡ set (set xs (k + 1) f) n g = is ∙ sym (swap_is xs (k + 1) n d k1 nl) in
      let long : k + 1 < length ys = subst (λ m. k + 1 < m)
      (sym (ap length is ∙ length-swap xs (k + 1) n)) k1 in
      let prefix : take (k + 1) ys ≡ take k xs ++ get_or xs k d ∷ [] =
      ap (take (k + 1)) ys_is ∙ take-set-le (k + 1) (set xs (k + 1) f) n g (omega arith)
      ∙ take-set-le (k + 1) xs (k + 1) f (omega arith) ∙ take_more xs k d kl in
      let back : drop (n + 1) ys ≡ drop (n + 1) xs =
      ap (drop (n + 1)) ys_is ∙ drop-set-lt (n + 1) (set xs (k + 1) f) n g (omega arith)
      ∙ drop-set-lt (n + 1) xs (k + 1) f (omega arith) in
      let here : get_or ys (k + 1) d ≡ f = ap (λ l. get_or l (k + 1) d) ys_is
      ∙ swapped_here xs (k + 1) n d k1 nl in
      standing_is xs k n d kl
      ∙ ap (λ l. take k xs ++ into touch join (get_or xs k d) l) (drop_more xs n d nl)
      ∙ ap (λ l. take k xs ++ l) (into_apart (get_or xs k d) f (drop (n + 1) xs) t)
      ∙ sym (standing_is ys (k + 1) (n + 1) d long
      ∙ rw (prefix, back, here) (append_assoc (take k xs) (get_or xs k d ∷ [])
      (into touch join f (drop (n + 1) xs))))

  -- at the start, and at the end
  pub starts : (xs : List E) → 0 < length xs → merged touch join xs ≡ standing touch join 0 1 xs
  unfolding standing
  starts [] h = absurd (omega arith)
  starts (e ∷ suffix) h = refl

  ends : (xs : List E) (k n : ℕ) (d : E) → k < n → n ≡ length xs
      → standing touch join k n xs ≡ take (k + 1) xs
  ends xs k n d kn e =
      let kl : k < length xs = omega arith in
      let all : drop n xs ≡ [] = drop_of_length-le xs (omega arith) in
      standing_is xs k n d kl ∙ rw all (sym (take_more xs k d kl))

  pub ended : (xs : List E) (k n : ℕ) → k < n → n ≡ length xs
      → standing touch join k n xs ≡ take (k + 1) xs
  ended [] k n kn e = absurd (omega arith)
  ended (x ∷ xs) k n kn e = ends (x ∷ xs) k n x kn e
