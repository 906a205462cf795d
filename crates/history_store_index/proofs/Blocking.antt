-- Ids in blocks, by place.
use Rattle.std.proofs.Common.{◌≡◌, ℕ, suc, zero, ◌+◌, ◌-◌, ◌*◌, ◌<◌, ◌≤◌, List, [], ◌∷◌, ◌++◌}
use Rattle.std.proofs.Common.{length, get_or, set, refl, sym, ap, ◌∙◌, subst, arith, length-append}
use Rattle.std.proofs.Common.{append_assoc, inl, inr}
use Rattle.std.proofs.lemmas.Bool.{cases_lt}
use Rattle.std.specs.Prelude.{All}
use Rattle.std.proofs.Math.ListN.{get_or-append, length-set}
use Rattle.std.proofs.lemmas.List.{get_or-set_other, get_or-set_same}
use Rattle.std.specs.List.{concat, insert, remove}
use Rattle.std.proofs.lemmas.List.Edits.{insert-append_left, remove-append_left, length-insert}
use Rattle.std.proofs.lemmas.List.Edits.{length-remove, get_or-insert_below}
use Rattle.history_store_index.specs.Blocks.{before, filled, half_size, ids_left, blocks_left}
use Rattle.history_store_index.specs.Blocks.{IsCounted}

-- ---- after other ids

pub insert_after : (xs ys : List ℕ) (i n x : ℕ) → n ≡ length xs + i
    → xs ++ insert ys i x ≡ insert (xs ++ ys) n x
insert_after [] ys i n x e = let k : i ≡ n = omega (arith, e) in ap (λ k. insert ys k x) k
insert_after (y ∷ xs) ys i zero x e = absurd (omega (arith, e))
insert_after (y ∷ xs) ys i (suc n) x e = ap (λ l. y ∷ l)
    (insert_after xs ys i n x (omega (arith, e)))

remove_after : (xs ys : List ℕ) (i n : ℕ) → n ≡ length xs + i
    → xs ++ remove ys i ≡ remove (xs ++ ys) n
remove_after [] ys i n e = let k : i ≡ n = omega (arith, e) in ap (λ k. remove ys k) k
remove_after (y ∷ xs) ys i zero e = absurd (omega (arith, e))
remove_after (y ∷ xs) ys i (suc n) e = ap (λ l. y ∷ l) (remove_after xs ys i n (omega (arith, e)))

get_after : (xs ys : List ℕ) (i n : ℕ) → n ≡ length xs + i → get_or (xs ++ ys) n 0 ≡ get_or ys i 0
get_after [] ys i n e = let k : n ≡ i = omega (arith, e) in ap (λ k. get_or ys k 0) k
get_after (y ∷ xs) ys i zero e = absurd (omega (arith, e))
get_after (y ∷ xs) ys i (suc n) e = get_after xs ys i n (omega (arith, e))

-- ---- a place in a block is one among all

pub get_in : (blocks : List (List ℕ)) (b i n : ℕ) → b < length blocks
    → i < length (get_or blocks b []) → n ≡ before b blocks + i
    → get_or (concat blocks) n 0 ≡ get_or (get_or blocks b []) i 0
get_in [] b i n h l e = absurd (omega arith)
get_in (c ∷ blocks) zero i n h l e = let k : n ≡ i = omega (arith, e) in
    ap (λ k. get_or (c ++ concat blocks) k 0) k ∙ get_or-append c (concat blocks) 0 i l
get_in (c ∷ blocks) (suc b) i n h l e = get_after c (concat blocks) (before b blocks + i) n
    (omega (arith, e)) ∙ get_in blocks b i (before b blocks + i) (omega arith) l refl

pub insert_in : (blocks : List (List ℕ)) (b i n x : ℕ) → b < length blocks
    → i ≤ length (get_or blocks b []) → n ≡ before b blocks + i
    → concat (set blocks b (insert (get_or blocks b []) i x)) ≡ insert (concat blocks) n x
insert_in [] b i n x h l e = absurd (omega arith)
insert_in (c ∷ blocks) zero i n x h l e = let k : i ≡ n = omega (arith, e) in
    sym (insert-append_left c (concat blocks) i x l) ∙ ap (λ k. insert (c ++ concat blocks) k x) k
insert_in (c ∷ blocks) (suc b) i n x h l e = ap (λ r. c ++ r)
    (insert_in blocks b i (before b blocks + i) x (omega arith) l refl)
    ∙ insert_after c (concat blocks) (before b blocks + i) n x (omega (arith, e))

pub remove_in : (blocks : List (List ℕ)) (b i n : ℕ) → b < length blocks
    → i < length (get_or blocks b []) → n ≡ before b blocks + i
    → concat (set blocks b (remove (get_or blocks b []) i)) ≡ remove (concat blocks) n
remove_in [] b i n h l e = absurd (omega arith)
remove_in (c ∷ blocks) zero i n h l e = let k : i ≡ n = omega (arith, e) in
    sym (remove-append_left c (concat blocks) i l) ∙ ap (λ k. remove (c ++ concat blocks) k) k
remove_in (c ∷ blocks) (suc b) i n h l e = ap (λ r. c ++ r)
    (remove_in blocks b i (before b blocks + i) (omega arith) l refl)
    ∙ remove_after c (concat blocks) (before b blocks + i) n (omega (arith, e))

-- ---- blocks that come and go

pub split_in : (blocks : List (List ℕ)) (b : ℕ) (low high : List ℕ) → b < length blocks
    → concat (insert (set blocks b low) (suc b) high) ≡ concat (set blocks b (low ++ high))
split_in [] b low high h = absurd (omega arith)
split_in (c ∷ blocks) zero low high h = sym (append_assoc low high (concat blocks))
split_in (c ∷ blocks) (suc b) low high h = ap (λ r. c ++ r)
    (split_in blocks b low high (omega arith))

pub without_empty : (blocks : List (List ℕ)) (b : ℕ) → b < length blocks → get_or blocks b [] ≡ []
    → concat (remove blocks b) ≡ concat blocks
without_empty [] b h e = absurd (omega arith)
without_empty (c ∷ blocks) zero h e = ap (λ r. r ++ concat blocks) (sym e)
without_empty (c ∷ blocks) (suc b) h e = ap (λ r. c ++ r) (without_empty blocks b (omega arith) e)

-- ---- how many ids stand before a block

pub before_set : (blocks : List (List ℕ)) (b k : ℕ) (c : List ℕ) → k ≤ b
    → before k (set blocks b c) ≡ before k blocks
before_set blocks b zero c h = refl
before_set [] b (suc k) c h = refl
before_set (d ∷ blocks) zero (suc k) c h = absurd (omega arith)
before_set (d ∷ blocks) (suc b) (suc k) c h =
    ap (λ n. length d + n) (before_set blocks b k c (omega arith))

pub before_insert : (blocks : List (List ℕ)) (b k : ℕ) (c : List ℕ) → k ≤ b → b ≤ length blocks
    → before k (insert blocks b c) ≡ before k blocks
before_insert blocks b zero c h l = refl
before_insert [] zero (suc k) c h l = absurd (omega arith)
before_insert [] (suc b) (suc k) c h l = absurd (omega arith)
before_insert (d ∷ blocks) zero (suc k) c h l = absurd (omega arith)
before_insert (d ∷ blocks) (suc b) (suc k) c h l =
    ap (λ n. length d + n) (before_insert blocks b k c (omega arith) (omega arith))

pub before_remove : (blocks : List (List ℕ)) (b k : ℕ) → k ≤ b
    → before k (remove blocks b) ≡ before k blocks
before_remove blocks b zero h = refl
before_remove [] zero (suc k) h = absurd (omega arith)
before_remove [] (suc b) (suc k) h = refl
before_remove (d ∷ blocks) zero (suc k) h = absurd (omega arith)
before_remove (d ∷ blocks) (suc b) (suc k) h =
    ap (λ n. length d + n) (before_remove blocks b k (omega arith))

pub before_next : (blocks : List (List ℕ)) (b : ℕ) → b < length blocks
    → before (suc b) blocks ≡ before b blocks + length (get_or blocks b [])
before_next [] b h = absurd (omega arith)
before_next (c ∷ blocks) zero h = omega arith
before_next (c ∷ blocks) (suc b) h = let r = before_next blocks b (omega arith) in omega (arith, r)

pub before_all : (blocks : List (List ℕ)) (b : ℕ) → length blocks ≤ b
    → before b blocks ≡ length (concat blocks)
before_all [] zero h = refl
before_all [] (suc b) h = refl
before_all (c ∷ blocks) zero h = absurd (omega arith)
before_all (c ∷ blocks) (suc b) h = let r = before_all blocks b (omega arith) in
    omega (arith, r, length-append c (concat blocks))

pub before_some : (blocks : List (List ℕ)) (b : ℕ) → before b blocks ≤ length (concat blocks)
before_some blocks zero = omega arith
before_some [] (suc b) = omega arith
before_some (c ∷ blocks) (suc b) = let r = before_some blocks b in
    omega (arith, r, length-append c (concat blocks))

-- a place among all is one in the block that is found for it
pub is_inside : (blocks : List (List ℕ)) (b n : ℕ) → b < length blocks → before b blocks ≤ n
    → n ≤ length (concat blocks) → (suc b < length blocks → n < before (suc b) blocks)
    → n ≤ before b blocks + length (get_or blocks b [])
is_inside blocks b n h f l g = elim (cases_lt (suc b) (length blocks)) [
  | inl m ↦ (let r = before_next blocks b h in let q = g m in omega (arith, r, q))
  | inr m ↦ (let r = before_next blocks b h in let q = before_all blocks (suc b) m in
      omega (arith, r, q, l))
]

pub is_within : (blocks : List (List ℕ)) (b n : ℕ) → b < length blocks → before b blocks ≤ n
    → n < length (concat blocks) → (suc b < length blocks → n < before (suc b) blocks)
    → n < before b blocks + length (get_or blocks b [])
is_within blocks b n h f l g = elim (cases_lt (suc b) (length blocks)) [
  | inl m ↦ (let r = before_next blocks b h in let q = g m in omega (arith, r, q))
  | inr m ↦ (let r = before_next blocks b h in let q = before_all blocks (suc b) m in
      omega (arith, r, q, l))
]

-- ---- blocks that are counted again

-- what stands before a block, from the one before it
pub counted_next : (blocks : List (List ℕ)) (k : ℕ) → 0 < k → k ≤ length blocks
    → before (k - 1) blocks + length (get_or blocks (k - 1) []) ≡ before k blocks
counted_next blocks zero h l = absurd (omega arith)
counted_next blocks (suc k) h l = let e : suc k - 1 ≡ k = omega arith in
    rw e (sym (before_next blocks k (omega arith)))

pub counted_more : (starts : List ℕ) (blocks : List (List ℕ)) (k v : ℕ)
    → length starts ≡ length blocks → k < length blocks → v ≡ before k blocks
    → ((j : ℕ) → j < k → j < length blocks → get_or starts j 0 ≡ before j blocks)
    → (j : ℕ) → j < k + 1 → j < length blocks → get_or (set starts k v) j 0 ≡ before j blocks
counted_more starts blocks k v n h e f j l m = elim (cases_lt j k) [
  | inl q ↦ get_or-set_other starts k j v 0 (omega arith) ∙ f j q m
  | inr q ↦ (let i : j ≡ k = omega arith in rw i (get_or-set_same starts k v 0 (omega arith) ∙ e))
]

-- ---- the default is never asked for

pub any_block : (blocks : List (List ℕ)) (b : ℕ) (c d : List ℕ) → b < length blocks
    → get_or blocks b c ≡ get_or blocks b d
any_block [] b c d h = absurd (omega arith)
any_block (e ∷ blocks) zero c d h = refl
any_block (e ∷ blocks) (suc b) c d h = any_block blocks b c d (omega arith)

pub any_id : (ids : List ℕ) (i c d : ℕ) → i < length ids → get_or ids i c ≡ get_or ids i d
any_id [] i c d h = absurd (omega arith)
any_id (e ∷ ids) zero c d h = refl
any_id (e ∷ ids) (suc i) c d h = any_id ids i c d (omega arith)

pub was_is : (blocks : List (List ℕ)) (b : ℕ) (was : List ℕ) → b < length blocks
    → was ≡ get_or blocks b was → was ≡ get_or blocks b []
was_is blocks b was h e = e ∙ any_block blocks b was [] h

-- ---- one id more

pub put_plain : (blocks : List (List ℕ)) (b i at id : ℕ) (was now : List ℕ) → b < length blocks
    → at ≡ before b blocks + i → i ≤ length (get_or blocks b []) → was ≡ get_or blocks b was
    → now ≡ insert was i id → concat (set blocks b now) ≡ insert (concat blocks) at id
put_plain blocks b i at id was now h p l w n =
    ap (λ x. concat (set blocks b x)) (n ∙ ap (λ (x : List ℕ). insert x i id)
    (was_is blocks b was h w)) ∙ insert_in blocks b i at id h l p

pub put_split : (blocks : List (List ℕ)) (b i at id : ℕ) (was low high : List ℕ) → b < length blocks
    → at ≡ before b blocks + i → i ≤ length (get_or blocks b []) → was ≡ get_or blocks b was
    → low ++ high ≡ insert was i id
    → concat (insert (set blocks b low) (b + 1) high) ≡ insert (concat blocks) at id
put_split blocks b i at id was low high h p l w n = let m : b + 1 ≡ suc b = omega arith in
    rw m (split_in blocks b low high h ∙ put_plain blocks b i at id was (low ++ high) h p l w n)

pub few_more : (xs ys : List ℕ) (at id n : ℕ) → ys ≡ insert xs at id → at ≤ length xs
    → length xs + 1 < n → length ys < n
few_more xs ys at id n e h f = let l = length-insert xs at id h in
    subst (λ (zs : List ℕ). length zs < n) (sym e) (omega (arith, l, f))

pub count_set : (starts : List ℕ) (blocks : List (List ℕ)) (b : ℕ) (now : List ℕ)
    → IsCounted starts blocks → (k : ℕ) → k < b + 1 → k < length (set blocks b now)
    → get_or starts k 0 ≡ before k (set blocks b now)
count_set starts blocks b now w k m l = let n = length-set blocks b now in
    w.each k (omega (arith, n, l)) ∙ sym (before_set blocks b k now (omega arith))

pub count_split : (starts : List ℕ) (blocks : List (List ℕ)) (b : ℕ) (low high : List ℕ)
    → IsCounted starts blocks → b < length blocks → (k : ℕ) → k < b + 1
    → k < length (insert (set blocks b low) (b + 1) high)
    → get_or (insert starts (b + 1) 0) k 0 ≡ before k (insert (set blocks b low) (b + 1) high)
count_split starts blocks b low high w h k m l =
    let n = length-set blocks b low in
    let o = w.long in
    get_or-insert_below starts (b + 1) 0 0 k m (omega (arith, o)) ∙ w.each k (omega arith)
    ∙ sym (before_set blocks b k low (omega arith))
    ∙ sym (before_insert (set blocks b low) (b + 1) k high (omega arith) (omega (arith, n)))

-- ---- one id less

pub take_plain : (blocks : List (List ℕ)) (b i at : ℕ) (was now : List ℕ) → b < length blocks
    → at ≡ before b blocks + i → i < length (get_or blocks b []) → was ≡ get_or blocks b was
    → now ≡ remove was i → concat (set blocks b now) ≡ remove (concat blocks) at
take_plain blocks b i at was now h p l w n = ap (λ x. concat (set blocks b x))
    (n ∙ ap (λ (x : List ℕ). remove x i) (was_is blocks b was h w)) ∙ remove_in blocks b i at h l p

pub take_empty : (blocks : List (List ℕ)) (b i at : ℕ) (was now : List ℕ) → b < length blocks
    → at ≡ before b blocks + i → i < length (get_or blocks b []) → was ≡ get_or blocks b was
    → now ≡ remove was i → get_or (set blocks b now) b [] ≡ []
    → concat (remove (set blocks b now) b) ≡ remove (concat blocks) at
take_empty blocks b i at was now h p l w n z = let m = length-set blocks b now in
    without_empty (set blocks b now) b (omega (arith, m)) z
    ∙ take_plain blocks b i at was now h p l w n

pub few_less : (xs ys : List ℕ) (at n : ℕ) → ys ≡ remove xs at → at < length xs → length xs < n
    → length ys < n
few_less xs ys at n e h f = let l = length-remove xs at h in
    subst (λ (zs : List ℕ). length zs < n) (sym e) (omega (arith, l, f))

pub count_drop : (starts prefix : List ℕ) (last : ℕ) (blocks : List (List ℕ)) (b : ℕ) (now : List ℕ)
    → IsCounted starts blocks → b < length blocks → starts ≡ prefix ++ last ∷ [] → (k : ℕ)
    → k < b + 1 → k < length (remove (set blocks b now) b)
    → get_or prefix k 0 ≡ before k (remove (set blocks b now) b)
count_drop starts prefix last blocks b now w h e k m l =
    let n = length-set blocks b now in
    let r = length-remove (set blocks b now) b (omega (arith, n)) in
    let o = w.long in
    let p = ap length e ∙ length-append prefix (last ∷ []) in
    let q : k < length prefix = omega (arith, n, r, o, p, l) in
    sym (get_or-append prefix (last ∷ []) 0 k q) ∙ ap (λ (xs : List ℕ). get_or xs k 0) (sym e)
    ∙ w.each k (omega (arith, n, r, l)) ∙ sym (before_set blocks b k now (omega arith))
    ∙ sym (before_remove (set blocks b now) b k (omega arith))

pub id_in : (blocks : List (List ℕ)) (b i at id : ℕ) (was : List ℕ) → b < length blocks
    → at ≡ before b blocks + i → i < length (get_or blocks b []) → was ≡ get_or blocks b was
    → id ≡ get_or was i 0 → id ≡ get_or (concat blocks) at 0
id_in blocks b i at id was h p l w e = e ∙ ap (λ (x : List ℕ). get_or x i 0)
    (was_is blocks b was h w) ∙ sym (get_in blocks b i at h l p)

-- ---- the spare blocks

at_end : (ys : List (List ℕ)) (y : List ℕ) → get_or (ys ++ y ∷ []) (length ys) [] ≡ y
at_end [] y = refl
at_end (x ∷ ys) y = at_end ys y

pub last_empty : (xs ys : List (List ℕ)) (y : List ℕ) → All (λ b. b ≡ []) xs → xs ≡ ys ++ y ∷ []
    → y ≡ []
last_empty xs ys y a e =
    let n = ap length e ∙ length-append ys (y ∷ []) in
    sym (ap (λ (zs : List (List ℕ)). get_or zs (length ys) []) e ∙ at_end ys y)
    ∙ a (length ys) [] (omega (arith, n))

pub prefix_empty : (xs ys : List (List ℕ)) (y : List ℕ) → All (λ b. b ≡ []) xs → xs ≡ ys ++ y ∷ []
    → All (λ b. b ≡ []) ys
prefix_empty xs ys y a e k d h =
    let n = ap length e ∙ length-append ys (y ∷ []) in
    sym (get_or-append ys (y ∷ []) d k h) ∙ ap (λ (zs : List (List ℕ)). get_or zs k d) (sym e)
    ∙ a k d (omega (arith, n, h))

-- ---- how many ids may come

pub filled_set : (blocks : List (List ℕ)) (b : ℕ) (now : List ℕ) → b < length blocks
    → filled (set blocks b now) + (length (get_or blocks b []) - half_size)
    ≡ filled blocks + (length now - half_size)
filled_set [] b now h = absurd (omega arith)
filled_set (c ∷ blocks) zero now h = omega arith
filled_set (c ∷ blocks) (suc b) now h = let r = filled_set blocks b now (omega arith) in
    omega (arith, r)

pub filled_insert : (blocks : List (List ℕ)) (b : ℕ) (c : List ℕ) → b ≤ length blocks
    → filled (insert blocks b c) ≡ filled blocks + (length c - half_size)
filled_insert blocks zero c h = omega arith
filled_insert [] (suc b) c h = absurd (omega arith)
filled_insert (d ∷ blocks) (suc b) c h = let r = filled_insert blocks b c (omega arith) in
    omega (arith, r)

pub filled_remove : (blocks : List (List ℕ)) (b : ℕ) → filled (remove blocks b) ≤ filled blocks
filled_remove [] zero = omega arith
filled_remove [] (suc b) = omega arith
filled_remove (c ∷ blocks) zero = omega arith
filled_remove (c ∷ blocks) (suc b) = let r = filled_remove blocks b in omega (arith, r)

pub filled_few : (blocks : List (List ℕ)) → filled blocks ≤ length (concat blocks)
filled_few [] = omega arith
filled_few (c ∷ blocks) = let r = filled_few blocks in
    omega (arith, r, length-append c (concat blocks))

-- a block that gets one id more
pub filled_one : (blocks : List (List ℕ)) (b i id : ℕ) (was now : List ℕ) → b < length blocks
    → i ≤ length was → was ≡ get_or blocks b was → now ≡ insert was i id
    → filled (set blocks b now) ≤ filled blocks + 1
filled_one blocks b i id was now h l w n =
    let r = filled_set blocks b now h in
    let e = ap length (was_is blocks b was h w) in
    let m = ap length n ∙ length-insert was i id l in
    omega (arith, r, e, m)

-- a full block that is split where it gets one id more
pub filled_split : (blocks : List (List ℕ)) (b i id : ℕ) (was low high : List ℕ) → b < length blocks
    → i ≤ length was → was ≡ get_or blocks b was → low ++ high ≡ insert was i id
    → 2 * half_size ≤ length was → half_size ≤ length low → half_size ≤ length high
    → filled (insert (set blocks b low) (b + 1) high) + (half_size - 1) ≤ filled blocks
filled_split blocks b i id was low high h l w n f p q =
    let r = filled_set blocks b low h in
    let s = filled_insert (set blocks b low) (b + 1) high
    (let m = length-set blocks b low in omega (arith, m)) in
    let e = ap length (was_is blocks b was h w) in
    let m = ap length n ∙ length-insert was i id l in
    let k = length-append low high in
    omega (arith, r, s, e, m, k)

pub filled_less : (blocks : List (List ℕ)) (b i : ℕ) (was now : List ℕ) → b < length blocks
    → i < length was → was ≡ get_or blocks b was → now ≡ remove was i
    → filled (set blocks b now) ≤ filled blocks
filled_less blocks b i was now h l w n =
    let r = filled_set blocks b now h in
    let e = ap length (was_is blocks b was h w) in
    let m = ap length n in
    let k = length-remove was i l in
    omega (arith, r, e, m, k)

pub one_more_put : (blocks blocks' : List (List ℕ)) (more more' : ℕ)
    → filled blocks' ≤ filled blocks + 1 → more ≤ more'
    → ids_left more blocks ≤ ids_left more' blocks' + 1
one_more_put blocks blocks' more more' h k = omega arith

pub one_more_split : (blocks blocks' : List (List ℕ)) (more more' : ℕ)
    → filled blocks' + (half_size - 1) ≤ filled blocks → more ≤ more' + 1
    → ids_left more blocks ≤ ids_left more' blocks' + 1
one_more_split blocks blocks' more more' h k = omega arith

pub no_more_filled : (blocks blocks' : List (List ℕ)) (more more' : ℕ)
    → filled blocks' ≤ filled blocks → more ≤ more' → ids_left more blocks ≤ ids_left more' blocks'
no_more_filled blocks blocks' more more' h k = omega arith

pub same_blocks : (a b c a' b' c' : ℕ) → a ≤ a' → b ≤ b' → c ≤ c'
    → blocks_left a b c ≤ blocks_left a' b' c'
same_blocks a b c a' b' c' h k l = omega arith

pub one_block_less : (a b c a' b' c' : ℕ) → a ≤ a' + 1 → b ≤ b' + 1 → c ≤ c' + 1
    → blocks_left a b c ≤ blocks_left a' b' c' + 1
one_block_less a b c a' b' c' h k l = omega arith
