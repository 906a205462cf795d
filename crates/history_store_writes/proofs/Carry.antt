-- What is needed where a change is carried out.
use Rattle.std.proofs.Common.{◌≡◌, true, false, ℕ, zero, suc, ◌+◌, ◌-◌, ◌<◌, ◌≤◌, List, [], ◌∷◌}
use Rattle.std.proofs.Common.{◌++◌, length, get_or, set, drop, refl, sym, ap, ◌∙◌, subst, arith}
use Rattle.std.proofs.Common.{inl, inr}
use Rattle.std.specs.Prelude.{◌/◌, min, max, All, if◌then◌else◌, nat_le}
use Rattle.std.proofs.lemmas.Bool.{cases_lt}
use Rattle.std.proofs.lemmas.Bool.Decides.{nat_tests}
use Rattle.std.proofs.Math.ListN.{length-set, get_or-append}
use Rattle.relations_spec.specs.Spans.{Span}
use Rattle.prima_base.specs.declared.value.Value.{Value}
use Rattle.relations_spec.specs.Sets.{In}
use Rattle.history_store_columns.specs.Log.{Log}
use Rattle.history_store_writes.specs.Logs.{least_spare, with_index}
use Rattle.history_store_row_order.specs.Logs.{few_changed_rows, few_of}
use Rattle.history_store_columns.specs.Keys.{no_span, IsOpen, ended_at}
use Rattle.history_store_writes.specs.Writing.{end_keys, unpaired, new_keys, keys_handed}
use Rattle.history_store_value_order.proofs.Places.{in_get, all_in}

unpaired_is : {A B : Type 0} (xs : List A) (ys : List B)
    → drop (min (length ys) (length xs)) xs ≡ unpaired xs ys
unpaired_is xs [] = let e : min 0 (length xs) ≡ 0 = grind arith in rw e refl
unpaired_is [] (y ∷ ys) = drop_nil _
  where
    drop_nil : {A : Type 0} (n : ℕ) → drop {A = A} n [] ≡ []
    drop_nil zero = refl
    drop_nil (suc n) = refl
unpaired_is (x ∷ xs) (y ∷ ys) = let e : min (length (y ∷ ys)) (length (x ∷ xs))
    ≡ suc (min (length ys) (length xs)) = grind arith in rw e (unpaired_is xs ys)

set-prefix : (keys ys : List Span) (k : ℕ) (p : Span) → k < length keys
    → set (keys ++ ys) k p ≡ set keys k p ++ ys
set-prefix [] ys k p h = absurd (omega arith)
set-prefix (q ∷ keys) ys zero p h = refl
set-prefix (q ∷ keys) ys (suc k) p h = ap (λ r. q ∷ r) (set-prefix keys ys k p (omega arith))

end_keys-prefix : (ids : List ℕ) (stamp : ℕ) (keys ys : List Span)
    → ((q : ℕ) → In q ids → q < length keys) → end_keys ids stamp (keys ++ ys)
    ≡ end_keys ids stamp keys ++ ys
end_keys-prefix [] stamp keys ys b = refl
end_keys-prefix (id ∷ ids) stamp keys ys b =
    let h : id < length keys = b id (inl refl) in
    let p = ended_at stamp (get_or keys id no_span) in
    ap (λ q. end_keys ids stamp (set (keys ++ ys) id (ended_at stamp q)))
    (get_or-append keys ys no_span id h)
    ∙ ap (end_keys ids stamp) (set-prefix keys ys id p h)
    ∙ end_keys-prefix ids stamp (set keys id p) ys
    (λ q i. subst (λ n. q < n) (sym (length-set keys id p)) (b q (inr i)))

unpaired_was : (q : ℕ) (lost : List ℕ) (rows : List (List Value)) → In q (unpaired lost rows)
    → In q lost
unpaired_was q lost [] i = i
unpaired_was q [] (row ∷ rows) i = absurd i
unpaired_was q (id ∷ lost) (row ∷ rows) i = inr (unpaired_was q lost rows i)

pub carried : (keys : List Span) (lost : List ℕ) (gained : List (List Value)) (stamp mid : ℕ)
    → mid ≡ min (length gained) (length lost) → All (λ id. id < length keys) lost
    → end_keys (drop mid lost) stamp keys ++ new_keys stamp (unpaired gained lost)
    ≡ keys_handed keys lost gained stamp
carried keys lost gained stamp mid e a =
    ap (λ ids. end_keys ids stamp keys ++ new_keys stamp (unpaired gained lost))
    (ap (λ n. drop n lost) e ∙ unpaired_is lost gained)
    ∙ sym (end_keys-prefix (unpaired lost gained) stamp keys (new_keys stamp (unpaired gained lost))
    (λ q i. all_in (λ id. id < length keys) lost a q (unpaired_was q lost gained i)))

pub spare_least : (n least : ℕ) (columns : List Log) → n ≤ least_spare least columns → n ≤ least
spare_least n least [] h = h
spare_least n least (c ∷ columns) h = spare_least n least columns (grind arith)

-- room for what is gained, among the keys and in the indexes
module _ (few room n : ℕ) where
  with_room : few ≤ room → with_index few room n ≡ n
  with_room h = let t : nat_le few room ≡ true = grind (arith, nat_tests) in
      ap (λ b. if b then n else min room n) t

  without_room : room < few → with_index few room n ≡ min room n
  without_room h = let t : nat_le few room ≡ false = grind (arith, nat_tests) in
      ap (λ b. if b then n else min room n) t

  no_more : with_index few room n ≤ n
  no_more = elim (cases_lt room few) [
    | inl h ↦ (let e = without_room h in grind (arith))
    | inr h ↦ (let e = with_room h in omega (arith, e))
  ]

  pub index_room : (gained more : ℕ) → gained ≤ with_index few room n → more ≤ gained → more ≤ few
      → more ≤ room
  index_room gained more g m f = elim (cases_lt room few)
      [ inl h ↦ (let e = without_room h in grind (arith)) | inr h ↦ omega (arith, f, h) ]

  pub some_with_index : (more some : ℕ) → some ≡ min more few → some ≤ room → more ≤ n
      → more ≤ with_index few room n
  some_with_index more some q f l = elim (cases_lt room few) [
    | inl h ↦ (let e = without_room h in grind (arith))
    | inr h ↦ (let e = with_room h in omega (arith, e, l))
  ]

pub few_are_few : (rows more : ℕ) → more ≤ few_changed_rows → more ≤ few_of rows
few_are_few rows more h = most few_changed_rows (rows / few_changed_rows) more h
  where
    most : (a b n : ℕ) → n ≤ a → n ≤ max a b
    most a b n h = omega arith

pub key_room : (capacity len few room gained : ℕ) → gained ≤ with_index few room (capacity - len)
    → len ≤ capacity → len + gained ≤ capacity
key_room capacity len few room gained s w = let n = no_more few room (capacity - len) in
    omega (arith, s, w, n)

pub more_with_index : (few a b n m : ℕ) → a ≤ b → n ≤ m → with_index few a n ≤ with_index few b m
more_with_index few a b n m h l = elim (cases_lt b few) [
  | inl q ↦ (let e = without_room few b m q in let f = without_room few a n (omega (arith, h, q)) in
      grind (arith))
  | inr q ↦ (let e = with_room few b m q in let f = no_more few a n in omega (arith, e, f, l))
]

-- more indexes, of which none has less room than is ever asked
pub still_with_index : (few a b n : ℕ) → min few a ≤ b → with_index few a n ≤ with_index few b n
still_with_index few a b n h = elim (cases_lt a few) [
  | inl q ↦ more_with_index few a b n n (grind arith) (omega arith)
  | inr q ↦ (let l : few ≤ b = grind arith in let e = with_room few b n l in let f =
      no_more few a n in omega (arith, e, f))
]

pub spare_each : (n least : ℕ) (columns : List Log) → n ≤ least_spare least columns
    → All (λ c. n ≤ c.spare) columns
spare_each n least [] h k d b = absurd (omega arith)
spare_each n least (c ∷ columns) h zero d b = grind arith
spare_each n least (c ∷ columns) h (suc k) d b =
    spare_each n least columns (grind arith) k d (omega arith)

pub known : (ids lost : List ℕ) (keys : List Span) (n : ℕ) → ids ≡ lost → n ≡ length keys
    → ((q : ℕ) → In q lost → IsOpen keys q) → All (λ id. id < n) ids
known ids lost keys n e l o k d h =
    let i : In (get_or ids k d) lost = subst (λ xs. In (get_or ids k d) xs) e (in_get ids k d h) in
    subst (λ m. get_or ids k d < m) (sym l) (o (get_or ids k d) i).0

pub least_is : (n least : ℕ) (columns : List Log) → n ≤ least → All (λ c. n ≤ c.spare) columns
    → n ≤ least_spare least columns
least_is n least [] h a = h
least_is n least (c ∷ columns) h a =
    let b : n ≤ c.spare = a 0 c (omega arith) in
    let r = least_is n least columns h (λ k d i. a (suc k) d (omega arith)) in
    grind arith
