-- Parts of a list of values that grows, and the rows that stand in them.
use Rattle.std.proofs.Common.{◌≡◌, ◌≤◌, ◌<◌, ◌+◌, ◌^◌, ℕ, suc, List, [], ◌∷◌, ◌++◌, length, take}
use Rattle.std.proofs.Common.{drop, refl, sym, ap, ◌∙◌, subst, arith, map, All}
use Rattle.std.specs.declared.vec.Vec.{Vec}
use Rattle.std.specs.declared.alloc.Global.{Global}
use Rattle.std.proofs.lemmas.List.{take_all, drop-append-le, take-append-le, length-drop}
use Rattle.std.proofs.lemmas.List.{map-append, length-append}
use Rattle.std.proofs.lemmas.List.Elements.{All-head, All-tail, All-append, All-nil, All-cons}
use Rattle.std.proofs.lemmas.List.Elements.{All-weaker, All-map}
use Rattle.relations_spec.specs.Spans.{Span}
use Rattle.prima_base.specs.declared.value.Val.{Val}
use Rattle.prima_base.specs.declared.timed_row.TimedRow.{TimedRow}
use Rattle.prima_base_rows.specs.Rows.{vec_of, row_of}
use Rattle.prima_base_rows.specs.RoomLaws.{short, short_part}
use Rattle.prima_base_rows.specs.declared.place.RowPlace.{RowPlace}
use Rattle.prima_base_rows.specs.Places.{row_at, moved, IsInside}
use native.Mathlib.Bridge.{le_prop}

-- a list of the same values is the same list
pub same_vec : (xs ys : List Val) (p : length xs < 2 ^ 63) (q : length ys < 2 ^ 63) → xs ≡ ys
    → vec_of xs p ≡ vec_of ys q
same_vec xs ys p q e = subst
    (λ (l : List Val). (r : length l < 2 ^ 63) → vec_of xs p ≡ vec_of l r) e
    (λ r. ap (vec_of xs) (le_prop p r)) q

abbrev of_values : Span → Vec Val Global → TimedRow
of_values p v = record { values = v; period = p }

-- and a row of the same values in the same period the same row
pub same_row : (p : Span) (xs ys : List Val) (a : length xs < 2 ^ 63) (b : length ys < 2 ^ 63)
    → xs ≡ ys → of_values p (vec_of xs a) ≡ of_values p (vec_of ys b)
same_row p xs ys a b e = ap (of_values p) (same_vec xs ys a b e)

pub same_rows : (v w : Vec Val Global) (places : List RowPlace) → All (IsInside v.items) places
    → ((place : RowPlace) → IsInside v.items place → row_at v place ≡ row_at w place)
    → map (row_at v) places ≡ map (row_at w) places
same_rows v w [] a h = refl
same_rows v w (place ∷ places) a h =
    let first = h place (All-head (IsInside v.items) place places a) in
    let rest = same_rows v w places (All-tail (IsInside v.items) place places a) h in
    (λ i. first i ∷ rest i)

pub same_list : (v w : Vec Val Global) (places : List RowPlace) → All (IsInside v.items) places
    → w.items ≡ v.items → map (row_at w) places ≡ map (row_at v) places
same_list v w places all is = sym (same_rows v w places all (λ p h. same_row p.period _ _
    (short_part v p.start p.len) (short_part w p.start p.len)
    (ap (λ (l : List Val). take p.len (drop p.start l)) (sym is))))

-- what is put after others leaves their parts as they are
pub stays : (xs ys : List Val) (start len : ℕ) → start + len ≤ length xs
    → take len (drop start xs) ≡ take len (drop start (xs ++ ys))
stays xs ys start len h =
    let rest : len ≤ length (drop start xs) = (let l = length-drop start xs in omega (arith, l)) in
    sym (ap (take len) (drop-append-le start xs ys (omega arith))
    ∙ take-append-le len (drop start xs) ys rest)

past : (xs ys : List Val) (start : ℕ) → drop (length xs + start) (xs ++ ys) ≡ drop start ys
past [] ys start = let e : 0 + start ≡ start = omega arith in ap (λ (n : ℕ). drop n ys) e
past (x ∷ xs) ys start =
    let e : length (x ∷ xs) + start ≡ suc (length xs + start) = omega arith in
    ap (λ (n : ℕ). drop n (x ∷ (xs ++ ys))) e ∙ past xs ys start

pub inside_more : (xs ys : List Val) (place : RowPlace) → IsInside xs place
    → IsInside (xs ++ ys) place
inside_more xs ys place h = let l = length-append xs ys in omega (arith, l)

-- a row of these values, which stand after the others
pub pushed_rows : (v w scratch : Vec Val Global) (places : List RowPlace) (place : RowPlace)
    → All (IsInside v.items) places → w.items ≡ v.items ++ scratch.items
    → place.start ≡ length v.items → place.len ≡ length scratch.items
    → map (row_at w) (places ++ place ∷ []) ≡ map (row_at v) places
    ++ row_of scratch place.period ∷ []
pushed_rows v w scratch places place all is from len =
    let old = same_rows v w places all (λ p h. same_row p.period _ _
    (short_part v p.start p.len) (short_part w p.start p.len)
    (stays v.items scratch.items p.start p.len h
    ∙ ap (λ (l : List Val). take p.len (drop p.start l)) (sym is))) in
    let begin : place.start ≡ length v.items + 0 = omega arith in
    let here : take place.len (drop place.start w.items) ≡ scratch.items =
    ap (λ (l : List Val). take place.len (drop place.start l)) is
    ∙ ap (λ (n : ℕ). take place.len (drop n (v.items ++ scratch.items))) begin
    ∙ ap (take place.len) (past v.items scratch.items 0)
    ∙ take_all place.len scratch.items (omega arith) in
    map-append (row_at w) places (place ∷ [])
    ∙ (λ i. sym old i ++ same_row place.period _ _
    (short_part w place.start place.len) (short scratch) here i ∷ [])

pub pushed_inside : (xs ys : List Val) (places : List RowPlace) (place : RowPlace)
    → All (IsInside xs) places → place.start ≡ length xs → place.len ≡ length ys
    → All (IsInside (xs ++ ys)) (places ++ place ∷ [])
pushed_inside xs ys places place all from len =
    let here : IsInside (xs ++ ys) place = (let l = length-append xs ys in omega (arith, l)) in
    All-append (IsInside (xs ++ ys)) places (place ∷ [])
    (All-weaker (IsInside xs) (IsInside (xs ++ ys)) (inside_more xs ys) places all)
    (All-cons (IsInside (xs ++ ys)) place [] here (All-nil (IsInside (xs ++ ys))))

moved_rows : (v w other : Vec Val Global) (places : List RowPlace)
    → w.items ≡ v.items ++ other.items
    → map (row_at w) (map (moved (length v.items)) places) ≡ map (row_at other) places
moved_rows v w other [] is = refl
moved_rows v w other (place ∷ places) is =
    let first = same_row place.period _ _
    (short_part w (length v.items + place.start) place.len)
    (short_part other place.start place.len)
    (ap (λ (l : List Val). take place.len (drop (length v.items + place.start) l)) is
    ∙ ap (take place.len) (past v.items other.items place.start)) in
    let rest = moved_rows v w other places is in
    (λ i. first i ∷ rest i)

pub appended_rows : (v w other : Vec Val Global) (places others : List RowPlace)
    → All (IsInside v.items) places → w.items ≡ v.items ++ other.items
    → map (row_at w) (places ++ map (moved (length v.items)) others)
    ≡ map (row_at v) places ++ map (row_at other) others
appended_rows v w other places others all is =
    let old = same_rows v w places all (λ p h. same_row p.period _ _
    (short_part v p.start p.len) (short_part w p.start p.len)
    (stays v.items other.items p.start p.len h
    ∙ ap (λ (l : List Val). take p.len (drop p.start l)) (sym is))) in
    map-append (row_at w) places (map (moved (length v.items)) others)
    ∙ (λ i. sym old i ++ moved_rows v w other others is i)

pub appended_inside : (xs ys : List Val) (places others : List RowPlace)
    → All (IsInside xs) places → All (IsInside ys) others
    → All (IsInside (xs ++ ys)) (places ++ map (moved (length xs)) others)
appended_inside xs ys places others all more =
    All-append (IsInside (xs ++ ys)) places (map (moved (length xs)) others)
    (All-weaker (IsInside xs) (IsInside (xs ++ ys)) (inside_more xs ys) places all)
    (All-map (IsInside (xs ++ ys)) (moved (length xs)) others
    (All-weaker (IsInside ys) (λ p. IsInside (xs ++ ys) (moved (length xs) p))
    (λ p h. (let l = length-append xs ys in omega (arith, l))) others more))
