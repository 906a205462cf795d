-- Laws of what is left of the entries of columns.
use Rattle.std.proofs.Common.{◌≡◌, ◌⊎◌, ◌<◌, ◌≤◌, ◌+◌, ℕ, Bool, true, false, List, [], ◌∷◌, ◌++◌}
use Rattle.std.specs.Prelude.{Option, Some, None, MatchOption, IfSome, option_to_list, option_map}
use Rattle.std.proofs.Common.{sym, map, length, get_or, zero, suc, refl, ap, ◌∙◌, subst, inl, inr}
use Rattle.std.proofs.Common.{arith}
use Rattle.std.proofs.lemmas.Bool.Decides.{nat_tests}
use Rattle.relations_spec.specs.Sets.{In}
use Rattle.relations_spec.specs.Spans.{covers}
use Rattle.relations_spec.proofs.Held.{covers_is}
use Rattle.prima_base.specs.declared.value.Value.{Value}
use Rattle.prima_base.specs.declared.value.Val.{Val}
use Rattle.prima_base.specs.Order.{shown, IsBorrowed}
use Rattle.prima_base.specs.Columns.{IsValid}
use Rattle.history_store_columns.specs.Scans.{seen_cell}
use Rattle.history_store_columns.specs.declared.scan.CellEntry.{CellEntry}
use Rattle.history_store_spec.specs.Store.{Cell}
use Rattle.join_exec.specs.Entries.{Has, HasRow, Precedes, PrecedesAll, InTurn, AllInTurn}
use Rattle.join_exec.specs.Walking.{is_past, IsFrom, IsLeft, AreLeft, BeginsOn, IsHeldUntil}

-- what the test means
pub past_is : (id m : ℕ) (c : Cell) → is_past id m c ≡ true
    → (c.id < id) ⊎ ((c.id ≡ id) × (c.period.end ≤ m))
past_is id m c e = grind (arith, nat_tests)

pub on_is : (id m : ℕ) (c : Cell) → is_past id m c ≡ false → IsFrom id (m + 1) c.id c.period.end
on_is id m c e = grind (arith, nat_tests)

-- what comes from a moment on
pub from_itself : (id m : ℕ) → IsFrom id m id m
from_itself id m = inr (refl, omega arith)

pub from_later : (id m i n j o : ℕ) → IsFrom id m i n → IsFrom i n j o → IsFrom id m j o
from_later id m i n j o (inl h) (inl k) = inl (omega arith)
from_later id m i n j o (inl h) (inr k) = let e = k.0 in inl (omega arith)
from_later id m i n j o (inr h) (inl k) = let e = h.0 in inl (omega arith)
from_later id m i n j o (inr h) (inr k) =
    let a = h.1 in
    let b = k.1 in
    inr (h.0 ∙ k.0, omega arith)

pub next_from : (id m : ℕ) → IsFrom id m (id + 1) 0
next_from id m = inl (omega arith)

-- all are left at first
pub all_are_left : (id m : ℕ) (cells : List Cell) → InTurn cells → IsLeft id m cells cells
all_are_left id m cells t = record {
  turn = t;
  has = λ i n v f h. h;
  only = λ i n v h. h;
}

pub each_is_left : (id m : ℕ) (columns : List (List Cell)) → AllInTurn columns
    → AreLeft id m columns columns
each_is_left id m [] t = tt
each_is_left id m (cells ∷ columns) t = (
  all_are_left id m cells t.0,
  each_is_left id m columns t.1,
)

-- one entry less
less_has : (id m i n : ℕ) (c : Cell) (cells : List Cell) (v : Value) → is_past id m c ≡ true
    → IsFrom id m i n → Has (c ∷ cells) i v n → Has cells i v n
less_has id m i n c cells v p f (d, inl e, s, x, t) = absurd (by (past_is id m c p) f)
  where
    same : c.id ≡ i
    same = ap (λ (w : Cell). w.id) e ∙ s

    held : covers c.period n ≡ true
    held = ap (λ (w : Cell). covers w.period n) e ∙ t

    by : (c.id < id) ⊎ ((c.id ≡ id) × (c.period.end ≤ m)) → IsFrom id m i n → ⊥
    by (inl a) (inl b) = omega (arith, same)
    by (inl a) (inr b) = omega (arith, same, b.0)
    by (inr a) (inl b) = omega (arith, same, a.0)
    by (inr a) (inr b) =
        let u = (covers_is c.period n).0 held in
        omega (arith, a.1, b.1, u.1)
less_has id m i n c cells v p f (d, inr k, s, x, t) = (d, k, s, x, t)

pub one_less : (id m : ℕ) (all : List Cell) (c : Cell) (cells : List Cell) → is_past id m c ≡ true
    → IsLeft id m all (c ∷ cells) → IsLeft id m all cells
one_less id m all c cells p l = record {
  turn = l.turn.1;
  has = λ i n v f h. less_has id m i n c cells v p f (l.has i n v f h);
  only = λ i n v h. l.only i n v (h.0, inr h.1, h.2, h.3, h.4);
}

-- what is left of what was left
pub left_of_left : (id m i n : ℕ) (a b c : List Cell) → IsFrom id m i n → IsLeft id m a b
    → IsLeft i n b c → IsLeft i n a c
left_of_left id m i n a b c f l r = record {
  turn = r.turn;
  has = λ j o v g h. r.has j o v g (l.has j o v (from_later id m i n j o f g) h);
  only = λ j o v h. l.only j o v (r.only j o v h);
}

pub each_left_of_left : (id m i n : ℕ) (a b c : List (List Cell)) → IsFrom id m i n
    → AreLeft id m a b → AreLeft i n b c → AreLeft i n a c
each_left_of_left id m i n [] [] [] f l r = tt
each_left_of_left id m i n [] [] (z ∷ c) f l r = absurd r
each_left_of_left id m i n [] (y ∷ b) c f l r = absurd l
each_left_of_left id m i n (x ∷ a) [] c f l r = absurd l
each_left_of_left id m i n (x ∷ a) (y ∷ b) [] f l r = absurd r
each_left_of_left id m i n (x ∷ a) (y ∷ b) (z ∷ c) f l r = (
  left_of_left id m i n x y z f l.0 r.0,
  each_left_of_left id m i n a b c f l.1 r.1,
)

-- from a later moment on
pub left_later : (id m i n : ℕ) (a b : List (List Cell)) → IsFrom id m i n → AreLeft id m a b
    → AreLeft i n a b
left_later id m i n [] [] f l = tt
left_later id m i n [] (y ∷ b) f l = absurd l
left_later id m i n (x ∷ a) [] f l = absurd l
left_later id m i n (x ∷ a) (y ∷ b) f l = (
  left_of_left id m i n x y y f l.0 (all_are_left i n y l.0.turn),
  left_later id m i n a b f l.1,
)

pub left_turn : (id m : ℕ) (a b : List (List Cell)) → AreLeft id m a b → AllInTurn b
left_turn id m [] [] l = tt
left_turn id m [] (y ∷ b) l = absurd l
left_turn id m (x ∷ a) [] l = absurd l
left_turn id m (x ∷ a) (y ∷ b) l = (l.0.turn, left_turn id m a b l.1)

-- a row that is had of all is had of what is left, and the other way
pub row_left : (id m i n : ℕ) (a b : List (List Cell)) (row : List Value) → IsFrom id m i n
    → AreLeft id m a b → HasRow a i row n → HasRow b i row n
row_left id m i n [] [] [] f l h = tt
row_left id m i n [] [] (v ∷ row) f l h = absurd h
row_left id m i n [] (y ∷ b) row f l h = absurd l
row_left id m i n (x ∷ a) [] row f l h = absurd l
row_left id m i n (x ∷ a) (y ∷ b) [] f l h = absurd h
row_left id m i n (x ∷ a) (y ∷ b) (v ∷ row) f l h = (
  l.0.has i n v f h.0,
  row_left id m i n a b row f l.1 h.1,
)

pub row_of_left : (id m i n : ℕ) (a b : List (List Cell)) (row : List Value) → AreLeft id m a b
    → HasRow b i row n → HasRow a i row n
row_of_left id m i n [] [] [] l h = tt
row_of_left id m i n [] [] (v ∷ row) l h = absurd h
row_of_left id m i n [] (y ∷ b) row l h = absurd l
row_of_left id m i n (x ∷ a) [] row l h = absurd l
row_of_left id m i n (x ∷ a) (y ∷ b) [] l h = absurd h
row_of_left id m i n (x ∷ a) (y ∷ b) (v ∷ row) l h = (
  l.0.only i n v h.0,
  row_of_left id m i n a b row l.1 h.1,
)

-- one column more
pub left_more : (id m : ℕ) (a b : List (List Cell)) (x y : List Cell) → AreLeft id m a b
    → IsLeft id m x y → AreLeft id m (a ++ x ∷ []) (b ++ y ∷ [])
left_more id m [] [] x y l k = (k, tt)
left_more id m [] (z ∷ b) x y l k = absurd l
left_more id m (w ∷ a) [] x y l k = absurd l
left_more id m (w ∷ a) (z ∷ b) x y l k = (l.0, left_more id m a b x y l.1 k)

pub row_more : (id n : ℕ) (columns : List (List Cell)) (row : List Value) (cells : List Cell)
    (v : Value) → HasRow columns id row n → Has cells id v n
    → HasRow (columns ++ cells ∷ []) id (row ++ v ∷ []) n
row_more id n [] [] cells v h k = (k, tt)
row_more id n [] (w ∷ row) cells v h k = absurd h
row_more id n (x ∷ columns) [] cells v h k = absurd h
row_more id n (x ∷ columns) (w ∷ row) cells v h k = (h.0, row_more id n columns row cells v h.1 k)

-- so many values as columns
pub row_wide : (id n : ℕ) (columns : List (List Cell)) (row : List Value) → HasRow columns id row n
    → length row ≡ length columns
row_wide id n [] [] h = refl
row_wide id n [] (v ∷ row) h = absurd h
row_wide id n (x ∷ columns) [] h = absurd h
row_wide id n (x ∷ columns) (v ∷ row) h = let e = row_wide id n columns row h.1 in omega arith

-- the value of a column, of those from some place on
pub column_value : (id n : ℕ) (columns : List (List Cell)) (row : List Value) (k : ℕ)
    (d : List Cell) → HasRow columns id row n → k < length columns
    → (v : Value) × Has (get_or columns k d) id v n
column_value id n [] row k d h l = absurd (omega arith)
column_value id n (x ∷ columns) [] k d h l = absurd h
column_value id n (x ∷ columns) (v ∷ row) zero d h l = (v, h.0)
column_value id n (x ∷ columns) (v ∷ row) (suc k) d h l =
    column_value id n columns row k d h.1 (omega arith)

pub turn_at : (columns : List (List Cell)) (k : ℕ) (d : List Cell) → AllInTurn columns
    → k < length columns → InTurn (get_or columns k d)
turn_at [] k d t l = absurd (omega arith)
turn_at (x ∷ columns) zero d t l = t.0
turn_at (x ∷ columns) (suc k) d t l = turn_at columns k d t.1 (omega arith)

-- the first entry that is not past is the one that has the moment
each_after : (a : Cell) (bs : List Cell) (b : Cell) → PrecedesAll a bs → In b bs → Precedes a b
each_after a [] b h k = absurd k
each_after a (c ∷ bs) b h (inl e) = subst (λ (w : Cell). Precedes a w) e h.0
each_after a (c ∷ bs) b h (inr k) = each_after a bs b h.1 k

pub none_left : (id m : ℕ) (all : List Cell) (v : Value) → IsLeft id m all [] → Has all id v m → ⊥
none_left id m all v l h = (l.has id m v (from_itself id m) h).1

pub first_has : (id m : ℕ) (all : List Cell) (c : Cell) (cells : List Cell) (v : Value)
    → IsLeft id m all (c ∷ cells) → IsFrom id (m + 1) c.id c.period.end → Has all id v m
    → (m < c.period.end) × ((n : ℕ) → m ≤ n → n < c.period.end → Has all id c.value n)
first_has id m all c cells v l o h = by (l.has id m v (from_itself id m) h)
  where
    held : c.id ≡ id → covers c.period m ≡ true
        → (m < c.period.end) × ((n : ℕ) → m ≤ n → n < c.period.end → Has all id c.value n)
    held s t =
        let u = (covers_is c.period m).0 t in
        let a = u.0 in (
          u.1,
          (λ n f g. l.only id n c.value (
            c,
            inl refl,
            s,
            refl,
            (covers_is c.period n).1 (omega arith, g),
          )),
        )

    later : (d : Cell) → Precedes c d → IsFrom id (m + 1) c.id c.period.end → d.id ≡ id
        → covers d.period m ≡ true → ⊥
    later d (inl p) (inl q) s t = omega (arith, s)
    later d (inl p) (inr q) s t = omega (arith, s, q.0)
    later d (inr p) (inl q) s t = omega (arith, s, p.0)
    later d (inr p) (inr q) s t =
        let u = (covers_is d.period m).0 t in
        omega (arith, p.1, q.1, u.0)

    by : Has (c ∷ cells) id v m
        → (m < c.period.end) × ((n : ℕ) → m ≤ n → n < c.period.end → Has all id c.value n)
    by (d, inl e, s, x, t) = held (ap (λ (w : Cell). w.id) e ∙ s)
        (ap (λ (w : Cell). covers w.period m) e ∙ t)
    by (d, inr k, s, x, t) = absurd (later d (each_after c cells d l.turn.0 k) o s t)

-- the entry that is read after one that is past
pub next_left : (id m : ℕ) (all : List Cell) (head next : Option CellEntry)
    (unread rest : List Cell)
    (b : Bool) → MatchOption head (b ≡ true) (λ e. b ≡ is_past id m (seen_cell e)) → b ≡ true
    → unread ≡ option_to_list (option_map seen_cell next) ++ rest
    → IsLeft id m all (map seen_cell (option_to_list head) ++ unread)
    → IsLeft id m all (map seen_cell (option_to_list next) ++ rest)
next_left id m all None None unread rest b p t e l = subst (IsLeft id m all) e l
next_left id m all None (Some x) unread rest b p t e l = subst (IsLeft id m all) e l
next_left id m all (Some h) None unread rest b p t e l =
    subst (IsLeft id m all) e (one_less id m all (seen_cell h) unread (sym p ∙ t) l)
next_left id m all (Some h) (Some x) unread rest b p t e l =
    subst (IsLeft id m all) e (one_less id m all (seen_cell h) unread (sym p ∙ t) l)

-- there is an entry where the row has a value
pub no_first : (id m : ℕ) (all left : List Cell) (unread : List Cell) (head : Option CellEntry)
    (v : Value) → head ≡ None
    → MatchOption head (left ≡ []) (λ e. left ≡ seen_cell e ∷ unread) → IsLeft id m all left
    → Has all id v m → ⊥
no_first id m all left unread None v i f l h =
    none_left id m all v (subst (IsLeft id m all) f l) h
no_first id m all left unread (Some e) v i f l h = absurd (cc)

-- its value is the one that the row has
pub held_first : (id m : ℕ) (all left unread : List Cell) (head : Option CellEntry)
    (e : CellEntry) (v : Value) (copied : Val) (end : ℕ) → head ≡ Some e
    → MatchOption head (left ≡ []) (λ x. left ≡ seen_cell x ∷ unread) → BeginsOn id m left
    → IsLeft id m all left → IfSome head (λ x. IsValid (shown x.value))
    → IfSome head (λ x. IsBorrowed x.value) → Has all id v m → shown copied ≡ shown e.value
    → (IsBorrowed e.value → IsBorrowed copied) → end ≡ e.period.end
    → IsHeldUntil all id m end copied
held_first id m all left unread None e v copied end i f o l valid held_until h s b n = absurd (cc)
held_first id m all left unread (Some x) e v copied end i f o l valid held_until h s b n =
    let is : x ≡ e = cc in
    let on : IsFrom id (m + 1) x.id x.period.end = subst (BeginsOn id m) f o in
    let r = first_has id m all (seen_cell x) unread v (subst (IsLeft id m all) f l) on h in
    let same : shown x.value ≡ shown copied = ap (λ (w : CellEntry). shown w.value) is ∙ sym s in
    let last : x.period.end ≡ end = ap (λ (w : CellEntry). w.period.end) is ∙ sym n in
    record {
      later = subst (λ w. m < w) last r.0;
      valid = subst IsValid same valid;
      borrowed = b (subst (λ (w : CellEntry). IsBorrowed w.value) is held_until);
      held = λ k p q.
          subst (λ (w : Value). Has all id w k) same (r.1 k p (subst (λ w. k < w) (sym last) q));
    }
