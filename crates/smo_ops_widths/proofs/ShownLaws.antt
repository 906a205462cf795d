-- Widths of the code as finite maps.
use Rattle.std.proofs.Common.{◌≡◌, ◌+◌, ◌≤◌, ℕ, zero, suc, Bool, true, false, List, [], ◌∷◌, map}
use Rattle.std.proofs.Common.{length, drop}
use Rattle.std.proofs.Common.{refl, sym, ap, subst, ◌∙◌, arith}
use Rattle.std.specs.Prelude.{cond, ◌||◌, if◌then◌else◌, Option, Some, None, slice_get}
use Rattle.std.specs.Option.{option_map}
use Rattle.std.specs.Map.{lookup}
use Rattle.std.specs.BTreeMap.{is_at}
use Rattle.std.specs.Cmp.{eq_by_cmp_equiv}
use Rattle.std.specs.FinMap.{get, find, remove, get-insert}
use Rattle.std.specs.FinMap.{get-remove}
use Rattle.std.specs.FinMap.{get-from_entries, entries}
use Rattle.std.specs.Cmp.Lexicographic.{nat_list_cmp_total}
use Rattle.std.proofs.lemmas.Option.{slice_get_within, get_or_from_slice_get}
use Rattle.prima_base.specs.Order.{bytes_cmp}
use Rattle.prima_base.specs.Columns.{Column}
use Rattle.schema_catalog.specs.Tables.{Tables}
use Rattle.smo_ops_spec.specs.Preconditions.{among}
use Rattle.smo_ops_spec.specs.Checks.{pair_names}
use Rattle.smo_ops_spec.proofs.Firsts.{drop_at}
use Rattle.smo_ops_widths.specs.Widths.{Width, Widths, put_width, own_width, own_widths}
use Rattle.smo_ops_widths.specs.declared.width.TableWidth.{TableWidth}
use Rattle.smo_ops_widths.specs.Counted.{AreAlike, MayBeAlike}
use Rattle.smo_ops_widths.specs.Shown.{width_of, seen, Show}

abbrev Entries : Type 0
Entries = List (List ℕ × TableWidth)

abbrev at : Entries → List ℕ → Option TableWidth
at es q = lookup (is_at (bytes_cmp q)) es

turned : (n q : List ℕ) → is_at (bytes_cmp n) q ≡ is_at (bytes_cmp q) n
turned n q = (eq_by_cmp_equiv nat_list_cmp_total).symm n q

pub show_less : (es fs : Entries) (n : List ℕ) (shown : Widths)
    → ((q : List ℕ) → lookup (is_at (bytes_cmp q)) fs
    ≡ cond (is_at (bytes_cmp n) q) None (lookup (is_at (bytes_cmp q)) es))
    → Show es shown → Show fs (remove shown n)
show_less es fs n shown h s q =
    subst (λ (o : Option TableWidth). MayBeAlike (option_map width_of o) (get (remove shown n) q))
    (sym (h q ∙ ap (λ (b : Bool). cond b None (at es q)) (turned n q)))
    (subst (λ (o : Option Width). MayBeAlike (option_map width_of
    (cond (is_at (bytes_cmp q) n) None (at es q))) o)
    (sym (get-remove nat_list_cmp_total shown n q)) (step (is_at (bytes_cmp q) n)))
  where
    step : (b : Bool) → MayBeAlike (option_map width_of (cond b None (at es q)))
        (cond b None (get shown q))
    step true = tt
    step false = s q

pub put_at : (shown : Widths) (n : List ℕ) (w : Option Width) (q : List ℕ)
    → get (put_width n w shown) q ≡ cond (is_at (bytes_cmp q) n) w (get shown q)
put_at shown n None q = get-remove nat_list_cmp_total shown n q
put_at shown n (Some w) q = get-insert nat_list_cmp_total shown n w q

pub show_more : (es fs : Entries) (n : List ℕ) (x : Option TableWidth) (w : Option Width)
    (shown : Widths) → MayBeAlike (option_map width_of x) w
    → ((q : List ℕ) → lookup (is_at (bytes_cmp q)) fs
    ≡ cond (is_at (bytes_cmp n) q) x (lookup (is_at (bytes_cmp q)) es))
    → Show es shown → Show fs (put_width n w shown)
show_more es fs n x w shown m h s q =
    subst (λ (o : Option TableWidth). MayBeAlike (option_map width_of o)
    (get (put_width n w shown) q))
    (sym (h q ∙ ap (λ (b : Bool). cond b x (at es q)) (turned n q)))
    (subst (λ (o : Option Width). MayBeAlike (option_map width_of
    (cond (is_at (bytes_cmp q) n) x (at es q))) o)
    (sym (put_at shown n w q)) (step (is_at (bytes_cmp q) n)))
  where
    step : (b : Bool) → MayBeAlike (option_map width_of (cond b x (at es q)))
        (cond b w (get shown q))
    step true = m
    step false = s q

-- ---- tables that are read from their own version

abbrev pub own_or : Bool → Option Width → Option Width
own_or b w = if b then Some own_width else w

own_found : (ts : List (List ℕ × List Column)) (n : List ℕ)
    → find bytes_cmp n (map (λ (t : List ℕ × List Column). (t.0, own_width)) ts)
    ≡ own_or (among n (pair_names ts)) None
own_found [] n = refl
own_found (t ∷ ts) n = step (own_found ts n) (is_at (bytes_cmp n) t.0)
  where
    step : find bytes_cmp n (map (λ (u : List ℕ × List Column). (u.0, own_width)) ts)
        ≡ own_or (among n (pair_names ts)) None → (b : Bool) → cond b (Some own_width)
        (find bytes_cmp n (map (λ (u : List ℕ × List Column). (u.0, own_width)) ts))
        ≡ own_or (b || among n (pair_names ts)) None
    step more true = refl
    step more false = more

pub own_at : (tables : Tables) (n : List ℕ) → get (own_widths tables) n
    ≡ own_or (among n (pair_names (entries tables))) None
own_at tables n = get-from_entries nat_list_cmp_total
    (map (λ (t : List ℕ × List Column). (t.0, own_width)) (entries tables)) n
    ∙ own_found (entries tables) n

-- one more has its own width
pub own_more : (es fs : Entries) (t : List ℕ × List Column) (rest : List (List ℕ × List Column))
    (x : TableWidth) → AreAlike (width_of x) own_width
    → ((q : List ℕ) → lookup (is_at (bytes_cmp q)) fs
    ≡ cond (is_at (bytes_cmp t.0) q) (Some x) (lookup (is_at (bytes_cmp q)) es))
    → (n : List ℕ) (w : Option Width)
    → MayBeAlike (own_or (among n (pair_names (t ∷ rest))) (seen es n)) w
    → MayBeAlike (own_or (among n (pair_names rest)) (seen fs n)) w
own_more es fs t rest x a h n w m =
    subst (λ (o : Option TableWidth). MayBeAlike (own_or (among n (pair_names rest))
    (option_map width_of o)) w) (sym (h n ∙ ap (λ (b : Bool). cond b (Some x) (at es n))
    (turned t.0 n))) (step (is_at (bytes_cmp n) t.0) (among n (pair_names rest)) w m)
  where
    alike_own : (v : Option Width) → MayBeAlike (Some own_width) v
        → MayBeAlike (Some (width_of x)) v
    alike_own None k = k
    alike_own (Some v) k = record {
      pieces = a.pieces ∙ k.pieces;
      atoms = a.atoms ∙ k.atoms;
      cond = a.cond ∙ k.cond;
      size = λ c. a.size c ∙ k.size c;
    }

    step : (b c : Bool) (v : Option Width) → MayBeAlike (own_or (b || c) (seen es n)) v
        → MayBeAlike (own_or c (option_map width_of (cond b (Some x) (at es n)))) v
    step true true v k = k
    step true false v k = alike_own v k
    step false true v k = k
    step false false v k = k

-- ---- lists, place by place

pub drop_there : {X : Type 0} (xs : List X) (i : ℕ) (x : X) → slice_get xs i ≡ Some x
    → drop i xs ≡ x ∷ drop (i + 1) xs
drop_there xs i x e = drop_at xs i x (slice_get_within xs i x e)
    (sym (get_or_from_slice_get xs i x x e))

pub none_left : {X : Type 0} (xs : List X) (i : ℕ) → length xs ≤ i → drop i xs ≡ []
none_left [] zero l = refl
none_left [] (suc i) l = refl
none_left (x ∷ xs) zero l = absurd (omega (arith, l))
none_left (x ∷ xs) (suc i) l = none_left xs i (omega (arith, l))

pub itself : (w : Option Width) → MayBeAlike w w
itself None = tt
itself (Some a) = record { pieces = refl; atoms = refl; cond = refl; size = λ n. refl }
