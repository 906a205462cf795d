-- What is found where the first of entries is at hand.
use Rattle.std.proofs.Common.{◌≡◌, ℕ, Bool, true, false, List, ◌∷◌, refl, ap, sym, subst, ◌∙◌}
use Rattle.std.specs.Prelude.{cond, Option, Some, None}
use Rattle.std.specs.Option.{option_map}
use Rattle.std.specs.FinMap.{get, remove}
use Rattle.std.specs.BTreeMap.{is_at}
use Rattle.std.specs.Cmp.{eq_by_cmp_equiv}
use Rattle.std.specs.Cmp.Lexicographic.{nat_list_cmp_total}
use Rattle.prima_base.specs.Order.{bytes_cmp}
use Rattle.prima_base.specs.OrderLaws.{same_is}
use Rattle.smo_ops_widths.specs.declared.width.TableWidth.{TableWidth}
use Rattle.smo_ops_widths.specs.Widths.{Widths}
use Rattle.smo_ops_widths.specs.Counted.{MayBeAlike}
use Rattle.smo_ops_widths.specs.Shown.{width_of, Show}
use Rattle.smo_ops_widths.specs.AtHand.{Entry, width_at}
use Rattle.smo_ops_widths.proofs.ShownLaws.{show_less}

abbrev is : List ℕ → List ℕ → Bool
is n q = is_at (bytes_cmp n) q

turned : (n q : List ℕ) → is n q ≡ is q n
turned n q = (eq_by_cmp_equiv nat_list_cmp_total).symm n q

module _ (es fs : List Entry) (named name : List ℕ) (w : TableWidth)
    (h : (q : List ℕ) → width_at q fs ≡ cond (is_at (bytes_cmp name) q) None (width_at q es)) where
  -- the one at hand goes
  pub hand_gone : is_at (bytes_cmp name) named ≡ true → (q : List ℕ)
      → width_at q fs ≡ cond (is_at (bytes_cmp name) q) None (width_at q ((named, w) ∷ es))
  hand_gone t q = h q ∙ step (is name q) refl
    where
      step : (b : Bool) → is name q ≡ b → cond b None (width_at q es)
          ≡ cond b None (cond (is q named) (Some w) (width_at q es))
      step true e = refl
      step false e = sym (ap (λ (c : Bool). cond c (Some w) (width_at q es))
          (turned q named ∙ sym (ap (λ (m : List ℕ). is m q) (same_is name named t)) ∙ e))

  -- it stays, where it has another name
  pub hand_stays : is_at (bytes_cmp name) named ≡ false → (q : List ℕ)
      → width_at q ((named, w) ∷ fs)
      ≡ cond (is_at (bytes_cmp name) q) None (width_at q ((named, w) ∷ es))
  hand_stays f q = ap (λ (o : Option TableWidth). cond (is q named) (Some w) o) (h q)
      ∙ step (is q named) refl
    where
      other : is q named ≡ true → is name q ≡ false
      other t = ap (is name) (same_is q named t) ∙ f

      step : (b : Bool) → is q named ≡ b
          → cond b (Some w) (cond (is name q) None (width_at q es))
          ≡ cond (is name q) None (cond b (Some w) (width_at q es))
      step true t = sym (ap (λ (c : Bool). cond c None (Some w)) (other t))
      step false e = refl

-- one is put at hand
module _ (es : List Entry) (name m : List ℕ) (w : TableWidth) (e : m ≡ name) where
  pub put_first : (q : List ℕ) → width_at q ((m, w) ∷ es)
      ≡ cond (is_at (bytes_cmp name) q) (Some w) (width_at q es)
  put_first q = ap (λ (b : Bool). cond b (Some w) (width_at q es))
      (turned q m ∙ ap (λ (n : List ℕ). is n q) e)

  pub put_before : (fs : List Entry) (named : List ℕ) (old : TableWidth)
      → ((q : List ℕ) → width_at q fs ≡ cond (is_at (bytes_cmp named) q) (Some old) (width_at q es))
      → (q : List ℕ) → width_at q ((m, w) ∷ fs)
      ≡ cond (is_at (bytes_cmp name) q) (Some w) (width_at q ((named, old) ∷ es))
  put_before fs named old h q =
      ap (λ (o : Option TableWidth). cond (is q m) (Some w) o)
      (h q ∙ ap (λ (b : Bool). cond b (Some old) (width_at q es)) (turned named q))
      ∙ ap (λ (b : Bool). cond b (Some w) (width_at q ((named, old) ∷ es)))
      (turned q m ∙ ap (λ (n : List ℕ). is n q) e)

-- in place of one of its name
pub put_again : (es : List Entry) (named name : List ℕ) (old w : TableWidth)
    → is_at (bytes_cmp name) named ≡ true → (q : List ℕ) → width_at q ((named, w) ∷ es)
    ≡ cond (is_at (bytes_cmp name) q) (Some w) (width_at q ((named, old) ∷ es))
put_again es named name old w t q = step (is q named)
    ∙ ap (λ (b : Bool). cond b (Some w) (width_at q ((named, old) ∷ es)))
    (turned q named ∙ sym (ap (λ (n : List ℕ). is n q) (same_is name named t)))
  where
    step : (b : Bool) → cond b (Some w) (width_at q es)
        ≡ cond b (Some w) (cond b (Some old) (width_at q es))
    step true = refl
    step false = refl

-- in their places among the others
pub put_back : (es fs : List Entry) (named : List ℕ) (w : TableWidth)
    → ((q : List ℕ) → width_at q fs ≡ cond (is_at (bytes_cmp named) q) (Some w) (width_at q es))
    → (q : List ℕ) → width_at q fs ≡ width_at q ((named, w) ∷ es)
put_back es fs named w h q = h q
    ∙ ap (λ (b : Bool). cond b (Some w) (width_at q es)) (turned named q)

-- what is taken out is what was shown, and is shown no more
pub taken_out : (es fs : List Entry) (n : List ℕ) (o : Option TableWidth) (shown : Widths)
    → o ≡ width_at n es
    → ((q : List ℕ) → width_at q fs ≡ cond (is_at (bytes_cmp n) q) None (width_at q es))
    → Show es shown → MayBeAlike (option_map width_of o) (get shown n) × Show fs (remove shown n)
taken_out es fs n o shown e h s = (
  subst (λ (p : Option TableWidth). MayBeAlike (option_map width_of p) (get shown n)) (sym e) (s n),
  show_less es fs n shown h s,
)
