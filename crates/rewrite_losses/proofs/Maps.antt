-- A map of the code as a finite map, and a table's loss by its parts.
use Rattle.std.proofs.Common.{◌≡◌, ℕ, Bool, true, false, List, [], ◌∷◌, refl, sym, ap, ◌∙◌}
use Rattle.std.specs.Prelude.{cond, Option, Some, None, is_some}
use Rattle.std.specs.Map.{lookup}
use Rattle.std.specs.BTreeMap.{is_at}
use Rattle.std.specs.Cmp.{eq_by_cmp_equiv}
use Rattle.std.specs.FinMap.{FinMap, get, find, insert, remove, from_entries, get-insert}
use Rattle.std.specs.FinMap.{get-remove, get-empty, get-from_entries, same_map}
use Rattle.std.specs.FinMap.{slice_cmp-IsAntisymmetric, nat_cmp-IsAntisymmetric}
use Rattle.std.specs.Cmp.Lexicographic.{nat_list_cmp_total}
use Rattle.prima_base.specs.Order.{bytes_cmp}
use Rattle.smo_ops_spec.specs.Losses.{Loss}
use Rattle.smo_ops_versions_spec.specs.ColumnLosses.{TableLoss, whole_loss, lost_columns}
use Rattle.rewrite_losses.specs.TableLosses.{shown_loss}

module _ {X : Type 0} where
  abbrev pub at : List (List ℕ × X) → List ℕ → Option X
  at es q = lookup (is_at (bytes_cmp q)) es

  find_is : (es : List (List ℕ × X)) (q : List ℕ)
      → find bytes_cmp q es ≡ lookup (is_at (bytes_cmp q)) es
  find_is [] q = refl
  find_is (e ∷ es) q = ap (cond (is_at (bytes_cmp q) e.0) (Some e.1)) (find_is es q)

  pub get_is : (es : List (List ℕ × X)) (q : List ℕ)
      → get (from_entries {R = bytes_cmp} es) q ≡ lookup (is_at (bytes_cmp q)) es
  get_is es q = get-from_entries nat_list_cmp_total es q ∙ find_is es q

  pub one_lost : (es fs : List (List ℕ × X)) (n : List ℕ) (x : X)
      → ((q : List ℕ) → at fs q ≡ cond (is_at (bytes_cmp n) q) (Some x) (at es q))
      → from_entries {R = bytes_cmp} fs ≡ insert (from_entries es) n x
  one_lost es fs n x h = same_map nat_list_cmp_total
      (slice_cmp-IsAntisymmetric nat_cmp-IsAntisymmetric) _ _ (λ q.
      get_is fs q ∙ h q ∙ ap (λ b. cond b (Some x) (at es q))
      ((eq_by_cmp_equiv nat_list_cmp_total).symm n q)
      ∙ sym (get-insert nat_list_cmp_total (from_entries es) n x q
      ∙ ap (cond (is_at (bytes_cmp q) n) (Some x)) (get_is es q)))

  pub one_kept : (es fs : List (List ℕ × X)) (n : List ℕ)
      → ((q : List ℕ) → at fs q ≡ cond (is_at (bytes_cmp n) q) None (at es q))
      → from_entries {R = bytes_cmp} fs ≡ remove (from_entries es) n
  one_kept es fs n h = same_map nat_list_cmp_total
      (slice_cmp-IsAntisymmetric nat_cmp-IsAntisymmetric) _ _ (λ q.
      get_is fs q ∙ h q ∙ ap (λ b. cond b None (at es q))
      ((eq_by_cmp_equiv nat_list_cmp_total).symm n q)
      ∙ sym (get-remove nat_list_cmp_total (from_entries es) n q
      ∙ ap (cond (is_at (bytes_cmp q) n) None) (get_is es q)))

-- ---- a table's loss

module _ (t : TableLoss) (lost : FinMap bytes_cmp Loss) where
  pub whole_is : (w : Option Loss) → shown_loss w lost ≡ t → w ≡ whole_loss (Some t)
  whole_is None e = ap (λ (x : TableLoss). whole_loss (Some x)) e
  whole_is (Some l) e = ap (λ (x : TableLoss). whole_loss (Some x)) e

  pub none_of_whole : (w : Option Loss) → shown_loss w lost ≡ t → is_some w ≡ true → (n : List ℕ)
      → ◌≡◌ {A = Option Loss} None (get (lost_columns (Some t)) n)
  none_of_whole None e h n = absurd (cc)
  none_of_whole (Some l) e h n = sym (get-empty bytes_cmp n)
      ∙ ap (λ (x : TableLoss). get (lost_columns (Some x)) n) e

  pub columns_are : (w : Option Loss) → shown_loss w lost ≡ t → is_some w ≡ false
      → lost ≡ lost_columns (Some t)
  columns_are None e h = ap (λ (x : TableLoss). lost_columns (Some x)) e
  columns_are (Some l) e h = absurd (cc)

  pub not_whole : (w : Option Loss) → shown_loss w lost ≡ t → whole_loss (Some t) ≡ None
      → w ≡ None
  not_whole w e h = whole_is w e ∙ h

-- ---- one entry taken out, and put again

pub anew : {X : Type 0} (m : FinMap bytes_cmp X) (t : List ℕ) (x : X)
    → insert (remove m t) t x ≡ insert m t x
anew {X} m t x = same_map nat_list_cmp_total (slice_cmp-IsAntisymmetric nat_cmp-IsAntisymmetric) _ _
    (λ q. get-insert nat_list_cmp_total (remove m t) t x q
    ∙ ap (λ (o : Option X). cond (is_at (bytes_cmp q) t) (Some x) o)
    (get-remove nat_list_cmp_total m t q)
    ∙ step (is_at (bytes_cmp q) t) (get m q)
    ∙ sym (get-insert nat_list_cmp_total m t x q))
  where
    step : (b : Bool) (o : Option X) → cond b (Some x) (cond b None o) ≡ cond b (Some x) o
    step true o = refl
    step false o = refl
