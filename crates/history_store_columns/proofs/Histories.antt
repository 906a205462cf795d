-- The writes of each id fill its key, whatever is put.
use Rattle.std.proofs.Common.{◌≡◌, ◌≢◌, ℕ, ◌+◌, ◌<◌, ◌≤◌, Bool, true, false, List, [], ◌∷◌, ◌++◌}
use Rattle.std.proofs.Common.{length, get_or, set, refl, sym, ap, ◌∙◌, subst, arith, if◌then◌else◌}
use Rattle.std.proofs.Common.{inl, inr, append-nil, length-append, ◌==◌}
use Rattle.std.proofs.lemmas.Bool.Decides.{nat_tests, eqb_tells}
use Rattle.std.proofs.lemmas.Bool.{cases_lt}
use Rattle.std.proofs.lemmas.List.{get_or-set_same, get_or-set_other}
use Rattle.std.proofs.Math.ListN.{length-set, get_or-append}
use Rattle.std.proofs.Math.Seq.{get_or-append_seam}
use Rattle.relations_spec.specs.Sets.{In}
use Rattle.relations_spec.specs.Spans.{Span, span, forever}
use Rattle.relations_spec.proofs.SetLaws.{in_append}
use Rattle.prima_base.specs.declared.value.Value.{Value}
use Rattle.history_store_columns.specs.Log.{Write, over, newest}
use Rattle.history_store_columns.specs.Chains.{of_id}
use Rattle.history_store_columns.specs.Entries.{Climbs, Fits, IsHistory}
use Rattle.history_store_columns.specs.Keys.{no_span, IsOpen, ended_at}
use Rattle.history_store_columns.specs.Puts.{is_value, put}
use Rattle.history_store_columns.proofs.Links.{of_id-append, other_id, same_id}
use Rattle.history_store_columns.proofs.Newest.{over_nil}

abbrev pub written : ℕ → Value → ℕ → Write
written id v stamp = record { id = id; value = v; start = stamp }

-- all from before the stamp
abbrev pub Below : ℕ → List Write → Type 0
Below stamp [] = Unit {0}
Below stamp (c ∷ cells) = (c.start < stamp) × Below stamp cells

pub by_put : (P : List Write → Type 0) (id : ℕ) (v : Value) (stamp : ℕ) (cells : List Write)
    → (is_value v (newest id cells) ≡ true → P cells)
    → (is_value v (newest id cells) ≡ false → P (cells ++ written id v stamp ∷ []))
    → P (put id v stamp cells)
by_put P id v stamp cells kept added = by_case (is_value v (newest id cells)) refl
  where
    by_case : (b : Bool) → is_value v (newest id cells) ≡ b
        → P (if b then cells else cells ++ written id v stamp ∷ [])
    by_case true e = kept e
    by_case false e = added e

pub of_id_other : (j id : ℕ) (v : Value) (stamp : ℕ) (cells : List Write) → id ≢ j
    → of_id j (put id v stamp cells) ≡ of_id j cells
of_id_other j id v stamp cells n =
    by_put (λ cs. of_id j cs ≡ of_id j cells) id v stamp cells (λ e. refl)
    (λ e. of_id-append j cells (written id v stamp ∷ [])
    ∙ ap (λ cs. of_id j cells ++ cs) (other_id j (written id v stamp) n)
    ∙ append-nil (of_id j cells))

pub of_id_more : (id : ℕ) (v : Value) (stamp : ℕ) (cells : List Write)
    → of_id id (cells ++ written id v stamp ∷ []) ≡ of_id id cells ++ written id v stamp ∷ []
of_id_more id v stamp cells = of_id-append id cells (written id v stamp ∷ [])
    ∙ ap (λ cs. of_id id cells ++ cs) (same_id id (written id v stamp) refl)

climbs_more : (from to : ℕ) (cells : List Write) (c : Write) → Climbs from to cells → from < c.start
    → Below c.start cells → c.start < to → Climbs from to (cells ++ c ∷ [])
climbs_more from to [] c h f b l = (f, l)
climbs_more from to (d ∷ cells) c h f b l = (h.0, climbs_more d.start to cells c h.1 b.0 b.1 l)

climbs_to : (from to stamp : ℕ) (cells : List Write) → Climbs from to cells → from < stamp
    → Below stamp cells → Climbs from stamp cells
climbs_to from to stamp [] h f b = f
climbs_to from to stamp (d ∷ cells) h f b = (h.0, climbs_to d.start to stamp cells h.1 b.0 b.1)

fits_more : (key : Span) (cells : List Write) (c : Write) → Fits key cells → Below c.start cells
    → c.start < key.end → Fits key (cells ++ c ∷ [])
fits_more key [] c f b l = absurd f
fits_more key (d ∷ cells) c f b l = (f.0, climbs_more d.start key.end cells c f.1 b.0 b.1 l)

fits_to : (key : Span) (stamp : ℕ) (cells : List Write) → Fits key cells → Below stamp cells
    → Fits (ended_at stamp key) cells
fits_to key stamp [] f b = absurd f
fits_to key stamp (d ∷ cells) f b = (f.0, climbs_to d.start key.end stamp cells f.1 b.0 b.1)

pub none_known : (k j : ℕ) (cells : List Write) → ((c : Write) → In c cells → c.id < k) → k ≤ j
    → of_id j cells ≡ []
none_known k j [] f l = refl
none_known k j (c ∷ cells) f l =
    let n : c.id < k = f c (inl refl) in
    let t : (c.id == j) ≡ false = grind (arith, nat_tests) in
    rw t (none_known k j cells (λ d i. f d (inr i)) l)

-- the value of the last one
abbrev pub last_value : List Write → List Value
last_value [] = []
last_value (c ∷ cells) = over (last_value cells) (c.value ∷ [])

pub newest_is : (id : ℕ) (cells : List Write) → newest id cells ≡ last_value (of_id id cells)
newest_is id [] = refl
newest_is id (c ∷ cells) =
    let e = newest_is id cells in
    elim (c.id == id) as (λ b. over (newest id cells) (if b then c.value ∷ [] else [])
    ≡ last_value (if b then c ∷ of_id id cells else of_id id cells))
    [ true ↦ ap (λ vs. over vs (c.value ∷ [])) e | false ↦ over_nil (newest id cells) ∙ e ]

pub put_new : (id : ℕ) (v : Value) (stamp : ℕ) (cells : List Write) → of_id id cells ≡ []
    → put id v stamp cells ≡ cells ++ written id v stamp ∷ []
put_new id v stamp cells e = let n : newest id cells ≡ [] = newest_is id cells ∙ ap last_value e in
    rw n refl

pub history_old : (keys : List Span) (cells : List Write) (id : ℕ) (v : Value) (stamp : ℕ)
    → IsHistory keys cells → IsOpen keys id → Below stamp (of_id id cells) → stamp < forever
    → IsHistory keys (put id v stamp cells)
history_old keys cells id v stamp h o b l = by_put (IsHistory keys) id v stamp cells (λ e. h)
    (λ e. record { known = known; fits = fits })
  where
    known : (c : Write) → In c (cells ++ written id v stamp ∷ []) → c.id < length keys
    known c i = elim (in_append c cells (written id v stamp ∷ []) i) [
      | inl j ↦ h.known c j
      | inr (inl e) ↦ subst (λ (w : Write). w.id < length keys) e o.0
      | inr (inr j) ↦ absurd j
    ]

    fits : (j : ℕ) → j < length keys → Fits (get_or keys j no_span)
        (of_id j (cells ++ written id v stamp ∷ []))
    fits j k = elim (eqb_tells id j) [
      | inl e ↦
          subst (λ n. Fits (get_or keys n no_span) (of_id n (cells ++ written id v stamp ∷ []))) e.1
          (subst (Fits (get_or keys id no_span)) (sym (of_id_more id v stamp cells))
          (fits_more (get_or keys id no_span) (of_id id cells) (written id v stamp)
          (h.fits id o.0) b (subst (λ n. stamp < n) (sym o.1) l)))
      | inr n ↦ subst (Fits (get_or keys j no_span))
          (sym (of_id-append j cells (written id v stamp ∷ [])
          ∙ ap (λ cs. of_id j cells ++ cs) (other_id j (written id v stamp) n.1)
          ∙ append-nil (of_id j cells))) (h.fits j k)
    ]

pub history_new : (keys : List Span) (cells : List Write) (v : Value) (stamp : ℕ)
    → IsHistory keys cells → stamp < forever → IsHistory (keys ++ span stamp forever ∷ [])
    (put (length keys) v stamp cells)
history_new keys cells v stamp h l =
    let none : of_id (length keys) cells ≡ [] =
    none_known (length keys) (length keys) cells h.known (omega arith) in
    subst (IsHistory (keys ++ span stamp forever ∷ []))
    (sym (put_new (length keys) v stamp cells none))
    (record { known = known; fits = fits none })
  where
    long : length (keys ++ span stamp forever ∷ []) ≡ length keys + 1
    long = length-append keys (span stamp forever ∷ [])

    known : (c : Write) → In c (cells ++ written (length keys) v stamp ∷ [])
        → c.id < length (keys ++ span stamp forever ∷ [])
    known c i = subst (λ n. c.id < n) (sym long)
        (elim (in_append c cells (written (length keys) v stamp ∷ []) i) [
          | inl j ↦ let k = h.known c j in omega (arith, k)
          | inr (inl e) ↦ subst (λ (w : Write). w.id < length keys + 1) e (omega arith)
          | inr (inr j) ↦ absurd j
        ])

    fits : of_id (length keys) cells ≡ [] → (j : ℕ) → j < length (keys ++ span stamp forever ∷ [])
        → Fits (get_or (keys ++ span stamp forever ∷ []) j no_span)
        (of_id j (cells ++ written (length keys) v stamp ∷ []))
    fits none j k =
        let k' : j < length keys + 1 = subst (λ n. j < n) long k in
        elim (cases_lt j (length keys)) [
          | inl b ↦
              let n : length keys ≢ j = (λ e. omega (arith, e, b)) in
              rw (get_or-append keys (span stamp forever ∷ []) no_span j b)
              (subst (Fits (get_or keys j no_span))
              (sym (of_id-append j cells (written (length keys) v stamp ∷ [])
              ∙ ap (λ cs. of_id j cells ++ cs) (other_id j (written (length keys) v stamp) n)
              ∙ append-nil (of_id j cells))) (h.fits j b))
          | inr b ↦
              let e : length keys ≡ j = omega arith in
              let here : of_id (length keys) (cells ++ written (length keys) v stamp ∷ [])
              ≡ written (length keys) v stamp ∷ [] = of_id_more (length keys) v stamp cells
              ∙ ap (λ cs. cs ++ written (length keys) v stamp ∷ []) none in
              subst (λ n. Fits (get_or (keys ++ span stamp forever ∷ []) n no_span)
              (of_id n (cells ++ written (length keys) v stamp ∷ []))) e
              (rw (get_or-append_seam keys (span stamp forever) [] no_span, here) (refl, l))
        ]

pub history_ended : (keys : List Span) (cells : List Write) (id stamp : ℕ) → IsHistory keys cells
    → id < length keys → Below stamp (of_id id cells)
    → IsHistory (set keys id (ended_at stamp (get_or keys id no_span))) cells
history_ended keys cells id stamp h o b = record {
  known = λ c i.
      subst (λ n. c.id < n) (sym long) (h.known c i);
  fits = fits;
}
  where
    long : length (set keys id (ended_at stamp (get_or keys id no_span))) ≡ length keys
    long = length-set keys id (ended_at stamp (get_or keys id no_span))

    fits : (j : ℕ) → j < length (set keys id (ended_at stamp (get_or keys id no_span)))
        → Fits (get_or (set keys id (ended_at stamp (get_or keys id no_span))) j no_span)
        (of_id j cells)
    fits j k = elim (eqb_tells j id) [
      | inl e ↦ subst (λ n. Fits (get_or (set keys id (ended_at stamp (get_or keys id no_span))) n
          no_span) (of_id n cells)) (sym e.1)
          (rw (get_or-set_same keys id (ended_at stamp (get_or keys id no_span)) no_span o)
          (fits_to (get_or keys id no_span) stamp (of_id id cells) (h.fits id o) b))
      | inr n ↦ rw (get_or-set_other keys id j (ended_at stamp (get_or keys id no_span)) no_span
          n.1) (h.fits j (subst (λ n. j < n) long k))
    ]
