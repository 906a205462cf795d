-- A scan that follows the links.
use Rattle.std.proofs.Common.{◌≡◌, ◌≢◌, ℕ, suc, zero, ◌+◌, ◌<◌, ◌≤◌, true, List, [], ◌∷◌, ◌++◌}
use Rattle.std.proofs.Common.{length, get_or, drop, refl, sym, ap, ◌∙◌, subst, arith, inl, inr}
use Rattle.std.proofs.Common.{◌==◌}
use Rattle.std.proofs.lemmas.Bool.Decides.{nat_tests}
use Rattle.std.proofs.lemmas.Bool.{cases_lt}
use Rattle.std.proofs.lemmas.List.{drop_more}
use Rattle.std.proofs.Math.ListN.{drop_of_length-le}
use Rattle.relations_spec.specs.Spans.{Span}
use Rattle.history_store_columns.specs.Log.{Write}
use Rattle.history_store_columns.specs.Keys.{no_span}
use Rattle.history_store_columns.specs.Chains.{of_id, id_at, IsChain}
use Rattle.history_store_columns.specs.Entries.{entry, with_ends, entries_from, Climbs, Fits}
use Rattle.history_store_columns.specs.Entries.{IsHistory}
use Rattle.history_store_columns.specs.ScanFields.{rest_of, Goes, IsAt}

id_is : (cells : List Write) (p : ℕ) (d : Write) → p < length cells
    → id_at cells p ≡ (get_or cells p d).id
id_is [] p d h = absurd (omega arith)
id_is (c ∷ cells) zero d h = refl
id_is (c ∷ cells) (suc p) d h = id_is cells p d (omega arith)

taken_here : (id at : ℕ) (cells : List Write) (d : Write) → at < length cells → id_at cells at ≡ id
    → of_id id (drop at cells) ≡ get_or cells at d ∷ of_id id (drop (at + 1) cells)
taken_here id at cells d h e =
    let i : (get_or cells at d).id ≡ id = sym (id_is cells at d h) ∙ e in
    let t : ((get_or cells at d).id == id) ≡ true = grind (arith, nat_tests) in
    ap (of_id id) (drop_more cells at d h) ∙ rw t refl

goes_of : (key : Span) (cells : List Write) → Fits key cells → Goes key.end cells
goes_of key [] f = absurd f
goes_of key (c ∷ cells) f = f.1

-- from the first place of an id
module _ (keys : List Span) (first next : List ℕ) (cells : List Write)
    (k : IsChain first next cells) (n : length first ≡ length keys) (w : IsHistory keys cells) where
  pub from_first : (id : ℕ) → rest_of id (get_or first id 0) (drop id keys) cells
      ≡ entries_from id (drop id keys) cells
  from_first id = elim (cases_lt id (length keys)) [
    | inl l ↦
        let g = k.starts id (subst (λ m. id < m) (sym n) l) in
        let e = drop_more keys id no_span l in
        ap (λ ks. rest_of id (get_or first id 0) ks cells) e
        ∙ ap (λ cs. with_ends (get_or keys id no_span).end cs
        ++ entries_from (id + 1) (drop (id + 1) keys) cells) (sym g.1)
        ∙ ap (λ ks. entries_from id ks cells) (sym e)
    | inr l ↦ let e = drop_of_length-le keys l in rw e refl
  ]

  pub at_first : (id : ℕ) → id ≤ length keys → IsAt id (get_or first id 0) keys first next cells
  at_first id l = record {
    chain = k;
    each = n;
    history = w;
    within = l;
    here = λ h. (let g = k.starts id (subst (λ m. id < m) (sym n) h) in (
      g.0,
      g.2,
      subst (Goes (get_or keys id no_span).end) g.1
          (goes_of (get_or keys id no_span) (of_id id cells) (w.fits id h)),
    ));
  }

module _ (id at : ℕ) (keys : List Span) (first next : List ℕ) (cells : List Write) (d f : Write)
    (s : IsAt id at keys first next cells) (h : id < length keys) where
  here : of_id id (drop at cells) ≡ get_or cells at d ∷ of_id id (drop (at + 1) cells)
  here = let a = s.here h in taken_here id at cells d a.0 a.1

  after : get_or next at 0 ≢ 0 → of_id id (drop (at + 1) cells)
      ≡ of_id id (drop (get_or next at 0) cells)
  after n = let a = s.here h in let g = s.chain.goes at a.0 n in
      subst (λ i. of_id i (drop (at + 1) cells) ≡ of_id i (drop (get_or next at 0) cells)) a.1 g.1

  onward : get_or next at 0 ≢ 0 → of_id id (drop (get_or next at 0) cells)
      ≡ get_or cells (get_or next at 0) f ∷ of_id id (drop (get_or next at 0 + 1) cells)
  onward n = let a = s.here h in let g = s.chain.goes at a.0 n in
      taken_here id (get_or next at 0) cells f g.0 (g.2 ∙ a.1)

  both : get_or next at 0 ≢ 0 → of_id id (drop at cells) ≡ get_or cells at d
      ∷ (get_or cells (get_or next at 0) f ∷ of_id id (drop (get_or next at 0 + 1) cells))
  both n = here ∙ ap (λ cs. get_or cells at d ∷ cs) (after n ∙ onward n)

  climbs : get_or next at 0 ≢ 0 → Climbs (get_or cells at d).start (get_or keys id no_span).end
      (get_or cells (get_or next at 0) f ∷ of_id id (drop (get_or next at 0 + 1) cells))
  climbs n = subst (Goes (get_or keys id no_span).end) (both n) (s.here h).2

  pub cell_goes : get_or next at 0 ≢ 0 → (get_or cells at d).start <
      (get_or cells (get_or next at 0) f).start
  cell_goes n = (climbs n).0

  pub scan_goes : get_or next at 0 ≢ 0 → rest_of id at (drop id keys) cells
      ≡ entry (get_or cells at d) (get_or cells (get_or next at 0) f).start
      ∷ rest_of id (get_or next at 0) (drop id keys) cells
  scan_goes n =
      let e = drop_more keys id no_span h in
      ap (λ ks. rest_of id at ks cells) e
      ∙ ap (λ cs. with_ends (get_or keys id no_span).end cs
      ++ entries_from (id + 1) (drop (id + 1) keys) cells) (both n)
      ∙ ap (λ cs. entry (get_or cells at d) (get_or cells (get_or next at 0) f).start
      ∷ (with_ends (get_or keys id no_span).end cs
      ++ entries_from (id + 1) (drop (id + 1) keys) cells)) (sym (onward n))
      ∙ ap (λ cs. entry (get_or cells at d) (get_or cells (get_or next at 0) f).start ∷ cs)
      (sym (ap (λ ks. rest_of id (get_or next at 0) ks cells) e))

  pub at_goes : get_or next at 0 ≢ 0 → IsAt id (get_or next at 0) keys first next cells
  at_goes n = record {
    chain = s.chain;
    each = s.each;
    history = s.history;
    within = s.within;
    here = λ b. (let a = s.here h in let g = s.chain.goes at a.0 n in
        (g.0, g.2 ∙ a.1, subst (Goes (get_or keys id no_span).end) (sym (onward n)) (climbs n).1));
  }

  alone : get_or next at 0 ≡ 0 → of_id id (drop at cells) ≡ get_or cells at d ∷ []
  alone z =
      let a = s.here h in
      here ∙ ap (λ cs. get_or cells at d ∷ cs)
      (subst (λ i. of_id i (drop (at + 1) cells) ≡ []) a.1 (s.chain.ends at a.0 z))

  pub cell_ends : get_or next at 0 ≡ 0 → (get_or cells at d).start < (get_or keys id no_span).end
  cell_ends z = let c : Climbs (get_or cells at d).start (get_or keys id no_span).end [] =
      subst (Goes (get_or keys id no_span).end) (alone z) (s.here h).2 in c

  pub scan_ends : get_or next at 0 ≡ 0 → rest_of id at (drop id keys) cells
      ≡ entry (get_or cells at d) (get_or keys id no_span).end
      ∷ rest_of (id + 1) (get_or first (id + 1) 0) (drop (id + 1) keys) cells
  scan_ends z =
      let e = drop_more keys id no_span h in
      ap (λ ks. rest_of id at ks cells) e
      ∙ ap (λ cs. with_ends (get_or keys id no_span).end cs
      ++ entries_from (id + 1) (drop (id + 1) keys) cells) (alone z)
      ∙ ap (λ cs. entry (get_or cells at d) (get_or keys id no_span).end ∷ cs)
      (sym (from_first keys first next cells s.chain s.each s.history (id + 1)))

  pub at_ends : IsAt (id + 1) (get_or first (id + 1) 0) keys first next cells
  at_ends = at_first keys first next cells s.chain s.each s.history (id + 1) (omega arith)
