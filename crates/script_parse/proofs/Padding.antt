-- A clean tail is blanks and comments alone.
use Rattle.std.proofs.Common.{◌≡◌, ℕ, Bool, true, false, List, [], ◌∷◌, ◌++◌, refl, arith, sym, ap}
use Rattle.std.proofs.Common.{subst, ◌∙◌, append_assoc, append-nil, inl, inr}
use Rattle.std.specs.Prelude.{◌==◌, ◌||◌, ◌&&◌, ◌⊎◌, cond}
use Rattle.std.proofs.lemmas.Bool.Decides.{nat_tests}
use Rattle.lexer_spec.specs.Bytes.{is_blank}
use Rattle.script_parse.specs.Script.{next, is_quiet, all_quiet, mode_after, is_settled}
use Rattle.script_parse.specs.Script.{is_clean}
use Rattle.script_parse.specs.Pads.{has_line_end, ArePads, none, blank, comment, last}
use Rattle.script_parse.specs.declared.mode.Mode.{Mode}
use Rattle.script_parse.specs.declared.mode.Mode.TheVariants.{Plain, Dash, Quoted, Comment}

both : (a b : Bool) → (a && b) ≡ true → (a ≡ true) × (b ≡ true)
both true b h = (refl, h)
both false b h = absurd (cc)

same_number : (n b : ℕ) → (b == n) ≡ true → b ≡ n
same_number n b e = grind (arith, nat_tests)

blanks : (b : ℕ) → is_blank b ≡ true → (b ≡ 32) ⊎ ((b ≡ 9) ⊎ ((b ≡ 10) ⊎ (b ≡ 13)))
blanks b h = by (b == 32) (b == 9) (b == 10) (b == 13) refl refl refl refl h
  where
    by : (p q r s : Bool) → (b == 32) ≡ p → (b == 9) ≡ q → (b == 10) ≡ r → (b == 13) ≡ s
        → (p || (q || (r || s))) ≡ true → (b ≡ 32) ⊎ ((b ≡ 9) ⊎ ((b ≡ 10) ⊎ (b ≡ 13)))
    by true q r s ep eq er es k = inl (same_number 32 b ep)
    by false true r s ep eq er es k = inr (inl (same_number 9 b eq))
    by false false true s ep eq er es k = inr (inr (inl (same_number 10 b er)))
    by false false false true ep eq er es k = inr (inr (inr (same_number 13 b es)))
    by false false false false ep eq er es k = absurd (cc)

no_line_end : (text : List ℕ) (b : ℕ) → has_line_end text ≡ false → (b == 10) ≡ false
    → has_line_end (text ++ b ∷ []) ≡ false
no_line_end [] b h e = rw e refl
no_line_end (x ∷ text) b h e =
    elim (x == 10) as (λ v. (v || has_line_end text) ≡ false
    → (v || has_line_end (text ++ b ∷ [])) ≡ false) [
      | true ↦ λ w. w
      | false ↦ λ w. no_line_end text b w e
    ] h

-- what is left to read, after what leaves it in a mode
abbrev Meaning : Mode → List ℕ → Type 0
Meaning Plain t = ArePads t
Meaning Dash t = ArePads (45 ∷ t)
Meaning Quoted t = Unit {0}
Meaning Comment t = (text : List ℕ) → has_line_end text ≡ false → ArePads (45 ∷ 45 ∷ text ++ t)

abbrev Reads : List ℕ → Mode → Type 0
Reads t m = all_quiet m t ≡ true → is_settled (mode_after m t) ≡ true → Meaning m t

plain : (b : ℕ) (t : List ℕ) → ((m : Mode) → Reads t m) → Reads (b ∷ t) Plain
plain b t more q s = elim (b == 45) as (λ v. (b == 45) ≡ v → (is_blank b || v) ≡ true
    → ArePads (b ∷ t)) [
      | true ↦ λ e k. subst (λ n. Reads (n ∷ t) Plain) (sym (same_number 45 b e)) (more Dash) q s
      | false ↦ λ e k. elim (blanks b (or_left (is_blank b) k)) [
        | inl e ↦ subst (λ n. Reads (n ∷ t) Plain) (sym e)
            (λ q s. blank 32 t refl (more Plain q s)) q s
        | inr (inl e) ↦ subst (λ n. Reads (n ∷ t) Plain) (sym e)
            (λ q s. blank 9 t refl (more Plain q s)) q s
        | inr (inr (inl e)) ↦ subst (λ n. Reads (n ∷ t) Plain) (sym e)
            (λ q s. blank 10 t refl (more Plain q s)) q s
        | inr (inr (inr e)) ↦ subst (λ n. Reads (n ∷ t) Plain) (sym e)
            (λ q s. blank 13 t refl (more Plain q s)) q s
      ]
    ] refl (both (is_quiet Plain b) (all_quiet (next Plain b) t) q).0
  where
    or_left : (a : Bool) → (a || false) ≡ true → a ≡ true
    or_left true h = refl
    or_left false h = h

dash : (b : ℕ) (t : List ℕ) → ((m : Mode) → Reads t m) → Reads (b ∷ t) Dash
dash b t more q s =
    let e : b ≡ 45 = same_number 45 b (both (is_quiet Dash b) (all_quiet (next Dash b) t) q).0 in
    subst (λ n. Reads (n ∷ t) Dash) (sym e) (λ q s. more Comment q s [] refl) q s

in_comment : (b : ℕ) (t : List ℕ) → ((m : Mode) → Reads t m) → Reads (b ∷ t) Comment
in_comment b t more q s text h =
    elim (b == 10) as (λ v. (b == 10) ≡ v → all_quiet (cond v Plain Comment) t ≡ true
    → is_settled (mode_after (cond v Plain Comment) t) ≡ true
    → ArePads (45 ∷ 45 ∷ text ++ b ∷ t)) [
      | true ↦ λ e q s. subst (λ n. ArePads (45 ∷ 45 ∷ text ++ n ∷ t)) (sym (same_number 10 b e))
          (comment text t h (more Plain q s))
      | false ↦ λ e q s. subst ArePads (ap (λ l. 45 ∷ 45 ∷ l) (append_assoc text (b ∷ []) t))
          (more Comment q s (text ++ b ∷ []) (no_line_end text b h e))
    ] refl q s

read : (t : List ℕ) (m : Mode) → Reads t m
read [] Plain q s = none
read [] Dash q s = absurd (cc)
read [] Quoted q s = tt
read [] Comment q s = λ text h. subst ArePads (ap (λ l. 45 ∷ 45 ∷ l) (sym (append-nil text)))
    (last text h)
read (b ∷ t) Plain q s = plain b t (read t) q s
read (b ∷ t) Dash q s = dash b t (read t) q s
read (b ∷ t) Quoted q s = tt
read (b ∷ t) Comment q s = in_comment b t (read t) q s

pub clean_is_pads : (t : List ℕ) → is_clean t ≡ true → ArePads t
clean_is_pads t h = let parts = both (all_quiet Plain t) (is_settled (mode_after Plain t)) h in
    read t Plain parts.0 parts.1

-- and back
through : (text rest : List ℕ) → has_line_end text ≡ false
    → (all_quiet Comment (text ++ rest) ≡ all_quiet Comment rest)
    × (mode_after Comment (text ++ rest) ≡ mode_after Comment rest)
through [] rest h = (refl, refl)
through (x ∷ text) rest h =
    elim (x == 10) as (λ v. (v || has_line_end text) ≡ false
    → (all_quiet (cond v Plain Comment) (text ++ rest) ≡ all_quiet Comment rest)
    × (mode_after (cond v Plain Comment) (text ++ rest) ≡ mode_after Comment rest)) [
      | true ↦ λ w. absurd (cc)
      | false ↦ λ w. through text rest w
    ] h

stays : (text : List ℕ) → has_line_end text ≡ false → (all_quiet Comment text ≡ true)
    × (mode_after Comment text ≡ Comment)
stays text h = subst (λ (l : List ℕ). (all_quiet Comment l ≡ true)
    × (mode_after Comment l ≡ Comment)) (append-nil text) (through text [] h)

blank_first : (b : ℕ) (t : List ℕ) → is_blank b ≡ true → is_clean t ≡ true → is_clean (b ∷ t) ≡ true
blank_first b t h k = elim (blanks b h) [
  | inl e ↦ subst (λ n. is_clean (n ∷ t) ≡ true) (sym e) k
  | inr (inl e) ↦ subst (λ n. is_clean (n ∷ t) ≡ true) (sym e) k
  | inr (inr (inl e)) ↦ subst (λ n. is_clean (n ∷ t) ≡ true) (sym e) k
  | inr (inr (inr e)) ↦ subst (λ n. is_clean (n ∷ t) ≡ true) (sym e) k
]

pub pads_are_clean : (t : List ℕ) → ArePads t → is_clean t ≡ true
pads_are_clean t none = refl
pads_are_clean t (blank b rest h more) = blank_first b rest h (pads_are_clean rest more)
pads_are_clean t (comment text rest h more) =
    let over = through text (10 ∷ rest) h in
    ap (λ q. q && is_settled (mode_after Comment (text ++ 10 ∷ rest))) over.0
    ∙ ap (λ m. all_quiet Plain rest && is_settled m) over.1 ∙ pads_are_clean rest more
pads_are_clean t (last text h) =
    let over = stays text h in
    ap (λ q. q && is_settled (mode_after Comment text)) over.0 ∙ ap is_settled over.1
