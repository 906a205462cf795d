-- The names of an atom's columns are those of the references to it.
use Rattle.std.proofs.Common.{◌≡◌, ℕ, true, List, ap, subst, ◌∙◌, arith}
use Rattle.std.specs.Prelude.{◌==◌, ◌↔◌}
use Rattle.std.specs.List.{filter}
use Rattle.std.proofs.lemmas.Bool.Decides.{nat_tests}
use Rattle.relations_spec.specs.Sets.{In}
use Rattle.relations_spec.proofs.SetLaws.{in_map, from_map, in_filter, from_filter, in_set}
use Rattle.relations_spec.proofs.SetLaws.{from_set}
use Rattle.relations_spec.proofs.SetLaws.{set_same}
use Rattle.prima_base.specs.Order.{bytes_cmp}
use Rattle.prima_base.specs.OrderLaws.{bytes_exact}
use Rattle.cond_expr.specs.declared.expr.ColRef.{ColRef}
use Rattle.cond_expr.specs.declared.expr.Whose.{Whose}
use Rattle.cond_expr.specs.declared.expr.Whose.TheVariants.{Free, Alias, Atom}
use Rattle.plain_answers_spec.specs.Naming.{is_atom, is_to, IsNamed, written_names, names_at}

itself : (i : ℕ) → (i == i) ≡ true
itself i = grind (arith)

to_atom : (i : ℕ) (w : Whose) → is_atom i w ≡ true → w ≡ Atom i
to_atom i Free e = absurd (cc)
to_atom i (Alias a) e = absurd (cc)
to_atom i (Atom j) e = let same : j ≡ i = grind (arith, nat_tests) in ap Atom same

pub in_names_at : (i : ℕ) (rs : List ColRef) (n : List ℕ) → IsNamed i rs n → In n (names_at i rs)
in_names_at i rs n m =
    in_set bytes_cmp bytes_exact n (written_names (filter (is_to i) rs))
    (in_map (λ (r : ColRef). r.name) (record { whose = Atom i; name = n }) (filter (is_to i) rs)
    (in_filter (is_to i) (record { whose = Atom i; name = n }) rs m (itself i)))

pub from_names_at : (i : ℕ) (rs : List ColRef) (n : List ℕ) → In n (names_at i rs) → IsNamed i rs n
from_names_at i rs n m =
    let f = from_map (λ (r : ColRef). r.name) n (filter (is_to i) rs)
    (from_set bytes_cmp bytes_exact n (written_names (filter (is_to i) rs)) m) in
    let k = from_filter (is_to i) f.0 rs f.1 in
    let same : f.0 ≡ record { whose = Atom i; name = n } =
    ap (λ (w : Whose). record { whose = w; name = f.0.name }) (to_atom i f.0.whose k.1)
    ∙ ap (λ (x : List ℕ). record { whose = Atom i; name = x }) f.2 in
    subst (λ (r : ColRef). In r rs) same k.0

pub names_alike : (i : ℕ) (a b : List ColRef) → ((n : List ℕ) → IsNamed i a n ↔ IsNamed i b n)
    → names_at i a ≡ names_at i b
names_alike i a b h =
    set_same bytes_cmp bytes_exact (written_names (filter (is_to i) a))
    (written_names (filter (is_to i) b)) (record {
      there = λ n m. as_written b n ((h n).0 (from_names_at i a n
          (in_set bytes_cmp bytes_exact n (written_names (filter (is_to i) a)) m)));
      back = λ n m. as_written a n ((h n).1 (from_names_at i b n
          (in_set bytes_cmp bytes_exact n (written_names (filter (is_to i) b)) m)));
    })
  where
    as_written : (rs : List ColRef) (n : List ℕ) → IsNamed i rs n
        → In n (written_names (filter (is_to i) rs))
    as_written rs n m = from_set bytes_cmp bytes_exact n (written_names (filter (is_to i) rs))
        (in_names_at i rs n m)
