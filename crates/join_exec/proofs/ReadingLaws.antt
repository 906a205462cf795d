-- What is read depends on which columns are named alone.
use Rattle.std.proofs.Common.{◌≡◌, ◌+◌, ℕ, Bool, true, cond, List, [], ◌∷◌, length, ap, ◌∙◌, arith}
use Rattle.std.specs.Prelude.{◌==◌, ◌↔◌}
use Rattle.relations_spec.specs.Sets.{set_of}
use Rattle.cond_expr.specs.declared.expr.ColRef.{ColRef}
use Rattle.cond_expr.specs.declared.expr.Whose.TheVariants.{Atom}
use Rattle.history_store.specs.Store.{Store, column_of}
use Rattle.plain_answers_spec.specs.Naming.{IsNamed, names_in, names_at}
use Rattle.plain_answers_spec.proofs.NameLaws.{names_alike}
use Rattle.join_exec.specs.Reading.{reads, count_in}

pub none_read : (s : Store) (i : ℕ) → reads s (names_at i []) ≡ length s.keys
unfolding set_of
none_read s i = omega arith

one_name : (s : Store) (r : ColRef) → reads s (names_in (r ∷ []))
    ≡ length s.keys + count_in (column_of s r.name)
unfolding set_of
one_name s r = omega arith

pub one_read : (s : Store) (i : ℕ) (name : List ℕ)
    → reads s (names_at i (record { whose = Atom i; name = name } ∷ []))
    ≡ length s.keys + count_in (column_of s name)
one_read s i name =
    ap (λ (b : Bool). reads s (names_in (cond b (record { whose = Atom i; name = name } ∷ []) [])))
    (itself i)
    ∙ one_name s (record { whose = Atom i; name = name })
  where
    itself : (j : ℕ) → (j == j) ≡ true
    itself j = grind (arith)

pub same_read : (s : Store) (i : ℕ) (a b : List ColRef)
    → ((name : List ℕ) → IsNamed i a name ↔ IsNamed i b name)
    → reads s (names_at i a) ≡ reads s (names_at i b)
same_read s i a b h = ap (reads s) (names_alike i a b h)
