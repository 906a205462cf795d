-- Lines that are put one after the other, and what stands after them.
use Rattle.std.proofs.Common.{◌≡◌, ℕ, List, [], ◌++◌, sym, ap, ◌∙◌, subst, append-nil, append_assoc}
use Rattle.std.specs.Prelude.{Option}
use Rattle.std.specs.Io.KnownBytes.{Appends}
use Rattle.std.proofs.KnownBytes.{Appends-trans}
use Rattle.prima_io.specs.Moves.{AppendsPrefix, AppendsLess}
use Rattle.prima_io.proofs.Prefixes.{of_less, after, longer}

module _ (a b c : Option (List ℕ)) (sent said text : List ℕ) (before : Appends a b sent) where
  -- the next line was put
  pub line_put : Appends b c said → Appends a c (sent ++ said)
  line_put p = Appends-trans a b c sent said before p

  -- or the sink failed in it
  pub line_failed : (more : List ℕ) → text ≡ sent ++ (said ++ more) → AppendsLess b c said
      → AppendsPrefix a c text
  line_failed more e p = subst (AppendsPrefix a c) (sym (e ∙ sym (append_assoc sent said more)))
      (longer a c (sent ++ said) more (after a b c sent said before (of_less b c said p)))

  -- the last line was put
  pub end_put : text ≡ sent ++ said → Appends b c said → Appends a c text
  end_put e p = subst (Appends a c) (sym e) (line_put p)

  pub end_failed : text ≡ sent ++ said → AppendsLess b c said → AppendsPrefix a c text
  end_failed e p = line_failed [] (e ∙ ap (λ (t : List ℕ). sent ++ t) (sym (append-nil said))) p
