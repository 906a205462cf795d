-- What is written part by part stands after what was there as one text.
use Rattle.std.proofs.Common.{◌≡◌, ℕ, List, ◌++◌, sym, ap, ◌∙◌}
use Rattle.std.proofs.lemmas.List.{append_assoc}

pub one_more : (o p q a b : List ℕ) → p ≡ o ++ a → q ≡ p ++ b → q ≡ o ++ (a ++ b)
one_more o p q a b e f = f ∙ ap (λ x. x ++ b) e ∙ append_assoc o a b

pub two_more : (o p q a b c : List ℕ) → p ≡ o ++ a → q ≡ p ++ (b ++ c) → q ≡ o ++ (a ++ b ++ c)
two_more o p q a b c e f = one_more o p q a (b ++ c) e f
    ∙ ap (λ x. o ++ x) (sym (append_assoc a b c))
