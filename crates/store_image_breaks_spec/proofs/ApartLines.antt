-- Of a draft a lifeline shows its rows apart just where this is found by comparing them.
use Rattle.std.proofs.Common.{◌≡◌, inl, inr, ◌≤◌, true, false, List, [], ◌∷◌, ◌++◌, length}
use Rattle.std.proofs.Common.{refl, subst, arith}
use Rattle.relations_spec.specs.Sets.{In}
use Rattle.relations_spec.proofs.SetLaws.{in_map}
use Rattle.command_codec_spec.proofs.Correctness.{by_test}
use Rattle.store_image_spec.specs.Images.{StoredLine, Image}
use Rattle.store_image_spec.specs.Reader.{has_apart}
use Rattle.store_image_spec.proofs.Apartness.{apart_at_starts, apart_always}
use Rattle.store_image_spec.proofs.DueLifelines.{due_lifelines}
use Rattle.store_image_breaks_spec.specs.Drafts.{IsDraft, ShowsApart}

pub in_middle : {X : Type 0} (x : X) (xs ys : List X) → In x (xs ++ x ∷ ys)
in_middle x [] ys = inl refl
in_middle x (y ∷ xs) ys = inr (in_middle x xs ys)

has_column : (i : Image) → IsDraft i → (l : StoredLine) → In l i.lines → 1 ≤ length l.cells
has_column i h l j =
    let due = due_lifelines i.versions h.evolved h.named in
    let s = (due.0 l.line (subst (In l.line) h.lines
    (in_map (λ (x : StoredLine). x.line) l i.lines j))).some in
    let w = (h.each l j).width in
    omega (arith, s, w)

pub shows_apart : (i : Image) → IsDraft i → (l : StoredLine) → In l i.lines → has_apart l ≡ true
    → ShowsApart l
shows_apart i h l j a = λ m x y hx hy e.
    apart_always l.keys l.cells (h.each l j).filled (has_column i h l j) a m x y hx hy e

pub found_apart : (l : StoredLine) → ShowsApart l → has_apart l ≡ true
found_apart l a = apart_at_starts l.keys l.cells a

pub found_twice : (i : Image) → IsDraft i → (l : StoredLine) → In l i.lines
    → (ShowsApart l → ⊥) → has_apart l ≡ false
found_twice i h l j twice = by_test (has_apart l) (λ e. absurd (twice (shows_apart i h l j e)))
    (λ e. e)
