use Rattle.std.proofs.Common.{◌≡◌, ◌≤◌, ◌<◌, ◌^◌, ◌++◌, ⊎_elim, inl, inr, ℕ, List, length}
use Rattle.std.proofs.Common.{length-append, sym, ap, ◌∙◌, subst, arith}
use Rattle.command_codec_spec.specs.Reading.{Unexpected}
use Rattle.store_image_spec.specs.Reader.{image}
use Rattle.store_image_spec.proofs.Places.{Leaves}
use Rattle.store_image_breaks_spec.specs.Breaks.{BreaksAt}
use Rattle.store_image_breaks_spec.proofs.Openly.{open_image}
use Rattle.store_image_breaks_spec.proofs.Within.{shorter, within_image}
use Rattle.store_image_breaks_spec.proofs.Full.{draft_is_full}
use Rattle.store_image_breaks_spec.proofs.StopsInLines.{image_stops}
use Rattle.store_image_breaks_spec.proofs.Drafted.{read_is_draft}
use Rattle.store_image_breaks_spec.proofs.Twice.{image_opens}
use Rattle.store_image_breaks_spec.proofs.TwiceStops.{twice_stops, goes_on}
use Rattle.store_image_breaks_spec.proofs.laws.bytes_break_behind_the_items_of_an_image.Goals as goal

-- no image agrees up to a later place
not_later : (bytes before first more prefix rest : List ℕ) → bytes ≡ before ++ rest
    → bytes ≡ first ++ more → more ≡ prefix ++ rest → length first ≤ length before
not_later bytes before first more prefix rest e f g =
    let a = ap length e ∙ length-append before rest in
    let b = ap length f ∙ length-append first more in
    let c = ap length g ∙ length-append prefix rest in
    omega (arith, a, b, c)

breaks : (bytes rest : List ℕ) → length bytes < 2 ^ 64 → image bytes ≡ Unexpected rest
    → open_image bytes ≡ Unexpected rest → BreaksAt bytes rest
breaks bytes rest few q e =
    let s = image_stops bytes rest e in
    record {
      before = s.first;
      are = s.are;
      image = s.found;
      draft = read_is_draft s.found s.is;
      some = s.begins;
      none = λ i h first more b f.
          (let short = shorter bytes first more f few in
          let at = subst (λ o. Leaves more o) (ap open_image (sym f) ∙ e)
          (within_image i (draft_is_full i h) first more short.0 b) in
          not_later bytes s.first first more at.0 rest s.are f at.1);
      apart = λ other t.
          (let r = sym q ∙ twice_stops bytes other few t in
          let same : rest ≡ other = cc in
          goes_on bytes other few t (subst (λ x. open_image bytes ≡ Unexpected x) same e));
    }

pub returns : goal.returns
returns c = λ bytes rest few e. ⊎_elim (λ opens. inl (breaks bytes rest few e opens))
    (λ twice. inr twice) (image_opens bytes rest e)
