-- What a write adds to what a crash may leave.
use Rattle.std.proofs.Common.{◌≡◌, inl, inr, ℕ, ◌+◌, ◌-◌, ◌<◌, ◌≤◌, min, max, List, ◌++◌, length}
use Rattle.std.proofs.Common.{get_or, take, drop, sym, ◌∙◌, ap, arith, append_assoc}
use Rattle.std.specs.Prelude.{Some}
use Rattle.std.proofs.lemmas.Bool.{cases_lt}
use Rattle.std.proofs.lemmas.List.{take_all, drop_all, take_at, drop_at, take-take, length-append}
use Rattle.std.proofs.lemmas.List.{length-take, length-drop, get_or_append_left}
use Rattle.std.proofs.lemmas.List.{get_or-append_right, get_or-take, get_or-drop}
use Rattle.disk_model.specs.DeviceCalls.{Torn, with_bytes}
use Rattle.disk_model.specs.Images.{State, after, IsImage}
use Rattle.disk_model.proofs.Shapes.{torn_with, torn_same}

-- a piece of a list as long stands in a range of another
abbrev spliced : List ℕ → ℕ → ℕ → List ℕ → List ℕ
spliced xs at n ys = take at xs ++ (take n (drop at ys) ++ drop (at + n) xs)

module _ (xs ys : List ℕ) (at n : ℕ) (begins : at ≤ length xs) (same : length ys ≡ length xs) where
  prefix : length (take at xs) ≡ at
  prefix = omega (arith, length-take at xs)

  middle : length (take n (drop at ys)) ≡ min n (length xs - at)
  middle = omega (arith, same, length-take n (drop at ys), length-drop at ys)

  length-spliced : length (spliced xs at n ys) ≡ length xs
  length-spliced =
      omega (
        arith,
        prefix,
        middle,
        length-append (take at xs)
            (take n (drop at ys) ++ drop (at + n) xs),
        length-append (take n (drop at ys)) (drop (at + n) xs),
        length-drop (at + n) xs,
      )

  spliced_before : (i : ℕ) → i < at → get_or (spliced xs at n ys) i 0 ≡ get_or xs i 0
  spliced_before i lt =
      get_or_append_left (take at xs) (take n (drop at ys) ++ drop (at + n) xs) 0 i
      (omega (arith, prefix)) ∙ get_or-take at xs i 0 lt

  spliced_within : (i : ℕ) → at ≤ i → i < at + n → i < length xs
      → get_or (spliced xs at n ys) i 0 ≡ get_or ys i 0
  spliced_within i from to lt =
      let j : at + (i - at) ≡ i = omega arith in
      get_or-append_right (take at xs) (take n (drop at ys) ++ drop (at + n) xs) at i 0 prefix from
      ∙ get_or_append_left (take n (drop at ys)) (drop (at + n) xs) 0 (i - at)
      (omega (arith, middle))
      ∙ get_or-take n (drop at ys) (i - at) 0 (omega arith) ∙ get_or-drop at ys (i - at) 0
      ∙ ap (λ k. get_or ys k 0) j

  spliced_after : (i : ℕ) → at + n ≤ i → i < length xs
      → get_or (spliced xs at n ys) i 0 ≡ get_or xs i 0
  spliced_after i from lt =
      let j : at + n + (i - at - n) ≡ i = omega arith in
      get_or-append_right (take at xs) (take n (drop at ys) ++ drop (at + n) xs) at i 0 prefix
      (omega arith)
      ∙ get_or-append_right (take n (drop at ys)) (drop (at + n) xs) n (i - at) 0
      (omega (arith, middle)) (omega arith)
      ∙ get_or-drop (at + n) xs (i - at - n) 0 ∙ ap (λ k. get_or xs k 0) j

  spliced_prefix : take at (spliced xs at n ys) ≡ take at xs
  spliced_prefix = take_at (take at xs) (take n (drop at ys) ++ drop (at + n) xs) at prefix

  spliced_back : drop (at + n) (spliced xs at n ys) ≡ drop (at + n) xs
  spliced_back = elim (cases_lt (length xs) (at + n)) [
    | inl past ↦
        drop_all (at + n) (spliced xs at n ys) (omega (arith, length-spliced))
        ∙ sym (drop_all (at + n) xs (omega arith))
    | inr within ↦
        ap (λ (l : List ℕ). drop (at + n) l)
        (sym (append_assoc (take at xs) (take n (drop at ys)) (drop (at + n) xs)))
        ∙ drop_at (take at xs ++ take n (drop at ys)) (drop (at + n) xs) (at + n)
        (omega (arith, prefix, middle, length-append (take at xs) (take n (drop at ys))))
  ]

-- Before the write a crash might have left a file of which the write, cut short, makes this image.
module _ (s : State) (at : ℕ) (bytes c : List ℕ) (begins : at ≤ length s.seen)
    (grown : length s.synced ≤ length s.seen) (image : IsImage (after (Some (at, bytes)) s) c) where
  longest : length (with_bytes s.seen at bytes) ≡ max (length s.seen) (at + length bytes)
  longest =
      let torn = torn_with s.seen at bytes begins in
      omega (
        arith,
        torn.no_shorter,
        torn.no_longer,
        length-take at s.seen,
        length-append (take at s.seen) (bytes ++ drop (at + length bytes) s.seen),
        length-append bytes (drop (at + length bytes) s.seen),
      )

  -- no longer than what a read gave
  abbrev cut : List ℕ
  cut = take (length s.seen) c

  -- the bytes of the last sync, and past them those of the image
  abbrev overlaid : List ℕ
  overlaid = s.synced ++ drop (length s.synced) cut

  length-cut : length cut ≡ min (length s.seen) (length c)
  length-cut = length-take (length s.seen) c

  length-overlaid : length overlaid ≡ length cut
  length-overlaid =
      omega (
        arith,
        length-cut,
        grown,
        image.no_shorter,
        length-append s.synced (drop (length s.synced) cut),
        length-drop (length s.synced) cut,
      )

  kept : (i : ℕ) → i < length s.synced → get_or cut i 0 ≡ get_or c i 0
  kept i lt = get_or-take (length s.seen) c i 0 (omega (arith, grown))

  pub image_follows : (d : List ℕ) × IsImage s d × Torn at (length bytes) d c
  image_follows = elim (cases_lt (length cut) at) [
    | inl past ↦
        let whole : cut ≡ c = take_all (length s.seen) c
        (omega (arith, length-cut, past, begins)) in (
          c,
          record {
            no_shorter = image.no_shorter;
            no_longer = omega (arith, length-cut, past, begins);
            stays = λ i lt free. image.stays i lt
                (inl (omega (arith, past, length-cut, lt, image.no_shorter, grown)), free);
          },
          torn_same c at (length bytes),
        )
    | inr within ↦
        let n = length bytes in
        let long = length-spliced cut overlaid at n within length-overlaid in (
          spliced cut at n overlaid,
          record {
            no_shorter = omega (arith, long, length-cut, grown, image.no_shorter);
            no_longer = omega (arith, long, length-cut);
            stays = λ i lt free.
                let here : i < length cut = omega
                (arith, lt, length-cut, grown, image.no_shorter) in
                elim (cases_lt i at) [
                  | inl low ↦ spliced_before cut overlaid at n within length-overlaid i low
                      ∙ kept i lt ∙ image.stays i lt (inl low, free)
                  | inr high ↦
                      elim (cases_lt i (at + n)) [
                        | inl in_range ↦ spliced_within cut overlaid at n within length-overlaid i
                            high in_range here ∙ get_or_append_left s.synced
                            (drop (length s.synced) cut) 0 i lt
                        | inr later ↦ spliced_after cut overlaid at n within length-overlaid i
                            later here ∙ kept i lt ∙ image.stays i lt (inr later, free)
                      ]
                ];
          },
          record {
            before = sym (spliced_prefix cut overlaid at n within length-overlaid
                ∙ take-take at (length s.seen) c begins);
            after = sym (spliced_back cut overlaid at n within length-overlaid ∙ back);
            no_shorter = omega (arith, long, length-cut);
            no_longer = omega (arith, long, length-cut, image.no_longer, longest);
          },
        )
  ]
    where
      back : drop (at + length bytes) cut ≡ drop (at + length bytes) c
      back = elim (cases_lt (length s.seen) (length c)) [
        | inl longer ↦
            drop_all (at + length bytes) cut (omega (arith, length-cut, image.no_longer, longest))
            ∙ sym (drop_all (at + length bytes) c
            (omega (arith, image.no_longer, longest, longer)))
        | inr same ↦ ap (λ (l : List ℕ). drop (at + length bytes) l)
            (take_all (length s.seen) c same)
      ]
