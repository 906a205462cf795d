-- The steps of going over one item after the other.
use Rattle.std.proofs.Common.{◌≡◌, ℕ, ◌+◌, ◌-◌, ◌<◌, ◌≤◌, List, [], ◌∷◌, ◌++◌, ap, ◌∙◌}
use Rattle.command_codec.specs.declared.reader.ReadStop.TheVariants as stop
use Rattle.command_codec_spec.specs.Reading.{Out, Parsed, Unexpected, Parser, and_then, digits}
use Rattle.command_codec_spec.specs.Reading.{items}
use Rattle.command_codec_spec.specs.Reading.{list_parser}
use Rattle.command_codec.specs.Reads.{Passes, Halts}
use Rattle.command_codec.proofs.ListSteps.{SoMany, none_yet, one_item, no_item, all_items}

-- some were passed, and so many are left
pub record PassesMany {A : Type 0} (p : Parser A) (count left : ℕ) (start rest : List ℕ) :
    Type 0 where
  pub list : List A
  pub so : SoMany p count left start rest list

module _ {A : Type 0} (p : Parser A) where
  pub none_passed : (count : ℕ) (start : List ℕ) → PassesMany p count (count - 0) start start
  none_passed count start = record { list = []; so = none_yet p count start }

  module _ (count i : ℕ) (start ts : List ℕ) (many : PassesMany p count (count - i) start ts) where
    pub one_passed : (rest : List ℕ) → i < count → Passes (p ts) rest
        → PassesMany p count (count - (i + 1)) start rest
    one_passed rest h one = record {
      list = many.list ++ one.read ∷ [];
      so =
          one_item p count i start ts many.list many.so one.read rest h one.got;
    }

    pub one_halts : {E : Type 0} (e : E) (new : List ℕ) → i < count → Halts (p ts) e new
        → Halts (items p count start) e new
    one_halts e new h f = no_item p count i start ts many.list many.so stop.Unexpected new h f

    pub all_passed : count ≤ i → Passes (items p count start) ts
    all_passed h = record {
      read = many.list;
      got =
          all_items p count i start ts many.list many.so h;
    }

-- the same with the count in prefix
module _ {A : Type 0} (p : Parser A) (k most count i : ℕ) (start us ts : List ℕ)
    (counted : digits most k 0 start ≡ Parsed count us)
    (many : PassesMany p count (count - i) us ts) where
  after_count : (o : Out (List A)) → items p count us ≡ o → list_parser k most p start ≡ o
  after_count o e = ap (λ o. and_then o (λ n. items p n)) counted ∙ e

  pub one_listed_halts : {E : Type 0} (e : E) (new : List ℕ) → i < count → Halts (p ts) e new
      → Halts (list_parser k most p start) e new
  one_listed_halts e new h f = after_count (Unexpected new)
      (one_halts p count i us ts many e new h f)

  pub all_listed : count ≤ i → Passes (list_parser k most p start) ts
  all_listed h = let all = all_passed p count i us ts many h in
      record { read = all.read; got = after_count (Parsed all.read ts) all.got }
