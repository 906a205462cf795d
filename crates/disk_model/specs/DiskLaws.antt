-- What is so of each disk at each moment: of a borrowed one, of one with a count of its own, and of
-- one that keeps nothing.
use Rattle.std.proofs.Common.{ℕ, refl, false}
use Rattle.std.proofs.lemmas.Bool.{both_ways}
use Rattle.disk_model.specs.Meaning.{Meaning, IsValid, borrowed_as, with_faults}
use Rattle.disk_model.specs.Disks.{sure_meaning}

pub valid_with : (d : Meaning) (faults : ℕ) → IsValid d → IsValid (with_faults d faults)
valid_with d faults law = record {
  now = law.now;
  only_now = law.only_now;
  earlier = law.earlier;
  stays = law.stays;
}

pub valid_sure : IsValid sure_meaning
valid_sure = record {
  now = λ c left. left;
  only_now = λ c left. left;
  earlier = λ t c le left. left;
  stays = λ file honest is. both_ways false refl honest;
}

pub valid_borrowed : (name : ℕ) (d : Meaning) → IsValid d → IsValid (borrowed_as name d)
valid_borrowed name d law = record {
  now = law.now;
  only_now = law.only_now;
  earlier = law.earlier;
  stays = law.stays;
}
