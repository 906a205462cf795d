-- What a disk in memory means, from what it held at first and its steps.
use Rattle.std.specs.Prelude.{ℕ, ◌≤◌, true, List, [], length, take, Some}
use Rattle.disk_model.specs.Meaning.{Meaning}
use Rattle.disk_model.specs.Images.{Step, begun, run, IsImage}

-- an image of a moment from t on; moment k is the one after k steps
abbrev pub Since : List ℕ → List Step → ℕ → List ℕ → Type 0
Since first steps t c =
    (k : ℕ) × (t ≤ k) × (k ≤ length steps) × IsImage (run (begun first) (take k steps)) c

abbrev pub meaning_of : List ℕ → List Step → List ℕ → ℕ → Meaning
meaning_of first steps bytes faults = record {
  seen = Some bytes;
  may_leave = IsImage (run (begun first) steps);
  moment = length steps;
  left_since = Since first steps;
  faults = faults;
  is_honest = true;
  names = [];
}
