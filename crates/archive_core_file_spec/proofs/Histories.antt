-- The first command after the last image that is not accepted after what stands before it.
use Rattle.std.proofs.Common.{◌≡◌, ◌⊎◌, inl, inr, ⊎_elim, List, [], ◌∷◌, ◌++◌, refl, sym, subst, ap}
use Rattle.std.proofs.Common.{◌∙◌, Some, None, true, false}
use Rattle.std.specs.Prelude.{Option, Bool, ◌||◌}
use Rattle.prima_base.specs.declared.refusal.Refusal.{Refusal}
use Rattle.smo_ops_types.specs.Commands.{PlainCommand}
use Rattle.smo_ops_spec.specs.Accepts.{command_fault}
use Rattle.smo_ops_spec.specs.Past.{Past, past_with}
use Rattle.store_image_spec.specs.ShownPast.{image_past}
use Rattle.archive_core_file_spec.specs.LogRecords.{LogRecord, logged, checkpointed, has_image}
use Rattle.archive_core_file_spec.specs.LogRecords.{after_record}
use Rattle.archive_core_file_spec.specs.LogRecords.{after_records, AreAccepted}

-- those before it are accepted, and it is not
pub record Stops (past : Past) (records : List LogRecord) : Type 0 where
  pub before : List LogRecord
  pub command : PlainCommand
  pub after : List LogRecord
  pub are : records ≡ before ++ logged command ∷ after
  pub accepted : AreAccepted past before
  pub no_image : has_image after ≡ false
  pub refusal : Refusal
  pub refused : command_fault (after_records past before) command ≡ Some refusal

pub images_append : (a b : List LogRecord) → has_image (a ++ b) ≡ (has_image a || has_image b)
images_append [] b = refl
images_append (logged c ∷ a) b = images_append a b
images_append (checkpointed i ∷ a) b = refl

pub none_in_prefix : (a b : Bool) → (a || b) ≡ false → a ≡ false
none_in_prefix false b e = refl
none_in_prefix true b e = absurd (cc)

-- where after the command no image stands, one that stands among all stands before it
some_before : (a : List LogRecord) (c : PlainCommand) (xs : List LogRecord) → has_image xs ≡ false
    → has_image (a ++ logged c ∷ xs) ≡ true → has_image a ≡ false → ⊥
some_before a c xs none some prefix =
    let e : (has_image a || has_image xs) ≡ true = sym (images_append a (logged c ∷ xs)) ∙ some in
    let f : (has_image a || has_image xs) ≡ false = (λ i. prefix i || none i) in cc

pub checked : (past : Past) (records : List LogRecord) → AreAccepted past records
    ⊎ Stops past records
checked past [] = inl tt
checked past (checkpointed i ∷ records) = ⊎_elim (λ all. inl all) (λ stops. inr (further stops))
    (checked (image_past past.commands i) records)
  where
    further : Stops (image_past past.commands i) records → Stops past (checkpointed i ∷ records)
    further stops = record {
      before = checkpointed i ∷ stops.before;
      command = stops.command;
      after = stops.after;
      are = ap (λ (l : List LogRecord). checkpointed i ∷ l) stops.are;
      accepted = stops.accepted;
      no_image = stops.no_image;
      refusal = stops.refusal;
      refused = stops.refused;
    }
checked past (logged c ∷ records) = by_image (checked (past_with past c) records)
    (has_image records)
    refl
  where
    further : (stops : Stops (past_with past c) records)
        → (has_image stops.before ≡ false → command_fault past c ≡ None)
        → Stops past (logged c ∷ records)
    further stops e = record {
      before = logged c ∷ stops.before;
      command = stops.command;
      after = stops.after;
      are = ap (λ (l : List LogRecord). logged c ∷ l) stops.are;
      accepted = (e, stops.accepted);
      no_image = stops.no_image;
      refusal = stops.refusal;
      refused = stops.refused;
    }

    by_fault : AreAccepted (past_with past c) records ⊎ Stops (past_with past c) records
        → has_image records ≡ false → (fault : Option Refusal) → command_fault past c ≡ fault
        → AreAccepted past (logged c ∷ records) ⊎ Stops past (logged c ∷ records)
    by_fault suffix none None e = ⊎_elim (λ all. inl ((λ n. e), all))
        (λ stops. inr (further stops (λ n. e))) suffix
    by_fault suffix none (Some refusal) e = inr (record {
      before = [];
      command = c;
      after = records;
      are = refl;
      accepted = tt;
      no_image = none;
      refusal = refusal;
      refused = e;
    })

    by_image : AreAccepted (past_with past c) records ⊎ Stops (past_with past c) records
        → (b : Bool) → has_image records ≡ b
        → AreAccepted past (logged c ∷ records) ⊎ Stops past (logged c ∷ records)
    by_image suffix false none = by_fault suffix none (command_fault past c) refl
    by_image suffix true some = ⊎_elim
        (λ all. inl ((λ none. absurd (let e : true ≡ false = sym some ∙ none in cc)), all))
        (λ stops. inr (further stops (λ none.
        absurd (some_before stops.before stops.command stops.after stops.no_image
        (sym (ap has_image stops.are) ∙ some) none))))
        suffix

not_both : (past : Past) (c d : PlainCommand) (r : Refusal) → c ≡ d → command_fault past c ≡ Some r
    → command_fault past d ≡ None → ⊥
not_both past c d r same e f = let h : command_fault past c ≡ command_fault past d =
    ap (command_fault past) same in cc

head_is : (c d : LogRecord) (xs ys : List LogRecord) → c ∷ xs ≡ d ∷ ys → c ≡ d
head_is c d xs ys e = cc

tail_is : (c d : LogRecord) (xs ys : List LogRecord) → c ∷ xs ≡ d ∷ ys → xs ≡ ys
tail_is c d xs ys e = cc

command_is : (c d : PlainCommand) → logged c ≡ logged d → c ≡ d
command_is c d e = cc

rest_accepted : (past : Past) (x : LogRecord) (a : List LogRecord) → AreAccepted past (x ∷ a)
    → AreAccepted (after_record past x) a
rest_accepted past (logged c) a all = all.1
rest_accepted past (checkpointed i) a all = all

-- a command that is refused is none of those that are accepted
refused_apart : (past : Past) (c : PlainCommand) (xs : List LogRecord) (y : LogRecord)
    (b ys : List LogRecord) (d : PlainCommand) (r : Refusal) → has_image xs ≡ false
    → command_fault past c ≡ Some r
    → AreAccepted past (y ∷ b) → logged c ∷ xs ≡ y ∷ b ++ logged d ∷ ys → ⊥
refused_apart past c xs (logged y) b ys d r none refused all e =
    let same : c ≡ y = command_is c y (head_is (logged c) (logged y) xs (b ++ logged d ∷ ys) e) in
    let tail : xs ≡ b ++ logged d ∷ ys = tail_is (logged c) (logged y) xs (b ++ logged d ∷ ys) e in
    let no : has_image b ≡ false = none_in_prefix (has_image b) (has_image ys)
    (sym (images_append b (logged d ∷ ys)) ∙ sym (ap has_image tail) ∙ none) in
    not_both past c y r same refused (all.0 no)
refused_apart past c xs (checkpointed i) b ys d r none refused all e =
    let h : logged c ≡ checkpointed i = head_is (logged c) (checkpointed i) xs (b ++ logged d ∷ ys)
    e in cc

-- it is one, and so are those before it
pub stops_once : (past : Past) (a b : List LogRecord) (c d : PlainCommand) (xs ys : List LogRecord)
    (r s : Refusal) → AreAccepted past a → AreAccepted past b
    → has_image xs ≡ false → has_image ys ≡ false → command_fault (after_records past a) c ≡ Some r
    → command_fault (after_records past b) d ≡ Some s
    → a ++ logged c ∷ xs ≡ b ++ logged d ∷ ys → a ≡ b
stops_once past [] [] c d xs ys r s all_a all_b none_c none_d refused_c refused_d e = refl
stops_once past [] (y ∷ b) c d xs ys r s all_a all_b none_c none_d refused_c refused_d e =
    absurd (refused_apart past c xs y b ys d r none_c refused_c all_b e)
stops_once past (x ∷ a) [] c d xs ys r s all_a all_b none_c none_d refused_c refused_d e =
    absurd (refused_apart past d ys x a xs c s none_d refused_d all_a (sym e))
stops_once past (x ∷ a) (y ∷ b) c d xs ys r s all_a all_b none_c none_d refused_c refused_d e =
    let first : x ≡ y = head_is x y (a ++ logged c ∷ xs) (b ++ logged d ∷ ys) e in
    let others : a ≡ b =
    stops_once (after_record past x) a b c d xs ys r s (rest_accepted past x a all_a)
    (subst (λ z. AreAccepted (after_record past z) b) (sym first)
    (rest_accepted past y b all_b)) none_c none_d refused_c
    (subst (λ z. command_fault (after_records (after_record past z) b) d ≡ Some s) (sym first)
    refused_d) (tail_is x y (a ++ logged c ∷ xs) (b ++ logged d ∷ ys) e) in
    λ i. first i ∷ others i

-- where all are accepted, each command after the last image is
pub accepted_at : (past : Past) (b : List LogRecord) (d : PlainCommand) (ys : List LogRecord)
    → AreAccepted past (b ++ logged d ∷ ys) → has_image ys ≡ false
    → command_fault (after_records past b) d ≡ None
accepted_at past [] d ys all none = all.0 none
accepted_at past (x ∷ b) d ys all none = accepted_at (after_record past x) b d ys
    (rest_accepted past x (b ++ logged d ∷ ys) all) none

-- and there is none such
pub never_stops : (past : Past) (a b : List LogRecord) (d : PlainCommand) (ys : List LogRecord)
    (s : Refusal) → AreAccepted past a → has_image ys ≡ false
    → command_fault (after_records past b) d ≡ Some s → a ≡ b ++ logged d ∷ ys → ⊥
never_stops past a b d ys s all none refused e =
    let h : command_fault (after_records past b) d ≡ None =
    accepted_at past b d ys (subst (AreAccepted past) e all) none in cc
