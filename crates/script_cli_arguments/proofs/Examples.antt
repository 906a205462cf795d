-- Some calls, computed by the definitions.
use Rattle.std.proofs.Common.{◌≡◌, [], ◌∷◌, refl, codes}
use Rattle.std.specs.Prelude.{Some, None}
use Rattle.script_cli_arguments.specs.declared.request.Mode.TheVariants.{Run, Sample}
use Rattle.script_cli_arguments.specs.Arguments.{asked, request}

run_alone : asked (codes "run" ∷ []) ≡ Some (request 1073741824 Run)
run_alone = refl

joined : asked (codes "run" ∷ codes "--journal-limit=80" ∷ []) ≡ Some (request 80 Run)
joined = refl

apart : asked (codes "--journal-limit" ∷ codes "80" ∷ codes "--" ∷ codes "run" ∷ [])
    ≡ Some (request 80 Run)
apart = refl

twenty_digits : asked (codes "run" ∷ codes "--journal-limit" ∷ codes "00000000000000000080" ∷ [])
    ≡ Some (request 80 Run)
twenty_digits = refl

dashes_last : asked (codes "run" ∷ codes "--" ∷ []) ≡ Some (request 1073741824 Run)
dashes_last = refl

no_word : asked [] ≡ None
no_word = refl

two_words : asked (codes "run" ∷ codes "run" ∷ []) ≡ None
two_words = refl

no_value : asked (codes "run" ∷ codes "--journal-limit" ∷ []) ≡ None
no_value = refl

a_sign : asked (codes "run" ∷ codes "--journal-limit" ∷ codes "-1" ∷ []) ≡ None
a_sign = refl

too_great : asked (codes "run" ∷ codes "--journal-limit" ∷ codes "18446744073709551616" ∷ [])
    ≡ None
too_great = refl

twenty_one_digits : asked (codes "run" ∷ codes "--journal-limit=000000000000000000080" ∷ []) ≡ None
twenty_one_digits = refl

twice : asked (codes "run" ∷ codes "--journal-limit" ∷ codes "1" ∷ codes "--journal-limit"
    ∷ codes "1" ∷ []) ≡ None
twice = refl

two_dashes : asked (codes "--" ∷ codes "--" ∷ codes "run" ∷ []) ≡ None
two_dashes = refl

an_option_after : asked (codes "--" ∷ codes "run" ∷ codes "--journal-limit=80" ∷ []) ≡ None
an_option_after = refl

an_empty_value : asked (codes "run" ∷ codes "--journal-limit=" ∷ []) ≡ None
an_empty_value = refl

dashes_for_a_value : asked (codes "--journal-limit" ∷ codes "--" ∷ codes "run" ∷ []) ≡ None
dashes_for_a_value = refl

a_sample : asked (codes "sample" ∷ []) ≡ Some (request 1073741824 (Sample 500))
a_sample = refl

a_sample_of_a_size : asked (codes "--size=8" ∷ codes "sample" ∷ codes "--journal-limit" ∷ codes "90"
    ∷ []) ≡ Some (request 90 (Sample 8))
a_sample_of_a_size = refl

the_greatest_size : asked (codes "sample" ∷ codes "--size" ∷ codes "2000" ∷ [])
    ≡ Some (request 1073741824 (Sample 2000))
the_greatest_size = refl

a_size_of_a_run : asked (codes "run" ∷ codes "--size=8" ∷ []) ≡ Some (request 1073741824 Run)
a_size_of_a_run = refl

too_great_a_size : asked (codes "run" ∷ codes "--size=2001" ∷ []) ≡ None
too_great_a_size = refl

no_size : asked (codes "sample" ∷ codes "--size=0" ∷ []) ≡ None
no_size = refl

a_size_twice : asked (codes "sample" ∷ codes "--size=8" ∷ codes "--size=8" ∷ []) ≡ None
a_size_twice = refl

an_option_for_a_value : asked (codes "sample" ∷ codes "--size" ∷ codes "--journal-limit" ∷ codes "8"
    ∷ []) ≡ None
an_option_for_a_value = refl

run_and_sample : asked (codes "run" ∷ codes "sample" ∷ []) ≡ None
run_and_sample = refl

another_word : asked (codes "samples" ∷ []) ≡ None
another_word = refl
