-- The starred situations of document 01 ("Situations") as one table, each computed on the rules.
use mathlib.Core.List.{List, [], ◌∷◌}
use Rattle.rules.proofs.Situations.{Situation, AllHold, empty, empty_holds, example, example_holds, honest_iak, honest_iak_holds, without34, without34_holds, returned_by_desk, returned_by_desk_holds, ek_elsewhere, ek_elsewhere_holds, number_twice, number_twice_holds, same_certificate, same_certificate_holds, attest_hashed, attest_hashed_holds}
use Rattle.situations.proofs.Large.{depth8, depth8_holds, depth9, depth9_holds, full_file, full_file_holds, overfull_file, overfull_file_holds}

-- in the order of the paper
abbrev pub starred : List Situation
starred =
    empty
    ∷ example
    ∷ honest_iak
    ∷ without34
    ∷ returned_by_desk
    ∷ ek_elsewhere
    ∷ number_twice
    ∷ same_certificate
    ∷ depth8
    ∷ depth9
    ∷ attest_hashed
    ∷ full_file
    ∷ overfull_file
    ∷ []

pub table : AllHold starred
table = (
  empty_holds,
  (
    example_holds,
    (
      honest_iak_holds,
      (
        without34_holds,
        (
          returned_by_desk_holds,
          (
            ek_elsewhere_holds,
            (
              number_twice_holds,
              (
                same_certificate_holds,
                (
                  depth8_holds,
                  (
                    depth9_holds,
                    (
                      attest_hashed_holds,
                      (
                        full_file_holds,
                        (
                          overfull_file_holds,
                          tt,
                        ),
                      ),
                    ),
                  ),
                ),
              ),
            ),
          ),
        ),
      ),
    ),
  ),
)
